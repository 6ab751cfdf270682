-- Parts of a memory in which a part was written.
use Rattle.std.proofs.Common.{◌≡◌, ◌⊎◌, inl, inr, ℕ, ◌+◌, ◌<◌, ◌≤◌, List, length, get_or, arith, sym, ◌∙◌}
use Rattle.std.proofs.lemmas.List.{places, ext_get_or, length-append, length-take, length-drop}
use Rattle.o2_phys.specs.Bytes.{part, with_part}

pub length-with_part : (xs ys : List ℕ) (at : ℕ) → at + length ys ≤ length xs → length (with_part xs at ys) ≡ length xs
length-with_part xs ys at h = simp (length-append, length-take, length-drop) (omega arith)

pub length-part : (xs : List ℕ) (at len : ℕ) → at + len ≤ length xs → length (part xs at len) ≡ len
length-part xs at len h = simp (length-take, length-drop) (omega arith)

pub get-part : (xs : List ℕ) (at len j : ℕ) → j < len → get_or (part xs at len) j 0 ≡ get_or xs (at + j) 0
get-part xs at len j h = grind (arith, places)

pub get-with_part : (xs ys : List ℕ) (at j : ℕ) → at + length ys ≤ length xs → j < length ys → get_or (with_part xs at ys) (at + j) 0 ≡ get_or ys j 0
get-with_part xs ys at j h l = grind (arith, places)

pub get-with_part-before : (xs ys : List ℕ) (at j : ℕ) → at + length ys ≤ length xs → j < at → get_or (with_part xs at ys) j 0 ≡ get_or xs j 0
get-with_part-before xs ys at j h l = grind (arith, places)

pub get-with_part-after : (xs ys : List ℕ) (at j : ℕ) → at + length ys ≤ length xs → at + length ys ≤ j → get_or (with_part xs at ys) j 0 ≡ get_or xs j 0
get-with_part-after xs ys at j h l = grind (arith, places)

pub part-same : (xs ys : List ℕ) (at len : ℕ) → length ys ≡ len → at + len ≤ length xs → part (with_part xs at ys) at len ≡ ys
part-same xs ys at len e h =
    let lw : length (with_part xs at ys) ≡ length xs = length-with_part xs ys at (omega arith) in
    let lp : length (part (with_part xs at ys) at len) ≡ len = length-part (with_part xs at ys) at len (omega arith) in
    ext_get_or 0 (part (with_part xs at ys) at len) ys (lp ∙ sym e) (λ j l. get-part (with_part xs at ys) at len j (omega arith) ∙ get-with_part xs ys at j (omega arith) (omega arith))

pub part-other : (xs ys : List ℕ) (at b m : ℕ) → at + length ys ≤ length xs → b + m ≤ length xs → (b + m ≤ at) ⊎ (at + length ys ≤ b) → part (with_part xs at ys) b m ≡ part xs b m
part-other xs ys at b m h w d =
    let lw : length (with_part xs at ys) ≡ length xs = length-with_part xs ys at h in
    let lp : length (part (with_part xs at ys) b m) ≡ m = length-part (with_part xs at ys) b m (omega arith) in
    let lq : length (part xs b m) ≡ m = length-part xs b m w in
    ext_get_or 0 (part (with_part xs at ys) b m) (part xs b m) (lp ∙ sym lq) (λ j l. get-part (with_part xs at ys) b m j (omega arith) ∙ elim d [
      | inl before ↦ get-with_part-before xs ys at (b + j) h (omega arith)
      | inr after ↦ get-with_part-after xs ys at (b + j) h (omega arith)
    ] ∙ sym (get-part xs b m j (omega arith)))
