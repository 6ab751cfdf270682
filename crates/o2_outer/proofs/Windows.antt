-- A block is put over another one of a window, or behind the last one.
use Rattle.std.proofs.Common.{◌≡◌, ◌≢◌, ◌⊎◌, inl, inr, ℕ, ◌+◌, ◌-◌, ◌*◌, ◌<◌, ◌≤◌, List, length, take, drop, get_or, arith, sym, ap, subst, ◌∙◌}
use Rattle.std.proofs.lemmas.List.{places, ext_get_or, length-append, length-take, length-drop}
use Rattle.std.proofs.lemmas.Bool.{cases_lt}
use Rattle.o2_outer.specs.declared.window.Window.{Window}
use Rattle.o2_outer.specs.Windows.{with_bytes, Has, KeepOthers}
use Rattle.o2_outer.specs.Ahead.{IsAsBefore, has_block}

length-with : (xs ys : List ℕ) (at : ℕ) → at + length ys ≤ length xs → length (with_bytes xs at ys) ≡ length xs
length-with xs ys at h = simp (length-append, length-take, length-drop) (omega arith)

length-block : (xs : List ℕ) (at : ℕ) → at + 512 ≤ length xs → length (take 512 (drop at xs)) ≡ 512
length-block xs at h = simp (length-take, length-drop) (omega arith)

get-part : (xs : List ℕ) (at len j : ℕ) → j < len → get_or (take len (drop at xs)) j 0 ≡ get_or xs (at + j) 0
get-part xs at len j h = grind (arith, places)

get-block : (xs : List ℕ) (at j : ℕ) → j < 512 → get_or (take 512 (drop at xs)) j 0 ≡ get_or xs (at + j) 0
get-block xs at j h = get-part xs at 512 j h

get-with : (xs ys : List ℕ) (at j : ℕ) → at + length ys ≤ length xs → j < length ys → get_or (with_bytes xs at ys) (at + j) 0 ≡ get_or ys j 0
get-with xs ys at j h l = grind (arith, places)

get-before : (xs ys : List ℕ) (at j : ℕ) → at + length ys ≤ length xs → j < at → get_or (with_bytes xs at ys) j 0 ≡ get_or xs j 0
get-before xs ys at j h l = grind (arith, places)

get-after : (xs ys : List ℕ) (at j : ℕ) → at + length ys ≤ length xs → at + length ys ≤ j → get_or (with_bytes xs at ys) j 0 ≡ get_or xs j 0
get-after xs ys at j h l = grind (arith, places)

block_put : (xs ys : List ℕ) (at : ℕ) → length ys ≡ 512 → at + 512 ≤ length xs → ys ≡ take 512 (drop at (with_bytes xs at ys))
block_put xs ys at e h =
    let lw : length (with_bytes xs at ys) ≡ length xs = length-with xs ys at (omega arith) in
    let lb : length (take 512 (drop at (with_bytes xs at ys))) ≡ 512 = length-block (with_bytes xs at ys) at (omega arith) in
    sym (ext_get_or 0 (take 512 (drop at (with_bytes xs at ys))) ys (lb ∙ sym e) (λ j l. get-block (with_bytes xs at ys) at j (omega arith) ∙ get-with xs ys at j (omega arith) (omega arith)))

block_other : (xs ys : List ℕ) (at b : ℕ) → length ys ≡ 512 → at + 512 ≤ length xs → b + 512 ≤ length xs → (b + 512 ≤ at) ⊎ (at + 512 ≤ b)
    → take 512 (drop b (with_bytes xs at ys)) ≡ take 512 (drop b xs)
block_other xs ys at b e h w d =
    let lw : length (with_bytes xs at ys) ≡ length xs = length-with xs ys at (omega arith) in
    let lp : length (take 512 (drop b (with_bytes xs at ys))) ≡ 512 = length-block (with_bytes xs at ys) b (omega arith) in
    let lq : length (take 512 (drop b xs)) ≡ 512 = length-block xs b w in
    ext_get_or 0 (take 512 (drop b (with_bytes xs at ys))) (take 512 (drop b xs)) (lp ∙ sym lq) (λ j l. get-block (with_bytes xs at ys) b j (omega arith) ∙ elim d [
      | inl before ↦ get-before xs ys at (b + j) (omega arith) (omega arith)
      | inr after ↦ get-after xs ys at (b + j) (omega arith) (omega arith)
    ] ∙ sym (get-block xs b j (omega arith)))

-- two blocks are apart
apart : (p q : ℕ) → p ≢ q → (512 * p + 512 ≤ 512 * q) ⊎ (512 * q + 512 ≤ 512 * p)
apart p q n = elim (cases_lt p q) [ inl l ↦ inl (omega arith) | inr l ↦ inr (omega (arith, n)) ]

other_place : (first b i : ℕ) → first ≤ b → first ≤ i → b ≢ i → b - first ≢ i - first
other_place first b i l m n e = n (omega (arith, e))

-- the i-th block is put at its place, and there are `now` blocks of which all but that one were there
pub put_there : (xs ys : List ℕ) (first now i at : ℕ) → at ≡ 512 * (i - first) → first ≤ i → i - first < now → 512 * now ≤ length xs → length ys ≡ 512
    → Has (with_bytes xs at ys) first now i ys
put_there xs ys first now i at e l m h size = record {
  behind = l;
  within = m;
  same = subst (λ (p : ℕ). ys ≡ take 512 (drop p (with_bytes xs at ys))) e (block_put xs ys at size (omega arith));
}

pub put_apart : (xs ys : List ℕ) (first len now i at : ℕ) → at ≡ 512 * (i - first) → first ≤ i → i - first < now → 512 * now ≤ length xs → length ys ≡ 512
    → ((k : ℕ) → k ≢ i - first → k < len → k < now) → ((k : ℕ) → k ≢ i - first → k < now → k < len)
    → KeepOthers xs len (with_bytes xs at ys) now first i
put_apart xs ys first len now i at e l m h size more less =
    let still : (b : ℕ) → b ≢ i → first ≤ b → b - first < now → take 512 (drop (512 * (b - first)) (with_bytes xs at ys)) ≡ take 512 (drop (512 * (b - first)) xs) =
    λ b n f w. subst (λ (p : ℕ). take 512 (drop (512 * (b - first)) (with_bytes xs p ys)) ≡ take 512 (drop (512 * (b - first)) xs)) (sym e)
    (block_other xs ys (512 * (i - first)) (512 * (b - first)) size (omega arith) (omega arith) (apart (b - first) (i - first) (other_place first b i f l n))) in
    record {
      each = λ b block n q. record {
        behind = q.behind;
        within = more (b - first) (other_place first b i q.behind l n) q.within;
        same = q.same ∙ sym (still b n q.behind (more (b - first) (other_place first b i q.behind l n) q.within));
      };
      back = λ b block n q. record {
        behind = q.behind;
        within = less (b - first) (other_place first b i q.behind l n) q.within;
        same = q.same ∙ still b n q.behind q.within;
      };
    }

-- over one that was there
pub over_apart : (xs ys : List ℕ) (first len i at : ℕ) → at ≡ 512 * (i - first) → first ≤ i → i - first < len → 512 * len ≤ length xs → length ys ≡ 512
    → KeepOthers xs len (with_bytes xs at ys) len first i
over_apart xs ys first len i at e l m h size = put_apart xs ys first len len i at e l m h size (λ k n w. w) (λ k n w. w)

-- behind the last one
pub next_there : (xs ys ns : List ℕ) (first len i at f l : ℕ) → ns ≡ with_bytes xs at ys → f ≡ first → l ≡ len → at ≡ 512 * len → first ≤ i → i - first ≡ len
    → 512 * (len + 1) ≤ length xs → length ys ≡ 512 → Has ns f (l + 1) i ys
next_there xs ys ns first len i at f l n sf sl p m e h size =
    rw (n, sf, sl) (put_there xs ys first (len + 1) i at (p ∙ ap (λ (k : ℕ). 512 * k) (sym e)) m (omega (arith, e)) h size)

pub next_apart : (xs ys ns : List ℕ) (first len i at l : ℕ) → ns ≡ with_bytes xs at ys → l ≡ len → at ≡ 512 * len → first ≤ i → i - first ≡ len
    → 512 * (len + 1) ≤ length xs → length ys ≡ 512 → KeepOthers xs len ns (l + 1) first i
next_apart xs ys ns first len i at l n sl p m e h size =
    rw (n, sl) (put_apart xs ys first len (len + 1) i at (p ∙ ap (λ (k : ℕ). 512 * k) (sym e)) m (omega (arith, e)) h size (λ k d w. omega (arith, w)) (λ k d w. omega (arith, w, d, e)))

-- alone
pub first_there : (xs ys : List ℕ) (i : ℕ) → 512 ≤ length xs → length ys ≡ 512 → Has (with_bytes xs 0 ys) i 1 i ys
first_there xs ys i h size = put_there xs ys i 1 i 0 (omega arith) (omega arith) (omega arith) (omega arith) size

-- what is copied of a block
pub got : (bytes : List ℕ) (first len i at : ℕ) (block : List ℕ) → at ≡ 512 * (i - first) → first ≤ i → i - first < len → block ≡ take 512 (drop at bytes) → Has bytes first len i block
got bytes first len i at block e l m is = record {
  behind = l;
  within = m;
  same = is ∙ ap (λ (p : ℕ). take 512 (drop p bytes)) e;
}

-- a block has only one content
pub has_one : (bytes : List ℕ) (first len i : ℕ) (x y : List ℕ) → Has bytes first len i x → Has bytes first len i y → x ≡ y
has_one bytes first len i x y p q = p.same ∙ sym q.same

-- where a window has the same blocks
pub has_as : (old new : Window) (i : ℕ) (x : List ℕ) → IsAsBefore old new → has_block old i x → has_block new i x
has_as old new i x s p = record {
  behind = subst (λ (f : ℕ). f ≤ i) (sym s.first) p.behind;
  within = subst (λ (l : ℕ). i - new.first < l) (sym s.len) (subst (λ (f : ℕ). i - f < old.len) (sym s.first) p.within);
  same = p.same ∙ ap (λ (f : ℕ). take 512 (drop (512 * (i - f)) old.bytes)) (sym s.first) ∙ ap (λ (b : List ℕ). take 512 (drop (512 * (i - new.first)) b)) (sym s.bytes);
}

pub held_as : (old new : Window) (i : ℕ) (x y : List ℕ) → IsAsBefore old new → has_block old i x → has_block new i y → y ≡ x
held_as old new i x y s p q = has_one new.bytes new.first new.len i y x q (has_as old new i x s p)
