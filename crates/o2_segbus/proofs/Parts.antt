-- Bytes of a part of the memory, read and written.
use Rattle.std.proofs.Common.{◌≡◌, ◌⊎◌, inl, inr, refl, sym, ap, ◌∙◌, ℕ, zero, suc, ◌+◌, ◌-◌, ◌*◌, ◌<◌, ◌≤◌, ◌%◌, ◌/◌, List, [], ◌∷◌, ◌++◌, length, set, get_or, take, drop, arith}
use Rattle.std.proofs.Math.Seq.{take-set-lt}
use Rattle.std.proofs.lemmas.List.{take-set-le, drop-set-lt, drop-set-add}
use Rattle.std.proofs.Math.Seq.{take-length}
use Rattle.o2_phys.specs.Bytes.{part, with_part}
use Rattle.o2_phys.proofs.Parts.{get-part}
use Rattle.o2_isa.specs.declared.instr.Width.{Width}
use Rattle.o2_isa.specs.declared.instr.Width.TheVariants.{Byte, Word}
use Rattle.o2_isa.specs.View.{width_len, value_at, put_at}
use Rattle.o2_isa.proofs.Pokes.{length_put_at}

-- the bytes of a value
abbrev bytes_of : Width → ℕ → List ℕ
bytes_of Byte x = x ∷ []
bytes_of Word x = x % 256 ∷ x / 256 ∷ []

fresh : (w : Width) (bs : List ℕ) (x : ℕ) → length bs ≡ width_len w → put_at bs 0 w x ≡ bytes_of w x
fresh Byte [] x e = absurd (omega arith)
fresh Byte (a ∷ []) x e = refl
fresh Byte (a ∷ b ∷ bs) x e = absurd (omega arith)
fresh Word [] x e = absurd (omega arith)
fresh Word (a ∷ []) x e = absurd (omega arith)
fresh Word (a ∷ b ∷ []) x e = refl
fresh Word (a ∷ b ∷ c ∷ bs) x e = absurd (omega arith)

one : (m : List ℕ) (at x : ℕ) → at + 1 ≤ length m → take at m ++ x ∷ drop (at + 1) m ≡ set m at x
one [] at x l = absurd (omega arith)
one (a ∷ m) zero x l = refl
one (a ∷ m) (suc at) x l =
    let e : suc at + 1 ≡ suc (at + 1) = omega arith in
    ap (λ (k : ℕ). a ∷ (take at m ++ x ∷ drop k (a ∷ m))) e ∙ ap (λ (z : List ℕ). a ∷ z) (one m at x (omega arith))

two : (m : List ℕ) (at x y : ℕ) → at + 2 ≤ length m → take at m ++ x ∷ y ∷ drop (at + 2) m ≡ set (set m at x) (at + 1) y
two [] at x y l = absurd (omega arith)
two (a ∷ []) zero x y l = absurd (omega arith)
two (a ∷ b ∷ m) zero x y l = refl
two (a ∷ m) (suc at) x y l =
    let e : suc at + 2 ≡ suc (at + 2) = omega arith in
    let f : suc at + 1 ≡ suc (at + 1) = omega arith in
    ap (λ (k : ℕ). a ∷ (take at m ++ x ∷ y ∷ drop k (a ∷ m))) e
    ∙ (ap (λ (z : List ℕ). a ∷ z) (two m at x y (omega arith)) ∙ ap (λ (k : ℕ). set (a ∷ set m at x) k y) (sym f))

joined : (xs ys zs : List ℕ) → (xs ++ ys) ++ zs ≡ xs ++ (ys ++ zs)
joined [] ys zs = refl
joined (a ∷ xs) ys zs = ap (λ (z : List ℕ). a ∷ z) (joined xs ys zs)

spliced : (w : Width) (m : List ℕ) (at x : ℕ) → at + width_len w ≤ length m → with_part m at (bytes_of w x) ≡ put_at m at w x
spliced Byte m at x l = joined (take at m) (x ∷ []) (drop (at + 1) m) ∙ one m at x l
spliced Word m at x l = joined (take at m) (x % 256 ∷ x / 256 ∷ []) (drop (at + 2) m) ∙ two m at (x % 256) (x / 256) l

-- what is written through a lent part is a value put into the memory
pub written : (w : Width) (m bs new : List ℕ) (at x : ℕ) → at + width_len w ≤ length m → length bs ≡ width_len w → new ≡ put_at bs 0 w x → take (length m) (with_part m at new) ≡ put_at m at w x
written w m bs new at x l e n =
    let p : with_part m at new ≡ put_at m at w x = ap (with_part m at) (n ∙ fresh w bs x e) ∙ spliced w m at x l in
    ap (take (length m)) p ∙ (ap (λ (k : ℕ). take k (put_at m at w x)) (sym (length_put_at m at w x)) ∙ take-length (put_at m at w x))

-- a value in a part of the memory
pub value_part : (w : Width) (m : List ℕ) (at n k : ℕ) → k + width_len w ≤ n → value_at m (at + k) w ≡ value_at (part m at n) k w
value_part Byte m at n k l = sym (get-part m at n k (omega arith))
value_part Word m at n k l =
    let e : at + k + 1 ≡ at + (k + 1) = omega arith in
    ap (λ (j : ℕ). get_or m (at + k) 0 + 256 * get_or m j 0) e
    ∙ (ap (λ (a : ℕ). a + 256 * get_or m (at + (k + 1)) 0) (sym (get-part m at n k (omega arith)))
    ∙ ap (λ (b : ℕ). get_or (part m at n) k 0 + 256 * b) (sym (get-part m at n (k + 1) (omega arith))))

set_part : (m : List ℕ) (at n k x : ℕ) → k < n → part (set m (at + k) x) at n ≡ set (part m at n) k x
set_part m at n k x l = ap (take n) (drop-set-add at m k x) ∙ take-set-lt n (drop at m) k x l

-- a value put into a part of the memory
pub put_part : (w : Width) (m : List ℕ) (at n k x : ℕ) → k + width_len w ≤ n → part (put_at m (at + k) w x) at n ≡ put_at (part m at n) k w x
put_part Byte m at n k x l = set_part m at n k x (omega arith)
put_part Word m at n k x l =
    let e : at + k + 1 ≡ at + (k + 1) = omega arith in
    ap (λ (j : ℕ). part (set (set m (at + k) (x % 256)) j (x / 256)) at n) e
    ∙ (set_part (set m (at + k) (x % 256)) at n (k + 1) (x / 256) (omega arith)
    ∙ ap (λ (z : List ℕ). set z (k + 1) (x / 256)) (set_part m at n k (x % 256) (omega arith)))

set_other : (m : List ℕ) (at b n x : ℕ) → (at + 1 ≤ b) ⊎ (b + n ≤ at) → part (set m at x) b n ≡ part m b n
set_other m at b n x (inl before) = ap (take n) (drop-set-lt b m at x (omega arith))
set_other m at b n x (inr after) =
    let e : b + (at - b) ≡ at = omega arith in
    ap (λ (i : ℕ). part (set m i x) b n) (sym e) ∙ (ap (take n) (drop-set-add b m (at - b) x) ∙ take-set-le n (drop b m) (at - b) x (omega arith))

-- a value put elsewhere
pub put_other : (w : Width) (m : List ℕ) (at b n x : ℕ) → (at + width_len w ≤ b) ⊎ (b + n ≤ at) → part (put_at m at w x) b n ≡ part m b n
put_other Byte m at b n x d = set_other m at b n x d
put_other Word m at b n x (inl before) = set_other (set m at (x % 256)) (at + 1) b n (x / 256) (inl (omega arith)) ∙ set_other m at b n (x % 256) (inl (omega arith))
put_other Word m at b n x (inr after) = set_other (set m at (x % 256)) (at + 1) b n (x / 256) (inr (omega arith)) ∙ set_other m at b n (x % 256) (inr after)
