-- Texts with folded letters, byte by byte.
use Rattle.std.proofs.Common.{◌≡◌, ℕ, suc, ◌+◌, ◌<◌, ◌≤◌, ◌==◌, ◌&&◌, Bool, true, false, List, [], ◌∷◌, length, take, drop, get_or, refl, sym, ap, ◌∙◌, arith}
use Rattle.std.proofs.lemmas.Bool.{and_right, ne_eqb, eq-eqb}
use Rattle.std.proofs.lemmas.List.{drop_more, get_or-map, get_or-take, length-drop, length-map, length-take-le}
use Rattle.std.specs.Char.{to_ascii_lowercase}
use Rattle.o2_world.specs.Known.{same_text}
use Rattle.o2_world.specs.SharedNames.{folded}

-- A text is folded into a row of bytes.

-- Two texts are compared.

pub apart : (xs ys : List ℕ) → (length xs ≡ length ys → ⊥) → same_text xs ys ≡ false
apart [] [] other = absurd (other refl)
apart [] (y ∷ ys) other = refl
apart (x ∷ xs) [] other = refl
apart (x ∷ xs) (y ∷ ys) other = and_right (x == y) (same_text xs ys) (apart xs ys (λ e. other (ap suc e)))

-- from a byte on
pub from_byte : (xs ys : List ℕ) (k : ℕ) → k < length xs → k < length ys → same_text (drop k xs) (drop k ys) ≡ ((get_or xs k 0 == get_or ys k 0) && same_text (drop (k + 1) xs) (drop (k + 1) ys))
from_byte xs ys k a b = ap (λ (s : List ℕ). same_text s (drop k ys)) (drop_more xs k 0 a) ∙ ap (same_text (get_or xs k 0 ∷ drop (k + 1) xs)) (drop_more ys k 0 b)

-- A text of some length in a row of bytes, against another one.
module _ (bytes text self : List ℕ) (len : ℕ) (view : take len bytes ≡ self) (room : len ≤ length bytes) (even : len ≡ length text) where
  long : length self ≡ len
  long = sym (ap length view) ∙ length-take-le len bytes room

  at : (k : ℕ) → k < len → get_or self k 0 ≡ get_or bytes k 0
  at k l = sym (ap (λ (xs : List ℕ). get_or xs k 0) view) ∙ get_or-take len bytes k 0 l

  step : (k : ℕ) → k < len → same_text (drop k self) (drop k (folded text)) ≡ ((get_or bytes k 0 == to_ascii_lowercase (get_or text k 0)) && same_text (drop (k + 1) self) (drop (k + 1) (folded text)))
  step k l =
      from_byte self (folded text) k (omega (arith, long)) (omega (arith, length-map text to_ascii_lowercase))
      ∙ ap (λ (x : ℕ). (x == get_or (folded text) k 0) && same_text (drop (k + 1) self) (drop (k + 1) (folded text))) (at k l)
      ∙ ap (λ (x : ℕ). (get_or bytes k 0 == x) && same_text (drop (k + 1) self) (drop (k + 1) (folded text))) (get_or-map to_ascii_lowercase text k 0 0 (omega (arith, even)))

  pub same_more : (k : ℕ) → k < len → get_or bytes k 0 ≡ to_ascii_lowercase (get_or text k 0) → same_text self (folded text) ≡ same_text (drop k self) (drop k (folded text))
      → same_text self (folded text) ≡ same_text (drop (k + 1) self) (drop (k + 1) (folded text))
  same_more k l e so_far = so_far ∙ step k l ∙ ap (λ (b : Bool). b && same_text (drop (k + 1) self) (drop (k + 1) (folded text))) (eq-eqb _ _ e)

  pub same_not : (k : ℕ) → k < len → (get_or bytes k 0 ≡ to_ascii_lowercase (get_or text k 0) → ⊥) → same_text self (folded text) ≡ same_text (drop k self) (drop k (folded text)) → same_text self (folded text) ≡ false
  same_not k l other so_far = so_far ∙ step k l ∙ ap (λ (b : Bool). b && same_text (drop (k + 1) self) (drop (k + 1) (folded text))) (ne_eqb _ _ other)

  pub same_end : same_text self (folded text) ≡ same_text (drop len self) (drop len (folded text)) → same_text self (folded text) ≡ true
  same_end so_far = so_far ∙ none (drop len self) (drop len (folded text)) (omega (arith, long, length-drop len self)) (omega (arith, even, length-map text to_ascii_lowercase, length-drop len (folded text)))
    where
      none : (xs ys : List ℕ) → length xs ≡ 0 → length ys ≡ 0 → same_text xs ys ≡ true
      none [] [] a b = refl
      none [] (y ∷ ys) a b = absurd (omega (arith, b))
      none (x ∷ xs) ys a b = absurd (omega (arith, a))

pub same_length : (bytes text self : List ℕ) (len : ℕ) → take len bytes ≡ self → len ≤ length bytes → (len ≡ length text → ⊥) → same_text self (folded text) ≡ false
same_length bytes text self len view room other =
    apart self (folded text) (λ e. other (sym (length-take-le len bytes room) ∙ ap length view ∙ e ∙ length-map text to_ascii_lowercase))
