-- Walks over texts.
use Rattle.std.proofs.Common.{◌≡◌, ℕ, zero, suc, ◌+◌, ◌-◌, ◌<◌, ◌≤◌, ◌&&◌, ◌==◌, Bool, true, false, List, [], ◌∷◌, ◌++◌, length, take, drop, get_or, find, Option, Some, None, option_map, refl, ap, sym, ◌∙◌, arith, cond}
use Rattle.std.specs.Prelude.{if◌then◌else◌}
use Rattle.std.proofs.lemmas.Bool.{and_right, eq-eqb, ne_eqb, cond-false}
use Rattle.std.proofs.lemmas.List.{append-nil, append_assoc, drop_all, drop_more, take_all, take_more}
use Rattle.o2_world.specs.World.{Held, Process, Segment}
use Rattle.o2_world.specs.Map.{Map}
use Rattle.o2_world.specs.Known.{same_text, text_name}
use Rattle.o2_world.specs.SharedNames.{before_zero, bytes_at, looked_at}
use Rattle.o2_world.specs.Views.{bytes_in, hold_of, holds_in, view_of}
use Rattle.o2_isa.specs.View.{bound_in}
use Rattle.o2_world_parts.specs.Names.{has_text}

-- Texts.

-- what a test says of the first pair, for the rest too
name_by_test : (b : Bool) (t : List ℕ × ℕ) (g : Option ℕ) (f : Option (List ℕ × ℕ)) → g ≡ option_map (λ (p : List ℕ × ℕ). p.1) f → (if b then Some t.1 else g) ≡ option_map (λ (p : List ℕ × ℕ). p.1) (if b then Some t else f)
name_by_test true t g f h = refl
name_by_test false t g f h = h

name-find : (ts : List (List ℕ × ℕ)) (text : List ℕ) → text_name ts text ≡ option_map (λ (p : List ℕ × ℕ). p.1) (find (has_text text) ts)
name-find [] text = refl
name-find (t ∷ ts) text = name_by_test (same_text t.0 text) t (text_name ts text) (find (has_text text) ts) (name-find ts text)

pub name-some : (ts : List (List ℕ × ℕ)) (text : List ℕ) (t : List ℕ × ℕ) → Some t ≡ find (has_text text) ts → Some t.1 ≡ text_name ts text
name-some ts text t h = ap (option_map (λ (p : List ℕ × ℕ). p.1)) h ∙ sym (name-find ts text)

pub name-none : (ts : List (List ℕ × ℕ)) (text : List ℕ) → None ≡ find (has_text text) ts → None ≡ text_name ts text
name-none ts text h = ap (option_map (λ (p : List ℕ × ℕ). p.1)) h ∙ sym (name-find ts text)

pub ruleset named = (name-some, name-none)

-- two texts, byte by byte

pub same_length : (xs ys : List ℕ) → (length xs ≡ length ys → ⊥) → same_text xs ys ≡ false
same_length [] [] other = absurd (other refl)
same_length [] (y ∷ ys) other = refl
same_length (x ∷ xs) [] other = refl
same_length (x ∷ xs) (y ∷ ys) other = and_right (x == y) (same_text xs ys) (same_length xs ys (λ e. other (ap suc e)))

from_byte : (xs ys : List ℕ) (k : ℕ) → k < length xs → k < length ys → same_text (drop k xs) (drop k ys) ≡ ((get_or xs k 0 == get_or ys k 0) && same_text (drop (k + 1) xs) (drop (k + 1) ys))
from_byte xs ys k a b = ap (λ (s : List ℕ). same_text s (drop k ys)) (drop_more xs k 0 a) ∙ ap (same_text (get_or xs k 0 ∷ drop (k + 1) xs)) (drop_more ys k 0 b)

pub same_more : (xs ys : List ℕ) (k : ℕ) → k < length xs → k < length ys → get_or xs k 0 ≡ get_or ys k 0 → same_text xs ys ≡ same_text (drop k xs) (drop k ys)
    → same_text xs ys ≡ same_text (drop (k + 1) xs) (drop (k + 1) ys)
same_more xs ys k a b e so_far = so_far ∙ from_byte xs ys k a b ∙ ap (λ (t : Bool). t && same_text (drop (k + 1) xs) (drop (k + 1) ys)) (eq-eqb _ _ e)

pub same_not : (xs ys : List ℕ) (k : ℕ) → k < length xs → k < length ys → (get_or xs k 0 ≡ get_or ys k 0 → ⊥) → same_text xs ys ≡ same_text (drop k xs) (drop k ys)
    → same_text xs ys ≡ false
same_not xs ys k a b other so_far = so_far ∙ from_byte xs ys k a b ∙ ap (λ (t : Bool). t && same_text (drop (k + 1) xs) (drop (k + 1) ys)) (ne_eqb _ _ other)

pub same_end : (xs ys : List ℕ) (k : ℕ) → k ≡ length xs → length xs ≡ length ys → same_text xs ys ≡ same_text (drop k xs) (drop k ys) → same_text xs ys ≡ true
same_end xs ys k at even so_far =
    so_far
    ∙ ap (λ (zs : List ℕ). same_text zs (drop k ys)) (drop_all k xs (omega (arith, at)))
    ∙ ap (same_text []) (drop_all k ys (omega (arith, at, even)))

-- Bytes up to a zero.

text_next : (x : ℕ) (xs ps : List ℕ) → (x ≡ 0 → ⊥) → option_map (λ t. ps ++ t) (before_zero (x ∷ xs)) ≡ option_map (λ t. (ps ++ x ∷ []) ++ t) (before_zero xs)
text_next x xs ps other =
    ap (option_map (λ t. ps ++ t)) (cond-false (x == 0) (Some []) (option_map (λ (t : List ℕ). x ∷ t) (before_zero xs)) (ne_eqb x 0 other)) ∙ go (before_zero xs)
  where
    go : (o : Option (List ℕ)) → option_map (λ t. ps ++ t) (option_map (λ (t : List ℕ). x ∷ t) o) ≡ option_map (λ t. (ps ++ x ∷ []) ++ t) o
    go None = refl
    go (Some t) = ap Some (sym (append_assoc ps (x ∷ []) t))

-- before_zero from the k-th byte on, behind those before it
abbrev pub text_from : List ℕ → ℕ → Option (List ℕ)
text_from bytes k = option_map (λ t. take k bytes ++ t) (before_zero (drop k bytes))

pub text_begins : (bytes : List ℕ) → before_zero bytes ≡ text_from bytes 0
text_begins bytes = go (before_zero bytes)
  where
    go : (o : Option (List ℕ)) → o ≡ option_map (λ t. [] ++ t) o
    go None = refl
    go (Some t) = refl

pub text_more : (bytes : List ℕ) (k x : ℕ) → k < length bytes → x ≡ get_or bytes k x → (x ≡ 0 → ⊥) → before_zero bytes ≡ text_from bytes k → before_zero bytes ≡ text_from bytes (k + 1)
text_more bytes k x a at other so_far =
    so_far
    ∙ ap (λ (xs : List ℕ). option_map (λ t. take k bytes ++ t) (before_zero xs)) (drop_more bytes k x a ∙ ap (λ y. y ∷ drop (k + 1) bytes) (sym at))
    ∙ text_next x (drop (k + 1) bytes) (take k bytes) other
    ∙ ap (λ (ps : List ℕ). option_map (λ t. ps ++ t) (before_zero (drop (k + 1) bytes))) (sym (take_more bytes k x a ∙ ap (λ y. take k bytes ++ y ∷ []) (sym at)))

pub text_ends : (bytes : List ℕ) (k x : ℕ) → k < length bytes → x ≡ get_or bytes k x → x ≡ 0 → before_zero bytes ≡ text_from bytes k → before_zero bytes ≡ Some (take k bytes)
text_ends bytes k x a at is so_far =
    so_far
    ∙ ap (λ (xs : List ℕ). option_map (λ t. take k bytes ++ t) (before_zero xs)) (drop_more bytes k x a ∙ ap (λ y. y ∷ drop (k + 1) bytes) (sym at ∙ is))
    ∙ ap Some (append-nil (take k bytes))

pub text_none : (bytes : List ℕ) (k : ℕ) → length bytes ≤ k → before_zero bytes ≡ text_from bytes k → before_zero bytes ≡ None
text_none bytes k a so_far = so_far ∙ ap (λ (xs : List ℕ). option_map (λ t. take k bytes ++ t) (before_zero xs)) (drop_all k bytes a)

-- how many are looked at, of n
pub looked_more : (n k : ℕ) (bytes : List ℕ) → k < n → k < length bytes → (get_or bytes k 0 ≡ 0 → ⊥)
    → k + looked_at (n - k) (drop k bytes) ≡ (k + 1) + looked_at (n - (k + 1)) (drop (k + 1) bytes)
looked_more n k bytes low a other =
    let m : n - k ≡ suc (n - (k + 1)) = omega (arith, low) in
    ap (λ (j : ℕ). k + looked_at j (drop k bytes)) m
    ∙ ap (λ (xs : List ℕ). k + looked_at (suc (n - (k + 1))) xs) (drop_more bytes k 0 a)
    ∙ ap (λ (j : ℕ). k + j) (cond-false (get_or bytes k 0 == 0) 1 (suc (looked_at (n - (k + 1)) (drop (k + 1) bytes))) (ne_eqb (get_or bytes k 0) 0 other))
    ∙ (let e : k + suc (looked_at (n - (k + 1)) (drop (k + 1) bytes)) ≡ (k + 1) + looked_at (n - (k + 1)) (drop (k + 1) bytes) = omega arith in e)

pub looked_zero : (n k : ℕ) (bytes : List ℕ) → k < n → k < length bytes → get_or bytes k 0 ≡ 0 → k + looked_at (n - k) (drop k bytes) ≡ k + 1
looked_zero n k bytes low a is =
    let m : n - k ≡ suc (n - (k + 1)) = omega (arith, low) in
    ap (λ (j : ℕ). k + looked_at j (drop k bytes)) m
    ∙ ap (λ (xs : List ℕ). k + looked_at (suc (n - (k + 1))) xs) (drop_more bytes k 0 a ∙ ap (λ (y : ℕ). y ∷ drop (k + 1) bytes) is)

pub looked_past : (n k : ℕ) (bytes : List ℕ) → k ≤ n → length bytes ≤ k → k + looked_at (n - k) (drop k bytes) ≡ n
looked_past n k bytes low a =
    ap (λ (xs : List ℕ). k + looked_at (n - k) xs) (drop_all k bytes a) ∙ ap (λ j. k + j) (none (n - k)) ∙ (let e : k + (n - k) ≡ n = omega (arith, low) in e)
  where
    none : (m : ℕ) → looked_at m [] ≡ m
    none zero = refl
    none (suc m) = refl

-- 129 of them
pub looked_end : (k : ℕ) (bytes : List ℕ) → k ≡ 129 → k + looked_at (129 - k) (drop k bytes) ≡ 129
looked_end k bytes at = ap (λ (j : ℕ). k + looked_at j (drop k bytes)) (none at) ∙ omega (arith, at)
  where
    none : k ≡ 129 → 129 - k ≡ 0
    none e = omega (arith, e)

-- The bytes behind a pointer.

pub behind-held : (names : Map Segment) (p : Process) (s offset : ℕ) (h : Held) → Some (hold_of h) ≡ bound_in (holds_in p.held) s → bytes_at (view_of names p) s offset ≡ drop offset (bytes_in names h.name)
unfolding bytes_at
behind-held names p s offset h e = rw (sym e) refl

pub behind-unheld : (names : Map Segment) (p : Process) (s offset : ℕ) → None ≡ bound_in (holds_in p.held) s → bytes_at (view_of names p) s offset ≡ []
unfolding bytes_at
behind-unheld names p s offset e = rw (sym e) refl

pub ruleset behind = (behind-held, behind-unheld, drop_all, take_all)
