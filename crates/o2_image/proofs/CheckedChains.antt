-- A chain that was checked has a word at each place.
use Rattle.std.proofs.Common.{◌≡◌, ℕ, zero, suc, ◌+◌, ◌≤◌, ◌==◌, List, [], ◌∷◌, Bool, true, false, Ok, refl, ◌∙◌, length, arith, cond}
use Rattle.std.specs.Prelude.{nat_le}
use Rattle.std.proofs.lemmas.Bool.{leb-true}
use Rattle.o2_ne.specs.Words.{word_at}
use Rattle.o2_ne.specs.Steps.{steps}
use Rattle.o2_ne.proofs.Binding.{bind_ok}
use Rattle.o2_image.specs.Chains.{Marks, Walk, chain_step, places, single}
use Rattle.o2_image.specs.Whole.{Fit}

single_fits : (seg : ℕ) (bytes : List ℕ) (width p : ℕ) (marks after : Marks) → single seg bytes width p marks ≡ Ok after → p + width ≤ length bytes
single_fits seg bytes width p marks after e = go (nat_le (p + width) (length bytes)) refl
  where
    go : (b : Bool) → nat_le (p + width) (length bytes) ≡ b → p + width ≤ length bytes
    go true h = leb-true _ _ h
    go false h = let bad = rw h at e in absurd cc

step_is : (seg : ℕ) (bytes : List ℕ) (width : ℕ) (w after : Walk) → w.ended ≡ false → chain_step seg bytes width w ≡ Ok after
    → (w.next + width ≤ length bytes) × (after.next ≡ word_at bytes w.next) × (after.ended ≡ (word_at bytes w.next == 65535))
unfolding chain_step
step_is seg bytes width w after going e =
    let one = bind_ok (single seg bytes width w.next w.marks) (λ (m : Marks). Ok (record { marks = m; next = word_at bytes w.next; ended = word_at bytes w.next == 65535 })) after (rw going at e) in
    (single_fits seg bytes width w.next w.marks one.0 one.1, cc, cc)

fits_with : (bytes : List ℕ) (p n : ℕ) (over : Bool) → (word_at bytes p == 65535) ≡ over → p + 2 ≤ length bytes → (over ≡ false → Fit bytes (places bytes n (word_at bytes p)))
    → Fit bytes (p ∷ cond (word_at bytes p == 65535) [] (places bytes n (word_at bytes p)))
fits_with bytes p n true h fits rest = rw h (fits, tt)
fits_with bytes p n false h fits rest = rw h (fits, rest refl)

pub checked_fit : (seg : ℕ) (bytes : List ℕ) (width n : ℕ) (w after : Walk) → 2 ≤ width → w.ended ≡ false → steps (chain_step seg bytes width) n w ≡ Ok after → Fit bytes (places bytes n w.next)
unfolding steps places
checked_fit seg bytes width zero w after wide going e = tt
checked_fit seg bytes width (suc n) w after wide going e =
    let b = bind_ok (chain_step seg bytes width w) (steps (chain_step seg bytes width) n) after e in
    let s = step_is seg bytes width w b.0 going b.1 in
    let fits = s.0 in
    fits_with bytes w.next n (word_at bytes w.next == 65535) refl (omega arith)
    (λ go. rw (← s.1) (checked_fit seg bytes width n b.0 after wide (s.2 ∙ go) b.2))

-- a chain that was checked from its first place
pub chain_fit : (seg : ℕ) (bytes : List ℕ) (width p : ℕ) (marks : Marks) (after : Walk) → 2 ≤ width
    → steps (chain_step seg bytes width) 65536 (record { marks = marks; next = p; ended = false }) ≡ Ok after → Fit bytes (places bytes 65536 p)
chain_fit seg bytes width p marks after wide e = checked_fit seg bytes width 65536 (record { marks = marks; next = p; ended = false }) after wide refl e
