-- Along a run the number of a semaphore is what the lines tell.
use Rattle.std.proofs.Common.{◌≡◌, ℕ, zero, suc, ◌<◌, ◌≤◌, nat_le, Bool, true, false, [], refl, subst, arith}
use Rattle.o2_world.specs.World.{World, Setting}
use Rattle.o2_world.specs.Run.{after}
use Rattle.o2_ramsem_laws.specs.Told.{Place, told}
use Rattle.o2_ramsem_laws.specs.Kept.{IsSemaphore, IsUnheld, number_at}
use Rattle.o2_ramsem_laws.proofs.Sequences.{IsPlayed, none_played}
use Rattle.o2_ramsem_laws.proofs.Steps.{played_as, step_played, step_untold}

-- as long as nobody holds the selector
untold_until : (s : Setting) (w : World) (place : Place) → told place w.lines ≡ [] → (k : ℕ) → ((j : ℕ) → j < k → IsUnheld (after s w j) place)
    → told place (after s w k).lines ≡ []
untold_until s w place first zero unheld = first
untold_until s w place first (suc k) unheld =
    step_untold s (after s w k) place (unheld k (omega arith)) (untold_until s w place first k (λ j less. unheld j (omega (arith, less))))

up_to : (n k : ℕ) → nat_le n k ≡ true → n ≤ k
up_to n k e = grind arith

from_next : (n k : ℕ) → nat_le n k ≡ false → n ≤ suc k → n ≡ suc k
from_next n k e most = grind arith

abbrev pub IsPlayedIn : World → Place → Type 0
IsPlayedIn w place = IsPlayed (number_at w place) (told place w.lines)

module _ (s : Setting) (w : World) (place : Place) (first last : ℕ) (is : IsSemaphore s w place first last) where
  at_first : IsPlayedIn (after s w first) place
  at_first =
      played_as (number_at (after s w first) place) 0 (told place (after s w first).lines) [] is.clear (untold_until s w place is.untold first is.unheld) none_played

  pub played_along : (k : ℕ) → first ≤ k → k ≤ last → IsPlayedIn (after s w k) place
  played_along zero low high = let here : first ≡ zero = omega (arith, low) in subst (λ (j : ℕ). IsPlayedIn (after s w j) place) here at_first
  played_along (suc k) low high = go (nat_le first k) refl (λ below. played_along k below (omega (arith, high)))
    where
      go : (t : Bool) → nat_le first k ≡ t → (first ≤ k → IsPlayedIn (after s w k) place) → IsPlayedIn (after s w (suc k)) place
      go true e earlier =
          let below : first ≤ k = up_to first k e in
          step_played s (after s w k) place (is.kept k below (omega (arith, high))) (earlier below)
      go false e earlier = subst (λ (j : ℕ). IsPlayedIn (after s w j) place) (from_next first k e low) at_first
