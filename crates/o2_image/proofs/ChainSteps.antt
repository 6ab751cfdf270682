-- Where a chain has ended, no step changes anything.
use Rattle.std.proofs.Common.{◌≡◌, ℕ, List, true, Result, Ok, refl, sym, ◌∙◌}
use Rattle.o2_ne.specs.Steps.{steps}
use Rattle.o2_ne.proofs.Stepwise.{stays}
use Rattle.o2_base.specs.declared.faults.ModuleFault.{ModuleFault}
use Rattle.o2_image.specs.Chains.{Walk, chain_step}

step_stays : (seg : ℕ) (bytes : List ℕ) (width : ℕ) (w : Walk) → w.ended ≡ true → chain_step seg bytes width w ≡ Ok w
unfolding chain_step
step_stays seg bytes width w h = rw h refl

pub is_over : (seg : ℕ) (bytes : List ℕ) (width n : ℕ) (w : Walk) (total : Result Walk ModuleFault) → w.ended ≡ true → steps (chain_step seg bytes width) n w ≡ total → total ≡ Ok w
is_over seg bytes width n w total h so_far = sym so_far ∙ stays (chain_step seg bytes width) n w (step_stays seg bytes width w h)
