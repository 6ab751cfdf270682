-- Where a name table has ended, no step changes anything.
use Rattle.std.proofs.Common.{◌≡◌, ℕ, List, true, Result, Ok, refl, sym, ◌∙◌}
use Rattle.o2_ne.specs.Steps.{steps}
use Rattle.o2_ne.proofs.Stepwise.{stays}
use Rattle.o2_base.specs.declared.faults.NeFault.{NeFault}
use Rattle.o2_ne.specs.NameTable.{Walk, name_step}

step_stays : (file : List ℕ) (w : Walk) → w.ended ≡ true → name_step file w ≡ Ok w
unfolding name_step
step_stays file w h = rw h refl

pub is_over : (file : List ℕ) (n : ℕ) (w : Walk) (total : Result Walk NeFault) → w.ended ≡ true → steps (name_step file) n w ≡ total → total ≡ Ok w
is_over file n w total h so_far = sym so_far ∙ stays (name_step file) n w (step_stays file w h)
