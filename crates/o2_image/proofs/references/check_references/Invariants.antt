use Rattle.std.proofs.Common.{◌≡◌, ℕ, ◌<◌, ◌-◌}
use Rattle.o2_ne.specs.Steps.{steps}
use Rattle.o2_image.specs.References.{reference_step}
use Rattle.o2_image.specs.Whole.{HasReference}
use Rattle.o2_image.proofs.references.check_references.Given as goal

abbrev pub invariant-loop-k : goal.invariant-loop-k
invariant-loop-k l = record {
  so_far : steps (reference_step l.file l.head) (l.head.references - l.k) l.k ≡ steps (reference_step l.file l.head) l.head.references 0;
  lies : (k : ℕ) → k < l.k → HasReference l.file l.head k;
}
