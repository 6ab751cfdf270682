use Rattle.std.proofs.Common.{◌≡◌, ℕ, ◌+◌, ◌-◌}
use Rattle.std.specs.Prelude.{slice_get, vec_len}
use Rattle.o2_bus.specs.Plain.{granted}
use Rattle.o2_bus.proofs.plain_edit.reach_index.Given as goal

abbrev pub invariant-growing : goal.invariant-growing
invariant-growing l = (i : ℕ) → granted (slice_get l.grants.items i) ≡ granted (slice_get l.initial.grants.items i)

abbrev pub decreases-growing : goal.decreases-growing
decreases-growing l = l.index + 1 - vec_len l.grants
