use Rattle.std.proofs.Common.{◌≡◌, ℕ, ◌+◌, ◌-◌}
use Rattle.std.specs.Prelude.{slice_get, vec_len}
use Rattle.o2_bus.specs.Plain.{in_map}
use Rattle.o2_bus.proofs.plain_edit.reach_process.Given as goal

abbrev pub invariant-growing : goal.invariant-growing
invariant-growing l = (p i : ℕ) → in_map (slice_get l.maps.items p) i ≡ in_map (slice_get l.initial.maps.items p) i

abbrev pub decreases-growing : goal.decreases-growing
decreases-growing l = l.pid + 1 - vec_len l.maps
