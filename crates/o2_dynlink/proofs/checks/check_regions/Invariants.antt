use Rattle.std.proofs.Common.{◌≡◌, ℕ, ◌<◌, ◌≤◌, ◌+◌, drop, get_or, length}
use Rattle.o2_ne.specs.Steps.{over}
use Rattle.o2_image.specs.Parts.{Parts}
use Rattle.o2_dynlink.specs.Linking.{region_step}
use Rattle.o2_dynlink.proofs.checks.check_regions.Given as goal

abbrev pub invariant-loop-module : goal.invariant-loop-module
invariant-loop-module l = record {
  so_far : over (region_step l.bases) (drop l.module-index l.modules) l.i ≡ over (region_step l.bases) l.modules 0;
  at : l.i ≡ l.module-index;
  fit : (k : ℕ) (d : Parts) → k < l.module-index → get_or l.bases k 0 + length (get_or l.modules k d).segments ≤ 8191;
}
