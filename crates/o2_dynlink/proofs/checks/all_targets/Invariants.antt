use Rattle.std.proofs.Common.{◌≡◌, [], drop, length}
use Rattle.o2_ne.specs.Steps.{over}
use Rattle.o2_dynlink.specs.Linking.{module_step}
use Rattle.o2_dynlink.proofs.checks.all_targets.Given as goal

abbrev pub invariant-loop-module : goal.invariant-loop-module
invariant-loop-module l = record {
  so_far : over (module_step l.scope.modules.now l.scope.bases.now l.scope.shim l.scope.ordinals.now) (drop l.module-index l.scope.modules.now) l.found.items
      ≡ over (module_step l.scope.modules.now l.scope.bases.now l.scope.shim l.scope.ordinals.now) l.scope.modules.now [];
  count : length l.found.items ≡ l.module-index;
}
