use Rattle.std.proofs.Common.{◌≡◌, drop}
use Rattle.o2_ne.specs.Steps.{over}
use Rattle.o2_dynlink.specs.Linking.{name_step}
use Rattle.o2_dynlink.proofs.checks.check_names.Given as goal

abbrev pub invariant-loop-module : goal.invariant-loop-module
invariant-loop-module l = record {
  so_far : over (name_step l.modules) (drop l.module-index l.modules) l.i ≡ over (name_step l.modules) l.modules 0;
  at : l.i ≡ l.module-index;
}
