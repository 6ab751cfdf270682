use Rattle.std.proofs.Common.{◌≡◌, ◌≤◌, ◌*◌, ◌++◌, drop, length}
use Rattle.o2_dynlink.specs.Selectors.{bases_from, bases_of}
use Rattle.o2_dynlink.proofs.selectors.bases_of.Given as goal

abbrev pub invariant-loop-module : goal.invariant-loop-module
invariant-loop-module l = record {
  so_far : l.bases.items ++ bases_from l.used (drop l.module-index l.modules) ≡ bases_of l.modules;
  many : length l.bases.items ≡ l.module-index;
  small : l.used ≤ 254 * l.module-index;
}
