use Rattle.o2_dynlink.specs.Imports.{on_list, target_in}
use Rattle.o2_dynlink.specs.Memo.{IsMemo}
use Rattle.o2_dynlink.proofs.Passing.{PassTo}
use Rattle.o2_dynlink.proofs.gathering.check_in.Given as goal

abbrev pub invariant-loop-k : goal.invariant-loop-k
invariant-loop-k l = record {
  so_far : PassTo (on_list (target_in l.scope.modules.now l.scope.bases.now l.scope.shim l.scope.ordinals.now l.base l.«module») l.«module».relocs) l.order l.k;
  memo : IsMemo l.scope.modules.now l.scope.bases.now l.scope.shim l.«module» l.memo.items;
}
