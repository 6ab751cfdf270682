use Rattle.std.proofs.Common.{◌≡◌, [], drop, length}
use Rattle.std.specs.Prelude.{IfSome}
use Rattle.o2_ne.specs.Steps.{over}
use Rattle.o2_dynlink.specs.Imports.{gather, on_list, target_in}
use Rattle.o2_dynlink.specs.Memo.{IsKnown, IsMemo}
use Rattle.o2_dynlink.proofs.gathering.gather_in.Given as goal

abbrev pub invariant-loop-k : goal.invariant-loop-k
invariant-loop-k l = record {
  so_far : over (gather (on_list (target_in l.scope.modules.now l.scope.bases.now l.scope.shim l.scope.ordinals.now l.base l.«module») l.«module».relocs)) (drop l.k l.order) l.found
      ≡ over (gather (on_list (target_in l.scope.modules.now l.scope.bases.now l.scope.shim l.scope.ordinals.now l.base l.«module») l.«module».relocs)) l.order [];
  count : length l.found ≡ l.k;
  known : IfSome l.last (IsKnown (on_list (target_in l.scope.modules.now l.scope.bases.now l.scope.shim l.scope.ordinals.now l.base l.«module») l.«module».relocs) l.found);
  memo : IsMemo l.scope.modules.now l.scope.bases.now l.scope.shim l.«module» l.memo.items;
}
