use Rattle.std.proofs.Common.{◌≡◌, [], drop}
use Rattle.o2_ne.specs.Steps.{over}
use Rattle.o2_image.specs.Getters.{nth_list}
use Rattle.o2_dynlink.specs.Imports.{gather, target_in}
use Rattle.o2_dynlink.specs.Memo.{IsMemo}
use Rattle.o2_dynlink.proofs.imports.targets_in.Given as goal

abbrev pub invariant-loop-k : goal.invariant-loop-k
invariant-loop-k l = record {
  so_far : over (gather (target_in l.scope.modules.now l.scope.bases.now l.scope.shim l.scope.ordinals.now l.base l.«module»)) (drop l.k (nth_list l.«module».relocs l.seg)) l.found.items
      ≡ over (gather (target_in l.scope.modules.now l.scope.bases.now l.scope.shim l.scope.ordinals.now l.base l.«module»)) (drop l.from (nth_list l.«module».relocs l.seg)) [];
  memo : IsMemo l.scope.modules.now l.scope.bases.now l.scope.shim l.«module» l.memo.items;
}
