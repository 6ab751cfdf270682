use Rattle.std.proofs.Common.{take}
use Rattle.std.specs.Prelude.{Ok}
use Rattle.o2_load.specs.Memory.{OthersStay}
use Rattle.o2_load.specs.Holds.{IsReady, AddsAll, stage}
use Rattle.o2_load.specs.Loads.{segment_holdings}
use Rattle.o2_load.proofs.holdings.hold_segments.Given as goal

abbrev pub invariant-loop-k : goal.invariant-loop-k
invariant-loop-k g l =
    let S = g.S.Segments in
    record {
      adds : AddsAll (S.names l.fn.build.segments l.linked.images) (stage (S.seen l.fn.build.segments) l.fn.build) (S.names l.build.segments l.linked.images) (stage (S.seen l.build.segments) l.build)
          l.pid (take l.k (segment_holdings l.linked.images l.place l.«module»)) (Ok tt);
      others : OthersStay (S.seen l.fn.build.segments) (S.seen l.build.segments) l.pid;
      ready : IsReady (S.whole l.build.segments) (S.seen l.build.segments) l.build.made l.linked;
    }
