use Rattle.std.proofs.Common.{take}
use Rattle.std.specs.Prelude.{Ok}
use Rattle.o2_load.specs.Memory.{OthersStay}
use Rattle.o2_load.specs.Holds.{IsReady, AddsAll, stage}
use Rattle.o2_load.proofs.Modules.{held_at}
use Rattle.o2_load.proofs.holdings.hold_libraries.Given as goal

abbrev pub invariant-loop-place : goal.invariant-loop-place
invariant-loop-place g l =
    let S = g.S.Segments in
    record {
      adds : AddsAll (S.names l.fn.build.segments l.linked.images) (stage (S.seen l.fn.build.segments) l.fn.build) (S.names l.build.segments l.linked.images) (stage (S.seen l.build.segments) l.build)
          l.pid (held_at l.linked.images (take l.place-index l.places)) (Ok tt);
      others : OthersStay (S.seen l.fn.build.segments) (S.seen l.build.segments) l.pid;
      ready : IsReady (S.whole l.build.segments) (S.seen l.build.segments) l.build.made l.linked;
    }
