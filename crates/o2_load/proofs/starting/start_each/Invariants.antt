use Rattle.std.proofs.Common.{◌≡◌, ◌+◌, drop, length}
use Rattle.o2_load.specs.Memory.{KeepsSetting}
use Rattle.o2_load.specs.Holds.{IsReady}
use Rattle.o2_load.specs.Progresses.{course}
use Rattle.o2_load.proofs.Alls.{SoFar}
use Rattle.o2_load.proofs.starting.start_each.Given as goal

abbrev pub invariant-loop-process : goal.invariant-loop-process
invariant-loop-process g l =
    let S = g.S.Segments in
    record {
      number : l.pid ≡ l.process-index + 1;
      count : length l.progress.cpus.items ≡ l.process-index;
      ready : IsReady (S.whole l.progress.build.segments) (S.seen l.progress.build.segments) l.progress.build.made l.linked;
      setting : KeepsSetting (S.seen l.fn.segments) (S.seen l.progress.build.segments);
      so_far : SoFar (S.names l.progress.build.segments l.linked.images) (course (S.seen l.progress.build.segments) l.progress) l.linked (S.seen l.fn.segments).most
          (l.process-index + 1) (drop l.process-index l.processes) l.processes;
    }
