use Rattle.std.proofs.Common.{◌≡◌, ◌-◌, ◌≤◌, length}
use Rattle.o2_ne.specs.Steps.{steps}
use Rattle.o2_dump.specs.ProcessEntries.{process_step}
use Rattle.o2_dump.specs.Readings.{processes_so_far}
use Rattle.o2_dump.proofs.processes.ProcessReading.all.Given as goal

abbrev pub invariant-loop : goal.invariant-loop
invariant-loop l = record {
  so_far : steps (process_step l.file l.segments) (l.count - l.counter) (processes_so_far l.self) ≡ steps (process_step l.file l.segments) l.count (processes_so_far l.fn.self);
  inside : l.self.place ≤ length l.file;
}
