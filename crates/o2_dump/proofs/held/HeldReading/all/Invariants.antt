use Rattle.std.proofs.Common.{◌≡◌, ◌-◌, ◌≤◌, length}
use Rattle.o2_ne.specs.Steps.{steps}
use Rattle.o2_dump.specs.ProcessEntries.{held_step}
use Rattle.o2_dump.specs.Readings.{held_so_far}
use Rattle.o2_dump.proofs.held.HeldReading.all.Given as goal

abbrev pub invariant-loop : goal.invariant-loop
invariant-loop l = record {
  so_far : steps (held_step l.file l.segments) (l.count - l.counter) (held_so_far l.self) ≡ steps (held_step l.file l.segments) l.count (held_so_far l.fn.self);
  inside : l.self.place ≤ length l.file;
}
