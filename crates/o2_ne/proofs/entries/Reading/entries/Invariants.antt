use Rattle.std.proofs.Common.{◌≡◌, ◌+◌, ◌≤◌, ◌<◌, ◌^◌, ◌-◌}
use Rattle.o2_ne.specs.Steps.{steps}
use Rattle.o2_ne.specs.EntryTable.{entry_step}
use Rattle.o2_ne.specs.EntryViews.{table}
use Rattle.o2_ne.proofs.entries.Reading.entries.Given as goal

abbrev pub invariant-loop : goal.invariant-loop
invariant-loop l = record {
  so_far : steps (entry_step l.file l.segments l.kind) (l.count - l.counter) (table l.self) ≡ steps (entry_step l.file l.segments l.kind) l.count (table l.fn.self);
  place : l.self.place < 2 ^ 23;
  ordinal : l.self.ordinal ≤ l.fn.self.ordinal + l.counter;
}
