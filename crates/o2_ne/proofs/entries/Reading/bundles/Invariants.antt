use Rattle.std.proofs.Common.{◌≡◌, ◌+◌, ◌≤◌, ◌*◌, ◌<◌, ◌^◌, ◌-◌}
use Rattle.o2_ne.specs.Steps.{steps}
use Rattle.o2_ne.specs.EntryTable.{table_step}
use Rattle.o2_ne.specs.EntryViews.{table}
use Rattle.o2_ne.proofs.entries.Reading.bundles.Given as goal

abbrev pub invariant-loop : goal.invariant-loop
invariant-loop l = record {
  so_far : steps (table_step l.file l.segments l.end) (l.most - l.counter) (table l.self) ≡ steps (table_step l.file l.segments l.end) l.most (table l.fn.self);
  place : l.self.place < 2 ^ 23;
  ordinal : l.self.ordinal ≤ 1 + 255 * l.counter;
}
