use Rattle.std.proofs.Common.{◌≡◌, ◌+◌, ◌*◌, ◌-◌, ◌≤◌, [], length, vec_len}
use Rattle.o2_ne.specs.Steps.{steps}
use Rattle.o2_dump.specs.SegmentEntries.{block_step}
use Rattle.o2_dump.proofs.blocks.blocks_of.Given as goal

abbrev pub invariant-loop : goal.invariant-loop
invariant-loop l = record {
  so_far : steps (block_step l.file l.blocks l.found l.entry l.behind) (l.count - l.counter) l.own.items ≡ steps (block_step l.file l.blocks l.found l.entry l.behind) l.count [];
  many : vec_len l.own ≡ l.counter;
  inside : l.behind + 4 + 516 * vec_len l.own ≤ length l.file;
}
