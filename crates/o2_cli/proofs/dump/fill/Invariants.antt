use Rattle.std.proofs.Common.{◌≡◌, ◌≤◌, length, map, take}
use Rattle.std.specs.Prelude.{vec_capacity}
use Rattle.o2_machine.specs.Shown.{shown_proc}
use Rattle.o2_cli.proofs.dump.fill.Given as goal

abbrev pub invariant-loop-k : goal.invariant-loop-k
invariant-loop-k l = record {
  so_far : l.rows.items ≡ map shown_proc (take l.k l.machine.space.procs.items);
  room : 64 ≤ vec_capacity l.rows;
  few : length l.rows.items ≤ l.k;
}
