use Rattle.std.proofs.Common.{◌≡◌, ◌≤◌, length}
use Rattle.o2_calls.proofs.NotedMaps.{so_far}
use Rattle.o2_calls.proofs.noting.note_shares.Given as goal

abbrev pub invariant-loop-before : goal.invariant-loop-before
invariant-loop-before l = record {
  noted : l.moves ≡ so_far l.regions l.first l.index l.count l.before;
  few : length l.moves ≤ l.before;
}
