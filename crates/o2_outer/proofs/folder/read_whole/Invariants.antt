use Rattle.std.proofs.Common.{◌≡◌, ◌≤◌, ℕ, List, Some, vec_len}
use Rattle.o2_outer.specs.Reads.{bytes_left}
use Rattle.o2_outer.proofs.folder.read_whole.Given as goal

abbrev pub invariant-loop : goal.invariant-loop
invariant-loop g l = record {
  few : vec_len l.bytes ≤ l.most;
  read : (t : List ℕ) → g.F.Read.remaining l.fn.file ≡ Some t → bytes_left l.bytes.items (g.F.Read.remaining l.file) ≡ Some t;
}
