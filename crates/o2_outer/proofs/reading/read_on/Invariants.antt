use Rattle.std.proofs.Common.{◌≡◌, ◌-◌, ◌≤◌, ℕ, List, Some, length, take}
use Rattle.o2_outer.specs.Reads.{bytes_left}
use Rattle.o2_outer.proofs.reading.read_on.Given as goal

abbrev pub invariant-loop-filled : goal.invariant-loop-filled
invariant-loop-filled g l = record {
  more : l.held ≤ l.filled;
  most : l.filled ≤ l.wanted;
  len : length l.buffer ≡ length l.fn.buffer;
  left : (t : List ℕ) → bytes_left (take l.held l.fn.buffer) (g.R.Read.remaining l.fn.reader) ≡ Some t
      → bytes_left (take l.filled l.buffer) (g.R.Read.remaining l.reader) ≡ Some t;
}

abbrev pub decreases-loop-filled : goal.decreases-loop-filled
decreases-loop-filled g l = l.wanted - l.filled
