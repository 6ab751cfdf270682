use Rattle.std.proofs.Common.{◌≡◌, ℕ, ◌+◌, ◌<◌, ◌≤◌, get_or}
use Rattle.o2_phys.proofs.move_part.Given as goal

abbrev pub invariant-loop-i : goal.invariant-loop-i
invariant-loop-i l = record {
  front : (k : ℕ) → k < l.i → get_or l.mem (l.to + k) 0 ≡ get_or l.initial.mem (l.from + k) 0;
  before : (k : ℕ) → k < l.to → get_or l.mem k 0 ≡ get_or l.initial.mem k 0;
  after : (k : ℕ) → l.to + l.i ≤ k → get_or l.mem k 0 ≡ get_or l.initial.mem k 0;
}

abbrev pub invariant-loop-j : goal.invariant-loop-j
invariant-loop-j l = record {
  back : (k : ℕ) → l.j ≤ k → k < l.len → get_or l.mem (l.to + k) 0 ≡ get_or l.initial.mem (l.from + k) 0;
  before : (k : ℕ) → k < l.to + l.j → get_or l.mem k 0 ≡ get_or l.initial.mem k 0;
  after : (k : ℕ) → l.to + l.len ≤ k → get_or l.mem k 0 ≡ get_or l.initial.mem k 0;
}
