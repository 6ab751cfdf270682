use Rattle.std.proofs.Common.{◌≡◌, ◌+◌, drop}
use Rattle.o2_space.specs.Words.{are_seated}
use Rattle.o2_space.proofs.discarding.is_seated.Given as goal

abbrev pub invariant-loop-k : goal.invariant-loop-k
invariant-loop-k l = are_seated l.regions 1 l.procs l.id.age ≡ are_seated l.regions (l.k + 1) (drop l.k l.procs) l.id.age
