use Rattle.std.proofs.Common.{◌≡◌, map}
use Rattle.o2_dynlink.specs.Reached.{reaches}
use Rattle.o2_dynlink.proofs.reached.reached_marks.Given as goal

abbrev pub invariant-loop : goal.invariant-loop
invariant-loop l = l.marks.items ≡ map (reaches l.shim l.modules l.counter l.«module») l.modules
