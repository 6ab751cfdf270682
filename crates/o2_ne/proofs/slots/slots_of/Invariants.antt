use Rattle.std.proofs.Common.{take}
use Rattle.o2_ne.specs.EntrySlots.{AreSlots}
use Rattle.o2_ne.proofs.slots.slots_of.Given as goal

abbrev pub invariant-loop-k : goal.invariant-loop-k
invariant-loop-k l = AreSlots l.most (take l.k l.found) l.slots.items
