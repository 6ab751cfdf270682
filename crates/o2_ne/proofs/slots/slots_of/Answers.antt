use Rattle.std.proofs.Common.{◌<◌, ◌≤◌, arith, length}
use Rattle.std.proofs.lemmas.List.{take_all}
use Rattle.o2_ne.proofs.SlotSteps.{next_slot, no_entry}
use Rattle.o2_ne.proofs.slots.slots_of.Goals as goal

pub loop-k-init : goal.loop-k-init
loop-k-init c = no_entry _ _ c.in_ok-slots.ensures.count c.in_ok-slots.ensures.empty

pub loop-k-preserved : goal.loop-k-preserved
loop-k-preserved c =
    let lt : c.loop-k.k < length c.args.found.now = omega arith in
    next_slot _ _ _ _ c.loop-k.k _ c.loop-k.invariant lt c.note.ensures

pub returns : goal.returns
returns c =
    let le : length c.args.found.now ≤ c.loop-k.k = omega arith in
    rw (take_all c.loop-k.k c.args.found.now le) at c.loop-k.invariant
