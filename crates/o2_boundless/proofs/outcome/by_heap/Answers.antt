use Rattle.o2_world.specs.declared.types.Slot.TheVariants.{Word}
use Rattle.o2_world_parts.proofs.Placed.{valued_behind}
use Rattle.o2_boundless.proofs.outcome.by_heap.Goals as goal

pub loop-slot-preserved : goal.loop-slot-preserved
loop-slot-preserved c =
    valued_behind c.args.slots.now c.loop-slot.slot-index Word c.args.answer.value c.args.bytes.items c.loop-slot.values.items c.put_value.new.values.items c.loop-slot.parts.items c.put_value.new.parts.items
    c.loop-slot-test.true c.loop-slot.invariant c.in_ok-put_value.ensures.values c.in_ok-put_value.ensures.parts
