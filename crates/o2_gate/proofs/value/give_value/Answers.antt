use Rattle.std.proofs.Common.{◌≡◌, List, true, sym, subst}
use Rattle.o2_isa.specs.View.{View}
use Rattle.o2_world.specs.declared.types.Slot.{Slot}
use Rattle.o2_world.specs.Slots.{targets_in}
use Rattle.o2_gate.specs.Given.{word_in}
use Rattle.o2_gate.specs.Pointed.{are_ready}
use Rattle.o2_gate.specs.Targets.{looked_in, slots_of}
use Rattle.o2_gate.proofs.Walks.{written_ready}
use Rattle.o2_gate.proofs.value.give_value.Goals as goal

pub store_value-requires-clause-ready : goal.store_value-requires-clause-ready
store_value-requires-clause-ready g c =
    let v : View = g.B.Bus.view c.args.bus.now in
    let x = c.args.arguments in
    subst (λ (ss : List Slot). are_ready v (targets_in ss (word_in x.words)) ≡ true) (sym c.row_for.ensures.slots)
    (written_ready v (word_in x.words) (looked_in x.request) c.args.value (slots_of x) c.requires.value c.requires.ready)
