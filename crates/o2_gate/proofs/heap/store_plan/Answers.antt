use Rattle.std.proofs.Common.{ℕ, ap, ◌∙◌}
use Rattle.std.specs.Prelude.{Option}
use Rattle.o2_isa.specs.View.{View, Hold, whole}
use Rattle.o2_isa.specs.Pointers.{put_at_pointer}
use Rattle.o2_world.specs.Heaps.{put_words}
use Rattle.o2_world.specs.Slots.{parts_in, put_all, targets_in}
use Rattle.o2_subseg.specs.Plans.{words_of}
use Rattle.o2_gate.specs.Given.{word_in}
use Rattle.o2_gate.specs.Heaps.{front_of}
use Rattle.o2_gate.proofs.Stores.{keeps_then}
use Rattle.o2_gate.proofs.Walks.{put_all_over, ready_same}
use Rattle.o2_gate.proofs.Writing.{writes_then}
use Rattle.o2_gate.proofs.heap.store_plan.Goals as goal

pub store_value-requires-clause-ready : goal.store_value-requires-clause-ready
store_value-requires-clause-ready g c =
    ready_same (g.B.Bus.view c.args.bus.now) (g.B.Bus.view c.follow.new.bus) c.follow.ensures.ready (targets_in c.args.slots.now (word_in c.args.words.now)) ∙ c.requires.ready

pub returns-clause-bytes : goal.returns-clause-bytes
returns-clause-bytes g c = λ f n.
    let v : View = g.B.Bus.view c.args.bus.now in
    let u : View = g.B.Bus.view c.follow.new.bus in
    let ps = targets_in c.args.slots.now (word_in c.args.words.now) in
    let parts = parts_in c.args.slots.now c.args.plan.now.answer.value in
    c.store_value.ensures.bytes f n
    ∙ ap (λ (h : ℕ → Option Hold). put_all h ps parts (whole f u).bytes n) (ap (λ (x : View). x.held) c.follow.ensures.frame)
    ∙ put_all_over v.held ps parts (whole f u).bytes
    (put_at_pointer v.held (whole f v).bytes c.args.selector 0 (put_words (front_of f v c.args.selector) (words_of c.args.plan.now))) (λ m. c.follow.ensures.bytes f m) n

pub returns-clause-frame : goal.returns-clause-frame
returns-clause-frame g c = keeps_then (g.B.Bus.view c.args.bus.now) (g.B.Bus.view c.follow.new.bus) (g.B.Bus.view c.store_value.new.bus) c.follow.ensures.frame c.store_value.ensures.frame

pub returns-clause-writes : goal.returns-clause-writes
returns-clause-writes g c =
    writes_then (g.B.Bus.view c.args.bus.now) (g.B.Bus.view c.follow.new.bus) (g.B.Bus.view c.store_value.new.bus) (ap (λ (x : View). x.held) c.follow.ensures.frame)
    c.follow.ensures.writes c.store_value.ensures.writes
