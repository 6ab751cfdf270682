use Rattle.std.proofs.Common.{ap, sym, ◌∙◌}
use Rattle.std.specs.Prelude.{slice_index}
use Rattle.o2_world.specs.CallParts.{Before, trapped}
use Rattle.o2_world.specs.Calls.{row_of}
use Rattle.o2_world_parts.specs.Layouts.{from_top}
use Rattle.o2_boundless.specs.Called.{worded_by, words_by}
use Rattle.o2_boundless.specs.Outcomes.{shape_in}
use Rattle.o2_boundless.specs.Shown.{before_call}
use Rattle.o2_boundless.proofs.Serving.{args_are, here, none_is, said}
use Rattle.o2_boundless.proofs.world.World.effect.Goals as goal

pub returns-in_default : goal.returns-in_default
returns-in_default c =
    let b = before_call c.args.self.now c.args.n c.args.process.now in
    let o = row_of c.args.service in
    let a = slice_index (from_top (words_by o) c.args.args.now) in
    said b c.trapped.result (trapped b 13) (worded_by o b c.args.process.now.cpu.ip a)
    (none_is o b c.args.process.now.cpu.ip a (sym c.row_of.ensures ∙ ap shape_in c.in_default.is))
    (here b c.trapped.result c.registers.result (λ (b : Before). trapped b 13) (sym c.registers.ensures) c.trapped.ensures)

pub returns : goal.returns
returns c =
    let b = before_call c.args.self.now c.args.n c.args.process.now in
    let o = row_of c.args.service in
    let a = slice_index (from_top (words_by o) c.args.args.now) in
    said b c.worded.result (worded_by o b c.args.process.now.cpu.ip (slice_index c.deref.result.now)) (worded_by o b c.args.process.now.cpu.ip a)
    (ap (worded_by o b c.args.process.now.cpu.ip) (args_are o c.in-Some.row.name.now c.in-Some.row.slots.now c.in_ok-layout.layout.words c.args.args.now c.deref.result.now
    (sym c.row_of.ensures ∙ ap shape_in c.in-Some.is) c.in_ok-layout.ensures.words (c.deref.ensures.value ∙ c.in_ok-words.ensures)))
    c.worded.ensures
