use Rattle.std.proofs.Common.{ap, sym, ◌∙◌}
use Rattle.std.specs.Prelude.{slice_index}
use Rattle.std.specs.List.{list_all}
use Rattle.o2_world.specs.CallParts.{Before, trapped}
use Rattle.o2_world.specs.Calls.{row_of}
use Rattle.o2_world.specs.Outcomes.{come_out}
use Rattle.o2_world.specs.Views.{view_of}
use Rattle.o2_boundless.specs.Called.{worded_by}
use Rattle.o2_world_parts.specs.Layouts.{good_by}
use Rattle.o2_boundless.specs.Outcomes.{outcome_of, row_by}
use Rattle.o2_boundless.specs.Shown.{before_call}
use Rattle.o2_boundless.proofs.Serving.{bad_is, good_as, here, said}
use Rattle.o2_boundless.proofs.world.World.worded.Goals as goal

pub returns-then-not-good : goal.returns-then-not-good
returns-then-not-good c =
    let b = before_call c.args.self.now c.args.n c.args.process.now in
    let a = slice_index c.args.words.now in
    let o = row_of c.args.service in
    said b c.trapped.result (trapped b 13) (worded_by o b c.args.process.now.cpu.ip a)
    (bad_is o b c.args.process.now.cpu.ip c.args.row.now.name.now c.args.row.now.slots.now a c.requires.row
    (sym (c.in_ok-good.ensures ∙ ap (list_all (good_by (view_of c.args.self.now.world.names c.args.process.now) a)) (c.deref.ensures.value ∙ c.requires.slots)) ∙ c.if-not-good.true))
    (here b c.trapped.result c.registers-cpu.result (λ (b : Before). trapped b 13) (sym c.registers-cpu.ensures) c.trapped.ensures)

pub returns : goal.returns
returns c =
    let b = before_call c.args.self.now c.args.n c.args.process.now in
    let a = slice_index c.args.words.now in
    let o = row_of c.args.service in
    said b c.come_out.result (come_out (row_by c.args.row.now) b c.args.process.now.cpu.ip a (outcome_of c.args.self.now.world.input c.in_ok-outcome.outcome)) (worded_by o b c.args.process.now.cpu.ip a)
    (good_as o b c.args.process.now.cpu.ip c.args.row.now a (outcome_of c.args.self.now.world.input c.in_ok-outcome.outcome) c.requires.row
    (sym (c.in_ok-good.ensures ∙ ap (list_all (good_by (view_of c.args.self.now.world.names c.args.process.now) a)) (c.deref.ensures.value ∙ c.requires.slots)) ∙ c.if-not-good.false) c.in_ok-outcome.ensures)
    c.come_out.ensures
