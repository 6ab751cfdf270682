use Rattle.std.proofs.Common.{List, ap, sym, ◌∙◌}
use Rattle.std.specs.Prelude.{slice_index}
use Rattle.o2_world.specs.HugeRulings.{without}
use Rattle.o2_world.specs.Outcomes.{gone_indexes}
use Rattle.o2_world_parts.specs.declared.changing.Edit.{Edit}
use Rattle.o2_world_parts.specs.declared.effect.Done as done
use Rattle.o2_world_parts.specs.Edits.{changes_of}
use Rattle.o2_boundless.specs.Outcomes.{outcome_of}
use Rattle.o2_boundless.specs.Shown.{before_call, known_by}
use Rattle.o2_boundless.proofs.Serving.{nothing_is, out_does, out_fails, out_leaves, out_waits}
use Rattle.o2_boundless.proofs.world.World.come_out.Goals as goal

pub returns-in-Fails : goal.returns-in-Fails
returns-in-Fails c =
    let d : done.Done = record { values = c.in-Fails.values; parts = c.new.result; edits = c.new-in-Fails.result; read = 0; piece = c.new-in-Fails-2.result } in
    out_fails c.args.row.now (before_call c.args.self.now c.args.n c.args.process.now) c.comes_back.result c.registers-cpu.result c.returned-after.result c.args.layout.now.words c.in-Fails.error (slice_index c.args.words.now)
    c.args.layout.now.slots.items d (outcome_of c.args.self.now.world.input c.args.outcome) c.in-Fails.values.items (sym c.registers-cpu.ensures) c.returned-after.ensures c.requires.words c.requires.slots
    (nothing_is (before_call c.args.self.now c.args.n c.args.process.now) c.in-Fails.values.items c.new.result.items c.new-in-Fails.result.items c.new-in-Fails-2.result.items c.new.ensures.items c.new-in-Fails.ensures.items c.new-in-Fails-2.ensures.items)
    (ap (outcome_of c.args.self.now.world.input) c.in-Fails.is) c.comes_back.ensures

pub returns-in_ok-after-in-Does : goal.returns-in_ok-after-in-Does
returns-in_ok-after-in-Does c =
    out_does c.args.row.now (before_call c.args.self.now c.args.n c.args.process.now) c.comes_back-in-Does.result c.registers-cpu.result c.returned-after-in-Does.result c.in_ok-after-in-Does.after c.args.layout.now.words
    (slice_index c.args.words.now) c.args.layout.now.slots.items c.in-Does.done (outcome_of c.args.self.now.world.input c.args.outcome) (sym c.registers-cpu.ensures) c.returned-after-in-Does.ensures
    (c.in_ok-after-in-Does.ensures ∙ ap (λ (es : List Edit). without c.returned-after-in-Does.result (gone_indexes (known_by c.args.self.now) (changes_of es))) c.deref.ensures.value)
    c.requires.words c.requires.slots (ap (outcome_of c.args.self.now.world.input) c.in-Does.is) c.comes_back-in-Does.ensures

pub returns-in-Waits : goal.returns-in-Waits
returns-in-Waits c =
    out_waits c.args.row.now (before_call c.args.self.now c.args.n c.args.process.now) c.waits.result c.registers-cpu.result (slice_index c.args.words.now) (outcome_of c.args.self.now.world.input c.args.outcome)
    (sym c.registers-cpu.ensures) (ap (outcome_of c.args.self.now.world.input) c.in-Waits.is) c.waits.ensures

pub returns-in-Leaves : goal.returns-in-Leaves
returns-in-Leaves c =
    out_leaves c.args.row.now (before_call c.args.self.now c.args.n c.args.process.now) c.leaves.result c.registers-cpu.result (slice_index c.args.words.now) c.in-Leaves.action c.in-Leaves.code
    (outcome_of c.args.self.now.world.input c.args.outcome) (sym c.registers-cpu.ensures) (ap (outcome_of c.args.self.now.world.input) c.in-Leaves.is) c.leaves.ensures
