use Rattle.std.proofs.Common.{ℕ, List, ◌++◌, refl, ap, ◌∙◌}
use Rattle.o2_boundless.specs.Worked.{with_parts, with_console, with_report}
use Rattle.o2_boundless.proofs.Behind.{worked_parts}
use Rattle.o2_boundless.proofs.world.World.work.Goals as goal

pub returns : goal.returns
returns c =
    worked_parts c.args.self.now c.args.self.now c.write_behind.new.self c.put_process.new.self c.take_input.new.self c.add_lines.new.self c.args.number c.args.process.now
    c.in_ok-after.after c.args.effect.now refl
    (c.in_ok-write_behind.ensures ∙ ap (λ (ts : List (ℕ × ℕ)). with_parts c.args.process.now.held ts c.deref-2.result.now c.args.self.now) c.deref.ensures.value
    ∙ ap (λ (ps : List (List ℕ)). with_parts c.args.process.now.held c.args.effect.now.targets.items ps c.args.self.now) c.deref-2.ensures.value)
    c.in_ok-after.ensures c.put_process.ensures c.in_ok-take_input.ensures c.add_piece.new.self
    (c.in_ok-add_piece.ensures ∙ ap (λ (bs : List ℕ). with_console (c.take_input.new.self.world.console ++ bs) c.take_input.new.self) c.deref-3.ensures.value)
    (c.in_ok-add_lines.ensures ∙ ap (λ (bs : List ℕ). with_report (c.add_piece.new.self.report ++ bs) c.add_piece.new.self) c.deref-4.ensures.value)
