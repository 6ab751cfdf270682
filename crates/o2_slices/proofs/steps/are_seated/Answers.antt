use Rattle.std.proofs.Common.{ap, sym, ◌∙◌}
use Rattle.o2_segbus.specs.Opening.{are_shown}
use Rattle.o2_slices.proofs.Shown.{shown_here}
use Rattle.o2_slices.proofs.steps.are_seated.Goals as goal

pub returns-then-are_shown : goal.returns-then-are_shown
returns-then-are_shown c = λ e.
    shown_here c.args.regions.now c.args.pid c.args.cpu.now (sym (ap are_shown c.requires.registers) ∙ (sym c.are_shown.ensures ∙ c.if-are_shown.true))
