use Rattle.o2_machine.specs.Lasts.{put_of, stopped_of}
use Rattle.o2_machine.specs.StandsFor.{StandsFor}
use Rattle.o2_machine.proofs.Wordings.{word_is}
use Rattle.o2_machine.proofs.Turns.{turns_answered, caused_answered, caused_device}
use Rattle.std.proofs.Common.{length, ap, arith, refl, sym, subst, ◌∙◌}
use Rattle.o2_run.specs.declared.steps.Turn.{Turn}
use Rattle.o2_run.specs.Pieces.{told_counts, TurnHands}
use Rattle.o2_machine.proofs.turn.MachineSteps.turn.Goals as goal

pub returns-else-is_word-clause-turns : goal.returns-else-is_word-clause-turns
returns-else-is_word-clause-turns g c = λ fresh tells text may s w stands left.
    turns_answered (StandsFor c.advance-last.new.self (g.S.SwapDevice.blocks c.advance-last.new.swap) (g.S.SwapDevice.block c.advance-last.new.swap) s) _
    (λ v x. record { space = x.space; sound = x.sound; told = x.told; set = x.set; flags = x.flags; dispatch = x.dispatch; quantum = x.quantum; known = record { avail = x.known.avail }; spells = x.spells; budget = x.budget; console = x.console; lines = x.lines })
    _ _ s w _ _ _ _ _ _ _ _ c.answer-in-None.ensures (c.advance-last.ensures.turns tells text may s w stands left)

pub returns-else-is_word-clause-cause : goal.returns-else-is_word-clause-cause
returns-else-is_word-clause-cause g c = λ fresh. caused_answered _ _ _ _ _ c.answer-in-None.ensures (caused_device _ _ _ _ c.advance-last.ensures.cause c.advance-last.ensures.frame.cause)

pub returns-else-is_word-clause-puts : goal.returns-else-is_word-clause-puts
returns-else-is_word-clause-puts g c = λ fresh tells text may s w stands left.
    subst (λ (t : Turn). TurnHands s w (told_counts (g.C.Sink.puts c.args.console.now) (g.C.Sink.puts c.advance-last.new.console) (g.R.Sink.puts c.args.report.now) (g.R.Sink.puts c.advance-last.new.report) (length w.lines)
    (g.R.Sink.taken c.args.report.now) (g.R.Sink.taken c.advance-last.new.report)) t)
    (sym c.answer-in-None.ensures) (c.advance-last.ensures.puts tells text may s w stands left)

pub returns-else-is_word-clause-idle : goal.returns-else-is_word-clause-idle
returns-else-is_word-clause-idle g c = λ fresh tells text may s w stands left none fits.
    let idle = c.advance-last.ensures.idle tells text may s w stands left fits none in
    (idle.device, idle.none)

-- A word.

pub returns-then-is_word-clause-turns : goal.returns-then-is_word-clause-turns
returns-then-is_word-clause-turns g c = λ fresh tells text may s w stands left.
    let does = c.discard.ensures.stands (g.S.SwapDevice.blocks c.args.swap.now) (g.S.SwapDevice.block c.args.swap.now) s w stands in
    record { next = does.0; input = left; stands = does.1; to_console = refl; to_report = refl }

pub discard-requires-clause-pick : goal.discard-requires-clause-pick
discard-requires-clause-pick g c = sym c.coming-pick.ensures.pick ∙ word_is c.coming-pick.result (sym c.is_word.ensures ∙ c.if-is_word.true)

pub advance-last-requires-clause-wordless : goal.advance-last-requires-clause-wordless
advance-last-requires-clause-wordless g c = sym c.is_word.ensures ∙ c.if-is_word.false

pub discard-requires-clause-device : goal.discard-requires-clause-device
discard-requires-clause-device g c = record { blocks = g.S.SwapDevice.blocks c.args.swap.now; over = c.requires.device }

pub returns-then-is_word-clause-stops : goal.returns-then-is_word-clause-stops
returns-then-is_word-clause-stops g c = ap stopped_of (c.discard.ensures.last ∙ c.in-None.is)

pub returns-then-is_word-clause-line : goal.returns-then-is_word-clause-line
returns-then-is_word-clause-line g c = λ fresh. ap put_of (c.discard.ensures.last ∙ c.in-None.is)

pub returns-then-is_word-clause-device : goal.returns-then-is_word-clause-device
returns-then-is_word-clause-device g c = c.discard.ensures.device (g.S.SwapDevice.blocks c.args.swap.now) c.requires.device

pub returns-then-is_word-clause-puts : goal.returns-then-is_word-clause-puts
returns-then-is_word-clause-puts g c = λ fresh tells text may s w stands left. record { to_console = omega arith; to_report = omega arith }

pub returns-then-is_word-clause-idle : goal.returns-then-is_word-clause-idle
returns-then-is_word-clause-idle g c = λ fresh tells text may s w stands left none fits. (refl, c.discard.ensures.idle none)
