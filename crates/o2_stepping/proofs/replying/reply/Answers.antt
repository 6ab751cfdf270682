use Rattle.std.proofs.Common.{true, false, sym, ◌∙◌, refl}
use Rattle.o2_gate.specs.Replies.{lines_of}
use Rattle.o2_stepping.proofs.ReplyLines.{call_fails, clear_count, clear_fails, clear_report, clear_state, failed_put, failed_then, hands_as, hands_then, late_fails, late_put, part_put, set_count, set_failed, set_late, set_state, set_whole, whole_count, whole_then}
use Rattle.o2_stepping.proofs.replying.reply.Goals as goal

-- Without the trap flag.

pub returns-then-not-has_trap_flag-clause-state : goal.returns-then-not-has_trap_flag-clause-state
returns-then-not-has_trap_flag-clause-state g c = clear_state c.args.pid c.args.before.now (sym c.has_trap_flag.ensures ∙ c.if-not-has_trap_flag.true)

pub returns-then-not-has_trap_flag-clause-lines : goal.returns-then-not-has_trap_flag-clause-lines
returns-then-not-has_trap_flag-clause-lines g c =
    let a = c.args in
    clear_count a.pid a.before.now (sym c.has_trap_flag.ensures ∙ c.if-not-has_trap_flag.true) (lines_of a.arguments a.pid a.answer.now.error a.answer.now.value a.moves.now) _
    (c.line_count-lines.ensures.count a.arguments a.pid a.answer.now.error a.answer.now.value)

pub returns-then-not-has_trap_flag-clause-report : goal.returns-then-not-has_trap_flag-clause-report
returns-then-not-has_trap_flag-clause-report g c =
    let a = c.args in
    clear_report a.pid a.before.now (sym c.has_trap_flag.ensures ∙ c.if-not-has_trap_flag.true) (lines_of a.arguments a.pid a.answer.now.error a.answer.now.value a.moves.now) c.put_lines-whole.result _ _
    c.put_lines-whole.ensures.report

pub returns-then-not-has_trap_flag-clause-puts : goal.returns-then-not-has_trap_flag-clause-puts
returns-then-not-has_trap_flag-clause-puts g c = λ z.
    let a = c.args in
    hands_as c.put_lines-whole.result _ _ _ (c.line_count-lines.ensures.count a.arguments a.pid a.answer.now.error a.answer.now.value) (c.put_lines-whole.ensures.puts z)

-- With it, where a line of the call failed.

pub returns-then-not-whole-clause-state : goal.returns-then-not-whole-clause-state
returns-then-not-whole-clause-state g c = set_state c.args.pid c.args.before.now (sym c.has_trap_flag.ensures ∙ c.if-not-has_trap_flag.false)

pub returns-then-not-whole-clause-lines : goal.returns-then-not-whole-clause-lines
returns-then-not-whole-clause-lines g c =
    let a = c.args in
    set_count a.pid a.before.now (sym c.has_trap_flag.ensures ∙ c.if-not-has_trap_flag.false) (lines_of a.arguments a.pid a.answer.now.error a.answer.now.value a.moves.now) _ _
    (c.line_count-lines.ensures.count a.arguments a.pid a.answer.now.error a.answer.now.value) refl

pub returns-then-not-whole-clause-report : goal.returns-then-not-whole-clause-report
returns-then-not-whole-clause-report g c =
    let a = c.args in
    set_failed a.pid a.before.now (sym c.has_trap_flag.ensures ∙ c.if-not-has_trap_flag.false) (lines_of a.arguments a.pid a.answer.now.error a.answer.now.value a.moves.now) _ _
    (failed_then c.put_lines-whole.result _ _ _ c.if-not-whole.true c.put_lines-whole.ensures.report)

pub returns-then-not-whole-clause-puts : goal.returns-then-not-whole-clause-puts
returns-then-not-whole-clause-puts g c = λ z.
    let a = c.args in
    failed_put z _ _ 0 _ _ _ (sym (c.line_count-lines.ensures.count a.arguments a.pid a.answer.now.error a.answer.now.value)) refl (hands_then c.put_lines-whole.result false _ _ c.if-not-whole.true (c.put_lines-whole.ensures.puts z))

-- Where the line of the exception is put, or fails.

pub returns-in-Done-clause-state : goal.returns-in-Done-clause-state
returns-in-Done-clause-state g c = set_state c.args.pid c.args.before.now (sym c.has_trap_flag.ensures ∙ c.if-not-has_trap_flag.false)

pub returns-in-Done-clause-lines : goal.returns-in-Done-clause-lines
returns-in-Done-clause-lines g c =
    let a = c.args in
    set_count a.pid a.before.now (sym c.has_trap_flag.ensures ∙ c.if-not-has_trap_flag.false) (lines_of a.arguments a.pid a.answer.now.error a.answer.now.value a.moves.now) _ _
    (c.line_count-lines.ensures.count a.arguments a.pid a.answer.now.error a.answer.now.value) refl

pub returns-in-Done-clause-report : goal.returns-in-Done-clause-report
returns-in-Done-clause-report g c =
    let a = c.args in
    set_whole a.pid a.before.now (sym c.has_trap_flag.ensures ∙ c.if-not-has_trap_flag.false) (lines_of a.arguments a.pid a.answer.now.error a.answer.now.value a.moves.now) _ _ _
    (whole_then c.put_lines-whole.result _ _ _ c.if-not-whole.false c.put_lines-whole.ensures.report) c.in-Done.ensures.report

pub returns-in-Done-clause-puts : goal.returns-in-Done-clause-puts
returns-in-Done-clause-puts g c = λ z.
    let a = c.args in
    late_put z _ _ _ _ _ _ (sym (c.line_count-lines.ensures.count a.arguments a.pid a.answer.now.error a.answer.now.value)) refl (hands_then c.put_lines-whole.result true _ _ c.if-not-whole.false (c.put_lines-whole.ensures.puts z)) c.put_trap.ensures.puts

pub returns-in-Failed-clause-state : goal.returns-in-Failed-clause-state
returns-in-Failed-clause-state g c = set_state c.args.pid c.args.before.now (sym c.has_trap_flag.ensures ∙ c.if-not-has_trap_flag.false)

pub returns-in-Failed-clause-lines : goal.returns-in-Failed-clause-lines
returns-in-Failed-clause-lines g c =
    let a = c.args in
    set_count a.pid a.before.now (sym c.has_trap_flag.ensures ∙ c.if-not-has_trap_flag.false) (lines_of a.arguments a.pid a.answer.now.error a.answer.now.value a.moves.now) _ _
    (c.line_count-lines.ensures.count a.arguments a.pid a.answer.now.error a.answer.now.value) refl

pub returns-in-Failed-clause-report : goal.returns-in-Failed-clause-report
returns-in-Failed-clause-report g c =
    let a = c.args in
    set_late a.pid a.before.now (sym c.has_trap_flag.ensures ∙ c.if-not-has_trap_flag.false) (lines_of a.arguments a.pid a.answer.now.error a.answer.now.value a.moves.now) _ _ _
    (whole_then c.put_lines-whole.result _ _ _ c.if-not-whole.false c.put_lines-whole.ensures.report) c.in-Failed.ensures.report

pub returns-in-Failed-clause-puts : goal.returns-in-Failed-clause-puts
returns-in-Failed-clause-puts g c = λ z.
    let a = c.args in
    part_put z _ _ _ _ _ _ (sym (c.line_count-lines.ensures.count a.arguments a.pid a.answer.now.error a.answer.now.value)) refl (hands_then c.put_lines-whole.result true _ _ c.if-not-whole.false (c.put_lines-whole.ensures.puts z)) c.put_trap.ensures.puts

-- Which line failed.

pub returns-then-not-has_trap_flag-clause-line : goal.returns-then-not-has_trap_flag-clause-line
returns-then-not-has_trap_flag-clause-line g c = λ e.
    let a = c.args in
    clear_fails a.pid a.before.now (sym c.has_trap_flag.ensures ∙ c.if-not-has_trap_flag.true) (lines_of a.arguments a.pid a.answer.now.error a.answer.now.value a.moves.now) _ _ _ _
    (c.put_lines-whole.ensures.line e)

pub returns-then-not-whole-clause-line : goal.returns-then-not-whole-clause-line
returns-then-not-whole-clause-line g c = λ e.
    let a = c.args in
    call_fails a.pid a.before.now (lines_of a.arguments a.pid a.answer.now.error a.answer.now.value a.moves.now) _ _ _ _ (c.put_lines-whole.ensures.line c.if-not-whole.true)

pub returns-in-Done-clause-line : goal.returns-in-Done-clause-line
returns-in-Done-clause-line g c = λ e. absurd (cc)

pub returns-in-Failed-clause-line : goal.returns-in-Failed-clause-line
returns-in-Failed-clause-line g c = λ e.
    let a = c.args in
    late_fails a.pid a.before.now (sym c.has_trap_flag.ensures ∙ c.if-not-has_trap_flag.false) (lines_of a.arguments a.pid a.answer.now.error a.answer.now.value a.moves.now) _ _ _ _ _ _
    (whole_then c.put_lines-whole.result _ _ _ c.if-not-whole.false c.put_lines-whole.ensures.report)
    (whole_count c.put_lines-whole.result 0 _ _ _ c.if-not-whole.false (c.put_lines-whole.ensures.puts 0)) c.in-Failed.ensures.report c.put_trap.ensures.puts
