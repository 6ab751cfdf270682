use Rattle.std.proofs.Common.{ℕ, ◌+◌, List, [], ◌∷◌, inl, inr, ap, sym, ◌∙◌, subst, refl, arith}
use Rattle.std.specs.Prelude.{Result, Err}
use Rattle.o2_outer.specs.declared.sink.Put.TheVariants as put
use Rattle.o2_isa.specs.View.{View, whole}
use Rattle.o2_world.specs.declared.types.Argument.TheVariants.{Word}
use Rattle.o2_world.specs.declared.types.Slot.{Slot}
use Rattle.o2_world.specs.declared.types.State.TheVariants.{Live}
use Rattle.o2_world.specs.Calls.{range_of, writing}
use Rattle.o2_world.specs.Changes.{moved_lines}
use Rattle.o2_world.specs.Outcomes.{Fails, Outcome, come_out, row as call_row}
use Rattle.o2_world.specs.Slots.{shown_in}
use Rattle.o2_world.specs.Text.{lines_text}
use Rattle.o2_world.specs.World.{Calls}
use Rattle.o2_gate.specs.Befores.{boundless, before_call}
use Rattle.o2_gate.specs.Called.{IsInPart, IsMade, PutInPart}
use Rattle.o2_gate.specs.Given.{word_in}
use Rattle.o2_gate.specs.Overs.{write_slots}
use Rattle.o2_run.specs.declared.fault.Fault.{Fault}
use Rattle.o2_run.specs.declared.fault.Fault.TheVariants as fault
use Rattle.o2_run.specs.Pieces.{told_counts, AtLine, AtPiece, PartHands, puts_of}
use Rattle.o2_run.proofs.FailedLines.{fails_only}
use Rattle.o2_gate.specs.declared.called.Called.{Called}
use Rattle.o2_gate.proofs.Fails.{only_line}
use Rattle.o2_gate.proofs.Lines.{slots_line, writing_done, writing_refused}
use Rattle.o2_gate.proofs.write.write.Goals as goal

pub returns-in-Failed-put_both-clause-does : goal.returns-in-Failed-put_both-clause-does
unfolding moved_lines
returns-in-Failed-put_both-clause-does g c = λ f input known i e.
    let v : View = g.B.Bus.view c.args.bus.now in
    let w : ℕ → ℕ = word_in c.args.words.now in
    let b = before_call (boundless f v) c.args.pid c.args.cpu.now input known in
    let part = subst (λ (ss : List Slot). PutInPart (range_of v.held (whole f v).bytes (w 4) (w 3) (w 2)) (lines_text (Calls c.args.pid c.args.row.now.name.now (shown_in ss w) 0 (Word (w 2) ∷ []) ∷ []))
    (g.C.Sink.taken c.args.console.now) (g.C.Sink.taken c.put_both.new.console) (g.R.Sink.taken c.args.report.now) (g.R.Sink.taken c.put_both.new.report)) c.requires.slots (c.in-Failed-put_both.ensures.both f) in
    subst (λ (o : Outcome). IsInPart (come_out (call_row c.args.row.now.name.now write_slots writing) b c.args.next w o) c.args.cpu.now c.args.cpu.now v v i i
    (g.C.Sink.taken c.args.console.now) (g.C.Sink.taken c.put_both.new.console) (g.R.Sink.taken c.args.report.now) (g.R.Sink.taken c.put_both.new.report))
    (sym (writing_done b w (sym c.is_console.ensures ∙ c.if-not-is_console.false)))
    (record {
      cpu = refl;
      view = refl;
      input = e;
      to_console = part.to_console;
      to_report = part.to_report;
      in_order = part.in_order;
      selectors = record { es = refl; cs = refl; ss = refl; ds = refl };
      changes = refl;
      waits = refl;
    })

pub returns-in-Done-put_both-clause-does : goal.returns-in-Done-put_both-clause-does
unfolding moved_lines
returns-in-Done-put_both-clause-does g c = λ f input known i e.
    let v : View = g.B.Bus.view c.args.bus.now in
    let w : ℕ → ℕ = word_in c.args.words.now in
    let b = before_call (boundless f v) c.args.pid c.args.cpu.now input known in
    let both = c.in-Done-put_both.ensures.both f in
    subst (λ (o : Outcome). IsMade f (come_out (call_row c.args.row.now.name.now write_slots writing) b c.args.next w o) Live (w 2) 1 c.give_back-in-Done-put_both.new.cpu (g.B.Bus.view c.store_word.new.bus) i
    (g.C.Sink.taken c.args.console.now) (g.C.Sink.taken c.put_both.new.console) (g.R.Sink.taken c.args.report.now) (g.R.Sink.taken c.put_both.new.report))
    (sym (writing_done b w (sym c.is_console.ensures ∙ c.if-not-is_console.false)))
    (record {
      state = refl;
      changes = refl;
      waits = refl;
      piece = c.in-Done-put_both.ensures.len f;
      lines = refl;
      cpu = c.give_back-in-Done-put_both.ensures;
      bytes = λ n. c.store_word.ensures.bytes f n;
      input = e;
      to_console = both.0;
      to_report = rw c.requires.slots at both.1;
    })

pub returns-in-Failed-clause-part : goal.returns-in-Failed-clause-part
unfolding moved_lines
returns-in-Failed-clause-part g c = λ f input known.
    let v : View = g.B.Bus.view c.args.bus.now in
    let w : ℕ → ℕ = word_in c.args.words.now in
    let b = before_call (boundless f v) c.args.pid c.args.cpu.now input known in
    let k = g.C.Sink.puts c.args.console.now in
    let r = g.R.Sink.taken c.args.report.now in
    let q = g.R.Sink.taken c.put_call.new.report in
    let fails : Result Called Fault = Err fault.Sink in
    subst (λ (o : Outcome). PartHands (come_out (call_row c.args.row.now.name.now write_slots writing) b c.args.next w o) (told_counts k k (g.R.Sink.puts c.args.report.now) (g.R.Sink.puts c.put_call.new.report) 0 r q) fails)
    (sym (writing_refused b w (sym c.is_console.ensures ∙ c.if-not-is_console.true)))
    (only_line (come_out (call_row c.args.row.now.name.now write_slots writing) b c.args.next w (Fails 6 (Word (w 2) ∷ []))) k _ _ r q fails refl refl (slots_line c.args.pid c.args.row.now.name.now w 6 (Word (w 2) ∷ []) c.requires.slots r q put.Failed c.in-Failed.ensures.report)
    (record { to_console = omega arith; to_report = omega (arith, c.in-Failed.ensures.puts) }))

pub returns-in-Failed-put_both-clause-part : goal.returns-in-Failed-put_both-clause-part
unfolding moved_lines
returns-in-Failed-put_both-clause-part g c = λ f input known.
    let v : View = g.B.Bus.view c.args.bus.now in
    let w : ℕ → ℕ = word_in c.args.words.now in
    let b = before_call (boundless f v) c.args.pid c.args.cpu.now input known in
    let r = g.R.Sink.taken c.args.report.now in
    let q = g.R.Sink.taken c.put_both.new.report in
    let part = subst (λ (ss : List Slot). PutInPart (range_of v.held (whole f v).bytes (w 4) (w 3) (w 2)) (lines_text (Calls c.args.pid c.args.row.now.name.now (shown_in ss w) 0 (Word (w 2) ∷ []) ∷ []))
    (g.C.Sink.taken c.args.console.now) (g.C.Sink.taken c.put_both.new.console) r q) c.requires.slots (c.in-Failed-put_both.ensures.both f) in
    let piece = c.put_both.ensures.piece ∙ ap (λ (n : ℕ). g.C.Sink.puts c.args.console.now + puts_of n) (sym (c.put_both.ensures.len f)) in
    let fails : Result Called Fault = Err fault.Sink in
    subst (λ (o : Outcome). PartHands (come_out (call_row c.args.row.now.name.now write_slots writing) b c.args.next w o)
    (told_counts (g.C.Sink.puts c.args.console.now) (g.C.Sink.puts c.put_both.new.console) (g.R.Sink.puts c.args.report.now) (g.R.Sink.puts c.put_both.new.report) 0 r q) fails)
    (sym (writing_done b w (sym c.is_console.ensures ∙ c.if-not-is_console.false)))
    (elim c.in-Failed-put_both.ensures.failed [
      | inl same ↦ AtPiece piece (ap g.R.Sink.taken same) (ap g.R.Sink.puts same)
      | inr one ↦ AtLine piece (fails_only _ r q _ _ refl part.to_report one)
    ])
