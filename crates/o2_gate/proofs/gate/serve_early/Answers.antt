use Rattle.std.proofs.Common.{ℕ, List, [], Some, None, ap, ◌∙◌, refl, subst}
use Rattle.o2_isa.specs.View.{View}
use Rattle.o2_world.specs.Calls.{avail_by, exiting, row_of, telling_pid, writing}
use Rattle.o2_world.specs.Changes.{moved_lines}
use Rattle.o2_world.specs.Outcomes.{CallRow, by_ruling, come_out, row as call_row, ruled}
use Rattle.o2_world.specs.declared.types.Slot.{Slot}
use Rattle.o2_run.specs.Pieces.{told_counts, PartHands}
use Rattle.o2_gate.specs.Befores.{boundless, before_call}
use Rattle.o2_gate.specs.Called.{Does}
use Rattle.o2_gate.specs.Given.{IsTextIn, word_in}
use Rattle.o2_gate.specs.Overs.{avail_slots, pid_slots, write_slots}
use Rattle.o2_gate.proofs.Asks.{by_number}
use Rattle.o2_gate.proofs.Fails.{does_front, only_line}
use Rattle.o2_world.specs.Slots.{pointers_in}
use Rattle.o2_gate.proofs.Gathered.{has_row, row_is}
use Rattle.o2_gate.proofs.Serves.{asked_is, avail_ready, pid_ready, row_at, targets_are, write_buffer, write_done}
use Rattle.o2_gate.proofs.gate.serve_early.Goals as goal

pub tell_pid-requires : goal.tell_pid-requires
unfolding row_of
tell_pid-requires g c =
    let is = row_at c.args.row.now c.args.service 2 c.in-2.is c.requires.row in
    let v : View = g.B.Bus.view c.args.bus.now in
    let w : ℕ → ℕ = word_in c.args.given.now.words in
    record { slots = is.slots; ready = pid_ready v w c.args.row.now.slots.now c.requires.test is.slots }

pub write-requires : goal.write-requires
unfolding row_of
write-requires g c =
    let is = row_at c.args.row.now c.args.service 4 c.in-4.is c.requires.row in
    let v : View = g.B.Bus.view c.args.bus.now in
    let w : ℕ → ℕ = word_in c.args.given.now.words in
    record { slots = is.slots; buffer = write_buffer v w c.args.row.now.slots.now c.requires.test is.slots; done = write_done v w c.args.row.now.slots.now c.requires.test is.slots }

pub tell_avail-requires : goal.tell_avail-requires
unfolding row_of
tell_avail-requires g c =
    let is = row_at c.args.row.now c.args.service 19 c.in-19.is c.requires.row in
    let v : View = g.B.Bus.view c.args.bus.now in
    let w : ℕ → ℕ = word_in c.args.given.now.words in
    record { slots = is.slots; ready = avail_ready v w c.args.row.now.slots.now c.requires.test is.slots }

pub returns-in-1-clause-does : goal.returns-in-1-clause-does
unfolding row_of
returns-in-1-clause-does g c = λ f bytes known i r e avail there.
    let v : View = g.B.Bus.view c.args.bus.now in
    let w : ℕ → ℕ = word_in c.args.given.now.words in
    let b = before_call (boundless f v) c.args.pid c.args.cpu.now bytes known in
    by_number (λ (q : CallRow). Does f b (come_out q b c.args.next w (q.outcome b w)) c.args.cpu.now v (g.B.Bus.view c.args.bus.now) i i (g.C.Sink.taken c.args.console.now) (g.C.Sink.taken c.args.console.now)
    (g.R.Sink.taken c.args.report.now) (g.R.Sink.taken c.exit.new.report) c.exit.result)
    c.args.service 1 c.in-1.is refl
    (c.exit.ensures.does f v c.args.cpu.now bytes known i _ (call_row [] [] exiting) c.args.next w e) r there

pub returns-in-1-clause-part : goal.returns-in-1-clause-part
unfolding row_of
returns-in-1-clause-part g c = λ f bytes known r avail there.
    let v : View = g.B.Bus.view c.args.bus.now in
    let w : ℕ → ℕ = word_in c.args.given.now.words in
    let b = before_call (boundless f v) c.args.pid c.args.cpu.now bytes known in
    by_number (λ (q : CallRow). PartHands (come_out q b c.args.next w (q.outcome b w))
    (told_counts (g.C.Sink.puts c.args.console.now) (g.C.Sink.puts c.args.console.now) (g.R.Sink.puts c.args.report.now) (g.R.Sink.puts c.exit.new.report) 0
    (g.R.Sink.taken c.args.report.now) (g.R.Sink.taken c.exit.new.report)) c.exit.result)
    c.args.service 1 c.in-1.is refl
    (c.exit.ensures.part (come_out (call_row [] [] exiting) b c.args.next w (exiting b w)) _ refl refl) r there

pub returns-in-2-clause-does : goal.returns-in-2-clause-does
unfolding row_of
returns-in-2-clause-does g c = λ f bytes known i r e avail there.
    let v : View = g.B.Bus.view c.args.bus.now in
    let w : ℕ → ℕ = word_in c.args.given.now.words in
    let b = before_call (boundless f v) c.args.pid c.args.cpu.now bytes known in
    let is = row_at c.args.row.now c.args.service 2 c.in-2.is c.requires.row in
    by_number (λ (q : CallRow). Does f b (come_out q b c.args.next w (q.outcome b w)) c.tell_pid.new.cpu v (g.B.Bus.view c.tell_pid.new.bus) i i (g.C.Sink.taken c.args.console.now) (g.C.Sink.taken c.args.console.now)
    (g.R.Sink.taken c.args.report.now) (g.R.Sink.taken c.tell_pid.new.report) c.tell_pid.result)
    c.args.service 2 c.in-2.is refl
    (subst (λ (x : List ℕ). Does f b (come_out (call_row x pid_slots telling_pid) b c.args.next w (telling_pid b w)) c.tell_pid.new.cpu v (g.B.Bus.view c.tell_pid.new.bus) i i (g.C.Sink.taken c.args.console.now) (g.C.Sink.taken c.args.console.now)
    (g.R.Sink.taken c.args.report.now) (g.R.Sink.taken c.tell_pid.new.report) c.tell_pid.result) is.name
    (c.tell_pid.ensures.does f bytes known i _ e)) r there

pub returns-in-2-clause-part : goal.returns-in-2-clause-part
unfolding row_of moved_lines
returns-in-2-clause-part g c = λ f bytes known r avail there.
    let v : View = g.B.Bus.view c.args.bus.now in
    let w : ℕ → ℕ = word_in c.args.given.now.words in
    let b = before_call (boundless f v) c.args.pid c.args.cpu.now bytes known in
    let is = row_at c.args.row.now c.args.service 2 c.in-2.is c.requires.row in
    by_number (λ (q : CallRow). PartHands (come_out q b c.args.next w (q.outcome b w))
    (told_counts (g.C.Sink.puts c.args.console.now) (g.C.Sink.puts c.args.console.now) (g.R.Sink.puts c.args.report.now) (g.R.Sink.puts c.tell_pid.new.report) 0
    (g.R.Sink.taken c.args.report.now) (g.R.Sink.taken c.tell_pid.new.report)) c.tell_pid.result)
    c.args.service 2 c.in-2.is refl
    (subst (λ (x : List ℕ). PartHands (come_out (call_row x pid_slots telling_pid) b c.args.next w (telling_pid b w))
    (told_counts (g.C.Sink.puts c.args.console.now) (g.C.Sink.puts c.args.console.now) (g.R.Sink.puts c.args.report.now) (g.R.Sink.puts c.tell_pid.new.report) 0
    (g.R.Sink.taken c.args.report.now) (g.R.Sink.taken c.tell_pid.new.report)) c.tell_pid.result) is.name
    (only_line (come_out (call_row c.args.row.now.name.now pid_slots telling_pid) b c.args.next w (telling_pid b w)) (g.C.Sink.puts c.args.console.now) _ _ _ _ c.tell_pid.result refl refl (does_front _ _ _ _ _ _ _ _ _ _ _ _ _ c.tell_pid.result (c.tell_pid.ensures.does f bytes known (Some bytes) None refl)) (c.tell_pid.ensures.part _))) r there

pub returns-in-4-clause-does : goal.returns-in-4-clause-does
unfolding row_of
returns-in-4-clause-does g c = λ f bytes known i r e avail there.
    let v : View = g.B.Bus.view c.args.bus.now in
    let w : ℕ → ℕ = word_in c.args.given.now.words in
    let b = before_call (boundless f v) c.args.pid c.args.cpu.now bytes known in
    let is = row_at c.args.row.now c.args.service 4 c.in-4.is c.requires.row in
    by_number (λ (q : CallRow). Does f b (come_out q b c.args.next w (q.outcome b w)) c.write.new.cpu v (g.B.Bus.view c.write.new.bus) i i (g.C.Sink.taken c.args.console.now) (g.C.Sink.taken c.write.new.console)
    (g.R.Sink.taken c.args.report.now) (g.R.Sink.taken c.write.new.report) c.write.result)
    c.args.service 4 c.in-4.is refl
    (subst (λ (x : List ℕ). Does f b (come_out (call_row x write_slots writing) b c.args.next w (writing b w)) c.write.new.cpu v (g.B.Bus.view c.write.new.bus) i i (g.C.Sink.taken c.args.console.now) (g.C.Sink.taken c.write.new.console)
    (g.R.Sink.taken c.args.report.now) (g.R.Sink.taken c.write.new.report) c.write.result) is.name
    (c.write.ensures.does f bytes known i e)) r there

pub returns-in-4-clause-part : goal.returns-in-4-clause-part
unfolding row_of
returns-in-4-clause-part g c = λ f bytes known r avail there.
    let v : View = g.B.Bus.view c.args.bus.now in
    let w : ℕ → ℕ = word_in c.args.given.now.words in
    let b = before_call (boundless f v) c.args.pid c.args.cpu.now bytes known in
    let is = row_at c.args.row.now c.args.service 4 c.in-4.is c.requires.row in
    by_number (λ (q : CallRow). PartHands (come_out q b c.args.next w (q.outcome b w))
    (told_counts (g.C.Sink.puts c.args.console.now) (g.C.Sink.puts c.write.new.console) (g.R.Sink.puts c.args.report.now) (g.R.Sink.puts c.write.new.report) 0
    (g.R.Sink.taken c.args.report.now) (g.R.Sink.taken c.write.new.report)) c.write.result)
    c.args.service 4 c.in-4.is refl
    (subst (λ (x : List ℕ). PartHands (come_out (call_row x write_slots writing) b c.args.next w (writing b w))
    (told_counts (g.C.Sink.puts c.args.console.now) (g.C.Sink.puts c.write.new.console) (g.R.Sink.puts c.args.report.now) (g.R.Sink.puts c.write.new.report) 0
    (g.R.Sink.taken c.args.report.now) (g.R.Sink.taken c.write.new.report)) c.write.result) is.name
    (c.write.ensures.part f bytes known)) r there

pub returns-in-19-clause-does : goal.returns-in-19-clause-does
unfolding row_of
returns-in-19-clause-does g c = λ f bytes known i r e avail there.
    let v : View = g.B.Bus.view c.args.bus.now in
    let w : ℕ → ℕ = word_in c.args.given.now.words in
    let b = before_call (boundless f v) c.args.pid c.args.cpu.now bytes known in
    let is = row_at c.args.row.now c.args.service 19 c.in-19.is c.requires.row in
    by_number (λ (q : CallRow). Does f b (come_out q b c.args.next w (q.outcome b w)) c.tell_avail.new.cpu v (g.B.Bus.view c.tell_avail.new.bus) i i (g.C.Sink.taken c.args.console.now) (g.C.Sink.taken c.args.console.now)
    (g.R.Sink.taken c.args.report.now) (g.R.Sink.taken c.tell_avail.new.report) c.tell_avail.result)
    c.args.service 19 c.in-19.is refl
    (subst (λ (x : List ℕ). Does f b (come_out (ruled x avail_slots avail_by) b c.args.next w (by_ruling avail_slots b (avail_by b w))) c.tell_avail.new.cpu v (g.B.Bus.view c.tell_avail.new.bus) i i (g.C.Sink.taken c.args.console.now) (g.C.Sink.taken c.args.console.now)
    (g.R.Sink.taken c.args.report.now) (g.R.Sink.taken c.tell_avail.new.report) c.tell_avail.result) is.name
    (c.tell_avail.ensures.does f bytes known i _ e avail)) r there

pub returns-in-19-clause-part : goal.returns-in-19-clause-part
unfolding row_of moved_lines
returns-in-19-clause-part g c = λ f bytes known r avail there.
    let v : View = g.B.Bus.view c.args.bus.now in
    let w : ℕ → ℕ = word_in c.args.given.now.words in
    let b = before_call (boundless f v) c.args.pid c.args.cpu.now bytes known in
    let is = row_at c.args.row.now c.args.service 19 c.in-19.is c.requires.row in
    by_number (λ (q : CallRow). PartHands (come_out q b c.args.next w (q.outcome b w))
    (told_counts (g.C.Sink.puts c.args.console.now) (g.C.Sink.puts c.args.console.now) (g.R.Sink.puts c.args.report.now) (g.R.Sink.puts c.tell_avail.new.report) 0
    (g.R.Sink.taken c.args.report.now) (g.R.Sink.taken c.tell_avail.new.report)) c.tell_avail.result)
    c.args.service 19 c.in-19.is refl
    (subst (λ (x : List ℕ). PartHands (come_out (ruled x avail_slots avail_by) b c.args.next w (by_ruling avail_slots b (avail_by b w)))
    (told_counts (g.C.Sink.puts c.args.console.now) (g.C.Sink.puts c.args.console.now) (g.R.Sink.puts c.args.report.now) (g.R.Sink.puts c.tell_avail.new.report) 0
    (g.R.Sink.taken c.args.report.now) (g.R.Sink.taken c.tell_avail.new.report)) c.tell_avail.result) is.name
    (only_line (come_out (ruled c.args.row.now.name.now avail_slots avail_by) b c.args.next w (by_ruling avail_slots b (avail_by b w))) (g.C.Sink.puts c.args.console.now) _ _ _ _ c.tell_avail.result refl refl (does_front _ _ _ _ _ _ _ _ _ _ _ _ _ c.tell_avail.result (c.tell_avail.ensures.does f bytes known (Some bytes) None refl avail)) (c.tell_avail.ensures.part _))) r there

pub returns-in_default-clause-does : goal.returns-in_default-clause-does
returns-in_default-clause-does g c = λ f bytes known i r e avail there.
    let v : View = g.B.Bus.view c.args.bus.now in
    let w : ℕ → ℕ = word_in c.args.given.now.words in
    let b = before_call (boundless f v) c.args.pid c.args.cpu.now bytes known in
    let x = c.ask-arguments.result in
    let is = row_is c.args.row.now c.args.service r there c.requires.row in
    record {
      effect = asked_is x c.args.service c.args.given.now.words c.ask-arguments.ensures.service c.ask-arguments.ensures.words r there b c.args.next
          (c.ask-arguments.ensures.ruled v f b r there (subst (λ (ss : List Slot). IsTextIn v w c.args.given.now.text ss) is.slots c.requires.text) refl);
      untouched = record { cpu = refl; view = refl; input = refl; to_console = refl; to_report = refl };
    }

pub returns-in_default-clause-aims : goal.returns-in_default-clause-aims
returns-in_default-clause-aims g c = λ f.
    let v : View = g.B.Bus.view c.args.bus.now in
    let w : ℕ → ℕ = word_in c.args.given.now.words in
    let h = has_row c.args.service c.args.row.now c.requires.row in
    let x = c.ask-arguments.result in
    ap (λ (ss : List Slot). pointers_in ss (boundless f v) w) h.row.slots
    ∙ targets_are x c.args.service c.args.given.now.words c.ask-arguments.ensures.service c.ask-arguments.ensures.words h.r h.is (pointers_in h.r.slots (boundless f v) w)
    (c.ask-arguments.ensures.aims v f h.r h.is (subst (λ (ss : List Slot). IsTextIn v w c.args.given.now.text ss) h.row.slots c.requires.text))

pub returns-in-1-clause-puts : goal.returns-in-1-clause-puts
returns-in-1-clause-puts g c = c.exit.ensures.puts _

pub returns-in-2-clause-puts : goal.returns-in-2-clause-puts
returns-in-2-clause-puts g c = c.tell_pid.ensures.puts _

pub returns-in-19-clause-puts : goal.returns-in-19-clause-puts
returns-in-19-clause-puts g c = c.tell_avail.ensures.puts _
