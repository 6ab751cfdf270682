-- The call by what was gathered, and by its service.
use Rattle.std.proofs.Common.{◌≡◌, ℕ, ◌==◌, ◌&&◌, List, [], Some, None, true, not, ap, sym, ◌∙◌, subst, refl, arith}
use Rattle.o2_outer.specs.Inputs.{left_as}
use Rattle.o2_isa.specs.Pointers.{is_ready}
use Rattle.o2_isa.specs.View.{View, Filling, is_writable}
use Rattle.o2_run.specs.Pieces.{told_counts, PartHands}
use Rattle.o2_run.specs.Room.{call_names, pointed}
use Rattle.o2_world.specs.Calls.{Effect, asks, read_slots, reading, row_of}
use Rattle.o2_world.specs.Outcomes.{CallRow, come_out, row as call_row}
use Rattle.o2_world.specs.Slots.{Pointer, pointers_in}
use Rattle.o2_gate.specs.Befores.{boundless, before_call}
use Rattle.o2_gate.specs.Called.{Does, DoesFor}
use Rattle.o2_gate.specs.Given.{word_in}
use Rattle.o2_gate.specs.Heaps.{heap_names, selector_of}
use Rattle.o2_gate.specs.Names.{TellsNames}
use Rattle.o2_gate.specs.Pointed.{are_ready}
use Rattle.o2_gate.specs.Targets.{targets}
use Rattle.o2_gate.proofs.Asks.{by_number}
use Rattle.o2_gate.proofs.Fails.{does_front}
use Rattle.o2_gate.proofs.Gathered.{early_names, good_is, good_late_names, good_names, has_row, missed_names, on_asked, over_missed, tells_present, tells_same, trap_is, trap_names}
use Rattle.o2_gate.proofs.Heaps.{heap_first, heap_last, is_early}
use Rattle.o2_gate.proofs.Inputs.{next_reason}
use Rattle.o2_gate.proofs.Lines.{read_part}
use Rattle.o2_gate.proofs.Serves.{asks_by, given_word, read_buffer, read_done, row_at}
use Rattle.o2_gate.proofs.gate.call.Goals as goal

pub returns-in-Trap-clause-does : goal.returns-in-Trap-clause-does
returns-in-Trap-clause-does g c = λ text m f bytes known bound e is.
    let v : View = g.B.Bus.view c.args.bus.now in
    let x = c.in-Some.row in
    record {
      effect = trap_is v c.args.cpu.now c.args.service c.args.next c.args.pid f bound bytes known x
          c.in-Some.ensures.row c.in-Trap.vector c.in-Trap.ensures.gathers;
      code = refl;
      untouched = record { cpu = refl; view = c.gather.ensures.same; input = refl; to_console = refl; to_report = refl };
    }

pub returns-in-Trap-clause-every : goal.returns-in-Trap-clause-every
returns-in-Trap-clause-every g c = λ other f bytes known bound is.
    let v : View = g.B.Bus.view c.args.bus.now in
    let x = c.in-Some.row in
    record {
      effect = trap_is v c.args.cpu.now c.args.service c.args.next c.args.pid f bound bytes known x
          c.in-Some.ensures.row c.in-Trap.vector c.in-Trap.ensures.gathers;
      code = refl;
      untouched = record { cpu = refl; view = c.gather.ensures.same; input = refl; to_console = refl; to_report = refl };
    }

pub returns-in-Trap-clause-names : goal.returns-in-Trap-clause-names
returns-in-Trap-clause-names g c = λ input known bound f.
    let v : View = g.B.Bus.view c.args.bus.now in
    let x = c.in-Some.row in
    trap_names v c.args.cpu.now c.args.service c.args.next c.args.pid f bound input known x c.in-Some.ensures.row c.in-Trap.vector c.in-Trap.ensures.gathers

pub returns-in-Missed-clause-names : goal.returns-in-Missed-clause-names
returns-in-Missed-clause-names g c = λ input known bound f.
    let v : View = g.B.Bus.view c.args.bus.now in
    let x = c.in-Some.row in
    missed_names v c.args.cpu.now c.args.service c.args.next c.args.pid f bound input known x c.in-Some.ensures.row c.in-Missed.sel c.in-Missed.ensures.gathers

pub read-requires-clause-slots : goal.read-requires-clause-slots
unfolding row_of
read-requires-clause-slots g c = (row_at c.in-Some.row c.args.service 3 c.if-service-eq3.true c.in-Some.ensures.row).slots

pub read-requires-clause-buffer : goal.read-requires-clause-buffer
unfolding row_of
read-requires-clause-buffer g c =
    let is = row_at c.in-Some.row c.args.service 3 c.if-service-eq3.true c.in-Some.ensures.row in
    subst (λ (z : View). is_ready is_writable z (word_in c.in-Good.given.words 4) (word_in c.in-Good.given.words 3) (word_in c.in-Good.given.words 2) ≡ true) (sym c.gather.ensures.same)
    (read_buffer (g.B.Bus.view c.args.bus.now) (word_in c.in-Good.given.words) c.in-Some.row.slots.now c.in-Good.ensures.gathers.test is.slots)

pub read-requires-clause-done : goal.read-requires-clause-done
unfolding row_of
read-requires-clause-done g c =
    let is = row_at c.in-Some.row c.args.service 3 c.if-service-eq3.true c.in-Some.ensures.row in
    subst (λ (z : View). is_ready is_writable z (word_in c.in-Good.given.words 1) (word_in c.in-Good.given.words 0) 2 ≡ true) (sym c.gather.ensures.same)
    (read_done (g.B.Bus.view c.args.bus.now) (word_in c.in-Good.given.words) c.in-Some.row.slots.now c.in-Good.ensures.gathers.test is.slots)

pub returns-then-service-eq3-clause-does : goal.returns-then-service-eq3-clause-does
unfolding row_of
returns-then-service-eq3-clause-does g c = λ text m f bytes known bound e is.
    let v : View = g.B.Bus.view c.args.bus.now in
    let x = c.in-Some.row in
    let w : ℕ → ℕ = word_in c.in-Good.given.words in
    let b = before_call (boundless f v) c.args.pid c.args.cpu.now bytes known in
    let h = has_row c.args.service x c.in-Some.ensures.row in
    let at = row_at x c.args.service 3 c.if-service-eq3.true c.in-Some.ensures.row in
    let did = subst (λ (z : View). DoesFor (((w 5 == 0) && not (w 2 == 0)) ≡ true) f
    (before_call (boundless f z) c.args.pid c.args.cpu.now bytes known)
    (come_out (call_row x.name.now read_slots reading) (before_call (boundless f z) c.args.pid c.args.cpu.now bytes known) c.args.next w (reading (before_call (boundless f z) c.args.pid c.args.cpu.now bytes known) w))
    c.read.new.cpu z (g.B.Bus.view c.read.new.bus)
    (left_as text (g.I.Source.left c.args.input.now) (g.I.Source.past c.args.input.now)) (left_as text (g.I.Source.left c.read.new.input) (g.I.Source.past c.read.new.input))
    (g.C.Sink.taken c.args.console.now) (g.C.Sink.taken c.args.console.now) (g.R.Sink.taken c.args.report.now) (g.R.Sink.taken c.read.new.report) c.read.result) c.gather.ensures.same
    (c.read.ensures.does text m f bytes known _ e) in
    let named = subst (λ (n : List ℕ). DoesFor (((w 5 == 0) && not (w 2 == 0)) ≡ true) f b
    (come_out (call_row n read_slots reading) b c.args.next w (reading b w)) c.read.new.cpu v (g.B.Bus.view c.read.new.bus)
    (left_as text (g.I.Source.left c.args.input.now) (g.I.Source.past c.args.input.now)) (left_as text (g.I.Source.left c.read.new.input) (g.I.Source.past c.read.new.input))
    (g.C.Sink.taken c.args.console.now) (g.C.Sink.taken c.args.console.now) (g.R.Sink.taken c.args.report.now) (g.R.Sink.taken c.read.new.report) c.read.result) at.name did in
    subst (λ (y : Effect). DoesFor (asks b ≡ true) f b (y) c.read.new.cpu v (g.B.Bus.view c.read.new.bus)
    (left_as text (g.I.Source.left c.args.input.now) (g.I.Source.past c.args.input.now)) (left_as text (g.I.Source.left c.read.new.input) (g.I.Source.past c.read.new.input))
    (g.C.Sink.taken c.args.console.now) (g.C.Sink.taken c.args.console.now) (g.R.Sink.taken c.args.report.now) (g.R.Sink.taken c.read.new.report) c.read.result)
    (sym (good_is v c.args.cpu.now c.args.service c.args.next c.args.pid f bound bytes known x c.in-Some.ensures.row c.in-Good.given.words c.in-Good.given.text c.in-Good.ensures.gathers))
    (by_number (λ (q : CallRow). DoesFor (asks b ≡ true) f b (come_out q b c.args.next w (q.outcome b w)) c.read.new.cpu v (g.B.Bus.view c.read.new.bus)
    (left_as text (g.I.Source.left c.args.input.now) (g.I.Source.past c.args.input.now)) (left_as text (g.I.Source.left c.read.new.input) (g.I.Source.past c.read.new.input))
    (g.C.Sink.taken c.args.console.now) (g.C.Sink.taken c.args.console.now) (g.R.Sink.taken c.args.report.now) (g.R.Sink.taken c.read.new.report) c.read.result) c.args.service 3 c.if-service-eq3.true refl
    (next_reason _ _ (asks_by v c.args.cpu.now at.slots c.in-Good.given.words f bound c.args.pid bytes known c.in-Good.ensures.gathers.read_in c.in-Good.ensures.gathers.test) f b _ _ _ _ _ _ _ _ _ _ c.read.result named) h.r h.is)

pub returns-then-service-eq3-clause-names : goal.returns-then-service-eq3-clause-names
returns-then-service-eq3-clause-names g c = λ input known bound.
    let v : View = g.B.Bus.view c.args.bus.now in
    let x = c.in-Some.row in
    tells_present v (λ f. call_names (before_call (boundless f v) c.args.pid c.args.cpu.now input known) (row_of c.args.service)) c.read.result (over_missed c.read.result c.read.ensures.over _)
    (λ f. good_names v c.args.cpu.now c.args.service c.args.next c.args.pid f bound input known x c.in-Some.ensures.row c.in-Good.given.words c.in-Good.given.text c.in-Good.ensures.gathers
    (is_early c.args.service (omega (arith, c.if-service-eq3.true))))

pub returns-then-service-eq3-clause-puts : goal.returns-then-service-eq3-clause-puts
returns-then-service-eq3-clause-puts g c = c.read.ensures.puts _

pub returns-then-service-eq3-clause-nothing : goal.returns-then-service-eq3-clause-nothing
unfolding row_of
returns-then-service-eq3-clause-nothing g c = λ is f bound none.
    let v : View = g.B.Bus.view c.args.bus.now in
    let x = c.in-Some.row in
    let at = row_at x c.args.service 3 c.if-service-eq3.true c.in-Some.ensures.row in
    c.read.ensures.nothing (sym (given_word v c.args.cpu.now at.slots c.in-Good.given.words f bound c.in-Good.ensures.gathers.read_in 2 (omega arith)) ∙ none)

pub returns-then-service-eq3-clause-refused : goal.returns-then-service-eq3-clause-refused
unfolding row_of
returns-then-service-eq3-clause-refused g c = λ is f bound other.
    let v : View = g.B.Bus.view c.args.bus.now in
    let x = c.in-Some.row in
    let at = row_at x c.args.service 3 c.if-service-eq3.true c.in-Some.ensures.row in
    c.read.ensures.refused (λ z. other (given_word v c.args.cpu.now at.slots c.in-Good.given.words f bound c.in-Good.ensures.gathers.read_in 5 (omega arith) ∙ z))

pub returns-then-service-eq3-clause-part : goal.returns-then-service-eq3-clause-part
unfolding row_of
returns-then-service-eq3-clause-part g c = λ text m f bytes known bound e is.
    let v : View = g.B.Bus.view c.args.bus.now in
    let x = c.in-Some.row in
    let w : ℕ → ℕ = word_in c.in-Good.given.words in
    let b = before_call (boundless f v) c.args.pid c.args.cpu.now bytes known in
    let h = has_row c.args.service x c.in-Some.ensures.row in
    let at = row_at x c.args.service 3 c.if-service-eq3.true c.in-Some.ensures.row in
    subst (λ (y : Effect). PartHands (y)
    (told_counts (g.C.Sink.puts c.args.console.now) (g.C.Sink.puts c.args.console.now) (g.R.Sink.puts c.args.report.now) (g.R.Sink.puts c.read.new.report) 0
    (g.R.Sink.taken c.args.report.now) (g.R.Sink.taken c.read.new.report)) c.read.result)
    (sym (good_is v c.args.cpu.now c.args.service c.args.next c.args.pid f bound bytes known x c.in-Some.ensures.row c.in-Good.given.words c.in-Good.given.text c.in-Good.ensures.gathers))
    (by_number (λ (q : CallRow). PartHands (come_out q b c.args.next w (q.outcome b w))
    (told_counts (g.C.Sink.puts c.args.console.now) (g.C.Sink.puts c.args.console.now) (g.R.Sink.puts c.args.report.now) (g.R.Sink.puts c.read.new.report) 0
    (g.R.Sink.taken c.args.report.now) (g.R.Sink.taken c.read.new.report)) c.read.result) c.args.service 3 c.if-service-eq3.true refl
    (subst (λ (n : List ℕ). PartHands (come_out (call_row n read_slots reading) b c.args.next w (reading b w))
    (told_counts (g.C.Sink.puts c.args.console.now) (g.C.Sink.puts c.args.console.now) (g.R.Sink.puts c.args.report.now) (g.R.Sink.puts c.read.new.report) 0
    (g.R.Sink.taken c.args.report.now) (g.R.Sink.taken c.read.new.report)) c.read.result) at.name
    (subst (λ (z : View). PartHands (come_out (call_row x.name.now read_slots reading) (before_call (boundless f z) c.args.pid c.args.cpu.now bytes known) c.args.next w (reading (before_call (boundless f z) c.args.pid c.args.cpu.now bytes known) w))
    (told_counts (g.C.Sink.puts c.args.console.now) (g.C.Sink.puts c.args.console.now) (g.R.Sink.puts c.args.report.now) (g.R.Sink.puts c.read.new.report) 0
    (g.R.Sink.taken c.args.report.now) (g.R.Sink.taken c.read.new.report)) c.read.result) c.gather.ensures.same
    (read_part (before_call (boundless f (g.B.Bus.view c.gather.new.bus)) c.args.pid c.args.cpu.now bytes known) w x.name.now c.args.next _ _ _ _ _ c.read.result
    (does_front _ _ _ _ _ _ _ _ _ _ _ _ _ c.read.result (c.read.ensures.does text m f bytes known None e)) (c.read.ensures.part _)))) h.r h.is)

pub serve_heap-requires-clause-first : goal.serve_heap-requires-clause-first
serve_heap-requires-clause-first g c = heap_first c.args.service (sym c.is_on_heap.ensures ∙ c.if-is_on_heap.true)

pub serve_heap-requires-clause-last : goal.serve_heap-requires-clause-last
serve_heap-requires-clause-last g c = heap_last c.args.service (sym c.is_on_heap.ensures ∙ c.if-is_on_heap.true)

pub serve-requires-clause-no_heap : goal.serve-requires-clause-no_heap
serve-requires-clause-no_heap g c = sym c.is_on_heap.ensures ∙ c.if-is_on_heap.false

pub returns-then-is_on_heap-clause-does : goal.returns-then-is_on_heap-clause-does
returns-then-is_on_heap-clause-does g c = λ text m f bytes known bound e is.
    let v : View = g.B.Bus.view c.args.bus.now in
    let x = c.in-Some.row in
    let w : ℕ → ℕ = word_in c.in-Good.given.words in
    let b = before_call (boundless f v) c.args.pid c.args.cpu.now bytes known in
    let h = has_row c.args.service x c.in-Some.ensures.row in
    subst (λ (y : Effect). Does f b (y) c.serve_heap.new.cpu v (g.B.Bus.view c.serve_heap.new.bus)
    (left_as text (g.I.Source.left c.args.input.now) (g.I.Source.past c.args.input.now))
    (left_as text (g.I.Source.left c.args.input.now) (g.I.Source.past c.args.input.now))
    (g.C.Sink.taken c.args.console.now) (g.C.Sink.taken c.args.console.now) (g.R.Sink.taken c.args.report.now) (g.R.Sink.taken c.serve_heap.new.report) c.serve_heap.result)
    (sym (good_is v c.args.cpu.now c.args.service c.args.next c.args.pid f bound bytes known x c.in-Some.ensures.row c.in-Good.given.words c.in-Good.given.text c.in-Good.ensures.gathers))
    (subst (λ (z : View). Does f (before_call (boundless f z) c.args.pid c.args.cpu.now bytes known)
    (come_out h.r (before_call (boundless f z) c.args.pid c.args.cpu.now bytes known) c.args.next w (h.r.outcome (before_call (boundless f z) c.args.pid c.args.cpu.now bytes known) w))
    c.serve_heap.new.cpu z (g.B.Bus.view c.serve_heap.new.bus) (left_as text (g.I.Source.left c.args.input.now) (g.I.Source.past c.args.input.now))
    (left_as text (g.I.Source.left c.args.input.now) (g.I.Source.past c.args.input.now))
    (g.C.Sink.taken c.args.console.now) (g.C.Sink.taken c.args.console.now) (g.R.Sink.taken c.args.report.now) (g.R.Sink.taken c.serve_heap.new.report) c.serve_heap.result) c.gather.ensures.same
    (c.serve_heap.ensures.does f bytes known _ _ h.r e h.is))

pub returns-then-is_on_heap-clause-every : goal.returns-then-is_on_heap-clause-every
returns-then-is_on_heap-clause-every g c = λ other f bytes known bound is.
    let v : View = g.B.Bus.view c.args.bus.now in
    let x = c.in-Some.row in
    let w : ℕ → ℕ = word_in c.in-Good.given.words in
    let b = before_call (boundless f v) c.args.pid c.args.cpu.now bytes known in
    let h = has_row c.args.service x c.in-Some.ensures.row in
    subst (λ (y : Effect). Does f b (y) c.serve_heap.new.cpu v (g.B.Bus.view c.serve_heap.new.bus) (Some bytes) (Some bytes)
    (g.C.Sink.taken c.args.console.now) (g.C.Sink.taken c.args.console.now) (g.R.Sink.taken c.args.report.now) (g.R.Sink.taken c.serve_heap.new.report) c.serve_heap.result)
    (sym (good_is v c.args.cpu.now c.args.service c.args.next c.args.pid f bound bytes known x c.in-Some.ensures.row c.in-Good.given.words c.in-Good.given.text c.in-Good.ensures.gathers))
    (subst (λ (z : View). Does f (before_call (boundless f z) c.args.pid c.args.cpu.now bytes known)
    (come_out h.r (before_call (boundless f z) c.args.pid c.args.cpu.now bytes known) c.args.next w (h.r.outcome (before_call (boundless f z) c.args.pid c.args.cpu.now bytes known) w))
    c.serve_heap.new.cpu z (g.B.Bus.view c.serve_heap.new.bus) (Some bytes) (Some bytes)
    (g.C.Sink.taken c.args.console.now) (g.C.Sink.taken c.args.console.now) (g.R.Sink.taken c.args.report.now) (g.R.Sink.taken c.serve_heap.new.report) c.serve_heap.result) c.gather.ensures.same
    (c.serve_heap.ensures.does f bytes known _ _ h.r refl h.is))

pub returns-then-is_on_heap-clause-part : goal.returns-then-is_on_heap-clause-part
returns-then-is_on_heap-clause-part g c = λ text m f bytes known bound e is.
    let v : View = g.B.Bus.view c.args.bus.now in
    let x = c.in-Some.row in
    let w : ℕ → ℕ = word_in c.in-Good.given.words in
    let b = before_call (boundless f v) c.args.pid c.args.cpu.now bytes known in
    let h = has_row c.args.service x c.in-Some.ensures.row in
    subst (λ (y : Effect). PartHands (y)
    (told_counts (g.C.Sink.puts c.args.console.now) (g.C.Sink.puts c.args.console.now) (g.R.Sink.puts c.args.report.now) (g.R.Sink.puts c.serve_heap.new.report) 0
    (g.R.Sink.taken c.args.report.now) (g.R.Sink.taken c.serve_heap.new.report)) c.serve_heap.result)
    (sym (good_is v c.args.cpu.now c.args.service c.args.next c.args.pid f bound bytes known x c.in-Some.ensures.row c.in-Good.given.words c.in-Good.given.text c.in-Good.ensures.gathers))
    (subst (λ (z : View). PartHands (come_out h.r (before_call (boundless f z) c.args.pid c.args.cpu.now bytes known) c.args.next w (h.r.outcome (before_call (boundless f z) c.args.pid c.args.cpu.now bytes known) w))
    (told_counts (g.C.Sink.puts c.args.console.now) (g.C.Sink.puts c.args.console.now) (g.R.Sink.puts c.args.report.now) (g.R.Sink.puts c.serve_heap.new.report) 0
    (g.R.Sink.taken c.args.report.now) (g.R.Sink.taken c.serve_heap.new.report)) c.serve_heap.result) c.gather.ensures.same
    (c.serve_heap.ensures.part f bytes known _ h.r h.is))

pub returns-then-is_on_heap-clause-names : goal.returns-then-is_on_heap-clause-names
returns-then-is_on_heap-clause-names g c = λ input known bound.
    let v : View = g.B.Bus.view c.args.bus.now in
    let x = c.in-Some.row in
    let w : ℕ → ℕ = word_in c.in-Good.given.words in
    let told = subst (λ (z : View). TellsNames z (λ f. heap_names (boundless f z) x.slots.now w (selector_of c.args.service x.slots.now w)) c.serve_heap.result) c.gather.ensures.same
    c.serve_heap.ensures.names in
    tells_same v (λ f. heap_names (boundless f v) x.slots.now w (selector_of c.args.service x.slots.now w))
    (λ f. call_names (before_call (boundless f v) c.args.pid c.args.cpu.now input known) (row_of c.args.service))
    (λ f. good_late_names v c.args.cpu.now c.args.service c.args.next c.args.pid f bound input known x c.in-Some.ensures.row c.in-Good.given.words c.in-Good.given.text c.in-Good.ensures.gathers
    (sym c.is_on_heap.ensures ∙ c.if-is_on_heap.true)) c.serve_heap.result told

pub returns-then-is_on_heap-clause-ready : goal.returns-then-is_on_heap-clause-ready
returns-then-is_on_heap-clause-ready g c = on_asked (λ a e. absurd e) c.serve_heap.result c.serve_heap.ensures.never

pub returns-then-is_on_heap-clause-points : goal.returns-then-is_on_heap-clause-points
returns-then-is_on_heap-clause-points g c = on_asked (λ a e. absurd e) c.serve_heap.result c.serve_heap.ensures.never

pub returns-then-is_on_heap-clause-puts : goal.returns-then-is_on_heap-clause-puts
returns-then-is_on_heap-clause-puts g c = c.serve_heap.ensures.puts _

pub returns-else-is_on_heap-clause-does : goal.returns-else-is_on_heap-clause-does
returns-else-is_on_heap-clause-does g c = λ text m f bytes known bound e is.
    let v : View = g.B.Bus.view c.args.bus.now in
    let x = c.in-Some.row in
    let w : ℕ → ℕ = word_in c.in-Good.given.words in
    let b = before_call (boundless f v) c.args.pid c.args.cpu.now bytes known in
    let h = has_row c.args.service x c.in-Some.ensures.row in
    subst (λ (y : Effect). Does f b (y) c.serve.new.cpu v (g.B.Bus.view c.serve.new.bus)
    (left_as text (g.I.Source.left c.args.input.now) (g.I.Source.past c.args.input.now))
    (left_as text (g.I.Source.left c.args.input.now) (g.I.Source.past c.args.input.now))
    (g.C.Sink.taken c.args.console.now) (g.C.Sink.taken c.serve.new.console) (g.R.Sink.taken c.args.report.now) (g.R.Sink.taken c.serve.new.report) c.serve.result)
    (sym (good_is v c.args.cpu.now c.args.service c.args.next c.args.pid f bound bytes known x c.in-Some.ensures.row c.in-Good.given.words c.in-Good.given.text c.in-Good.ensures.gathers))
    (subst (λ (z : View). Does f (before_call (boundless f z) c.args.pid c.args.cpu.now bytes known)
    (come_out h.r (before_call (boundless f z) c.args.pid c.args.cpu.now bytes known) c.args.next w (h.r.outcome (before_call (boundless f z) c.args.pid c.args.cpu.now bytes known) w))
    c.serve.new.cpu z (g.B.Bus.view c.serve.new.bus) (left_as text (g.I.Source.left c.args.input.now) (g.I.Source.past c.args.input.now))
    (left_as text (g.I.Source.left c.args.input.now) (g.I.Source.past c.args.input.now))
    (g.C.Sink.taken c.args.console.now) (g.C.Sink.taken c.serve.new.console) (g.R.Sink.taken c.args.report.now) (g.R.Sink.taken c.serve.new.report) c.serve.result) c.gather.ensures.same
    (c.serve.ensures.does f bytes known _ h.r e is.avail h.is))

pub returns-else-is_on_heap-clause-every : goal.returns-else-is_on_heap-clause-every
returns-else-is_on_heap-clause-every g c = λ other f bytes known bound is.
    let v : View = g.B.Bus.view c.args.bus.now in
    let x = c.in-Some.row in
    let w : ℕ → ℕ = word_in c.in-Good.given.words in
    let b = before_call (boundless f v) c.args.pid c.args.cpu.now bytes known in
    let h = has_row c.args.service x c.in-Some.ensures.row in
    subst (λ (y : Effect). Does f b (y) c.serve.new.cpu v (g.B.Bus.view c.serve.new.bus) (Some bytes) (Some bytes)
    (g.C.Sink.taken c.args.console.now) (g.C.Sink.taken c.serve.new.console) (g.R.Sink.taken c.args.report.now) (g.R.Sink.taken c.serve.new.report) c.serve.result)
    (sym (good_is v c.args.cpu.now c.args.service c.args.next c.args.pid f bound bytes known x c.in-Some.ensures.row c.in-Good.given.words c.in-Good.given.text c.in-Good.ensures.gathers))
    (subst (λ (z : View). Does f (before_call (boundless f z) c.args.pid c.args.cpu.now bytes known)
    (come_out h.r (before_call (boundless f z) c.args.pid c.args.cpu.now bytes known) c.args.next w (h.r.outcome (before_call (boundless f z) c.args.pid c.args.cpu.now bytes known) w))
    c.serve.new.cpu z (g.B.Bus.view c.serve.new.bus) (Some bytes) (Some bytes)
    (g.C.Sink.taken c.args.console.now) (g.C.Sink.taken c.serve.new.console) (g.R.Sink.taken c.args.report.now) (g.R.Sink.taken c.serve.new.report) c.serve.result) c.gather.ensures.same
    (c.serve.ensures.does f bytes known _ h.r refl is.avail h.is))

pub returns-else-is_on_heap-clause-part : goal.returns-else-is_on_heap-clause-part
returns-else-is_on_heap-clause-part g c = λ text m f bytes known bound e is.
    let v : View = g.B.Bus.view c.args.bus.now in
    let x = c.in-Some.row in
    let w : ℕ → ℕ = word_in c.in-Good.given.words in
    let b = before_call (boundless f v) c.args.pid c.args.cpu.now bytes known in
    let h = has_row c.args.service x c.in-Some.ensures.row in
    subst (λ (y : Effect). PartHands (y)
    (told_counts (g.C.Sink.puts c.args.console.now) (g.C.Sink.puts c.serve.new.console) (g.R.Sink.puts c.args.report.now) (g.R.Sink.puts c.serve.new.report) 0
    (g.R.Sink.taken c.args.report.now) (g.R.Sink.taken c.serve.new.report)) c.serve.result)
    (sym (good_is v c.args.cpu.now c.args.service c.args.next c.args.pid f bound bytes known x c.in-Some.ensures.row c.in-Good.given.words c.in-Good.given.text c.in-Good.ensures.gathers))
    (subst (λ (z : View). PartHands (come_out h.r (before_call (boundless f z) c.args.pid c.args.cpu.now bytes known) c.args.next w (h.r.outcome (before_call (boundless f z) c.args.pid c.args.cpu.now bytes known) w))
    (told_counts (g.C.Sink.puts c.args.console.now) (g.C.Sink.puts c.serve.new.console) (g.R.Sink.puts c.args.report.now) (g.R.Sink.puts c.serve.new.report) 0
    (g.R.Sink.taken c.args.report.now) (g.R.Sink.taken c.serve.new.report)) c.serve.result) c.gather.ensures.same
    (c.serve.ensures.part f bytes known h.r is.avail h.is))

pub returns-else-is_on_heap-clause-names : goal.returns-else-is_on_heap-clause-names
returns-else-is_on_heap-clause-names g c = λ input known bound.
    let v : View = g.B.Bus.view c.args.bus.now in
    let x = c.in-Some.row in
    tells_present v (λ f. call_names (before_call (boundless f v) c.args.pid c.args.cpu.now input known) (row_of c.args.service)) c.serve.result c.serve.ensures.never
    (λ f. good_names v c.args.cpu.now c.args.service c.args.next c.args.pid f bound input known x c.in-Some.ensures.row c.in-Good.given.words c.in-Good.given.text c.in-Good.ensures.gathers
    (sym c.is_on_heap.ensures ∙ c.if-is_on_heap.false))

pub returns-else-is_on_heap-clause-ready : goal.returns-else-is_on_heap-clause-ready
returns-else-is_on_heap-clause-ready g c =
    let v : View = g.B.Bus.view c.args.bus.now in
    let w : ℕ → ℕ = word_in c.in-Good.given.words in
    let f : Filling = record { blocks = λ n. []; hidden = v.hidden } in
    on_asked (λ a aims. subst (λ (ps : List Pointer). are_ready v ps ≡ true)
    (subst (λ (z : View). pointers_in c.in-Some.row.slots.now (boundless f z) w ≡ targets a) c.gather.ensures.same (aims f)) (c.in-Good.ensures.gathers.test.ready f)) c.serve.result c.serve.ensures.aims

pub returns-else-is_on_heap-clause-points : goal.returns-else-is_on_heap-clause-points
returns-else-is_on_heap-clause-points g c =
    let v : View = g.B.Bus.view c.args.bus.now in
    let w : ℕ → ℕ = word_in c.in-Good.given.words in
    let x = c.in-Some.row in
    on_asked (λ a aims f bytes known bound.
    early_names v c.args.cpu.now c.args.service c.args.next c.args.pid f bound bytes known x c.in-Some.ensures.row c.in-Good.given.words c.in-Good.ensures.gathers.read_in
    (sym c.is_on_heap.ensures ∙ c.if-is_on_heap.false)
    ∙ ap (pointed (boundless f v)) (subst (λ (z : View). pointers_in x.slots.now (boundless f z) w ≡ targets a) c.gather.ensures.same (aims f))) c.serve.result c.serve.ensures.aims
