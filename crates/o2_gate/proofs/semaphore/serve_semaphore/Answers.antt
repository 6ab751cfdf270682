use Rattle.std.proofs.Common.{ℕ, [], Some, None, ap, sym, refl, subst}
use Rattle.o2_isa.specs.View.{View}
use Rattle.o2_world.specs.Calls.{Effect, by_semaphore}
use Rattle.o2_world.specs.Changes.{moved_lines}
use Rattle.o2_world.specs.Outcomes.{Fails, Outcome, come_out}
use Rattle.o2_world.specs.SemRulings.{Becomes, Refuses, Waiting}
use Rattle.o2_run.specs.Pieces.{counts, told_counts, LineHands, PartHands}
use Rattle.o2_gate.specs.Befores.{boundless, before_call}
use Rattle.o2_gate.specs.Called.{Does}
use Rattle.o2_gate.specs.Given.{word_in}
use Rattle.o2_gate.specs.Semaphores.{sem_parts}
use Rattle.o2_gate.proofs.Fails.{HasFront, OnSink, does_front, only_line}
use Rattle.o2_gate.proofs.Gathered.{has_row, row_is}
use Rattle.o2_gate.proofs.Semaphores.{outcome_is, ready_there, slots_are}
use Rattle.o2_gate.proofs.Serves.{come_is}
use Rattle.o2_gate.proofs.semaphore.serve_semaphore.Goals as goal

pub number_at-number-requires-clause-ready : goal.number_at-number-requires-clause-ready
number_at-number-requires-clause-ready g c =
    let x = c.args.row.now in
    let h = has_row c.args.service x c.requires.row in
    ready_there c.args.service c.requires.first c.requires.last x h.r h.is h.row (g.B.Bus.view c.args.bus.now) (word_in c.args.words.now) c.place_of-place.result c.place_of-place.ensures.value c.requires.test

pub settle-requires-clause-slots : goal.settle-requires-clause-slots
settle-requires-clause-slots g c =
    let x = c.args.row.now in
    let h = has_row c.args.service x c.requires.row in
    slots_are c.args.service c.requires.first c.requires.last x h.r h.is h.row

pub settle-requires-clause-ready : goal.settle-requires-clause-ready
settle-requires-clause-ready g c =
    let x = c.args.row.now in
    let h = has_row c.args.service x c.requires.row in
    ready_there c.args.service c.requires.first c.requires.last x h.r h.is h.row (g.B.Bus.view c.args.bus.now) (word_in c.args.words.now) c.place_of-place.result c.place_of-place.ensures.value c.requires.test

pub returns-in-Waits-clause-does : goal.returns-in-Waits-clause-does
returns-in-Waits-clause-does g c = λ f bytes known i k r e there.
    let v : View = g.B.Bus.view c.args.bus.now in
    let w : ℕ → ℕ = word_in c.args.words.now in
    let b = before_call (boundless f v) c.args.pid c.args.cpu.now bytes known in
    let x = c.args.row.now in
    let same = row_is x c.args.service r there c.requires.row in
    record {
      effect = ap (come_out r b c.args.next w) (outcome_is c.args.service c.requires.first c.requires.last x r there same b w
          c.place_of-place.result c.number_at-number.result Waiting c.place_of-place.ensures.value (c.number_at-number.ensures f) c.in-Waits.ensures);
      untouched = record { cpu = refl; view = refl; input = refl; to_console = refl; to_report = refl };
    }

pub returns-in-Error-clause-does : goal.returns-in-Error-clause-does
returns-in-Error-clause-does g c = λ f bytes known i k r e there.
    let v : View = g.B.Bus.view c.args.bus.now in
    let w : ℕ → ℕ = word_in c.args.words.now in
    let b = before_call (boundless f v) c.args.pid c.args.cpu.now bytes known in
    let x = c.args.row.now in
    let same = row_is x c.args.service r there c.requires.row in
    let comes = outcome_is c.args.service c.requires.first c.requires.last x r there same b w
    c.place_of-place.result c.number_at-number.result (Refuses c.in-Error.error) c.place_of-place.ensures.value (c.number_at-number.ensures f) c.in-Error.ensures in
    subst (λ (y : Effect). Does f b y c.refuse.new.cpu v v i i k k (g.R.Sink.taken c.args.report.now) (g.R.Sink.taken c.refuse.new.report) c.refuse.result)
    (come_is x r same r.outcome b c.args.next w (Fails c.in-Error.error []) comes)
    (c.refuse.ensures.does f v bytes known i k r.outcome e)

pub returns-in-Error-clause-part : goal.returns-in-Error-clause-part
unfolding moved_lines
returns-in-Error-clause-part g c = λ f bytes known k r there.
    let v : View = g.B.Bus.view c.args.bus.now in
    let w : ℕ → ℕ = word_in c.args.words.now in
    let b = before_call (boundless f v) c.args.pid c.args.cpu.now bytes known in
    let x = c.args.row.now in
    let same = row_is x c.args.service r there c.requires.row in
    let comes = outcome_is c.args.service c.requires.first c.requires.last x r there same b w
    c.place_of-place.result c.number_at-number.result (Refuses c.in-Error.error) c.place_of-place.ensures.value (c.number_at-number.ensures f) c.in-Error.ensures in
    let t = g.R.Sink.taken c.args.report.now in
    let u = g.R.Sink.taken c.refuse.new.report in
    let m = g.R.Sink.puts c.args.report.now in
    let n = g.R.Sink.puts c.refuse.new.report in
    subst (λ (o : Outcome). OnSink c.refuse.result (HasFront t u (come_out r b c.args.next w o).lines) → LineHands (counts k k m n 0) c.refuse.result
    → PartHands (come_out r b c.args.next w o) (told_counts k k m n 0 t u) c.refuse.result)
    (sym comes) (only_line (come_out r b c.args.next w (Fails c.in-Error.error [])) k m n t u c.refuse.result refl refl)
    (does_front _ _ _ _ _ _ _ _ _ _ _ _ _ c.refuse.result (returns-in-Error-clause-does g c f bytes known (Some bytes) None r refl there)) (c.refuse.ensures.part k)

pub returns-in-Word-clause-does : goal.returns-in-Word-clause-does
returns-in-Word-clause-does g c = λ f bytes known i k r e there.
    let v : View = g.B.Bus.view c.args.bus.now in
    let w : ℕ → ℕ = word_in c.args.words.now in
    let b = before_call (boundless f v) c.args.pid c.args.cpu.now bytes known in
    let x = c.args.row.now in
    let same = row_is x c.args.service r there c.requires.row in
    let comes = outcome_is c.args.service c.requires.first c.requires.last x r there same b w
    c.place_of-place.result c.number_at-number.result (Becomes c.in-Word.word) c.place_of-place.ensures.value (c.number_at-number.ensures f) c.in-Word.ensures in
    subst (λ (y : Effect). Does f b y c.settle.new.cpu v (g.B.Bus.view c.settle.new.bus) i i k k (g.R.Sink.taken c.args.report.now) (g.R.Sink.taken c.settle.new.report) c.settle.result)
    (come_is x r same r.outcome b c.args.next w (by_semaphore (sem_parts c.args.service) b (Becomes c.in-Word.word)) comes)
    (c.settle.ensures.does f bytes known i k r.outcome e)

pub returns-in-Word-clause-part : goal.returns-in-Word-clause-part
unfolding moved_lines
returns-in-Word-clause-part g c = λ f bytes known k r there.
    let v : View = g.B.Bus.view c.args.bus.now in
    let w : ℕ → ℕ = word_in c.args.words.now in
    let b = before_call (boundless f v) c.args.pid c.args.cpu.now bytes known in
    let x = c.args.row.now in
    let same = row_is x c.args.service r there c.requires.row in
    let comes = outcome_is c.args.service c.requires.first c.requires.last x r there same b w
    c.place_of-place.result c.number_at-number.result (Becomes c.in-Word.word) c.place_of-place.ensures.value (c.number_at-number.ensures f) c.in-Word.ensures in
    let t = g.R.Sink.taken c.args.report.now in
    let u = g.R.Sink.taken c.settle.new.report in
    let m = g.R.Sink.puts c.args.report.now in
    let n = g.R.Sink.puts c.settle.new.report in
    subst (λ (o : Outcome). OnSink c.settle.result (HasFront t u (come_out r b c.args.next w o).lines) → LineHands (counts k k m n 0) c.settle.result
    → PartHands (come_out r b c.args.next w o) (told_counts k k m n 0 t u) c.settle.result)
    (sym comes) (only_line (come_out r b c.args.next w (by_semaphore (sem_parts c.args.service) b (Becomes c.in-Word.word))) k m n t u c.settle.result refl refl)
    (does_front _ _ _ _ _ _ _ _ _ _ _ _ _ c.settle.result (returns-in-Word-clause-does g c f bytes known (Some bytes) None r refl there)) (c.settle.ensures.part k)
