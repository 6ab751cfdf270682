use Rattle.std.proofs.Common.{◌≡◌, ℕ, ◌≤◌, [], ◌∷◌, List, true, false, drop, length, Some, None, ap, sym, subst, ◌∙◌, refl, arith}
use Rattle.o2_isa.specs.View.{View}
use Rattle.o2_world.specs.Calls.{Effect, by_heap}
use Rattle.o2_world.specs.Outcomes.{Fails, come_out, row as call_row}
use Rattle.o2_world.specs.Slots.{may_have_heap, targets_in, words_in}
use Rattle.o2_world.specs.declared.types.Slot.{Slot}
use Rattle.o2_world.specs.declared.types.Slot.TheVariants.{Heap}
use Rattle.o2_subseg.specs.declared.plan.Plan.{Plan}
use Rattle.o2_subseg.specs.Plans.{Plans}
use Rattle.o2_gate.specs.Befores.{boundless, before_call}
use Rattle.o2_gate.specs.Called.{Does}
use Rattle.o2_gate.specs.Given.{word_in}
use Rattle.o2_gate.specs.Heaps.{IsHeapThere, front_of, heap_names, planned, ruling_by, selector_of}
use Rattle.o2_gate.specs.Pointed.{are_ready}
use Rattle.o2_gate.specs.Replies.{FitsIn}
use Rattle.o2_gate.proofs.Fails.{does_front}
use Rattle.o2_gate.proofs.Gathered.{has_row, over_missed, row_is, tells_present}
use Rattle.o2_gate.proofs.HeapCalls.{fits_there, heap_part, names_there, outcome_none, outcome_some, ready_there, selector_is, slots_are}
use Rattle.o2_gate.proofs.Heaps.{is_late, planned_is, value_within}
use Rattle.o2_gate.proofs.Serves.{come_is}
use Rattle.o2_gate.proofs.heap.serve_heap.Goals as goal

pub behind_first-slots-requires : goal.behind_first-slots-requires
behind_first-slots-requires g c =
    let x = c.args.row.now in
    let h = has_row c.args.service x c.requires.row in
    let whole = slots_are c.args.service (is_late c.args.service c.requires.first c.requires.last) x h.r h.is h.row in
    subst (λ (ss : List Slot). 1 ≤ length ss) (sym whole) (omega arith)

pub finish-requires-clause-slots : goal.finish-requires-clause-slots
finish-requires-clause-slots g c =
    let x = c.args.row.now in
    let h = has_row c.args.service x c.requires.row in
    slots_are c.args.service (is_late c.args.service c.requires.first c.requires.last) x h.r h.is h.row ∙ ap (λ (ss : List Slot). Heap ∷ ss) (sym c.behind_first-slots.ensures)

pub finish-requires-clause-ready : goal.finish-requires-clause-ready
finish-requires-clause-ready g c =
    let v : View = g.B.Bus.view c.args.bus.now in
    let w : ℕ → ℕ = word_in c.args.words.now in
    let x = c.args.row.now in
    let h = has_row c.args.service x c.requires.row in
    subst (λ (z : View). are_ready z (targets_in c.behind_first-slots.result.now w) ≡ true) (sym c.test_heap.ensures.same)
    (subst (λ (ss : List Slot). are_ready v (targets_in ss w) ≡ true) (sym c.behind_first-slots.ensures)
    (ready_there c.args.service (is_late c.args.service c.requires.first c.requires.last) x h.r h.is h.row v w c.requires.test))

pub finish-requires-clause-value : goal.finish-requires-clause-value
finish-requires-clause-value g c =
    let w : ℕ → ℕ = word_in c.args.words.now in
    let x = c.args.row.now in
    let h = has_row c.args.service x c.requires.row in
    let within = value_within c.args.service w c.front.result.now in
    subst (λ (ss : List Slot). FitsIn ss c.plan_for-plan.result.answer.value) (sym c.behind_first-slots.ensures)
    (fits_there c.args.service (is_late c.args.service c.requires.first c.requires.last) x h.r h.is h.row c.plan_for-plan.result.answer.value
    (let same = c.plan_for-plan.ensures.value in let most = c.front.ensures.most in omega (arith, within, same, most)))

pub returns-in-Bad-clause-does : goal.returns-in-Bad-clause-does
returns-in-Bad-clause-does g c = λ f bytes known i k r e there.
    let v : View = g.B.Bus.view c.args.bus.now in
    let w : ℕ → ℕ = word_in c.args.words.now in
    let b = before_call (boundless f v) c.args.pid c.args.cpu.now bytes known in
    let x = c.args.row.now in
    let same = row_is x c.args.service r there c.requires.row in
    let at : w c.word_count.result ≡ w (words_in (drop 1 x.slots.now)) = ap w (c.word_count.ensures ∙ ap words_in c.behind_first-slots.ensures) in
    let none = subst (λ (s : ℕ). may_have_heap (boundless f v) s ≡ false) at (c.in-Bad.ensures.tells.may f) in
    subst (λ (z : View). Does f b (come_out r b c.args.next w (r.outcome b w)) c.refuse.new.cpu v z i i k k (g.R.Sink.taken c.args.report.now) (g.R.Sink.taken c.refuse.new.report) c.refuse.result)
    (sym c.test_heap.ensures.same)
    (subst (λ (y : Effect). Does f b y c.refuse.new.cpu v v i i k k (g.R.Sink.taken c.args.report.now) (g.R.Sink.taken c.refuse.new.report) c.refuse.result)
    (come_is x r same r.outcome b c.args.next w (Fails 315 []) (outcome_none c.args.service (is_late c.args.service c.requires.first c.requires.last) x r there same b w none))
    (c.refuse.ensures.does f v bytes known i k r.outcome e))

pub returns-in-Bad-clause-part : goal.returns-in-Bad-clause-part
returns-in-Bad-clause-part g c = λ f bytes known k r there.
    let v : View = g.B.Bus.view c.args.bus.now in
    let x = c.args.row.now in
    heap_part c.args.service (is_late c.args.service c.requires.first c.requires.last) x r there (row_is x c.args.service r there c.requires.row) (before_call (boundless f v) c.args.pid c.args.cpu.now bytes known) c.args.next
    (word_in c.args.words.now) k _ _ _ _ c.refuse.result
    (does_front _ _ _ _ _ _ _ _ _ _ _ _ _ c.refuse.result (returns-in-Bad-clause-does g c f bytes known (Some bytes) None r refl there)) (c.refuse.ensures.part k)

pub returns-in-Good-clause-does : goal.returns-in-Good-clause-does
returns-in-Good-clause-does g c = λ f bytes known i k r e there.
    let v : View = g.B.Bus.view c.args.bus.now in
    let u : View = g.B.Bus.view c.test_heap.new.bus in
    let w : ℕ → ℕ = word_in c.args.words.now in
    let b = before_call (boundless f v) c.args.pid c.args.cpu.now bytes known in
    let x = c.args.row.now in
    let plan : Plan = c.plan_for-plan.result in
    let s : ℕ = w c.word_count.result in
    let same = row_is x c.args.service r there c.requires.row in
    let at : s ≡ w (words_in (drop 1 x.slots.now)) = ap w (c.word_count.ensures ∙ ap words_in c.behind_first-slots.ensures) in
    let may = subst (λ (q : ℕ). may_have_heap (boundless f v) q ≡ true) at (c.in-Good.ensures.tells.may f) in
    let whole : x.slots.now ≡ Heap ∷ c.behind_first-slots.result.now =
    slots_are c.args.service (is_late c.args.service c.requires.first c.requires.last) x r there same ∙ ap (λ (ss : List Slot). Heap ∷ ss) (sym c.behind_first-slots.ensures) in
    let front : c.front.result.now ≡ front_of f v s = c.front.ensures.value f ∙ ap (λ (z : View). front_of f z s) c.test_heap.ensures.same in
    let plans = subst (λ (bs : List ℕ). Plans plan (ruling_by c.args.service w bs) bs) front c.plan_for-plan.ensures in
    let ruled = planned_is plan (ruling_by c.args.service w (front_of f v s)) (front_of f v s) plans ∙ ap (λ (q : ℕ). ruling_by c.args.service w (front_of f v q)) at in
    let did = subst (λ (z : View). Does f (before_call (boundless f z) c.args.pid c.args.cpu.now bytes known)
    (come_out (call_row x.name.now (Heap ∷ c.behind_first-slots.result.now) r.outcome) (before_call (boundless f z) c.args.pid c.args.cpu.now bytes known) c.args.next w
    (by_heap (Heap ∷ c.behind_first-slots.result.now) (before_call (boundless f z) c.args.pid c.args.cpu.now bytes known) (planned plan (front_of f z s))))
    c.finish.new.cpu z (g.B.Bus.view c.finish.new.bus) i i k k (g.R.Sink.taken c.args.report.now) (g.R.Sink.taken c.finish.new.report) c.finish.result) c.test_heap.ensures.same
    (c.finish.ensures.does f bytes known i k r.outcome e) in
    let by_row = subst (λ (ss : List Slot). Does f b (come_out (call_row x.name.now ss r.outcome) b c.args.next w (by_heap ss b (planned plan (front_of f v s))))
    c.finish.new.cpu v (g.B.Bus.view c.finish.new.bus) i i k k (g.R.Sink.taken c.args.report.now) (g.R.Sink.taken c.finish.new.report) c.finish.result) (sym whole) did in
    subst (λ (y : Effect). Does f b y c.finish.new.cpu v (g.B.Bus.view c.finish.new.bus) i i k k (g.R.Sink.taken c.args.report.now) (g.R.Sink.taken c.finish.new.report) c.finish.result)
    (come_is x r same r.outcome b c.args.next w (by_heap x.slots.now b (planned plan (front_of f v s)))
    (outcome_some c.args.service (is_late c.args.service c.requires.first c.requires.last) x r there same b w (planned plan (front_of f v s)) may ruled)) by_row

pub returns-in-Good-clause-names : goal.returns-in-Good-clause-names
returns-in-Good-clause-names g c =
    let v : View = g.B.Bus.view c.args.bus.now in
    let w : ℕ → ℕ = word_in c.args.words.now in
    let x = c.args.row.now in
    let h = has_row c.args.service x c.requires.row in
    let s : ℕ = selector_of c.args.service x.slots.now w in
    let at : w c.word_count.result ≡ s = ap w (c.word_count.ensures ∙ ap words_in c.behind_first-slots.ensures) ∙ sym (selector_is c.args.service (is_late c.args.service c.requires.first c.requires.last) x h.r h.is h.row w) in
    tells_present v (λ f. heap_names (boundless f v) x.slots.now w s) c.finish.result (over_missed c.finish.result c.finish.ensures.over _)
    (λ f. names_there v x.slots.now w s c.requires.test f (subst (IsHeapThere v) at c.in-Good.ensures.tells))

pub returns-in-Good-clause-part : goal.returns-in-Good-clause-part
returns-in-Good-clause-part g c = λ f bytes known k r there.
    let v : View = g.B.Bus.view c.args.bus.now in
    let x = c.args.row.now in
    heap_part c.args.service (is_late c.args.service c.requires.first c.requires.last) x r there (row_is x c.args.service r there c.requires.row) (before_call (boundless f v) c.args.pid c.args.cpu.now bytes known) c.args.next
    (word_in c.args.words.now) k _ _ _ _ c.finish.result
    (does_front _ _ _ _ _ _ _ _ _ _ _ _ _ c.finish.result (returns-in-Good-clause-does g c f bytes known (Some bytes) None r refl there)) (c.finish.ensures.part k)
