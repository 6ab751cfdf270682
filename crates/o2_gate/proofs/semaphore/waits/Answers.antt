use Rattle.std.proofs.Common.{◌≡◌, ℕ, ◌+◌, true, ap, sym, ◌∙◌, subst, arith}
use Rattle.o2_isa.specs.View.{View, Filling, is_writable, whole}
use Rattle.o2_isa.specs.Pointers.{is_ready, range_of}
use Rattle.o2_world.specs.Outcomes.{come_out}
use Rattle.o2_world.specs.SemRulings.{Waiting, number_in}
use Rattle.o2_gate.specs.Befores.{boundless, before_call}
use Rattle.o2_gate.specs.Given.{word_in}
use Rattle.o2_gate.proofs.Gathered.{good_is, good_names, has_row}
use Rattle.o2_gate.proofs.Heaps.{is_behind}
use Rattle.o2_gate.proofs.Semaphores.{outcome_is, ready_there}
use Rattle.o2_gate.proofs.semaphore.waits.Goals as goal

-- the pointer and the number, where what is seen is the same
ready_then : (u v : View) → u ≡ v → (w : ℕ → ℕ) (place : ℕ) → is_ready is_writable v (w (place + 1)) (w place) 4 ≡ true → is_ready is_writable u (w (place + 1)) (w place) 4 ≡ true
ready_then u v same w place ready = subst (λ (z : View). is_ready is_writable z (w (place + 1)) (w place) 4 ≡ true) (sym same) ready

number_then : (u v : View) → u ≡ v → (f : Filling) (w : ℕ → ℕ) (place number : ℕ) → number ≡ number_in (range_of u.held (whole f u).bytes (w (place + 1)) (w place) 4)
    → number ≡ number_in (range_of v.held (whole f v).bytes (w (place + 1)) (w place) 4)
number_then u v same f w place number is = subst (λ (z : View). number ≡ number_in (range_of z.held (whole f z).bytes (w (place + 1)) (w place) 4)) same is

pub number_at-number-requires-clause-ready : goal.number_at-number-requires-clause-ready
number_at-number-requires-clause-ready g c =
    let x = c.in-Some.row in
    let h = has_row c.args.service x c.in-Some.ensures.row in
    let w : ℕ → ℕ = word_in c.in-Good.given.words in
    ready_then (g.B.Bus.view c.gather.new.bus) (g.B.Bus.view c.args.bus.now) c.gather.ensures.same w c.place_of-place.result
    (ready_there c.args.service c.if-service-lt25.false c.in-Some.ensures.known.1 x h.r h.is h.row (g.B.Bus.view c.args.bus.now) w
    c.place_of-place.result c.place_of-place.ensures.value c.in-Good.ensures.gathers.test)

pub returns-in-Waits-clause-effect : goal.returns-in-Waits-clause-effect
returns-in-Waits-clause-effect g c = λ yes f input known next bound.
    let v : View = g.B.Bus.view c.args.bus.now in
    let w : ℕ → ℕ = word_in c.in-Good.given.words in
    let b = before_call (boundless f v) c.args.pid c.args.cpu.now input known in
    let x = c.in-Some.row in
    let h = has_row c.args.service x c.in-Some.ensures.row in
    good_is v c.args.cpu.now c.args.service next c.args.pid f bound input known x c.in-Some.ensures.row c.in-Good.given.words c.in-Good.given.text c.in-Good.ensures.gathers
    ∙ ap (come_out h.r b next w) (outcome_is c.args.service c.if-service-lt25.false c.in-Some.ensures.known.1 x h.r h.is h.row b w
    c.place_of-place.result c.number_at-number.result Waiting c.place_of-place.ensures.value
    (number_then (g.B.Bus.view c.gather.new.bus) v c.gather.ensures.same f w c.place_of-place.result c.number_at-number.result (c.number_at-number.ensures f)) c.in-Waits.ensures)

pub returns-in-Waits-clause-present : goal.returns-in-Waits-clause-present
returns-in-Waits-clause-present g c = λ yes f input known bound.
    good_names (g.B.Bus.view c.args.bus.now) c.args.cpu.now c.args.service 0 c.args.pid f bound input known
    c.in-Some.row c.in-Some.ensures.row c.in-Good.given.words c.in-Good.given.text c.in-Good.ensures.gathers
    (is_behind c.args.service (omega (arith, c.if-service-lt25.false)))
