use Rattle.std.proofs.Common.{◌≡◌, ℕ, ◌+◌, ◌-◌, List, drop, refl, sym, ◌∙◌, subst, arith}
use Rattle.std.specs.Prelude.{slice_index_or}
use Rattle.o2_isa.specs.View.{View}
use Rattle.o2_world.specs.declared.types.Slot.{Slot}
use Rattle.o2_world.specs.declared.types.Slot.TheVariants.{Word}
use Rattle.o2_world.specs.Slots.{words_in}
use Rattle.o2_gate.specs.declared.pointer.Pointed.TheVariants.{Good, Bad, Missed}
use Rattle.o2_gate.specs.Given.{IsTextIn, pointers_by, word_in}
use Rattle.o2_gate.specs.Pointed.{Tells}
use Rattle.o2_gate.proofs.Checks.{no_pointers}
use Rattle.o2_gate.proofs.Walks.{bad_slot, missed_slot, moved_test, moved_text, no_slot, slots_next, text_step, texts_next, then_slot, words_next}
use Rattle.o2_gate.proofs.given.test_all.Goals as goal

pub test_slot-requires : goal.test_slot-requires
test_slot-requires g c =
    let more = words_next c.args.slots.now c.loop-slot.slot-index c.loop-slot-test.true in
    record { inside = omega (arith, more, c.loop-slot.invariant.place, c.loop-slot.invariant.few, c.words_of-place.ensures) }

pub returns-in-Bad-clause-tells : goal.returns-in-Bad-clause-tells
returns-in-Bad-clause-tells g c =
    let v : View = g.B.Bus.view c.args.bus.now in
    let a : ℕ → ℕ = word_in c.args.words.now in
    let k : ℕ = c.loop-slot.slot-index in
    let ss : List Slot = c.args.slots.now in
    let s : Slot = slice_index_or ss k Word in
    let more = words_next ss k c.loop-slot-test.true in
    let here : c.loop-slot.place - c.words_of-place.result ≡ words_in (drop (k + 1) ss) = omega (arith, more, c.loop-slot.invariant.place, c.words_of-place.ensures) in
    c.loop-slot.invariant.tells Bad
    (subst (λ (x : List Slot). Tells v (pointers_by x a) Bad) (sym (slots_next ss k c.loop-slot-test.true))
    (bad_slot v a (drop (k + 1) ss) s (moved_test (g.B.Bus.view c.loop-slot.bus) v c.loop-slot.invariant.same a s _ _ here Bad c.in-Bad.ensures.tells)))

pub returns-in-Missed-clause-tells : goal.returns-in-Missed-clause-tells
returns-in-Missed-clause-tells g c =
    let v : View = g.B.Bus.view c.args.bus.now in
    let a : ℕ → ℕ = word_in c.args.words.now in
    let k : ℕ = c.loop-slot.slot-index in
    let ss : List Slot = c.args.slots.now in
    let s : Slot = slice_index_or ss k Word in
    let more = words_next ss k c.loop-slot-test.true in
    let here : c.loop-slot.place - c.words_of-place.result ≡ words_in (drop (k + 1) ss) = omega (arith, more, c.loop-slot.invariant.place, c.words_of-place.ensures) in
    c.loop-slot.invariant.tells (Missed c.in-Missed.sel)
    (subst (λ (x : List Slot). Tells v (pointers_by x a) (Missed c.in-Missed.sel)) (sym (slots_next ss k c.loop-slot-test.true))
    (missed_slot v a (drop (k + 1) ss) s c.in-Missed.sel (moved_test (g.B.Bus.view c.loop-slot.bus) v c.loop-slot.invariant.same a s _ _ here (Missed c.in-Missed.sel) c.in-Missed.ensures.tells)))

pub loop-slot-preserved : goal.loop-slot-preserved
loop-slot-preserved g c =
    let v : View = g.B.Bus.view c.args.bus.now in
    let a : ℕ → ℕ = word_in c.args.words.now in
    let k : ℕ = c.loop-slot.slot-index in
    let ss : List Slot = c.args.slots.now in
    let s : Slot = slice_index_or ss k Word in
    let rest : List Slot = drop (k + 1) ss in
    let u : View = g.B.Bus.view c.loop-slot.bus in
    let same : u ≡ v = c.loop-slot.invariant.same in
    let more = words_next ss k c.loop-slot-test.true in
    let texts = texts_next ss k c.loop-slot-test.true in
    let next = slots_next ss k c.loop-slot-test.true in
    let here : c.loop-slot.place - c.words_of-place.result ≡ words_in rest = omega (arith, more, c.loop-slot.invariant.place, c.words_of-place.ensures) in
    record {
      place = here;
      tells = λ r x.
          c.loop-slot.invariant.tells r
          (subst (λ (y : List Slot). Tells v (pointers_by y a) r) (sym next)
          (then_slot v a rest s r (moved_test u v same a s _ _ here Good c.in-Good.ensures.tells) x));
      text = text_step v a rest s ss c.loop-slot.text c.test_slot.new.text (omega (arith, texts, c.loop-slot.invariant.one)) c.in-Good.ensures.kept
          (moved_text u v same a c.test_slot.new.text s _ _ here (c.in-Good.ensures.text refl))
          (λ t z y. c.loop-slot.invariant.text t (λ n. z (sym texts ∙ n)) (subst (λ (x : List Slot). IsTextIn v a t x) (sym next) y));
      one = omega (arith, texts, c.loop-slot.invariant.one);
      few = omega (arith, c.loop-slot.invariant.few);
      same = c.test_slot.ensures.same ∙ same;
    }

pub returns-clause-tells : goal.returns-clause-tells
returns-clause-tells g c =
    let v : View = g.B.Bus.view c.args.bus.now in
    let a : ℕ → ℕ = word_in c.args.words.now in
    c.loop-slot.invariant.tells Good
    (subst (λ (x : List Slot). Tells v (pointers_by x a) Good) (sym (no_slot (λ (x : List Slot). x) c.args.slots.now c.loop-slot.slot-index (omega arith))) (no_pointers v))

pub returns-clause-text : goal.returns-clause-text
returns-clause-text g c = λ e.
    let v : View = g.B.Bus.view c.args.bus.now in
    let a : ℕ → ℕ = word_in c.args.words.now in
    c.loop-slot.invariant.text c.loop-slot.text (λ n. refl)
    (subst (λ (x : List Slot). IsTextIn v a c.loop-slot.text x) (sym (no_slot (λ (x : List Slot). x) c.args.slots.now c.loop-slot.slot-index (omega arith))) tt)
