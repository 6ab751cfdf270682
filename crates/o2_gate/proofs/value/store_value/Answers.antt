use Rattle.std.proofs.Common.{◌≡◌, ℕ, ◌+◌, ◌-◌, List, true, drop, ap, sym, ◌∙◌, subst, arith}
use Rattle.std.specs.Prelude.{Option, slice_index_or}
use Rattle.o2_isa.specs.View.{View, Hold, whole}
use Rattle.o2_world.specs.declared.types.Slot.{Slot}
use Rattle.o2_world.specs.declared.types.Slot.TheVariants.{Word}
use Rattle.o2_world.specs.Slots.{parts_at, parts_in, put_all, targets_at, targets_in, words_in}
use Rattle.o2_gate.specs.Given.{word_in}
use Rattle.o2_gate.specs.Pointed.{are_ready}
use Rattle.o2_gate.specs.Replies.{FitsIn}
use Rattle.o2_gate.proofs.Stores.{keeps_then}
use Rattle.o2_gate.proofs.Walks.{put_all_over, put_slot, ready_behind_slot, ready_same, slots_next, words_next}
use Rattle.o2_gate.proofs.Writing.{writes_then}
use Rattle.o2_gate.proofs.value.store_value.Goals as goal

pub store_at-requires-clause-inside : goal.store_at-requires-clause-inside
store_at-requires-clause-inside g c =
    let more = words_next c.args.slots.now c.loop-slot.slot-index c.loop-slot-test.true in
    omega (arith, more, c.loop-slot.invariant.place, c.loop-slot.invariant.few, c.words_of-place.ensures)

pub loop-slot-preserved : goal.loop-slot-preserved
loop-slot-preserved g c =
    let v : View = g.B.Bus.view c.args.bus.now in
    let u : View = g.B.Bus.view c.loop-slot.bus in
    let n : View = g.B.Bus.view c.store_at.new.bus in
    let a : ℕ → ℕ = word_in c.args.words.now in
    let k : ℕ = c.loop-slot.slot-index in
    let ss : List Slot = c.args.slots.now in
    let s : Slot = slice_index_or ss k Word in
    let rest : List Slot = drop (k + 1) ss in
    let more = words_next ss k c.loop-slot-test.true in
    let next = slots_next ss k c.loop-slot-test.true in
    let held : u.held ≡ v.held = ap (λ (x : View). x.held) c.loop-slot.invariant.frame in
    let here : c.loop-slot.place - c.words_of-place.result ≡ words_in rest = omega (arith, more, c.loop-slot.invariant.place, c.words_of-place.ensures) in
    let fits = subst (λ (x : List Slot). FitsIn x c.args.value) next c.loop-slot.invariant.fits in
    record {
      place = here;
      few = omega (arith, c.loop-slot.invariant.few);
      ready = ready_same u n c.store_at.ensures.ready (targets_in rest a)
          ∙ ready_behind_slot u a rest s (subst (λ (x : List Slot). are_ready u (targets_in x a) ≡ true) next c.loop-slot.invariant.ready);
      fits = fits.1;
      bytes = λ f m.
          put_all_over v.held (targets_in rest a) (parts_in rest c.args.value) (whole f n).bytes
          (put_all v.held (targets_at s a (words_in rest)) (parts_at s c.args.value) (whole f u).bytes)
          (λ q.
          c.store_at.ensures.bytes f q
          ∙ ap (λ (h : ℕ → Option Hold). put_all h (targets_at s a (c.loop-slot.place - c.words_of-place.result)) (parts_at s c.args.value) (whole f u).bytes q) held
          ∙ ap (λ (p : ℕ). put_all v.held (targets_at s a p) (parts_at s c.args.value) (whole f u).bytes q) here) m
          ∙ ap (λ (h : ℕ → List ℕ). h m) (sym (put_slot u a rest s c.args.value v.held (whole f u).bytes fits.0))
          ∙ ap (λ (x : List Slot). put_all v.held (targets_in x a) (parts_in x c.args.value) (whole f u).bytes m) (sym next)
          ∙ c.loop-slot.invariant.bytes f m;
      frame = keeps_then v u n c.loop-slot.invariant.frame c.store_at.ensures.frame;
      writes = writes_then v u n held c.loop-slot.invariant.writes c.store_at.ensures.writes;
    }
