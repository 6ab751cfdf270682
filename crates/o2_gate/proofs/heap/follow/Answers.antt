use Rattle.std.proofs.Common.{◌≡◌, ℕ, ◌<◌, List, true, length, take, get_or, ap, sym, subst, ◌∙◌, refl, arith, rules}
use Rattle.std.proofs.lemmas.Grind.{common_steps}
use Rattle.std.specs.Prelude.{Option}
use Rattle.o2_isa.specs.View.{View, Hold, is_writable, whole}
use Rattle.o2_isa.specs.Pointers.{is_ready, put_at_pointer}
use Rattle.o2_world.specs.CallParts.{word_bytes}
use Rattle.o2_world.specs.Calls.{heap_most}
use Rattle.o2_world.specs.Heaps.{put_words}
use Rattle.o2_subseg.proofs.Walks.{inside_at, put_more}
use Rattle.o2_gate.specs.Heaps.{front_of}
use Rattle.o2_gate.proofs.Heaps.{own_put, puts_length, word_put, word_ready}
use Rattle.o2_gate.proofs.Stores.{keeps_then, put_over}
use Rattle.o2_gate.proofs.Writing.{writes_none, writes_then}
use Rattle.o2_gate.proofs.heap.follow.Goals as goal

pub store-requires : goal.store-requires
store-requires g c =
    let v : View = g.B.Bus.view c.args.bus.now in
    let ws : List (ℕ × ℕ) = c.args.plan.now.words in
    let k : ℕ = c.loop-at.at in
    let short : k < length ws = first_of (omega arith, search rules, grind (arith, common_steps)) in
    let p : ℕ = (get_or ws k (0, 0)).0 in
    subst (λ (part : List ℕ). is_ready is_writable (g.B.Bus.view c.loop-at.bus) c.args.selector p (length part) ≡ true) (sym c.bytes_of.ensures)
    (c.loop-at.invariant.ready is_writable c.args.selector p 2
    ∙ word_ready v c.args.selector p c.requires.ready
    (λ f. inside_at (length (front_of f v c.args.selector)) ws c.args.plan.now.count k (c.requires.inside f) (omega arith) short))

pub loop-at-init : goal.loop-at-init
loop-at-init g c =
    let v : View = g.B.Bus.view c.args.bus.now in
    record {
      bytes = λ f n. sym (own_put v.held (whole f v).bytes c.args.selector heap_most n refl);
      frame = refl;
      writes = writes_none v v refl;
      ready = λ ok s o n. refl;
    }

pub loop-at-preserved : goal.loop-at-preserved
loop-at-preserved g c =
    let v : View = g.B.Bus.view c.args.bus.now in
    let u : View = g.B.Bus.view c.loop-at.bus in
    let n : View = g.B.Bus.view c.store.new.bus in
    let s : ℕ = c.args.selector in
    let ws : List (ℕ × ℕ) = c.args.plan.now.words in
    let k : ℕ = c.loop-at.at in
    let short : k < length ws = first_of (omega arith, search rules, grind (arith, common_steps)) in
    let p : ℕ = (get_or ws k (0, 0)).0 in
    let w : ℕ = (get_or ws k (0, 0)).1 in
    let held : u.held ≡ v.held = ap (λ (x : View). x.held) c.loop-at.invariant.frame in
    record {
      bytes = λ f m.
          let front : List ℕ = front_of f v s in
          let before : List ℕ = put_words front (take k ws) in
          let inside = inside_at (length front) ws c.args.plan.now.count k (c.requires.inside f) (omega arith) short in
          c.store.ensures.bytes f m
          ∙ ap (λ (part : List ℕ). put_at_pointer u.held (whole f u).bytes s p part m) c.bytes_of.ensures
          ∙ ap (λ (h : ℕ → Option Hold). put_at_pointer h (whole f u).bytes s p (word_bytes w) m) held
          ∙ put_over v.held (put_at_pointer v.held (whole f v).bytes s 0 before) (whole f u).bytes s p (word_bytes w) m (c.loop-at.invariant.bytes f m)
          ∙ word_put v.held (whole f v).bytes s before p w m (let l = puts_length front (take k ws) in omega (arith, l, inside))
          ∙ ap (λ (xs : List ℕ). put_at_pointer v.held (whole f v).bytes s 0 xs m) (sym (put_more front ws k short));
      frame = keeps_then v u n c.loop-at.invariant.frame c.store.ensures.frame;
      writes = writes_then v u n held c.loop-at.invariant.writes c.store.ensures.writes;
      ready = λ ok t o q. c.store.ensures.ready ok t o q ∙ c.loop-at.invariant.ready ok t o q;
    }
