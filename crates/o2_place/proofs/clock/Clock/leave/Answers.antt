use Rattle.std.proofs.Common.{◌≡◌, ◌<◌, ℕ, length, sym, ◌∙◌, subst, length-set}
use Rattle.o2_place.specs.Marks.{IsRing, no_mark, Turns}
use Rattle.o2_place.proofs.MarkLemmas.{HasLeft, left_clock, left_ahead}
use Rattle.o2_place.proofs.clock.Clock.leave.Goals as goal

pub invariant_of-self : goal.invariant_of-self
invariant_of-self c =
    let i = c.self.inside in
    let h = c.self.invariant.0 in
    let s = c.step_back-self-inside.ensures in
    let q = c.quit-self-inside.ensures in
    let id : c.args.id < length i.marks.items = subst (λ (t : Turns). c.args.id < length t.marks) (sym c.self.view_is) c.requires in
    let long : length i.ring.items ≡ length i.marks.items = h.cycle.ring_long in
    let long1 : length c.step_back-self-inside.new.ring.items ≡ length i.marks.items = s.ring.ring_long ∙ long in
    let left : HasLeft i.marks.items i.ring.items i.turns.items i.count i.hand c.args.id c.step_back-self-inside.new.ring.items
    c.step_back-self-inside.new.turns.items c.step_back-self-inside.result c.quit-self-inside.new.ring.items
    c.quit-self-inside.new.turns.items c.quit-self-inside.result = record {
      clock = h;
      id_in = id;
      cycle1 = subst (IsRing c.step_back-self-inside.new.ring.items c.step_back-self-inside.new.turns.items) long s.ring;
      less1 = s.hand.0;
      more1 = s.hand.1;
      last = s.last;
      before = s.before;
      far = λ k l. s.far k (subst (λ (n : ℕ). k < n) (sym long) l);
      near = λ k l. s.near k (subst (λ (n : ℕ). k < n) (sym long) l);
      cycle2 = subst (IsRing c.quit-self-inside.new.ring.items c.quit-self-inside.new.turns.items) long1 q.ring;
      less2 = q.count.0;
      more2 = q.count.1;
      same = q.same;
      first = λ k l. q.first k (subst (λ (n : ℕ). k < n) (sym long1) l);
      stay = λ k l. q.stay k (subst (λ (n : ℕ). k < n) (sym long1) l);
      beyond = λ k l. q.beyond k (subst (λ (n : ℕ). k < n) (sym long1) l);
    } in (
      left_clock i.marks.items i.ring.items i.turns.items i.count i.hand c.args.id c.step_back-self-inside.new.ring.items
          c.step_back-self-inside.new.turns.items c.step_back-self-inside.result c.quit-self-inside.new.ring.items
          c.quit-self-inside.new.turns.items c.quit-self-inside.result left,
      rw (length-set i.marks.items c.args.id no_mark)
          c.self.invariant.1,
    )

pub returns-clause-ahead : goal.returns-clause-ahead
returns-clause-ahead c =
    let i = c.self.inside in
    let h = c.self.invariant.0 in
    let s = c.step_back-self-inside.ensures in
    let q = c.quit-self-inside.ensures in
    let id : c.args.id < length i.marks.items = subst (λ (t : Turns). c.args.id < length t.marks) (sym c.self.view_is) c.requires in
    let long : length i.ring.items ≡ length i.marks.items = h.cycle.ring_long in
    let long1 : length c.step_back-self-inside.new.ring.items ≡ length i.marks.items = s.ring.ring_long ∙ long in
    let left : HasLeft i.marks.items i.ring.items i.turns.items i.count i.hand c.args.id c.step_back-self-inside.new.ring.items
    c.step_back-self-inside.new.turns.items c.step_back-self-inside.result c.quit-self-inside.new.ring.items
    c.quit-self-inside.new.turns.items c.quit-self-inside.result = record {
      clock = h;
      id_in = id;
      cycle1 = subst (IsRing c.step_back-self-inside.new.ring.items c.step_back-self-inside.new.turns.items) long s.ring;
      less1 = s.hand.0;
      more1 = s.hand.1;
      last = s.last;
      before = s.before;
      far = λ k l. s.far k (subst (λ (n : ℕ). k < n) (sym long) l);
      near = λ k l. s.near k (subst (λ (n : ℕ). k < n) (sym long) l);
      cycle2 = subst (IsRing c.quit-self-inside.new.ring.items c.quit-self-inside.new.turns.items) long1 q.ring;
      less2 = q.count.0;
      more2 = q.count.1;
      same = q.same;
      first = λ k l. q.first k (subst (λ (n : ℕ). k < n) (sym long1) l);
      stay = λ k l. q.stay k (subst (λ (n : ℕ). k < n) (sym long1) l);
      beyond = λ k l. q.beyond k (subst (λ (n : ℕ). k < n) (sym long1) l);
    } in
    rw (← c.self.view_is) (left_ahead i.marks.items i.ring.items i.turns.items i.count i.hand c.args.id
    c.step_back-self-inside.new.ring.items c.step_back-self-inside.new.turns.items c.step_back-self-inside.result
    c.quit-self-inside.new.ring.items c.quit-self-inside.new.turns.items c.quit-self-inside.result left)
