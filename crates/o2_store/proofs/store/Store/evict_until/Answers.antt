use Rattle.std.proofs.Common.{List, ℕ, ◌+◌, ◌<◌, ◌∙◌, refl, sym, subst, rules, arith, ap}
use Rattle.o2_place.specs.Layout.{used}
use Rattle.o2_place.specs.Marks.{IsKept}
use Rattle.o2_store.specs.Shelf.{Shelf}
use Rattle.o2_store.proofs.Departing.{leave_behind, leave_still}
use Rattle.o2_store.proofs.Keeping.{keeps_later, keeps_refl, keeps_trans, same_tables, tables_trans}
use Rattle.o2_store.proofs.Leaving.{evicts_refl, evicts_trans}
use Rattle.o2_store.proofs.Framing.{device_behind}
use Rattle.o2_store.proofs.store.Store.evict_until.Goals as goal

pub returns-then-not-matches-clause-keeps : goal.returns-then-not-matches-clause-keeps
returns-then-not-matches-clause-keeps g c =
    let S = g.S.SwapDevice in
    let a = S.block c.args.swap.now in
    let v = c.evict_next-answer in
    let told = S.told v.new.swap in
    let i = c.loop-self.invariant in
    let b = S.block c.loop-self.swap in
    let d = S.block v.new.swap in
    let s = c.args.self.now in
    let t = c.loop-self.self in
    λ pic q. keeps_trans told pic s t v.new.self a b d (keeps_later (S.told c.loop-self.swap) told pic s t a b v.ensures.device.told (i.keeps pic q)) (v.ensures.keeps pic (i.clean pic q))

pub returns-then-not-matches-clause-clean : goal.returns-then-not-matches-clause-clean
returns-then-not-matches-clause-clean g c = λ pic q. c.evict_next-answer.ensures.clean pic (c.loop-self.invariant.clean pic q)

pub returns-then-not-matches-clause-tables : goal.returns-then-not-matches-clause-tables
returns-then-not-matches-clause-tables g c = tables_trans c.args.self.now c.loop-self.self c.evict_next-answer.new.self c.loop-self.invariant.tables c.evict_next-answer.ensures.tables

pub returns-then-not-matches-clause-evicts : goal.returns-then-not-matches-clause-evicts
returns-then-not-matches-clause-evicts g c =
    let i = c.loop-self.invariant in
    evicts_trans c.args.self.now c.loop-self.self c.evict_next-answer.new.self i.tables i.evicts c.evict_next-answer.ensures.evicts

pub loop-self-preserved : goal.loop-self-preserved
loop-self-preserved g c =
    let S = g.S.SwapDevice in
    let a = S.block c.args.swap.now in
    let v = c.evict_next-answer in
    let told = S.told v.new.swap in
    let i = c.loop-self.invariant in
    let b = S.block c.loop-self.swap in
    let d = S.block v.new.swap in
    let s = c.args.self.now in
    let t = c.loop-self.self in
    let short : t.places.size < used t.places.ranges + c.args.len = omega (arith, c.is_short.ensures) in
    record {
      keeps = λ pic q. keeps_trans told pic s t v.new.self a b d (keeps_later (S.told c.loop-self.swap) told pic s t a b v.ensures.device.told (i.keeps pic q)) (v.ensures.keeps pic (i.clean pic q));
      clean = λ pic q. v.ensures.clean pic (i.clean pic q);
      tables = tables_trans s t v.new.self i.tables v.ensures.tables;
      blocks_many = v.ensures.device.blocks ∙ i.blocks_many;
      told = λ w. i.told (v.ensures.device.told w);
      map = v.ensures.map ∙ i.map;
      keys = v.ensures.keys ∙ i.keys;
      kept = λ k q. v.ensures.kept k (subst (λ (x : List ℕ). IsKept x k) (sym i.keys) q) ∙ i.kept k q;
      locked = search rules;
      none = search rules;
      evicts = evicts_trans s t v.new.self i.tables i.evicts v.ensures.evicts;
      leave = leave_behind s t v.new.self c.args.len i.tables v.ensures.tables.size i.none v.ensures.none i.leave (v.ensures.leave c.args.len short);
      unasked = v.ensures.unasked ∙ i.unasked;
      piles = λ k l n. v.ensures.piles k (let m = i.tables.count in omega (arith, l, m)) (i.none k n) ∙ i.piles k l n;
      enough = λ q. absurd (let e = ap (λ (x : Shelf). used x.places.ranges) (i.enough q) in let f = ap (λ (x : Shelf). x.places.size) (i.enough q) in omega (arith, e, f, q, c.is_short.ensures));
      untouched = λ q. absurd (let e = ap (λ (x : Shelf). used x.places.ranges) (i.enough q) in let f = ap (λ (x : Shelf). x.places.size) (i.enough q) in omega (arith, e, f, q, c.is_short.ensures));
      faults = omega (arith, i.faults, v.ensures.device.faults);
    }

pub returns-then-not-matches-clause-idle : goal.returns-then-not-matches-clause-idle
returns-then-not-matches-clause-idle g c = λ q.
    absurd (let i = c.loop-self.invariant in let e = ap (λ (x : Shelf). used x.places.ranges) (i.enough q) in let f = ap (λ (x : Shelf). x.places.size) (i.enough q) in omega (arith, e, f, q, c.is_short.ensures))

pub returns-then-not-matches-clause-device : goal.returns-then-not-matches-clause-device
returns-then-not-matches-clause-device g c = (let i = c.loop-self.invariant in device_behind _ _ _ _ _ _ _ i.blocks_many i.told i.faults c.evict_next-answer.ensures.device)

pub returns-then-not-matches-clause-leave : goal.returns-then-not-matches-clause-leave
returns-then-not-matches-clause-leave g c =
    let v = c.evict_next-answer in
    let i = c.loop-self.invariant in
    let t = c.loop-self.self in
    let short : t.places.size < used t.places.ranges + c.args.len = omega (arith, c.is_short.ensures) in
    leave_behind c.args.self.now t v.new.self c.args.len i.tables v.ensures.tables.size i.none v.ensures.none i.leave (v.ensures.leave c.args.len short)

pub loop-self-init : goal.loop-self-init
loop-self-init g c = record {
  keeps = λ pic q. keeps_refl _ pic c.args.self.now _;
  clean = λ pic q. q;
  tables = same_tables c.args.self.now;
  blocks_many = refl;
  told = λ w. w;
  map = refl;
  keys = refl;
  kept = λ k q. refl;
  locked = λ k l. refl;
  none = λ k n. n;
  evicts = evicts_refl c.args.self.now;
  leave = leave_still c.args.self.now c.args.self.now c.args.len refl;
  unasked = refl;
  piles = λ k l n. refl;
  enough = λ q. refl;
  untouched = λ q. refl;
  faults = omega arith;
}

pub returns-then-not-matches-clause-piles : goal.returns-then-not-matches-clause-piles
returns-then-not-matches-clause-piles g c = λ k l n.
    (let i = c.loop-self.invariant in
    let m = i.tables.count in
    c.evict_next-answer.ensures.piles k (omega (arith, l, m)) (i.none k n) ∙ i.piles k l n)

pub returns-then-not-matches-clause-unasked : goal.returns-then-not-matches-clause-unasked
returns-then-not-matches-clause-unasked g c = c.evict_next-answer.ensures.unasked ∙ c.loop-self.invariant.unasked
