use Rattle.std.proofs.Common.{ℕ, ◌+◌, ◌<◌, ◌∙◌, ap, is_some, length, refl, arith, rules, subst, sym}
use Rattle.o2_place.specs.Layout.{used}
use Rattle.o2_store.specs.Leaving.{LeaveFor}
use Rattle.o2_store.specs.Victims.{TakesNext}
use Rattle.o2_store.specs.Shelf.{Shelf, entry, rounded}
use Rattle.o2_store.proofs.Departing.{leave_behind, leave_still}
use Rattle.o2_store.proofs.Keeping.{keeps_refl, keeps_trans, same_tables, tables_trans, keeps_later}
use Rattle.o2_store.proofs.Choosing.{same_named, same_wanted}
use Rattle.o2_service.proofs.Among.{live_same, loads_after}
use Rattle.o2_service.proofs.Movings.{follows_refl, follows_trans}
use Rattle.o2_store.proofs.Framing.{device_behind}
use Rattle.o2_service.proofs.Turns.{taken_all, taken_next, taken_nobody}
use Rattle.o2_service.proofs.bringing.make_room.Goals as goal

pub loop-id-init : goal.loop-id-init
loop-id-init g c = record {
  keeps = λ pic q. keeps_refl _ pic c.args.store.now _;
  clean = λ pic q. q;
  tables = same_tables c.args.store.now;
  blocks = refl;
  told = λ w. w;
  map = refl;
  follows = follows_refl c.args.store.now c.args.regions.now c.requires.held c.requires.settled;
  kept = λ k n. refl;
  none = λ k n. n;
  still = λ k p. refl;
  unasked = refl;
  piles = λ k l n. refl;
  taken = taken_nobody c.args.id.key c.args.keep.now _ c.args.store.now;
  leave = leave_still c.args.store.now c.args.store.now _ refl;
  idle = λ l. (refl, refl);
  entry = refl;
  faults = omega arith;
}

pub make_way-answer-requires-clause-live : goal.make_way-answer-requires-clause-live
make_way-answer-requires-clause-live g c = live_same c.args.store.now c.loop-id.store c.args.id c.loop-id.invariant.tables c.requires.live

pub make_way-answer-requires-clause-fits : goal.make_way-answer-requires-clause-fits
make_way-answer-requires-clause-fits g c =
    let q = c.loop-id.invariant.tables in
    let w = same_wanted c.args.store.now c.loop-id.store c.args.id.key c.args.keep.now q in
    omega (arith, w, q.size, c.requires.fits)

pub loop-id-preserved : goal.loop-id-preserved
loop-id-preserved g c =
    let S = g.S.SwapDevice in
    let a = S.block c.args.swap.now in
    let v = c.make_way-answer in
    let told = S.told v.new.swap in
    let e = v.ensures in
    let i = c.loop-id.invariant in
    let b = S.block c.loop-id.swap in
    let d = S.block v.new.swap in
    let s = c.args.store.now in
    let t = c.loop-id.store in
    let u = v.new.store in
    let within : (k : ℕ) → k < length s.entries → k < length t.entries = λ k l. (let n = i.tables.count in omega (arith, n, l)) in
    record {
      keeps = λ pic q. keeps_trans told pic s t u a b d (keeps_later (S.told c.loop-id.swap) told pic s t a b e.device.told (i.keeps pic q)) (e.keeps pic (i.clean pic q));
      clean = λ pic q. e.clean pic (i.clean pic q);
      tables = tables_trans s t u i.tables e.tables;
      blocks = e.device.blocks ∙ i.blocks;
      told = λ w. i.told (e.device.told w);
      map = e.map ∙ i.map;
      follows = follows_trans c.args.regions.now c.loop-id.regions v.new.regions t u i.follows e.follows;
      kept = λ k n. e.kept k (same_named s t c.args.keep.now k i.tables ∙ n) ∙ i.kept k n;
      none = λ k n. e.none k (i.none k n);
      unasked = e.unasked ∙ i.unasked;
      piles = λ k l n. e.piles k (within k l) (i.none k n) ∙ i.piles k l n;
      still = λ k p. (let a = e.still k p in a ∙ i.still k (sym (ap is_some a) ∙ p));
      taken = taken_next c.args.id.key c.args.keep.now _ s t u i.taken (subst (λ (n : ℕ). TakesNext c.args.id.key c.args.keep.now n t u) (ap rounded (i.tables.same c.args.id.key).size) (e.next (search rules)));
      leave = leave_behind s t u _ i.tables e.tables.size i.none e.none i.leave (subst (λ (n : ℕ). LeaveFor t u n) (ap rounded (i.tables.same c.args.id.key).size) e.leave);
      idle = λ l. absurd
          (let w = ap (λ (x : Shelf). used x.places.ranges + rounded (entry x c.args.id.key).size) (i.idle l).0 in
          let z = ap (λ (x : Shelf). x.places.size) (i.idle l).0 in
          omega (arith, w, z, l, c.lacks_room.ensures));
      entry = e.entry ∙ i.entry;
      faults = omega (arith, i.faults, e.device.faults);
    }

pub returns-then-not-matches : goal.returns-then-not-matches
returns-then-not-matches g c =
    let S = g.S.SwapDevice in
    let a = S.block c.args.swap.now in
    let v = c.make_way-answer in
    let told = S.told v.new.swap in
    let e = v.ensures in
    let i = c.loop-id.invariant in
    let b = S.block c.loop-id.swap in
    let d = S.block v.new.swap in
    let s = c.args.store.now in
    let t = c.loop-id.store in
    let u = v.new.store in
    let within : (k : ℕ) → k < length s.entries → k < length t.entries = λ k l. (let n = i.tables.count in omega (arith, n, l)) in
    record {
      keeps = λ pic q. keeps_trans told pic s t u a b d (keeps_later (S.told c.loop-id.swap) told pic s t a b e.device.told (i.keeps pic q)) (e.keeps pic (i.clean pic q));
      clean = λ pic q. e.clean pic (i.clean pic q);
      tables = tables_trans s t u i.tables e.tables;
      device = device_behind _ _ _ _ _ _ _ i.blocks i.told i.faults e.device;
      map = e.map ∙ i.map;
      follows = follows_trans c.args.regions.now c.loop-id.regions v.new.regions t u i.follows e.follows;
      kept = λ k n. e.kept k (same_named s t c.args.keep.now k i.tables ∙ n) ∙ i.kept k n;
      none = λ k n. e.none k (i.none k n);
      unasked = e.unasked ∙ i.unasked;
      piles = λ k l n. e.piles k (within k l) (i.none k n) ∙ i.piles k l n;
      still = λ k p. (let a = e.still k p in a ∙ i.still k (sym (ap is_some a) ∙ p));
      turns = taken_all c.args.id.key c.args.keep.now _ s t u i.taken (λ k n. ap is_some (e.stays (search rules) k));
      leave = leave_behind s t u _ i.tables e.tables.size i.none e.none i.leave (subst (λ (n : ℕ). LeaveFor t u n) (ap rounded (i.tables.same c.args.id.key).size) e.leave);
      entry = e.entry ∙ i.entry;
      room = search rules;
      loads = λ q. loads_after s t i.tables i.map (e.loads q);
      full = e.full;
      idle = λ l. absurd
          (let w = ap (λ (x : Shelf). used x.places.ranges + rounded (entry x c.args.id.key).size) (i.idle l).0 in
          let z = ap (λ (x : Shelf). x.places.size) (i.idle l).0 in
          omega (arith, w, z, l, c.lacks_room.ensures));
      never = e.never;
    }

pub returns-clause-turns : goal.returns-clause-turns
returns-clause-turns g c = taken_all c.args.id.key c.args.keep.now _ c.args.store.now c.loop-id.store c.loop-id.store c.loop-id.invariant.taken (λ k n. refl)
