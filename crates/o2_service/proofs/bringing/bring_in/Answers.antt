use Rattle.std.proofs.Common.{◌≡◌, ◌≢◌, ◌+◌, ◌∙◌, ap, is_some, inl, inr, ℕ, None, IsSome, refl, subst, sym, arith}
use Rattle.std.proofs.lemmas.Bool.{cases_eq, false≢true}
use Rattle.o2_store.specs.Pictures.{picture}
use Rattle.o2_store.specs.Idle.{NoneTaken}
use Rattle.o2_place.specs.Layout.{used}
use Rattle.o2_store.specs.Leaving.{lacking}
use Rattle.o2_store.specs.Shelf.{KeepsAll, SameTables, Shelf, entry, place_of, rounded}
use Rattle.o2_swapmap.specs.Piles.{Blocks, blocks_of}
use Rattle.o2_store.proofs.Asking.{asks_behind, asks_nothing}
use Rattle.o2_store.proofs.Departing.{gap_left, leave_in, leave_out}
use Rattle.o2_store.proofs.Loads.{out_load}
use Rattle.o2_store.proofs.Keeping.{keeps_trans, tables_trans, keeps_later}
use Rattle.o2_service.proofs.Among.{live_same, whole_same}
use Rattle.o2_service.proofs.Amounts.{live_within}
use Rattle.o2_service.proofs.Movings.{follows_trans, not_there}
use Rattle.o2_store.proofs.Framing.{device_behind}
use Rattle.o2_service.proofs.Turns.{leave_then}
use Rattle.o2_service.proofs.bringing.bring_in.Goals as goal

pub returns-in_default : goal.returns-in_default
returns-in_default g c =
    let r = c.make_room.ensures in
    record {
      keeps = r.keeps (picture c.args.images.now) c.requires.backed.clean;
      clean = r.clean (picture c.args.images.now) c.requires.backed.clean;
      device = r.device;
      map = r.map;
      follows = r.follows;
      kept = λ k n i. ap is_some (r.kept k n) ∙ i;
      none = λ k d e. r.none k e;
      turns = r.turns;
      leave = leave_out c.args.store.now c.make_room.new.store c.args.id.key _ r.tables (r.none c.args.id.key c.requires.out) refl r.leave;
      slide = λ start k f d i. r.still k i;
      piles = r.piles;
      asks = asks_nothing _ _ _ _ _ r.unasked (λ x. absurd (c.in_default.not-Here x));
      here = λ x. absurd (c.in_default.not-Here x);
      out = λ x. r.none c.args.id.key c.requires.out;
      loads = r.loads;
      stuck = λ x. record { full = r.full x; out = r.none c.args.id.key c.requires.out; same = r.entry };
      idle = λ none load.
          (let l = out_load c.args.store.now c.args.id.key c.law.ensures.shelf c.law.ensures.sum c.requires.out in
          let same = r.idle (omega (arith, l, load)) in
          record { device = same.1; none = subst (λ (z : Shelf). NoneTaken z.swap) (sym same.0) none });
      never = r.never;
    }

pub make_gap-requires : goal.make_gap-requires
make_gap-requires g c =
    let r = c.make_room.ensures in
    record {
      live = live_same c.args.store.now c.make_room.new.store c.args.id r.tables c.requires.live;
      room = r.room c.in-Here.is;
      held = r.follows.held;
      settled = r.follows.settled;
    }

pub fill_gap-requires : goal.fill_gap-requires
fill_gap-requires g c =
    let r = c.make_room.ensures in
    let q = c.make_gap.ensures in
    let s = c.args.store.now in
    let t = c.make_room.new.store in
    let u = c.make_gap.new.store in
    let S = g.S.SwapDevice in
    let pic = picture c.args.images.now in
    let k = q.keeps (S.told c.args.swap.now) pic (S.block c.args.swap.now) in
    let tables : SameTables s u = tables_trans s t u r.tables k.tables in
    record {
      live = live_same s u c.args.id tables c.requires.live;
      whole = whole_same s u c.args.id.key tables c.requires.whole;
      out = not_there (place_of u c.args.id.key) (q.presence c.args.id.key ∙ ap is_some (r.none c.args.id.key c.requires.out));
      room = q.room;
      gap = q.gap;
      held = q.follows.held;
      settled = q.follows.settled;
      pictures = λ j m seg x. c.requires.pictures j m seg ((tables.same j).image (m, seg) x);
      backed = record { clean = q.clean pic (r.clean pic c.requires.backed.clean); device = omega (arith, q.map, r.map, r.device.blocks, c.requires.backed.device) };
    }

pub returns-in-Here : goal.returns-in-Here
returns-in-Here g c =
    let S = g.S.SwapDevice in
    let told = S.told c.fill_gap.new.swap in
    let pic = picture c.args.images.now in
    let r = c.make_room.ensures in
    let q = c.make_gap.ensures in
    let f = c.fill_gap.ensures in
    let s = c.args.store.now in
    let t = c.make_room.new.store in
    let u = c.make_gap.new.store in
    let v = c.fill_gap.new.store in
    let a = S.block c.args.swap.now in
    let b = S.block c.make_room.new.swap in
    let d = S.block c.fill_gap.new.swap in
    let first : KeepsAll told pic s a u b = keeps_trans told pic s t u a b b (keeps_later (S.told c.make_room.new.swap) told pic s t a b f.device.told (r.keeps pic c.requires.backed.clean)) (q.keeps told pic b) in
    let key = c.args.id.key in
    let out : place_of t key ≡ None = r.none key c.requires.out in
    let later : SameTables t v = tables_trans t u v (q.keeps told pic b).tables f.keeps.tables in
    let size : rounded (entry t key).size ≡ rounded (entry s key).size = ap rounded (r.tables.same key).size in
    let moved : rounded (entry u key).size ≡ rounded (entry t key).size = ap rounded ((q.keeps told pic b).tables.same key).size in
    let takes : used v.places.ranges + lacking v key ≡ used t.places.ranges + rounded (entry s key).size = omega (arith, f.takes, q.load, moved, size) in
    let present : (j : ℕ) → j ≢ key → is_some (place_of v j) ≡ is_some (place_of t j) = λ j n. ap is_some (f.alone j n) ∙ q.presence j in
    let others : (j : ℕ) → IsSome (place_of t j) → IsSome (place_of v j) = λ j i. elim (cases_eq j key) [
      | inl same ↦ absurd (false≢true (sym (ap is_some (subst (λ (x : ℕ). place_of t x ≡ None) (sym same) out)) ∙ i))
      | inr other ↦ present j other ∙ i
    ] in
    let none : (j : ℕ) → j ≢ key → place_of t j ≡ None → place_of v j ≡ None = λ j n e. not_there (place_of v j) (present j n ∙ ap is_some e) in
    record {
      keeps = keeps_trans told pic s u v a b d first f.keeps;
      clean = f.clean;
      device = device_behind _ _ _ _ _ _ _ r.device.blocks r.device.told r.device.faults f.device;
      map = f.map ∙ q.map ∙ r.map;
      follows = follows_trans c.args.regions.now c.make_gap.new.regions c.fill_gap.new.regions u v (follows_trans c.args.regions.now c.make_room.new.regions c.make_gap.new.regions t u r.follows q.follows) f.follows;
      kept = λ k n i. elim (cases_eq k c.args.id.key) [
        | inl same ↦ absurd (false≢true (sym (ap is_some (subst (λ (x : ℕ). place_of s x ≡ None) (sym same) c.requires.out)) ∙ i))
        | inr other ↦ ap is_some (f.alone k other) ∙ (q.presence k ∙ (ap is_some (r.kept k n) ∙ i))
      ];
      none = λ k d e. f.alone k d ∙ not_there (place_of u k) (q.presence k ∙ ap is_some (r.none k e));
      turns = leave_then key c.args.keep.now _ s t v r.turns present;
      leave = leave_in s t v key (rounded (entry s key).size) later c.requires.out (sym size) takes others none r.leave;
      piles = λ k l n. ap (λ (z : Blocks). blocks_of z k) (f.blocks ∙ q.blocks) ∙ r.piles k l n;
      asks = asks_behind _ _ _ _ _ _ _ _ (ap (λ (z : Blocks). blocks_of z key) q.blocks ∙ r.piles key (live_within s c.args.id c.requires.live) c.requires.out) r.unasked (λ x. x) f.asks;
      slide = λ start j g n i.
          (let gap = gap_left s t v key start r.tables r.still out present g in
          f.alone j n ∙ (ap (λ (z : Shelf). place_of z j) (q.alone start gap).0 ∙ r.still j (sym (present j n) ∙ i)));
      here = f.here;
      out = f.out;
      loads = λ x. absurd (f.never.2 x);
      stuck = λ x. absurd (f.never.2 x);
      idle = λ none load.
          (let l = out_load s c.args.id.key c.law.ensures.shelf c.law.ensures.sum c.requires.out in
          let same = r.idle (omega (arith, l, load)) in
          let now = f.idle (subst NoneTaken (sym (q.blocks ∙ ap (λ (z : Shelf). z.swap) same.0)) none) in
          record { device = now.device ∙ same.1; none = now.none });
      never = (f.never.0, f.never.1);
    }
