use Rattle.std.proofs.Common.{◌≡◌, ◌<◌, ◌∙◌, ℕ, IsSome, arith, refl, length, get_or, true}
use Rattle.std.proofs.lemmas.Option.{slice_get-get_or}
use Rattle.o2_place.specs.declared.seg_id.SegId.{SegId}
use Rattle.o2_store.specs.Pictures.{picture}
use Rattle.o2_store.proofs.Departing.{leave_still}
use Rattle.o2_store.proofs.Keeping.{keeps_refl, keeps_trans, tables_trans, locked_stay, keeps_later}
use Rattle.o2_store.proofs.Loads.{same_live_load}
use Rattle.o2_store.specs.Shelf.{place_of}
use Rattle.o2_service.specs.Needs.{needs}
use Rattle.o2_service.proofs.Among.{all_live_same, all_whole_same, loads_after, needs_at, only_refl, only_trans, present_more, same_needed, stays_refl, stays_trans}
use Rattle.o2_service.proofs.Departed.{leave_needs}
use Rattle.o2_service.proofs.Movings.{follows_refl, follows_trans}
use Rattle.o2_service.proofs.Reading.{asked_next, asked_nothing, for_needed, waits_first, waits_next}
use Rattle.o2_store.proofs.Framing.{device_behind}
use Rattle.o2_service.proofs.serving.bring_all.Goals as goal

pub loop-k-init : goal.loop-k-init
loop-k-init g c = record {
  keeps = keeps_refl _ _ c.args.store.now _;
  clean = c.requires.backed.clean;
  blocks = refl;
  told = λ w. w;
  map = refl;
  live = c.requires.live;
  whole = c.requires.whole;
  pictured = c.requires.pictures;
  stays = stays_refl c.args.need.now c.args.store.now;
  only = only_refl c.args.need.now c.args.store.now;
  leave = leave_still c.args.store.now c.args.store.now 0 refl;
  here = record { each = λ i p l e. absurd (omega (arith, l)) };
  fits = c.requires.fits;
  follows = follows_refl c.args.store.now c.args.regions.now c.requires.held c.requires.settled;
  idle = λ none load. record { device = refl; none = none };
  waits = waits_first c.args.store.now c.args.need.now;
  asked = asked_nothing c.args.store.now c.args.need.now _ _ _ refl;
  faults = omega arith;
}

pub bring_one-requires-clause-live : goal.bring_one-requires-clause-live
bring_one-requires-clause-live g c =
    let need = c.args.need.now in
    let k = c.loop-k.k in
    let d : SegId × ℕ = (record { key = 0; age = 0 }, 0) in
    let l : k < length need = rw c.pairs-pairs.ensures.pairs at c.loop-k-test.true in
    rw c.pairs-pairs.ensures.pairs (c.loop-k.invariant.live.each k (get_or need k d) (slice_get-get_or need k d l))

pub bring_one-requires-clause-whole : goal.bring_one-requires-clause-whole
bring_one-requires-clause-whole g c =
    let need = c.args.need.now in
    let k = c.loop-k.k in
    let d : SegId × ℕ = (record { key = 0; age = 0 }, 0) in
    let l : k < length need = rw c.pairs-pairs.ensures.pairs at c.loop-k-test.true in
    rw c.pairs-pairs.ensures.pairs (c.loop-k.invariant.whole.each k (get_or need k d) (slice_get-get_or need k d l))

pub bring_one-requires-clause-among : goal.bring_one-requires-clause-among
bring_one-requires-clause-among g c =
    let need = c.args.need.now in
    let k = c.loop-k.k in
    let d : SegId × ℕ = (record { key = 0; age = 0 }, 0) in
    let l : k < length need = rw c.pairs-pairs.ensures.pairs at c.loop-k-test.true in
    rw c.pairs-pairs.ensures.pairs (needs_at need k (get_or need k d) (slice_get-get_or need k d l))

pub returns-in_default : goal.returns-in_default
returns-in_default g c =
    let S = g.S.SwapDevice in
    let pic = picture c.args.images.now in
    let need = c.args.need.now in
    let s = c.args.store.now in
    let t = c.loop-k.store in
    let u = c.bring_one.new.store in
    let i = c.loop-k.invariant in
    let e = c.bring_one.ensures in
    let k = c.loop-k.k in
    let d : SegId × ℕ = (record { key = 0; age = 0 }, 0) in
    let l : k < length need = rw c.pairs-pairs.ensures.pairs at c.loop-k-test.true in
    let among : needs need (get_or need k d).0.key ≡ true = needs_at need k (get_or need k d) (slice_get-get_or need k d l) in
    let asks = rw c.pairs-pairs.ensures.pairs at e.asks in
    let unasked = rw c.pairs-pairs.ensures.pairs at e.unasked in
    record {
      keeps = keeps_trans (S.told c.bring_one.new.swap) pic s t u (S.block c.args.swap.now) (S.block c.loop-k.swap) (S.block c.bring_one.new.swap)
          (keeps_later (S.told c.loop-k.swap) (S.told c.bring_one.new.swap) pic s t (S.block c.args.swap.now) (S.block c.loop-k.swap) e.device.told i.keeps) e.keeps;
      clean = e.clean;
      device = device_behind _ _ _ _ _ _ _ i.blocks i.told i.faults e.device;
      map = e.map ∙ i.map;
      follows = follows_trans c.args.regions.now c.loop-k.regions c.bring_one.new.regions t u i.follows e.follows;
      stays = stays_trans need s t u i.stays e.stays;
      only = only_trans need s t u i.only e.only;
      locked = locked_stay s u c.law-in_default.ensures.shelf (tables_trans s t u i.keeps.tables e.keeps.tables);
      asks = for_needed s need _ _ _ (asked_next s t need (λ k. Unit {0}) (get_or need k d).0.key _ _ _ _ _ c.law.ensures.once among i.waits (λ n m o. tt) tt i.asked asks unasked);
      leave = λ q. absurd (c.in_default.not-Here q);
      here = λ q. absurd (c.in_default.not-Here q);
      never = e.never;
      loads = λ q. loads_after s t i.keeps.tables i.map (e.loads q);
      idle = λ none load.
          (let before = i.idle none load in
          let size = i.keeps.tables.size in
          let now = e.idle before.none (omega (arith, load, size, same_live_load s t i.keeps.tables)) in
          record { device = now.device ∙ before.device; none = now.none });
    }

pub loop-k-preserved : goal.loop-k-preserved
loop-k-preserved g c =
    let S = g.S.SwapDevice in
    let pic = picture c.args.images.now in
    let need = c.args.need.now in
    let s = c.args.store.now in
    let t = c.loop-k.store in
    let u = c.bring_one.new.store in
    let i = c.loop-k.invariant in
    let e = c.bring_one.ensures in
    let k = c.loop-k.k in
    let d : SegId × ℕ = (record { key = 0; age = 0 }, 0) in
    let l : k < length need = rw c.pairs-pairs.ensures.pairs at c.loop-k-test.true in
    let q = e.keeps.tables in
    let n = same_needed t u need q in
    let among : needs need (get_or need k d).0.key ≡ true = needs_at need k (get_or need k d) (slice_get-get_or need k d l) in
    let asks = rw c.pairs-pairs.ensures.pairs at e.asks in
    let unasked = rw c.pairs-pairs.ensures.pairs at e.unasked in
    record {
      keeps = keeps_trans (S.told c.bring_one.new.swap) pic s t u (S.block c.args.swap.now) (S.block c.loop-k.swap) (S.block c.bring_one.new.swap)
          (keeps_later (S.told c.loop-k.swap) (S.told c.bring_one.new.swap) pic s t (S.block c.args.swap.now) (S.block c.loop-k.swap) e.device.told i.keeps) e.keeps;
      clean = e.clean;
      blocks = e.device.blocks ∙ i.blocks;
      told = λ w. i.told (e.device.told w);
      map = e.map ∙ i.map;
      follows = follows_trans c.args.regions.now c.loop-k.regions c.bring_one.new.regions t u i.follows e.follows;
      live = all_live_same t u need q i.live;
      whole = all_whole_same t u need q i.whole;
      pictured = λ j m seg x. i.pictured j m seg ((q.same j).image (m, seg) x);
      stays = stays_trans need s t u i.stays e.stays;
      only = only_trans need s t u i.only e.only;
      leave = leave_needs need s t u i.keeps.tables q.size i.stays i.only e.stays e.only i.leave (e.leave c.in-Here.is);
      here = present_more t u need k (get_or need k d) i.here e.stays (slice_get-get_or need k d l) (rw c.pairs-pairs.ensures.pairs at (e.here c.in-Here.is));
      fits = omega (arith, n, q.size, i.fits);
      idle = λ none load.
          (let before = i.idle none load in
          let size = i.keeps.tables.size in
          let now = e.idle before.none (omega (arith, load, size, same_live_load s t i.keeps.tables)) in
          record { device = now.device ∙ before.device; none = now.none });
      waits = waits_next s t u need i.live e.stays e.piles i.waits;
      asked = asked_next s t need (λ n. IsSome (place_of u n)) (get_or need k d).0.key _ _ _ _ _ c.law.ensures.once among i.waits (λ n m o. e.stays.each n m o) (rw c.pairs-pairs.ensures.pairs at (e.here c.in-Here.is)) i.asked asks unasked;
      faults = omega (arith, i.faults, e.device.faults);
    }

pub bring_one-requires-clause-backed : goal.bring_one-requires-clause-backed
bring_one-requires-clause-backed g c = (let i = c.loop-k.invariant in record { clean = i.clean; device = omega (arith, i.map, i.blocks, c.requires.backed.device) })
