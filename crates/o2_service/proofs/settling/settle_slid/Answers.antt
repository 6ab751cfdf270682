use Rattle.std.proofs.Common.{◌≡◌, ◌+◌, None, arith, ap, drop}
use Rattle.o2_place.specs.declared.seg_id.SegId.{SegId}
use Rattle.o2_place.specs.Layout.{find_in}
use Rattle.o2_service.proofs.Placing.{drop_none, held_only, live_size, only_refl, only_told, slid_more, told_all, told_one}
use Rattle.o2_service.proofs.Clocks.{told_unused}
use Rattle.o2_service.proofs.settling.settle_slid.Goals as goal

pub loop-k-init : goal.loop-k-init
loop-k-init c = record { told = c.requires.before; maps = only_refl c.args.regions.now; unused = λ u. u }

pub loop-k-preserved : goal.loop-k-preserved
loop-k-preserved c =
    let s = c.args.store.now in
    let m = c.loop-k.regions in
    let n = c.tell.new.regions in
    let id = c.present_at-id.result in
    let e = c.present_at-id.ensures in
    let i = c.loop-k.invariant in
    let k = c.loop-k.k in
    let w = held_only s c.args.regions.now m c.requires.held i.maps in
    let size = live_size s id c.law.ensures.shelf e.live in
    record {
      told = told_one (λ j. find_in (drop k s.places.ranges) j ≡ None) (λ j. find_in (drop (k + 1) s.places.ranges) j ≡ None) s m n id c.base.result _ i.told w c.tell.ensures e.live
          (slid_more s k id (omega arith) (ap (λ (x : SegId). x.key) e.id)) c.base.ensures (omega (arith, size));
      maps = only_told c.args.regions.now m n id _ _ i.maps c.tell.ensures;
      unused = λ u. told_unused s m n id _ _ w c.tell.ensures (i.unused u);
    }

pub returns : goal.returns
returns c =
    let s = c.args.store.now in
    let m = c.loop-k.regions in
    let i = c.loop-k.invariant in
    record {
      follows = record {
        maps = i.maps;
        held = held_only s c.args.regions.now m c.requires.held i.maps;
        settled = told_all (λ j. find_in (drop c.loop-k.k s.places.ranges) j ≡ None) s m i.told (λ j. drop_none s.places.ranges c.loop-k.k j (omega arith));
        unused = i.unused;
      };
    }
