use Rattle.std.proofs.Common.{◌+◌, ◌<◌, length, ap, ◌∙◌, arith, subst, sym}
use Rattle.o2_entries.specs.Tables.{slot_at}
use Rattle.o2_swapmap.specs.Piles.{all_of, blocks_of}
use Rattle.o2_place.specs.Layout.{Layout, find_in, used}
use Rattle.o2_store.specs.Shelf.{Shelf, entry, rounded}
use Rattle.o2_store.proofs.Departing.{leave_same}
use Rattle.o2_service.proofs.Among.{live_same}
use Rattle.o2_service.proofs.Movings.{clean_chosen, fewer_leaving, keeps_chosen, kept_leaving, may_evict, none_leaving, out_other, place_chosen, short_load, stale_never, tables_chosen, told_but}
use Rattle.o2_service.proofs.Placing.{held_same}
use Rattle.o2_service.proofs.Turns.{takes_next}
use Rattle.o2_service.proofs.bringing.make_way.Goals as goal

pub returns-in_default : goal.returns-in_default
returns-in_default g c = absurd (let n = c.in_default.ensures.none c.requires.out c.requires.short in omega (arith, n, c.requires.fits))

pub evict-answer-requires-clause-unlocked : goal.evict-answer-requires-clause-unlocked
evict-answer-requires-clause-unlocked g c = may_evict c.args.store.now c.next_out.new.self c.args.id.key c.args.keep.now c.in-Some.out c.next_out.ensures.shelf c.in-Some.ensures.some.may

pub settle_moved-requires : goal.settle_moved-requires
settle_moved-requires g c =
    let s = c.args.store.now in
    let t = c.next_out.new.self in
    let u = c.evict-answer.new.self in
    let e = c.next_out.ensures.shelf in
    let q = tables_chosen s t u e c.evict-answer.ensures.tables in
    let v = c.in-Some.ensures.some.may in
    record {
      live = live_same s u c.in-Some.out q v.live;
      held = held_same s u c.args.regions.now c.requires.held q;
      others = told_but s u c.in-Some.out.key c.args.regions.now c.requires.settled q (λ k n. c.evict-answer.ensures.others k n ∙ place_chosen s t k e);
    }

pub returns : goal.returns
returns g c =
    let S = g.S.SwapDevice in
    let told = S.told c.evict-answer.new.swap in
    let a = S.block c.args.swap.now in
    let b = S.block c.evict-answer.new.swap in
    let s = c.args.store.now in
    let t = c.next_out.new.self in
    let u = c.evict-answer.new.self in
    let e = c.next_out.ensures.shelf in
    let v = c.in-Some.ensures.some.may in
    let out = c.in-Some.out in
    let w = c.evict-answer.ensures in
    let key = c.args.id.key in
    let keep = c.args.keep.now in
    record {
      keeps = λ pic q. keeps_chosen told pic s t u a b e (w.keeps pic (clean_chosen s t pic e q));
      clean = λ pic q. w.clean pic (clean_chosen s t pic e q);
      tables = tables_chosen s t u e w.tables;
      device = w.device;
      map = w.map ∙ ap (λ (z : Shelf). all_of z.swap) e;
      follows = c.settle_moved.ensures.follows;
      kept = kept_leaving s t u key keep out e v w.others;
      none = none_leaving s t u key keep out e v w.others;
      unasked = w.unasked;
      piles = λ k l n. w.piles k (subst (λ (z : Shelf). k < length z.entries) (sym e) l) (out_other s k out.key n v.here) ∙ ap (λ (z : Shelf). blocks_of z.swap k) e;
      still = λ k i. w.evicts.places k i ∙ place_chosen s t k e;
      leave = leave_same s t u _ (ap (λ (z : Shelf). z.places) e) (ap (λ (z : Shelf). z.entries) e)
          (w.leave _ (subst (λ (z : Shelf). z.places.size < used z.places.ranges + rounded (entry s key).size) (sym e) c.requires.short));
      next = λ r. takes_next s t u key keep _ out e c.in-Some.ensures.some c.requires.short (w.out r) w.others (w.used r) (tables_chosen s t u e w.tables) (w.left r);
      stays = λ r k. ap (λ (z : Layout). find_in z.ranges k) (w.stays r) ∙ place_chosen s t k e;
      entry = w.evicts.entries key (place_chosen s t key e ∙ c.requires.out) ∙ ap (λ (z : Shelf). slot_at z.entries key) e;
      fewer = λ r. fewer_leaving s t u key keep out e v (w.fewer r);
      loads = λ r. short_load s t key e c.law.ensures.shelf c.law.ensures.sum c.requires.out c.requires.short (w.loads r);
      full = w.full;
      never = (w.never, λ r. stale_never s t out e v.live (w.stale r));
    }
