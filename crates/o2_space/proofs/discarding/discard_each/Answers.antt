use Rattle.std.proofs.Common.{◌≡◌, ℕ, ◌∙◌, arith, length, refl, subst}
use Rattle.o2_changes.proofs.Framing.{order_refl, order_trans}
use Rattle.o2_segs.proofs.Limits.{limits_refl, limits_then}
use Rattle.o2_service.proofs.Placing.{only_refl, only_trans}
use Rattle.o2_stands.specs.Stands.{Matches}
use Rattle.o2_space.specs.Words.{discarded_where, is_below}
use Rattle.o2_space.proofs.Wording.{ages_keys, all_below, at_parts, next_below, none_below}
use Rattle.o2_space.proofs.discarding.discard_each.Goals as goal

pub loop-key-init : goal.loop-key-init
loop-key-init c =
    let s = c.args.store.now in
    let m = c.args.regions.now in
    record {
      limits = limits_refl s m;
      ages = λ k q. refl;
      maps = only_refl m;
      goes_on = order_refl s m c.requires.order;
      matches = λ p w es em er q. none_below (record p { shelf = s; maps = m }) w s (at_parts p s m w es em q);
    }

pub loop-key-preserved : goal.loop-key-preserved
loop-key-preserved c =
    let s = c.args.store.now in
    let m = c.args.regions.now in
    let t = c.loop-key.store in
    let n = c.loop-key.regions in
    let u = c.discard_at.new.store in
    let o = c.discard_at.new.regions in
    let i = c.loop-key.invariant in
    let e = c.discard_at.ensures in
    record {
      limits = limits_then s t u m n o 0 0 i.limits e.limits;
      ages = λ k q. e.ages k q ∙ i.ages k q;
      maps = only_trans m n o i.maps e.maps;
      goes_on = order_trans s t u m n o i.goes_on e.goes_on;
      matches = λ p w es em er q.
          next_below (record p { shelf = u; maps = o }) w s t c.loop-key.key (ages_keys s t i.limits.count i.ages)
          (e.matches (record p { shelf = t; maps = n }) (record w { names = discarded_where (is_below s c.loop-key.key) w.processes w.names }) refl refl er (i.matches p w es em er q));
    }

pub returns-clause-matches : goal.returns-clause-matches
returns-clause-matches c = λ p w es em er q.
    (let s = c.args.store.now in
    let m = c.args.regions.now in
    let more = c.loop-key-test.false in
    let most = c.loop-key.auto.key-end in
    let end = c.segments-key-end.ensures in
    let full : c.loop-key.key ≡ length s.entries = omega (arith, more, most, end) in
    all_below (record p { shelf = s; maps = m }) (record p { shelf = c.loop-key.store; maps = c.loop-key.regions }) w (at_parts p s m w es em q)
    (subst (λ (k : ℕ). Matches (record p { shelf = c.loop-key.store; maps = c.loop-key.regions }) (record w { names = discarded_where (is_below s k) w.processes w.names })) full
    (c.loop-key.invariant.matches p w es em er q)))
