use Rattle.std.proofs.Common.{ℕ, ◌∙◌, max, refl, ap, arith}
use Rattle.o2_segs.proofs.FreeingRuns.{below_all, below_any, below_end, below_first, below_more, matches_all, none_below}
use Rattle.o2_segs.proofs.Limits.{limits_refl, limits_then}
use Rattle.o2_changes.proofs.Framing.{order_refl, order_trans}
use Rattle.o2_segs.proofs.freeing.drop_members.Goals as goal

pub loop-index-init : goal.loop-index-init
loop-index-init c = record {
  takes = none_below c.args.regions.now c.args.pid c.args.held;
  reserved = refl;
  limits = limits_refl c.args.store.now c.args.regions.now;
  places = λ k some. refl;
  goes_on = order_refl c.args.store.now c.args.regions.now c.requires.order;
  matches = below_first c.args.store.now c.args.regions.now c.args.pid c.args.held;
}

pub loop-index-preserved : goal.loop-index-preserved
loop-index-preserved c =
    let i = c.loop-index.invariant in
    let e = c.drop_at.ensures in
    let s = c.args.store.now in
    let t = c.loop-index.store in
    let u = c.drop_at.new.store in
    let l = c.args.regions.now in
    let m = c.loop-index.regions in
    let n = c.drop_at.new.regions in
    let k = c.loop-index.index in
    let low = c.loop-index.auto.index in
    record {
      takes = below_more l m n c.args.pid k c.args.held low i.takes e.takes;
      reserved = e.reserved ∙ i.reserved;
      limits = limits_then s t u l m n 0 0 i.limits e.limits;
      places = λ j some. e.places j some ∙ i.places j (e.lives j some);
      goes_on = order_trans s t u l m n i.goes_on e.goes_on;
      matches = below_any s t u l m n c.args.pid k c.args.held low (below_end c.args.held k c.max-end.result (c.max-end.ensures ∙ ap (λ (x : ℕ). max x c.args.held.first) c.end_of_run.ensures.end) low c.loop-index-test.true) i.takes i.matches e.held e.none;
    }

pub returns-clause-takes : goal.returns-clause-takes
returns-clause-takes c = below_all c.args.regions.now c.loop-index.regions c.args.pid c.loop-index.index c.args.held (omega arith ∙ (c.max-end.ensures ∙ ap (λ (x : ℕ). max x c.args.held.first) c.end_of_run.ensures.end)) c.loop-index.invariant.takes

pub returns-clause-matches : goal.returns-clause-matches
returns-clause-matches c =
    matches_all c.args.store.now c.loop-index.store c.args.regions.now c.loop-index.regions c.args.pid c.loop-index.index c.args.held (omega arith ∙ (c.max-end.ensures ∙ ap (λ (x : ℕ). max x c.args.held.first) c.end_of_run.ensures.end)) c.loop-index.invariant.matches

pub drop_at-requires-clause-order : goal.drop_at-requires-clause-order
drop_at-requires-clause-order c = c.loop-index.invariant.goes_on.order

pub returns-clause-goes_on : goal.returns-clause-goes_on
returns-clause-goes_on c = c.loop-index.invariant.goes_on
