use Rattle.std.proofs.Common.{◌≡◌, ◌+◌, ◌<◌, List, ℕ, ap, arith, subst, ◌∙◌}
use Rattle.o2_regions.specs.Maps.{held_at, holds_of}
use Rattle.o2_shared.specs.Shares.{MatchesShares}
use Rattle.o2_shared.proofs.Holders.{shares_none}
use Rattle.o2_shared.proofs.Runs.{below_all, called_in, called_still, first_matches, in_stretch, kept_at, limits_below, named_below, next_matches, none_shared, shared_more, still_then}
use Rattle.o2_changes.proofs.Framing.{order_trans}
use Rattle.o2_shared.proofs.sharing.share_run.Goals as goal

pub loop-at-init : goal.loop-at-init
loop-at-init c = record {
  shares = none_shared c.args.regions.now c.args.from c.args.to c.args.held;
  more = shares_none c.args.store.now c.args.regions.now c.requires.order;
  matches = first_matches c.args.store.now c.args.regions.now c.args.from c.args.to c.args.held;
}

pub share_at-requires-clause-called : goal.share_at-requires-clause-called
share_at-requires-clause-called c =
    (let m = c.args.regions.now in
    let n = c.loop-at.regions in
    let k = c.loop-at.at in
    let high : k < c.args.held.first + c.args.held.reserved = (let a = c.end_of_run-at-end.ensures.end in let b = c.loop-at-test.true in in_stretch c.args.held k c.end_of_run-at-end.result a b) in
    called_still m n c.args.from k (kept_at m n c.args.from c.args.to c.args.held k c.loop-at.invariant.shares c.args.from) (called_in m c.args.from c.args.held k c.requires.shared c.loop-at.auto.at high))

pub share_at-requires-clause-one : goal.share_at-requires-clause-one
share_at-requires-clause-one c = c.loop-at.invariant.more.limits.shares.one c.requires.one

pub share_at-requires-clause-few : goal.share_at-requires-clause-few
share_at-requires-clause-few c =
    (let m = c.args.regions.now in
    let n = c.loop-at.regions in
    let k = c.loop-at.at in
    let same : holds_of (held_at n c.args.to k) ≡ holds_of (held_at m c.args.to k) = ap holds_of (kept_at m n c.args.from c.args.to c.args.held k c.loop-at.invariant.shares c.args.to) in
    let few = c.requires.few.few c.args.to k in
    omega (arith, same, few))

pub share_at-requires-clause-named : goal.share_at-requires-clause-named
share_at-requires-clause-named c =
    named_below c.args.store.now c.args.regions.now c.loop-at.regions c.args.from c.args.to c.args.held c.loop-at.at c.loop-at.invariant.shares c.requires.named

pub loop-at-preserved : goal.loop-at-preserved
loop-at-preserved c =
    let i = c.loop-at.invariant in
    let e = c.share_at.ensures in
    let s = c.args.store.now in
    let m = c.args.regions.now in
    let n = c.loop-at.regions in
    let o = c.share_at.new.regions in
    let k = c.loop-at.at in
    let h = c.args.held in
    let low = c.loop-at.auto.at in
    record {
      shares = shared_more m n o c.args.from c.args.to h k low i.shares e.shares;
      more = record {
        still = still_then m n o i.more.still e.more.still;
        limits = limits_below s m n o c.args.from c.args.to h (k + 1) (shared_more m n o c.args.from c.args.to h k low i.shares e.shares) i.more.limits e.more.limits;
        places = λ names a. e.more.places names (i.more.places names a);
        processes = e.more.processes ∙ i.more.processes;
        goes_on = order_trans s s s m n o i.more.goes_on e.more.goes_on;
      };
      matches = next_matches s m n o c.args.from c.args.to h k low i.shares i.more.still i.matches e.matches;
    }

pub returns-clause-matches : goal.returns-clause-matches
returns-clause-matches c =
    subst (λ (is : List ℕ). MatchesShares c.args.store.now c.args.regions.now c.loop-at.regions c.args.from c.args.to is)
    (below_all c.args.regions.now c.args.from c.args.held c.loop-at.at c.end_of_run-at-end.result c.end_of_run-at-end.ensures.end c.loop-at-test.false c.loop-at.auto.at-end c.loop-at.auto.at) c.loop-at.invariant.matches

pub share_at-requires-clause-order : goal.share_at-requires-clause-order
share_at-requires-clause-order c = c.loop-at.invariant.more.goes_on.order

pub returns-clause-more : goal.returns-clause-more
returns-clause-more c = c.loop-at.invariant.more
