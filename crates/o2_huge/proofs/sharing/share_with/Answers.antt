use Rattle.std.proofs.Common.{◌≡◌, ℕ, List, Option, IfSome, subst, sym}
use Rattle.o2_regions.specs.declared.held.Held.{Held}
use Rattle.o2_world.specs.HugeRulings.{all_hold}
use Rattle.o2_changes.proofs.Framing.{order_held}
use Rattle.o2_huge.specs.Members.{MatchesWith}
use Rattle.o2_huge.proofs.Growing.{grows_none, matches_none, member_others}
use Rattle.o2_huge.proofs.Keeping.{brings_granted, brings_none, few_granted, few_held}
use Rattle.o2_huge.proofs.Shares.{no_share, one_share, other_run, own_share, share_grows, share_matches}
use Rattle.o2_huge.proofs.sharing.share_with.Goals as goal

pub returns-then-other-pid-clause-grows : goal.returns-then-other-pid-clause-grows
returns-then-other-pid-clause-grows c = grows_none c.args.store.now c.args.regions.now 0 c.requires.may_share.order

pub returns-then-other-pid-clause-matches : goal.returns-then-other-pid-clause-matches
returns-then-other-pid-clause-matches c =
    subst (λ (ps : List (ℕ × ℕ)). MatchesWith c.args.store.now c.args.store.now c.args.regions.now c.args.regions.now c.args.pid (all_hold c.args.id.age c.args.run.first c.args.run.count c.args.index ps))
    (sym (own_share c.args.regions.now c.args.pid c.args.run.first c.args.other c.if-other-pid.true)) (matches_none c.args.store.now c.args.regions.now c.args.pid)

pub returns-then-is_of_run-clause-grows : goal.returns-then-is_of_run-clause-grows
returns-then-is_of_run-clause-grows c =
    let s = c.args.store.now in
    let m = c.args.regions.now in
    let n = c.hold_more.new.regions in
    let q = c.args.other in
    let h = c.in-Some.first in
    let grants = c.hold_more.ensures.grants in
    let none = c.requires.free c.if-other-pid.false in
    share_grows s m n q c.args.index _ _ grants none
    (λ k most few. few_granted m n q c.args.index _ _ grants none k (few_held m q c.args.run.first k h (sym c.in-Some.ensures.held) few) few)
    (order_held s m n c.hold_more.ensures.order (λ was. c.hold_more.ensures.guards (λ writable. c.requires.may_share.plain) was))

pub returns-then-is_of_run-clause-others : goal.returns-then-is_of_run-clause-others
returns-then-is_of_run-clause-others c = λ q i other. member_others c.args.regions.now c.hold_more.new.regions c.args.other c.args.index q i _ _ c.hold_more.ensures.grants other

pub returns-then-is_of_run-clause-matches : goal.returns-then-is_of_run-clause-matches
returns-then-is_of_run-clause-matches c =
    subst (λ (ps : List (ℕ × ℕ)). MatchesWith c.args.store.now c.args.store.now c.args.regions.now c.hold_more.new.regions c.args.pid (all_hold c.args.id.age c.args.run.first c.args.run.count c.args.index ps))
    (sym (one_share c.args.regions.now c.args.pid c.args.run.first c.args.other c.in-Some.first c.if-other-pid.false (sym c.in-Some.ensures.held) (sym c.if-is_of_run.ensures)))
    (share_matches c.args.store.now c.args.regions.now c.hold_more.new.regions c.args.id c.args.pid c.args.other c.args.index c.args.run.first c.args.run.count c.in-Some.first (sym c.in-Some.ensures.held) c.requires.may_share.plain c.hold_more.ensures.matches)

pub returns-else-is_of_run-clause-grows : goal.returns-else-is_of_run-clause-grows
returns-else-is_of_run-clause-grows c = grows_none c.args.store.now c.args.regions.now 0 c.requires.may_share.order

pub returns-else-is_of_run-clause-matches : goal.returns-else-is_of_run-clause-matches
returns-else-is_of_run-clause-matches c =
    subst (λ (ps : List (ℕ × ℕ)). MatchesWith c.args.store.now c.args.store.now c.args.regions.now c.args.regions.now c.args.pid (all_hold c.args.id.age c.args.run.first c.args.run.count c.args.index ps))
    (sym (other_run c.args.regions.now c.args.pid c.args.run.first c.args.other c.in-Some.first (sym c.in-Some.ensures.held) (sym c.if-is_of_run.ensures))) (matches_none c.args.store.now c.args.regions.now c.args.pid)

pub returns-in-None-clause-grows : goal.returns-in-None-clause-grows
returns-in-None-clause-grows c = grows_none c.args.store.now c.args.regions.now 0 c.requires.may_share.order

pub returns-in-None-clause-matches : goal.returns-in-None-clause-matches
returns-in-None-clause-matches c =
    subst (λ (ps : List (ℕ × ℕ)). MatchesWith c.args.store.now c.args.store.now c.args.regions.now c.args.regions.now c.args.pid (all_hold c.args.id.age c.args.run.first c.args.run.count c.args.index ps))
    (sym (no_share c.args.regions.now c.args.pid c.args.run.first c.args.other (sym c.in-None.ensures.held))) (matches_none c.args.store.now c.args.regions.now c.args.pid)

pub hold_more-requires-clause-same : goal.hold_more-requires-clause-same
hold_more-requires-clause-same c = subst (λ (o : Option Held). IfSome o (λ h. h.id ≡ c.args.id)) (sym (c.requires.free c.if-other-pid.false)) tt

pub returns-then-other-pid-clause-brings : goal.returns-then-other-pid-clause-brings
returns-then-other-pid-clause-brings c = brings_none c.args.regions.now c.args.index c.args.id

pub returns-else-is_of_run-clause-brings : goal.returns-else-is_of_run-clause-brings
returns-else-is_of_run-clause-brings c = brings_none c.args.regions.now c.args.index c.args.id

pub returns-in-None-clause-brings : goal.returns-in-None-clause-brings
returns-in-None-clause-brings c = brings_none c.args.regions.now c.args.index c.args.id

pub returns-then-is_of_run-clause-brings : goal.returns-then-is_of_run-clause-brings
returns-then-is_of_run-clause-brings c = brings_granted c.args.regions.now c.hold_more.new.regions c.args.other c.args.index _ _ c.hold_more.ensures.grants (c.requires.free c.if-other-pid.false)
