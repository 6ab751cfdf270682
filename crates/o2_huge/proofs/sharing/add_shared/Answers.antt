use Rattle.std.proofs.Common.{◌≡◌, ◌≢◌, ℕ, ◌+◌, inl, inr, refl, arith, subst, ◌∙◌}
use Rattle.o2_regions.specs.Maps.{region_of}
use Rattle.o2_huge.specs.Members.{Grows}
use Rattle.o2_changes.proofs.KeepingHolds.{holds_trans}
use Rattle.o2_huge.proofs.Growing.{grows_few, grows_then}
use Rattle.o2_huge.proofs.Keeping.{brings_then, brought_shares}
use Rattle.o2_huge.proofs.Shares.{add_all, add_own, reserved_still}
use Rattle.o2_huge.proofs.sharing.add_shared.Goals as goal

pub add_member-requires-clause-open : goal.add_member-requires-clause-open
add_member-requires-clause-open c = record { reserved = c.requires.vacant.reserved; free = c.requires.vacant.free c.args.pid (inl refl) }

pub share_member-requires-clause-may_share : goal.share_member-requires-clause-may_share
share_member-requires-clause-may_share c = record {
  index = c.requires.index;
  high = (let a = c.requires.apart in let b = c.if-run-ge-SHARED.true in omega (arith, a, b));
  live = c.in-Some.ensures.adds.live;
  plain = c.in-Some.ensures.adds.plain;
  order = c.add_member.ensures.grows.goes_on.order;
}

pub share_member-requires-clause-process : goal.share_member-requires-clause-process
share_member-requires-clause-process c = let may = c.requires.may_make in (may.process.0, (let a = may.process.1 in let e = c.add_member.ensures.grows.holds.processes in omega (arith, a, e)))

pub share_member-requires-clause-reserved : goal.share_member-requires-clause-reserved
share_member-requires-clause-reserved c = reserved_still c.args.regions.now c.add_member.new.regions (region_of c.args.pid c.args.index) c.args.index c.add_member.ensures.reserved c.requires.vacant.reserved

pub share_member-requires-clause-free : goal.share_member-requires-clause-free
share_member-requires-clause-free c = λ q other.
    c.add_member.ensures.others q c.args.index (λ own. absurd (other own))
    ∙ c.requires.vacant.free q (inr (let a = c.requires.apart in let b = c.if-run-ge-SHARED.true in omega (arith, a, b)))

pub returns-then-run-ge-SHARED-clause-grows : goal.returns-then-run-ge-SHARED-clause-grows
returns-then-run-ge-SHARED-clause-grows c =
    let one : 1 + 0 ≡ 1 = omega arith in
    let s = c.args.store.now in
    let t = c.add_member.new.store in
    let l = c.args.regions.now in
    let m = c.add_member.new.regions in
    let n = c.share_member.new.regions in
    subst (λ (k : ℕ). Grows s t l n k c.args.holds) one (grows_then s t t l m n 1 0 c.args.holds c.add_member.ensures.grows (grows_few t t m n 0 c.args.holds c.share_member.ensures.grows))

pub returns-then-run-ge-SHARED-clause-others : goal.returns-then-run-ge-SHARED-clause-others
returns-then-run-ge-SHARED-clause-others c = λ q i other. c.share_member.ensures.others q i other ∙ c.add_member.ensures.others q i (λ own. other)

pub returns-then-run-ge-SHARED-clause-matches : goal.returns-then-run-ge-SHARED-clause-matches
returns-then-run-ge-SHARED-clause-matches c = λ unlocked.
    (let apart : c.args.run.first ≢ c.args.index = (λ e. (let a = c.requires.apart in omega (arith, a, e))) in
    add_all c.args.store.now c.add_member.new.store c.args.regions.now c.add_member.new.regions c.share_member.new.regions c.in-Some.id c.args.pid c.args.run.first c.args.run.count c.args.flags c.args.holds c.args.index c.args.size
    c.in-Some.ensures.adds.age c.if-run-ge-SHARED.true c.add_member.ensures.grows.holds.processes (λ q. c.add_member.ensures.others q c.args.run.first (λ own. apart)) (c.add_member.ensures.matches unlocked) c.share_member.ensures.matches)

pub returns-else-run-ge-SHARED-clause-others : goal.returns-else-run-ge-SHARED-clause-others
returns-else-run-ge-SHARED-clause-others c = λ q i other. c.add_member.ensures.others q i (λ own. other)

pub returns-else-run-ge-SHARED-clause-matches : goal.returns-else-run-ge-SHARED-clause-matches
returns-else-run-ge-SHARED-clause-matches c = λ unlocked.
    add_own c.args.store.now c.add_member.new.store c.args.regions.now c.add_member.new.regions c.args.pid c.args.run.first c.args.run.count c.args.flags c.args.holds c.args.index c.args.size (omega (arith, c.if-run-ge-SHARED.false)) (c.add_member.ensures.matches unlocked)

pub returns-then-run-ge-SHARED-clause-shares : goal.returns-then-run-ge-SHARED-clause-shares
returns-then-run-ge-SHARED-clause-shares c =
    let l = c.args.regions.now in
    let m = c.add_member.new.regions in
    let n = c.share_member.new.regions in
    brought_shares c.args.store.now c.add_member.new.store l n c.args.index c.in-Some.id (holds_trans l m n c.add_member.ensures.grows.holds c.share_member.ensures.grows.holds)
    (brings_then l m n c.args.index c.in-Some.id c.in-Some.ensures.adds.brings c.share_member.ensures.brings) (λ high q. c.requires.vacant.free q (inr high)) c.in-Some.ensures.adds.age c.add_member.ensures.grows.lived

pub returns-else-run-ge-SHARED-clause-shares : goal.returns-else-run-ge-SHARED-clause-shares
returns-else-run-ge-SHARED-clause-shares c = c.add_member.ensures.shares (λ high q. c.requires.vacant.free q (inr high))
