use Rattle.std.proofs.Common.{◌≡◌, ◌≢◌, ℕ, ◌+◌, List, arith, refl, subst, sym, ◌∙◌}
use Rattle.std.specs.Prelude.{flat_map}
use Rattle.o2_world.specs.HugeRulings.{all_hold}
use Rattle.o2_world.specs.Rulings.{indexes}
use Rattle.o2_huge.specs.Growth.{share_by}
use Rattle.o2_huge.specs.Members.{Grows, MatchesWith}
use Rattle.o2_huge.proofs.Growing.{grows_none, grows_then, matches_none, matches_then, none_first}
use Rattle.o2_huge.proofs.Keeping.{brings_none, brings_then}
use Rattle.o2_huge.proofs.Shares.{holds_more, reserved_for, reserved_still, share_next, share_same}
use Rattle.o2_huge.proofs.sharing.share_member.Goals as goal

pub loop-before-init : goal.loop-before-init
loop-before-init c = record {
  grows = grows_none c.args.store.now c.args.regions.now 0 c.requires.may_share.order;
  brings = brings_none c.args.regions.now c.args.index c.args.id;
  reserved = refl;
  others = λ q i other. refl;
  later = λ q behind. refl;
  matches = matches_none c.args.store.now c.args.regions.now c.args.pid;
}

pub share_with-requires-clause-may_share : goal.share_with-requires-clause-may_share
share_with-requires-clause-may_share c =
    let may = c.requires.may_share in record { index = may.index; high = may.high; live = may.live; plain = may.plain; order = c.loop-before.invariant.grows.goes_on.order }

pub share_with-requires-clause-process : goal.share_with-requires-clause-process
share_with-requires-clause-process c = (
  omega arith,
  (let a = c.loop-before-test.true in let b = c.processes-before-end.ensures in let e = c.loop-before.invariant.grows.holds.processes in omega (arith, a, b, e)),
)

pub share_with-requires-clause-first : goal.share_with-requires-clause-first
share_with-requires-clause-first c = let a = c.requires.apart in let b = c.requires.may_share.index in omega (arith, a, b)

pub share_with-requires-clause-reserved : goal.share_with-requires-clause-reserved
share_with-requires-clause-reserved c =
    reserved_still c.args.regions.now c.loop-before.regions _ c.args.index c.loop-before.invariant.reserved (reserved_for c.args.regions.now c.args.pid (c.loop-before.before + 1) c.args.index c.requires.may_share.high c.requires.reserved)

pub share_with-requires-clause-free : goal.share_with-requires-clause-free
share_with-requires-clause-free c = λ other. c.loop-before.invariant.later (c.loop-before.before + 1) (omega arith) ∙ c.requires.free (c.loop-before.before + 1) other

pub loop-before-preserved : goal.loop-before-preserved
loop-before-preserved c =
    let i = c.loop-before.invariant in
    let s = c.args.store.now in
    let l = c.args.regions.now in
    let m = c.loop-before.regions in
    let n = c.share_with.new.regions in
    let k = c.loop-before.before in
    let pid = c.args.pid in
    let first = c.args.run.first in
    let count = c.args.run.count in
    let index = c.args.index in
    let age = c.args.id.age in
    let apart : first ≢ index = (λ e. (let a = c.requires.apart in omega (arith, a, e))) in
    record {
      grows = subst (λ (x : ℕ). Grows s s l n x 0) (none_first 0) (grows_then s s s l m n 0 0 0 i.grows c.share_with.ensures.grows);
      brings = brings_then l m n index c.args.id i.brings c.share_with.ensures.brings;
      reserved = c.share_with.ensures.reserved ∙ i.reserved;
      others = λ q j other. c.share_with.ensures.others q j (λ same. other) ∙ i.others q j other;
      later = λ q behind. c.share_with.ensures.others q index (λ same. absurd (omega (arith, behind, same))) ∙ i.later q (omega (arith, behind));
      matches =
          subst (λ (ps : List (ℕ × ℕ)). MatchesWith s s l n pid (all_hold age first count index ps)) (sym (share_next (share_by l pid first) k))
          (subst (MatchesWith s s l n pid) (sym (holds_more age first count index (flat_map (share_by l pid first) (indexes 1 k)) (share_by l pid first (k + 1))))
          (matches_then s s s l m n pid _ _ i.matches
          (subst (λ (ps : List (ℕ × ℕ)). MatchesWith s s m n pid (all_hold age first count index ps)) (share_same l m pid first (k + 1) (i.others (k + 1) first apart)) c.share_with.ensures.matches)));
    }

pub returns-clause-matches : goal.returns-clause-matches
returns-clause-matches c =
    let below = c.loop-before.auto.before-end in
    let over = c.loop-before-test.false in
    let all = c.processes-before-end.ensures in
    let end : c.loop-before.before ≡ c.args.regions.now.processes = omega (arith, below, over, all) in
    let s = c.args.store.now in
    let l = c.args.regions.now in
    let pid = c.args.pid in
    let run = c.args.run in
    subst (λ (k : ℕ). MatchesWith s s l c.loop-before.regions pid (all_hold c.args.id.age run.first run.count c.args.index (flat_map (share_by l pid run.first) (indexes 1 k)))) end
    c.loop-before.invariant.matches
