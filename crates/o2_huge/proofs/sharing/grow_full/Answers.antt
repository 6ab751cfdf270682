use Rattle.std.proofs.Common.{◌≡◌, ℕ, ◌+◌, ◌∷◌, [], inl, inr, List, arith, refl, replicate, subst, sym, ◌∙◌}
use Rattle.o2_world.specs.HugeRulings.{new_members}
use Rattle.o2_world.specs.Rulings.{indexes}
use Rattle.o2_huge.specs.Growth.{shares_in}
use Rattle.o2_huge.specs.Members.{MatchesWith}
use Rattle.o2_huge.proofs.Growing.{full_more, grows_none, grows_then, make_next, matches_none, matches_then, members_then}
use Rattle.o2_segs.proofs.Sharing.{shares_refl, shares_then}
use Rattle.o2_huge.proofs.Shares.{shares_same, vacant_still}
use Rattle.o2_huge.proofs.sharing.grow_full.Goals as goal

pub loop-place-init : goal.loop-place-init
loop-place-init c = record {
  grows = grows_none c.args.store.now c.args.regions.now c.args.holds c.requires.may_make.order;
  shares = shares_refl c.args.store.now c.args.regions.now c.args.store.now.made;
  reserved = refl;
  others = λ q i other. refl;
  matches = λ unlocked. matches_none c.args.store.now c.args.regions.now c.args.pid;
}

pub add_shared-requires-clause-vacant : goal.add_shared-requires-clause-vacant
add_shared-requires-clause-vacant c =
    vacant_still c.args.regions.now c.loop-place.regions c.args.pid (c.args.from + c.loop-place.place) c.loop-place.invariant.reserved (λ q. c.loop-place.invariant.others q (c.args.from + c.loop-place.place) (inr (omega arith)))
    (c.requires.vacant (c.args.from + c.loop-place.place) (omega arith) (let a = c.loop-place-test.true in omega (arith, a)))

pub add_shared-requires-clause-may_make : goal.add_shared-requires-clause-may_make
add_shared-requires-clause-may_make c =
    make_next c.args.store.now c.loop-place.store c.args.regions.now c.loop-place.regions c.args.pid c.args.count c.loop-place.place c.args.holds c.requires.may_make c.loop-place.invariant.grows c.loop-place-test.true

pub loop-place-preserved : goal.loop-place-preserved
loop-place-preserved c =
    let i = c.loop-place.invariant in
    let s = c.args.store.now in
    let t = c.loop-place.store in
    let u = c.add_shared.new.store in
    let l = c.args.regions.now in
    let m = c.loop-place.regions in
    let n = c.add_shared.new.regions in
    let k = c.loop-place.place in
    let from = c.args.from in
    let first = c.args.run.first in
    let count = c.args.run.count in
    let flags = c.args.flags in
    let pid = c.args.pid in
    let holds = c.args.holds in
    record {
      grows = grows_then s t u l m n k 1 holds i.grows c.add_shared.ensures.grows;
      shares = shares_then s t u l m n s.made t.made s.made (omega arith) (let a = i.grows.made in omega (arith, a)) i.shares c.add_shared.ensures.shares;
      reserved = c.add_shared.ensures.reserved ∙ i.reserved;
      others = λ q j other.
          c.add_shared.ensures.others q j (λ same. elim other [ inl low ↦ omega (arith, low, same) | inr high ↦ omega (arith, high, same) ])
          ∙ i.others q j (elim other [ inl low ↦ inl low | inr high ↦ inr (omega (arith, high)) ]);
      matches = λ unlocked.
          (let ps : List (ℕ × ℕ) = (pid, holds) ∷ shares_in l pid first in
          let same : shares_in m pid first ≡ shares_in l pid first = shares_same l m pid first i.grows.holds.processes (λ q. i.others q first (inl c.requires.apart)) in
          subst (λ (zs : List ℕ). MatchesWith s u l n pid (new_members s.made first count flags ps (indexes from (k + 1)) zs)) (sym (full_more k))
          (subst (MatchesWith s u l n pid) (members_then s.made first count flags from ps k 0)
          (matches_then s t u l m n pid _ _ (i.matches unlocked)
          (subst (λ (xs : List (ℕ × ℕ)). MatchesWith t u m n pid (new_members (s.made + k) first count flags ((pid, holds) ∷ xs) ((from + k) ∷ []) (0 ∷ []))) same
          (subst (λ (name : ℕ). MatchesWith t u m n pid (new_members name first count flags ((pid, holds) ∷ shares_in m pid first) ((from + k) ∷ []) (0 ∷ []))) i.grows.made (c.add_shared.ensures.matches unlocked))))));
    }

pub returns-clause-matches : goal.returns-clause-matches
returns-clause-matches c = λ unlocked.
    (let below = c.loop-place.auto.place-end in
    let over = c.loop-place-test.false in
    let end : c.loop-place.place ≡ c.args.count = omega (arith, below, over) in
    let s = c.args.store.now in
    let l = c.args.regions.now in
    let pid = c.args.pid in
    let run = c.args.run in
    let ps : List (ℕ × ℕ) = (pid, c.args.holds) ∷ shares_in l pid run.first in
    subst (λ (k : ℕ). MatchesWith s c.loop-place.store l c.loop-place.regions pid (new_members s.made run.first run.count c.args.flags ps (indexes c.args.from k) (replicate k 0))) end
    (c.loop-place.invariant.matches unlocked))
