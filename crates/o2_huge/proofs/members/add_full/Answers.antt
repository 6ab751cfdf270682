use Rattle.std.proofs.Common.{◌≡◌, ℕ, ◌+◌, ◌∷◌, [], List, arith, refl, replicate, subst, sym, ◌∙◌}
use Rattle.o2_world.specs.HugeRulings.{new_members}
use Rattle.o2_world.specs.Rulings.{indexes}
use Rattle.o2_segs.proofs.Sharing.{shares_refl, shares_then}
use Rattle.o2_huge.specs.Members.{MatchesWith}
use Rattle.o2_huge.proofs.Growing.{full_more, grows_none, grows_then, make_next, matches_none, matches_then, members_then}
use Rattle.o2_huge.proofs.members.add_full.Goals as goal

pub loop-place-init : goal.loop-place-init
loop-place-init c = record {
  grows = grows_none c.args.store.now c.args.regions.now 1 c.requires.may_make.order;
  reserved = refl;
  shares = λ none. shares_refl c.args.store.now c.args.regions.now c.args.store.now.made;
  others = λ q i from. refl;
  matches = matches_none c.args.store.now c.args.regions.now c.args.pid;
}

pub add_member-requires-clause-may_make : goal.add_member-requires-clause-may_make
add_member-requires-clause-may_make c = make_next c.args.store.now c.loop-place.store c.args.regions.now c.loop-place.regions c.args.pid c.args.segs c.loop-place.place 1 c.requires.may_make c.loop-place.invariant.grows c.loop-place-test.true

pub loop-place-preserved : goal.loop-place-preserved
loop-place-preserved c =
    let i = c.loop-place.invariant in
    let s = c.args.store.now in
    let t = c.loop-place.store in
    let u = c.add_member.new.store in
    let l = c.args.regions.now in
    let m = c.loop-place.regions in
    let n = c.add_member.new.regions in
    let k = c.loop-place.place in
    let first = c.args.run.first in
    let count = c.args.run.count in
    let flags = c.args.flags in
    let pid = c.args.pid in
    record {
      grows = grows_then s t u l m n k 1 1 i.grows c.add_member.ensures.grows;
      reserved = c.add_member.ensures.reserved ∙ i.reserved;
      shares = λ none.
          shares_then s t u l m n s.made t.made s.made (omega arith) (let a = i.grows.made in omega (arith, a)) (i.shares (λ q j from to high. none q j from (omega (arith, to)) high))
          (c.add_member.ensures.shares (λ high q. i.others q (first + k) (omega arith) ∙ none q (first + k) (omega arith) (omega arith) high));
      others = λ q j from. c.add_member.ensures.others q j (λ own same. omega (arith, from, same)) ∙ i.others q j (omega (arith, from));
      matches =
          subst (λ (zs : List ℕ). MatchesWith s u l n pid (new_members s.made first count flags ((pid, 1) ∷ []) (indexes first (k + 1)) zs)) (sym (full_more k))
          (subst (MatchesWith s u l n pid) (members_then s.made first count flags first ((pid, 1) ∷ []) k 0)
          (matches_then s t u l m n pid _ _ i.matches
          (subst (λ (name : ℕ). MatchesWith t u m n pid (new_members name first count flags ((pid, 1) ∷ []) ((first + k) ∷ []) (0 ∷ []))) i.grows.made (c.add_member.ensures.matches c.requires.unlocked))));
    }

pub returns-clause-matches : goal.returns-clause-matches
returns-clause-matches c =
    let below = c.loop-place.auto.place-end in
    let over = c.loop-place-test.false in
    let end : c.loop-place.place ≡ c.args.segs = omega (arith, below, over) in
    let s = c.args.store.now in
    let run = c.args.run in
    subst (λ (k : ℕ). MatchesWith s c.loop-place.store c.args.regions.now c.loop-place.regions c.args.pid (new_members s.made run.first run.count c.args.flags ((c.args.pid, 1) ∷ []) (indexes run.first k) (replicate k 0))) end
    c.loop-place.invariant.matches

pub returns-clause-shares : goal.returns-clause-shares
returns-clause-shares c = λ none.
    (let below = c.loop-place.auto.place-end in
    c.loop-place.invariant.shares (λ q i from to high. none q i from (omega (arith, to, below)) high))
