use Rattle.std.proofs.Common.{◌≡◌, ℕ, ◌+◌, ◌∷◌, [], inl, inr, List, arith, subst}
use Rattle.std.proofs.lemmas.Bool.{eq-eqb, ne_eqb}
use Rattle.o2_world.specs.HugeRulings.{new_members, segments_of}
use Rattle.o2_huge.specs.Growth.{shares_in}
use Rattle.o2_huge.specs.Members.{Grows, MatchesWith}
use Rattle.o2_segs.proofs.Sharing.{shares_then}
use Rattle.o2_huge.proofs.Growing.{grows_then, make_fewer, make_next, matches_then}
use Rattle.o2_huge.proofs.Rows.{all_members, few_full, full_members, none_behind, one_behind}
use Rattle.o2_huge.proofs.Shares.{shares_same, vacant_still}
use Rattle.o2_huge.proofs.sharing.grow.Goals as goal

pub grow_full-requires-clause-inside : goal.grow_full-requires-clause-inside
grow_full-requires-clause-inside c = let a = c.requires.inside in let b = few_full c.args.count c.args.part in omega (arith, a, b)

pub grow_full-requires-clause-vacant : goal.grow_full-requires-clause-vacant
grow_full-requires-clause-vacant c = λ i low high. c.requires.vacant i low (let b = few_full c.args.count c.args.part in omega (arith, high, b))

pub grow_full-requires-clause-may_make : goal.grow_full-requires-clause-may_make
grow_full-requires-clause-may_make c = make_fewer c.args.store.now c.args.regions.now c.args.pid (segments_of c.args.count c.args.part) c.args.count c.requires.may_make (few_full c.args.count c.args.part)

pub add_shared-requires-clause-may_make : goal.add_shared-requires-clause-may_make
add_shared-requires-clause-may_make c =
    make_next c.args.store.now c.grow_full.new.store c.args.regions.now c.grow_full.new.regions c.args.pid (segments_of c.args.count c.args.part) c.args.count c.args.holds c.requires.may_make c.grow_full.ensures.grows
    (let one = one_behind c.args.count c.args.part (ne_eqb c.args.part 0 c.if-part-ne0.true) in omega (arith, one))

pub add_shared-requires-clause-index : goal.add_shared-requires-clause-index
add_shared-requires-clause-index c = let a = c.requires.inside in let one = one_behind c.args.count c.args.part (ne_eqb c.args.part 0 c.if-part-ne0.true) in omega (arith, a, one)

pub add_shared-requires-clause-vacant : goal.add_shared-requires-clause-vacant
add_shared-requires-clause-vacant c =
    let one = one_behind c.args.count c.args.part (ne_eqb c.args.part 0 c.if-part-ne0.true) in
    vacant_still c.args.regions.now c.grow_full.new.regions c.args.pid (c.args.from + c.args.count) c.grow_full.ensures.reserved (λ q. c.grow_full.ensures.others q (c.args.from + c.args.count) (inr (omega arith)))
    (c.requires.vacant (c.args.from + c.args.count) (omega arith) (omega (arith, one)))

pub returns-then-part-ne0-clause-grows : goal.returns-then-part-ne0-clause-grows
returns-then-part-ne0-clause-grows c =
    let s = c.args.store.now in
    let t = c.grow_full.new.store in
    let u = c.add_shared.new.store in
    let l = c.args.regions.now in
    let m = c.grow_full.new.regions in
    let n = c.add_shared.new.regions in
    subst (λ (k : ℕ). Grows s u l n k c.args.holds) (one_behind c.args.count c.args.part (ne_eqb c.args.part 0 c.if-part-ne0.true))
    (grows_then s t u l m n c.args.count 1 c.args.holds c.grow_full.ensures.grows c.add_shared.ensures.grows)

pub returns-else-part-ne0-clause-grows : goal.returns-else-part-ne0-clause-grows
returns-else-part-ne0-clause-grows c =
    subst (λ (k : ℕ). Grows c.args.store.now c.grow_full.new.store c.args.regions.now c.grow_full.new.regions k c.args.holds) (none_behind c.args.count c.args.part (eq-eqb c.args.part 0 c.if-part-ne0.false))
    c.grow_full.ensures.grows

pub returns-then-part-ne0-clause-matches : goal.returns-then-part-ne0-clause-matches
returns-then-part-ne0-clause-matches c = λ unlocked.
    (let s = c.args.store.now in
    let t = c.grow_full.new.store in
    let u = c.add_shared.new.store in
    let l = c.args.regions.now in
    let m = c.grow_full.new.regions in
    let n = c.add_shared.new.regions in
    let pid = c.args.pid in
    let first = c.args.run.first in
    let from = c.args.from in
    let segs = c.args.count in
    let part = c.args.part in
    let ps : List (ℕ × ℕ) = (pid, c.args.holds) ∷ shares_in l pid first in
    let same : shares_in m pid first ≡ shares_in l pid first = shares_same l m pid first c.grow_full.ensures.grows.holds.processes (λ q. c.grow_full.ensures.others q first (inl c.requires.apart)) in
    subst (MatchesWith s u l n pid) (all_members s.made first c.args.run.count c.args.flags from ps segs part (ne_eqb part 0 c.if-part-ne0.true))
    (matches_then s t u l m n pid _ _ (c.grow_full.ensures.matches unlocked)
    (subst (λ (xs : List (ℕ × ℕ)). MatchesWith t u m n pid (new_members (s.made + segs) first c.args.run.count c.args.flags ((pid, c.args.holds) ∷ xs) ((from + segs) ∷ []) (part ∷ []))) same
    (subst (λ (name : ℕ). MatchesWith t u m n pid (new_members name first c.args.run.count c.args.flags ((pid, c.args.holds) ∷ shares_in m pid first) ((from + segs) ∷ []) (part ∷ []))) c.grow_full.ensures.grows.made (c.add_shared.ensures.matches unlocked)))))

pub returns-else-part-ne0-clause-matches : goal.returns-else-part-ne0-clause-matches
returns-else-part-ne0-clause-matches c = λ unlocked.
    subst (MatchesWith c.args.store.now c.grow_full.new.store c.args.regions.now c.grow_full.new.regions c.args.pid)
    (full_members c.args.store.now.made c.args.run.first c.args.run.count c.args.flags c.args.from ((c.args.pid, c.args.holds) ∷ shares_in c.args.regions.now c.args.pid c.args.run.first) c.args.count c.args.part (eq-eqb c.args.part 0 c.if-part-ne0.false))
    (c.grow_full.ensures.matches unlocked)

pub returns-then-part-ne0-clause-shares : goal.returns-then-part-ne0-clause-shares
returns-then-part-ne0-clause-shares c =
    let a = c.grow_full.ensures.grows.made in
    shares_then c.args.store.now c.grow_full.new.store c.add_shared.new.store c.args.regions.now c.grow_full.new.regions c.add_shared.new.regions c.args.store.now.made c.grow_full.new.store.made c.args.store.now.made (omega arith) (omega (arith, a))
    c.grow_full.ensures.shares c.add_shared.ensures.shares
