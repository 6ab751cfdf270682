use Rattle.std.proofs.Common.{◌≡◌, ℕ, ◌+◌, ◌<◌, ◌≤◌, true, List, ◌∷◌, [], ap, arith, subst, sym, ◌∙◌}
use Rattle.std.proofs.lemmas.Bool.{eq-eqb, ne_eqb}
use Rattle.o2_desc.specs.Choice.{IsRun}
use Rattle.o2_regions.specs.declared.held.Region.{Region}
use Rattle.o2_regions.specs.Maps.{IsRegion, end_of, first_of, is_reserved, is_taken}
use Rattle.o2_stands.specs.Stands.{number_of}
use Rattle.o2_world.specs.Changes.{Change, Reserves}
use Rattle.o2_world.specs.HugeRulings.{new_members, run_reserve, segments_of, sizes_of}
use Rattle.o2_world.specs.Rulings.{indexes}
use Rattle.o2_segs.specs.Made.{region_for}
use Rattle.o2_segs.specs.Sharing.{KeepsShares}
use Rattle.o2_huge.specs.Members.{Grows, MatchesWith}
use Rattle.o2_segs.proofs.Sharing.{shares_as, shares_then}
use Rattle.o2_huge.proofs.Growing.{grows_then, make_fewer, make_next, matches_then, none_first}
use Rattle.o2_huge.proofs.Reserving.{open_still, reserve_grows, reserve_last, reserve_make, reserve_matches, reserved_by, reserved_same, run_nobody, run_opens, run_small}
use Rattle.o2_huge.proofs.Rows.{all_members, few_full, full_members, none_behind, one_behind, region_there}
use Rattle.o2_huge.proofs.allocating.make_run.Goals as goal

pub reserve-requires-clause-region : goal.reserve-requires-clause-region
reserve-requires-clause-region c = subst (IsRegion c.args.regions.now) (sym c.region_for.ensures) (region_there c.args.regions.now c.args.pid c.args.flags c.requires.may_make.process)

pub reserve-requires-clause-free : goal.reserve-requires-clause-free
reserve-requires-clause-free c = subst (λ (g : Region). IsRun (is_taken c.args.regions.now g) (first_of g) (end_of g) c.args.run.count c.args.run.first) (sym c.region_for.ensures) c.requires.free

pub add_full-requires-clause-inside : goal.add_full-requires-clause-inside
add_full-requires-clause-inside c =
    let g = region_for c.args.pid c.args.flags in
    let small = run_small (is_taken c.args.regions.now g) g c.args.run.count c.args.run.first c.requires.free in
    let inside = small.1 in
    let few = c.requires.few in
    let full = few_full c.args.segs c.args.part in
    omega (arith, inside, few, full)

pub add_full-requires-clause-open : goal.add_full-requires-clause-open
add_full-requires-clause-open c = λ i from to.
    (let m = c.args.regions.now in
    let n = c.reserve.new.self in
    let first = c.args.run.first in
    let count = c.args.run.count in
    let few = c.requires.few in
    let full = few_full c.args.segs c.args.part in
    run_opens m n c.args.pid c.args.flags first count c.requires.may_make.process c.requires.free (reserved_by m n _ _ first count c.reserve.ensures.exact c.region_for.ensures)
    (subst (λ (g : Region). (i : ℕ) → first ≤ i → i < first + count → is_reserved n g i ≡ true) c.region_for.ensures c.reserve.ensures.reserved) i from (omega (arith, to, few, full)))

pub add_full-requires-clause-may_make : goal.add_full-requires-clause-may_make
add_full-requires-clause-may_make c =
    let s = c.args.store.now in
    let m = c.args.regions.now in
    let n = c.reserve.new.self in
    let pid = c.args.pid in
    let first = c.args.run.first in
    let count = c.args.run.count in
    let is = reserved_by m n _ _ first count c.reserve.ensures.exact c.region_for.ensures in
    make_fewer s n pid (segments_of c.args.segs c.args.part) c.args.segs (reserve_make s m n (region_for pid c.args.flags) pid first count _ is c.requires.may_make) (few_full c.args.segs c.args.part)

pub add_member-requires-clause-may_make : goal.add_member-requires-clause-may_make
add_member-requires-clause-may_make c =
    let s = c.args.store.now in
    let m = c.args.regions.now in
    let n = c.reserve.new.self in
    let pid = c.args.pid in
    let first = c.args.run.first in
    let count = c.args.run.count in
    let is = reserved_by m n _ _ first count c.reserve.ensures.exact c.region_for.ensures in
    make_next s c.add_full.new.store n c.add_full.new.regions pid (segments_of c.args.segs c.args.part) c.args.segs 1 (reserve_make s m n (region_for pid c.args.flags) pid first count _ is c.requires.may_make) c.add_full.ensures.grows
    (let one = one_behind c.args.segs c.args.part (ne_eqb c.args.part 0 c.if-part-ne0.true) in omega (arith, one))

pub add_member-requires-clause-index : goal.add_member-requires-clause-index
add_member-requires-clause-index c =
    let g = region_for c.args.pid c.args.flags in
    let small = run_small (is_taken c.args.regions.now g) g c.args.run.count c.args.run.first c.requires.free in
    let inside = small.1 in
    let few = c.requires.few in
    let one = one_behind c.args.segs c.args.part (ne_eqb c.args.part 0 c.if-part-ne0.true) in
    omega (arith, inside, few, one)

pub add_member-requires-clause-open : goal.add_member-requires-clause-open
add_member-requires-clause-open c =
    let m = c.args.regions.now in
    let n = c.reserve.new.self in
    let first = c.args.run.first in
    let count = c.args.run.count in
    let few = c.requires.few in
    let one = one_behind c.args.segs c.args.part (ne_eqb c.args.part 0 c.if-part-ne0.true) in
    let at = first + c.args.segs in
    open_still n c.add_full.new.regions c.args.pid at c.add_full.ensures.reserved (c.add_full.ensures.others c.args.pid at (omega arith))
    (run_opens m n c.args.pid c.args.flags first count c.requires.may_make.process c.requires.free (reserved_by m n _ _ first count c.reserve.ensures.exact c.region_for.ensures)
    (subst (λ (g : Region). (i : ℕ) → first ≤ i → i < first + count → is_reserved n g i ≡ true) c.region_for.ensures c.reserve.ensures.reserved) at (omega arith) (omega (arith, few, one)))

pub returns-then-part-ne0-clause-grows : goal.returns-then-part-ne0-clause-grows
returns-then-part-ne0-clause-grows c =
    let s = c.args.store.now in
    let t = c.add_full.new.store in
    let u = c.add_member.new.store in
    let l = c.args.regions.now in
    let k = c.reserve.new.self in
    let m = c.add_full.new.regions in
    let n = c.add_member.new.regions in
    let segs = c.args.segs in
    let first = c.args.run.first in
    let count = c.args.run.count in
    let is = reserved_by l k _ _ first count c.reserve.ensures.exact c.region_for.ensures in
    let front = reserve_grows s l k (region_for c.args.pid c.args.flags) first count 1 is c.requires.may_make.order in
    subst (λ (x : ℕ). Grows s u l n x 1) (ap (λ (x : ℕ). x + 1) (none_first segs) ∙ one_behind segs c.args.part (ne_eqb c.args.part 0 c.if-part-ne0.true))
    (grows_then s t u l m n (0 + segs) 1 1 (grows_then s s t l k m 0 segs 1 front c.add_full.ensures.grows) c.add_member.ensures.grows)

pub returns-else-part-ne0-clause-grows : goal.returns-else-part-ne0-clause-grows
returns-else-part-ne0-clause-grows c =
    let s = c.args.store.now in
    let t = c.add_full.new.store in
    let l = c.args.regions.now in
    let k = c.reserve.new.self in
    let m = c.add_full.new.regions in
    let segs = c.args.segs in
    let first = c.args.run.first in
    let count = c.args.run.count in
    let is = reserved_by l k _ _ first count c.reserve.ensures.exact c.region_for.ensures in
    let front = reserve_grows s l k (region_for c.args.pid c.args.flags) first count 1 is c.requires.may_make.order in
    subst (λ (x : ℕ). Grows s t l m x 1) (none_first segs ∙ none_behind segs c.args.part (eq-eqb c.args.part 0 c.if-part-ne0.false)) (grows_then s s t l k m 0 segs 1 front c.add_full.ensures.grows)

pub returns-then-part-ne0-clause-matches : goal.returns-then-part-ne0-clause-matches
returns-then-part-ne0-clause-matches c =
    let s = c.args.store.now in
    let t = c.add_full.new.store in
    let u = c.add_member.new.store in
    let l = c.args.regions.now in
    let k = c.reserve.new.self in
    let m = c.add_full.new.regions in
    let n = c.add_member.new.regions in
    let pid = c.args.pid in
    let segs = c.args.segs in
    let part = c.args.part in
    let flags = c.args.flags in
    let first = c.args.run.first in
    let count = c.args.run.count in
    let g : Region = region_for pid flags in
    let stretch = run_reserve (number_of g) first count in
    let is : List ℕ = indexes first (segments_of segs part) in
    let ps : List (ℕ × ℕ) = (pid, 1) ∷ [] in
    let all : List Change = new_members s.made first count flags ps is (sizes_of segs part) in
    let last = subst (λ (name : ℕ). MatchesWith t u m n pid (new_members name first count flags ps ((first + segs) ∷ []) (part ∷ []))) c.add_full.ensures.grows.made (c.add_member.ensures.matches c.requires.unlocked) in
    let reserve = reserve_matches s l k g pid first count c.law.ensures (region_there l pid flags c.requires.may_make.process) c.requires.free.1 (reserved_by l k _ _ first count c.reserve.ensures.exact c.region_for.ensures) in
    reserve_last s u l n pid s.made first count flags stretch ps is (sizes_of segs part)
    (matches_then s s u l k n pid (Reserves stretch ∷ []) all reserve
    (subst (MatchesWith s u k n pid) (all_members s.made first count flags first ps segs part (ne_eqb part 0 c.if-part-ne0.true)) (matches_then s t u k m n pid _ _ c.add_full.ensures.matches last)))

pub returns-else-part-ne0-clause-matches : goal.returns-else-part-ne0-clause-matches
returns-else-part-ne0-clause-matches c =
    let s = c.args.store.now in
    let t = c.add_full.new.store in
    let l = c.args.regions.now in
    let k = c.reserve.new.self in
    let m = c.add_full.new.regions in
    let pid = c.args.pid in
    let segs = c.args.segs in
    let part = c.args.part in
    let flags = c.args.flags in
    let first = c.args.run.first in
    let count = c.args.run.count in
    let g : Region = region_for pid flags in
    let stretch = run_reserve (number_of g) first count in
    let is : List ℕ = indexes first (segments_of segs part) in
    let ps : List (ℕ × ℕ) = (pid, 1) ∷ [] in
    let all : List Change = new_members s.made first count flags ps is (sizes_of segs part) in
    let reserve = reserve_matches s l k g pid first count c.law.ensures (region_there l pid flags c.requires.may_make.process) c.requires.free.1 (reserved_by l k _ _ first count c.reserve.ensures.exact c.region_for.ensures) in
    reserve_last s t l m pid s.made first count flags stretch ps is (sizes_of segs part)
    (matches_then s s t l k m pid (Reserves stretch ∷ []) all reserve
    (subst (MatchesWith s t k m pid) (full_members s.made first count flags first ps segs part (eq-eqb part 0 c.if-part-ne0.false)) c.add_full.ensures.matches))

pub returns-then-part-ne0-clause-shares : goal.returns-then-part-ne0-clause-shares
returns-then-part-ne0-clause-shares c =
    let s = c.args.store.now in
    let t = c.add_full.new.store in
    let l = c.args.regions.now in
    let r = c.reserve.new.self in
    let m = c.add_full.new.regions in
    let first = c.args.run.first in
    let count = c.args.run.count in
    let few = c.requires.few in
    let full = few_full c.args.segs c.args.part in
    let same = reserved_same l r (region_for c.args.pid c.args.flags) first count (reserved_by l r _ _ first count c.reserve.ensures.exact c.region_for.ensures) in
    let nobody = run_nobody l c.args.pid c.args.flags first count c.law.ensures c.requires.free in
    let front : KeepsShares s l t m s.made = shares_then s s t l r m s.made s.made s.made (omega arith) (omega arith) (shares_as l r same s s s.made (λ id old alive. alive))
    (c.add_full.ensures.shares (λ q i from to high. same q i ∙ nobody q i from (omega (arith, to, few, full)) high)) in
    let one = one_behind c.args.segs c.args.part (ne_eqb c.args.part 0 c.if-part-ne0.true) in
    let at : ℕ = first + c.args.segs in
    shares_then s t c.add_member.new.store l m c.add_member.new.regions s.made t.made s.made (omega arith) (let a = c.add_full.ensures.grows.made in omega (arith, a)) front
    (c.add_member.ensures.shares (λ high q. c.add_full.ensures.others q at (omega arith) ∙ same q at ∙ nobody q at (omega arith) (omega (arith, few, one)) high))

pub returns-else-part-ne0-clause-shares : goal.returns-else-part-ne0-clause-shares
returns-else-part-ne0-clause-shares c =
    let s = c.args.store.now in
    let l = c.args.regions.now in
    let r = c.reserve.new.self in
    let first = c.args.run.first in
    let count = c.args.run.count in
    let few = c.requires.few in
    let full = few_full c.args.segs c.args.part in
    let same = reserved_same l r (region_for c.args.pid c.args.flags) first count (reserved_by l r _ _ first count c.reserve.ensures.exact c.region_for.ensures) in
    let nobody = run_nobody l c.args.pid c.args.flags first count c.law.ensures c.requires.free in
    shares_then s s c.add_full.new.store l r c.add_full.new.regions s.made s.made s.made (omega arith) (omega arith) (shares_as l r same s s s.made (λ id old alive. alive))
    (c.add_full.ensures.shares (λ q i from to high. same q i ∙ nobody q i from (omega (arith, to, few, full)) high))
