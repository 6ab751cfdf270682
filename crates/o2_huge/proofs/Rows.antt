-- What the row of DosAllocHuge comes to.
use Rattle.std.proofs.Common.{◌≡◌, ℕ, zero, suc, ◌+◌, ◌-◌, ◌%◌, ◌<◌, ◌≤◌, ◌==◌, List, [], ◌∷◌, ◌++◌, length, replicate, max, Option, Some, None, IfSome, Bool, true}
use Rattle.std.proofs.Common.{false, cond, eqb, nat_lt, if◌then◌else◌, refl, sym, ap, ◌∙◌, subst, arith}
use Rattle.std.proofs.lemmas.Bool.{cond-false, cond-true, ne_eqb, or_parts}
use Rattle.std.proofs.lemmas.Bool.Decides.{nat_tests}
use Rattle.o2_desc.specs.Bits.{has_bit}
use Rattle.o2_desc.specs.Choice.{IsRun, chosen, first_open}
use Rattle.o2_entries.specs.Tables.{live_numbers}
use Rattle.o2_regions.specs.declared.held.Region.{Region}
use Rattle.o2_regions.specs.declared.held.Region.TheVariants.{Private, Shared}
use Rattle.o2_regions.specs.Maps.{Maps, IsProcess, IsRegion, end_of, first_of, is_taken}
use Rattle.o2_store.specs.Shelf.{Shelf}
use Rattle.o2_stands.specs.Knows.{Others, known_in, region_by as region_named}
use Rattle.o2_stands.specs.Parts.{Parts}
use Rattle.o2_stands.specs.Stands.{Matches, number_of}
use Rattle.o2_world.specs.Changes.{Change, Reserves, with_all}
use Rattle.o2_world.specs.Holders.{process_at}
use Rattle.o2_world.specs.HugeRulings.{free_run, huge_allocation, huge_at, is_huge_fault, new_members, run_reserve, segments_of, sizes_of}
use Rattle.o2_world.specs.Known.{Known}
use Rattle.o2_world.specs.Rulings.{indexes, refusal, region_by}
use Rattle.o2_world.specs.World.{Process, World}
use Rattle.o2_segs.specs.Made.{region_for}
use Rattle.o2_huge.specs.Members.{MatchesWith}
use Rattle.o2_huge.proofs.Growing.{members_then}
use Rattle.o2_huge.proofs.Reserving.{run_all, run_small}

-- The region.

pub region_there : (m : Maps) (pid flags : ℕ) → IsProcess m pid → IsRegion m (region_for pid flags)
region_there m pid flags there = go (flags % 4 == 0)
  where
    go : (b : Bool) → IsRegion m (cond b (Private pid) Shared)
    go true = there
    go false = tt

number_is : (pid flags : ℕ) → number_of (region_for pid flags) ≡ region_by pid flags
number_is pid flags = go (flags % 4 == 0)
  where
    go : (b : Bool) → number_of (cond b (Private pid) Shared) ≡ cond b pid 0
    go true = refl
    go false = refl

region_own : (pid : ℕ) → 1 ≤ pid → region_named pid ≡ Private pid
region_own zero some = absurd (omega (arith, some))
region_own (suc n) some = refl

own_run : (p : Parts) (o : Others) (pid count : ℕ) → 1 ≤ pid → free_run (known_in p o) pid count ≡ chosen (is_taken p.maps (Private pid)) 1 4096 count
own_run p o pid count some =
    cond-false (eqb pid 0) (chosen (λ i. is_taken p.maps Shared i) 4096 8192 count) (chosen (λ i. is_taken p.maps (region_named pid) i) 1 4096 count) (ne_eqb pid 0 (omega (arith, some)))
    ∙ ap (λ (g : Region). chosen (is_taken p.maps g) 1 4096 count) (region_own pid some)

run_is : (p : Parts) (o : Others) (pid flags count : ℕ) → 1 ≤ pid → free_run (known_in p o) (region_by pid flags) count ≡ chosen (is_taken p.maps (region_for pid flags)) (first_of (region_for pid flags)) (end_of (region_for pid flags)) count
run_is p o pid flags count some = go (flags % 4 == 0)
  where
    go : (b : Bool) → free_run (known_in p o) (cond b pid 0) count ≡ chosen (is_taken p.maps (cond b (Private pid) Shared)) (first_of (cond b (Private pid) Shared)) (end_of (cond b (Private pid) Shared)) count
    go true = own_run p o pid count some
    go false = refl

-- more indexes than a region has are never free in a row
pub no_run : (taken : ℕ → Bool) (g : Region) (count : ℕ) → 4096 < count → None ≡ chosen taken (first_of g) (end_of g) count
unfolding first_open
no_run taken (Private pid) count many = let e : (4096 + 1) - (1 + count) ≡ 0 = omega (arith, many) in sym (ap (first_open taken count 1) e)
no_run taken Shared count many = let e : (8192 + 1) - (4096 + count) ≡ 0 = omega (arith, many) in sym (ap (first_open taken count 4096) e)

pub index_small : (o : Option ℕ) (taken : ℕ → Bool) (g : Region) (count : ℕ) → 0 < count → IfSome o (λ i. IsRun taken (first_of g) (end_of g) count i) → IfSome o (λ i. i < 8192)
index_small None taken g count some run = tt
index_small (Some i) taken g count some run = let small = (run_small taken g count i run).1 in omega (arith, small, some)

pub chosen_as : (m : Maps) (c : Option ℕ) (g h : Region) (a b : ℕ) → g ≡ h → a ≡ b → c ≡ chosen (is_taken m g) (first_of g) (end_of g) a → c ≡ chosen (is_taken m h) (first_of h) (end_of h) b
chosen_as m c g h a b eg ea e = e ∙ ap (λ (x : Region). chosen (is_taken m x) (first_of x) (end_of x) a) eg ∙ ap (chosen (is_taken m h) (first_of h) (end_of h)) ea

-- The ruling.

-- what words that are none of these have
pub faultless : (n most flags : ℕ) → is_huge_fault n most flags ≡ false → (flags ≤ 15) × ((has_bit flags 2 ≡ false) × (0 < n))
faultless n most flags e =
    let x = or_parts (nat_lt 15 flags) _ e in
    let y = or_parts (has_bit flags 2) _ x.1 in
    let z = or_parts (n == 0) _ y.1 in
    (within flags x.0, (y.0, above n z.0))
  where
    within : (f : ℕ) → nat_lt 15 f ≡ false → f ≤ 15
    within f e = grind (arith, nat_tests)

    above : (n : ℕ) → (n == 0) ≡ false → 0 < n
    above n e = grind arith

pub some_wanted : (n most : ℕ) → 0 < n → 0 < max n most
some_wanted n most some = omega (arith, some)

pub all_wanted : (n most : ℕ) → n ≤ max n most
all_wanted n most = omega arith

pub room_left : (most live n : ℕ) → nat_lt most (live + n) ≡ false → live + n ≤ most
room_left most live n e = grind (arith, nat_tests)

pub alloc_fault : (k : Known) (pid segs part most flags : ℕ) → is_huge_fault (segments_of segs part) most flags ≡ true → huge_allocation k pid segs part most flags ≡ refusal 87
alloc_fault k pid segs part most flags e = cond-true (is_huge_fault (segments_of segs part) most flags) (refusal 87) _ e

alloc_good : (k : Known) (pid segs part most flags : ℕ) → is_huge_fault (segments_of segs part) most flags ≡ false
    → huge_allocation k pid segs part most flags
    ≡ (let m = segments_of segs part in if nat_lt k.most (k.count + m) then refusal 8 else huge_at k pid segs part (max m most) flags (free_run k (region_by pid flags) (max m most)))
alloc_good k pid segs part most flags e = cond-false (is_huge_fault (segments_of segs part) most flags) (refusal 87) _ e

pub alloc_full : (p : Parts) (o : Others) (s : Shelf) (pid segs part most flags : ℕ) → p.shelf ≡ s → is_huge_fault (segments_of segs part) most flags ≡ false
    → nat_lt (length s.entries) (length (live_numbers 0 s.entries) + segments_of segs part) ≡ true → huge_allocation (known_in p o) pid segs part most flags ≡ refusal 8
alloc_full p o s pid segs part most flags es e full =
    alloc_good (known_in p o) pid segs part most flags e
    ∙ cond-true (nat_lt (length p.shelf.entries) (length (live_numbers 0 p.shelf.entries) + segments_of segs part)) (refusal 8) _
    (subst (λ (x : Shelf). nat_lt (length x.entries) (length (live_numbers 0 x.entries) + segments_of segs part) ≡ true) (sym es) full)

pub alloc_at : (p : Parts) (o : Others) (s : Shelf) (m : Maps) (pid segs part most flags : ℕ) (c : Option ℕ) → p.shelf ≡ s → p.maps ≡ m → 1 ≤ pid → is_huge_fault (segments_of segs part) most flags ≡ false
    → nat_lt (length s.entries) (length (live_numbers 0 s.entries) + segments_of segs part) ≡ false
    → c ≡ chosen (is_taken m (region_for pid flags)) (first_of (region_for pid flags)) (end_of (region_for pid flags)) (max (segments_of segs part) most)
    → huge_allocation (known_in p o) pid segs part most flags ≡ huge_at (known_in p o) pid segs part (max (segments_of segs part) most) flags c
alloc_at p o s m pid segs part most flags c es em some e room is =
    alloc_good (known_in p o) pid segs part most flags e
    ∙ cond-false (nat_lt (length p.shelf.entries) (length (live_numbers 0 p.shelf.entries) + segments_of segs part)) (refusal 8) _
    (subst (λ (x : Shelf). nat_lt (length x.entries) (length (live_numbers 0 x.entries) + segments_of segs part) ≡ false) (sym es) room)
    ∙ ap (huge_at (known_in p o) pid segs part (max (segments_of segs part) most) flags)
    (run_is p o pid flags (max (segments_of segs part) most) some
    ∙ ap (λ (x : Maps). chosen (is_taken x (region_for pid flags)) (first_of (region_for pid flags)) (end_of (region_for pid flags)) (max (segments_of segs part) most)) em
    ∙ sym is)

-- What it changes.

pub few_full : (segs part : ℕ) → segs ≤ segments_of segs part
few_full segs part = go (part == 0)
  where
    go : (b : Bool) → segs ≤ cond b segs (segs + 1)
    go true = omega arith
    go false = omega arith

pub one_behind : (segs part : ℕ) → (part == 0) ≡ false → segs + 1 ≡ segments_of segs part
one_behind segs part e = sym (ap (λ (b : Bool). cond b segs (segs + 1)) e)

pub none_behind : (segs part : ℕ) → (part == 0) ≡ true → segs ≡ segments_of segs part
none_behind segs part e = sym (ap (λ (b : Bool). cond b segs (segs + 1)) e)

abbrev pub made_changes : (pid segs part count flags first made : ℕ) → List Change
made_changes pid segs part count flags first made =
    new_members made first count flags ((pid, 1) ∷ []) (indexes first (segments_of segs part)) (sizes_of segs part) ++ Reserves (run_reserve (number_of (region_for pid flags)) first count) ∷ []

-- the full members and the last one are all
pub all_members : (name first count flags a : ℕ) (ps : List (ℕ × ℕ)) (segs part : ℕ) → (part == 0) ≡ false
    → new_members name first count flags ps (indexes a segs) (replicate segs 0) ++ new_members (name + segs) first count flags ps ((a + segs) ∷ []) (part ∷ [])
    ≡ new_members name first count flags ps (indexes a (segments_of segs part)) (sizes_of segs part)
all_members name first count flags a ps segs part e =
    members_then name first count flags a ps segs part ∙ sym (ap (λ (b : Bool). new_members name first count flags ps (indexes a (cond b segs (segs + 1))) (replicate segs 0 ++ cond b [] (part ∷ []))) e)

append_none : (xs : List ℕ) → xs ++ [] ≡ xs
append_none [] = refl
append_none (x ∷ xs) = ap (λ (ys : List ℕ). x ∷ ys) (append_none xs)

pub full_members : (name first count flags a : ℕ) (ps : List (ℕ × ℕ)) (segs part : ℕ) → (part == 0) ≡ true
    → new_members name first count flags ps (indexes a segs) (replicate segs 0) ≡ new_members name first count flags ps (indexes a (segments_of segs part)) (sizes_of segs part)
full_members name first count flags a ps segs part e =
    ap (new_members name first count flags ps (indexes a segs)) (sym (append_none (replicate segs 0)))
    ∙ sym (ap (λ (b : Bool). new_members name first count flags ps (indexes a (cond b segs (segs + 1))) (replicate segs 0 ++ cond b [] (part ∷ []))) e)

pub alloc_matches : (p : Parts) (o : Others) (w : World) (x : Process) (s t : Shelf) (m n : Maps) (pid segs part count flags first : ℕ) → p.shelf ≡ s → p.maps ≡ m → process_at w.processes pid ≡ Some x
    → MatchesWith s t m n pid (made_changes pid segs part count flags first s.made) → Matches p w
    → Matches (record p { shelf = t; maps = n }) (with_all w (huge_at (known_in p o) pid segs part count flags (Some first)).changes)
alloc_matches p o w x s t m n pid segs part count flags first es em at a q =
    subst (λ (k : ℕ). Matches (record p { shelf = t; maps = n })
    (with_all w (new_members k first count flags ((pid, 1) ∷ []) (indexes first (segments_of segs part)) (sizes_of segs part)
    ++ Reserves (run_reserve (region_by pid flags) first count) ∷ []))) (ap (λ (y : Shelf). y.made) (sym es))
    (subst (λ (k : ℕ). Matches (record p { shelf = t; maps = n }) (with_all w (new_members s.made first count flags ((pid, 1) ∷ []) (indexes first (segments_of segs part)) (sizes_of segs part) ++ Reserves (run_reserve k first count) ∷ []))) (number_is pid flags)
    (subst (λ (v : World). Matches (record p { shelf = t; maps = n }) v) (sym (run_all w s.made first count flags (run_reserve (number_of (region_for pid flags)) first count) ((pid, 1) ∷ []) (indexes first (segments_of segs part)) (sizes_of segs part))) (a.world p w x es em at q)))
