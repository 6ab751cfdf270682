-- Calls on huge allocations come to the same by what is known of a machine as by what is known of its world, and what they change.
use Rattle.std.proofs.Common.{◌≡◌, ◌⊎◌, inl, inr, ◌++◌, ℕ, ◌+◌, ◌-◌, ◌/◌, ◌%◌, ◌==◌, ◌&&◌, ◌||◌, nat_le, nat_lt, Bool, true, false, cond, List, [], ◌∷◌, length, drop}
use Rattle.std.proofs.Common.{max, Option, Some, None, if◌then◌else◌, ap, sym, ◌∙◌, refl, subst, arith}
use Rattle.o2_desc.specs.Choice.{chosen}
use Rattle.o2_isa.specs.declared.cpu.Cpu.{Cpu}
use Rattle.o2_regions.specs.declared.held.Region.TheVariants.{Private, Shared}
use Rattle.o2_regions.specs.Maps.{Maps, IsProcess}
use Rattle.o2_world.specs.Changes.{Change, Makes, Resizes, Locks, Marks, Holds, Drops, Finishes, Reserves, Frees, Names}
use Rattle.o2_world.specs.HugeRulings.{all_bytes, all_dropped, all_hold, bytes_of, dropped_members, flags_in, free_run, huge_allocation, huge_at, huge_reallocation}
use Rattle.o2_world.specs.HugeRulings.{huge_reallocation_of, is_first, is_huge_fault, left_in_run, new_members, other_shares, resized_members, resized_one, run_changes}
use Rattle.o2_world.specs.HugeRulings.{run_resized, segments_of, sizes_of}
use Rattle.o2_world.specs.Known.{Known, Marks as SegmentMarks}
use Rattle.o2_world.specs.Rulings.{Ruling, full_size, held_under, in_use, indexes, members, refusal, region_by}
use Rattle.o2_world.specs.SharedRulings.{marks_under, shared_from}
use Rattle.o2_world.specs.World.{Held}
use Rattle.o2_gate.specs.declared.requests.HugeArguments.{HugeArguments}
use Rattle.o2_gate.specs.declared.requests.HugeArguments.TheVariants.{Alloc, Realloc, Shift}
use Rattle.o2_stands.specs.Knows.{KnowsAs}
use Rattle.o2_stands.proofs.Ruled.{but_taken, chosen_same}
use Rattle.o2_calls.specs.HugeActs.{huge_cpu, huge_ruling}
use Rattle.o2_calls.proofs.Behind.{AreGifts, AreNoEnds, GivesNone, GivesRun, IsGift, IsGiving, IsNoEnd, gifts_append}

-- The rulings go by what is known.

module _ (m : Maps) (k l : Known) (same : KnowsAs m k l) where
  abbrev x : Known
  x = record l { taken = k.taken }

  not_zero : (r : ℕ) → (r == 0) ≡ false → r ≡ 0 → ⊥
  not_zero r e f = grind arith

  same_run : (n r count : ℕ) → IsProcess m n → (r ≡ n) ⊎ (r ≡ 0) → free_run x r count ≡ free_run l r count
  same_run n r count process which = go (r == 0) refl
    where
      own : (r ≡ n) ⊎ (r ≡ 0) → (r ≡ 0 → ⊥) → r ≡ n
      own (inl e) some = e
      own (inr e) some = absurd (some e)

      go : (b : Bool) → (r == 0) ≡ b
          → (if b then chosen (k.taken 0) 4096 8192 count else chosen (k.taken r) 1 4096 count) ≡ (if b then chosen (l.taken 0) 4096 8192 count else chosen (l.taken r) 1 4096 count)
      go true is = chosen_same (k.taken 0) (l.taken 0) 4096 8192 count (λ i from to. same.taken Shared i (record { region = tt; from = from; to = to }))
      go false is =
          let e : r ≡ n = own which (not_zero r is) in
          chosen_same (k.taken r) (l.taken r) 1 4096 count
          (λ i from to. subst (λ (q : ℕ). k.taken q i ≡ l.taken q i) (sym e) (same.taken (Private n) i (record { region = process; from = from; to = to })))

  at_run : (n segs part count flags : ℕ) (o : Option ℕ) → huge_at x n segs part count flags o ≡ huge_at l n segs part count flags o
  at_run n segs part count flags None = refl
  at_run n segs part count flags (Some i) = refl

  same_making : (n segs part most flags : ℕ) → IsProcess m n → huge_allocation k n segs part most flags ≡ huge_allocation l n segs part most flags
  same_making n segs part most flags process =
      let wanted : ℕ = segments_of segs part in
      let count : ℕ = max wanted most in
      ap (λ (z : Known). huge_allocation z n segs part most flags) (but_taken m k l same)
      ∙ ap (λ (r : Ruling). if is_huge_fault wanted most flags then refusal 87 else (if nat_lt l.most (l.count + wanted) then refusal 8 else r))
      (at_run n segs part count flags (free_run x (region_by n flags) count) ∙ ap (huge_at l n segs part count flags) (same_run n (region_by n flags) count process (region_is (flags % 4 == 0))))
    where
      region_is : (b : Bool) → ((if b then n else 0) ≡ n) ⊎ ((if b then n else 0) ≡ 0)
      region_is true = inl refl
      region_is false = inr refl

  pub same_huge : (a : HugeArguments) (n : ℕ) (c : Cpu) → IsProcess m n → huge_ruling a k n c ≡ huge_ruling a l n c
  same_huge (Alloc segs part most flags) n c process = same_making n segs part most flags process
  same_huge (Realloc segs part selector) n c process = ap (λ (z : Known). huge_reallocation z n segs part selector c) (but_taken m k l same)
  same_huge Shift n c process = refl

  pub same_huge_cpu : (a : HugeArguments) (n : ℕ) (c : Cpu) → huge_cpu a k n c ≡ huge_cpu a l n c
  same_huge_cpu (Alloc segs part most flags) n c = refl
  same_huge_cpu (Realloc segs part selector) n c = ap (λ (z : Known). huge_cpu (Realloc segs part selector) z n c) (but_taken m k l same)
  same_huge_cpu Shift n c = refl

-- What they change.

either : (P : List Change → Type 0) (b : Bool) (r q : Ruling) → P r.changes → P q.changes → P (cond b r q).changes
either P true r q h k = h
either P false r q h k = k

hold_gifts : (name first count i : ℕ) (ps : List (ℕ × ℕ)) → AreGifts (all_hold name first count i ps)
hold_gifts name first count i [] = tt
hold_gifts name first count i (p ∷ ps) = (tt, hold_gifts name first count i ps)

member_gifts : (name first count flags : ℕ) (ps : List (ℕ × ℕ)) (is zs : List ℕ) → AreGifts (new_members name first count flags ps is zs)
member_gifts name first count flags ps [] zs = tt
member_gifts name first count flags ps (i ∷ is) [] = tt
member_gifts name first count flags ps (i ∷ is) (z ∷ zs) =
    (tt, gifts_append (all_hold name first count i ps) (new_members (name + 1) first count flags ps is zs) (hold_gifts name first count i ps) (member_gifts (name + 1) first count flags ps is zs))

made_at : (k : Known) (n segs part count flags : ℕ) (o : Option ℕ) → IsGiving (huge_at k n segs part count flags o).changes
made_at k n segs part count flags None = GivesNone refl
made_at k n segs part count flags (Some i) =
    GivesRun (gifts_append _ _ (member_gifts k.next i count flags ((n, 1) ∷ []) (indexes i (segments_of segs part)) (sizes_of segs part)) (tt, tt))

pub run_gives : (k : Known) (n segs part most flags : ℕ) → IsGiving (huge_allocation k n segs part most flags).changes
run_gives k n segs part most flags =
    let wanted : ℕ = segments_of segs part in
    either IsGiving (is_huge_fault wanted most flags) _ _ (GivesNone refl)
    (either IsGiving (nat_lt k.most (k.count + wanted)) _ _ (GivesNone refl) (made_at k n segs part (max wanted most) flags (free_run k (region_by n flags) (max wanted most))))

-- members that are made, sized, held, let go, and what is reserved for them
abbrev pub IsOfRuns : Change → Type 0
IsOfRuns (Makes s) = Unit {0}
IsOfRuns (Resizes name size) = Unit {0}
IsOfRuns (Locks name count) = ⊥
IsOfRuns (Marks name discarded) = ⊥
IsOfRuns (Holds p i h) = Unit {0}
IsOfRuns (Drops p i count) = Unit {0}
IsOfRuns (Finishes p state) = ⊥
IsOfRuns (Reserves r) = Unit {0}
IsOfRuns (Frees region first) = ⊥
IsOfRuns (Names text name) = ⊥

abbrev pub AreOfRuns : List Change → Type 0
AreOfRuns [] = Unit {0}
AreOfRuns (c ∷ cs) = IsOfRuns c × AreOfRuns cs

of_runs_append : (xs ys : List Change) → AreOfRuns xs → AreOfRuns ys → AreOfRuns (xs ++ ys)
of_runs_append [] ys front back = back
of_runs_append (x ∷ xs) ys front back = (front.0, of_runs_append xs ys front.1 back)

gift_of_runs : (c : Change) → IsGift c → IsOfRuns c
gift_of_runs (Makes s) is = tt
gift_of_runs (Resizes name size) is = absurd is
gift_of_runs (Locks name count) is = absurd is
gift_of_runs (Marks name discarded) is = absurd is
gift_of_runs (Holds p i h) is = tt
gift_of_runs (Drops p i count) is = absurd is
gift_of_runs (Finishes p state) is = absurd is
gift_of_runs (Reserves r) is = tt
gift_of_runs (Frees region first) is = absurd is
gift_of_runs (Names text name) is = absurd is

gifts_of_runs : (cs : List Change) → AreGifts cs → AreOfRuns cs
gifts_of_runs [] are = tt
gifts_of_runs (c ∷ cs) are = (gift_of_runs c are.0, gifts_of_runs cs are.1)

of_runs_goes_on : (c : Change) → IsOfRuns c → IsNoEnd c
of_runs_goes_on (Makes s) is = tt
of_runs_goes_on (Resizes name size) is = tt
of_runs_goes_on (Locks name count) is = absurd is
of_runs_goes_on (Marks name discarded) is = absurd is
of_runs_goes_on (Holds p i h) is = tt
of_runs_goes_on (Drops p i count) is = tt
of_runs_goes_on (Finishes p state) is = absurd is
of_runs_goes_on (Reserves r) is = tt
of_runs_goes_on (Frees region first) is = absurd is
of_runs_goes_on (Names text name) is = absurd is

of_runs_go_on : (cs : List Change) → AreOfRuns cs → AreNoEnds cs
of_runs_go_on [] are = tt
of_runs_go_on (c ∷ cs) are = (of_runs_goes_on c are.0, of_runs_go_on cs are.1)

resized_goes_on : (size : ℕ) (o : Option Held) (x : Option SegmentMarks) → AreOfRuns (resized_one size o x)
resized_goes_on size None None = tt
resized_goes_on size None (Some x) = tt
resized_goes_on size (Some h) None = tt
resized_goes_on size (Some h) (Some x) = go (x.size == full_size size)
  where
    go : (b : Bool) → AreOfRuns (cond b [] (Resizes h.name (full_size size) ∷ []))
    go true = tt
    go false = (tt, tt)

all_resized_go_on : (k : Known) (n : ℕ) (is zs : List ℕ) → AreOfRuns (resized_members k n is zs)
all_resized_go_on k n [] zs = tt
all_resized_go_on k n (i ∷ is) [] = tt
all_resized_go_on k n (i ∷ is) (z ∷ zs) = of_runs_append _ _ (resized_goes_on z (k.held n i) (marks_under k (k.held n i))) (all_resized_go_on k n is zs)

dropped_goes_on : (n i : ℕ) (o : Option Held) → AreOfRuns (all_dropped n i o)
dropped_goes_on n i None = tt
dropped_goes_on n i (Some h) = (tt, tt)

all_dropped_go_on : (k : Known) (n : ℕ) (is : List ℕ) → AreOfRuns (dropped_members k n is)
all_dropped_go_on k n [] = tt
all_dropped_go_on k n (i ∷ is) = of_runs_append _ _ (dropped_goes_on n i (k.held n i)) (all_dropped_go_on k n is)

changes_go_on : (k : Known) (n : ℕ) (h : Held) (is zs : List ℕ) → AreOfRuns (run_changes k n h is zs)
changes_go_on k n h is zs =
    of_runs_append _ _ (all_resized_go_on k n is zs)
    (of_runs_append _ _
    (gifts_of_runs _ (member_gifts k.next h.first h.reserved (flags_in (k.segment h.name)) ((n, h.holds) ∷ other_shares k n h.first) (left_in_run k n h) (drop (length is) zs)))
    (all_dropped_go_on k n (drop (length zs) is)))

sized_goes_on : (k : Known) (n segs part : ℕ) (c : Cpu) (h : Held) (is : List ℕ) → AreOfRuns (run_resized k n segs part c h is).changes
sized_goes_on k n segs part c h is =
    let wanted : ℕ = segments_of segs part in
    either AreOfRuns (wanted == 0) _ _ tt
    (either AreOfRuns (nat_lt h.reserved wanted) _ _ tt
    (either AreOfRuns ((nat_le shared_from h.first && nat_lt (bytes_of segs part) (all_bytes k n is)) || in_use c (drop wanted is)) _ _ tt
    (either AreOfRuns (nat_lt k.most (k.count + (wanted - length is)) || nat_lt (length is + length (left_in_run k n h)) wanted) _ _ tt (changes_go_on k n h is (sizes_of segs part)))))

rehuged_goes_on : (k : Known) (n i segs part : ℕ) (c : Cpu) (o : Option Held) → AreOfRuns (huge_reallocation_of k n i segs part c o).changes
rehuged_goes_on k n i segs part c None = tt
rehuged_goes_on k n i segs part c (Some h) = either AreOfRuns (is_first i h) _ _ (sized_goes_on k n segs part c h (members k n i h)) tt

rehuged : (k : Known) (n segs part selector : ℕ) (c : Cpu) → AreOfRuns (huge_reallocation k n segs part selector c).changes
rehuged k n segs part selector c = rehuged_goes_on k n (selector / 8) segs part c (held_under k n selector)

made_of_runs : (k : Known) (n segs part count flags : ℕ) (o : Option ℕ) → AreOfRuns (huge_at k n segs part count flags o).changes
made_of_runs k n segs part count flags None = tt
made_of_runs k n segs part count flags (Some i) =
    of_runs_append _ _ (gifts_of_runs _ (member_gifts k.next i count flags ((n, 1) ∷ []) (indexes i (segments_of segs part)) (sizes_of segs part))) (tt, tt)

pub runs_change : (a : HugeArguments) (k : Known) (n : ℕ) (c : Cpu) → AreOfRuns (huge_ruling a k n c).changes
runs_change (Alloc segs part most flags) k n c =
    let wanted : ℕ = segments_of segs part in
    either AreOfRuns (is_huge_fault wanted most flags) _ _ tt
    (either AreOfRuns (nat_lt k.most (k.count + wanted)) _ _ tt (made_of_runs k n segs part (max wanted most) flags (free_run k (region_by n flags) (max wanted most))))
runs_change (Realloc segs part selector) k n c = rehuged k n segs part selector c
runs_change Shift k n c = tt

-- none ends a process
pub runs_go_on : (a : HugeArguments) (k : Known) (n : ℕ) (c : Cpu) → AreNoEnds (huge_ruling a k n c).changes
runs_go_on a k n c = of_runs_go_on (huge_ruling a k n c).changes (runs_change a k n c)
