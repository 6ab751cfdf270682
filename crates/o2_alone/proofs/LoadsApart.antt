-- What never changes is held by load, and what is held by load lies in no run: each step keeps that.
use Rattle.std.proofs.Common.{◌≡◌, ◌⊎◌, inl, inr, refl, sym, ◌∙◌, ap, subst, ℕ, zero, suc, ◌+◌, ◌-◌, ◌<◌, ◌≤◌, ◌/◌, ◌%◌, ◌==◌, ◌&&◌, ◌||◌, Bool, true, false, cond, List, [], ◌∷◌, ◌++◌, length, map, arith}
use Rattle.std.specs.Prelude.{Option, Some, None, option_map, is_some, slice_get, not, max, drop, nat_le, nat_lt}
use Rattle.std.specs.List.{list_any}
use Rattle.std.proofs.lemmas.Bool.{eqb-true, false≢true}
use Rattle.o2_conf.specs.Dispatch.{Dispatch}
use Rattle.o2_desc.specs.Bits.{has_bit}
use Rattle.o2_desc.specs.Choice.{chosen}
use Rattle.o2_isa.specs.declared.cpu.Cpu.{Cpu}
use Rattle.o2_world.specs.Map.{at_key, get, put}
use Rattle.o2_world.specs.World.{ByAlias, World, Setting, Process, Segment, Held, is_live}
use Rattle.o2_world.specs.Holders.{is_held, process_at, with_process}
use Rattle.o2_world.specs.Sound.{held_in, held_of}
use Rattle.o2_world.specs.Tied.{IsTied}
use Rattle.o2_world.specs.Known.{Known, Marks as SegmentMarks, held_at, holds_index, known_of, marks_of, reserves, taken_in}
use Rattle.o2_world.specs.CallParts.{Before, Effect}
use Rattle.o2_world.specs.Changes.{Change, Makes, Resizes, Locks, Marks, Holds, Drops, Finishes, Reserves, Frees, Names, fewer, marked, more, resized, swept, takes, with_change, with_changes}
use Rattle.o2_world.specs.Rulings.{Ruling, by_load, full_size, held_as_code, held_under, in_use, indexes, is_in_run, members, region_by}
use Rattle.o2_world.specs.SharedRulings.{marks_under, shared_from}
use Rattle.o2_world.specs.HugeRulings.{all_bytes, all_dropped, all_hold, bytes_of, dropped_members, flags_in, free_run, held_in_run, huge_allocation, huge_at}
use Rattle.o2_world.specs.HugeRulings.{huge_reallocation, huge_reallocation_of, is_first, is_huge_fault, is_unheld, left_in_run, new_members, other_shares}
use Rattle.o2_world.specs.HugeRulings.{resized_members, resized_one, run_changes, run_resized, segments_of, sizes_of}
use Rattle.o2_world.specs.Effect.{effect}
use Rattle.o2_world.specs.Run.{all_changes, before, changed, worked, working}
use Rattle.o2_world.specs.Moves.{AllMoves, AreOfRuling, Each, IsShared, Moves, NoneMoves, OfAllocation, OfNone, OfReallocation, OneAliased, OneLocked, OneMade, OneNamed, OneRemade, OneRun, OneSized, OwnMoves, SomeFreed, SomeShared}
use Rattle.o2_world.proofs.ByNumber.{IsOf, from_number}
use Rattle.o2_world.proofs.FitShares.{changes_are, held_each, share, shares_of}
use Rattle.o2_world.proofs.HugeMoves.{above_zero, at_most, chosen_run}
use Rattle.o2_world.proofs.MapLemmas.{get-at_key, get-filter, get-map}
use Rattle.o2_world.proofs.Keeps.{other_number}
use Rattle.o2_world.proofs.Numbers.{at_place_of, not_zero, number_some}
use Rattle.o2_world.proofs.Reached.{get-put}
use Rattle.o2_world.proofs.SegmentMoves.{held_there, indexes_from}
use Rattle.o2_world.proofs.StepMoves.{effect_moves}
use Rattle.o2_world.proofs.StepReach.{own_at}
use Rattle.o2_alone.specs.Keeping.{is_clean}
use Rattle.o2_alone.specs.Isolation.{AreLoadsApart, IsRunApart}
use Rattle.o2_alone.proofs.OwnNames.{IsGoodAlias, RunsMayChange, both_each, each_kept, indexes_to, may_change}
use Rattle.o2_alone.proofs.RenamedRuns.{no_other}
use Rattle.o2_alone.proofs.AnyNames.{AreOfAny, effect_of_any}

none_some : (h : Held) → ◌≡◌ {A = Option Held} None (Some h) → ⊥
none_some h e = cc

-- what a process holds in the stretch of a run may change
pub runs_may : (s : Setting) (w : World) (n : ℕ) (p : Process) → AreLoadsApart w → RunsMayChange (before s w n p)
runs_may s w n p loads i j h g m there run low high held known = by (get w.names g.name) refl known (loads.clean n j g held ((loads.runs n i h there run).loads n j g (inl refl) low high held))
  where
    by : (o : Option Segment) → get w.names g.name ≡ o → option_map marks_of o ≡ Some m → is_clean (get w.names g.name) ≡ false → may_change m ≡ true
    by None at e clean = cc
    by (Some x) at e clean =
        let is : marks_of x ≡ m = cc in
        let c : x.clean ≡ false = sym (ap is_clean at) ∙ clean in
        ap (λ (y : SegmentMarks). not y.clean) (sym is) ∙ ap not c

-- Holds that come.

-- one by call or alias, of what may change, and in no run with what is held by load
record IsGoodHold (w : World) (p i : ℕ) (h : Held) : Type 0 where
  called : by_load h.cause ≡ false
  name : is_clean (get w.names h.name) ≡ false
  run : is_in_run h ≡ true → IsRunApart w p i h

abbrev IsGoodChange : World → Change → Type 0
IsGoodChange w (Makes s) = s.clean ≡ false
IsGoodChange w (Resizes n size) = Unit {0}
IsGoodChange w (Locks n count) = Unit {0}
IsGoodChange w (Marks n discarded) = Unit {0}
IsGoodChange w (Holds p i h) = IsGoodHold w p i h
IsGoodChange w (Drops p i count) = Unit {0}
IsGoodChange w (Finishes p state) = Unit {0}
IsGoodChange w (Reserves r) = Unit {0}
IsGoodChange w (Frees region first) = Unit {0}
IsGoodChange w (Names text name) = Unit {0}

abbrev AreGoodChanges : World → List Change → Type 0
AreGoodChanges w [] = Unit {0}
AreGoodChanges w (c ∷ cs) = IsGoodChange w c × AreGoodChanges w cs

good_append : (w : World) (xs ys : List Change) → AreGoodChanges w xs → AreGoodChanges w ys → AreGoodChanges w (xs ++ ys)
good_append w [] ys a b = b
good_append w (x ∷ xs) ys a b = (a.0, good_append w xs ys a.1 b)

-- a run goes by its stretch alone
run_as : (w : World) (p i : ℕ) (h k : Held) → h.first ≡ k.first → h.reserved ≡ k.reserved → IsRunApart w p i h → IsRunApart w p i k
run_as w p i h k first count a = record {
  region = subst (λ (f : ℕ). f < 4096 → f + k.reserved ≤ 4096) first (subst (λ (c : ℕ). h.first < 4096 → h.first + c ≤ 4096) count a.region);
  shared = λ high. subst (λ (f : ℕ). 4096 ≤ f) first (a.shared high);
  loads = λ m j g near low high there. a.loads m j g near (omega (arith, first, low)) (omega (arith, first, count, high)) there;
}

module _ (s : Setting) (w : World) (n : ℕ) (p : Process) (at : process_at w.processes n ≡ Some p) (tied : IsTied w) (loads : AreLoadsApart w) where
  abbrev b : Before
  b = before s w n p

  abbrev k : Known
  k = known_of s w

  n_some : 0 < n
  n_some = number_some w.processes n p at

  -- a name that comes
  new_name : (m : ℕ) → w.next_name ≤ m → is_clean (get w.names m) ≡ false
  new_name m low = go (get w.names m) refl
    where
      go : (o : Option Segment) → get w.names m ≡ o → is_clean (get w.names m) ≡ false
      go None e = ap is_clean e
      go (Some x) e = absurd (let high = tied.below m (ap (λ (o : Option Segment). is_some o) e) in omega (arith, low, high))

  alone_good : (i : ℕ) (h : Held) → by_load h.cause ≡ false → is_clean (get w.names h.name) ≡ false → is_in_run h ≡ false → IsGoodHold w n i h
  alone_good i h called name out = record { called = called; name = name; run = λ run. absurd (false≢true (sym out ∙ run)) }

  -- an alias is of what can be written
  alias_good : (i : ℕ) (h : Held) → is_in_run h ≡ false → by_load h.cause ≡ false → IsGoodAlias b h → h.cause ≡ ByAlias → IsGoodHold w n i h
  alias_good i h out called good is = alone_good i h called (by (get w.names h.name) refl) out
    where
      by : (o : Option Segment) → get w.names h.name ≡ o → is_clean (get w.names h.name) ≡ false
      by None e = ap is_clean e
      by (Some x) e = ap is_clean e ∙ clean x.clean refl
        where
          clean : (t : Bool) → x.clean ≡ t → x.clean ≡ false
          clean false c = c
          clean true c =
              let a = good is in
              let held = ap (λ (o : Option Process). held_of o a.index) (at_place_of w.processes n p at) ∙ (sym (ap (λ (o : Option Process). held_of o a.index) at) ∙ a.there) in
              absurd (false≢true (sym (tied.clean (n - 1) a.index a.hold x held (ap (λ (m : ℕ). get w.names m) a.named ∙ e) c) ∙ a.writable))

  drops_good : (xs : List ℕ) → AreGoodChanges w (map (λ (i : ℕ). Drops n i 1) xs)
  drops_good [] = tt
  drops_good (i ∷ xs) = (tt, drops_good xs)

  -- what another process holds, and gives
  share_good : (from to i : ℕ) (x : IsShared k from i) → IsGoodHold w to i (share x.held)
  share_good from to i x = record {
    called = refl;
    name = loads.clean from i x.held x.there x.called;
    run = λ run.
        let a = loads.runs from i x.held x.there run in
        let high = a.shared x.high in
        record {
          region = a.region;
          shared = a.shared;
          loads = λ m j g near low less there. a.loads m j g (inr (omega (arith, high, low))) low less there;
        };
  }

  shares_good : (from to : ℕ) (xs : List ℕ) (shared : Each (IsShared k from) xs) → AreGoodChanges w (shares_of to (held_each k from xs shared))
  shares_good from to [] shared = tt
  shares_good from to (i ∷ xs) shared = (share_good from to i shared.0, shares_good from to xs shared.1)

  -- Runs.

  abbrev IsApartFor : (first count : ℕ) → ℕ → ℕ → Type 0
  IsApartFor first count q i = IsRunApart w q i (held_in_run 0 first count 1)

  abbrev AllApart : (first count : ℕ) → List (ℕ × ℕ) → ℕ → Type 0
  AllApart first count [] i = Unit {0}
  AllApart first count (q ∷ qs) i = IsApartFor first count q.0 i × AllApart first count qs i

  holds_good : (name first count i : ℕ) (qs : List (ℕ × ℕ)) → w.next_name ≤ name → AllApart first count qs i → AreGoodChanges w (all_hold name first count i qs)
  holds_good name first count i [] low apart = tt
  holds_good name first count i (q ∷ qs) low apart = (
    record { called = refl; name = new_name name low; run = λ run. run_as w q.0 i (held_in_run 0 first count 1) (held_in_run name first count q.1) refl refl apart.0 },
    holds_good name first count i qs low apart.1,
  )

  new_good : (first count flags : ℕ) (qs : List (ℕ × ℕ)) (is zs : List ℕ) (name : ℕ) → w.next_name ≤ name → Each (AllApart first count qs) is → AreGoodChanges w (new_members name first count flags qs is zs)
  new_good first count flags qs [] zs name low apart = tt
  new_good first count flags qs (i ∷ is) [] name low apart = tt
  new_good first count flags qs (i ∷ is) (z ∷ zs) name low apart = (
    refl,
    good_append w (all_hold name first count i qs) (new_members (name + 1) first count flags qs is zs) (holds_good name first count i qs low apart.0)
        (new_good first count flags qs is zs (name + 1) (omega (arith, low)) apart.1),
  )

  -- a stretch that is found free
  right_false : (x y : Bool) → (x || y) ≡ false → x ≡ false
  right_false true y e = e
  right_false false y e = refl

  nobody : (i : ℕ) → holds_index w.processes i ≡ false → (q : ℕ) (h : Held) → held_at w.processes q i ≡ Some h → ⊥
  nobody i none q h there = false≢true (sym none ∙ any w.processes (q - 1) (to_place w.processes q i h there))
    where
      to_place : (ps : List Process) (n i : ℕ) (h : Held) → held_at ps n i ≡ Some h → held_in ps (n - 1) i ≡ Some h
      to_place ps n i h e = go (n == 0) e
        where
          go : (t : Bool) → held_of (cond t None (slice_get ps (n - 1))) i ≡ Some h → held_of (slice_get ps (n - 1)) i ≡ Some h
          go true q = absurd (none_some h q)
          go false q = q

      any : (ps : List Process) (place : ℕ) → held_in ps place i ≡ Some h → holds_index ps i ≡ true
      any [] place e = absurd (none_some h e)
      any (x ∷ ps) zero e = ap (λ (o : Option Held). is_some o || holds_index ps i) e
      any (x ∷ ps) (suc place) e = or_right (is_some (get x.held i)) (holds_index ps i) (any ps place e)
        where
          or_right : (x y : Bool) → y ≡ true → (x || y) ≡ true
          or_right true y e = refl
          or_right false y e = e

  free_apart : (flags count first : ℕ) → 0 < count → free_run k (region_by n flags) count ≡ Some first → (i : ℕ) → first ≤ i → i < first + count → IsApartFor first count n i
  free_apart flags count first positive e i low high = go (flags % 4 == 0) e
    where
      shared_one : chosen (taken_in w 0) 4096 8192 count ≡ Some first → IsApartFor first count n i
      shared_one f =
          let run = chosen_run (taken_in w 0) 4096 8192 count first f in
          let start = run.from in
          record {
            region = λ less. absurd (omega (arith, less, start));
            shared = λ _. start;
            loads = λ m j g near l h there. absurd (nobody j (right_false (holds_index w.processes j) (list_any (reserves 0 j) w.reserved) (run.free j l h)) m g there);
          }

      own_one : chosen (taken_in w n) 1 4096 count ≡ Some first → IsApartFor first count n i
      own_one f =
          let run = chosen_run (taken_in w n) 1 4096 count first f in
          let end = run.below in
          record {
            region = λ _. end;
            shared = λ big. absurd (omega (arith, big, high, end));
            loads = λ m j g near l h there. absurd (not_held j (run.free j l h) m g (own m j near (omega (arith, h, end))) there);
          }
        where
          own : (m j : ℕ) → (m ≡ n) ⊎ (4096 ≤ j) → j < 4096 → m ≡ n
          own m j (inl is) l = is
          own m j (inr big) l = absurd (omega (arith, big, l))

          not_held : (j : ℕ) → taken_in w n j ≡ false → (m : ℕ) (g : Held) → m ≡ n → held_at w.processes m j ≡ Some g → ⊥
          not_held j free m g is there =
              let none : is_some (held_at w.processes n j) ≡ false =
              sym (ap (λ (t : Bool). cond t (holds_index w.processes j) (is_some (held_at w.processes n j))) (not_zero n n_some)) ∙ right_false (cond (n == 0) (holds_index w.processes j) (is_some (held_at w.processes n j))) (list_any (reserves n j) w.reserved) free in
              false≢true (sym none ∙ (ap (λ (q : ℕ). is_some (held_at w.processes q j)) (sym is) ∙ ap (λ (o : Option Held). is_some o) there))

      own_by : (t : Bool) → (n == 0) ≡ t → cond t (chosen (taken_in w 0) 4096 8192 count) (chosen (taken_in w n) 1 4096 count) ≡ Some first → IsApartFor first count n i
      own_by true z f = absurd (false≢true (sym (not_zero n n_some) ∙ z))
      own_by false z f = own_one f

      go : (t : Bool) → cond (cond t n 0 == 0) (chosen (taken_in w 0) 4096 8192 count) (chosen (taken_in w (cond t n 0)) 1 4096 count) ≡ Some first → IsApartFor first count n i
      go true f = own_by (n == 0) refl f
      go false f = shared_one f

  rules : (t : Bool) (r q : Ruling) → (t ≡ true → AreGoodChanges w r.changes) → (t ≡ false → AreGoodChanges w q.changes) → AreGoodChanges w (cond t r q).changes
  rules true r q h k = h refl
  rules false r q h k = k refl

  allocation_good : (segs part most flags : ℕ) → AreGoodChanges w (huge_allocation k n segs part most flags).changes
  allocation_good segs part most flags =
      rules (is_huge_fault m most flags) _ _ (λ _. tt)
      (λ sound. rules (nat_lt k.most (k.count + m)) _ _ (λ _. tt) (λ _. at_index sound (free_run k (region_by n flags) (max m most)) refl))
    where
      m : ℕ
      m = segments_of segs part

      left_false : (x y : Bool) → (x || y) ≡ false → y ≡ false
      left_false true y e = cc
      left_false false y e = e

      some_member : is_huge_fault m most flags ≡ false → (m == 0) ≡ false
      some_member sound = right_false (m == 0) _ (left_false (has_bit flags 2) _ (left_false (nat_lt 15 flags) _ sound))

      at_index : is_huge_fault m most flags ≡ false → (o : Option ℕ) → free_run k (region_by n flags) (max m most) ≡ o → AreGoodChanges w (huge_at k n segs part (max m most) flags o).changes
      at_index sound None e = tt
      at_index sound (Some i) e =
          let few = at_most m most in
          good_append w (new_members k.next i (max m most) flags ((n, 1) ∷ []) (indexes i m) (sizes_of segs part)) _
          (new_good i (max m most) flags ((n, 1) ∷ []) (indexes i m) (sizes_of segs part) k.next (omega arith)
          (both_each (λ (j : ℕ). i ≤ j) (λ (j : ℕ). j < i + m) (AllApart i (max m most) ((n, 1) ∷ []))
          (λ j low high. (free_apart flags (max m most) i (above_zero m most (some_member sound)) e j low (omega (arith, high, few)), tt)) (indexes i m) (indexes_from i m) (indexes_to i m))) (tt, tt)

  sizes_good : (is zs : List ℕ) → AreGoodChanges w (resized_members k n is zs)
  sizes_good [] zs = tt
  sizes_good (i ∷ is) [] = tt
  sizes_good (i ∷ is) (z ∷ zs) = good_append w (resized_one z (k.held n i) (marks_under k (k.held n i))) (resized_members k n is zs) (one (k.held n i) (marks_under k (k.held n i))) (sizes_good is zs)
    where
      one : (o : Option Held) (m : Option SegmentMarks) → AreGoodChanges w (resized_one z o m)
      one None None = tt
      one None (Some m) = tt
      one (Some h) None = tt
      one (Some h) (Some m) = pick (m.size == full_size z)
        where
          pick : (t : Bool) → AreGoodChanges w (cond t [] (Resizes h.name (full_size z) ∷ []))
          pick true = tt
          pick false = (tt, tt)

  dropped_good : (is : List ℕ) → AreGoodChanges w (dropped_members k n is)
  dropped_good [] = tt
  dropped_good (i ∷ is) = good_append w (all_dropped n i (k.held n i)) (dropped_members k n is) (one (k.held n i)) (dropped_good is)
    where
      one : (o : Option Held) → AreGoodChanges w (all_dropped n i o)
      one None = tt
      one (Some h) = (tt, tt)

  reallocation_good : (segs part selector : ℕ) → AreGoodChanges w (huge_reallocation k n segs part selector p.cpu).changes
  reallocation_good segs part selector = under (held_under k n selector) refl
    where
      under : (o : Option Held) → held_under k n selector ≡ o → AreGoodChanges w (huge_reallocation_of k n (selector / 8) segs part p.cpu o).changes
      under None e = tt
      under (Some h) e = rules (is_first (selector / 8) h) _ _ first (λ _. tt)
        where
          is : List ℕ
          is = members k n (selector / 8) h

          there : held_at w.processes n (selector / 8) ≡ Some h
          there = held_there k n selector h e

          in_run : (t : Bool) → (t && (h.first == selector / 8)) ≡ true → t ≡ true
          in_run true g = refl
          in_run false g = g

          -- who holds the run beside the caller shares it
          for_all : IsRunApart w n (selector / 8) h → (i : ℕ) → 4096 ≤ h.first → (qs : List (ℕ × ℕ)) → AllApart h.first h.reserved qs i
          for_all apart i big [] = tt
          for_all apart i big (q ∷ qs) = (
            record {
              region = apart.region;
              shared = λ _. big;
              loads = λ m j g near l less held. apart.loads m j g (inr (omega (arith, big, l))) l less held;
            },
            for_all apart i big qs,
          )

          big_of : (c : ℕ) → nat_le 4096 c ≡ true → 4096 ≤ c
          big_of c f = grind arith

          others : IsRunApart w n (selector / 8) h → (i : ℕ) → (t : Bool) → nat_le shared_from h.first ≡ t → AllApart h.first h.reserved (other_shares k n h.first) i
          others apart i true f = for_all apart i (big_of h.first f) (other_shares k n h.first)
          others apart i false f = subst (λ (qs : List (ℕ × ℕ)). AllApart h.first h.reserved qs i) (sym (no_other k n h.first f)) tt

          small : (f i c : ℕ) → (f < 4096 → f + c ≤ 4096) → i < f + c → 4096 ≤ i → (t : Bool) → nat_lt f 4096 ≡ t → 4096 ≤ f
          small f i c region less large false e = large_of f e
            where
              large_of : (f : ℕ) → nat_lt f 4096 ≡ false → 4096 ≤ f
              large_of f e = grind arith
          small f i c region less large true e = (let end = region (small_of f e) in absurd (omega (arith, end, large, less)))
            where
              small_of : (f : ℕ) → nat_lt f 4096 ≡ true → f < 4096
              small_of f e = grind arith

          member : IsRunApart w n (selector / 8) h → (i : ℕ) → i < h.first + h.reserved → IsApartFor h.first h.reserved n i
          member apart i high = record {
            region = apart.region;
            shared = λ large. small h.first i h.reserved apart.region high large (nat_lt h.first 4096) refl;
            loads = apart.loads;
          }

          granted : IsRunApart w n (selector / 8) h → AreGoodChanges w (run_changes k n h is (sizes_of segs part))
          granted apart =
              good_append w (resized_members k n is (sizes_of segs part)) _ (sizes_good is (sizes_of segs part))
              (good_append w (new_members k.next h.first h.reserved (flags_in (k.segment h.name)) ((n, h.holds) ∷ other_shares k n h.first) (left_in_run k n h) (drop (length is) (sizes_of segs part))) _
              (new_good h.first h.reserved (flags_in (k.segment h.name)) ((n, h.holds) ∷ other_shares k n h.first) (left_in_run k n h) (drop (length is) (sizes_of segs part)) k.next (omega arith)
              (each_kept (AllApart h.first h.reserved ((n, h.holds) ∷ other_shares k n h.first)) (is_unheld k n) (indexes h.first h.reserved)
              (both_each (λ (j : ℕ). h.first ≤ j) (λ (j : ℕ). j < h.first + h.reserved) (AllApart h.first h.reserved ((n, h.holds) ∷ other_shares k n h.first))
              (λ j low high. (member apart j high, others apart j (nat_le shared_from h.first) refl)) (indexes h.first h.reserved) (indexes_from h.first h.reserved) (indexes_to h.first h.reserved))))
              (dropped_good (drop (length (sizes_of segs part)) is)))

          first : is_first (selector / 8) h ≡ true → AreGoodChanges w (run_resized k n segs part p.cpu h is).changes
          first f =
              rules (segments_of segs part == 0) _ _ (λ _. tt)
              (λ _. rules (nat_lt h.reserved (segments_of segs part)) _ _ (λ _. tt)
              (λ _. rules ((nat_le shared_from h.first && nat_lt (bytes_of segs part) (all_bytes k n is)) || in_use p.cpu (drop (segments_of segs part) is)) _ _ (λ _. tt)
              (λ _. rules (nat_lt k.most (k.count + (segments_of segs part - length is)) || nat_lt (length is + length (left_in_run k n h)) (segments_of segs part)) _ _ (λ _. tt)
              (λ _. granted (loads.runs n (selector / 8) h there (in_run (is_in_run h) f))))))

  ruled_good : (cs : List Change) → AreOfRuling b cs → AreGoodChanges w cs
  ruled_good cs (OfNone is) = subst (AreGoodChanges w) (sym is) tt
  ruled_good cs (OfAllocation segs part most flags is) = subst (AreGoodChanges w) (sym is) (allocation_good segs part most flags)
  ruled_good cs (OfReallocation segs part selector is) = subst (AreGoodChanges w) (sym is) (reallocation_good segs part selector)

  moves_good : (cpu : Cpu) (cs : List Change) → AreOfAny b cs → Moves b cpu cs → AreGoodChanges w cs
  moves_good cpu cs any (NoneMoves is) = subst (AreGoodChanges w) (sym is) tt
  moves_good cpu cs any (OneMade size flags i free is) = subst (AreGoodChanges w) (sym is) (refl, (alone_good i _ refl (new_name w.next_name (omega arith)) refl, tt))
  moves_good cpu cs any (OneSized name size alone is) = subst (AreGoodChanges w) (sym is) (tt, tt)
  moves_good cpu cs any (OneRemade name size alone is) = subst (AreGoodChanges w) (sym is) (tt, (tt, (tt, tt)))
  moves_good cpu cs any (OneLocked name count lockable is) = subst (AreGoodChanges w) (sym is) (tt, tt)
  moves_good cpu cs any (OneAliased index i held there alone free is) =
      subst (AreGoodChanges w) (sym is) (alias_good i (held_as_code held.name) refl refl (subst (AreOfAny b) is any).0 refl, tt)
  moves_good cpu cs any (SomeFreed xs frees is) = subst (AreGoodChanges w) (sym is) (drops_good xs)

  all_good : (cpu : Cpu) (cs : List Change) → AreOfAny b cs → AllMoves b cpu cs → AreGoodChanges w cs
  all_good cpu cs any (OwnMoves moves) = moves_good cpu cs any moves
  all_good cpu cs any (OneNamed size i name free is) = subst (AreGoodChanges w) (sym is) (refl, (alone_good i _ refl (new_name w.next_name (omega arith)) refl, (tt, tt)))
  all_good cpu cs any (SomeShared from to xs shares is) =
      subst (AreGoodChanges w) (sym (is ∙ changes_are k from to xs shares.shared)) (shares_good from to xs shares.shared)
  all_good cpu cs any (OneRun moves ruled) = ruled_good cs ruled

  abbrev e : Effect
  e = effect b

  effect_good : AreGoodChanges w (all_changes n e)
  effect_good = go (is_live e.state)
    where
      own : AreGoodChanges w e.changes
      own = all_good e.cpu e.changes (effect_of_any b (runs_may s w n p loads)) (effect_moves b)

      go : (t : Bool) → AreGoodChanges w (cond t e.changes (e.changes ++ Finishes n e.state ∷ []))
      go true = own
      go false = good_append w e.changes (Finishes n e.state ∷ []) own (tt, tt)

-- Behind changes.

-- what is held by load was held by load, and what is held otherwise is good
record IsKept (w : World) (n i : ℕ) (h : Held) : Type 0 where
  load : by_load h.cause ≡ true → (g : Held) × ((held_at w.processes n i ≡ Some g) × (by_load g.cause ≡ true))
  name : by_load h.cause ≡ false → is_clean (get w.names h.name) ≡ false
  run : is_in_run h ≡ true → IsRunApart w n i h

kept_as : (w : World) (n i : ℕ) (h k : Held) → h.cause ≡ k.cause → h.name ≡ k.name → h.first ≡ k.first → h.reserved ≡ k.reserved → IsKept w n i h → IsKept w n i k
kept_as w n i h k cause name first count x = record {
  load = λ l. x.load (ap by_load cause ∙ l);
  name = λ c. subst (λ (m : ℕ). is_clean (get w.names m) ≡ false) name (x.name (ap by_load cause ∙ c));
  run = λ r. run_as w n i h k first count (x.run (ap (λ (c : ℕ). not (c == 0)) count ∙ r));
}

good_kept : (w : World) (n i : ℕ) (h : Held) → IsGoodHold w n i h → IsKept w n i h
good_kept w n i h g = record { load = λ l. absurd (false≢true (sym g.called ∙ l)); name = λ c. g.name; run = g.run }

-- of a world behind changes of w
record AreKept (w u : World) : Type 0 where
  each : (n i : ℕ) (h : Held) → held_at u.processes n i ≡ Some h → IsKept w n i h
  names : (q : ℕ) → is_clean (get w.names q) ≡ false → is_clean (get u.names q) ≡ false

clean_map : (g : Segment → Segment) (o : Option Segment) → ((x : Segment) → (g x).clean ≡ x.clean) → is_clean o ≡ false → is_clean (option_map g o) ≡ false
clean_map g None same e = e
clean_map g (Some x) same e = same x ∙ e

clean_pick : (b : Bool) (o p : Option Segment) → is_clean o ≡ false → is_clean p ≡ false → is_clean (cond b o p) ≡ false
clean_pick true o p h k = h
clean_pick false o p h k = k

module _ (w : World) where
  abbrev Kept : World → Type 0
  Kept u = AreKept w u

  key_kept : (u : World) (n : ℕ) (g : Segment → Segment) → ((x : Segment) → (g x).clean ≡ x.clean) → Kept u → (q : ℕ) → is_clean (get w.names q) ≡ false → is_clean (get (at_key n g u.names) q) ≡ false
  key_kept u n g same kept q e =
      subst (λ (o : Option Segment). is_clean o ≡ false) (sym (get-at_key n q g u.names)) (by (n == q) refl)
    where
      by : (t : Bool) → (n == q) ≡ t → is_clean (cond t (option_map g (get u.names n)) (get u.names q)) ≡ false
      by false f = kept.names q e
      by true f = clean_map g (get u.names n) same (ap (λ (m : ℕ). is_clean (get u.names m)) (eqb-true n q f) ∙ kept.names q e)

  of_more : (u : World) (p j n i : ℕ) (x h : Held) → Kept u → IsGoodHold w p j x → IsOf u.processes p n i (λ (y : Process). record y { held = put j (more x (get y.held j)) y.held }) h → IsKept w n i h
  of_more u p j n i x h kept good o = pick (j == i) refl (get o.process.held j) refl (sym (get-put j i (more x (get o.process.held j)) o.process.held) ∙ o.is)
    where
      old : (l : ℕ) (g : Held) → get o.process.held l ≡ Some g → IsKept w n l g
      old l g there = kept.each n l g (ap (λ (z : Option Process). held_of z l) o.there ∙ there)

      pick : (t : Bool) → (j == i) ≡ t → (v : Option Held) → get o.process.held j ≡ v → cond t (more x v) (get o.process.held i) ≡ Some h → IsKept w n i h
      pick false f v there is = old i h is
      pick true f None there is =
          let same : j ≡ i = eqb-true j i f in
          let new : x ≡ h = cc in
          subst (λ (y : Held). IsKept w n i y) new (good_kept w n i x (subst (λ (l : ℕ). IsGoodHold w n l x) same (subst (λ (q : ℕ). IsGoodHold w q j x) (sym o.same) good)))
      pick true f (Some g) there is =
          let same : j ≡ i = eqb-true j i f in
          let new : record g { holds = g.holds + x.holds } ≡ h = cc in
          kept_as w n i g h (ap (λ (y : Held). y.cause) new) (ap (λ (y : Held). y.name) new) (ap (λ (y : Held). y.first) new) (ap (λ (y : Held). y.reserved) new)
          (old i g (ap (get o.process.held) (sym same) ∙ there))

  of_fewer : (u : World) (p j count n i : ℕ) (h : Held) → Kept u → IsOf u.processes p n i (λ (y : Process). record y { held = put j (fewer count (get y.held j)) y.held }) h → IsKept w n i h
  of_fewer u p j count n i h kept o = pick (j == i) refl (get o.process.held j) refl (sym (get-put j i (fewer count (get o.process.held j)) o.process.held) ∙ o.is)
    where
      old : (l : ℕ) (g : Held) → get o.process.held l ≡ Some g → IsKept w n l g
      old l g there = kept.each n l g (ap (λ (z : Option Process). held_of z l) o.there ∙ there)

      left : (g : Held) → IsKept w n i g → (t : Bool) → cond t (Some (record g { holds = g.holds - count })) None ≡ Some h → IsKept w n i h
      left g x false is = absurd (none_some h is)
      left g x true is =
          let new : record g { holds = g.holds - count } ≡ h = cc in
          kept_as w n i g h (ap (λ (y : Held). y.cause) new) (ap (λ (y : Held). y.name) new) (ap (λ (y : Held). y.first) new) (ap (λ (y : Held). y.reserved) new) x

      pick : (t : Bool) → (j == i) ≡ t → (v : Option Held) → get o.process.held j ≡ v → cond t (fewer count v) (get o.process.held i) ≡ Some h → IsKept w n i h
      pick false f v there is = old i h is
      pick true f None there is = absurd (none_some h is)
      pick true f (Some g) there is = left g (old i g (ap (get o.process.held) (sym (eqb-true j i f)) ∙ there)) (nat_lt count g.holds) is

  marked_clean : (d : Bool) (x : Segment) → (marked d x).clean ≡ x.clean
  marked_clean true x = refl
  marked_clean false x = refl

  kept_change : (c : Change) (u : World) → IsGoodChange w c → Kept u → Kept (with_change u c)
  kept_change (Makes s) u good kept = record {
    each = kept.each;
    names = λ q e. subst (λ (o : Option Segment). is_clean o ≡ false) (sym (get-put u.next_name q (Some s) u.names)) (clean_pick (u.next_name == q) (Some s) (get u.names q) good (kept.names q e));
  }
  kept_change (Resizes n size) u good kept = record { each = kept.each; names = key_kept u n (λ (s : Segment). record s { bytes = resized size s.bytes }) (λ x. refl) kept }
  kept_change (Locks n count) u good kept = record { each = kept.each; names = key_kept u n (λ (s : Segment). record s { lock = count }) (λ x. refl) kept }
  kept_change (Marks n discarded) u good kept = record { each = kept.each; names = key_kept u n (marked discarded) (marked_clean discarded) kept }
  kept_change (Holds p j x) u good kept = record { each = λ n i h is. by n i h (from_number u.processes p n i (λ (y : Process). record y { held = put j (more x (get y.held j)) y.held }) h is); names = kept.names }
    where
      by : (n i : ℕ) (h : Held) → (held_at u.processes n i ≡ Some h) ⊎ IsOf u.processes p n i (λ (y : Process). record y { held = put j (more x (get y.held j)) y.held }) h → IsKept w n i h
      by n i h (inl there) = kept.each n i h there
      by n i h (inr o) = of_more u p j n i x h kept good o
  kept_change (Drops p j count) u good kept = record { each = λ n i h is. by n i h (from_number u.processes p n i (λ (y : Process). record y { held = put j (fewer count (get y.held j)) y.held }) h is); names = kept.names }
    where
      by : (n i : ℕ) (h : Held) → (held_at u.processes n i ≡ Some h) ⊎ IsOf u.processes p n i (λ (y : Process). record y { held = put j (fewer count (get y.held j)) y.held }) h → IsKept w n i h
      by n i h (inl there) = kept.each n i h there
      by n i h (inr o) = of_fewer u p j count n i h kept o
  kept_change (Finishes p state) u good kept = record { each = λ n i h is. by n i h (from_number u.processes p n i (λ (y : Process). record y { state = state; held = [] }) h is); names = kept.names }
    where
      by : (n i : ℕ) (h : Held) → (held_at u.processes n i ≡ Some h) ⊎ IsOf u.processes p n i (λ (y : Process). record y { state = state; held = [] }) h → IsKept w n i h
      by n i h (inl there) = kept.each n i h there
      by n i h (inr o) = absurd (none_some h o.is)
  kept_change (Reserves r) u good kept = record { each = kept.each; names = kept.names }
  kept_change (Frees region first) u good kept = record { each = kept.each; names = kept.names }
  kept_change (Names text name) u good kept = record { each = kept.each; names = kept.names }

  kept_changes : (cs : List Change) (u : World) → AreGoodChanges w cs → Kept u → Kept (with_changes u cs)
  unfolding with_changes
  kept_changes [] u good kept = kept
  kept_changes (c ∷ cs) u good kept = kept_changes cs (with_change u c) good.1 (kept_change c u good.0 kept)

  kept_swept : (b : Bool) (u : World) → Kept u → Kept (cond b (swept u) u)
  kept_swept false u kept = kept
  kept_swept true u kept = record {
    each = kept.each;
    names = λ q e. subst (λ (o : Option Segment). is_clean o ≡ false) (sym (get-filter (is_held u.processes) u.names q)) (clean_pick (is_held u.processes q) (get u.names q) None (kept.names q e) refl);
  }

  -- behind all of them the law holds again
  kept_apart : (u : World) → Kept u → AreLoadsApart u
  kept_apart u kept = record {
    clean = λ n i h there called. kept.names h.name ((kept.each n i h there).name called);
    runs = λ n i h there run. let a = (kept.each n i h there).run run in record {
      region = a.region;
      shared = a.shared;
      loads = λ m j g near low high held. by m j g (a.loads m j) near low high (kept.each m j g held) (by_load g.cause) refl;
    };
  }
    where
      by : {X Y Z : Type 0} (m j : ℕ) (g : Held) → ((g : Held) → X → Y → Z → held_at w.processes m j ≡ Some g → by_load g.cause ≡ false) → X → Y → Z → IsKept w m j g → (t : Bool) → by_load g.cause ≡ t → by_load g.cause ≡ false
      by m j g none x y z k false f = f
      by m j g none x y z k true f = (let l = k.load f in absurd (false≢true (sym (none l.0 x y z l.1.0) ∙ l.1.1)))

-- A step keeps the law.
pub apart_step : (s : Setting) (w : World) (d : Dispatch) (p : Process) → process_at w.processes d.current ≡ Some p → IsTied w → AreLoadsApart w → AreLoadsApart (changed w d p (effect (before s w d.current p)))
unfolding changed
apart_step s w d p at tied loads =
    kept_apart w (cond (list_any takes (all_changes n e)) (swept v) v)
    (kept_swept w (list_any takes (all_changes n e)) v (kept_changes w (all_changes n e) (worked w d p e) (effect_good s w n p at tied loads) begins))
  where
    n : ℕ
    n = d.current

    e : Effect
    e = effect (before s w d.current p)

    v : World
    v = with_changes (worked w d p (effect (before s w d.current p))) (all_changes d.current (effect (before s w d.current p)))

    other_at : (ps : List Process) (k : ℕ) (q : Process) (m : ℕ) → (m == k) ≡ false → process_at (with_process ps k q) m ≡ process_at ps m
    other_at ps k q m f = by (m == 0) refl
      where
        apart : (m == 0) ≡ false → m - 1 + 1 ≡ k → ⊥
        apart z is = different m k f z is
          where
            different : (m k : ℕ) → (m == k) ≡ false → (m == 0) ≡ false → m - 1 + 1 ≡ k → ⊥
            different m k f z is = grind arith

        by : (t : Bool) → (m == 0) ≡ t → cond t None (slice_get (with_process ps k q) (m - 1)) ≡ cond t None (slice_get ps (m - 1))
        by true z = refl
        by false z = other_number ps k q (m - 1) (apart z)

    -- what processes hold is the same before the changes
    held_now : (m i : ℕ) (h : Held) → held_at (worked w d p e).processes m i ≡ Some h → held_at w.processes m i ≡ Some h
    held_now m i h is = go (m == n) refl
      where
        go : (t : Bool) → (m == n) ≡ t → held_at w.processes m i ≡ Some h
        go true f =
            let same : m ≡ n = eqb-true m n f in
            let own : held_at (worked w d p e).processes n i ≡ get p.held i = ap (λ (o : Option Process). held_of o i) (own_at w.processes n p (working p e) at) in
            ap (λ (q : ℕ). held_at w.processes q i) same ∙ (ap (λ (o : Option Process). held_of o i) at ∙ (sym own ∙ (ap (λ (q : ℕ). held_at (worked w d p e).processes q i) (sym same) ∙ is)))
        go false f = sym (ap (λ (o : Option Process). held_of o i) (other_at w.processes n (working p e) m f)) ∙ is

    begins : AreKept w (worked w d p e)
    begins = record {
      each = λ m i h is. let there = held_now m i h is in record {
        load = λ l. (h, (there, l));
        name = λ c. loads.clean m i h there c;
        run = λ r. loads.runs m i h there r;
      };
      names = λ q c. subst (λ (o : Option Segment). is_clean o ≡ false) (sym (get-map (λ (k : ℕ) (z : Segment). record z { bytes = e.bytes k }) w.names q)) (clean_map (λ (z : Segment). record z { bytes = e.bytes q }) (get w.names q) (λ x. refl) c);
    }
