-- The members of a run are freed one by one.
use Rattle.std.proofs.Common.{◌≡◌, ◌≢◌, inl, ℕ, zero, suc, ◌+◌, ◌-◌, ◌<◌, ◌≤◌, ◌==◌, ◌&&◌, ◌||◌, nat_le, nat_lt, not, Bool, true, false, cond, List, [], ◌∷◌, ◌++◌, map}
use Rattle.std.proofs.Common.{filter, max, min, Option, Some, None, IsSome, is_some, option_map, if◌then◌else◌, refl, sym, ap, ◌∙◌, subst, arith}
use Rattle.std.specs.List.{list_any}
use Rattle.std.proofs.lemmas.Bool.{eq-eqb, false≢true, ne_eqb}
use Rattle.o2_regions.specs.declared.held.Held.{Held as HeldThere}
use Rattle.o2_regions.specs.Maps.{Maps, held_at, less_of, region_of}
use Rattle.o2_entries.specs.declared.Entry.{Entry}
use Rattle.o2_entries.specs.Tables.{slot_at}
use Rattle.o2_place.specs.declared.seg_id.SegId.{SegId}
use Rattle.o2_store.specs.Shelf.{Shelf, aged, entry_or}
use Rattle.o2_segs.proofs.Sharing.{aged_there, gone_lived}
use Rattle.o2_world.specs.Map.{Map, get}
use Rattle.o2_world.specs.Changes.{Change, Drops, at_number, fewer, with_change, with_changes}
use Rattle.o2_world.specs.Holders.{is_held, kept, process_at}
use Rattle.o2_world.specs.Known.{held_at as world_held, reserves}
use Rattle.o2_world.specs.Rulings.{indexes}
use Rattle.o2_world.specs.World.{Held, Process, Reserve, Segment, World}
use Rattle.o2_world.proofs.MapLemmas.{get-filter}
use Rattle.o2_world.proofs.TiedWorld.{with_more}
use Rattle.o2_stands.specs.Parts.{Parts, held_in, held_of}
use Rattle.o2_stands.specs.Runs.{IsInStretch, IsMemberOf}
use Rattle.o2_segbus.specs.Seen.{key_of}
use Rattle.o2_stands.specs.Stands.{IsNamed, IsTidy, Matches, number_of, region_at}
use Rattle.o2_stands.proofs.Puts.{held_put, put_at, there_put, with_map}
use Rattle.o2_stands.proofs.RunSteps.{member_region, stretch_reserves}
use Rattle.o2_changes.specs.Holding.{Goes, Remains, Sweeps, Takes, TakesSome, less_by}
use Rattle.o2_changes.specs.Worlds.{MatchesLoss, lost}
use Rattle.o2_changes.proofs.Settling.{Here, IsPair, Other, pair_is}
use Rattle.o2_changes.proofs.Worlds.{name_held, name_holder}
use Rattle.o2_segs.specs.Members.{MatchesBelow, MatchesMembers, TakesBelow, TakesRun, below_drops, below_in, end_in, is_below, with_names_kept}

-- One index more.

one_more : (h : HeldThere) (k j : ℕ) → h.first ≤ k → is_below h (k + 1) j ≡ ((j == k) || is_below h k j)
one_more h k j low = go h.first k j low
  where
    go : (f k j : ℕ) → f ≤ k → (nat_le f j && nat_lt j (k + 1)) ≡ ((j == k) || (nat_le f j && nat_lt j k))
    go f k j l = grind arith

not_yet : (h : HeldThere) (k : ℕ) → is_below h k k ≡ false
not_yet h k = go h.first k
  where
    go : (f k : ℕ) → (nat_le f k && nat_lt k k) ≡ false
    go f k = grind arith

pub none_below : (m : Maps) (pid : ℕ) (h : HeldThere) → TakesBelow m m pid h h.first
none_below m pid h = record {
  processes = refl;
  held = λ q j. ap (λ (b : Bool). if b then less_by 1 (held_at m q j) else held_at m q j) (sym (never (q == pid) j));
  rights = λ q j s. refl;
}
  where
    empty : (f j : ℕ) → (nat_le f j && nat_lt j f) ≡ false
    empty f j = grind arith

    no_and : (a : Bool) → (a && false) ≡ false
    no_and true = refl
    no_and false = refl

    never : (a : Bool) (j : ℕ) → (a && is_below h h.first j) ≡ false
    never a j = ap (λ (b : Bool). a && b) (empty h.first j) ∙ no_and a

pub one_taken : (m n : Maps) (pid i : ℕ) → TakesSome m n pid i 1 → Takes m n pid i
one_taken m n pid i t = record {
  processes = t.processes;
  held = λ q j. t.held q j ∙ ap (λ (o : Option HeldThere). if (q == pid) && (j == i) then o else held_at m q j) (less_one (held_at m pid i));
  rights = t.rights;
}
  where
    less_one : (o : Option HeldThere) → less_by 1 o ≡ less_of o
    less_one None = refl
    less_one (Some was) = refl

-- where nothing is held, none goes
pub none_taken : (m : Maps) (pid i : ℕ) → held_at m pid i ≡ None → TakesSome m m pid i 1
none_taken m pid i e = record {
  processes = refl;
  held = λ q j. elim (pair_is q j pid i) [
    | Other apart u ↦ sym (ap (λ (c : Bool). if c then less_by 1 (held_at m pid i) else held_at m q j) u)
    | Here c d u ↦ ap (λ (x : ℕ). held_at m x j) c ∙ (ap (held_at m pid) d ∙ (e ∙ (sym (ap (less_by 1) e) ∙ sym (ap (λ (b : Bool). if b then less_by 1 (held_at m pid i) else held_at m q j) u))))
  ];
  rights = λ q j s. refl;
}

-- what lives behind a sweep lived before it
pub swept_lives : (s t : Shelf) (m : Maps) (id : SegId) → Sweeps s t m id → (k : ℕ) → IsSome (slot_at t.entries k) → IsSome (slot_at s.entries k)
swept_lives s t m id (Remains q j there same) k some = subst (λ (x : Shelf). IsSome (slot_at x.entries k)) same some
swept_lives s t m id (Goes none removes) k some =
    let age : ℕ = (entry_or (slot_at t.entries k)).age in
    aged_there age (slot_at s.entries k) (gone_lived s t id.key removes (record { key = k; age = age }) (aged_self (slot_at t.entries k) some))
  where
    aged_self : (o : Option Entry) → IsSome o → IsSome (aged (entry_or o).age o)
    aged_self None s = absurd (false≢true s)
    aged_self (Some e) s = ap (λ (b : Bool). is_some (cond b (Some e) None)) (eq-eqb e.age e.age refl)

-- the one at the next index goes too
pub below_more : (m n o : Maps) (pid k : ℕ) (h : HeldThere) → h.first ≤ k → TakesBelow m n pid h k → TakesSome n o pid k 1 → TakesBelow m o pid h (k + 1)
below_more m n o pid k h low a b = record {
  processes = b.processes ∙ a.processes;
  held = λ q j. b.held q j ∙ elim (pair_is q j pid k) [
    | Other apart u ↦ (ap (λ (c : Bool). if c then less_by 1 (held_at n pid k) else held_at n q j) u ∙ (a.held q j ∙ other q j (q == pid) (j == k) refl refl u))
    | Here c d u ↦ (ap (λ (e : Bool). if e then less_by 1 (held_at n pid k) else held_at n q j) u ∙ here q j c d)
  ];
  rights = λ q j s. b.rights q j s ∙ a.rights q j (before q j s);
}
  where
    some_before : (o : Option HeldThere) → IsSome (less_by 1 o) → IsSome o
    some_before None s = s
    some_before (Some x) s = refl

    before : (q j : ℕ) → IsSome (held_at o q j) → IsSome (held_at n q j)
    before q j s = elim (pair_is q j pid k) [
      | Other apart u ↦ subst (λ (x : Option HeldThere). IsSome x) (b.held q j ∙ ap (λ (c : Bool). if c then less_by 1 (held_at n pid k) else held_at n q j) u) s
      | Here c d u ↦ subst (λ (x : ℕ). IsSome (held_at n x j)) (sym c) (subst (λ (x : ℕ). IsSome (held_at n pid x)) (sym d)
          (some_before (held_at n pid k) (subst (λ (x : Option HeldThere). IsSome x) (b.held q j ∙ ap (λ (e : Bool). if e then less_by 1 (held_at n pid k) else held_at n q j) u) s)))
    ]

    other : (q j : ℕ) (x y : Bool) → (q == pid) ≡ x → (j == k) ≡ y → (x && y) ≡ false
        → (if (q == pid) && is_below h k j then less_by 1 (held_at m q j) else held_at m q j) ≡ (if (q == pid) && is_below h (k + 1) j then less_by 1 (held_at m q j) else held_at m q j)
    other q j false y e f g = rw e refl
    other q j true false e f g = rw (e, one_more h k j low, f) refl
    other q j true true e f g = absurd (false≢true (sym g))

    here : (q j : ℕ) → q ≡ pid → j ≡ k → less_by 1 (held_at n pid k) ≡ (if (q == pid) && is_below h (k + 1) j then less_by 1 (held_at m q j) else held_at m q j)
    here q j c d =
        let was : held_at n pid k ≡ held_at m pid k = a.held pid k ∙ (rw (eq-eqb pid pid refl, not_yet h k) refl) in
        ap (less_by 1) was
        ∙ (rw (eq-eqb q pid c, one_more h k j low, eq-eqb j k d) (ap (less_by 1) (ap (λ (x : ℕ). held_at m x k) (sym c) ∙ ap (held_at m q) (sym d))))

-- The members below the next index.

indexes_more : (a n : ℕ) → indexes a (n + 1) ≡ indexes a n ++ (a + n) ∷ []
indexes_more a zero = ap (λ (k : ℕ). k ∷ []) (omega arith)
indexes_more a (suc n) = ap (indexes a) (later n) ∙ ap (λ (is : List ℕ). a ∷ is) (indexes_more (a + 1) n ∙ ap (λ (k : ℕ). indexes (a + 1) n ++ k ∷ []) (behind a n))
  where
    later : (n : ℕ) → suc n + 1 ≡ suc (n + 1)
    later n = omega arith

    behind : (a n : ℕ) → a + 1 + n ≡ a + suc n
    behind a n = omega arith

filter_more : (f : ℕ → Bool) (is : List ℕ) (i : ℕ) → filter f (is ++ i ∷ []) ≡ filter f is ++ (if f i then i ∷ [] else [])
filter_more f [] i = go (f i)
  where
    go : (b : Bool) → cond b (i ∷ []) [] ≡ (if b then i ∷ [] else [])
    go true = refl
    go false = refl
filter_more f (j ∷ is) i = go (filter_more f is i) (f j)
  where
    go : filter f (is ++ i ∷ []) ≡ filter f is ++ (if f i then i ∷ [] else []) → (b : Bool) → cond b (j ∷ filter f (is ++ i ∷ [])) (filter f (is ++ i ∷ [])) ≡ cond b (j ∷ filter f is) (filter f is) ++ (if f i then i ∷ [] else [])
    go rest true = ap (λ (js : List ℕ). j ∷ js) rest
    go rest false = rest

pub below_next : (m : Maps) (pid k : ℕ) (h : HeldThere) → h.first ≤ k → below_in m pid h (k + 1) ≡ below_in m pid h k ++ (if is_some (held_at m pid k) then k ∷ [] else [])
below_next m pid k h low =
    let f : ℕ → Bool = λ (i : ℕ). is_some (held_at m pid i) in
    let n : k + 1 - h.first ≡ (k - h.first) + 1 = omega (arith, low) in
    let e : h.first + (k - h.first) ≡ k = omega (arith, low) in
    ap (λ (x : ℕ). filter f (indexes h.first x)) n
    ∙ (ap (filter f) (indexes_more h.first (k - h.first))
    ∙ (filter_more f (indexes h.first (k - h.first)) (h.first + (k - h.first))
    ∙ ap (λ (x : ℕ). below_in m pid h k ++ (if is_some (held_at m pid x) then x ∷ [] else [])) e))

-- A world in which they go, without the names that nobody holds any more.

all_in : (m : Maps) (pid : ℕ) (h : HeldThere) (k : ℕ) → h.first ≤ k → (x : Bool) → is_some (held_at m pid k) ≡ x
    → below_drops m pid h (k + 1) ≡ below_drops m pid h k ++ (if x then Drops pid k 1 ∷ [] else [])
all_in m pid h k low x e =
    ap (λ (is : List ℕ). map (λ (i : ℕ). Drops pid i 1) is) (below_next m pid k h low ∙ ap (λ (b : Bool). below_in m pid h k ++ (if b then k ∷ [] else [])) e)
    ∙ (mapped (below_in m pid h k) (if x then k ∷ [] else []) ∙ ap (λ (cs : List Change). below_drops m pid h k ++ cs) (one x))
  where
    mapped : (is js : List ℕ) → map (λ (i : ℕ). Drops pid i 1) (is ++ js) ≡ map (λ (i : ℕ). Drops pid i 1) is ++ map (λ (i : ℕ). Drops pid i 1) js
    mapped [] js = refl
    mapped (i ∷ is) js = ap (λ (cs : List Change). Drops pid i 1 ∷ cs) (mapped is js)

    one : (x : Bool) → map (λ (i : ℕ). Drops pid i 1) (if x then k ∷ [] else []) ≡ (if x then Drops pid k 1 ∷ [] else [])
    one true = refl
    one false = refl

drops_names : (w : World) (pid : ℕ) (is : List ℕ) → (with_changes w (map (λ (i : ℕ). Drops pid i 1) is)).names ≡ w.names
unfolding with_changes
drops_names w pid [] = refl
drops_names w pid (i ∷ is) = drops_names (with_change w (Drops pid i 1)) pid is

pub drops_reserved : (w : World) (pid : ℕ) (is : List ℕ) → (with_changes w (map (λ (i : ℕ). Drops pid i 1) is)).reserved ≡ w.reserved
unfolding with_changes
drops_reserved w pid [] = refl
drops_reserved w pid (i ∷ is) = drops_reserved (with_change w (Drops pid i 1)) pid is

drops_there : (w : World) (pid : ℕ) (is : List ℕ) (x : Process) → process_at w.processes pid ≡ Some x → (y : Process) × (process_at (with_changes w (map (λ (i : ℕ). Drops pid i 1) is)).processes pid ≡ Some y)
unfolding with_changes
drops_there w pid [] x at = (x, at)
drops_there w pid (i ∷ is) x at = drops_there (with_change w (Drops pid i 1)) pid is (with_map (put_at i (fewer 1)) x) (there_put w.processes pid (put_at i (fewer 1)) x at)

-- names that are kept are held
kept_held : (ps : List Process) (names : Map Segment) (q : ℕ) → is_some (get (kept ps names) q) ≡ true → is_held ps q ≡ true
kept_held ps names q e = go (is_held ps q) (ap is_some (sym (get-filter (is_held ps) names q)) ∙ e)
  where
    go : (b : Bool) → is_some (cond b (get names q) None) ≡ true → b ≡ true
    go true f = refl
    go false f = absurd (false≢true f)

-- what is held behind one drop more was held before it
still_held : (ps : List Process) (pid i : ℕ) (x : Process) → process_at ps pid ≡ Some x → (q : ℕ) → is_held (at_number pid (with_map (put_at i (fewer 1))) ps) q ≡ true → is_held ps q ≡ true
still_held ps pid i x at q e =
    let n = name_holder (at_number pid (with_map (put_at i (fewer 1))) ps) q e in
    subst (λ (k : ℕ). is_held ps k ≡ true) n.4 (go n.0 n.1 n.2 (pair_is n.0 n.1 pid i) (sym (held_put ps pid n.0 i n.1 (fewer 1) x at) ∙ n.3))
  where
    was : (o : Option Held) (h : Held) → fewer 1 o ≡ Some h → (k : Held) × ((o ≡ Some k) × (k.name ≡ h.name))
    was None h e = absurd (let z : ◌≡◌ {A = Option Held} None (Some h) = e in cc)
    was (Some k) h e = by (nat_lt 1 k.holds) e
      where
        by : (b : Bool) → (if b then Some (record k { holds = k.holds - 1 }) else None) ≡ Some h → (y : Held) × ((Some k ≡ Some y) × (y.name ≡ h.name))
        by true f = (let z : record k { holds = k.holds - 1 } ≡ h = cc in (k, (refl, ap (λ (y : Held). y.name) z)))
        by false f = absurd (let z : ◌≡◌ {A = Option Held} None (Some h) = f in cc)

    go : (a b : ℕ) (h : Held) → IsPair a b pid i → (if (a == pid) && (b == i) then fewer 1 (world_held ps pid i) else world_held ps a b) ≡ Some h → is_held ps h.name ≡ true
    go a b h (Other apart u) e = name_held ps a b h (ap (λ (c : Bool). if c then fewer 1 (world_held ps pid i) else world_held ps a b) (sym u) ∙ e)
    go a b h (Here c d u) e =
        let y = was (world_held ps pid i) h (ap (λ (z : Bool). if z then fewer 1 (world_held ps pid i) else world_held ps a b) (sym u) ∙ e) in
        subst (λ (k : ℕ). is_held ps k ≡ true) y.1.1 (name_held ps pid i y.0 y.1.0)

filter_filter : (f g : ℕ → Bool) → ((q : ℕ) → f q ≡ true → g q ≡ true) → (names : Map Segment) → filter (λ (e : ℕ × Segment). f e.0) (filter (λ (e : ℕ × Segment). g e.0) names) ≡ filter (λ (e : ℕ × Segment). f e.0) names
filter_filter f g sub [] = refl
filter_filter f g sub (e ∷ es) = go (filter_filter f g sub es) (g e.0) refl (f e.0) refl
  where
    go : filter (λ (x : ℕ × Segment). f x.0) (filter (λ (x : ℕ × Segment). g x.0) es) ≡ filter (λ (x : ℕ × Segment). f x.0) es → (a : Bool) → g e.0 ≡ a → (b : Bool) → f e.0 ≡ b
        → filter (λ (x : ℕ × Segment). f x.0) (cond (g e.0) (e ∷ filter (λ (x : ℕ × Segment). g x.0) es) (filter (λ (x : ℕ × Segment). g x.0) es)) ≡ cond (f e.0) (e ∷ filter (λ (x : ℕ × Segment). f x.0) es) (filter (λ (x : ℕ × Segment). f x.0) es)
    go ih true p true q = rw (p, q) (ap (λ (zs : Map Segment). e ∷ zs) ih)
    go ih true p false q = rw (p, q) ih
    go ih false p true q = absurd (false≢true (sym p ∙ sub e.0 q))
    go ih false p false q = rw (p, q) ih

-- one drop more of a world without names that nobody holds
lost_next : (w : World) (pid k : ℕ) (is : List ℕ) (x : Process) → process_at w.processes pid ≡ Some x
    → lost (with_names_kept w (map (λ (i : ℕ). Drops pid i 1) is)) pid k 1 ≡ with_names_kept w (map (λ (i : ℕ). Drops pid i 1) is ++ Drops pid k 1 ∷ [])
unfolding with_changes
lost_next w pid k is x at =
    let cs : List Change = map (λ (i : ℕ). Drops pid i 1) is in
    let v : World = with_changes w cs in
    let there = drops_there w pid is x at in
    let ps : List Process = (with_change v (Drops pid k 1)).processes in
    ap (λ (names : Map Segment). record (with_change v (Drops pid k 1)) { names = names })
    (filter_filter (is_held ps) (is_held v.processes) (still_held v.processes pid k there.0 there.1) v.names)
    ∙ ap (λ (u : World). record u { names = kept u.processes u.names }) (sym (with_more w cs (Drops pid k 1 ∷ [])))

-- a world's hold, by the maps
pub in_world : (p : Parts) (m : Maps) (w : World) (pid i : ℕ) (h : HeldThere) → p.maps ≡ m → Matches p w → held_at m pid i ≡ Some h → world_held w.processes pid i ≡ Some (held_of p.maps pid i h)
unfolding held_in
in_world p m w pid i h em q there = q.held pid i ∙ ap (option_map (held_of p.maps pid i)) (ap (λ (y : Maps). held_at y pid i) em ∙ there)

pub in_run : (h : HeldThere) → h.reserved ≢ 0 → not (h.reserved == 0) ≡ true
in_run h run = ap not (ne_eqb h.reserved 0 run)

-- each index of its stretch is reserved in a tidy world
covered : (w : World) (pid i k : ℕ) (h : Held) → IsTidy w.processes w.names w.reserved → IsMemberOf (world_held w.processes) pid i h → IsInStretch h k
    → list_any (reserves (number_of (region_of pid k)) k) w.reserved ≡ true
covered w pid i k h tidy member s =
    ap (λ (g : ℕ). list_any (reserves g k) w.reserved) (sym (member_region (world_held w.processes) tidy.runs pid i h member pid k s (inl refl)))
    ∙ stretch_reserves (region_at pid i) h.first h.reserved k w.reserved (tidy.run pid i h member.there member.run) s.0 s.1

module _ (s t u : Shelf) (m n o : Maps) (pid k : ℕ) (h : HeldThere) (low : h.first ≤ k) (high : k < h.first + h.reserved) (so_far : MatchesBelow s t m n pid h k) where
  pub below_lost : (x : HeldThere) → held_at m pid k ≡ Some x → MatchesLoss t u n o pid k 1 → MatchesBelow s u m o pid h (k + 1)
  below_lost held there loss = record {
    world = λ p w x i es em at here run tidy q.
        let before = so_far.world p w x i es em at here run tidy q in
        let cs : List ℕ = below_in m pid h k in
        let y = drops_there w pid cs x at in
        let member : IsMemberOf (world_held w.processes) pid i (held_of p.maps pid i h) = record { there = in_world p m w pid i h em q here; run = in_run h run } in
        let behind = loss.world (record p { shelf = t; maps = n }) (with_names_kept w (below_drops m pid h k)) y.0 refl refl y.1
        (record {
          named = λ q some. kept_held (with_changes w (below_drops m pid h k)).processes (with_changes w (below_drops m pid h k)).names q some;
          covered = ap (λ (rs : List Reserve). list_any (reserves (number_of (region_of pid k)) k) rs) (drops_reserved w pid cs) ∙ covered w pid i k (held_of p.maps pid i h) tidy member (low, high);
        }) before in
        subst (λ (v : World). Matches (record p { shelf = u; maps = o }) v)
        (lost_next w pid k cs x at ∙ ap (with_names_kept w) (sym (all_in m pid h k low true (ap is_some there)))) behind;
  }

  pub below_none : held_at m pid k ≡ None → u ≡ t → o ≡ n → MatchesBelow s u m o pid h (k + 1)
  below_none none es em = record {
    world = λ p w x i e f at here run tidy q.
        subst (λ (y : Shelf). Matches (record p { shelf = y; maps = o }) (with_names_kept w (below_drops m pid h (k + 1)))) (sym es)
        (subst (λ (y : Maps). Matches (record p { shelf = t; maps = y }) (with_names_kept w (below_drops m pid h (k + 1)))) (sym em)
        (subst (λ (cs : List Change). Matches (record p { shelf = t; maps = n }) (with_names_kept w cs)) (sym (all_in m pid h k low false (ap is_some none) ∙ append_nil (below_drops m pid h k)))
        (so_far.world p w x i e f at here run tidy q)));
  }
    where
      append_nil : (cs : List Change) → cs ++ [] ≡ cs
      append_nil [] = refl
      append_nil (c ∷ cs) = ap (λ (ds : List Change). c ∷ ds) (append_nil cs)

-- all names of a tidy world are held
kept_all : (ps : List Process) (names : Map Segment) → ((q : ℕ) → is_some (get names q) ≡ true → is_held ps q ≡ true) → (q : ℕ) → get (kept ps names) q ≡ get names q
kept_all ps names all q = get-filter (is_held ps) names q ∙ go (get names q) (is_held ps q) (all q)
  where
    go : (o : Option Segment) (b : Bool) → (is_some o ≡ true → b ≡ true) → cond b o None ≡ o
    go o true f = refl
    go None false f = refl
    go (Some x) false f = absurd (let z : false ≡ true = f refl in cc)

nothing : (p : Parts) (w : World) → IsTidy w.processes w.names w.reserved → Matches p w → Matches p (with_names_kept w [])
unfolding with_changes
nothing p w tidy q = record {
  ready = q.ready;
  segments = λ n. subst (λ (o : Option Segment). IsNamed p (key_of p.shelf n) o) (sym (kept_all w.processes w.names tidy.used n)) (q.segments n);
  made = q.made;
  processes = q.processes;
  held = q.held;
  taken = q.taken;
}

-- where none has gone yet
pub below_first : (s : Shelf) (m : Maps) (pid : ℕ) (h : HeldThere) → MatchesBelow s s m m pid h h.first
below_first s m pid h = record {
  world = λ p w x i es em at here run tidy q.
      subst (λ (cs : List Change). Matches (record p { shelf = s; maps = m }) (with_names_kept w cs)) (sym (none h.first))
      (subst (λ (y : Shelf). Matches (record p { shelf = y; maps = m }) (with_names_kept w [])) es (subst (λ (y : Maps). Matches (record p { maps = y }) (with_names_kept w [])) em (nothing p w tidy q)));
}
  where
    none : (f : ℕ) → map (λ (i : ℕ). Drops pid i 1) (filter (λ (i : ℕ). is_some (held_at m pid i)) (indexes f (f - f))) ≡ []
    none f = ap (λ (c : ℕ). map (λ (i : ℕ). Drops pid i 1) (filter (λ (i : ℕ). is_some (held_at m pid i)) (indexes f c))) (zeros f)
      where
        zeros : (f : ℕ) → f - f ≡ 0
        zeros f = omega arith

-- the index below which all members are is in the stretch
pub below_end : (h : HeldThere) (k end : ℕ) → end ≡ max (end_in h) h.first → h.first ≤ k → k < end → k < h.first + h.reserved
below_end h k end e low l = go (h.first + h.reserved) h.first e low
  where
    go : (a f : ℕ) → end ≡ max (min a 8192) f → f ≤ k → k < a
    go a f e low = omega (arith, e, l, low)

-- behind all of them
pub below_all : (m n : Maps) (pid k : ℕ) (h : HeldThere) → k ≡ max (end_in h) h.first → TakesBelow m n pid h k → TakesRun m n pid h
below_all m n pid k h e t = record {
  processes = t.processes;
  held = λ q j. t.held q j ∙ ap (λ (b : Bool). if (q == pid) && b then less_by 1 (held_at m q j) else held_at m q j) (same h.first (end_in h) k j e);
  rights = t.rights;
}
  where
    same : (f e k j : ℕ) → k ≡ max e f → (nat_le f j && nat_lt j k) ≡ (nat_le f j && nat_lt j e)
    same f e k j x = grind arith

pub matches_all : (s t : Shelf) (m n : Maps) (pid k : ℕ) (h : HeldThere) → k ≡ max (end_in h) h.first → MatchesBelow s t m n pid h k → MatchesMembers s t m n pid h
matches_all s t m n pid k h e b = record {
  world = λ p w x i es em at here run tidy q.
      subst (λ (c : ℕ). Matches (record p { shelf = t; maps = n }) (with_names_kept w (map (λ (j : ℕ). Drops pid j 1) (filter (λ (j : ℕ). is_some (held_at m pid j)) (indexes h.first c)))))
      (same h.first (end_in h) k e) (b.world p w x i es em at here run tidy q);
}
  where
    same : (f e k : ℕ) → k ≡ max e f → k - f ≡ e - f
    same f e k x = omega (arith, x)

-- the next index, whatever is held there
pub below_any : (s t u : Shelf) (l m n : Maps) (pid k : ℕ) (h : HeldThere) → h.first ≤ k → k < h.first + h.reserved → TakesBelow l m pid h k → MatchesBelow s t l m pid h k
    → (IsSome (held_at m pid k) → MatchesLoss t u m n pid k 1) → (held_at m pid k ≡ None → (u ≡ t) × (n ≡ m)) → MatchesBelow s u l n pid h (k + 1)
below_any s t u l m n pid k h low high takes so_far loss none = go (held_at l pid k) refl
  where
    same : held_at m pid k ≡ held_at l pid k
    same = takes.held pid k ∙ (rw (eq-eqb pid pid refl, not_yet h k) refl)

    go : (o : Option HeldThere) → held_at l pid k ≡ o → MatchesBelow s u l n pid h (k + 1)
    go (Some x) e = below_lost s t u l m n pid k h low high so_far x e (loss (ap is_some (same ∙ e)))
    go None e = (let f = none (same ∙ e) in below_none s t u l m n pid k h low high so_far e f.0 f.1)
