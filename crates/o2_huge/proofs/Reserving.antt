-- A run of indexes is reserved.
use Rattle.std.proofs.Common.{◌≡◌, ℕ, ◌+◌, ◌<◌, ◌≤◌, ◌&&◌, ◌||◌, inl, inr, List, [], ◌∷◌, ◌++◌, None, Bool, true, false, cond, eqb, get_or, nat_le, nat_lt, is_some, refl, sym, ap, ◌∙◌, subst, arith}
use Rattle.std.specs.List.{list_any}
use Rattle.std.proofs.lemmas.Bool.{cases_eq, cond-false, eq-eqb, ne_eqb}
use Rattle.o2_desc.specs.Choice.{IsRun}
use Rattle.o2_regions.specs.declared.held.Region.{Region}
use Rattle.o2_regions.specs.declared.held.Region.TheVariants.{Private, Shared}
use Rattle.o2_regions.specs.Kept.{AreKept}
use Rattle.o2_regions.specs.Maps.{Maps, IsProcess, IsRegion, base_of, end_of, first_of, held_at, is_reserved, is_taken, region_of, same_region, with_reserved}
use Rattle.o2_regions.proofs.Reserves.{AreKept-reserve, is_reserved-with}
use Rattle.o2_segbus.specs.Seen.{key_of}
use Rattle.o2_store.specs.Shelf.{Shelf}
use Rattle.o2_changes.specs.Holding.{KeepsHolds}
use Rattle.o2_changes.specs.Order.{IsGuarded, IsInOrder}
use Rattle.o2_changes.proofs.Framing.{order_held}
use Rattle.o2_changes.proofs.Freeing.{not_held, taken_reserved}
use Rattle.o2_changes.proofs.HoldsStand.{region_same}
use Rattle.o2_changes.proofs.Named.{named_maps}
use Rattle.o2_stands.specs.Parts.{Parts, held_in}
use Rattle.o2_stands.specs.Stands.{IsIndex, Matches, number_of, taken_by}
use Rattle.o2_world.specs.Changes.{Change, Reserves, takes, with_all, with_change, with_changes}
use Rattle.o2_world.specs.HugeRulings.{all_hold, new_members, run_reserve}
use Rattle.o2_world.specs.Known.{held_at as held_by, holds_index, reserves}
use Rattle.o2_world.specs.Map.{get}
use Rattle.o2_world.specs.World.{Reserve, World}
use Rattle.o2_segs.specs.Made.{region_for}
use Rattle.o2_segs.proofs.Limits.{entries_refl}
use Rattle.o2_segs.proofs.Making.{region_run, run_there}
use Rattle.o2_segs.proofs.Sharing.{free_nobody}
use Rattle.o2_huge.specs.Members.{AreOpen, Grows, IsOpenAt, MatchesWith, MayMake}
use Rattle.o2_huge.proofs.Keeping.{few_same}

-- The indexes of a region that are reserved.

same_numbers : (a b : ℕ) → eqb a b ≡ eqb b a
same_numbers a b = elim (cases_eq a b) [
  | inl same ↦ eq-eqb a b same ∙ sym (eq-eqb b a (sym same))
  | inr other ↦ ne_eqb a b other ∙ sym (ne_eqb b a (λ e. other (sym e)))
]

region_number : (m : Maps) (g r : Region) → IsRegion m g → IsRegion m r → eqb (number_of g) (number_of r) ≡ same_region r g
region_number m (Private a) (Private b) x y = same_numbers a b
region_number m (Private a) Shared x y = ne_eqb a 0 (omega (arith, x.0))
region_number m Shared (Private b) x y = ne_eqb 0 b (omega (arith, y.0))
region_number m Shared Shared x y = refl

or_true : (b : Bool) → (b || true) ≡ true
or_true true = refl
or_true false = refl

shuffled : (a b c t : Bool) → (a || c) ≡ t → (a || (b || c)) ≡ cond b true t
shuffled a true c t e = or_true a
shuffled a false c t e = e

module _ (p : Parts) (w : World) (g : Region) (first count : ℕ) (kept : AreKept p.maps) (there : IsRegion p.maps g) (inside : first + count ≤ end_of g) (q : Matches p w) where
  abbrev n : Maps
  n = with_reserved p.maps g first count true

  is_in : (r : Region) (j : ℕ) → IsIndex n r j → IsIndex p.maps r j
  is_in r j d = record { region = region_same p.maps n r refl d.region; from = d.from; to = d.to }

  now_taken : (r : Region) (j : ℕ) → IsIndex n r j → is_taken n r j ≡ cond (same_region r g && (nat_le first j && nat_lt j (first + count))) true (is_taken p.maps r j)
  now_taken r j d =
      taken_reserved n r j (AreKept-reserve p.maps g first count kept there inside) d.from d.to
      ∙ is_reserved-with p.maps g r first count j true kept there (is_in r j d).region inside
      ∙ ap (cond (same_region r g && (nat_le first j && nat_lt j (first + count))) true) (sym (taken_reserved p.maps r j kept d.from d.to))

  taken_now : (r : Region) (j : ℕ) → IsIndex n r j
      → taken_by w.processes (run_reserve (number_of g) first count ∷ w.reserved) (number_of r) j ≡ is_taken n r j
  taken_now r j d =
      ap (λ (b : Bool). cond (eqb (number_of r) 0) (holds_index w.processes j) (is_some (held_by w.processes (number_of r) j)) || ((b && (nat_le first j && nat_lt j (first + count))) || list_any (reserves (number_of r) j) w.reserved))
      (region_number p.maps g r there (is_in r j d).region)
      ∙ shuffled (cond (eqb (number_of r) 0) (holds_index w.processes j) (is_some (held_by w.processes (number_of r) j))) (same_region r g && (nat_le first j && nat_lt j (first + count)))
      (list_any (reserves (number_of r) j) w.reserved) (is_taken p.maps r j) (q.taken r j (is_in r j d))
      ∙ sym (now_taken r j d)

  pub reserve_stands : Matches (record p { maps = with_reserved p.maps g first count true }) (with_change w (Reserves (run_reserve (number_of g) first count)))
  unfolding held_in
  reserve_stands = record {
    ready = record {
      aged = q.ready.aged;
      named = q.ready.named;
      held = record { live = q.ready.held.live; inside = q.ready.held.inside };
      settled = q.ready.settled;
      guarded = q.ready.guarded;
      clean = q.ready.clean;
      pictures = q.ready.pictures;
      device = q.ready.device;
    };
    segments = λ k. named_maps p n (key_of p.shelf k) (get w.names k) (q.segments k);
    made = q.made;
    processes = q.processes;
    held = λ a i. q.held a i;
    taken = taken_now;
  }

pub reserve_matches : (s : Shelf) (m n : Maps) (g : Region) (pid first count : ℕ) → AreKept m → IsRegion m g → first + count ≤ end_of g → n ≡ with_reserved m g first count true → MatchesWith s s m n pid (Reserves (run_reserve (number_of g) first count) ∷ [])
unfolding with_changes
reserve_matches s m n g pid first count kept there inside is = record {
  world = λ p w x es em at q.
      (let v : World = with_change w (Reserves (run_reserve (number_of g) first count)) in
      subst (λ (y : Shelf). Matches (record p { shelf = y; maps = n }) v) es
      (subst (λ (y : Maps). Matches (record p { maps = y }) v) (ap (λ (y : Maps). with_reserved y g first count true) em ∙ sym is)
      (reserve_stands p w g first count (subst AreKept (sym em) kept) (subst (λ (y : Maps). IsRegion y g) (sym em) there) inside q)));
}

-- what is held stays
pub reserved_same : (m n : Maps) (g : Region) (first count : ℕ) → n ≡ with_reserved m g first count true → (q j : ℕ) → held_at n q j ≡ held_at m q j
reserved_same m n g first count is q j = ap (λ (y : Maps). held_at y q j) is

-- tables and store are in order still
pub reserve_order : (s : Shelf) (m n : Maps) (g : Region) (first count : ℕ) → n ≡ with_reserved m g first count true → IsInOrder s m → IsInOrder s n
reserve_order s m n g first count is o = subst (IsInOrder s) (sym is) (record { held = record { live = o.held.live; inside = o.held.inside }; settled = o.settled; tables = o.tables })

reserve_guards : (s : Shelf) (m n : Maps) (g : Region) (first count : ℕ) → n ≡ with_reserved m g first count true → IsGuarded s m → IsGuarded s n
reserve_guards s m n g first count is o = subst (IsGuarded s) (sym is) (record { aged = o.aged; guarded = o.guarded })

pub reserve_grows : (s : Shelf) (m n : Maps) (g : Region) (first count times : ℕ) → n ≡ with_reserved m g first count true → IsInOrder s m → Grows s s m n 0 times
reserve_grows s m n g first count times is order = record {
  size = refl;
  most = refl;
  made = omega arith;
  live = omega arith;
  lived = λ id old alive. alive;
  holds = subst (KeepsHolds m) (sym is) (record { processes = refl; held = λ q j h e. e; rights = λ q j some. refl });
  few = λ k most few. few_same m n (reserved_same m n g first count is) k few;
  entries = entries_refl s;
  kept = λ k here. here;
  goes_on = order_held s m n (reserve_order s m n g first count is order) (reserve_guards s m n g first count is);
}

-- the region is told as another one
pub reserved_by : (m n : Maps) (g h : Region) (first count : ℕ) → n ≡ with_reserved m g first count true → g ≡ h → n ≡ with_reserved m h first count true
reserved_by m n g h first count is same = is ∙ ap (λ (x : Region). with_reserved m x first count true) same

-- as many may be made still
pub reserve_make : (s : Shelf) (m n : Maps) (g : Region) (pid first count more : ℕ) → n ≡ with_reserved m g first count true → MayMake s m pid more → MayMake s n pid more
reserve_make s m n g pid first count more is may = record {
  process = subst (λ (x : Maps). IsProcess x pid) (sym is) may.process;
  order = reserve_order s m n g first count is may.order;
  made = may.made;
  room = may.room;
}

-- The indexes of a run that was free are open once they are reserved.

run_one : (taken : ℕ → Bool) (low end count i j : ℕ) → IsRun taken low end count i → i ≤ j → j < i + count → IsRun taken low end 1 j
run_one taken low end count i j run from to = (
  (let a = run.0 in omega (arith, a, from)),
  (let a = run.1 in omega (arith, a, to)),
  λ k a b. run.2 k (omega (arith, a, from)) (omega (arith, b, to)),
)

pub run_opens : (m n : Maps) (pid flags first count : ℕ) → IsProcess m pid → IsRun (is_taken m (region_for pid flags)) (first_of (region_for pid flags)) (end_of (region_for pid flags)) count first
    → n ≡ with_reserved m (region_for pid flags) first count true → ((i : ℕ) → first ≤ i → i < first + count → is_reserved n (region_for pid flags) i ≡ true) → AreOpen n pid first count
run_opens m n pid flags first count there run is reserved i from to =
    let one = run_one (is_taken m (region_for pid flags)) (first_of (region_for pid flags)) (end_of (region_for pid flags)) count first i run from to in
    record {
      reserved = subst (λ (g : Region). is_reserved n g i ≡ true) (sym (region_run m pid i flags one)) (reserved i from to);
      free = ap (λ (y : Maps). held_at y pid i) is ∙ not_held m pid i there (run_there m pid i flags one);
    }

-- and held by nobody where they are shared ones
pub run_nobody : (m : Maps) (pid flags first count : ℕ) → AreKept m → IsRun (is_taken m (region_for pid flags)) (first_of (region_for pid flags)) (end_of (region_for pid flags)) count first
    → (q i : ℕ) → first ≤ i → i < first + count → 4096 ≤ i → held_at m q i ≡ None
run_nobody m pid flags first count kept run q i from to high =
    free_nobody m pid i kept (run_there m pid i flags (run_one (is_taken m (region_for pid flags)) (first_of (region_for pid flags)) (end_of (region_for pid flags)) count first i run from to)) high q

-- A reservation may come first or last.

abbrev Passes : Change → Type 0
Passes c = (w : World) (r : Reserve) → with_change (with_change w (Reserves r)) c ≡ with_change (with_change w c) (Reserves r)

-- it takes nothing, and a reservation may pass it
abbrev AllPass : List Change → Type 0
AllPass [] = Unit {0}
AllPass (c ∷ cs) = Passes c × (takes c ≡ false) × AllPass cs

pass_more : (xs ys : List Change) → AllPass xs → AllPass ys → AllPass (xs ++ ys)
pass_more [] ys a b = b
pass_more (x ∷ xs) ys a b = (a.0, a.1, pass_more xs ys a.2 b)

holds_pass : (name first count i : ℕ) (ps : List (ℕ × ℕ)) → AllPass (all_hold name first count i ps)
holds_pass name first count i [] = tt
holds_pass name first count i (p ∷ ps) = ((λ w r. refl), refl, holds_pass name first count i ps)

members_pass : (name first count flags : ℕ) (ps : List (ℕ × ℕ)) (is zs : List ℕ) → AllPass (new_members name first count flags ps is zs)
members_pass name first count flags ps [] zs = tt
members_pass name first count flags ps (i ∷ is) [] = tt
members_pass name first count flags ps (i ∷ is) (z ∷ zs) =
    ((λ w r. refl), refl, pass_more (all_hold name first count i ps) (new_members (name + 1) first count flags ps is zs) (holds_pass name first count i ps) (members_pass (name + 1) first count flags ps is zs))

passed : (w : World) (r : Reserve) (cs : List Change) → AllPass cs → with_changes w (Reserves r ∷ cs) ≡ with_changes w (cs ++ Reserves r ∷ [])
unfolding with_changes
passed w r [] all = refl
passed w r (c ∷ cs) all = ap (λ (v : World). with_changes v cs) (all.0 w r) ∙ passed (with_change w c) r cs all.2

none_takes : (r : Reserve) (cs : List Change) → AllPass cs → list_any takes (cs ++ Reserves r ∷ []) ≡ false
none_takes r [] all = refl
none_takes r (c ∷ cs) all = ap (λ (b : Bool). b || list_any takes (cs ++ Reserves r ∷ [])) all.1 ∙ none_takes r cs all.2

-- new members take nothing
takes_none : (cs : List Change) → AllPass cs → list_any takes cs ≡ false
takes_none [] all = refl
takes_none (c ∷ cs) all = ap (λ (b : Bool). b || list_any takes cs) all.1 ∙ takes_none cs all.2

pub members_all : (w : World) (name first count flags : ℕ) (ps : List (ℕ × ℕ)) (is zs : List ℕ) → with_all w (new_members name first count flags ps is zs) ≡ with_changes w (new_members name first count flags ps is zs)
members_all w name first count flags ps is zs =
    cond-false (list_any takes (new_members name first count flags ps is zs)) _ (with_changes w (new_members name first count flags ps is zs)) (takes_none (new_members name first count flags ps is zs) (members_pass name first count flags ps is zs))

-- store and tables that match a world with a reservation and new members match it with these and the reservation
pub reserve_last : (s t : Shelf) (m n : Maps) (pid name first count flags : ℕ) (r : Reserve) (ps : List (ℕ × ℕ)) (is zs : List ℕ)
    → MatchesWith s t m n pid (Reserves r ∷ new_members name first count flags ps is zs) → MatchesWith s t m n pid (new_members name first count flags ps is zs ++ Reserves r ∷ [])
reserve_last s t m n pid name first count flags r ps is zs a = record {
  world = λ p w x es em at q. subst (λ (v : World). Matches (record p { shelf = t; maps = n }) v) (passed w r (new_members name first count flags ps is zs) (members_pass name first count flags ps is zs)) (a.world p w x es em at q);
}

-- what a new run changes takes nothing
pub run_all : (w : World) (name first count flags : ℕ) (r : Reserve) (ps : List (ℕ × ℕ)) (is zs : List ℕ)
    → with_all w (new_members name first count flags ps is zs ++ Reserves r ∷ []) ≡ with_changes w (new_members name first count flags ps is zs ++ Reserves r ∷ [])
run_all w name first count flags r ps is zs =
    cond-false (list_any takes (new_members name first count flags ps is zs ++ Reserves r ∷ [])) _ (with_changes w (new_members name first count flags ps is zs ++ Reserves r ∷ []))
    (none_takes r (new_members name first count flags ps is zs) (members_pass name first count flags ps is zs))

-- Open indexes stay so, where other ones are held.

pub open_still : (m n : Maps) (pid i : ℕ) → n.reserved ≡ m.reserved → held_at n pid i ≡ held_at m pid i → IsOpenAt m pid i → IsOpenAt n pid i
open_still m n pid i same held was = record {
  reserved = ap (λ (xs : List Bool). nat_lt i (end_of (region_of pid i)) && get_or xs (base_of (region_of pid i) + i) false) same ∙ was.reserved;
  free = held ∙ was.free;
}

-- a run has no more indexes than its region
pub run_small : (taken : ℕ → Bool) (g : Region) (count first : ℕ) → IsRun taken (first_of g) (end_of g) count first → (count ≤ 4096) × (first + count ≤ 8192)
run_small taken (Private pid) count first run = let a = run.0 in let b = run.1 in (omega (arith, a, b), omega (arith, b))
run_small taken Shared count first run = let a = run.0 in let b = run.1 in (omega (arith, a, b), b)
