-- What lacks where a call on segments stops lacks in the world.
use Rattle.std.proofs.Common.{◌≡◌, ◌≢◌, inl, inr, ℕ, ◌+◌, ◌/◌, ◌<◌, ◌≤◌, ◌==◌, ◌&&◌, ◌||◌, Bool, true, false, cond, eqb, List, [], ◌∷◌, length, min, Option, Some, None}
use Rattle.std.proofs.Common.{is_some, IsSome, IfSome, option_map, ap, sym, ◌∙◌, refl, subst, arith, if◌then◌else◌}
use Rattle.std.specs.Prelude.{nat_le, nat_lt}
use Rattle.std.specs.List.{list_any}
use Rattle.std.proofs.lemmas.Bool.{cases_eq, cond-false, eqb-true, false≢true}
use Rattle.std.proofs.lemmas.List.{length-replicate, length-set}
use Rattle.o2_entries.specs.declared.Entry.{Entry}
use Rattle.o2_entries.specs.Tables.{slot_at}
use Rattle.o2_isa.specs.Presence.{is_in}
use Rattle.o2_isa.specs.View.{is_local}
use Rattle.o2_place.specs.declared.seg_id.SegId.{SegId}
use Rattle.o2_place.specs.Layout.{over}
use Rattle.o2_place.proofs.Sums.{only, over-add, over-le, over-only}
use Rattle.o2_regions.specs.declared.held.Held.{Held as HeldThere}
use Rattle.o2_regions.specs.Maps.{Maps, held_at as held_there}
use Rattle.o2_store.specs.Needs.{has_age, is_named, named_in}
use Rattle.o2_store.specs.Shelf.{Adds, Shelf, entry, entry_of, rounded}
use Rattle.o2_store.proofs.Tables.{slot-set_other, slot-set_same}
use Rattle.o2_segbus.specs.Seen.{gone_under, key_of}
use Rattle.o2_service.specs.Told.{IsHeldWell}
use Rattle.o2_world.specs.Calls.{Before}
use Rattle.o2_world.specs.Changes.{Change, Drops, Finishes, Frees, Holds, Locks, Makes, Marks as MarksChange, Names, Reserves, Resizes, marked, swept, takes, with_all, with_change, with_changes}
use Rattle.o2_world.specs.Known.{Known, Marks, held_at, known_of, marks_of}
use Rattle.o2_world.specs.Map.{Map, get}
use Rattle.o2_world.specs.Rulings.{allocation, allocation_at, free_index, full_size, grants, held_by_call, held_under, is_alias, is_discardable, is_in_run}
use Rattle.o2_world.specs.Rulings.{keeps_its_size, locking, locking_of, locking_with, made_segment, reallocation, reallocation_of, reallocation_with, resizes_with, refusal, region_by}
use Rattle.o2_world.specs.Run.{next_dispatch}
use Rattle.o2_world.specs.Tied.{IsSound}
use Rattle.o2_world.specs.Views.{is_discarded}
use Rattle.o2_world.specs.World.{Held, Process, Segment, Setting, World, is_live}
use Rattle.o2_ends.proofs.Letting.{live_id}
use Rattle.o2_gate.specs.declared.requests.SegmentArguments.{SegmentArguments}
use Rattle.o2_gate.specs.declared.arguments.Arguments.{Arguments}
use Rattle.o2_gate.specs.declared.requests.SegmentArguments.TheVariants.{Alloc, Huge, Realloc, Lock}
use Rattle.o2_gate.specs.declared.requests.HugeArguments.{HugeArguments}
use Rattle.o2_run.specs.Room.{is_locked, rounded as whole, size_of}
use Rattle.o2_segs.specs.Made.{new_entry}
use Rattle.o2_calls.specs.Acts.{MayStop, ruling_of}
use Rattle.o2_calls.specs.HugeActs.{huge_ruling}
use Rattle.o2_calls.specs.Stops.{held_by}
use Rattle.o2_stands.specs.Parts.{Parts, held_in, held_of}
use Rattle.o2_stands.specs.Stands.{AreLawful, IsNamed, Stands}
use Rattle.o2_stands.specs.Sums.{counts}
use Rattle.o2_stands.proofs.Rooms.{name_facts}
use Rattle.o2_stands.proofs.Views.{name_mark}
use Rattle.o2_stepping.specs.Nexts.{IsNext, next_start}
use Rattle.o2_stepping.specs.Ran.{IsCallOf}
use Rattle.o2_stepping.proofs.Named.{age_is, or_back}
use Rattle.o2_space.proofs.CallRooms.{e, new, run_changes_are, run_sizing, sizes, u, v, want, world_is}
use Rattle.o2_space.proofs.Remains.{at_same, at_thrice, by_key, locked_to, resized_size, sized_to, written_size, written_some}
use Rattle.o2_space.proofs.RunSizing.{AllAre, Cut, Grown, IsGrownBy, IsSizing, grown_takes}
use Rattle.o2_space.proofs.Sides.{WeighsLess, part_by, room_with_new, room_without_new, sum_by}

-- What a call that comes to no error changes.

five : (let n : ℕ = 5 in n ≡ 0) → ⊥
five e = omega (arith, e)

above_zero : (n : ℕ) → 0 < n → nat_lt 0 n ≡ true
above_zero n l = grind arith

record IsLock (k : Known) (n z : ℕ) (changes : List Change) : Type 0 where
  held : Held
  under : held_under k n z ≡ Some held
  count : ℕ
  some : nat_lt 0 count ≡ true
  is : changes ≡ Locks held.name count ∷ []

lock_is : (k : Known) (n z : ℕ) → (locking k n z).error ≡ 0 → IsLock k n z (locking k n z).changes
lock_is k n z e = go (held_under k n z) refl e
  where
    gone : ◌≡◌ {A = ℕ} 157 0 → ⊥
    gone f = omega (arith, f)

    by_test : (h : Held) → held_under k n z ≡ Some h → (count : ℕ) → 0 < count → (t d : Bool)
        → (cond t (cond d (refusal 157) (grants 0 (Locks h.name count ∷ []))) (refusal 5)).error ≡ 0
        → IsLock k n z (cond t (cond d (refusal 157) (grants 0 (Locks h.name count ∷ []))) (refusal 5)).changes
    by_test h under count some true false f = record { held = h; under = under; count = count; some = above_zero count some; is = refl }
    by_test h under count some true true f = absurd (gone f)
    by_test h under count some false d f = absurd (five f)

    by_marks : (h : Held) → held_under k n z ≡ Some h → (o : Option Marks) → (locking_with h.name o).error ≡ 0 → IsLock k n z (locking_with h.name o).changes
    by_marks h under None f = absurd (five f)
    by_marks h under (Some m) f = by_test h under (min (m.lock + 1) 255) (omega arith) (is_discardable m) m.discarded f

    go : (o : Option Held) → held_under k n z ≡ o → (locking_of k o).error ≡ 0 → IsLock k n z (locking_of k o).changes
    go None under f = absurd (five f)
    go (Some h) under f = by_marks h under (k.segment h.name) f

-- the segment gets the size; where it was discarded it is made anew
record IsSize (k : Known) (n size z : ℕ) (changes : List Change) : Type 0 where
  held : Held
  under : held_under k n z ≡ Some held
  marks : Marks
  segment : k.segment held.name ≡ Some marks
  is : changes ≡ resizes_with held.name (full_size size) marks.discarded

size_is : (k : Known) (n size z : ℕ) → (reallocation k n size z).error ≡ 0 → IsSize k n size z (reallocation k n size z).changes
size_is k n size z e = go (held_under k n z) refl e
  where
    by_test : (h : Held) → held_under k n z ≡ Some h → (m : Marks) → k.segment h.name ≡ Some m → (t : Bool)
        → (cond t (refusal 5) (grants 0 (resizes_with h.name (full_size size) m.discarded))).error ≡ 0
        → IsSize k n size z (cond t (refusal 5) (grants 0 (resizes_with h.name (full_size size) m.discarded))).changes
    by_test h under m there true f = absurd (five f)
    by_test h under m there false f = record { held = h; under = under; marks = m; segment = there; is = refl }

    by_marks : (h : Held) → held_under k n z ≡ Some h → (o : Option Marks) → k.segment h.name ≡ o → (reallocation_with h.name (full_size size) o).error ≡ 0
        → IsSize k n size z (reallocation_with h.name (full_size size) o).changes
    by_marks h under None there f = absurd (five f)
    by_marks h under (Some m) there f = by_test h under m there (keeps_its_size (full_size size) m) f

    by_kind : (h : Held) → held_under k n z ≡ Some h → (t : Bool)
        → (cond t (refusal 5) (reallocation_with h.name (full_size size) (k.segment h.name))).error ≡ 0
        → IsSize k n size z (cond t (refusal 5) (reallocation_with h.name (full_size size) (k.segment h.name))).changes
    by_kind h under true f = absurd (five f)
    by_kind h under false f = by_marks h under (k.segment h.name) refl f

    go : (o : Option Held) → held_under k n z ≡ o → (reallocation_of k (full_size size) o).error ≡ 0 → IsSize k n size z (reallocation_of k (full_size size) o).changes
    go None under f = absurd (five f)
    go (Some h) under f = by_kind h under (is_alias h.cause || is_in_run h) f

record IsMake (k : Known) (n size flags : ℕ) (changes : List Change) : Type 0 where
  index : ℕ
  is : changes ≡ Makes (made_segment size flags) ∷ Holds n index (held_by_call k.next) ∷ []

make_is : (k : Known) (n size flags : ℕ) → (allocation k n size flags).error ≡ 0 → IsMake k n size flags (allocation k n size flags).changes
make_is k n size flags e = by_flags (nat_lt 15 flags) (nat_le k.most k.count) e
  where
    at : (o : Option ℕ) → (allocation_at k n size flags o).error ≡ 0 → IsMake k n size flags (allocation_at k n size flags o).changes
    at None f = absurd (omega (arith, f))
    at (Some i) f = record { index = i; is = refl }

    by_flags : (t c : Bool) → (cond t (refusal 87) (cond c (refusal 8) (allocation_at k n size flags (free_index k (region_by n flags))))).error ≡ 0
        → IsMake k n size flags (cond t (refusal 87) (cond c (refusal 8) (allocation_at k n size flags (free_index k (region_by n flags))))).changes
    by_flags true c f = absurd (omega (arith, f))
    by_flags false true f = absurd (omega (arith, f))
    by_flags false false f = at (free_index k (region_by n flags)) f

-- What is held under a selector, in the machine.

some_name : {a b : Held} → Some a ≡ Some b → a.name ≡ b.name
some_name e = cc

none_held : {a : Held} → None ≡ Some a → ⊥
none_held e = cc

under_there : (p : Parts) (s : Setting) (w : World) → Stands p w → (n z : ℕ) → held_under (known_of s w) n z ≡ option_map (held_of p.maps n (z / 8)) (held_by p.maps n z)
unfolding held_in
under_there p s w stands n z = go (is_local z)
  where
    go : (t : Bool) → (if t then held_at w.processes n (z / 8) else None) ≡ option_map (held_of p.maps n (z / 8)) (if t then held_there p.maps n (z / 8) else None)
    go true = stands.held n (z / 8)
    go false = refl

pub record IsThere (m : Maps) (n z name : ℕ) : Type 0 where
  pub held : HeldThere
  pub under : held_by m n z ≡ Some held
  pub at : held_there m n (z / 8) ≡ Some held
  pub named : held.id.age ≡ name

there_by : (p : Parts) (s : Setting) (w : World) → Stands p w → (n z : ℕ) (h : Held) → held_under (known_of s w) n z ≡ Some h → IsThere p.maps n z h.name
there_by p s w stands n z h under = go (held_by p.maps n z) refl (sym (under_there p s w stands n z) ∙ under)
  where
    at_index : (t : Bool) (o : Option HeldThere) (y : HeldThere) → (if t then o else None) ≡ Some y → o ≡ Some y
    at_index true o y f = f
    at_index false o y f = absurd (cc)

    go : (o : Option HeldThere) → held_by p.maps n z ≡ o → option_map (held_of p.maps n (z / 8)) o ≡ Some h → IsThere p.maps n z h.name
    go None f g = absurd (none_held g)
    go (Some y) f g = record { held = y; under = f; at = at_index (is_local z) (held_there p.maps n (z / 8)) y f; named = some_name g }

pub of_some : {X : Type 0} (P : X → Type 0) (o : Option X) (x : X) → o ≡ Some x → IfSome o P → P x
of_some P o x is h = subst (λ q. IfSome q P) is h

-- What numbers weigh.

-- a part that counts under a test, where one of its number counts at least so much
pub part_least : (lock eq named : Bool) (r top : ℕ) → (eq ≡ true → r ≤ top) → (if lock || (eq || named) then r else 0) ≤ (if eq then top else (if lock || named then r else 0))
part_least true true named r top f = f refl
part_least true false named r top f = omega arith
part_least false true named r top f = f refl
part_least false false true r top f = omega arith
part_least false false false r top f = omega arith

-- and where one gets another size
pub sized_least : (lock eq named : Bool) (r top : ℕ) → (if eq then top else (if lock || (eq || named) then r else 0)) ≤ (if eq then top else (if lock || named then r else 0))
sized_least true true named r top = omega arith
sized_least true false named r top = omega arith
sized_least false true named r top = omega arith
sized_least false false true r top = omega arith
sized_least false false false r top = omega arith

pub at_most : (t : Bool) (n : ℕ) → (if t then n else 0) ≤ n
at_most true n = omega arith
at_most false n = omega arith

pub counted_larger : (t : Bool) (n k : ℕ) → t ≡ true → n ≤ k → n ≤ (if t then k else 0)
counted_larger true n k e l = l
counted_larger false n k e l = absurd (false≢true e)

module _ (p : Parts) (w : World) (lawful : AreLawful p.shelf p.maps) (stands : Stands p w) (names : Map Segment) (list : List ℕ) (g base : ℕ → ℕ) (least : WeighsLess p.shelf (part_by g w.names names list) base) where
  abbrev weight : ℕ → ℕ → ℕ → ℕ
  weight key top k = if k == key then top else base k

  -- where one number weighs more
  with_top : (key top : ℕ) → IsSome (slot_at p.shelf.entries key) → ((n : ℕ) → key_of p.shelf n ≡ Some key → top ≤ part_by g w.names names list n) → WeighsLess p.shelf (part_by g w.names names list) (weight key top)
  with_top key top live more = record {
    none = λ k gone. none k gone (k == key) refl;
    each = λ n k f. each n k f (k == key) refl;
  }
    where
      none : (k : ℕ) → slot_at p.shelf.entries k ≡ None → (t : Bool) → (k == key) ≡ t → (if t then top else base k) ≡ 0
      none k gone true e = absurd (false≢true (sym (ap is_some gone) ∙ (ap (λ (j : ℕ). is_some (slot_at p.shelf.entries j)) (eqb-true k key e) ∙ live)))
      none k gone false e = least.none k gone

      each : (n k : ℕ) → key_of p.shelf n ≡ Some k → (t : Bool) → (k == key) ≡ t → (if t then top else base k) ≤ part_by g w.names names list n
      each n k f true e = more n (f ∙ ap (λ (j : ℕ). Some j) (eqb-true k key e))
      each n k f false e = least.each n k f

  pub top_least : (key top : ℕ) → IsSome (slot_at p.shelf.entries key) → ((n : ℕ) → key_of p.shelf n ≡ Some key → top ≤ part_by g w.names names list n)
      → over (weight key top) (length p.shelf.entries) ≤ sum_by g w.names names list
  top_least key top live more =
      room_without_new p w.processes w.names w.next_name w.reserved lawful stands names list g (weight key top) (with_top key top live more)

  pub new_least : (n top : ℕ) → get w.names n ≡ None → is_some (get names n) ≡ true → top ≤ part_by g w.names names list n → over base (length p.shelf.entries) + top ≤ sum_by g w.names names list
  new_least n top none some more =
      (let a = room_with_new p w.processes w.names w.next_name w.reserved lawful stands names list g base least n none some in omega (arith, a, more))

-- A store with a segment more.

module _ (s t : Shelf) (id : SegId) (size flags : ℕ) (adds : Adds s t id (new_entry s.made size flags)) where
  pub slot_other : (k : ℕ) → k ≢ id.key → slot_at t.entries k ≡ slot_at s.entries k
  slot_other k other = ap (λ (x : Shelf). slot_at x.entries k) adds.shelf ∙ slot-set_other s.entries id.key k (Some (new_entry s.made size flags)) other

  pub slot_here : slot_at t.entries id.key ≡ Some (new_entry s.made size flags)
  slot_here = ap (λ (x : Shelf). slot_at x.entries id.key) adds.shelf ∙ slot-set_same s.entries id.key (Some (new_entry s.made size flags)) adds.within

  same_count : length t.entries ≡ length s.entries
  same_count = ap (λ (x : Shelf). length x.entries) adds.shelf ∙ length-set s.entries id.key (Some (new_entry s.made size flags))

  pub same_size : t.places.size ≡ s.places.size
  same_size = ap (λ (x : Shelf). x.places.size) adds.shelf

  -- what names another number names it without the new one
  pub named_was : (ids : List SegId) (k : ℕ) → k ≢ id.key → named_in t.entries ids k ≡ named_in s.entries ids k
  named_was [] k other = refl
  named_was (i ∷ is) k other = go (k == i.key) refl ∙ ap (λ (b : Bool). (is_named s.entries i && k == i.key) || b) (named_was is k other)
    where
      go : (b : Bool) → (k == i.key) ≡ b → ((is_named t.entries i && k == i.key) || named_in t.entries is k) ≡ ((is_named s.entries i && k == i.key) || named_in t.entries is k)
      go true e =
          (let same = eqb-true k i.key e in
          ap (λ (o : Option Entry). (has_age o i.age && k == i.key) || named_in t.entries is k) (slot_other i.key (λ f. other (same ∙ f))))
      go false e =
          ap (λ (b : Bool). (is_named t.entries i && b) || named_in t.entries is k) e
          ∙ (none (is_named t.entries i) (is_named s.entries i) ∙ ap (λ (b : Bool). (is_named s.entries i && b) || named_in t.entries is k) (sym e))
        where
          none : (x y : Bool) → ((x && false) || named_in t.entries is k) ≡ ((y && false) || named_in t.entries is k)
          none true true = refl
          none true false = refl
          none false true = refl
          none false false = refl

  -- with a sum over the others
  pub new_over : (f g : ℕ → ℕ) → ((k : ℕ) → k ≢ id.key → f k ≤ g k) → (top : ℕ) → f id.key ≤ top → over f (length t.entries) ≤ over g (length s.entries) + top
  new_over f g others top here =
      let a = over-le f (λ k. g k + only id.key top k) (length s.entries) (λ k l. at k) in
      let b = over-add g (only id.key top) (length s.entries) in
      let c = over-only id.key top (length s.entries) adds.within in
      let d = ap (over f) same_count in
      omega (arith, a, b, c, d)
    where
      at : (k : ℕ) → f k ≤ g k + only id.key top k
      at k = elim (cases_eq k id.key) [
        | inl same ↦
            (let e : only id.key top k ≡ top = ap (λ (b : Bool). cond b top 0) (ap (λ (j : ℕ). eqb j id.key) same ∙ equal id.key) in
            let l = ap f same in
            omega (arith, e, l, here))
        | inr other ↦ (let l = others k other in omega (arith, l))
      ]
        where
          equal : (n : ℕ) → eqb n n ≡ true
          equal n = grind arith

-- A segment with another lock count, or another size.

lock_there : (count : ℕ) (o : Option Segment) → nat_lt 0 count ≡ true → is_some o ≡ true → is_locked (option_map (locked_to count) o) ≡ true
lock_there count None above some = absurd (false≢true some)
lock_there count (Some y) above some = above

size_there : (size : ℕ) (o : Option Segment) → is_some o ≡ true → size_of (option_map (sized_to size) o) ≡ size
size_there size None some = absurd (false≢true some)
size_there size (Some y) some = resized_size size y.bytes

lock_size : (count : ℕ) (o : Option Segment) → size_of (option_map (locked_to count) o) ≡ size_of o
lock_size count None = refl
lock_size count (Some y) = refl

-- one that is made anew
remade_lock : (size : ℕ) (o : Option Segment) → is_some o ≡ true → is_locked (option_map (locked_to 1) (option_map (sized_to size) (option_map (marked false) o))) ≡ true
remade_lock size None some = absurd (false≢true some)
remade_lock size (Some y) some = refl

remade_size : (size : ℕ) (o : Option Segment) → is_some o ≡ true → size_of (option_map (locked_to 1) (option_map (sized_to size) (option_map (marked false) o))) ≡ size
remade_size size None some = absurd (false≢true some)
remade_size size (Some y) some = resized_size size y.bytes

mark_is : (o : Option Segment) (m : Marks) → option_map marks_of o ≡ Some m → m.discarded ≡ is_discarded o
mark_is None m e = absurd (let z : ◌≡◌ {A = Option Marks} None (Some m) = e in cc)
mark_is (Some y) m e = (let z : ◌≡◌ {A = Option Marks} (Some (marks_of y)) (Some m) = e in same (marks_of y) m z)
  where
    same : (q r : Marks) → Some q ≡ Some r → r.discarded ≡ q.discarded
    same q r e = cc

put_same : (n : ℕ) (y : Segment) (m : Map Segment) → get ((n, y) ∷ m) n ≡ Some y
put_same n y m = ap (λ (t : Bool). if t then Some y else get m n) (equal n)
  where
    equal : (k : ℕ) → (k == k) ≡ true
    equal k = grind arith

-- what has a size at least keeps it where a run grows
has_floor : (names : Map Segment) (z : ℕ) (cs : List Change) → AllAre (IsGrownBy names z) cs → (y : World) (m : ℕ) → m < y.next_name → z ≤ size_of (get y.names m) → z ≤ size_of (get (with_changes y cs).names m)
unfolding with_changes
has_floor names z [] are y m low floor = floor
has_floor names z (Makes g ∷ cs) are y m low floor = has_floor names z cs are.1 (with_change y (Makes g)) m (omega (arith, low)) (with_new (y.next_name == m) refl)
  where
    with_new : (b : Bool) → (y.next_name == m) ≡ b → z ≤ size_of (if b then Some g else get y.names m)
    with_new true e = absurd (let same = eqb-true y.next_name m e in omega (arith, low, same))
    with_new false e = floor
has_floor names z (Resizes n size ∷ cs) are y m low floor =
    has_floor names z cs are.1 (with_change y (Resizes n size)) m low (by_key (λ o. z ≤ size_of o) n m (sized_to size) y.names (λ same. sized (get y.names m) floor) floor)
  where
    sized : (o : Option Segment) → z ≤ size_of o → z ≤ size_of (option_map (sized_to size) o)
    sized None l = l
    sized (Some g) l = (let a = resized_size size g.bytes in let b = are.0.0 in omega (arith, a, b))
has_floor names z (Locks n count ∷ cs) are y m low floor = absurd are.0
has_floor names z (MarksChange n discarded ∷ cs) are y m low floor = absurd are.0
has_floor names z (Holds q i h ∷ cs) are y m low floor = has_floor names z cs are.1 (with_change y (Holds q i h)) m low floor
has_floor names z (Drops q i count ∷ cs) are y m low floor = absurd are.0
has_floor names z (Finishes q state ∷ cs) are y m low floor = absurd are.0
has_floor names z (Reserves r ∷ cs) are y m low floor = has_floor names z cs are.1 (with_change y (Reserves r)) m low floor
has_floor names z (Frees region first ∷ cs) are y m low floor = absurd are.0
has_floor names z (Names text n ∷ cs) are y m low floor = absurd are.0

-- The next step of a world that is a call, which stops.

module _ (p : Parts) (s : Setting) (w : World) (x : Process) (next : IsNext p s w x) (live : is_live x.state ≡ true) (sound : IsSound w) (a : Arguments) (following : ℕ)
    (call : IsCallOf (next_start s w x) a following) where
  abbrev pid : ℕ
  pid = (next_dispatch s w).current

  abbrev b : Before
  b = next_start s w x

  abbrev behind_it : World
  behind_it = v p s w x next live sound a following call

  abbrev before_it : World
  before_it = u p s w x next live sound a following call

  abbrev wants : List ℕ
  wants = want p s w x next live sound a following call

  well : IsHeldWell p.shelf p.maps
  well = next.stands.ready.held

  -- a name whose segment has a number
  pub there : (n k : ℕ) → key_of p.shelf n ≡ Some k → is_some (get w.names n) ≡ true
  there n k key = go (get w.names n) (subst (λ (o : Option ℕ). IsNamed p o (get w.names n)) key (next.stands.segments n))
    where
      go : (o : Option Segment) → IsNamed p (Some k) o → is_some o ≡ true
      go None is = absurd is
      go (Some y) is = refl

  still_there : (n : ℕ) → is_some (get w.names n) ≡ true → is_some (get before_it.names n) ≡ true
  still_there n some =
      written_some w (next_dispatch s w) x (e p s w x next live sound a following call) (sizes p s w x next live sound a following call) (new p s w x next live sound a following call) n ∙ some

  pub facts : (n k : ℕ) → key_of p.shelf n ≡ Some k → (size_of (get w.names n) ≡ (entry p.shelf k).size) × (is_locked (get w.names n) ≡ nat_lt 0 (entry p.shelf k).attr.lock) × ((entry p.shelf k).age ≡ n)
  facts n k key = name_facts p w.processes w.names w.next_name w.reserved next.lawful next.stands n k key

  -- the number of what is held has that name alone
  held_name : (z name : ℕ) (h : IsThere p.maps pid z name) (n : ℕ) → key_of p.shelf n ≡ Some h.held.id.key → name ≡ n
  held_name z name h n key = sym h.named ∙ (sym (age_is p.shelf h.held.id (well.live pid (z / 8) h.held h.at)) ∙ (facts n h.held.id.key key).2)

  held_is : {q r : HeldThere} → Some q ≡ Some r → q ≡ r
  held_is e = cc

  held_live : (z name : ℕ) (h : IsThere p.maps pid z name) → IsSome (slot_at p.shelf.entries h.held.id.key)
  held_live z name h = (live_id p.shelf h.held.id (well.live pid (z / 8) h.held h.at)).0

  -- what gets a size is held
  pub size_held : (size z : ℕ) → (reallocation (known_of s w) pid size z).error ≡ 0 → (h : HeldThere) × (held_by p.maps pid z ≡ Some h)
  size_held size z none =
      let l = size_is (known_of s w) pid size z none in
      let h = there_by p s w next.stands pid z l.held l.under in
      (h.held, h.under)

  -- the names behind it
  names_are : (cs : List Change) → (e p s w x next live sound a following call).changes ≡ cs → behind_it.names ≡ (with_all before_it cs).names
  names_are cs is = ap (λ (q : World). q.names) (world_is p s w x next live sound a following call) ∙ ap (λ (xs : List Change). (with_all before_it xs).names) is

  changes_are : (y : SegmentArguments) → a.request ≡ y → (e p s w x next live sound a following call).changes ≡ (ruling_of y (known_of s w) pid x.cpu).changes
  changes_are y is = ap (λ (r : SegmentArguments). (ruling_of r (known_of s w) pid x.cpu).changes) is

  -- what is made anew is locked
  pub remade_over : (size z : ℕ) → a.request ≡ Realloc size z → (reallocation (known_of s w) pid size z).error ≡ 0 → (h : HeldThere) → held_by p.maps pid z ≡ Some h
      → (entry p.shelf h.id.key).attr.gone ≡ true → (n : ℕ) → key_of p.shelf n ≡ Some h.id.key → is_locked (get behind_it.names n) ≡ true
  unfolding with_changes
  remade_over size z is none y under gone n key =
      let l = size_is (known_of s w) pid size z none in
      let name = l.held.name in
      let h = there_by p s w next.stands pid z l.held l.under in
      let key_is : h.held.id.key ≡ y.id.key = ap (λ (q : HeldThere). q.id.key) (held_is (sym h.under ∙ under)) in
      let same = held_name z name h n (key ∙ ap (λ (k : ℕ). Some k) (sym key_is)) in
      let mark : is_discarded (get w.names n) ≡ true =
      name_mark p w.processes w.names w.next_name w.reserved next.lawful next.stands n ∙ (ap (gone_under p.shelf) key ∙ gone) in
      let discarded : l.marks.discarded ≡ true = mark_is (get w.names name) l.marks l.segment ∙ (ap (λ (k : ℕ). is_discarded (get w.names k)) same ∙ mark) in
      let some : is_some (get w.names name) ≡ true = subst (λ (k : ℕ). is_some (get w.names k) ≡ true) (sym same) (there n y.id.key key) in
      let names = names_are (resizes_with name (full_size size) true) (changes_are (Realloc size z) is ∙ (l.is ∙ ap (resizes_with name (full_size size)) discarded)) in
      subst (λ (k : ℕ). is_locked (get behind_it.names k) ≡ true) same
      (ap (λ (m : Map Segment). is_locked (get m name)) names
      ∙ (ap is_locked (at_thrice name (full_size size) before_it.names)
      ∙ remade_lock (full_size size) (get before_it.names name) (still_there name some)))

  -- the size of what gets one
  sized_there : (name size : ℕ) → is_some (get w.names name) ≡ true → (discarded : Bool) → size_of (get (with_all before_it (resizes_with name size discarded)).names name) ≡ size
  unfolding with_changes
  sized_there name size some false = ap size_of (at_same name (sized_to size) before_it.names) ∙ size_there size (get before_it.names name) (still_there name some)
  sized_there name size some true = ap size_of (at_thrice name size before_it.names) ∙ remade_size size (get before_it.names name) (still_there name some)

  -- Where names weigh what they do behind it, at least.
  module _ (list : List ℕ) (g base : ℕ → ℕ) (now : (n : ℕ) → whole (size_of (get behind_it.names n)) ≤ g n)
      (least : WeighsLess p.shelf (part_by g w.names behind_it.names list) base) where
    -- a segment that is locked
    pub lock_over : (z : ℕ) → a.request ≡ Lock z → (locking (known_of s w) pid z).error ≡ 0
        → (name : ℕ) × (h : IsThere p.maps pid z name) × (over (λ k. if k == h.held.id.key then rounded (entry p.shelf h.held.id.key).size else base k) (length p.shelf.entries) ≤ sum_by g w.names behind_it.names list)
    unfolding with_changes
    lock_over z is none =
        let l = lock_is (known_of s w) pid z none in
        let name = l.held.name in
        let h = there_by p s w next.stands pid z l.held l.under in
        let names = names_are (Locks name l.count ∷ []) (changes_are (Lock z) is ∙ l.is) in (
          name,
          h,
          top_least p w next.lawful next.stands behind_it.names list g base least h.held.id.key (rounded (entry p.shelf h.held.id.key).size) (held_live z name h)
              (λ n key.
              (let same = held_name z name h n key in
              let locked : is_locked (get behind_it.names name) ≡ true =
              ap (λ (m : Map Segment). is_locked (get m name)) names
              ∙ (ap is_locked (at_same name (locked_to l.count) before_it.names)
              ∙ lock_there l.count (get before_it.names name) l.some (still_there name (subst (λ (k : ℕ). is_some (get w.names k) ≡ true) (sym same) (there n h.held.id.key key)))) in
              let locked_n : is_locked (get behind_it.names n) ≡ true = subst (λ (k : ℕ). is_locked (get behind_it.names k) ≡ true) same locked in
              let size = (facts n h.held.id.key key).0 in
              let size_now : size_of (get behind_it.names name) ≡ size_of (get w.names name) =
              ap (λ (m : Map Segment). size_of (get m name)) names
              ∙ (ap size_of (at_same name (locked_to l.count) before_it.names)
              ∙ (lock_size l.count (get before_it.names name)
              ∙ written_size w (next_dispatch s w) x (e p s w x next live sound a following call) (sizes p s w x next live sound a following call) (new p s w x next live sound a following call) name)) in
              let size_n = subst (λ (k : ℕ). size_of (get behind_it.names k) ≡ size_of (get w.names k)) same size_now in
              let taken = now n in
              counted_larger (counts w.names behind_it.names list n) (rounded (entry p.shelf h.held.id.key).size) (g n)
              (or_back (is_in n list) _ (or_back (is_locked (get w.names n)) (is_locked (get behind_it.names n)) locked_n))
              (omega (arith, size, size_n, taken)))),
        )

    -- a segment that gets a size, and counts
    pub size_over : (size z : ℕ) → a.request ≡ Realloc size z → (reallocation (known_of s w) pid size z).error ≡ 0 → (h : HeldThere) → held_by p.maps pid z ≡ Some h
        → ((n : ℕ) → key_of p.shelf n ≡ Some h.id.key → counts w.names behind_it.names list n ≡ true)
        → over (λ k. if k == h.id.key then rounded (full_size size) else base k) (length p.shelf.entries) ≤ sum_by g w.names behind_it.names list
    size_over size z is none y under counted =
        let l = size_is (known_of s w) pid size z none in
        let name = l.held.name in
        let h = there_by p s w next.stands pid z l.held l.under in
        let key_is : h.held.id.key ≡ y.id.key = ap (λ (q : HeldThere). q.id.key) (held_is (sym h.under ∙ under)) in
        let names = names_are (resizes_with name (full_size size) l.marks.discarded) (changes_are (Realloc size z) is ∙ l.is) in
        top_least p w next.lawful next.stands behind_it.names list g base least y.id.key (rounded (full_size size)) (subst (λ (k : ℕ). IsSome (slot_at p.shelf.entries k)) key_is (held_live z name h))
        (λ n key.
        (let same = held_name z name h n (key ∙ ap (λ (k : ℕ). Some k) (sym key_is)) in
        let some : is_some (get w.names name) ≡ true = subst (λ (k : ℕ). is_some (get w.names k) ≡ true) (sym same) (there n y.id.key key) in
        let sized : size_of (get behind_it.names name) ≡ full_size size =
        ap (λ (m : Map Segment). size_of (get m name)) names ∙ sized_there name (full_size size) some l.marks.discarded in
        let sized_n : size_of (get behind_it.names n) ≡ full_size size = subst (λ (k : ℕ). size_of (get behind_it.names k) ≡ full_size size) same sized in
        let taken = now n in
        counted_larger (counts w.names behind_it.names list n) (rounded (full_size size)) (g n) (counted n key)
        (omega (arith, sized_n, taken))))

    -- a member of a run that gets a size, and counts
    pub run_over : (y : HugeArguments) → a.request ≡ Huge y → (id : SegId) (size : ℕ) (rest : List Change) → IsSome (entry_of p.shelf id)
        → (huge_ruling y (known_of s w) pid x.cpu).changes ≡ Resizes id.age size ∷ rest → ((n : ℕ) → key_of p.shelf n ≡ Some id.key → counts w.names behind_it.names list n ≡ true)
        → ((n : ℕ) → key_of p.shelf n ≡ Some id.key → whole (size_of (get w.names n)) ≤ g n)
        → over (λ k. if k == id.key then rounded size else base k) (length p.shelf.entries) ≤ sum_by g w.names behind_it.names list
    unfolding with_changes
    run_over y is id size rest alive first counted was =
        top_least p w next.lawful next.stands behind_it.names list g base least id.key (rounded size) (live_id p.shelf id alive).0
        (λ n key.
        counted_larger (counts w.names behind_it.names list n) (rounded size) (g n) (counted n key)
        (subst (λ (m : ℕ). rounded size ≤ g m) (name_is n key) (seen (subst (λ (m : ℕ). is_some (get w.names m) ≡ true) (sym (name_is n key)) (there n id.key key))
        (subst (λ (m : ℕ). whole (size_of (get w.names m)) ≤ g m) (sym (name_is n key)) (was n key)))))
      where
        name_is : (n : ℕ) → key_of p.shelf n ≡ Some id.key → id.age ≡ n
        name_is n key = sym (age_is p.shelf id alive) ∙ (facts n id.key key).2

        changes : List Change
        changes = Resizes id.age size ∷ rest

        names : behind_it.names ≡ (with_all before_it changes).names
        names = names_are changes (run_changes_are p s w x next live sound a following call y is ∙ first)

        seen : is_some (get w.names id.age) ≡ true → whole (size_of (get w.names id.age)) ≤ g id.age → rounded size ≤ g id.age
        seen some old = by (subst (IsSizing w.names) first (run_sizing p s w x next live sound a following call y))
          where
            sized : World
            sized = with_change before_it (Resizes id.age size)

            size_now : size_of (get sized.names id.age) ≡ size
            size_now = ap size_of (at_same id.age (sized_to size) before_it.names) ∙ size_there size (get before_it.names id.age) (still_there id.age some)

            by : IsSizing w.names changes → rounded size ≤ g id.age
            by (Cut are) = (let less = are.0 in omega (arith, less, old))
            by (Grown z are) =
                (let e = are.0.0 in
                let first = size_now in
                let floor = has_floor w.names z rest are.1 sized id.age (sound.tied.below id.age some) (omega (arith, e, first)) in
                let last : (with_all before_it changes).names ≡ (with_changes sized rest).names =
                ap (λ (q : World). q.names) (cond-false (list_any takes changes) (swept (with_changes before_it changes)) (with_changes before_it changes) (grown_takes w.names z changes are)) in
                let same = ap (λ (m : Map Segment). size_of (get m id.age)) (names ∙ last) in
                let taken = now id.age in
                omega (arith, e, floor, same, taken))

    -- a new segment that is locked
    pub make_over : (size flags : ℕ) → a.request ≡ Alloc size flags → (allocation (known_of s w) pid size flags).error ≡ 0 → MayStop (Alloc size flags)
        → over base (length p.shelf.entries) + rounded (full_size size) ≤ sum_by g w.names behind_it.names list
    unfolding with_changes
    make_over size flags is none may =
        let l = make_is (known_of s w) pid size flags none in
        let names = names_are (Makes (made_segment size flags) ∷ Holds pid l.index (held_by_call (known_of s w).next) ∷ []) (changes_are (Alloc size flags) is ∙ l.is) in
        let got : get behind_it.names w.next_name ≡ Some (made_segment size flags) = ap (λ (m : Map Segment). get m w.next_name) names ∙ put_same w.next_name (made_segment size flags) before_it.names in
        let locked : is_locked (get behind_it.names w.next_name) ≡ true = ap is_locked got ∙ ap (λ (t : Bool). nat_lt 0 (if t then 1 else 0)) may in
        let size_new : size_of (get behind_it.names w.next_name) ≡ full_size size = ap size_of got ∙ length-replicate (full_size size) 0 in
        new_least p w next.lawful next.stands behind_it.names list g base least w.next_name (rounded (full_size size)) (new p s w x next live sound a following call) (ap is_some got)
        (counted_larger (counts w.names behind_it.names list w.next_name) (rounded (full_size size)) (g w.next_name)
        (or_back (is_in w.next_name list) _ (or_back (is_locked (get w.names w.next_name)) (is_locked (get behind_it.names w.next_name)) locked))
        (let taken = now w.next_name in omega (arith, size_new, taken)))
