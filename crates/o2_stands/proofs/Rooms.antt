-- What a step needs and what all segments take are the same by names and by numbers.
use Rattle.std.proofs.Common.{◌≡◌, ℕ, zero, suc, ◌+◌, ◌-◌, ◌<◌, ◌≤◌, Bool, true, false, cond, not, ◌||◌, List, [], ◌∷◌, ◌++◌, length, map, Option, Some, None, is_some, IsSome, inl, inr, refl, sym, ap, ◌∙◌, subst, arith, if◌then◌else◌}
use Rattle.std.specs.Prelude.{filter, sum, ◌==◌, nat_lt, max, slice_get}
use Rattle.std.proofs.lemmas.Bool.{cases_lt, false≢true}
use Rattle.std.proofs.lemmas.List.{append-nil, get_or_past}
use Rattle.std.proofs.lemmas.List.Sums.{sum_by-cons}
use Rattle.o2_entries.specs.declared.Entry.{Entry}
use Rattle.o2_entries.specs.Tables.{live_numbers, slot_at}
use Rattle.o2_place.specs.declared.seg_id.SegId.{SegId}
use Rattle.o2_place.specs.Layout.{len_of, over}
use Rattle.o2_place.proofs.Sums.{over-le, over-same}
use Rattle.o2_store.specs.Loads.{block_load, live_load, memory_load, swap_load}
use Rattle.o2_store.specs.Needs.{has_age}
use Rattle.o2_store.specs.Shelf.{Shelf, IsSegmentAt, IsShelf, aged as with_age, blocks_for, entry, entry_of, entry_or, place_of, rounded}
use Rattle.o2_store.proofs.Tables.{never_gone}
use Rattle.o2_segbus.specs.Guards.{AreAged}
use Rattle.o2_segbus.specs.Seen.{key_of, number_from}
use Rattle.o2_segbus.proofs.Ages.{aged_key}
use Rattle.o2_service.specs.Needs.{AreLive, all_needed, needed, needs, size_in}
use Rattle.o2_world.specs.Map.{Map, get}
use Rattle.o2_world.specs.World.{Process, Reserve, Segment}
use Rattle.o2_world.specs.Known.{live_below}
use Rattle.o2_run.specs.Room.{is_in, is_locked, kept_size, larger, load_between, needs as takes, numbers, of_both, room_between, size_of, blocks_of, rounded as whole}
use Rattle.o2_stands.specs.Parts.{Parts}
use Rattle.o2_stands.specs.Stands.{AreLawful, IsNamed, IsSegment, StandsIn}
use Rattle.o2_stands.specs.Sums.{AreAllHere, AreAtLeast, AreAtMost, IsAmong, IsWithin, NoneGrows, SaysNeed, part_of}
use Rattle.o2_stands.proofs.Sums.{ages_are, all_sum, at_key, in_slot, is_number, live_sum, none_beside, numbers_sum, pairs_sum, picked_sum, val}

same_whole : (n : ℕ) → whole n ≡ rounded n
same_whole n = omega arith

same_key : (j k : ℕ) → (j == k) ≡ true → j ≡ k
same_key j k e = grind arith

below_all : (s : Shelf) (k : ℕ) → IsSome (slot_at s.entries k) → k < length s.entries
below_all s k x = elim (cases_lt k (length s.entries)) [
  | inl l ↦ l
  | inr l ↦ absurd (false≢true (ap is_some (sym (get_or_past s.entries k None l)) ∙ x))
]

-- The number that is found for an age has a segment of that age.

abbrev HasAge : List (Option Entry) → ℕ → ℕ → Type 0
HasAge es k n = IsSome (slot_at es k) × ((entry_or (slot_at es k)).age ≡ n)

some_is : (a b : ℕ) → Some a ≡ Some b → a ≡ b
some_is a b e = cc

none_some : (k : ℕ) → None ≡ Some k → ⊥
none_some k e = cc

has_is : (o : Option Entry) (age : ℕ) → has_age o age ≡ true → IsSome o × ((entry_or o).age ≡ age)
has_is None age h = absurd (false≢true h)
has_is (Some e) age h = (refl, same_key e.age age h)

found_from : (es : List (Option Entry)) (n b k : ℕ) → number_from n es b ≡ Some k → (b ≤ k) × HasAge es (k - b) n
found_from [] n b k q = absurd (none_some k q)
found_from (o ∷ es) n b k q = go (has_age o n) refl q (found_from es n (b + 1) k)
  where
    go : (t : Bool) → has_age o n ≡ t → cond t (Some b) (number_from n es (b + 1)) ≡ Some k
        → (number_from n es (b + 1) ≡ Some k → (b + 1 ≤ k) × HasAge es (k - (b + 1)) n) → (b ≤ k) × HasAge (o ∷ es) (k - b) n
    go true e f rest =
        (let same : b ≡ k = some_is b k f in
        let j : 0 ≡ k - b = omega (arith, same) in
        (omega (arith, same), subst (λ (i : ℕ). HasAge (o ∷ es) i n) j (has_is o n e)))
    go false e f rest =
        (let x = rest f in
        let j : suc (k - (b + 1)) ≡ k - b = omega (arith, x.0) in
        (omega (arith, x.0), subst (λ (i : ℕ). HasAge (o ∷ es) i n) j x.1))

pub found_at : (s : Shelf) (n k : ℕ) → key_of s n ≡ Some k → HasAge s.entries k n
unfolding key_of
found_at s n k q =
    let x = found_from s.entries n 0 k q in
    let j : k - 0 ≡ k = omega arith in
    subst (λ (i : ℕ). HasAge s.entries i n) j x.1

-- A sum over the ages of a store is one over its numbers.
ages_sum : (s : Shelf) → IsShelf s → AreAged s → (f h : ℕ → ℕ) → ((k : ℕ) → in_slot f k (slot_at s.entries k) ≡ h k)
    → over (λ n. at_key f (key_of s n)) s.made ≡ over h (length s.entries)
unfolding key_of
ages_sum s shelf aged f h same =
    numbers_sum f s.entries s.made (ages_are s.entries s.made aged (λ k x. (shelf.each k (below_all s k x)).young x))
    ∙ over-same (λ k. in_slot f k (slot_at s.entries k)) h (length s.entries) (λ k l. same k)

key_lives : (p : Parts) (o : Option ℕ) (v : Option Segment) → IsNamed p o v → is_some v ≡ is_some o
key_lives p None None is = refl
key_lives p (Some k) None is = absurd is
key_lives p None (Some x) is = absurd is
key_lives p (Some k) (Some x) is = refl

-- A number that isn't live is not needed.

dead_age : (age : ℕ) (o : Option Entry) → o ≡ None → IsSome (with_age age o) → ⊥
dead_age age o e i = false≢true (ap (λ (x : Option Entry). is_some (with_age age x)) (sym e) ∙ i)

not_needed : (s : Shelf) (k : ℕ) (need : List (SegId × ℕ)) → slot_at s.entries k ≡ None → ((i : ℕ) (p : SegId × ℕ) → slice_get need i ≡ Some p → IsSome (entry_of s p.0)) → needs need k ≡ false
not_needed s k [] none live = refl
not_needed s k (p ∷ ps) none live = one (not_needed s k ps none (λ i q e. live (suc i) q e)) (k == p.0.key) refl
  where
    one : needs ps k ≡ false → (b : Bool) → (k == p.0.key) ≡ b → (b || needs ps k) ≡ false
    one rest false e = rest
    one rest true e = absurd (dead_age p.0.age (slot_at s.entries p.0.key) (subst (λ (j : ℕ). slot_at s.entries j ≡ None) (same_key k p.0.key e) none) (live 0 p refl))

-- Names behind a step that were there before.

within_some : (old new : Map Segment) → IsWithin old new → (n : ℕ) → is_some (get new n) ≡ true → is_some (get old n) ≡ true
within_some old new w n s = go (get old n) refl
  where
    go : (o : Option Segment) → get old n ≡ o → is_some o ≡ true
    go (Some x) e = refl
    go None e = absurd (false≢true (ap is_some (sym (w.none n e)) ∙ s))

both_old : (old new : Map Segment) → IsWithin old new → of_both old new ≡ numbers old
both_old old new w =
    ap (λ (ns : List ℕ). numbers old ++ ns) (none_beside (numbers old) new (λ n s. is_number old n (within_some old new w n s)))
    ∙ append-nil (numbers old)

-- what is locked or needed weighs the same by name and by number
weigh : (lock was is named : Bool) (size other size2 other2 : ℕ) → (is ≡ true → (was || named) ≡ true) → lock ≡ was → max size other ≡ max size2 other2
    → (if named || (lock || is) then whole (max size other) else 0) ≡ (if was || named then rounded (max size2 other2) else 0)
weigh lock true is true size other size2 other2 h l m = ap whole m ∙ same_whole (max size2 other2)
weigh lock false is true size other size2 other2 h l m = ap whole m ∙ same_whole (max size2 other2)
weigh lock true is false size other size2 other2 h l m = ap (λ (b : Bool). if b || is then whole (max size other) else 0) l ∙ (ap whole m ∙ same_whole (max size2 other2))
weigh lock false true false size other size2 other2 h l m = absurd (false≢true (h refl))
weigh lock false false false size other size2 other2 h l m = ap (λ (b : Bool). if b || false then whole (max size other) else 0) l

-- what is neither locked nor needed doesn't count
nothing : (lock was is named : Bool) → (is ≡ true → (was || named) ≡ true) → lock ≡ was → (was || named) ≡ false → (named || (lock || is)) ≡ false
nothing lock true is named h l f = absurd (false≢true (sym f))
nothing lock false is true h l f = absurd (false≢true (sym f))
nothing lock false true false h l f = absurd (false≢true (h refl))
nothing lock false false false h l f = ap (λ (b : Bool). b || false) l

kept_le : (v : Option Segment) → kept_size v ≤ size_of v
kept_le None = omega arith
kept_le (Some x) = go x.discarded
  where
    go : (b : Bool) → (if b then 0 else length x.bytes) ≤ length x.bytes
    go true = omega arith
    go false = omega arith

positive : (c : ℕ) → nat_lt 0 c ≡ true → 0 < c
positive c f = grind arith

-- A front of a list weighs no more than the list.
front_le : (g : ℕ → ℕ) (c : ℕ → Bool) (xs ys : List ℕ) → sum (map g (filter c xs)) ≤ sum (map g (filter c (xs ++ ys)))
front_le g c [] ys = omega arith
front_le g c (x ∷ xs) ys = go (c x) (front_le g c xs ys)
  where
    go : (b : Bool) → sum (map g (filter c xs)) ≤ sum (map g (filter c (xs ++ ys)))
        → sum (map g (cond b (x ∷ filter c xs) (filter c xs))) ≤ sum (map g (cond b (x ∷ filter c (xs ++ ys)) (filter c (xs ++ ys))))
    go false rest = rest
    go true rest =
        (let a = sum_by-cons (λ (n : ℕ). n) (g x) (map g (filter c xs)) in
        let b = sum_by-cons (λ (n : ℕ). n) (g x) (map g (filter c (xs ++ ys))) in
        omega (arith, a, b, rest))

all_front_le : (g : ℕ → ℕ) (xs ys : List ℕ) → sum (map g xs) ≤ sum (map g (xs ++ ys))
all_front_le g [] ys = omega arith
all_front_le g (x ∷ xs) ys =
    let rest = all_front_le g xs ys in
    let a = sum_by-cons (λ (n : ℕ). n) (g x) (map g xs) in
    let b = sum_by-cons (λ (n : ℕ). n) (g x) (map g (xs ++ ys)) in
    omega (arith, a, b, rest)

-- a segment that isn't needed gets no size
no_size : (need : List (SegId × ℕ)) (k : ℕ) → needs need k ≡ false → size_in need k ≡ 0
no_size [] k e = refl
no_size (p ∷ ps) k e = go (k == p.0.key) refl e (no_size ps k)
  where
    go : (b : Bool) → (k == p.0.key) ≡ b → (b || needs ps k) ≡ false → (needs ps k ≡ false → size_in ps k ≡ 0) → max (if k == p.0.key then p.1 else 0) (size_in ps k) ≡ 0
    go true q f rest = absurd (false≢true (sym f))
    go false q f rest = (let r = rest f in let z : (if k == p.0.key then p.1 else 0) ≡ 0 = rw q refl in omega (arith, r, z))

-- what is counted weighs at least what is needed, and at most what it has in memory
least : (lock was is named : Bool) (size other size2 other2 : ℕ) → (was ≡ true → lock ≡ true) → (named ≡ true → is ≡ true) → size ≡ size2 → other2 ≤ max size2 other
    → (if was || named then rounded (max size2 other2) else 0) ≤ (if is || lock then whole (max size other) else 0)
least lock true is named size other size2 other2 f g e l = go (is || lock) (or_true is lock (f refl))
  where
    or_true : (a b : Bool) → b ≡ true → (a || b) ≡ true
    or_true true b q = refl
    or_true false b q = q

    go : (b : Bool) → b ≡ true → rounded (max size2 other2) ≤ (if b then whole (max size other) else 0)
    go true q = omega (arith, e, l)
    go false q = absurd (false≢true q)
least lock false is true size other size2 other2 f g e l = go (is || lock) (ap (λ (b : Bool). b || lock) (g refl))
  where
    go : (b : Bool) → b ≡ true → rounded (max size2 other2) ≤ (if b then whole (max size other) else 0)
    go true q = omega (arith, e, l)
    go false q = absurd (false≢true q)
least lock false is false size other size2 other2 f g e l = omega arith

placed_len : (o : Option (ℕ × ℕ)) (n : ℕ) → IsSome o → ((at len : ℕ) → o ≡ Some (at, len) → len ≡ n) → len_of o ≡ n
placed_len None n i f = absurd (false≢true i)
placed_len (Some r) n i f = f r.0 r.1 refl

module _ (p : Parts) (ps : List Process) (names : Map Segment) (next : ℕ) (reserved : List Reserve) (lawful : AreLawful p.shelf p.maps) (stands : StandsIn p ps names next reserved) where
  abbrev s : Shelf
  s = p.shelf

  young_names : (n : ℕ) → is_some (get names n) ≡ true → n < s.made
  young_names n x = at (key_of s n) refl
    where
      at : (o : Option ℕ) → key_of s n ≡ o → n < s.made
      at None e = absurd (false≢true (sym (key_lives p (key_of s n) (get names n) (stands.segments n) ∙ ap is_some e) ∙ x))
      at (Some k) e =
          (let a = found_at s n k e in
          let y = (lawful.shelf.each k (below_all s k a.0)).young a.0 in
          let z = a.1 in
          omega (arith, y, z))

  -- a sum over the pairs of the names is one over the numbers of the store
  pub names_sum : (h : ℕ → Segment → ℕ) (f g : ℕ → ℕ) → ((n k : ℕ) (x : Segment) → key_of s n ≡ Some k → IsSegment p k x → h n x ≡ f k)
      → ((k : ℕ) → in_slot f k (slot_at s.entries k) ≡ g k) → sum (map (λ (e : ℕ × Segment). h e.0 e.1) names) ≡ over g (length s.entries)
  names_sum h f g same all =
      pairs_sum h names s.made stands.tidy.once young_names
      ∙ (over-same (λ n. val (h n) (get names n)) (λ n. at_key f (key_of s n)) s.made (λ n l. at n (key_of s n) (get names n) refl (stands.segments n))
      ∙ ages_sum s lawful.shelf stands.ready.aged f g all)
    where
      at : (n : ℕ) (o : Option ℕ) (v : Option Segment) → key_of s n ≡ o → IsNamed p o v → val (h n) v ≡ at_key f o
      at n None None e is = refl
      at n (Some k) None e is = absurd is
      at n None (Some x) e is = absurd is
      at n (Some k) (Some x) e is = same n k x e is

  abbrev counted : Map Segment → List ℕ → ℕ → Bool
  counted new need n = is_in n need || (is_locked (get names n) || is_locked (get new n))

  name_is : (n k : ℕ) (x : Segment) → key_of s n ≡ Some k → IsSegment p k x → (v : Option Segment) → IsNamed p (Some k) v → is_locked v ≡ nat_lt 0 (entry s k).attr.lock
  name_is n k x e is None named = absurd named
  name_is n k x e is (Some y) named = ap (λ (c : ℕ). nat_lt 0 c) named.lock

  name_size : (n k : ℕ) (v : Option Segment) → IsNamed p (Some k) v → size_of v ≡ (entry s k).size
  name_size n k None named = absurd named
  name_size n k (Some y) named = named.size

  kept_is : (k : ℕ) (v : Option Segment) → IsNamed p (Some k) v → (entry s k).attr.gone ≡ false → kept_size v ≡ (entry s k).size
  kept_is k None named whole = absurd named
  kept_is k (Some y) named whole = rw (named.discarded ∙ whole) named.size

  -- what is locked, or needed where none of that is discarded, isn't discarded
  not_gone : (need : List (SegId × ℕ)) → ((k : ℕ) → needs need k ≡ true → (entry s k).attr.gone ≡ false) → (k : ℕ) → IsSome (slot_at s.entries k)
      → (nat_lt 0 (entry s k).attr.lock || needs need k) ≡ true → (entry s k).attr.gone ≡ false
  not_gone need whole k live e = by (nat_lt 0 (entry s k).attr.lock) refl e
    where
      segment : IsSegmentAt s k
      segment = lawful.shelf.each k (below_all s k live)

      locked : 0 < (entry s k).attr.lock → (g : Bool) → (entry s k).attr.gone ≡ g → g ≡ false
      locked l true f = absurd (never_gone (entry s k) (place_of s k) (segment.locked l) (segment.gone f))
      locked l false f = refl

      by : (b : Bool) → nat_lt 0 (entry s k).attr.lock ≡ b → (b || needs need k) ≡ true → (entry s k).attr.gone ≡ false
      by true f e = locked (positive (entry s k).attr.lock f) (entry s k).attr.gone refl
      by false f e = whole k e

  room_name : (new : Map Segment) (list : List ℕ) (need : List (SegId × ℕ)) → SaysNeed s names new list need → (n k : ℕ) (x : Segment) → key_of s n ≡ Some k → IsSegment p k x
      → (if counted new list n then takes names new n else 0) ≡ needed s need k
  room_name new list need w n k x e is =
      let here : IsNamed p (Some k) (get names n) = subst (λ (o : Option ℕ). IsNamed p o (get names n)) e (stands.segments n) in
      let lock = name_is n k x e is (get names n) here in
      ap (λ (b : Bool). if b || (is_locked (get names n) || is_locked (get new n)) then takes names new n else 0) (w.needed n k e)
      ∙ by here lock (nat_lt 0 (entry s k).attr.lock || needs need k) refl
    where
      by : IsNamed p (Some k) (get names n) → is_locked (get names n) ≡ nat_lt 0 (entry s k).attr.lock → (b : Bool) → (nat_lt 0 (entry s k).attr.lock || needs need k) ≡ b
          → (if needs need k || (is_locked (get names n) || is_locked (get new n)) then takes names new n else 0) ≡ needed s need k
      by here lock true f =
          weigh (is_locked (get names n)) (nat_lt 0 (entry s k).attr.lock) (is_locked (get new n)) (needs need k)
          (kept_size (get names n)) (size_of (get new n)) (entry s k).size (size_in need k) (w.locks n k e) lock
          (ap (λ (c : ℕ). max c (size_of (get new n))) (kept_is k (get names n) here (not_gone need w.whole k (found_at s n k e).0 f)) ∙ w.sizes n k e)
      by here lock false f =
          ap (λ (b : Bool). if b then takes names new n else 0)
          (nothing (is_locked (get names n)) (nat_lt 0 (entry s k).attr.lock) (is_locked (get new n)) (needs need k) (w.locks n k e) lock f)
          ∙ sym (ap (λ (b : Bool). if b then rounded (max (entry s k).size (size_in need k)) else 0) f)

  room_slot : (need : List (SegId × ℕ)) → AreLive s need → (k : ℕ) → in_slot (needed s need) k (slot_at s.entries k) ≡ needed s need k
  room_slot need live k = go (slot_at s.entries k) refl
    where
      go : (o : Option Entry) → slot_at s.entries k ≡ o → in_slot (needed s need) k o ≡ needed s need k
      go (Some e) q = refl
      go None q =
          (let lock : nat_lt 0 (entry s k).attr.lock ≡ false = ap (λ (o : Option Entry). nat_lt 0 (entry_or o).attr.lock) q in
          let none : needs need k ≡ false = not_needed s k need q live.each in
          sym (ap (λ (b : Bool). if b || needs need k then rounded (max (entry s k).size (size_in need k)) else 0) lock
          ∙ ap (λ (b : Bool). if b then rounded (max (entry s k).size (size_in need k)) else 0) none))

  -- what is needed or locked takes as much by names as by numbers
  pub room_is : (new : Map Segment) (list : List ℕ) (need : List (SegId × ℕ)) → SaysNeed s names new list need → room_between names new list ≡ all_needed s need
  room_is new list need w =
      ap (λ (ns : List ℕ). sum (map (takes names new) (filter (counted new list) ns))) (both_old names new w.within)
      ∙ (picked_sum (takes names new) (counted new list) names
      ∙ names_sum (λ n x. if counted new list n then takes names new n else 0) (needed s need) (needed s need) (room_name new list need w) (room_slot need w.live))

  grown : (size other : ℕ) → other ≤ size → max size other ≡ size
  grown size other l = omega arith

  load_name : (new : Map Segment) → NoneGrows s names new → (n k : ℕ) (x : Segment) → key_of s n ≡ Some k → IsSegment p k x → larger names new n ≡ memory_load s k
  load_name new w n k x e is =
      let here : IsNamed p (Some k) (get names n) = subst (λ (o : Option ℕ). IsNamed p o (get names n)) e (stands.segments n) in
      let size = name_size n k (get names n) here in
      ap (λ (c : ℕ). whole (max c (size_of (get new n)))) size
      ∙ (ap whole (grown (entry s k).size (size_of (get new n)) (w.sizes n k e)) ∙ same_whole (entry s k).size)

  load_slot : (k : ℕ) → in_slot (memory_load s) k (slot_at s.entries k) ≡ memory_load s k
  load_slot k = go (slot_at s.entries k) refl
    where
      go : (o : Option Entry) → slot_at s.entries k ≡ o → in_slot (memory_load s) k o ≡ memory_load s k
      go (Some e) q = refl
      go None q = sym (ap (λ (o : Option Entry). rounded (entry_or o).size) q)

  -- all that lives takes as much by names as by numbers
  pub load_is : (new : Map Segment) → NoneGrows s names new → load_between names new ≡ live_load s
  load_is new w =
      ap (λ (ns : List ℕ). sum (map (larger names new) ns)) (both_old names new w.within)
      ∙ (all_sum (larger names new) names
      ∙ names_sum (λ n x. larger names new n) (memory_load s) (memory_load s) (load_name new w) load_slot)

  blocks_name : (n k : ℕ) (x : Segment) → key_of s n ≡ Some k → IsSegment p k x → (if x.clean then 0 else blocks_of (length x.bytes)) ≡ block_load s k
  blocks_name n k x e is =
      ap (λ (b : Bool). if b then 0 else blocks_of (length x.bytes)) is.clean
      ∙ ap (λ (c : ℕ). if (entry s k).attr.clean then 0 else blocks_of c) is.size

  blocks_slot : (k : ℕ) → in_slot (block_load s) k (slot_at s.entries k) ≡ block_load s k
  blocks_slot k = go (slot_at s.entries k) refl
    where
      go : (o : Option Entry) → slot_at s.entries k ≡ o → in_slot (block_load s) k o ≡ block_load s k
      go (Some e) q = refl
      go None q = sym (ap (λ (o : Option Entry). if (entry_or o).attr.clean then 0 else blocks_for (entry_or o).size) q)

  pub swap_is : sum (map (λ (e : ℕ × Segment). if e.1.clean then 0 else blocks_of (length e.1.bytes)) names) ≡ swap_load s
  swap_is = names_sum (λ n x. if x.clean then 0 else blocks_of (length x.bytes)) (block_load s) (block_load s) blocks_name blocks_slot

  below_sum : (n : ℕ) → live_below names n ≡ over (λ k. val (λ x. 1) (get names k)) n
  unfolding live_below
  below_sum zero = refl
  below_sum (suc n) = go (get names n) (live_below names n) (below_sum n)
    where
      go : (o : Option Segment) (a : ℕ) → a ≡ over (λ k. val (λ x. 1) (get names k)) n → (if is_some o then a + 1 else a) ≡ over (λ k. val (λ x. 1) (get names k)) n + val (λ x. 1) o
      go None a e = omega (arith, e)
      go (Some x) a e = omega (arith, e)

  -- as many names live as segments
  pub count_is : live_below names next ≡ length (live_numbers 0 s.entries)
  count_is =
      ap (live_below names) stands.made
      ∙ (below_sum s.made
      ∙ (over-same (λ n. val (λ x. 1) (get names n)) (λ n. at_key (λ k. 1) (key_of s n)) s.made (λ n l. at (key_of s n) (get names n) (stands.segments n))
      ∙ (ages_sum s lawful.shelf stands.ready.aged (λ k. 1) (λ k. in_slot (λ j. 1) k (slot_at s.entries k)) (λ k. refl)
      ∙ sym (live_sum s.entries))))
    where
      at : (o : Option ℕ) (v : Option Segment) → IsNamed p o v → val (λ x. 1) v ≡ at_key (λ k. 1) o
      at None None is = refl
      at (Some k) None is = absurd is
      at None (Some x) is = absurd is
      at (Some k) (Some x) is = refl

  -- A name's weight by the number of its segment.

  aged : (h : ℕ → ℕ) → sum (map (λ (e : ℕ × Segment). h e.0) names) ≡ over (λ k. in_slot (λ j. h (entry s j).age) k (slot_at s.entries k)) (length s.entries)
  aged h =
      names_sum (λ n x. h n) (λ k. h (entry s k).age) (λ k. in_slot (λ j. h (entry s j).age) k (slot_at s.entries k))
      (λ n k x e is. ap h (sym (found_at s n k e).1)) (λ k. refl)

  named_by_key : (k : ℕ) → IsSome (slot_at s.entries k) → IsNamed p (Some k) (get names (entry s k).age)
  named_by_key k live = subst (λ (o : Option ℕ). IsNamed p o (get names (entry s k).age)) (aged_key s k stands.ready.aged live) (stands.segments (entry s k).age)

  least_slot : (new : Map Segment) (list : List ℕ) (need : List (SegId × ℕ)) → IsAmong s new list need → (k : ℕ) → needed s need k ≤ in_slot (λ j. if counted new list (entry s j).age then takes names new (entry s j).age else 0) k (slot_at s.entries k)
  least_slot new list need w k = go (slot_at s.entries k) refl
    where
      go : (o : Option Entry) → slot_at s.entries k ≡ o → needed s need k ≤ in_slot (λ j. if counted new list (entry s j).age then takes names new (entry s j).age else 0) k o
      go None q = (let z : needed s need k ≡ 0 = sym (ap (λ (o : Option Entry). in_slot (needed s need) k o) (sym q) ∙ room_slot need w.live k) in omega (arith, z))
      go (Some e) q =
          (let n = (entry s k).age in
          let live : IsSome (slot_at s.entries k) = ap is_some q in
          let here = named_by_key k live in
          let key = aged_key s k stands.ready.aged live in
          by n refl live here key (nat_lt 0 (entry s k).attr.lock || needs need k) refl)
        where
          or_left : (a b : Bool) → a ≡ true → (a || b) ≡ true
          or_left true b q = refl
          or_left false b q = absurd (false≢true q)

          locked_is : (k : ℕ) (v : Option Segment) → IsNamed p (Some k) v → is_locked v ≡ nat_lt 0 (entry s k).attr.lock
          locked_is k None named = absurd named
          locked_is k (Some y) named = ap (λ (c : ℕ). nat_lt 0 c) named.lock

          sized : (n : ℕ) (b : Bool) → needs need k ≡ b → (needs need k ≡ true → size_in need k ≤ max (entry s k).size (size_of (get new n))) → size_in need k ≤ max (entry s k).size (size_of (get new n))
          sized n true e f = f e
          sized n false e f = (let z = no_size need k e in omega (arith, z))

          by : (n : ℕ) → n ≡ (entry s k).age → IsSome (slot_at s.entries k) → IsNamed p (Some k) (get names n) → key_of s n ≡ Some k → (b : Bool) → (nat_lt 0 (entry s k).attr.lock || needs need k) ≡ b
              → needed s need k ≤ (if counted new list n then takes names new n else 0)
          by n is live here key true f =
              least (is_locked (get names n) || is_locked (get new n)) (nat_lt 0 (entry s k).attr.lock) (is_in n list) (needs need k) (kept_size (get names n)) (size_of (get new n)) (entry s k).size (size_in need k)
              (λ l. or_left (is_locked (get names n)) (is_locked (get new n)) (locked_is k (get names n) here ∙ l)) (w.named n k key) (kept_is k (get names n) here (not_gone need w.whole k live f))
              (sized n (needs need k) refl (w.sizes n k key))
          by n is live here key false f = (let z : needed s need k ≡ 0 = ap (λ (b : Bool). if b then rounded (max (entry s k).size (size_in need k)) else 0) f in omega (arith, z))

  -- what is needed is part of the room
  pub room_least : (new : Map Segment) (list : List ℕ) (need : List (SegId × ℕ)) → IsAmong s new list need → all_needed s need ≤ room_between names new list
  room_least new list need w =
      let weight : ℕ → ℕ = λ n. if counted new list n then takes names new n else 0 in
      let a = front_le (takes names new) (counted new list) (numbers names) (filter (λ n. not (is_in n (numbers names))) (numbers new)) in
      let b = picked_sum (takes names new) (counted new list) names in
      let c = aged weight in
      let d = over-le (needed s need) (λ k. in_slot (λ j. weight (entry s j).age) k (slot_at s.entries k)) (length s.entries) (λ k l. least_slot new list need w k) in
      omega (arith, a, b, c, d)

  most_slot : (new : Map Segment) (list : List ℕ) → AreAllHere s names new list → (k : ℕ) → in_slot (λ j. if counted new list (entry s j).age then takes names new (entry s j).age else 0) k (slot_at s.entries k) ≤ len_of (place_of s k)
  most_slot new list w k = go (slot_at s.entries k) refl
    where
      go : (o : Option Entry) → slot_at s.entries k ≡ o → in_slot (λ j. if counted new list (entry s j).age then takes names new (entry s j).age else 0) k o ≤ len_of (place_of s k)
      go None q = omega arith
      go (Some e) q = at (is_in n list) refl (is_locked (get names n)) refl (is_locked (get new n)) refl
        where
          n : ℕ
          n = (entry s k).age

          live : IsSome (slot_at s.entries k)
          live = ap is_some q

          key : key_of s n ≡ Some k
          key = aged_key s k stands.ready.aged live

          segment : IsSegmentAt s k
          segment = lawful.shelf.each k (below_all s k live)

          whole_len : IsSome (place_of s k) → takes names new n ≤ len_of (place_of s k)
          whole_len i =
              (let l = placed_len (place_of s k) (rounded (entry s k).size) i segment.placed in
              let a = name_size n k (get names n) (named_by_key k live) in
              let b = w.grows.sizes n k key in
              let c = kept_le (get names n) in
              omega (arith, l, a, b, c))

          lock_is : (v : Option Segment) → IsNamed p (Some k) v → is_locked v ≡ nat_lt 0 (entry s k).attr.lock
          lock_is None named = absurd named
          lock_is (Some y) named = ap (λ (c : ℕ). nat_lt 0 c) named.lock

          at : (a : Bool) → is_in n list ≡ a → (b : Bool) → is_locked (get names n) ≡ b → (d : Bool) → is_locked (get new n) ≡ d → (if a || (b || d) then takes names new n else 0) ≤ len_of (place_of s k)
          at true f b g d h = whole_len (w.here n k key (ap (λ (z : Bool). z || is_locked (get new n)) f))
          at false f true g d h = whole_len (segment.locked (positive (entry s k).attr.lock (sym (lock_is (get names n) (named_by_key k live)) ∙ g)))
          at false f false g true h = whole_len (w.here n k key (ap (λ (z : Bool). z || is_locked (get new n)) f ∙ h))
          at false f false g false h = omega arith

  -- where all is in memory the room is no more than that
  pub room_most : (new : Map Segment) (list : List ℕ) → AreAllHere s names new list → room_between names new list ≤ s.places.size
  room_most new list w =
      let weight : ℕ → ℕ = λ n. if counted new list n then takes names new n else 0 in
      let a = ap (λ (ns : List ℕ). sum (map (takes names new) (filter (counted new list) ns))) (both_old names new w.grows.within) in
      let b = picked_sum (takes names new) (counted new list) names in
      let c = aged weight in
      let d = over-le (λ k. in_slot (λ j. weight (entry s j).age) k (slot_at s.entries k)) (λ k. len_of (place_of s k)) (length s.entries) (λ k l. most_slot new list w k) in
      let e = lawful.room in
      omega (arith, a, b, c, d, e)

  load_least_slot : (new : Map Segment) (k : ℕ) → memory_load s k ≤ in_slot (λ j. larger names new (entry s j).age) k (slot_at s.entries k)
  load_least_slot new k = go (slot_at s.entries k) refl
    where
      go : (o : Option Entry) → slot_at s.entries k ≡ o → memory_load s k ≤ in_slot (λ j. larger names new (entry s j).age) k o
      go None q = (let z : (entry s k).size ≡ 0 = ap (λ (o : Option Entry). (entry_or o).size) q in omega (arith, z))
      go (Some e) q = (let a = name_size (entry s k).age k (get names (entry s k).age) (named_by_key k (ap is_some q)) in omega (arith, a))

  -- all that lives before a step is part of what lives before it or behind it
  pub load_least : (new : Map Segment) → live_load s ≤ load_between names new
  load_least new =
      let a = all_front_le (larger names new) (numbers names) (filter (λ n. not (is_in n (numbers names))) (numbers new)) in
      let b = all_sum (larger names new) names in
      let c = aged (larger names new) in
      let d = over-le (memory_load s) (λ k. in_slot (λ j. larger names new (entry s j).age) k (slot_at s.entries k)) (length s.entries) (λ k l. load_least_slot new k) in
      omega (arith, a, b, c, d)

  -- By any weight of the numbers.

  -- size, lock count and age of the segment of a name
  pub name_facts : (n k : ℕ) → key_of s n ≡ Some k
      → (size_of (get names n) ≡ (entry s k).size) × (is_locked (get names n) ≡ nat_lt 0 (entry s k).attr.lock) × ((entry s k).age ≡ n)
  name_facts n k e =
      let here : IsNamed p (Some k) (get names n) = subst (λ (o : Option ℕ). IsNamed p o (get names n)) e (stands.segments n) in
      (name_size n k (get names n) here, locked_by (get names n) here, (found_at s n k e).1)
    where
      locked_by : (v : Option Segment) → IsNamed p (Some k) v → is_locked v ≡ nat_lt 0 (entry s k).attr.lock
      locked_by None named = absurd named
      locked_by (Some y) named = ap (λ (c : ℕ). nat_lt 0 c) named.lock

  at_least_slot : (new : Map Segment) (list : List ℕ) (weight : ℕ → ℕ) → AreAtLeast s names new list weight → (k : ℕ)
      → weight k ≤ in_slot (λ j. part_of names new list (entry s j).age) k (slot_at s.entries k)
  at_least_slot new list weight w k = go (slot_at s.entries k) refl
    where
      go : (o : Option Entry) → slot_at s.entries k ≡ o → weight k ≤ in_slot (λ j. part_of names new list (entry s j).age) k o
      go None q = (let z = w.none k q in omega (arith, z))
      go (Some e) q = w.each (entry s k).age k (aged_key s k stands.ready.aged (ap is_some q))

  -- what weighs no more than the names take is part of the room
  pub room_at_least : (new : Map Segment) (list : List ℕ) (weight : ℕ → ℕ) → AreAtLeast s names new list weight → over weight (length s.entries) ≤ room_between names new list
  room_at_least new list weight w =
      let part : ℕ → ℕ = part_of names new list in
      let a = front_le (takes names new) (counted new list) (numbers names) (filter (λ n. not (is_in n (numbers names))) (numbers new)) in
      let b = picked_sum (takes names new) (counted new list) names in
      let c = aged part in
      let d = over-le weight (λ k. in_slot (λ j. part (entry s j).age) k (slot_at s.entries k)) (length s.entries) (λ k l. at_least_slot new list weight w k) in
      omega (arith, a, b, c, d)

  at_most_slot : (new : Map Segment) (list : List ℕ) (weight : ℕ → ℕ) → AreAtMost s names new list weight → (k : ℕ)
      → in_slot (λ j. part_of names new list (entry s j).age) k (slot_at s.entries k) ≤ weight k
  at_most_slot new list weight w k = go (slot_at s.entries k) refl
    where
      go : (o : Option Entry) → slot_at s.entries k ≡ o → in_slot (λ j. part_of names new list (entry s j).age) k o ≤ weight k
      go None q = omega arith
      go (Some e) q = w.each (entry s k).age k (aged_key s k stands.ready.aged (ap is_some q))

  -- the room is no more than what weighs at least what the names take
  pub room_at_most : (new : Map Segment) (list : List ℕ) (weight : ℕ → ℕ) → AreAtMost s names new list weight → room_between names new list ≤ over weight (length s.entries)
  room_at_most new list weight w =
      let part : ℕ → ℕ = part_of names new list in
      let a = ap (λ (ns : List ℕ). sum (map (takes names new) (filter (counted new list) ns))) (both_old names new w.within) in
      let b = picked_sum (takes names new) (counted new list) names in
      let c = aged part in
      let d = over-le (λ k. in_slot (λ j. part (entry s j).age) k (slot_at s.entries k)) weight (length s.entries) (λ k l. at_most_slot new list weight w k) in
      omega (arith, a, b, c, d)
