-- What the row of DosReallocHuge comes to, by what a process holds of a run.
use Rattle.std.proofs.Common.{◌≡◌, ◌≢◌, ◌⊎◌, inl, inr, ℕ, zero, suc, ◌+◌, ◌-◌, ◌*◌, ◌<◌, ◌≤◌, ◌==◌, ◌&&◌, ◌||◌, not, nat_le, nat_lt, min, Bool, true, false, cond, eqb}
use Rattle.std.proofs.Common.{List, [], ◌∷◌, ◌++◌, length, drop, replicate, filter, Option, Some, None, is_some, option_map, refl, sym, ap, ◌∙◌, subst, arith}
use Rattle.std.specs.Prelude.{find, flat_map, if◌then◌else◌}
use Rattle.std.proofs.lemmas.Bool.{and_parts, cases_lt, cond-true, cond-false, eq-eqb, eqb-true, false≢true, ne_eqb}
use Rattle.std.proofs.lemmas.Bool.Decides.{nat_tests}
use Rattle.o2_isa.specs.declared.cpu.Cpu.{Cpu}
use Rattle.o2_regions.specs.declared.held.Held.{Held}
use Rattle.o2_regions.specs.declared.held.Region.{Region}
use Rattle.o2_regions.specs.declared.held.Region.TheVariants.{Private, Shared}
use Rattle.o2_regions.specs.Kept.{AreKept}
use Rattle.o2_regions.specs.Maps.{Maps, IsProcess, end_of, held_at, holds_of, is_held, is_reserved, region_of, some_holds}
use Rattle.o2_regions.proofs.Reserves.{is_private, is_shared}
use Rattle.o2_segbus.specs.Seen.{AreNamed}
use Rattle.o2_store.specs.Shelf.{entry}
use Rattle.o2_stands.specs.Knows.{Others, known_in, marks_under as marks_of}
use Rattle.o2_stands.specs.Parts.{Parts, held_in, held_of}
use Rattle.o2_world.specs.Changes.{Change}
use Rattle.o2_world.specs.Known.{Known, Marks}
use Rattle.o2_world.specs.HugeRulings.{all_bytes, all_dropped, bytes_of, dropped_members, flags_in, is_unheld, left_in_run, new_members, other_shares, resized_members, resized_one, run_changes, run_resized, segments_of, share_of, size_in, sizes_of}
use Rattle.o2_world.specs.Rulings.{Ruling, grants, in_use, indexes, members, refusal}
use Rattle.o2_world.specs.SharedRulings.{holder, marks_under, shared_from}
use Rattle.o2_world.specs.World.{Held as WorldHeld}
use Rattle.o2_segs.proofs.Selecting.{marks_are}
use Rattle.o2_huge.specs.Growth.{AreMembers, bytes_there, is_cut_used, is_of_run, last_kept, last_size, lost_in, lost_there, share_by, share_there, shares_in, size_there, sized_there}
use Rattle.o2_huge.specs.Resized.{changed_in, flags_there, is_member, is_member_in, run_count, run_fault, sized_last}
use Rattle.o2_stands.specs.Runs.{AreFull, AreRuns, Covers, IsMember}
use Rattle.o2_huge.proofs.Stretch.{backs, bytes_are, drop_indexes, drop_sizes, fronts, members_front, more_wanted, no_members, resized_are, used_by_both}

-- Of one hold.

pub in_run : (first : ℕ) (h : Held) → is_of_run first h ≡ true → (h.reserved ≢ 0) × (h.first ≡ first)
in_run first h e =
    let t = and_parts (not (eqb h.reserved 0)) (eqb h.first first) e in
    (λ z. false≢true (sym (ap not (eq-eqb h.reserved 0 z)) ∙ t.0), eqb-true h.first first t.1)

is_in : (first : ℕ) (h : Held) → h.reserved ≢ 0 → h.first ≡ first → is_of_run first h ≡ true
is_in first h some e = both (not (eqb h.reserved 0)) (eqb h.first first) (ap not (ne_eqb h.reserved 0 some)) (eq-eqb h.first first e)
  where
    both : (a b : Bool) → a ≡ true → b ≡ true → (a && b) ≡ true
    both true b e f = f
    both false b e f = absurd (false≢true e)

pos : (x : ℕ) → x ≢ 0 → 0 < x
pos zero e = absurd (e refl)
pos (suc x) e = omega arith

some_in : (m : Maps) (q j : ℕ) → is_some (held_in m q j) ≡ is_some (held_at m q j)
unfolding held_in
some_in m q j = go (held_at m q j)
  where
    go : (o : Option Held) → is_some (option_map (held_of m q j) o) ≡ is_some o
    go None = refl
    go (Some h) = refl

there_name : (m : Maps) (q j : ℕ) (y : Held) → held_at m q j ≡ Some y → held_in m q j ≡ Some (held_of m q j y)
unfolding held_in
there_name m q j y e = ap (option_map (held_of m q j)) e

-- nobody among the processes holds an index, or one does
none_found : (f : ℕ → Bool) (from count : ℕ) → ((n : ℕ) → f n ≡ false) → find f (indexes from count) ≡ None
none_found f from zero none = refl
none_found f from (suc count) none = cond-false (f from) (Some from) (find f (indexes (from + 1) count)) (none from) ∙ none_found f (from + 1) count none

one_found : (f : ℕ → Bool) (from count n : ℕ) → from ≤ n → n < from + count → f n ≡ true → is_some (find f (indexes from count)) ≡ true
one_found f from zero n low high e = absurd (omega (arith, low, high))
one_found f from (suc count) n low high e = go (f from) refl (λ next. one_found f (from + 1) count n next (omega (arith, high)) e)
  where
    later : (b : Bool) → eqb from n ≡ b → f from ≡ false → from + 1 ≤ n
    later true s h = absurd (false≢true (sym h ∙ ap f (eqb-true from n s) ∙ e))
    later false s h = grind arith

    go : (b : Bool) → f from ≡ b → (from + 1 ≤ n → is_some (find f (indexes (from + 1) count)) ≡ true) → is_some (cond b (Some from) (find f (indexes (from + 1) count))) ≡ true
    go true h rest = refl
    go false h rest = rest (later (eqb from n) refl h)

module _ (p : Parts) (o : Others) (kept : AreKept p.maps) (named : AreNamed p.shelf p.maps) (runs : AreRuns p.maps) (full : AreFull p.shelf p.maps) (count_is : o.processes ≡ p.maps.processes)
    (pid first n : ℕ) (h : Held) (there_is : IsProcess p.maps pid) (here : held_at p.maps pid first ≡ Some h) (run : is_of_run first h ≡ true)
    (few : n ≤ run_count first h) (front : AreMembers p.maps pid first first (first + n)) (last : n < run_count first h → is_member_in p.maps pid first (first + n) ≡ false) where
  abbrev k : Known
  k = known_in p o

  member : IsMember p.maps pid first h
  member = record { there = here; run = (in_run first h run).0 }

  first_is : h.first ≡ first
  first_is = (in_run first h run).1

  region_is : (i : ℕ) → end_of (region_of pid i) ≡ end_of (region_of 0 i)
  region_is i = go (nat_lt i 4096)
    where
      go : (b : Bool) → end_of (cond b (Private pid) Shared) ≡ end_of (cond b (Private 0) Shared)
      go true = refl
      go false = refl

  pub whole : run_count first h ≡ h.reserved
  whole =
      let a = runs.end pid first h member in
      let b : first + h.reserved ≤ end_of (region_of 0 first) = (let e = first_is in let f = ap (λ (x : ℕ). end_of (region_of pid x)) e ∙ region_is first in omega (arith, a, e, f)) in
      omega (arith, b)

  few_all : n ≤ h.reserved
  few_all = let e = whole in omega (arith, few, e)

  covers : (j : ℕ) → first ≤ j → j < first + h.reserved → Covers h j
  covers j low high = let e = first_is in (omega (arith, e, low), omega (arith, e, high))

  pub some : 0 < n
  some = go n refl
    where
      go : (x : ℕ) → n ≡ x → 0 < n
      go zero e = (
          let z : 0 < h.reserved = pos h.reserved (in_run first h run).0 in
          let l : n < run_count first h = (let w = whole in omega (arith, e, w, z)) in
          let f : first + n ≡ first = omega (arith, e) in
          absurd (false≢true (sym (last l) ∙ ap (λ (i : ℕ). is_member_in p.maps pid first i) f ∙ ap (is_member first) here ∙ run)))
      go (suc x) e = omega (arith, e)

  -- what the process holds from its members on, nothing
  own_free : (j : ℕ) → first + n ≤ j → j < first + h.reserved → held_at p.maps pid j ≡ None
  own_free j low high = go (held_at p.maps pid j) refl
    where
      go : (x : Option Held) → held_at p.maps pid j ≡ x → x ≡ None
      go None e = refl
      go (Some y) e = (
          let one = runs.whole pid first h member pid j y e (covers j (omega (arith, low)) high) (inl refl) in
          let is : IsMember p.maps pid j y = record { there = e; run = λ z. member.run (sym one.1 ∙ z) } in
          let w = whole in
          let l : n < run_count first h = omega (arith, low, high, w) in
          let often = runs.front pid j y is (first + n) (let a = one.0 in let b = first_is in omega (arith, a, b)) low in
          let two = runs.whole pid first h member pid (first + n) often.held often.there (covers (first + n) (omega arith) (omega (arith, l, w))) (inl refl) in
          let in_it : is_member_in p.maps pid first (first + n) ≡ true = ap (is_member first) often.there ∙ is_in first often.held (λ z. member.run (sym two.1 ∙ z)) (two.0 ∙ first_is) in
          absurd (false≢true (sym (last l) ∙ in_it)))

  -- nor does anybody else at a shared index
  all_free : 4096 ≤ first → (q j : ℕ) → first + n ≤ j → j < first + h.reserved → held_at p.maps q j ≡ None
  all_free high q j from to = go (held_at p.maps q j) refl
    where
      go : (x : Option Held) → held_at p.maps q j ≡ x → x ≡ None
      go None e = refl
      go (Some y) e = (
          let one = runs.whole pid first h member q j y e (covers j (omega (arith, from)) to) (inr (omega (arith, high, from))) in
          let is : IsMember p.maps q j y = record { there = e; run = λ z. member.run (sym one.1 ∙ z) } in
          let held = runs.all q j y is pid first h member (inr (omega (arith, high, from))) (sym one.0, sym one.1) in
          absurd (false≢true (sym (ap is_some (own_free j from to)) ∙ held)))

  -- the region of the indexes of the run is that of the first one
  low_all : (j : ℕ) → first < 4096 → first ≤ j → j < first + h.reserved → j < 4096
  low_all j low from to =
      let a = runs.end pid first h member in
      let e : end_of (region_of pid h.first) ≡ 4096 = ap (λ (x : ℕ). end_of (region_of pid x)) first_is ∙ ap end_of (is_private pid first low) in
      let f = first_is in
      omega (arith, a, e, f, to)

  start_high : (j : ℕ) → first ≤ j → j < first + h.reserved → 4096 ≤ j → 4096 ≤ first
  start_high j from to l = elim (cases_lt first 4096) [
    | inl low ↦ absurd (let x = low_all j low from to in omega (arith, x, l))
    | inr x ↦ x
  ]

  held_member : (j : ℕ) → first ≤ j → j < first + n → (y : Held) × (held_at p.maps pid j ≡ Some y) × (is_of_run first y ≡ true)
  held_member j from to = let x = front j from to in (x.held, x.there, x.run)

  held_some : (j : ℕ) → first ≤ j → j < first + n → is_some (held_in p.maps pid j) ≡ true
  held_some j from to = some_in p.maps pid j ∙ ap is_some (held_member j from to).1

  held_none : (j : ℕ) → first + n ≤ j → j < first + h.reserved → is_some (held_in p.maps pid j) ≡ false
  held_none j from to = some_in p.maps pid j ∙ ap is_some (own_free j from to)

  abbrev hold : WorldHeld
  hold = held_of p.maps pid first h

  pub members_are : members k pid first hold ≡ indexes first n
  members_are =
      cond-false (eqb h.reserved 0) (first ∷ []) (filter (λ (i : ℕ). is_some (held_in p.maps pid i)) (indexes h.first h.reserved)) (ne_eqb h.reserved 0 member.run)
      ∙ ap (λ (i : ℕ). filter (λ (i : ℕ). is_some (held_in p.maps pid i)) (indexes i h.reserved)) first_is
      ∙ fronts (λ (i : ℕ). is_some (held_in p.maps pid i)) first n h.reserved few_all held_some held_none

  holder_is : (j : ℕ) → holder k j ≡ find (λ (q : ℕ). is_some (held_in p.maps q j)) (indexes 1 p.maps.processes)
  holder_is j = ap (λ (c : ℕ). find (λ (q : ℕ). is_some (held_in p.maps q j)) (indexes 1 c)) count_is

  unheld_not : (j : ℕ) → first ≤ j → j < first + n → is_unheld k pid j ≡ false
  unheld_not j from to = go (nat_le 4096 j)
    where
      found : is_some (holder k j) ≡ true
      found = ap is_some (holder_is j) ∙ one_found (λ (q : ℕ). is_some (held_in p.maps q j)) 1 p.maps.processes pid there_is.0 (let a = there_is.1 in omega (arith, a)) (held_some j from to)

      go : (b : Bool) → cond b (not (is_some (holder k j))) (not (is_some (held_in p.maps pid j))) ≡ false
      go true = ap not found
      go false = ap not (held_some j from to)

  unheld_is : (j : ℕ) → first + n ≤ j → j < first + h.reserved → is_unheld k pid j ≡ true
  unheld_is j from to = go (nat_le 4096 j) refl
    where
      high : nat_le 4096 j ≡ true → 4096 ≤ j
      high e = grind (arith, nat_tests)

      go : (b : Bool) → nat_le 4096 j ≡ b → cond b (not (is_some (holder k j))) (not (is_some (held_in p.maps pid j))) ≡ true
      go true e = ap (λ (x : Option ℕ). not (is_some x)) (holder_is j
          ∙ none_found (λ (q : ℕ). is_some (held_in p.maps q j)) 1 p.maps.processes (λ q. some_in p.maps q j ∙ ap is_some (all_free (start_high j (omega (arith, from)) to (high e)) q j from to)))
      go false e = ap not (held_none j from to)

  pub left_are : left_in_run k pid hold ≡ indexes (first + n) (h.reserved - n)
  left_are =
      ap (λ (i : ℕ). filter (is_unheld k pid) (indexes i h.reserved)) first_is
      ∙ backs (is_unheld k pid) first n h.reserved few_all unheld_not unheld_is

  -- The indexes behind the members are vacant.

  none_hold : (j c : ℕ) → ((q : ℕ) → held_at p.maps q j ≡ None) → some_holds p.maps j c ≡ false
  unfolding some_holds
  none_hold j zero none = refl
  none_hold j (suc c) none = ap (λ (x : Option Held). is_some x || some_holds p.maps j c) (none (c + 1)) ∙ none_hold j c none

  free_there : (j : ℕ) → first + n ≤ j → j < first + h.reserved → is_held p.maps (region_of pid j) j ≡ false
  free_there j from to = elim (cases_lt j 4096) [
    | inl low ↦ subst (λ (g : Region). is_held p.maps g j ≡ false) (sym (is_private pid j low)) (ap is_some (own_free j from to))
    | inr high ↦ subst (λ (g : Region). is_held p.maps g j ≡ false) (sym (is_shared pid j high))
        (none_hold j p.maps.processes (λ q. all_free (start_high j (omega (arith, from)) to high) q j from to))
  ]

  pub vacant_there : (j : ℕ) → first + n ≤ j → j < first + h.reserved → (is_reserved p.maps (region_of pid j) j ≡ false) ⊎ (is_held p.maps (region_of pid j) j ≡ true) → ⊥
  vacant_there j from to lack =
      let free = free_there j from to in
      let taken = runs.taken pid first h member j (covers j (omega (arith, from)) to) in
      let reserved : is_reserved p.maps (region_of pid j) j ≡ true = sym (ap (λ (b : Bool). b || is_reserved p.maps (region_of pid j) j) free) ∙ taken in
      elim lack [ inl e ↦ false≢true (sym e ∙ reserved) | inr e ↦ false≢true (sym free ∙ e) ]

  -- Of each member.

  marks_there : (j : ℕ) (y : Held) → held_at p.maps pid j ≡ Some y → marks_under k (k.held pid j) ≡ Some (marks_of p o y.id.age y.id.key)
  marks_there j y e = ap (marks_under k) (there_name p.maps pid j y e) ∙ marks_are p o named pid j y e

  size_is : (j : ℕ) (y : Held) → held_at p.maps pid j ≡ Some y → size_in (marks_under k (k.held pid j)) ≡ size_there p.shelf (held_at p.maps pid j)
  size_is j y e = ap size_in (marks_there j y e) ∙ sym (ap (size_there p.shelf) e)

  size_full : (j : ℕ) → first ≤ j → j + 1 < first + n → size_there p.shelf (held_at p.maps pid j) ≡ 65536
  size_full j from to =
      let x = held_member j from (omega (arith, to)) in
      let z = held_member (j + 1) (omega (arith, from)) to in
      let r = in_run first x.0 x.2 in
      let same = runs.whole pid first h member pid j x.0 x.1 (covers j from (let f = few_all in omega (arith, to, f))) (inl refl) in
      ap (size_there p.shelf) x.1
      ∙ full.sized pid j x.0 (record { there = x.1; run = r.0 })
      ((let a = r.1 in omega (arith, a, from)), (let a = r.1 in let b = same.1 in let f = few_all in omega (arith, a, b, f, to)))
      (ap is_some z.1)

  one_sized : (z j : ℕ) → first ≤ j → j < first + n → resized_one z (k.held pid j) (marks_under k (k.held pid j)) ≡ sized_there p.shelf z (held_at p.maps pid j)
  one_sized z j from to =
      let x = held_member j from to in
      ap (λ (m : Option Marks). resized_one z (k.held pid j) m) (marks_there j x.0 x.1)
      ∙ ap (λ (y : Option WorldHeld). resized_one z y (Some (marks_of p o x.0.id.age x.0.id.key))) (there_name p.maps pid j x.0 x.1)
      ∙ sym (ap (sized_there p.shelf z) x.1)

  not_sized : (j : ℕ) → first ≤ j → j + 1 < first + n → resized_one 0 (k.held pid j) (marks_under k (k.held pid j)) ≡ []
  not_sized j from to =
      let x = held_member j from (omega (arith, to)) in
      let s : (entry p.shelf x.0.id.key).size ≡ 65536 = sym (ap (size_there p.shelf) x.1) ∙ size_full j from to in
      one_sized 0 j from (omega (arith, to)) ∙ ap (sized_there p.shelf 0) x.1
      ∙ cond-true (eqb (entry p.shelf x.0.id.key).size 65536) [] _ (eq-eqb (entry p.shelf x.0.id.key).size 65536 s)

  pred : n ≡ suc (n - 1)
  pred = let s = some in omega (arith, s)

  pub sizes_are : (segs part : ℕ) → 0 < segments_of segs part → resized_members k pid (indexes first n) (sizes_of segs part) ≡ sized_last p.shelf p.maps pid first n segs part
  sizes_are segs part wanted =
      let s = some in
      ap (λ (x : ℕ). resized_members k pid (indexes first x) (sizes_of segs part)) pred
      ∙ resized_are k pid first (n - 1) segs part wanted (λ j from to. not_sized j from (omega (arith, to, s)))
      ∙ sym (ap (λ (x : ℕ). resized_one (if nat_lt x (segments_of segs part) then 0 else part) (k.held pid (first + (min x (segments_of segs part) - 1))) (marks_under k (k.held pid (first + (min x (segments_of segs part) - 1))))) pred)
      ∙ one_sized (last_size n segs part) (last_kept first n segs part) (omega arith) (omega (arith, s, wanted))

  pub bytes_all : all_bytes k pid (indexes first n) ≡ bytes_there n (size_there p.shelf (held_at p.maps pid (first + (n - 1))))
  bytes_all =
      let s = some in
      let y = held_member (first + (n - 1)) (omega arith) (omega (arith, s)) in
      ap (λ (x : ℕ). all_bytes k pid (indexes first x)) pred
      ∙ bytes_are k pid first (n - 1) (λ j from to. (let x = held_member j from (omega (arith, to, s)) in size_is j x.0 x.1 ∙ size_full j from (omega (arith, to, s))))
      ∙ ap (λ (x : ℕ). (n - 1) * 65536 + x) (size_is (first + (n - 1)) y.0 y.1)

  -- What goes, and who gets what comes.

  lost_are : (is : List ℕ) → dropped_members k pid is ≡ lost_in p.maps pid is
  unfolding held_in
  lost_are [] = refl
  lost_are (i ∷ is) = ap (λ (cs : List Change). cs ++ dropped_members k pid is) (one (held_at p.maps pid i)) ∙ ap (λ (cs : List Change). lost_there pid i (held_at p.maps pid i) ++ cs) (lost_are is)
    where
      one : (x : Option Held) → all_dropped pid i (option_map (held_of p.maps pid i) x) ≡ lost_there pid i x
      one None = refl
      one (Some y) = refl

  shares_are : other_shares k pid first ≡ shares_in p.maps pid first
  unfolding held_in
  shares_are = ap (λ (xs : List (ℕ × ℕ)). cond (nat_le 4096 first) xs []) (each (indexes 1 o.processes) ∙ ap (λ (c : ℕ). flat_map (share_by p.maps pid first) (indexes 1 c)) count_is)
    where
      one : (q : ℕ) (x : Option Held) → share_of first q (option_map (held_of p.maps q first) x) ≡ share_there first q x
      one q None = refl
      one q (Some y) = refl

      each : (qs : List ℕ) → flat_map (λ (m : ℕ). if m == pid then [] else share_of first m (option_map (held_of p.maps m first) (held_at p.maps m first))) qs ≡ flat_map (share_by p.maps pid first) qs
      each [] = refl
      each (q ∷ qs) =
          ap (λ (xs : List (ℕ × ℕ)). cond (eqb q pid) [] xs ++ flat_map (λ (m : ℕ). if m == pid then [] else share_of first m (option_map (held_of p.maps m first) (held_at p.maps m first))) qs) (one q (held_at p.maps q first))
          ∙ ap (λ (xs : List (ℕ × ℕ)). share_by p.maps pid first q ++ xs) (each qs)

  flags_are : flags_in (k.segment h.id.age) ≡ flags_there p.shelf (held_at p.maps pid first)
  flags_are = ap flags_in (marks_are p o named pid first h here) ∙ sym (ap (flags_there p.shelf) here)

  -- All changes.

  sizes_long : (segs part : ℕ) → length (sizes_of segs part) ≡ segments_of segs part
  sizes_long segs part = go segs (part == 0)
    where
      go : (x : ℕ) (b : Bool) → length (replicate x 0 ++ cond b [] (part ∷ [])) ≡ cond b x (x + 1)
      go zero true = refl
      go zero false = omega arith
      go (suc x) true = ap suc (go x true)
      go (suc x) false = ap suc (go x false) ∙ omega arith

  indexes_long : (a t : ℕ) → length (indexes a t) ≡ t
  indexes_long a zero = refl
  indexes_long a (suc t) = ap suc (indexes_long (a + 1) t)

  drop_short : (m : ℕ) (xs : List ℕ) → length xs ≤ m → drop m xs ≡ []
  drop_short zero [] l = refl
  drop_short zero (x ∷ xs) l = absurd (omega (arith, l))
  drop_short (suc m) [] l = refl
  drop_short (suc m) (x ∷ xs) l = drop_short m xs (omega (arith, l))

  append_none : (xs : List Change) → xs ++ [] ≡ xs
  append_none [] = refl
  append_none (x ∷ xs) = ap (λ (ys : List Change). x ∷ ys) (append_none xs)

  module _ (segs part : ℕ) (wanted : 0 < segments_of segs part) (enough : segments_of segs part ≤ run_count first h) where
    abbrev w : ℕ
    w = segments_of segs part

    abbrev zs : List ℕ
    zs = sizes_of segs part

    abbrev news : List ℕ → List ℕ → List Change
    news is ys = new_members p.shelf.made first h.reserved (flags_there p.shelf (held_at p.maps pid first)) ((pid, h.holds) ∷ shares_in p.maps pid first) is ys

    few_full : n < w → n ≤ segs
    few_full l = go (part == 0) l
      where
        go : (b : Bool) → n < cond b segs (segs + 1) → n ≤ segs
        go true l = omega (arith, l)
        go false l = omega (arith, l)

    behind : (b : Bool) → nat_lt n w ≡ b
        → news (left_in_run k pid hold) (drop n zs) ++ lost_in p.maps pid (drop w (indexes first n))
        ≡ cond b (news (indexes (first + n) (w - n)) (sizes_of (segs - n) part)) (lost_in p.maps pid (indexes (first + w) (n - w)))
    behind true e =
        let l : n < w = grind (arith, nat_tests) in
        let z : n - w ≡ 0 = omega (arith, l) in
        let long : length (sizes_of (segs - n) part) ≡ w - n = sizes_long (segs - n) part ∙ more_wanted n segs part l in
        let fits : length (sizes_of (segs - n) part) ≤ h.reserved - n = (let a = enough in let b = whole in omega (arith, long, a, b)) in
        ap (λ (is : List ℕ). news (left_in_run k pid hold) (drop n zs) ++ lost_in p.maps pid is) (drop_indexes w first n ∙ ap (indexes (first + w)) z)
        ∙ append_none (news (left_in_run k pid hold) (drop n zs))
        ∙ ap (λ (is : List ℕ). news is (drop n zs)) left_are
        ∙ ap (news (indexes (first + n) (h.reserved - n))) (drop_sizes n segs part (few_full l))
        ∙ members_front p.shelf.made first h.reserved (flags_there p.shelf (held_at p.maps pid first)) ((pid, h.holds) ∷ shares_in p.maps pid first) (first + n) (h.reserved - n) (sizes_of (segs - n) part) fits
        ∙ ap (λ (c : ℕ). news (indexes (first + n) c) (sizes_of (segs - n) part)) long
    behind false e =
        let l : w ≤ n = grind (arith, nat_tests) in
        let short : length zs ≤ n = (let a = sizes_long segs part in omega (arith, a, l)) in
        ap (λ (ys : List ℕ). news (left_in_run k pid hold) ys ++ lost_in p.maps pid (drop w (indexes first n))) (drop_short n zs short)
        ∙ ap (λ (cs : List Change). cs ++ lost_in p.maps pid (drop w (indexes first n))) (no_members p.shelf.made first h.reserved (flags_there p.shelf (held_at p.maps pid first)) ((pid, h.holds) ∷ shares_in p.maps pid first) (left_in_run k pid hold))
        ∙ ap (lost_in p.maps pid) (drop_indexes w first n)

    pub changes_are : run_changes k pid hold (indexes first n) zs ≡ sized_last p.shelf p.maps pid first n segs part ++ changed_in p.shelf p.maps pid first (run_count first h) n segs part
    changes_are =
        ap (λ (cs : List Change). cs ++ (new_members p.shelf.made h.first h.reserved (flags_in (k.segment h.id.age)) ((pid, h.holds) ∷ other_shares k pid h.first) (left_in_run k pid hold) (drop (length (indexes first n)) zs)
        ++ dropped_members k pid (drop (length zs) (indexes first n)))) (sizes_are segs part wanted)
        ∙ ap (λ (cs : List Change). sized_last p.shelf p.maps pid first n segs part ++ cs) (
        ap (λ (f : ℕ). new_members p.shelf.made f h.reserved (flags_in (k.segment h.id.age)) ((pid, h.holds) ∷ other_shares k pid f) (left_in_run k pid hold) (drop (length (indexes first n)) zs)
        ++ dropped_members k pid (drop (length zs) (indexes first n))) first_is
        ∙ ap (λ (g : ℕ). new_members p.shelf.made first h.reserved g ((pid, h.holds) ∷ other_shares k pid first) (left_in_run k pid hold) (drop (length (indexes first n)) zs)
        ++ dropped_members k pid (drop (length zs) (indexes first n))) flags_are
        ∙ ap (λ (ps : List (ℕ × ℕ)). new_members p.shelf.made first h.reserved (flags_there p.shelf (held_at p.maps pid first)) ((pid, h.holds) ∷ ps) (left_in_run k pid hold) (drop (length (indexes first n)) zs)
        ++ dropped_members k pid (drop (length zs) (indexes first n))) shares_are
        ∙ ap (λ (x : ℕ). news (left_in_run k pid hold) (drop x zs) ++ dropped_members k pid (drop (length zs) (indexes first n))) (indexes_long first n)
        ∙ ap (λ (x : ℕ). news (left_in_run k pid hold) (drop n zs) ++ dropped_members k pid (drop x (indexes first n))) (sizes_long segs part)
        ∙ ap (λ (cs : List Change). news (left_in_run k pid hold) (drop n zs) ++ cs) (lost_are (drop w (indexes first n)))
        ∙ behind (nat_lt n w) refl
        ∙ ap (λ (c : ℕ). cond (nat_lt n w) (new_members p.shelf.made first c (flags_there p.shelf (held_at p.maps pid first))
        ((pid, h.holds) ∷ shares_in p.maps pid first) (indexes (first + n) (w - n)) (sizes_of (segs - n) part))
        (lost_in p.maps pid (indexes (first + w) (n - w)))) (sym whole)
        ∙ ap (λ (x : Option Held). cond (nat_lt n w) (new_members p.shelf.made first (run_count first h) (flags_there p.shelf (held_at p.maps pid first)) ((pid, holds_of x) ∷ shares_in p.maps pid first) (indexes (first + n) (w - n)) (sizes_of (segs - n) part))
        (lost_in p.maps pid (indexes (first + w) (n - w)))) (sym here))

  -- The ruling.

  by_fault : (a b d : Bool) (r : Ruling) (e : ℕ) → (if a then Some 87 else (if b then Some 8 else (if d then Some 5 else None))) ≡ Some e
      → (if a then refusal 87 else (if b then refusal 8 else (if d then refusal 5 else r))) ≡ refusal e
  by_fault true b d r e f = let z : 87 ≡ e = cc in ap refusal z
  by_fault false true d r e f = let z : 8 ≡ e = cc in ap refusal z
  by_fault false false true r e f = let z : 5 ≡ e = cc in ap refusal z
  by_fault false false false r e f = absurd (cc)

  by_none : (a b d : Bool) (r : Ruling) → (let x : Option ℕ = if a then Some 87 else (if b then Some 8 else (if d then Some 5 else None)) in x) ≡ None
      → ((if a then refusal 87 else (if b then refusal 8 else (if d then refusal 5 else r))) ≡ r) × (a ≡ false) × (b ≡ false)
  by_none true b d r f = absurd (cc)
  by_none false true d r f = absurd (cc)
  by_none false false true r f = absurd (cc)
  by_none false false false r f = (refl, refl, refl)

  module _ (segs part : ℕ) (c : Cpu) where
    abbrev m : ℕ
    m = segments_of segs part

    abbrev lacks : Bool
    lacks = nat_lt h.reserved m

    abbrev denied : Bool
    denied = (nat_le shared_from first && nat_lt (bytes_of segs part) (bytes_there n (size_there p.shelf (held_at p.maps pid (first + (n - 1)))))) || is_cut_used c (first + m) (n - m)

    abbrev rest : Ruling
    rest = if nat_lt k.most (k.count + (m - length (indexes first n))) || nat_lt (length (indexes first n) + length (left_in_run k pid hold)) m then refusal 8 else grants 0 (run_changes k pid hold (indexes first n) (sizes_of segs part))

    denied_is : ((nat_le shared_from hold.first && nat_lt (bytes_of segs part) (all_bytes k pid (indexes first n))) || in_use c (drop m (indexes first n))) ≡ denied
    denied_is =
        ap (λ (x : ℕ). (nat_le shared_from x && nat_lt (bytes_of segs part) (all_bytes k pid (indexes first n))) || in_use c (drop m (indexes first n))) first_is
        ∙ ap (λ (x : ℕ). (nat_le shared_from first && nat_lt (bytes_of segs part) x) || in_use c (drop m (indexes first n))) bytes_all
        ∙ ap (λ (b : Bool). (nat_le shared_from first && nat_lt (bytes_of segs part) (bytes_there n (size_there p.shelf (held_at p.maps pid (first + (n - 1)))))) || b)
        (ap (in_use c) (drop_indexes m first n) ∙ used_by_both c (indexes (first + m) (n - m)))

    resized_is : run_resized k pid segs part c hold (members k pid first hold) ≡ (if m == 0 then refusal 87 else (if lacks then refusal 8 else (if denied then refusal 5 else rest)))
    resized_is =
        ap (run_resized k pid segs part c hold) members_are
        ∙ ap (λ (b : Bool). if m == 0 then refusal 87 else (if lacks then refusal 8 else (if b then refusal 5 else rest))) denied_is

    fault_as : run_fault p.shelf p.maps pid first (run_count first h) n segs part c ≡ (if m == 0 then Some 87 else (if lacks then Some 8 else (if denied then Some 5 else None)))
    fault_as = ap (λ (x : ℕ). if m == 0 then Some 87 else (if nat_lt x m then Some 8 else (if denied then Some 5 else None))) whole

    pub fault_ruling : (e : ℕ) → run_fault p.shelf p.maps pid first (run_count first h) n segs part c ≡ Some e → run_resized k pid segs part c hold (members k pid first hold) ≡ refusal e
    fault_ruling e f = resized_is ∙ by_fault (m == 0) lacks denied rest e (sym fault_as ∙ f)

    no_fault : run_fault p.shelf p.maps pid first (run_count first h) n segs part c ≡ None → (run_resized k pid segs part c hold (members k pid first hold) ≡ rest) × (0 < m) × (m ≤ h.reserved)
    no_fault f =
        let x = by_none (m == 0) lacks denied rest (sym fault_as ∙ f) in
        (resized_is ∙ x.0, (let e = x.1 in above m e), (let e = x.2 in within h.reserved m e))
      where
        above : (x : ℕ) → (x == 0) ≡ false → 0 < x
        above x e = grind arith

        within : (r x : ℕ) → nat_lt r x ≡ false → x ≤ r
        within r x e = grind (arith, nat_tests)

    long : length (indexes first n) ≡ n
    long = indexes_long first n

    left_enough : m ≤ h.reserved → nat_lt (length (indexes first n) + length (left_in_run k pid hold)) m ≡ false
    left_enough l =
        let f = few_all in
        let e : length (indexes first n) + length (left_in_run k pid hold) ≡ h.reserved = (let a = long in let b = ap length left_are ∙ indexes_long (first + n) (h.reserved - n) in omega (arith, a, b, f)) in
        ap (λ (x : ℕ). nat_lt x m) e ∙ not_less h.reserved m l
      where
        not_less : (r x : ℕ) → x ≤ r → nat_lt r x ≡ false
        not_less r x l = grind (arith, nat_tests)

    pub full_ruling : run_fault p.shelf p.maps pid first (run_count first h) n segs part c ≡ None → nat_lt k.most (k.count + (m - n)) ≡ true → run_resized k pid segs part c hold (members k pid first hold) ≡ refusal 8
    full_ruling f many =
        (no_fault f).0
        ∙ cond-true (nat_lt k.most (k.count + (m - length (indexes first n))) || nat_lt (length (indexes first n) + length (left_in_run k pid hold)) m) (refusal 8) _
        (ap (λ (x : ℕ). nat_lt k.most (k.count + (m - x)) || nat_lt (length (indexes first n) + length (left_in_run k pid hold)) m) long
        ∙ ap (λ (b : Bool). b || nat_lt (length (indexes first n) + length (left_in_run k pid hold)) m) many)

    pub good_ruling : run_fault p.shelf p.maps pid first (run_count first h) n segs part c ≡ None → nat_lt k.most (k.count + (m - n)) ≡ false
        → run_resized k pid segs part c hold (members k pid first hold) ≡ grants 0 (sized_last p.shelf p.maps pid first n segs part ++ changed_in p.shelf p.maps pid first (run_count first h) n segs part)
    good_ruling f few =
        let x = no_fault f in
        x.0
        ∙ cond-false (nat_lt k.most (k.count + (m - length (indexes first n))) || nat_lt (length (indexes first n) + length (left_in_run k pid hold)) m) (refusal 8) _
        (ap (λ (y : ℕ). nat_lt k.most (k.count + (m - y)) || nat_lt (length (indexes first n) + length (left_in_run k pid hold)) m) long
        ∙ ap (λ (b : Bool). b || nat_lt (length (indexes first n) + length (left_in_run k pid hold)) m) few ∙ left_enough x.2)
        ∙ ap (grants 0) (changes_are segs part x.1 (let a = x.2 in let b = whole in omega (arith, a, b)))
