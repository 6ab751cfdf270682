-- A run that gets other members keeps a world tidy.
use Rattle.std.proofs.Common.{◌≡◌, ◌⊎◌, inl, inr, ℕ, zero, suc, ◌+◌, ◌-◌, ◌*◌, ◌%◌, ◌<◌, ◌≤◌, ◌==◌, ◌&&◌, ◌||◌, nat_le, nat_lt, not, Bool, true, false, List, [], ◌∷◌}
use Rattle.std.proofs.Common.{◌++◌, filter, get_or, length, Option, Some, None, is_some, IsSome, if◌then◌else◌, ap, sym, ◌∙◌, refl, arith, subst}
use Rattle.std.specs.Prelude.{drop, find, option_map, slice_get}
use Rattle.std.specs.List.{list_any}
use Rattle.std.proofs.lemmas.Bool.{cases_lt, eq-eqb, false≢true}
use Rattle.std.proofs.lemmas.List.{append-nil, get_or-drop, length-drop}
use Rattle.o2_desc.specs.Bits.{has_bit}
use Rattle.o2_world.specs.Changes.{Change, with_changes}
use Rattle.o2_world.specs.Holders.{process_at}
use Rattle.o2_world.specs.HugeRulings.{all_bytes, bytes_of, dropped_members, flags_in, held_in_run, is_first, is_unheld, left_in_run, new_members, other_shares, resized_members, run_changes, segments_of, size_in, sizes_of}
use Rattle.o2_world.specs.Known.{Known, held_at, known_of, marks_of}
use Rattle.o2_world.specs.Map.{Map, get}
use Rattle.o2_world.specs.Rulings.{indexes, is_in_run, made_segment, members}
use Rattle.o2_world.specs.SharedRulings.{holder, marks_under, shared_from}
use Rattle.o2_world.specs.Tied.{AreOne}
use Rattle.o2_world.specs.World.{ByCall, ByLoad, Cause, Held, Process, Segment, Setting, World}
use Rattle.o2_world.proofs.HugeMoves.{sizes_length}
use Rattle.o2_world.proofs.Numbers.{at_place_of, number_some}
use Rattle.o2_world.proofs.RunsFit.{none_found}
use Rattle.o2_world.proofs.TiedWorld.{with_more}
use Rattle.o2_stands.specs.Runs.{AreInOne, HasFullMembers, HasRunFlags, IsInStretch, IsMemberOf, IsOneFor, IsSoOften, is_full, may_be_member}
use Rattle.o2_stands.specs.Stands.{is_stretch, region_at}
use Rattle.o2_stands.specs.Tidies.{AreTidyChanges, is_or_will_be}
use Rattle.o2_stands.proofs.AsTidy.{IsAsTidy, Keeps, holder_there, low_name, segment_of}
use Rattle.o2_stands.proofs.Dropped.{dropped_gone, dropped_names, dropped_tidy}
use Rattle.o2_stands.proofs.Granted.{IsResized}
use Rattle.o2_stands.proofs.Holders.{all_there, no_others, others_hold, times_are, times_some}
use Rattle.o2_stands.proofs.InRow.{IsSplit, row_dropped, row_length, same_kept, split_of}
use Rattle.o2_stands.proofs.NewMembers.{AreEachOnce, AreThere, as_many, is_holder, members_are, members_from, members_tidy, names_kept, names_new, often_of}
use Rattle.o2_stands.proofs.Reserved.{and_parts}
use Rattle.o2_stands.proofs.Resizing.{full_comes, full_stays, made_full, sizes_flags, sizes_next, sizes_processes, sizes_reserved, sizes_tidy, zero_size}
use Rattle.o2_stands.proofs.RunsCut.{IsCutRun, flags_cut, runs_cut}
use Rattle.o2_stands.proofs.RunsGrown.{IsGrownRun, flags_grown, full_grown, runs_grown}
use Rattle.o2_stands.proofs.RunsKept.{in_run_as, low_end}
use Rattle.o2_stands.proofs.RunSteps.{AreBehind, member_region}
use Rattle.o2_stands.proofs.Worlds.{to_place}

none_some : (h : Held) → ◌≡◌ {A = Option Held} None (Some h) → ⊥
none_some h e = cc

some_is : (h k : Held) (o : Option Held) → o ≡ Some h → o ≡ Some k → h ≡ k
some_is h k o e f = cc

number : (a b : ℕ) → (a == b) ≡ true → a ≡ b
number a b e = grind arith

turned : (a b : ℕ) → (a == b) ≡ (b == a)
turned a b = grind arith

le_of : (a b : ℕ) → nat_le a b ≡ true → a ≤ b
le_of a b e = grind arith

le_is : (a b : ℕ) → a ≤ b → nat_le a b ≡ true
le_is a b l = grind arith

lt_of : (a b : ℕ) → nat_lt a b ≡ true → a < b
lt_of a b e = grind arith

lt_is : (a b : ℕ) → a < b → nat_lt a b ≡ true
lt_is a b l = grind arith

not_lt : (a b : ℕ) → nat_lt a b ≡ false → b ≤ a
not_lt a b e = grind arith

above : (n : ℕ) → (n == 0) ≡ false → 0 < n
above n e = grind arith

or_right : (a b : Bool) → b ≡ true → (a || b) ≡ true
or_right true b e = refl
or_right false b e = e

or_left : (a b : Bool) → a ≡ true → (a || b) ≡ true
or_left true b e = refl
or_left false b e = absurd (false≢true e)

empty_of : (zs : List ℕ) → length zs ≡ 0 → zs ≡ []
empty_of [] e = refl
empty_of (z ∷ zs) e = absurd (omega (arith, e))

found_is : (f : ℕ → Bool) (xs : List ℕ) (q : ℕ) → find f xs ≡ Some q → f q ≡ true
found_is f [] q e = absurd (no_number e)
  where
    no_number : ◌≡◌ {A = Option ℕ} None (Some q) → ⊥
    no_number e = cc
found_is f (x ∷ xs) q e = go (found_is f xs q) (f x) refl e
  where
    go : (find f xs ≡ Some q → f q ≡ true) → (b : Bool) → f x ≡ b → (if b then Some x else find f xs) ≡ Some q → f q ≡ true
    go rest true is g = (let z : x ≡ q = cc in sym (ap f z) ∙ is)
    go rest false is g = rest g

-- a process that is there has a place
there_below : (ps : List Process) (i : ℕ) (x : Process) → slice_get ps i ≡ Some x → i < length ps
there_below [] i x e = absurd (no_process e)
  where
    no_process : ◌≡◌ {A = Option Process} None (Some x) → ⊥
    no_process e = cc
there_below (p ∷ ps) zero x e = omega arith
there_below (p ∷ ps) (suc i) x e = (let l = there_below ps i x e in omega (arith, l))

there_of : (o : Option Process) → is_some o ≡ true → (x : Process) × (o ≡ Some x)
there_of None e = absurd (false≢true e)
there_of (Some x) e = (x, refl)

-- the bytes of members, where all but the last one are full
bytes_more : (k : Known) (n c f : ℕ) → ((j : ℕ) → f ≤ j → j < f + c → size_in (marks_under k (k.held n j)) ≡ 65536) → 0 < size_in (marks_under k (k.held n (f + c))) → c * 65536 < all_bytes k n (indexes f (suc c))
bytes_more k n zero f full some =
    let same : f + 0 ≡ f = omega arith in
    let l : 0 < size_in (marks_under k (k.held n f)) = subst (λ (j : ℕ). 0 < size_in (marks_under k (k.held n j))) same some in
    omega (arith, l)
bytes_more k n (suc c) f full some =
    let same : f + suc c ≡ f + 1 + c = omega arith in
    let l = bytes_more k n c (f + 1) (λ j low high. full j (omega (arith, low)) (omega (arith, high))) (subst (λ (j : ℕ). 0 < size_in (marks_under k (k.held n j))) same some) in
    let e = full f (omega arith) (omega arith) in
    omega (arith, l, e)

-- and those of so many segments with a last part are no more than if all were full
bytes_fewer : (segs part : ℕ) → bytes_of segs part ≤ segments_of segs part * 65536
bytes_fewer segs part = go (part == 0) refl
  where
    small : (part : ℕ) → part % 65536 < 65536
    small part = grind arith

    none : (part : ℕ) → (part == 0) ≡ true → part % 65536 ≡ 0
    none part e = grind arith

    go : (b : Bool) → (part == 0) ≡ b → segs * 65536 + part % 65536 ≤ (if b then segs else segs + 1) * 65536
    go true e = (let z = none part e in omega (arith, z))
    go false e = (let l = small part in omega (arith, l))

module _ (s : Setting) (w v : World) (n : ℕ) (p : Process) (b : IsAsTidy w v n p) (segs part : ℕ) (h : Held) (r : IsResized (known_of s w) n segs part h) where
  abbrev held : ℕ → ℕ → Option Held
  held = held_at w.processes

  abbrev k : Known
  k = known_of s w

  abbrev m : ℕ
  m = segments_of segs part

  abbrev zs : List ℕ
  zs = sizes_of segs part

  n_some : 0 < n
  n_some = number_some w.processes n p b.at

  member : IsMemberOf held n h.first h
  member = record { there = r.there; run = r.run }

  in_first : IsInStretch h h.first
  in_first = b.tidy.runs.stretches.inside n h.first h member

  -- who holds an index of the stretch holds it in the run
  of_run : (q j : ℕ) (x : Held) → held q j ≡ Some x → IsInStretch h j → IsOneFor n q j → AreInOne h x × IsMemberOf held q j x
  of_run q j x e t one =
      let o = b.tidy.runs.stretches.whole n h.first h member q j x e t one in
      (o, record { there = e; run = in_run_as h x (sym o.1) r.run })

  some_held : (q j : ℕ) → is_some (held q j) ≡ true → (x : Held) × (held q j ≡ Some x)
  some_held q j e = go (held q j) refl e
    where
      go : (o : Option Held) → held q j ≡ o → is_some o ≡ true → (x : Held) × (held q j ≡ Some x)
      go None f g = absurd (false≢true g)
      go (Some x) f g = (x, f)

  -- Its members come first.

  down : (i j : ℕ) → h.first ≤ j → j ≤ i → i < h.first + h.reserved → is_some (held n i) ≡ true → is_some (held n j) ≡ true
  down i j low le high e =
      let x = some_held n i e in
      let o = of_run n i x.0 x.1 (omega (arith, low, le), high) (inl refl) in
      let first = o.0.0 in
      let t = b.tidy.runs.fronts.front n i x.0 o.1 j (omega (arith, first, low)) le in
      ap is_some t.there

  abbrev split : (a : ℕ) × IsSplit (λ (j : ℕ). is_some (held n j)) h.first h.reserved a
  split = split_of (λ (j : ℕ). is_some (held n j)) h.reserved h.first down

  abbrev a : ℕ
  a = split.0

  some_a : 0 < a
  some_a = elim (cases_lt 0 a) [
    | inl l ↦ l
    | inr none ↦
        (let t = in_first.1 in
        absurd (false≢true (sym (split.1.fails h.first (omega (arith, none)) t) ∙ ap is_some r.there)))
  ]

  a_most : a ≤ h.reserved
  a_most = split.1.most

  m_most : m ≤ h.reserved
  m_most = not_lt h.reserved m r.fits

  m_some : 0 < m
  m_some = above m r.some

  held_first : (j : ℕ) → h.first ≤ j → j < h.first + a → (x : Held) × (held n j ≡ Some x)
  held_first j low high = some_held n j (split.1.passes j low high)

  held_below : (j : ℕ) → h.first ≤ j → j < h.first + h.reserved → is_some (held n j) ≡ true → j < h.first + a
  held_below j low high e = elim (cases_lt j (h.first + a)) [
    | inl l ↦ l
    | inr past ↦ absurd (false≢true (sym (split.1.fails j past high) ∙ e))
  ]

  -- nobody holds the others for whom their indexes are the same
  free_in : (q j : ℕ) → h.first + a ≤ j → j < h.first + h.reserved → IsOneFor n q j → held q j ≡ None
  free_in q j low high one = go (held q j) refl
    where
      back : IsOneFor n q j → IsOneFor q n j
      back (inl e) = inl (sym e)
      back (inr e) = inr e

      go : (o : Option Held) → held q j ≡ o → held q j ≡ None
      go None e = e
      go (Some x) e =
          let o = of_run q j x e (omega (arith, low), high) one in
          let some = b.tidy.runs.fronts.all q j x o.1 n h.first h member (back one) (sym o.0.0, sym o.0.1) in
          absurd (false≢true (sym (split.1.fails j low high) ∙ some))

  -- an index that isn't shared has those of its stretch below it or above it that aren't
  low_too : (i j : ℕ) → IsInStretch h i → IsInStretch h j → i < 4096 → j < 4096
  low_too i j t u low = (let e = low_end h.first i (h.first + h.reserved) t.0 low (b.tidy.runs.stretches.end n h.first h member) in let z = u.1 in omega (arith, e, z))

  -- The calls find the same.

  -- whoever holds an index of the stretch, where that is shared, the caller holds it
  unheld_is : (j : ℕ) → h.first ≤ j → j < h.first + h.reserved → is_unheld k n j ≡ not (is_some (held n j))
  unheld_is j low high = go (nat_le shared_from j) refl
    where
      own_found : is_some (held n j) ≡ true → is_some (find (λ (q : ℕ). is_some (held q j)) (indexes 1 k.processes)) ≡ false → ⊥
      own_found e none =
          let place = there_below w.processes (n - 1) p (at_place_of w.processes n p b.at) in
          let some = n_some in
          false≢true (sym (none_found (λ (q : ℕ). is_some (held q j)) 1 k.processes n none (omega (arith, some)) (omega (arith, place, some))) ∙ e)

      both : 4096 ≤ j → (o : Option ℕ) → find (λ (q : ℕ). is_some (held q j)) (indexes 1 k.processes) ≡ o → (c : Bool) → is_some (held n j) ≡ c → not (is_some o) ≡ not c
      both shared None f false e = refl
      both shared None f true e = absurd (own_found e (ap is_some f))
      both shared (Some q) f true e = refl
      both shared (Some q) f false e =
          let x = some_held q j (found_is (λ (i : ℕ). is_some (held i j)) (indexes 1 k.processes) q f) in
          let o = of_run q j x.0 x.1 (low, high) (inr shared) in
          let some = b.tidy.runs.fronts.all q j x.0 o.1 n h.first h member (inr shared) (sym o.0.0, sym o.0.1) in
          absurd (false≢true (sym e ∙ some))

      go : (c : Bool) → nat_le shared_from j ≡ c → (if c then not (is_some (holder k j)) else not (is_some (held n j))) ≡ not (is_some (held n j))
      go false e = refl
      go true e = both (le_of 4096 j e) (holder k j) refl (is_some (held n j)) refl

  members_is : members k n h.first h ≡ indexes h.first a
  members_is =
      ap (λ (t : Bool). if t then h.first ∷ [] else filter (λ (i : ℕ). is_some (held n i)) (indexes h.first h.reserved)) (reserved_some h.reserved r.run)
      ∙ split.1.kept
    where
      reserved_some : (c : ℕ) → not (c == 0) ≡ true → (c == 0) ≡ false
      reserved_some c e = grind arith

  left_is : left_in_run k n h ≡ indexes (h.first + a) (h.reserved - a)
  left_is = same_kept (is_unheld k n) (λ (j : ℕ). not (is_some (held n j))) h.reserved h.first unheld_is ∙ split.1.rest

  abbrev others : List (ℕ × ℕ)
  others = other_shares k n h.first

  abbrev ps : List (ℕ × ℕ)
  ps = (n, h.holds) ∷ others

  abbrev flags : ℕ
  flags = flags_in (k.segment h.name)

  abbrev ys : List ℕ
  ys = drop a zs

  ys_length : length ys ≡ m - a
  ys_length = length-drop a zs ∙ ap (λ (x : ℕ). x - a) (sizes_length segs part)

  abbrev resizes : List Change
  resizes = resized_members k n (indexes h.first a) zs

  abbrev comes : List Change
  comes = members_from w.next_name h.first h.reserved flags (h.first + a) ps ys

  abbrev goes : List Change
  goes = dropped_members k n (indexes (h.first + m) (a - m))

  changes_are : run_changes k n h (members k n h.first h) zs ≡ resizes ++ (comes ++ goes)
  changes_are =
      ap (λ (is : List ℕ). run_changes k n h is zs) members_is
      ∙ (ap (λ (is : List ℕ). resizes ++ (new_members w.next_name h.first h.reserved flags ps is (drop (length (indexes h.first a)) zs) ++ dropped_members k n (drop (length zs) (indexes h.first a)))) left_is
      ∙ (ap (λ (c : ℕ). resizes ++ (new_members w.next_name h.first h.reserved flags ps (indexes (h.first + a) (h.reserved - a)) (drop c zs) ++ dropped_members k n (drop (length zs) (indexes h.first a)))) (row_length a h.first)
      ∙ (ap (λ (c : ℕ). resizes ++ (new_members w.next_name h.first h.reserved flags ps (indexes (h.first + a) c) ys ++ dropped_members k n (drop (length zs) (indexes h.first a)))) enough
      ∙ (ap (λ (cs : List Change). resizes ++ (cs ++ dropped_members k n (drop (length zs) (indexes h.first a)))) (as_many ys w.next_name h.first h.reserved flags (h.first + a) (h.reserved - a - length ys) ps)
      ∙ (ap (λ (c : ℕ). resizes ++ (comes ++ dropped_members k n (drop c (indexes h.first a)))) (sizes_length segs part)
      ∙ ap (λ (is : List ℕ). resizes ++ (comes ++ dropped_members k n is)) (row_dropped m a h.first))))))
    where
      enough : h.reserved - a ≡ length ys + (h.reserved - a - length ys)
      enough = (let e = ys_length in let l = m_most in omega (arith, e, l))

  -- Who is to hold them.

  share_of : (q : ℕ) → is_holder others q ≡ true → (4096 ≤ h.first) × ((x : Held) × (((q == n) ≡ false) × ((held q h.first ≡ Some x) × ((is_first h.first x ≡ true) × (x.holds ≡ often_of others q)))))
  share_of q e = go (nat_le shared_from h.first) refl
    where
      go : (c : Bool) → nat_le shared_from h.first ≡ c → (4096 ≤ h.first) × ((x : Held) × (((q == n) ≡ false) × ((held q h.first ≡ Some x) × ((is_first h.first x ≡ true) × (x.holds ≡ often_of others q)))))
      go false f = absurd (false≢true (ap (λ (xs : List (ℕ × ℕ)). is_holder xs q) (sym (no_others k n h.first f)) ∙ e))
      go true f = (le_of 4096 h.first f, times_are k n h.first q (often_of others q) ((others_hold k n h.first f).found q e).1.1)

  not_own : is_holder others n ≡ false
  not_own = go (is_holder others n) refl
    where
      go : (c : Bool) → is_holder others n ≡ c → is_holder others n ≡ false
      go false e = e
      go true e = absurd (false≢true (sym ((share_of n e).1.1.0) ∙ eq-eqb n n refl))

  others_once : AreEachOnce others
  others_once = go (nat_le shared_from h.first) refl
    where
      go : (c : Bool) → nat_le shared_from h.first ≡ c → AreEachOnce others
      go false f = subst AreEachOnce (sym (no_others k n h.first f)) tt
      go true f = (others_hold k n h.first f).once

  -- a holder holds the first member so often
  record HoldsRun (q : ℕ) : Type 0 where
    one : IsOneFor n q h.first
    hold : Held
    there : held q h.first ≡ Some hold
    often : hold.holds ≡ often_of ps q

  holds_run : (q : ℕ) → is_holder ps q ≡ true → HoldsRun q
  holds_run q e = go (n == q) refl e
    where
      go : (c : Bool) → (n == q) ≡ c → (c || is_holder others q) ≡ true → HoldsRun q
      go true f g =
          let is : n ≡ q = number n q f in
          record {
            one = inl (sym is);
            hold = h;
            there = ap (λ (x : ℕ). held x h.first) (sym is) ∙ r.there;
            often = ap (λ (t : Bool). if t then h.holds else often_of others q) (sym f);
          }
      go false f g =
          let x = share_of q g in
          record {
            one = inr x.0;
            hold = x.1.0;
            there = x.1.1.1.0;
            often = x.1.1.1.1.1 ∙ ap (λ (t : Bool). if t then h.holds else often_of others q) (sym f);
          }

  -- and whoever holds the run is one of them
  is_one_of : (q j : ℕ) (x : Held) → IsMemberOf held q j x → AreInOne h x → IsOneFor n q j → is_holder ps q ≡ true
  is_one_of q j x mx same one = go (n == q) refl
    where
      inside : IsInStretch x j
      inside = b.tidy.runs.stretches.inside q j x mx

      in_h : IsInStretch h j
      in_h = (let c = same.0 in let d = same.1 in let l = inside.0 in let u = inside.1 in (omega (arith, c, l), omega (arith, c, d, u)))

      shared : (n == q) ≡ false → IsOneFor n q j → 4096 ≤ j
      shared f (inl e) = absurd (false≢true (sym f ∙ eq-eqb n q (sym e)))
      shared f (inr e) = e

      high_first : 4096 ≤ j → 4096 ≤ h.first
      high_first l = elim (cases_lt h.first 4096) [
        | inr e ↦ e
        | inl low ↦ (let z = low_too h.first j in_first in_h low in absurd (omega (arith, z, l)))
      ]

      found : (n == q) ≡ false → is_holder others q ≡ true
      found f =
          let high = high_first (shared f one) in
          let c = same.0 in
          let l = inside.0 in
          let o = b.tidy.runs.fronts.front q j x mx h.first (omega (arith, c)) (omega (arith, c, l)) in
          let t = of_run q h.first o.hold o.there in_first (inr high) in
          let first : is_first h.first o.hold ≡ true = both (is_in_run o.hold) (o.hold.first == h.first) t.1.run (eq-eqb o.hold.first h.first t.0.0) in
          let place = there_of (process_at w.processes q) (holder_there w.processes q h.first o.hold o.there) in
          let some = number_some w.processes q place.0 place.1 in
          let below = there_below w.processes (q - 1) place.0 (at_place_of w.processes q place.0 place.1) in
          (others_hold k n h.first (le_is 4096 h.first high)).has q o.hold.holds (omega (arith, some)) (omega (arith, below, some))
          (times_some k n h.first q o.hold (turned q n ∙ f) o.there first)
        where
          both : (y z : Bool) → y ≡ true → z ≡ true → (y && z) ≡ true
          both true z e f = f
          both false z e f = absurd (false≢true e)

      go : (c : Bool) → (n == q) ≡ c → (c || is_holder others q) ≡ true
      go true f = refl
      go false f = found f

  -- The sizes of the members that are there.

  abbrev u : World
  u = with_changes v resizes

  held_u : (q j : ℕ) → held_at u.processes q j ≡ held q j
  held_u q j = ap (λ (xs : List Process). held_at xs q j) (sizes_processes k n v (indexes h.first a) zs) ∙ b.same q j

  u_reserved : u.reserved ≡ w.reserved
  u_reserved = sizes_reserved k n v (indexes h.first a) zs ∙ b.reserved

  u_next : u.next_name ≡ w.next_name
  u_next = sizes_next k n v (indexes h.first a) zs ∙ b.next

  u_there : (q : ℕ) → is_some (process_at w.processes q) ≡ true → is_some (process_at u.processes q) ≡ true
  u_there q e = ap (λ (xs : List Process). is_some (process_at xs q)) (sizes_processes k n v (indexes h.first a) zs) ∙ b.there q e

  u_flags : HasRunFlags held u.names
  u_flags = record { each = λ q j x mx. sizes_flags k n v (indexes h.first a) zs x.name j (b.flagged.each q j x mx) }

  -- a member that stands before another one stays full, where the sizes go on behind it
  stays_full : (q i : ℕ) (x : Held) → IsMemberOf held q i x → IsInStretch x (i + 1) → IsSome (held q (i + 1))
      → ((y : Held) → h.first ≤ i → i < h.first + a → held n i ≡ Some y → AreInOne x y → IsOneFor q n i → i - h.first + 1 < m) → is_full (get u.names x.name) ≡ true
  stays_full q i x mx t some ends = full_stays k n v a h.first zs x.name zeros (b.fulled.each q i x mx t some)
    where
      zeros : (j : ℕ) (y : Held) → h.first ≤ j → j < h.first + a → j - h.first < length zs → held n j ≡ Some y → y.name ≡ x.name → get_or zs (j - h.first) 0 ≡ 0
      zeros j y low high less at_j named =
          let o = b.tidy.runs.stretches.only q i x mx n j y at_j named in
          let one = b.tidy.runs.stretches.own q i x mx n j y at_j named in
          let same = o.0 in
          let l = ends y (omega (arith, low, same)) (omega (arith, high, same)) (ap (held n) (sym same) ∙ at_j) o.1 one in
          zero_size segs part (j - h.first) (omega (arith, l, same))

  -- Members come.

  module _ (grows : a ≤ m) where
    abbrev t : World
    t = with_changes u comes

    abbrev now : ℕ → ℕ → Option Held
    now = held_at t.processes

    abbrev from : ℕ
    from = h.first + a

    abbrev name : ℕ → ℕ
    name j = w.next_name + (j - from)

    new_in : (j : ℕ) → from ≤ j → j < from + length ys → IsInStretch h j
    new_in j low high = (let e = ys_length in let l = m_most in let g = grows in (omega (arith, low), omega (arith, high, e, l, g)))

    up : (q j : ℕ) → h.first ≤ j → IsOneFor n q h.first → IsOneFor n q j
    up q j low (inl e) = inl e
    up q j low (inr e) = inr (omega (arith, e, low))

    holders_there : AreThere u.processes ps
    holders_there = all_there u.processes ps (λ q e. let x = holds_run q e in u_there q (holder_there w.processes q h.first x.hold x.there))

    none_held : (q j : ℕ) → is_holder ps q ≡ true → from ≤ j → j < from + length ys → held_at u.processes q j ≡ None
    none_held q j e low high =
        let s = new_in j low high in
        held_u q j ∙ free_in q j low s.1 (up q j s.0 (holds_run q e).one)

    now_is : (q j : ℕ) → now q j ≡ (if is_holder ps q && (nat_le from j && nat_lt j (from + (m - a))) then Some (held_in_run (name j) h.first h.reserved (often_of ps q)) else held q j)
    now_is q j =
        members_are h.first h.reserved flags ps ys u w.next_name from holders_there (not_own, others_once) none_held q j
        ∙ (ap (λ (c : ℕ). if is_holder ps q && (nat_le from j && nat_lt j (from + c)) then Some (held_in_run (name j) h.first h.reserved (often_of ps q)) else held_at u.processes q j) ys_length
        ∙ ap (λ (o : Option Held). if is_holder ps q && (nat_le from j && nat_lt j (from + (m - a))) then Some (held_in_run (name j) h.first h.reserved (often_of ps q)) else o) (held_u q j))

    grown : IsGrownRun held now n from (m - a) h (is_holder ps) (often_of ps) name
    grown = record {
      member = member;
      from_first = (let l = some_a in omega (arith, l));
      most = (let l = m_most in let g = grows in omega (arith, l, g));
      is = now_is;
      holders = λ q e. (holds_run q e).one;
      holds = holds;
      all = is_one_of;
      free = free_in;
      fresh = λ q j i x e same. let l = low_name w v n p b q j x e in absurd (omega (arith, l, same));
      once = λ i j low high same. omega (arith, low, high, same);
    }
      where
        -- what one holds of the run it holds as often as the first
        holds : (q j : ℕ) → is_holder ps q ≡ true → h.first ≤ j → j < from → (x : Held) × ((held q j ≡ Some x) × (AreInOne h x × (x.holds ≡ often_of ps q)))
        holds q j e low high = (x.0, (x.1, (o.0, sym (ap (λ (y : Held). y.holds) (some_is z.hold f.hold (held q h.first) z.there f.there) ∙ f.often) ∙ z.often)))
          where
            z : HoldsRun q
            z = holds_run q e

            in_j : IsInStretch h j
            in_j = (let l = a_most in (low, omega (arith, high, l)))

            own : (y : Held) × (held n j ≡ Some y)
            own = held_first j low high

            first_of : AreInOne h z.hold × IsMemberOf held q h.first z.hold
            first_of = of_run q h.first z.hold z.there in_first z.one

            own_of : AreInOne h own.0 × IsMemberOf held n j own.0
            own_of = of_run n j own.0 own.1 in_j (inl refl)

            one_run : AreInOne own.0 z.hold
            one_run = (first_of.0.0 ∙ sym own_of.0.0, first_of.0.1 ∙ sym own_of.0.1)

            x : (y : Held) × (held q j ≡ Some y)
            x = some_held q j (b.tidy.runs.fronts.all n j own.0 own_of.1 q h.first z.hold first_of.1 (up q j low z.one) one_run)

            o : AreInOne h x.0 × IsMemberOf held q j x.0
            o = of_run q j x.0 x.1 in_j (up q j low z.one)

            f : IsSoOften held q h.first x.0.holds
            f = b.tidy.runs.fronts.front q j x.0 o.1 h.first (let c = o.0.0 in omega (arith, c)) low

    names_old : (q j : ℕ) (x : Held) → held q j ≡ Some x → get t.names x.name ≡ get u.names x.name
    names_old q j x e = names_kept h.first h.reserved flags ps ys u w.next_name from u_next x.name (low_name w v n p b q j x e)

    names_now : (j : ℕ) → from ≤ j → j < from + (m - a) → get t.names (name j) ≡ Some (made_segment (get_or zs (a + (j - from)) 0) flags)
    names_now j low high =
        names_new h.first h.reserved flags ps ys u w.next_name from u_next (j - from) (let e = ys_length in omega (arith, e, low, high))
        ∙ ap (λ (z : ℕ). Some (made_segment z flags)) (get_or-drop a zs (j - from) 0)

    -- flags of new members are those of the first
    new_flags : (j : ℕ) → from ≤ j → j < from + (m - a) → (not (has_bit flags 2) && (nat_lt j 4096 || not (flags == 0))) ≡ true
    new_flags j low high = by (get w.names h.name) refl (segment_of w v n p b n h.first h r.there) (b.tidy.flags.each n h.first h member)
      where
        in_j : IsInStretch h j
        in_j = new_in j low (let e = ys_length in omega (arith, e, high))

        below : (j : ℕ) → j < 4096 → nat_lt j 4096 ≡ true
        below j l = grind arith

        near : (f : ℕ) → (nat_lt h.first 4096 || not (f == 0)) ≡ true → (nat_lt j 4096 || not (f == 0)) ≡ true
        near f e = go (nat_lt h.first 4096) refl e
          where
            go : (c : Bool) → nat_lt h.first 4096 ≡ c → (c || not (f == 0)) ≡ true → (nat_lt j 4096 || not (f == 0)) ≡ true
            go true g x = or_left (nat_lt j 4096) (not (f == 0)) (below j (low_too h.first j in_first in_j (lt_of h.first 4096 g)))
            go false g x = or_right (nat_lt j 4096) (not (f == 0)) x

        of_flags : (f : ℕ) → (not (has_bit f 2) && (nat_lt h.first 4096 || not (f == 0))) ≡ true → (not (has_bit f 2) && (nat_lt j 4096 || not (f == 0))) ≡ true
        of_flags f e =
            let x = and_parts (not (has_bit f 2)) _ e in
            ap (λ (c : Bool). c && (nat_lt j 4096 || not (f == 0))) x.0 ∙ near f x.1

        by : (o : Option Segment) → get w.names h.name ≡ o → (x : Segment) × (get w.names h.name ≡ Some x) → may_be_member h.first o ≡ true
            → (not (has_bit (flags_in (option_map marks_of (get w.names h.name))) 2) && (nat_lt j 4096 || not (flags_in (option_map marks_of (get w.names h.name)) == 0))) ≡ true
        by None e x f = absurd (no_segment (sym e ∙ x.1))
          where
            no_segment : ◌≡◌ {A = Option Segment} None (Some x.0) → ⊥
            no_segment e = cc
        by (Some y) e x f =
            subst (λ (g : Option Segment). (not (has_bit (flags_in (option_map marks_of g)) 2) && (nat_lt j 4096 || not (flags_in (option_map marks_of g) == 0))) ≡ true) (sym e)
            (of_flags y.flags f)

    -- where a holder holds a member the caller holds the same
    same_name : (q i : ℕ) (x y : Held) → IsMemberOf held q i x → held n i ≡ Some y → IsOneFor n q i → y.name ≡ x.name
    same_name q i x y mx own (inl e) = ap (λ (z : Held). z.name) (some_is y x (held n i) own (ap (λ (c : ℕ). held c i) (sym e) ∙ mx.there))
    same_name q i x y mx own (inr high) = by (b.tied.one (n - 1) (q - 1) i y x high (to_place w.processes n i y own) (to_place w.processes q i x mx.there))
      where
        other_cause : ◌≡◌ {A = Cause} ByLoad ByCall → ⊥
        other_cause e = cc

        by : AreOne w.names y x → y.name ≡ x.name
        by (inl e) = e
        by (inr e) = absurd (other_cause (sym e.1.cause ∙ b.tidy.runs.stretches.called q i x mx))

    old_full : (q i : ℕ) (x : Held) → IsMemberOf held q i x → IsInStretch x (i + 1) → IsSome (now q (i + 1)) → is_full (get t.names x.name) ≡ true
    old_full q i x mx s some = ap is_full (names_old q i x mx.there) ∙ go (held q (i + 1)) refl
      where
        -- it stood before another one
        before : IsSome (held q (i + 1)) → is_full (get u.names x.name) ≡ true
        before more = stays_full q i x mx s more ends
          where
            ends : (y : Held) → h.first ≤ i → i < h.first + a → held n i ≡ Some y → AreInOne x y → IsOneFor q n i → i - h.first + 1 < m
            ends y low high own same one =
                let z = some_held q (i + 1) more in
                let o = b.tidy.runs.stretches.whole q i x mx q (i + 1) z.0 z.1 s (inl refl) in
                let mz : IsMemberOf held q (i + 1) z.0 = record { there = z.1; run = in_run_as x z.0 (sym o.1) mx.run } in
                let my : IsMemberOf held n i y = record { there = own; run = in_run_as x y (sym same.1) mx.run } in
                let some_n = b.tidy.runs.fronts.all q (i + 1) z.0 mz n i y my (later one) (same.0 ∙ sym o.0, same.1 ∙ sym o.1) in
                let most = a_most in
                let e = of_run n i y own (low, omega (arith, high, most)) (inl refl) in
                let c = e.0.0 in
                let d = e.0.1 in
                let f = same.0 in
                let g = same.1 in
                let l = s.0 in
                let r = s.1 in
                let below = held_below (i + 1) (omega (arith, low)) (omega (arith, c, d, f, g, r)) some_n in
                omega (arith, below, low, grows)
              where
                later : IsOneFor q n i → IsOneFor q n (i + 1)
                later (inl e) = inl e
                later (inr e) = inr (omega (arith, e))

        -- it stands before a new one
        last : held q (i + 1) ≡ None → is_full (get u.names x.name) ≡ true
        last none = by (is_holder ps q && (nat_le from (i + 1) && nat_lt (i + 1) (from + (m - a)))) refl
          where
            goes_full : is_holder ps q ≡ true → from ≤ i + 1 → i + 1 < from + (m - a) → is_full (get u.names x.name) ≡ true
            goes_full e low high =
                let one = holds_run q e in
                let is : i + 1 ≡ from = exact (cases_lt i from) one.one in
                let some = some_a in
                let in_i : h.first ≤ i = omega (arith, is, some) in
                let below : i < h.first + a = omega (arith, is) in
                let y = held_first i in_i below in
                let most = a_most in
                let my = of_run n i y.0 y.1 (in_i, omega (arith, below, most)) (inl refl) in
                let seg = segment_of w v n p b n i y.0 y.1 in
                let len = sizes_length segs part in
                subst (λ (c : ℕ). is_full (get u.names c) ≡ true) (same_name q i x y.0 mx y.1 (up q i in_i one.one))
                (full_comes k n v a h.first zs i y.0 (marks_of seg.0)
                (λ j z l g less at_j named.
                let o = (b.tidy.runs.stretches.only n i y.0 my.1 n j z at_j named).0 in
                zero_size segs part (j - h.first) (omega (arith, o, is, high, some)))
                in_i below (omega (arith, is, high, some, len)) y.1 (ap (option_map marks_of) seg.1) (λ full. b.sizes y.0.name ∙ (ap is_full seg.1 ∙ full)))
              where
                exact : (i < from) ⊎ (from ≤ i) → IsOneFor n q h.first → i + 1 ≡ from
                exact (inl l) o = omega (arith, l, low)
                exact (inr past) o =
                    let t = new_in i past (let e = ys_length in omega (arith, e, high)) in
                    absurd (none_some x (sym (free_in q i past t.1 (up q i t.0 o)) ∙ mx.there))

            by : (c : Bool) → (is_holder ps q && (nat_le from (i + 1) && nat_lt (i + 1) (from + (m - a)))) ≡ c → is_full (get u.names x.name) ≡ true
            by false e =
                let z : now q (i + 1) ≡ None = now_is q (i + 1) ∙ (ap (λ (c : Bool). if c then Some (held_in_run (name (i + 1)) h.first h.reserved (often_of ps q)) else held q (i + 1)) e ∙ none) in
                absurd (false≢true (sym (ap is_some z) ∙ some))
            by true e =
                let c = and_parts (is_holder ps q) _ e in
                let d = and_parts (nat_le from (i + 1)) _ c.1 in
                goes_full c.0 (le_of from (i + 1) d.0) (lt_of (i + 1) (from + (m - a)) d.1)

        go : (o : Option Held) → held q (i + 1) ≡ o → is_full (get u.names x.name) ≡ true
        go None e = last e
        go (Some z) e = before (ap is_some e)

    grown_behind : AreBehind t
    grown_behind = record {
      runs = runs_grown held now n from (m - a) h (is_holder ps) (often_of ps) name grown b.tidy.runs;
      flags = flags_grown held now n from (m - a) h (is_holder ps) (often_of ps) name grown b.tidy.runs t.names
          (record { each = λ q j x mx. ap (may_be_member j) (names_old q j x mx.there) ∙ u_flags.each q j x mx })
          (λ j low high. ap (may_be_member j) (names_now j low high) ∙ new_flags j low high);
      full = full_grown held now n from (m - a) h (is_holder ps) (often_of ps) name grown b.tidy.runs t.names old_full
          (λ j low high. ap is_full (names_now j low (omega (arith, high))) ∙ made_full (get_or zs (a + (j - from)) 0) flags (zero_size segs part (a + (j - from)) (omega (arith, low, high))));
    }

    grown_tidy : AreTidyChanges v (resizes ++ (comes ++ []))
    grown_tidy =
        sizes_tidy k n v (indexes h.first a) zs (comes ++ [])
        (members_tidy h.first h.reserved flags ps ys u w.next_name from [] (reserved_some h.reserved r.run) fit tt)
      where
        reserved_some : (c : ℕ) → not (c == 0) ≡ true → (c == 0) ≡ false
        reserved_some c e = grind arith

        fit : (q j : ℕ) → is_holder ps q ≡ true → from ≤ j → j < from + length ys → is_or_will_be u.reserved [] (region_at q j) h.first h.reserved ≡ true
        fit q j e low high =
            let t = new_in j low high in
            let g : region_at n h.first ≡ region_at q j = member_region held b.tidy.runs n h.first h member q j t (up q j t.0 (holds_run q e).one) in
            ap (list_any (is_stretch (region_at q j) h.first h.reserved)) u_reserved
            ∙ (ap (λ (c : ℕ). list_any (is_stretch c h.first h.reserved) w.reserved) (sym g) ∙ b.tidy.run n h.first h r.there r.run)

    grown_keeps : Keeps v (resizes ++ (comes ++ goes))
    grown_keeps =
        subst (λ (cs : List Change). Keeps v (resizes ++ (comes ++ cs))) (sym no_drops)
        (grown_tidy, subst AreBehind (sym (with_more v resizes (comes ++ []) ∙ ap (with_changes u) (append-nil comes))) grown_behind)
      where
        no_drops : goes ≡ []
        no_drops = (let e : a - m ≡ 0 = omega (arith, grows) in ap (λ (c : ℕ). dropped_members k n (indexes (h.first + m) c)) e)

  -- Members go.

  module _ (shrinks : m < a) where
    abbrev cut_world : World
    cut_world = with_changes u goes

    abbrev behind : ℕ → ℕ → Option Held
    behind = held_at cut_world.processes

    -- the run isn't shared
    own_run : h.first < 4096
    own_run = elim (cases_lt h.first 4096) [
      | inl low ↦ low
      | inr high ↦ absurd (too_many high)
    ]
      where
        size_of : (j : ℕ) → h.first ≤ j → j < h.first + a → (y : Held) × ((held n j ≡ Some y) × ((x : Segment) × ((get w.names y.name ≡ Some x) × (size_in (marks_under k (k.held n j)) ≡ length x.bytes))))
        size_of j low high =
            let y = held_first j low high in
            let x = segment_of w v n p b n j y.0 y.1 in
            (y.0, (y.1, (x.0, (x.1, ap (λ (o : Option Held). size_in (marks_under k o)) y.1 ∙ ap (λ (o : Option Segment). size_in (option_map marks_of o)) x.1))))

        full : (j : ℕ) → h.first ≤ j → j < h.first + (a - 1) → size_in (marks_under k (k.held n j)) ≡ 65536
        full j low high =
            let y = size_of j low (omega (arith, high)) in
            let most = a_most in
            let o = of_run n j y.0 y.1.0 (low, omega (arith, high, most)) (inl refl) in
            let c = o.0.0 in
            let d = o.0.1 in
            let f = b.tidy.full.each n j y.0 o.1 (omega (arith, low, c), omega (arith, high, most, c, d)) (split.1.passes (j + 1) (omega (arith, low)) (omega (arith, high))) in
            y.1.1.1.1 ∙ number (length y.1.1.0.bytes) 65536 (sym (ap is_full y.1.1.1.0) ∙ f)

        some : 0 < size_in (marks_under k (k.held n (h.first + (a - 1))))
        some =
            let l = some_a in
            let y = size_of (h.first + (a - 1)) (omega arith) (omega (arith, l)) in
            let f = (b.tied.sized y.0.name y.1.1.0 y.1.1.1.0).0 in
            let e = y.1.1.1.1 in
            omega (arith, f, e)

        too_many : 4096 ≤ h.first → ⊥
        too_many high =
            let l = bytes_more k n (a - 1) h.first full some in
            let e : suc (a - 1) ≡ a = (let z = some_a in omega (arith, z)) in
            let g : (a - 1) * 65536 < all_bytes k n (indexes h.first a) = subst (λ (c : ℕ). (a - 1) * 65536 < all_bytes k n (indexes h.first c)) e l in
            let few = bytes_fewer segs part in
            let more : bytes_of segs part < all_bytes k n (members k n h.first h) = subst (λ (is : List ℕ). bytes_of segs part < all_bytes k n is) (sym members_is) (less few g) in
            false≢true (sym r.kept ∙ (rw (le_is 4096 h.first high) (lt_is (bytes_of segs part) (all_bytes k n (members k n h.first h)) more)))
          where
            less : bytes_of segs part ≤ m * 65536 → (a - 1) * 65536 < all_bytes k n (indexes h.first a) → bytes_of segs part < all_bytes k n (indexes h.first a)
            less x y = omega (arith, x, y, shrinks)

    behind_is : (q j : ℕ) → behind q j ≡ (if (q == n) && (nat_le (h.first + m) j && nat_lt j (h.first + h.reserved)) then None else held q j)
    behind_is q j =
        dropped_gone k n (a - m) (h.first + m) u (u_there n (ap is_some b.at)) (λ i low high. held_u n i) q j
        ∙ (ap (λ (o : Option Held). if (q == n) && (nat_le (h.first + m) j && nat_lt j (h.first + m + (a - m))) then None else o) (held_u q j)
        ∙ by (q == n) refl)
      where
        last : h.first + m + (a - m) ≡ h.first + a
        last = omega (arith, shrinks)

        -- behind the last one nothing is held
        wide : (c d : Bool) → nat_lt j (h.first + a) ≡ c → nat_lt j (h.first + h.reserved) ≡ d → (if nat_le (h.first + m) j && c then None else held n j) ≡ (if nat_le (h.first + m) j && d then None else held n j)
        wide true true e f = refl
        wide false false e f = refl
        wide true false e f = (let x = lt_of j (h.first + a) e in let y = not_lt j (h.first + h.reserved) f in let z = a_most in absurd (omega (arith, x, y, z)))
        wide false true e f = go (nat_le (h.first + m) j)
          where
            none : held n j ≡ None
            none = free_in n j (not_lt j (h.first + a) e) (lt_of j (h.first + h.reserved) f) (inl refl)

            go : (g : Bool) → (if g && false then None else held n j) ≡ (if g && true then None else held n j)
            go true = none
            go false = refl

        by : (c : Bool) → (q == n) ≡ c → (if c && (nat_le (h.first + m) j && nat_lt j (h.first + m + (a - m))) then None else held q j) ≡ (if c && (nat_le (h.first + m) j && nat_lt j (h.first + h.reserved)) then None else held q j)
        by false e = refl
        by true e =
            let own : q ≡ n = number q n e in
            ap (λ (x : ℕ). if nat_le (h.first + m) j && nat_lt j x then None else held q j) last
            ∙ (ap (λ (x : ℕ). if nat_le (h.first + m) j && nat_lt j (h.first + a) then None else held x j) own
            ∙ (wide (nat_lt j (h.first + a)) (nat_lt j (h.first + h.reserved)) refl refl
            ∙ ap (λ (x : ℕ). if nat_le (h.first + m) j && nat_lt j (h.first + h.reserved) then None else held x j) (sym own)))

    cut : IsCutRun held behind n h.first (h.first + m) h
    cut = record { member = member; alone = alone; is = behind_is; inside = omega arith }
      where
        alone : (q j : ℕ) (x : Held) → IsMemberOf held q j x → IsOneFor n q j → AreInOne h x → q ≡ n
        alone q j x mx (inl e) same = e
        alone q j x mx (inr high) same =
            let t = b.tidy.runs.stretches.inside q j x mx in
            let c = same.0 in
            let d = same.1 in
            let l = t.0 in
            let g = t.1 in
            let low = low_too h.first j in_first (omega (arith, c, l), omega (arith, c, d, g)) own_run in
            absurd (omega (arith, low, high))

    cut_names : (q : ℕ) → get cut_world.names q ≡ get u.names q
    cut_names q = ap (λ (ns : Map Segment). get ns q) (dropped_names k n u (indexes (h.first + m) (a - m)))

    was : (q j : ℕ) (x : Held) → behind q j ≡ Some x → (((q == n) && (nat_le (h.first + m) j && nat_lt j (h.first + h.reserved))) ≡ false) × (held q j ≡ Some x)
    was q j x e = go ((q == n) && (nat_le (h.first + m) j && nat_lt j (h.first + h.reserved))) refl (sym (behind_is q j) ∙ e)
      where
        go : (c : Bool) → ((q == n) && (nat_le (h.first + m) j && nat_lt j (h.first + h.reserved))) ≡ c → (if c then None else held q j) ≡ Some x
            → (((q == n) && (nat_le (h.first + m) j && nat_lt j (h.first + h.reserved))) ≡ false) × (held q j ≡ Some x)
        go true f g = absurd (none_some x g)
        go false f g = (f, g)

    cut_full : HasFullMembers behind cut_world.names
    cut_full = record { each = λ q i x mx t some. ap is_full (cut_names x.name) ∙ by q i x mx t (behind q (i + 1)) refl some }
      where
        by : (q i : ℕ) (x : Held) → IsMemberOf behind q i x → IsInStretch x (i + 1) → (o : Option Held) → behind q (i + 1) ≡ o → IsSome o → is_full (get u.names x.name) ≡ true
        by q i x mx t None e some = absurd (false≢true some)
        by q i x mx t (Some z) e some =
            stays_full q i x (record { there = (was q i x mx.there).1; run = mx.run }) t (ap is_some (was q (i + 1) z e).1) ends
          where
            own : h.first ≤ i → i < h.first + a → IsOneFor q n i → q ≡ n
            own low high (inl f) = sym f
            own low high (inr f) =
                let most = a_most in
                let l = low_too h.first i in_first (low, omega (arith, high, most)) own_run in
                absurd (omega (arith, l, f))

            kept : (c : Bool) → nat_le (h.first + m) (i + 1) ≡ c → q ≡ n → i + 1 < h.first + h.reserved → i + 1 < h.first + m
            kept false f same l = less f
              where
                less : nat_le (h.first + m) (i + 1) ≡ false → i + 1 < h.first + m
                less f = not_le (h.first + m) (i + 1) f
                  where
                    not_le : (x y : ℕ) → nat_le x y ≡ false → y < x
                    not_le x y e = grind arith
            kept true f same l =
                absurd (false≢true (sym (was q (i + 1) z e).0 ∙ (rw (eq-eqb q n same, f, lt_is (i + 1) (h.first + h.reserved) l) refl)))

            ends : (y : Held) → h.first ≤ i → i < h.first + a → held n i ≡ Some y → AreInOne x y → IsOneFor q n i → i - h.first + 1 < m
            ends y low high at_i same one =
                let most = a_most in
                let o = of_run n i y at_i (low, omega (arith, high, most)) (inl refl) in
                let c = o.0.0 in
                let d = o.0.1 in
                let f = same.0 in
                let g = same.1 in
                let l = t.1 in
                let less = kept (nat_le (h.first + m) (i + 1)) refl (own low high one) (omega (arith, c, d, f, g, l)) in
                omega (arith, less, low)

    cut_behind : AreBehind cut_world
    cut_behind = record {
      runs = runs_cut held behind n h.first (h.first + m) h cut b.tidy.runs;
      flags = record { each = λ q j x mx. ap (may_be_member j) (cut_names x.name) ∙ (flags_cut held behind n h.first (h.first + m) h cut b.tidy.runs u.names u_flags).each q j x mx };
      full = cut_full;
    }

    cut_keeps : Keeps v (resizes ++ (comes ++ goes))
    cut_keeps =
        subst (λ (cs : List Change). Keeps v (resizes ++ (cs ++ goes))) (sym none_come)
        (sizes_tidy k n v (indexes h.first a) zs goes (dropped_tidy k n u (indexes (h.first + m) (a - m))), subst AreBehind (sym (with_more v resizes goes)) cut_behind)
      where
        none_come : comes ≡ []
        none_come = ap (members_from w.next_name h.first h.reserved flags (h.first + a) ps) (empty_of ys (ys_length ∙ (let e : m - a ≡ 0 = omega (arith, shrinks) in e)))

  pub resized_keeps : Keeps v (run_changes k n h (members k n h.first h) zs)
  resized_keeps = subst (Keeps v) (sym changes_are) (elim (cases_lt m a) [
    | inl less ↦ cut_keeps less
    | inr more ↦ grown_keeps more
  ])
