-- What DosReallocHuge comes to, by what is found under its selector.
use Rattle.std.proofs.Common.{◌≡◌, ◌⊎◌, inl, inr, ℕ, zero, suc, ◌+◌, ◌-◌, ◌/◌, ◌<◌, ◌≤◌, ◌==◌, nat_lt, not, min, Bool, true, false, cond, eqb, List, [], ◌∷◌, ◌++◌}
use Rattle.std.proofs.Common.{length, Option, Some, None, option_map, if◌then◌else◌, refl, sym, ap, ◌∙◌, subst, arith}
use Rattle.std.proofs.lemmas.Bool.{and_parts, cond-true, cond-false, false≢true}
use Rattle.std.proofs.lemmas.Bool.Decides.{nat_tests}
use Rattle.o2_desc.specs.Bits.{has_bit}
use Rattle.o2_entries.specs.Tables.{live_numbers}
use Rattle.o2_isa.specs.declared.cpu.Cpu.{Cpu}
use Rattle.o2_place.specs.declared.seg_id.SegId.{SegId}
use Rattle.o2_regions.specs.declared.answer.Answer.{Answer}
use Rattle.o2_regions.specs.declared.answer.Roomed.{Roomed}
use Rattle.o2_regions.specs.declared.answer.Roomed.TheVariants.{Done, NoRoom, SwapFull, SwapFault}
use Rattle.o2_regions.specs.declared.held.Held.{Held}
use Rattle.o2_regions.specs.declared.held.Region.TheVariants.{Private, Shared}
use Rattle.o2_regions.specs.Kept.{AreKept}
use Rattle.o2_regions.specs.Maps.{Maps, IsProcess, end_of, held_at, holds_of, is_held, is_reserved, region_of}
use Rattle.o2_segbus.specs.Seen.{AreNamed}
use Rattle.o2_store.specs.Shelf.{Shelf, entry}
use Rattle.o2_stands.specs.Knows.{Others, known_in}
use Rattle.o2_stands.specs.Moves.{moved}
use Rattle.o2_stands.specs.Parts.{Parts, held_of}
use Rattle.o2_stands.specs.Stands.{Matches}
use Rattle.o2_world.specs.Changes.{Change, Resizes, with_all}
use Rattle.o2_world.specs.HugeRulings.{all_hold, huge_reallocation, huge_reallocation_of, new_members, run_resized, segments_of, sizes_of, without}
use Rattle.o2_world.specs.Known.{Known}
use Rattle.o2_world.specs.Rulings.{Ruling, dropped_indexes, full_size, grants, indexes, members, refusal}
use Rattle.o2_world.specs.World.{World}
use Rattle.o2_segs.specs.Answers.{AnswersRoomed, changes_roomed}
use Rattle.o2_segs.specs.Callers.{IsCaller}
use Rattle.o2_segs.proofs.Selecting.{under, under_held, under_is}
use Rattle.o2_huge.specs.declared.members.Run.{Run}
use Rattle.o2_huge.specs.Frames.{IsKnownBy}
use Rattle.o2_huge.specs.Growth.{AreMembers, AreVacant, FirstSized, is_of_run, last_kept, last_size, lost_in, lost_there, shares_in, sized_there}
use Rattle.o2_huge.specs.Resized.{changed_in, flags_there, is_done, is_member, is_member_in, run_count, run_fault, sized_last}
use Rattle.o2_stands.specs.Runs.{AreFull, AreRuns}
use Rattle.o2_huge.proofs.Reallocs.{fault_ruling, full_ruling, good_ruling, in_run, vacant_there, whole}

-- A call is asked of a run: what is held under its selector is the first of so many members.
pub record IsAsked (s : Shelf) (m : Maps) (pid sel n : ℕ) (h : Held) : Type 0 where
  pub kept : AreKept m
  pub named : AreNamed s m
  pub process : IsProcess m pid
  pub held : under m pid sel ≡ Some h
  pub run : is_of_run (sel / 8) h ≡ true
  pub few : n ≤ run_count (sel / 8) h
  pub front : AreMembers m pid (sel / 8) (sel / 8) (sel / 8 + n)
  pub last : n < run_count (sel / 8) h → is_member_in m pid (sel / 8) (sel / 8 + n) ≡ false

module _ (p : Parts) (o : Others) (pid segs part sel : ℕ) (c : Cpu) where
  abbrev k : Known
  k = known_in p o

  by_held : (x : Option Held) → under p.maps pid sel ≡ x → huge_reallocation k pid segs part sel c ≡ huge_reallocation_of k pid (sel / 8) segs part c (option_map (held_of p.maps pid (sel / 8)) x)
  by_held x e = ap (huge_reallocation_of k pid (sel / 8) segs part c) (under_is p o pid sel ∙ ap (option_map (held_of p.maps pid (sel / 8))) e)

  pub huge_none : (m : Maps) → p.maps ≡ m → under m pid sel ≡ None → huge_reallocation k pid segs part sel c ≡ refusal 5
  huge_none m em e = by_held None (ap (λ (y : Maps). under y pid sel) em ∙ e)

  pub huge_other : (m : Maps) (h : Held) → p.maps ≡ m → under m pid sel ≡ Some h → is_of_run (sel / 8) h ≡ false → huge_reallocation k pid segs part sel c ≡ refusal 5
  huge_other m h em e other =
      by_held (Some h) (ap (λ (y : Maps). under y pid sel) em ∙ e)
      ∙ cond-false (is_of_run (sel / 8) h) (run_resized k pid segs part c (held_of p.maps pid (sel / 8) h) (members k pid (sel / 8) (held_of p.maps pid (sel / 8) h))) (refusal 5) other

  module _ (n : ℕ) (h : Held) (asked : IsAsked p.shelf p.maps pid sel n h) (runs : AreRuns p.maps) (full : AreFull p.shelf p.maps) (count : o.processes ≡ p.maps.processes) where
    here : held_at p.maps pid (sel / 8) ≡ Some h
    here = (under_held p.maps pid sel h asked.held).1

    huge_run : huge_reallocation k pid segs part sel c ≡ run_resized k pid segs part c (held_of p.maps pid (sel / 8) h) (members k pid (sel / 8) (held_of p.maps pid (sel / 8) h))
    huge_run =
        by_held (Some h) asked.held
        ∙ cond-true (is_of_run (sel / 8) h) (run_resized k pid segs part c (held_of p.maps pid (sel / 8) h) (members k pid (sel / 8) (held_of p.maps pid (sel / 8) h))) (refusal 5) asked.run

    pub huge_fault : (e : ℕ) → run_fault p.shelf p.maps pid (sel / 8) (run_count (sel / 8) h) n segs part c ≡ Some e → huge_reallocation k pid segs part sel c ≡ refusal e
    huge_fault e f = huge_run ∙ fault_ruling p o asked.kept asked.named runs full count pid (sel / 8) n h asked.process here asked.run asked.few asked.front asked.last segs part c e f

    pub huge_full : run_fault p.shelf p.maps pid (sel / 8) (run_count (sel / 8) h) n segs part c ≡ None
        → nat_lt (length p.shelf.entries) (length (live_numbers 0 p.shelf.entries) + (segments_of segs part - n)) ≡ true → huge_reallocation k pid segs part sel c ≡ refusal 8
    huge_full f many = huge_run ∙ full_ruling p o asked.kept asked.named runs full count pid (sel / 8) n h asked.process here asked.run asked.few asked.front asked.last segs part c f many

    pub huge_good : run_fault p.shelf p.maps pid (sel / 8) (run_count (sel / 8) h) n segs part c ≡ None
        → nat_lt (length p.shelf.entries) (length (live_numbers 0 p.shelf.entries) + (segments_of segs part - n)) ≡ false
        → huge_reallocation k pid segs part sel c ≡ grants 0 (sized_last p.shelf p.maps pid (sel / 8) n segs part ++ changed_in p.shelf p.maps pid (sel / 8) (run_count (sel / 8) h) n segs part)
    huge_good f few = huge_run ∙ good_ruling p o asked.kept asked.named runs full count pid (sel / 8) n h asked.process here asked.run asked.few asked.front asked.last segs part c f few

pub asked_in : (p : Parts) (s : Shelf) (m : Maps) (pid sel n : ℕ) (h : Held) → p.shelf ≡ s → p.maps ≡ m → IsAsked s m pid sel n h → IsAsked p.shelf p.maps pid sel n h
asked_in p s m pid sel n h es em a = subst (λ (x : Shelf). IsAsked x p.maps pid sel n h) (sym es) (subst (λ (y : Maps). IsAsked s y pid sel n h) (sym em) a)

pub full_in : (p : Parts) (s : Shelf) (m : Maps) → p.shelf ≡ s → p.maps ≡ m → AreFull s m → AreFull p.shelf p.maps
full_in p s m es em a = subst (λ (x : Shelf). AreFull x p.maps) (sym es) (subst (AreFull s) (sym em) a)

pub fault_in : (p : Parts) (s : Shelf) (m : Maps) (pid first count n segs part : ℕ) (c : Cpu) → p.shelf ≡ s → p.maps ≡ m → run_fault p.shelf p.maps pid first count n segs part c ≡ run_fault s m pid first count n segs part c
fault_in p s m pid first count n segs part c es em =
    ap (λ (x : Shelf). run_fault x p.maps pid first count n segs part c) es ∙ ap (λ (y : Maps). run_fault s y pid first count n segs part c) em

pub room_in : (p : Parts) (s : Shelf) (more : ℕ) → p.shelf ≡ s → nat_lt (length p.shelf.entries) (length (live_numbers 0 p.shelf.entries) + more) ≡ nat_lt (length s.entries) (length (live_numbers 0 s.entries) + more)
room_in p s more es = ap (λ (x : Shelf). nat_lt (length x.entries) (length (live_numbers 0 x.entries) + more)) es

pub changes_in : (p : Parts) (s : Shelf) (m : Maps) (pid first count n segs part : ℕ) → p.shelf ≡ s → p.maps ≡ m
    → (sized_last p.shelf p.maps pid first n segs part ++ changed_in p.shelf p.maps pid first count n segs part) ≡ (sized_last s m pid first n segs part ++ changed_in s m pid first count n segs part)
changes_in p s m pid first count n segs part es em =
    ap (λ (x : Shelf). sized_last x p.maps pid first n segs part ++ changed_in x p.maps pid first count n segs part) es
    ∙ ap (λ (y : Maps). sized_last s y pid first n segs part ++ changed_in s y pid first count n segs part) em

-- What is answered and what is matched, by how the call comes out.

pub answers_as : (r : Ruling) (q : Ruling) (a : Roomed) → q ≡ r → AnswersRoomed r a → AnswersRoomed q a
answers_as r q a e h = subst (λ (x : Ruling). AnswersRoomed x a) (sym e) h

-- no error gives every stop, and the value 0
pub grants_answer : (cs : List Change) (a : Roomed) → ((b : Answer) → a ≡ Done b → b ≡ record { error = 0; value = 0 }) → AnswersRoomed (grants 0 cs) a
grants_answer cs (Done b) h = let e = h b refl in record { error = ap (λ (x : Answer). x.error) e; value = ap (λ (x : Answer). x.value) e }
grants_answer cs NoRoom h = refl
grants_answer cs SwapFull h = refl
grants_answer cs SwapFault h = refl

pub grants_changes : (cs : List Change) (a : Roomed) → changes_roomed (grants 0 cs) a ≡ cond (is_done a) cs []
grants_changes cs (Done b) = refl
grants_changes cs NoRoom = refl
grants_changes cs SwapFull = refl
grants_changes cs SwapFault = refl

pub changes_as : (p : Parts) (t : Shelf) (n : Maps) (after : ℕ → List ℕ) (w : World) (xs ys : List Change) → xs ≡ ys → Matches (moved p t n after) (with_all w ys) → Matches (moved p t n after) (with_all w xs)
changes_as p t n after w xs ys e q = subst (λ (cs : List Change). Matches (moved p t n after) (with_all w cs)) (sym e) q

-- the indexes of which holds go

dropped_sized : (s : Shelf) (size : ℕ) (o : Option Held) (cs : List Change) → dropped_indexes (sized_there s size o ++ cs) ≡ dropped_indexes cs
dropped_sized s size None cs = refl
dropped_sized s size (Some h) cs = go (eqb (entry s h.id.key).size (full_size size))
  where
    go : (b : Bool) → dropped_indexes (cond b [] (Resizes h.id.age (full_size size) ∷ []) ++ cs) ≡ dropped_indexes cs
    go true = refl
    go false = refl

dropped_holds : (name first count i : ℕ) (ps : List (ℕ × ℕ)) (cs : List Change) → dropped_indexes (all_hold name first count i ps ++ cs) ≡ dropped_indexes cs
dropped_holds name first count i [] cs = refl
dropped_holds name first count i (q ∷ ps) cs = dropped_holds name first count i ps cs

dropped_new : (name first count flags : ℕ) (ps : List (ℕ × ℕ)) (is zs : List ℕ) → dropped_indexes (new_members name first count flags ps is zs) ≡ []
dropped_new name first count flags ps [] zs = refl
dropped_new name first count flags ps (i ∷ is) [] = refl
dropped_new name first count flags ps (i ∷ is) (z ∷ zs) =
    dropped_holds name first count i ps (new_members (name + 1) first count flags ps is zs) ∙ dropped_new (name + 1) first count flags ps is zs

dropped_lost : (m : Maps) (pid first from n : ℕ) → AreMembers m pid first from (from + n) → dropped_indexes (lost_in m pid (indexes from n)) ≡ indexes from n
dropped_lost m pid first from zero all = refl
dropped_lost m pid first from (suc n) all =
    let x = all from (omega arith) (omega arith) in
    ap (λ (o : Option Held). dropped_indexes (lost_there pid from o ++ lost_in m pid (indexes (from + 1) n))) x.there
    ∙ ap (λ (is : List ℕ). from ∷ is) (dropped_lost m pid first (from + 1) n (λ i low high. all i (omega (arith, low)) (omega (arith, high))))

pub dropped_all : (s : Shelf) (m : Maps) (pid first count n segs part : ℕ) → AreMembers m pid first first (first + n)
    → dropped_indexes (sized_last s m pid first n segs part ++ changed_in s m pid first count n segs part) ≡ indexes (first + segments_of segs part) (n - segments_of segs part)
dropped_all s m pid first count n segs part all =
    dropped_sized s (last_size n segs part) (held_at m pid (last_kept first n segs part)) (changed_in s m pid first count n segs part) ∙ go (nat_lt n (segments_of segs part)) refl
  where
    go : (b : Bool) → nat_lt n (segments_of segs part) ≡ b
        → dropped_indexes (cond b (new_members s.made first count (flags_there s (held_at m pid first)) ((pid, holds_of (held_at m pid first)) ∷ shares_in m pid first) (indexes (first + n) (segments_of segs part - n)) (sizes_of (segs - n) part))
        (lost_in m pid (indexes (first + segments_of segs part) (n - segments_of segs part)))) ≡ indexes (first + segments_of segs part) (n - segments_of segs part)
    go true e =
        (let l : n < segments_of segs part = less n (segments_of segs part) e in
        let z : n - segments_of segs part ≡ 0 = omega (arith, l) in
        dropped_new s.made first count (flags_there s (held_at m pid first)) ((pid, holds_of (held_at m pid first)) ∷ shares_in m pid first) (indexes (first + n) (segments_of segs part - n)) (sizes_of (segs - n) part)
        ∙ sym (ap (indexes (first + segments_of segs part)) z))
      where
        less : (x y : ℕ) → nat_lt x y ≡ true → x < y
        less x y e = grind (arith, nat_tests)
    go false e = dropped_lost m pid first (first + segments_of segs part) (n - segments_of segs part) (λ i low high. all i (omega (arith, low)) (within i low high))
      where
        within : (i : ℕ) → first + segments_of segs part ≤ i → i < first + segments_of segs part + (n - segments_of segs part) → i < first + n
        within i low high = omega (arith, low, high)

pub asked_by : (s : Shelf) (m : Maps) (pid sel n first count : ℕ) (h : Held) → first ≡ sel / 8 → count ≡ run_count (sel / 8) h → AreKept m → AreNamed s m → IsProcess m pid → under m pid sel ≡ Some h → is_of_run (sel / 8) h ≡ true
    → n ≤ count → AreMembers m pid first first (first + n) → (n < count → is_member_in m pid first (first + n) ≡ false) → IsAsked s m pid sel n h
asked_by s m pid sel n first count h e f kept named process held run few front last = record {
  kept = kept;
  named = named;
  process = process;
  held = held;
  run = run;
  few = subst (λ (x : ℕ). n ≤ x) f few;
  front = subst (λ (x : ℕ). AreMembers m pid x x (x + n)) e front;
  last = λ l. subst (λ (x : ℕ). is_member_in m pid x (x + n) ≡ false) e (last (subst (λ (x : ℕ). n < x) (sym f) l));
}

pub fault_by : (p : Parts) (s : Shelf) (m : Maps) (pid sel first count n segs part : ℕ) (h : Held) (c : Cpu) (x : Option ℕ) → p.shelf ≡ s → p.maps ≡ m → first ≡ sel / 8 → count ≡ run_count (sel / 8) h
    → x ≡ run_fault s m pid first count n segs part c → run_fault p.shelf p.maps pid (sel / 8) (run_count (sel / 8) h) n segs part c ≡ x
fault_by p s m pid sel first count n segs part h c x es em e f is =
    fault_in p s m pid (sel / 8) (run_count (sel / 8) h) n segs part c es em
    ∙ sym (ap (λ (a : ℕ). run_fault s m pid a count n segs part c) e ∙ ap (λ (b : ℕ). run_fault s m pid (sel / 8) b n segs part c) f)
    ∙ sym is

-- nothing is taken from the registers at an error
pub without_refused : (r : Ruling) (error : ℕ) (c : Cpu) → r ≡ refusal error → c ≡ without c (dropped_indexes r.changes)
without_refused r error c e = sym (ap (λ (x : Ruling). without c (dropped_indexes x.changes)) e)

pub without_done : (r : Ruling) (a : Roomed) (cs : List Change) (is : List ℕ) (c d : Cpu) → r ≡ grants 0 cs → dropped_indexes cs ≡ is → d ≡ cond (is_done a) (without c is) c → d ≡ without c (dropped_indexes (changes_roomed r a))
without_done r a cs is c d e f g =
    g ∙ go (is_done a) ∙ sym (ap (λ (x : List Change). without c (dropped_indexes x)) (ap (λ (x : Ruling). changes_roomed x a) e ∙ grants_changes cs a))
  where
    go : (b : Bool) → cond b (without c is) c ≡ without c (dropped_indexes (cond b cs []))
    go true = ap (without c) (sym f)
    go false = refl

-- a run that isn't discardable
pub fixed_there : (s : Shelf) (m : Maps) (pid first : ℕ) (h : Held) → AreFull s m → held_at m pid first ≡ Some h → is_of_run first h ≡ true → has_bit (flags_there s (held_at m pid first)) 2 ≡ false
fixed_there s m pid first h full here run =
    ap (λ (o : Option Held). has_bit (flags_there s o) 2) here ∙ full.fixed pid first h (record { there = here; run = (in_run first h run).0 })

pub first_changes : (s : Shelf) (r : Ruling) (cs ds : List Change) (says : SegId → ℕ → Type 0) → r ≡ grants 0 (cs ++ ds) → FirstSized s cs says → FirstSized s r.changes says
first_changes s r cs ds says e a = record {
  id = a.id;
  size = a.size;
  live = a.live;
  rest = a.rest ++ ds;
  change = ap (λ (x : Ruling). x.changes) e ∙ ap (λ (xs : List Change). xs ++ ds) a.change;
  holds = a.holds;
}

-- An index behind the members can't be found taken.
pub never_vacant : (p : Parts) (o : Others) (pid sel n : ℕ) (h : Held) → IsAsked p.shelf p.maps pid sel n h → AreRuns p.maps → AreFull p.shelf p.maps → o.processes ≡ p.maps.processes
    → (j : ℕ) → sel / 8 + n ≤ j → j < sel / 8 + run_count (sel / 8) h → (is_reserved p.maps (region_of pid j) j ≡ false) ⊎ (is_held p.maps (region_of pid j) j ≡ true) → ⊥
never_vacant p o pid sel n h asked runs full count j from to lack =
    let here = (under_held p.maps pid sel h asked.held).1 in
    let all = whole p o asked.kept asked.named runs full count pid (sel / 8) n h asked.process here asked.run asked.few asked.front asked.last in
    vacant_there p o asked.kept asked.named runs full count pid (sel / 8) n h asked.process here asked.run asked.few asked.front asked.last j from (subst (λ (x : ℕ). j < sel / 8 + x) all to) lack

-- What the tests of a call found.

pub held_first : (m : Maps) (pid sel first : ℕ) (h : Held) → first ≡ sel / 8 → under m pid sel ≡ Some h → held_at m pid first ≡ Some h
held_first m pid sel first h e held = ap (held_at m pid) e ∙ (under_held m pid sel h held).1

-- the run has a member at least
pub some_there : (m : Maps) (pid sel n first count : ℕ) (h : Held) → first ≡ sel / 8 → count ≡ run_count (sel / 8) h → 0 < count → under m pid sel ≡ Some h → is_of_run (sel / 8) h ≡ true
    → (n < count → is_member_in m pid first (first + n) ≡ false) → 0 < n
some_there m pid sel zero first count h e f some held run last =
    let z : first + 0 ≡ sel / 8 = omega (arith, e) in
    absurd (false≢true (sym (last some) ∙ ap (is_member_in m pid first) z ∙ ap (λ (i : ℕ). is_member i (held_at m pid (sel / 8))) e ∙ ap (is_member (sel / 8)) (under_held m pid sel h held).1 ∙ run))
some_there m pid sel (suc n) first count h e f some held run last = omega arith

by_tests : (a b d : Bool) → (let x : Option ℕ = if a then Some 87 else (if b then Some 8 else (if d then Some 5 else None)) in x) ≡ None → (a ≡ false) × (b ≡ false)
by_tests true b d f = absurd (cc)
by_tests false true d f = absurd (cc)
by_tests false false true f = absurd (cc)
by_tests false false false f = (refl, refl)

module _ (s : Shelf) (m : Maps) (pid first count n segs part : ℕ) (c : Cpu) (none : None ≡ run_fault s m pid first count n segs part c) where
  pub some_wanted : 0 < segments_of segs part
  some_wanted = above (segments_of segs part) (by_tests (segments_of segs part == 0) (nat_lt count (segments_of segs part)) _ (sym none)).0
    where
      above : (x : ℕ) → (x == 0) ≡ false → 0 < x
      above x e = grind arith

  pub enough_there : segments_of segs part ≤ count
  enough_there = within count (segments_of segs part) (by_tests (segments_of segs part == 0) (nat_lt count (segments_of segs part)) _ (sym none)).1
    where
      within : (r x : ℕ) → nat_lt r x ≡ false → x ≤ r
      within r x e = grind (arith, nat_tests)

pub wanted_vacant : (m : Maps) (pid first n segs part more : ℕ) → more ≡ segments_of segs part - n → AreVacant m pid (first + n) (first + n + more) → AreVacant m pid (first + n) (first + segments_of segs part)
wanted_vacant m pid first n segs part more e all i low high = all i low (omega (arith, e, low, high))

pub room_there : (s : Shelf) (n segs part more : ℕ) → more ≡ segments_of segs part - n → nat_lt (length s.entries) (length (live_numbers 0 s.entries) + more) ≡ false
    → length (live_numbers 0 s.entries) + (segments_of segs part - n) ≤ length s.entries
room_there s n segs part more e few = subst (λ (x : ℕ). length (live_numbers 0 s.entries) + x ≤ length s.entries) e (within (length s.entries) (length (live_numbers 0 s.entries) + more) few)
  where
    within : (r x : ℕ) → nat_lt r x ≡ false → x ≤ r
    within r x e = grind (arith, nat_tests)

module _ (p : Parts) (o : Others) (pid segs part sel : ℕ) (c : Cpu) (n : ℕ) (h : Held) (asked : IsAsked p.shelf p.maps pid sel n h) (runs : AreRuns p.maps) (full : AreFull p.shelf p.maps) (count : o.processes ≡ p.maps.processes)
    (first most more : ℕ) (s : Shelf) (m : Maps) (es : p.shelf ≡ s) (em : p.maps ≡ m) (e : first ≡ sel / 8) (f : most ≡ run_count (sel / 8) h) (more_is : more ≡ segments_of segs part - n)
    (fault : run_fault p.shelf p.maps pid (sel / 8) (run_count (sel / 8) h) n segs part c ≡ None) where
  room_is : (b : Bool) → nat_lt (length s.entries) (length (live_numbers 0 s.entries) + more) ≡ b → nat_lt (length p.shelf.entries) (length (live_numbers 0 p.shelf.entries) + (segments_of segs part - n)) ≡ b
  room_is b is = room_in p s (segments_of segs part - n) es ∙ ap (λ (x : ℕ). nat_lt (length s.entries) (length (live_numbers 0 s.entries) + x)) (sym more_is) ∙ is

  wanted_few : segments_of segs part ≤ run_count (sel / 8) h
  wanted_few = enough_there p.shelf p.maps pid (sel / 8) (run_count (sel / 8) h) n segs part c (sym fault)

  pub by_full : (nat_lt (length s.entries) (length (live_numbers 0 s.entries) + more) ≡ true)
      ⊎ ((i : ℕ) × ((first + n ≤ i) × (i < first + n + more) × ((is_reserved m (region_of pid i) i ≡ false) ⊎ (is_held m (region_of pid i) i ≡ true))))
      → huge_reallocation (known_in p o) pid segs part sel c ≡ refusal 8
  by_full (inl many) = huge_full p o pid segs part sel c n h asked runs full count fault (room_is true many)
  by_full (inr lack) =
      (let few = wanted_few in
      let from = lack.1.0 in
      let to = lack.1.1 in
      absurd (never_vacant p o pid sel n h asked runs full count lack.0 (omega (arith, from, e)) (omega (arith, from, to, e, more_is, few))
      (subst (λ (x : Maps). (is_reserved x (region_of pid lack.0) lack.0 ≡ false) ⊎ (is_held x (region_of pid lack.0) lack.0 ≡ true)) (sym em) lack.1.2)))

  pub by_good : nat_lt (length s.entries) (length (live_numbers 0 s.entries) + more) ≡ false
      → huge_reallocation (known_in p o) pid segs part sel c ≡ grants 0 (sized_last s m pid first n segs part ++ changed_in s m pid first most n segs part)
  by_good few =
      huge_good p o pid segs part sel c n h asked runs full count fault (room_is false few)
      ∙ ap (grants 0) (changes_in p s m pid (sel / 8) (run_count (sel / 8) h) n segs part es em
      ∙ sym (ap (λ (a : ℕ). sized_last s m pid a n segs part ++ changed_in s m pid a most n segs part) e ∙ ap (λ (b : ℕ). sized_last s m pid (sel / 8) n segs part ++ changed_in s m pid (sel / 8) b n segs part) f))

-- the index of a selector
pub small_index : (sel : ℕ) → sel < 65536 → sel / 8 < 8192
small_index sel small = omega (arith, small)

-- a run has an index at least
pub run_some : (i : ℕ) (h : Held) → is_of_run i h ≡ true → i < 8192 → 0 < run_count i h
run_some i h run small =
    least h.reserved (end_of (region_of 0 i) - i) (some h.reserved (and_parts (not (h.reserved == 0)) (h.first == i) run).0) (room (nat_lt i 4096) refl)
  where
    least : (x y : ℕ) → 0 < x → 0 < y → 0 < min x y
    least x y a b = omega (arith, a, b)

    some : (n : ℕ) → not (n == 0) ≡ true → 0 < n
    some n e = grind arith

    room : (b : Bool) → nat_lt i 4096 ≡ b → 0 < end_of (cond b (Private 0) Shared) - i
    room true e = (let l : i < 4096 = less i e in omega (arith, l))
      where
        less : (x : ℕ) → nat_lt x 4096 ≡ true → x < 4096
        less x e = grind (arith, nat_tests)
    room false e = omega (arith, small)

-- the indexes of a run lie in its region
pub inside_there : (run : Run) (sel : ℕ) (h : Held) → run ≡ record { first = sel / 8; count = run_count (sel / 8) h } → sel / 8 < 8192 → run.first + run.count ≤ 8192
inside_there run sel h e small =
    let a : run.first ≡ sel / 8 = ap (λ (r : Run). r.first) e in
    let b : run.count ≡ run_count (sel / 8) h = ap (λ (r : Run). r.count) e in
    let d = ends (sel / 8) small in
    omega (arith, a, b, d)
  where
    ends : (i : ℕ) → i < 8192 → i + (end_of (region_of 0 i) - i) ≤ 8192
    ends i small = go (nat_lt i 4096) refl
      where
        go : (b : Bool) → nat_lt i 4096 ≡ b → i + (end_of (cond b (Private 0) Shared) - i) ≤ 8192
        go true e = (let l : i < 4096 = less i e in omega (arith, l))
          where
            less : (x : ℕ) → nat_lt x 4096 ≡ true → x < 4096
            less x e = grind (arith, nat_tests)
        go false e = omega (arith, small)

-- no region has more indexes
pub short_there : (run : Run) (sel : ℕ) (h : Held) → run ≡ record { first = sel / 8; count = run_count (sel / 8) h } → run.count ≤ 4096
short_there run sel h e =
    let b : run.count ≡ run_count (sel / 8) h = ap (λ (r : Run). r.count) e in
    let d = ends (sel / 8) in
    omega (arith, b, d)
  where
    ends : (i : ℕ) → end_of (region_of 0 i) - i ≤ 4096
    ends i = go (nat_lt i 4096) refl
      where
        go : (b : Bool) → nat_lt i 4096 ≡ b → end_of (cond b (Private 0) Shared) - i ≤ 4096
        go true e = omega arith
        go false e = (let l : 4096 ≤ i = above i e in omega (arith, l))
          where
            above : (x : ℕ) → nat_lt x 4096 ≡ false → 4096 ≤ x
            above x e = grind (arith, nat_tests)

-- the same of a run that was found under a selector
pub asked_run : (s : Shelf) (m : Maps) (pid sel n : ℕ) (run : Run) (h : Held) → run ≡ record { first = sel / 8; count = run_count (sel / 8) h } → AreKept m → IsCaller s m pid → under m pid sel ≡ Some h
    → is_of_run (sel / 8) h ≡ true → n ≤ run.count → AreMembers m pid run.first run.first (run.first + n) → (n < run.count → is_member_in m pid run.first (run.first + n) ≡ false) → IsAsked s m pid sel n h
asked_run s m pid sel n run h is kept caller held first few members last =
    asked_by s m pid sel n run.first run.count h (ap (λ (r : Run). r.first) is) (ap (λ (r : Run). r.count) is) kept caller.named caller.process held first few members last

-- What the call comes to, by what its tests found over the store and the tables.
module _ (s : Shelf) (m : Maps) (p : Parts) (o : Others) (known : IsKnownBy s m p o) (pid segs part sel : ℕ) (c : Cpu) (n : ℕ) (run : Run) (h : Held) (is : run ≡ record { first = sel / 8; count = run_count (sel / 8) h }) (asked : IsAsked s m pid sel n h) where
  asked_there : IsAsked p.shelf p.maps pid sel n h
  asked_there = asked_in p s m pid sel n h known.shelf known.maps asked

  runs_there : AreRuns p.maps
  runs_there = subst AreRuns (sym known.maps) known.runs

  full_there : AreFull p.shelf p.maps
  full_there = full_in p s m known.shelf known.maps known.full

  count_there : o.processes ≡ p.maps.processes
  count_there = known.processes ∙ ap (λ (x : Maps). x.processes) (sym known.maps)

  fault_there : (x : Option ℕ) → x ≡ run_fault s m pid run.first run.count n segs part c → run_fault p.shelf p.maps pid (sel / 8) (run_count (sel / 8) h) n segs part c ≡ x
  fault_there x found = fault_by p s m pid sel run.first run.count n segs part h c x known.shelf known.maps (ap (λ (r : Run). r.first) is) (ap (λ (r : Run). r.count) is) found

  pub fault_known : (error : ℕ) → Some error ≡ run_fault s m pid run.first run.count n segs part c → huge_reallocation (known_in p o) pid segs part sel c ≡ refusal error
  fault_known error found = huge_fault p o pid segs part sel c n h asked_there runs_there full_there count_there error (fault_there (Some error) found)

  pub full_known : (more : ℕ) → more ≡ segments_of segs part - n → None ≡ run_fault s m pid run.first run.count n segs part c
      → (nat_lt (length s.entries) (length (live_numbers 0 s.entries) + more) ≡ true)
      ⊎ ((i : ℕ) × ((run.first + n ≤ i) × (i < run.first + n + more) × ((is_reserved m (region_of pid i) i ≡ false) ⊎ (is_held m (region_of pid i) i ≡ true))))
      → huge_reallocation (known_in p o) pid segs part sel c ≡ refusal 8
  full_known more more_is found =
      by_full p o pid segs part sel c n h asked_there runs_there full_there count_there run.first run.count more s m known.shelf known.maps (ap (λ (r : Run). r.first) is) (ap (λ (r : Run). r.count) is) more_is (fault_there None found)

  pub good_known : (more : ℕ) → more ≡ segments_of segs part - n → None ≡ run_fault s m pid run.first run.count n segs part c → nat_lt (length s.entries) (length (live_numbers 0 s.entries) + more) ≡ false
      → huge_reallocation (known_in p o) pid segs part sel c ≡ grants 0 (sized_last s m pid run.first n segs part ++ changed_in s m pid run.first run.count n segs part)
  good_known more more_is found =
      by_good p o pid segs part sel c n h asked_there runs_there full_there count_there run.first run.count more s m known.shelf known.maps (ap (λ (r : Run). r.first) is) (ap (λ (r : Run). r.count) is) more_is (fault_there None found)
