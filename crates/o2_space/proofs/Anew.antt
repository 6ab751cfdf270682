-- A call makes anew only what was discarded.
use Rattle.std.proofs.Common.{◌≡◌, ℕ, ◌/◌, ◌==◌, ◌||◌, Bool, true, false, cond, List, [], ◌∷◌, length, map, Option, Some, None, option_map, ap, sym, ◌∙◌, refl, subst, if◌then◌else◌}
use Rattle.o2_isa.specs.declared.cpu.Cpu.{Cpu}
use Rattle.o2_gate.specs.declared.requests.SegmentArguments.{SegmentArguments}
use Rattle.o2_gate.specs.declared.requests.SegmentArguments.TheVariants.{Alloc, Realloc, Free, Size, Lock, Unlock, Alias, Shared, Huge}
use Rattle.o2_run.specs.Room.{kept_size}
use Rattle.o2_world.specs.Changes.{Change, Drops, Finishes, Frees, Holds, Locks, Makes, Marks, Names, Reserves, Resizes}
use Rattle.o2_world.specs.Known.{Known, Marks as SegmentMarks, known_of, marks_of}
use Rattle.o2_world.specs.Map.{get}
use Rattle.o2_world.specs.Rulings.{Ruling, by_load, freeing_of, full_size, held_under, in_use, is_alias, is_discardable, is_in_run, is_later, keeps_its_size}
use Rattle.o2_world.specs.Rulings.{locking_of, locking_with, members, reallocation_of, reallocation_with, resizes_with, unlocking_of, unlocking_with}
use Rattle.o2_world.specs.World.{Held, Segment, Setting, World}
use Rattle.o2_calls.specs.Acts.{ruling_of}
use Rattle.o2_calls.proofs.Behind.{AreGifts, AreHolds, GivesHold, GivesHolds, GivesNamed, GivesNew, GivesNone, GivesRun, IsGift, IsGiving, IsHold}
use Rattle.o2_calls.proofs.RunsOver.{AreOfRuns, IsOfRuns, runs_change}
use Rattle.o2_calls.proofs.Shapes.{alias_gives, alloc_gives, shared_gives, size_gives}

-- a mark is that of a segment that was discarded
abbrev pub IsAnew : Known → Change → Type 0
IsAnew k (Makes s) = Unit {0}
IsAnew k (Resizes name size) = Unit {0}
IsAnew k (Locks name count) = Unit {0}
IsAnew k (Marks name discarded) = (m : SegmentMarks) → k.segment name ≡ Some m → m.discarded ≡ true
IsAnew k (Holds p i h) = Unit {0}
IsAnew k (Drops p i count) = Unit {0}
IsAnew k (Finishes p state) = Unit {0}
IsAnew k (Reserves r) = Unit {0}
IsAnew k (Frees region first) = Unit {0}
IsAnew k (Names text name) = Unit {0}

abbrev pub AreAnew : Known → List Change → Type 0
AreAnew k [] = Unit {0}
AreAnew k (c ∷ cs) = IsAnew k c × AreAnew k cs

-- by a test, or by a refusal
either : (P : List Change → Type 0) (b : Bool) (r q : Ruling) → P r.changes → P q.changes → P (cond b r q).changes
either P true r q h k = h
either P false r q h k = k

-- what is no mark
but_marks : (k : Known) (c : Change) → ((name : ℕ) (discarded : Bool) → c ≡ Marks name discarded → ⊥) → IsAnew k c
but_marks k (Makes s) other = tt
but_marks k (Resizes name size) other = tt
but_marks k (Locks name count) other = tt
but_marks k (Marks name discarded) other = absurd (other name discarded refl)
but_marks k (Holds p i h) other = tt
but_marks k (Drops p i count) other = tt
but_marks k (Finishes p state) other = tt
but_marks k (Reserves r) other = tt
but_marks k (Frees region first) other = tt
but_marks k (Names text name) other = tt

module _ (k : Known) where
  drops_anew : (n : ℕ) (is : List ℕ) → AreAnew k (map (λ (i : ℕ). Drops n i 1) is)
  drops_anew n [] = tt
  drops_anew n (i ∷ is) = (tt, drops_anew n is)

  holds_anew : (cs : List Change) → AreHolds cs → AreAnew k cs
  holds_anew [] are = tt
  holds_anew (c ∷ cs) are = (but_marks k c (λ name d e. subst IsHold e are.0), holds_anew cs are.1)

  gifts_anew : (cs : List Change) → AreGifts cs → AreAnew k cs
  gifts_anew [] are = tt
  gifts_anew (c ∷ cs) are = (but_marks k c (λ name d e. subst IsGift e are.0), gifts_anew cs are.1)

  runs_anew : (cs : List Change) → AreOfRuns cs → AreAnew k cs
  runs_anew [] are = tt
  runs_anew (c ∷ cs) are = (but_marks k c (λ name d e. subst IsOfRuns e are.0), runs_anew cs are.1)

  giving_anew : (cs : List Change) → IsGiving cs → AreAnew k cs
  giving_anew cs (GivesNone e) = subst (AreAnew k) (sym e) tt
  giving_anew cs (GivesNew s p i h e) = subst (AreAnew k) (sym e) (tt, (tt, tt))
  giving_anew cs (GivesHold p i h e) = subst (AreAnew k) (sym e) (tt, tt)
  giving_anew cs (GivesNamed s p i h text name e) = subst (AreAnew k) (sym e) (tt, (tt, (tt, tt)))
  giving_anew cs (GivesHolds are) = holds_anew cs are
  giving_anew cs (GivesRun are) = gifts_anew cs are

  same_mark : {a b : SegmentMarks} → Some a ≡ Some b → b.discarded ≡ a.discarded
  same_mark e = cc

  resize_anew : (name size : ℕ) (o : Option SegmentMarks) → k.segment name ≡ o → AreAnew k (reallocation_with name size o).changes
  resize_anew name size None there = tt
  resize_anew name size (Some m) there = either (AreAnew k) (keeps_its_size size m) _ _ tt (go m.discarded refl)
    where
      go : (b : Bool) → m.discarded ≡ b → AreAnew k (resizes_with name size b)
      go true is = ((λ x at. same_mark (sym there ∙ at) ∙ is), (tt, (tt, tt)))
      go false is = (tt, tt)

  realloc_anew : (size : ℕ) (o : Option Held) → AreAnew k (reallocation_of k size o).changes
  realloc_anew size None = tt
  realloc_anew size (Some h) = either (AreAnew k) (is_alias h.cause || is_in_run h) _ _ tt (resize_anew h.name size (k.segment h.name) refl)

  free_anew : (n selector : ℕ) (c : Cpu) (o : Option Held) → AreAnew k (freeing_of k n selector c o).changes
  free_anew n selector c None = tt
  free_anew n selector c (Some h) =
      either (AreAnew k) (by_load h.cause || is_later (selector / 8) h) _ _ tt
      (either (AreAnew k) (in_use c (members k n (selector / 8) h)) _ _ tt (drops_anew n (members k n (selector / 8) h)))

  lock_anew : (name : ℕ) (o : Option SegmentMarks) → AreAnew k (locking_with name o).changes
  lock_anew name None = tt
  lock_anew name (Some m) = either (AreAnew k) (is_discardable m) _ _ (either (AreAnew k) m.discarded _ _ tt (tt, tt)) tt

  locking_anew : (o : Option Held) → AreAnew k (locking_of k o).changes
  locking_anew None = tt
  locking_anew (Some h) = lock_anew h.name (k.segment h.name)

  unlock_anew : (name : ℕ) (o : Option SegmentMarks) → AreAnew k (unlocking_with name o).changes
  unlock_anew name None = tt
  unlock_anew name (Some m) = either (AreAnew k) (is_discardable m) _ _ (either (AreAnew k) (m.lock == 0) _ _ tt (tt, tt)) tt

  unlocking_anew : (o : Option Held) → AreAnew k (unlocking_of k o).changes
  unlocking_anew None = tt
  unlocking_anew (Some h) = unlock_anew h.name (k.segment h.name)

  pub calls_anew : (a : SegmentArguments) (n : ℕ) (c : Cpu) → AreAnew k (ruling_of a k n c).changes
  calls_anew (Alloc size flags) n c = giving_anew _ (alloc_gives k n size flags)
  calls_anew (Realloc size selector) n c = realloc_anew (full_size size) (held_under k n selector)
  calls_anew (Free selector) n c = free_anew n selector c (held_under k n selector)
  calls_anew (Size selector) n c = giving_anew _ (size_gives k n selector)
  calls_anew (Lock selector) n c = locking_anew (held_under k n selector)
  calls_anew (Unlock selector) n c = unlocking_anew (held_under k n selector)
  calls_anew (Alias selector) n c = giving_anew _ (alias_gives k n (selector / 8) (held_under k n selector))
  calls_anew (Shared a) n c = giving_anew _ (shared_gives a k n c)
  calls_anew (Huge a) n c = runs_anew (ruling_of (Huge a) k n c).changes (runs_change a k n c)

-- so it kept no bytes
pub anew_size : (s : Setting) (w : World) (name : ℕ) → IsAnew (known_of s w) (Marks name false) → kept_size (get w.names name) ≡ 0
anew_size s w name = go (get w.names name)
  where
    go : (o : Option Segment) → ((m : SegmentMarks) → option_map marks_of o ≡ Some m → m.discarded ≡ true) → kept_size o ≡ 0
    go None is = refl
    go (Some y) is = ap (λ (b : Bool). if b then 0 else length y.bytes) (is (marks_of y) refl)
