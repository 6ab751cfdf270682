-- The names of shared segments are those of the world's texts behind each step, where they were so before it.
use Rattle.std.proofs.Common.{◌≡◌, ℕ, ◌+◌, ◌&&◌, Bool, true, false, cond, List, [], ◌∷◌, ◌++◌, map, Option, Some, None, is_some, if◌then◌else◌, ap, refl, sym, ◌∙◌, subst}
use Rattle.std.specs.Prelude.{nat_le, nat_lt, ◌==◌, ◌||◌, ◌/◌, not}
use Rattle.std.specs.List.{list_any}
use Rattle.o2_conf.specs.Dispatch.{Dispatch}
use Rattle.o2_isa.specs.declared.cpu.Cpu.{Cpu}
use Rattle.o2_place.specs.declared.seg_id.SegId.{SegId}
use Rattle.o2_regions.specs.Maps.{Maps}
use Rattle.o2_segbus.specs.Frames.{KeepsStore}
use Rattle.o2_segbus.specs.Guards.{AreAged}
use Rattle.o2_store.specs.Shelf.{SameTables, Shelf, entry_of}
use Rattle.o2_world.specs.Calls.{Effect}
use Rattle.o2_world.specs.Changes.{Change, Drops, Finishes, Frees, Holds, Locks, Makes, Marks, Names, Reserves, Resizes, swept, takes, told_of, with_all, with_change, with_changes}
use Rattle.o2_world.specs.Holders.{is_held, process_at}
use Rattle.o2_world.specs.Known.{Known, Marks as SegmentMarks, same_text, text_name}
use Rattle.o2_world.specs.Map.{Map, get}
use Rattle.o2_world.proofs.TiedChanges.{flags_live}
use Rattle.o2_world.specs.Rulings.{Ruling, grants, aliasing_at, aliasing_of, allocation_at, by_load, free_index, freeing_of, full_size, held_under, in_use, is_alias}
use Rattle.o2_world.specs.Rulings.{is_discardable, is_in_run, is_later, keeps_its_size, locking_of, locking_with, members, reallocation_of, reallocation_with, region_by, resizes_with}
use Rattle.o2_world.specs.Rulings.{sizing_of, sizing_with, unlocking_of, unlocking_with}
use Rattle.o2_world.specs.Run.{all_changes, before, changed, next_dispatch, worked}
use Rattle.o2_world.specs.Tied.{AreLive, IsSound}
use Rattle.o2_world.specs.World.{Held, Process, Segment, Setting, World, is_live}
use Rattle.o2_world.specs.declared.types.State.TheVariants.{Live}
use Rattle.o2_world.proofs.BareChanges.{same_all, worked_bare}
use Rattle.o2_world.proofs.StepSound.{IsOrderly, acted_sound}
use Rattle.o2_desc.specs.Bits.{is_writable}
use Rattle.o2_gate.specs.declared.requests.SegmentArguments.{SegmentArguments}
use Rattle.o2_gate.specs.declared.requests.SegmentArguments.TheVariants.{Alloc, Realloc, Free, Size, Lock, Unlock, Alias, Shared, Huge}
use Rattle.o2_stands.specs.Parts.{Parts}
use Rattle.o2_stands.specs.Stands.{IsTidy, Matches, Stands}
use Rattle.o2_stands.proofs.Matching.{matched_by}
use Rattle.o2_stands.proofs.TidySteps.{acted_tidy}
use Rattle.o2_segs.proofs.Sharing.{alive_tables, lived_tables}
use Rattle.o2_shared.specs.declared.names.Name.{Name}
use Rattle.o2_shared.specs.Texts.{AreInPlace, AreOnce, AreTexts, IsBehind, age_of, found_from, found_or, live_in}
use Rattle.o2_shared.proofs.Dying.{texts_die}
use Rattle.o2_calls.specs.Acts.{MayStop, ruling_of}
use Rattle.o2_calls.proofs.RunsOver.{AreOfRuns, IsOfRuns, runs_change}
use Rattle.o2_calls.specs.SharedActs.{AreSpelled, LeavesSpelled}

-- Where the same segments live, the same names count.

module _ (s t : Shelf) (same : (id : SegId) → is_some (entry_of t id) ≡ is_some (entry_of s id)) where
  live_as : (text : List ℕ) (k : Option Name) → live_in t text k ≡ live_in s text k
  live_as text None = refl
  live_as text (Some k) = ap (λ (b : Bool). if same_text k.text text && b then Some k.id else None) (same k.id)

  found_as : (text : List ℕ) (names : List (Option Name)) (i : ℕ) → found_from t text names i ≡ found_from s text names i
  found_as text [] i = refl
  found_as text (k ∷ ks) i = ap (λ (o : Option SegId). found_or i o (found_from t text ks (i + 1))) (live_as text k) ∙ ap (found_or i (live_in s text k)) (found_as text ks (i + 1))

  pub spelled_as : (names : List (Option Name)) (w : World) → AreSpelled s names w → AreSpelled t names w
  spelled_as names w was = record {
    texts = record { each = λ text. was.texts.each text ∙ ap age_of (sym (found_as text names 4096)) };
    once = was.once;
  }

pub spelled_shape : (s t : Shelf) → SameTables s t → (names : List (Option Name)) (w : World) → AreSpelled s names w → AreSpelled t names w
spelled_shape s t tables =
    spelled_as s t (λ id. both (is_some (entry_of t id)) (is_some (entry_of s id)) (lived_tables s t tables id) (alive_tables s t tables id))
  where
    both : (a b : Bool) → (a ≡ true → b ≡ true) → (b ≡ true → a ≡ true) → a ≡ b
    both true b f g = sym (f refl)
    both false true f g = g refl
    both false false f g = refl

-- where bytes alone are written
pub spelled_written : (s t : Shelf) → KeepsStore s t → (names : List (Option Name)) (w : World) → AreSpelled s names w → AreSpelled t names w
spelled_written s t store = spelled_as s t (λ id. ap (λ (x : Shelf). is_some (entry_of x id)) store.store)

-- Texts alone count of a world.

pub spelled_to : (t : Shelf) (names : List (Option Name)) (w v : World) → v.texts ≡ w.texts → AreSpelled t names w → AreSpelled t names v
spelled_to t names w v same was = record {
  texts = subst (λ (texts : List (List ℕ × ℕ)). AreTexts t names (text_name texts)) (sym same) was.texts;
  once = subst AreOnce (sym same) was.once;
}

pub spelled_by : (t : Shelf) (names other : List (Option Name)) (w : World) → other ≡ names → AreSpelled t names w → AreSpelled t other w
spelled_by t names other w same was = subst (λ (l : List (Option Name)). AreSpelled t l w) (sym same) was

-- In a sound world each text is that of a name that is held.

told_each : (ps : List Process) (names : Map Segment) (texts : List (List ℕ × ℕ)) → AreLive names texts → ((q : ℕ) → is_some (get names q) ≡ true → is_held ps q ≡ true) → told_of ps texts ≡ texts
told_each ps names [] live held = refl
told_each ps names (t ∷ ts) live held = go (is_held ps t.1) (held t.1 (flags_live (get names t.1) live.0)) (told_each ps names ts live.1 held)
  where
    go : (b : Bool) → b ≡ true → told_of ps ts ≡ ts → cond b (t ∷ told_of ps ts) (told_of ps ts) ≡ t ∷ ts
    go true e rest = ap (λ (xs : List (List ℕ × ℕ)). t ∷ xs) rest
    go false e rest = absurd (let z : false ≡ true = e in cc)

pub all_told : (w : World) → IsSound w → told_of w.processes w.texts ≡ w.texts
all_told w sound = told_each w.processes w.names w.texts sound.tied.texts sound.swept.named

-- Texts die with their segments.

pub spelled_died : (s : Shelf) (m : Maps) (names : List (Option Name)) (p : Parts) (w v : World) → AreAged s → AreInPlace s m names → IsBehind s p.shelf → AreSpelled s names w
    → IsTidy v.processes v.names v.reserved → Matches p v → v.texts ≡ told_of v.processes w.texts → AreSpelled p.shelf names v
spelled_died s m names p w v aged places behind was tidy matches texts =
    let died = texts_die s m names p v w.texts aged places behind was.texts was.once tidy matches in
    record {
      texts = subst (λ (ts : List (List ℕ × ℕ)). AreTexts p.shelf names (text_name ts)) (sym texts) died.0;
      once = subst AreOnce (sym texts) died.1;
    }

-- where the world stays
pub spelled_still : (s : Shelf) (m : Maps) (names : List (Option Name)) (p : Parts) (w : World) → AreAged s → AreInPlace s m names → IsBehind s p.shelf → AreSpelled s names w → Stands p w → IsSound w
    → AreSpelled p.shelf names w
spelled_still s m names p w aged places behind was stands sound =
    spelled_died s m names p w w aged places behind was stands.tidy (matched_by p w.processes w.names w.next_name w.reserved stands) (sym (all_told w sound))

-- Changes that name nothing.

abbrev NamesNothing : Change → Type 0
NamesNothing (Makes s) = Unit {0}
NamesNothing (Resizes n size) = Unit {0}
NamesNothing (Locks n count) = Unit {0}
NamesNothing (Marks n discarded) = Unit {0}
NamesNothing (Holds p i h) = Unit {0}
NamesNothing (Drops p i count) = Unit {0}
NamesNothing (Finishes p state) = Unit {0}
NamesNothing (Reserves r) = Unit {0}
NamesNothing (Frees region first) = Unit {0}
NamesNothing (Names text name) = ⊥

abbrev pub NameNothing : List Change → Type 0
NameNothing [] = Unit {0}
NameNothing (c ∷ cs) = NamesNothing c × NameNothing cs

one_text : (w : World) (c : Change) → NamesNothing c → (with_change w c).texts ≡ w.texts
one_text w (Makes s) none = refl
one_text w (Resizes n size) none = refl
one_text w (Locks n count) none = refl
one_text w (Marks n discarded) none = refl
one_text w (Holds p i h) none = refl
one_text w (Drops p i count) none = refl
one_text w (Finishes p state) none = refl
one_text w (Reserves r) none = refl
one_text w (Frees region first) none = refl
one_text w (Names text name) none = absurd none

all_texts : (w : World) (cs : List Change) → NameNothing cs → (with_changes w cs).texts ≡ w.texts
unfolding with_changes
all_texts w [] none = refl
all_texts w (c ∷ cs) none = all_texts (with_change w c) cs none.1 ∙ one_text w c none.0

nothing_more : (cs : List Change) (c : Change) → NameNothing cs → NamesNothing c → NameNothing (cs ++ c ∷ [])
nothing_more [] c none one = (one, tt)
nothing_more (x ∷ xs) c none one = (none.0, nothing_more xs c none.1 one)

step_names_none : (n : ℕ) (e : Effect) → NameNothing e.changes → NameNothing (all_changes n e)
step_names_none n e none = go (is_live e.state)
  where
    go : (b : Bool) → NameNothing (if b then e.changes else e.changes ++ Finishes n e.state ∷ [])
    go true = none
    go false = nothing_more e.changes (Finishes n e.state) none tt

-- what is left of the texts behind a step that names nothing
told_behind : (w : World) (d : Dispatch) (x : Process) (e : Effect) → NameNothing e.changes → IsSound (changed w d x e) → (changed w d x e).texts ≡ told_of (changed w d x e).processes w.texts
unfolding changed
told_behind w d x e none sound =
    go (with_changes (worked w d x e) (all_changes d.current e)) (all_texts (worked w d x e) (all_changes d.current e) (step_names_none d.current e none)) (list_any takes (all_changes d.current e)) sound
  where
    go : (q : World) → q.texts ≡ w.texts → (b : Bool) → IsSound (if b then swept q else q) → (if b then swept q else q).texts ≡ told_of (if b then swept q else q).processes w.texts
    go q same true is = ap (told_of q.processes) same
    go q same false is = sym (all_told q is) ∙ ap (told_of q.processes) same

-- The texts behind a step are those behind its changes, whatever else it changes.

pub texts_changed : (w : World) (d : Dispatch) (x : Process) (e : Effect) → process_at w.processes d.current ≡ Some x → (changed w d x e).texts ≡ (with_all w (all_changes d.current e)).texts
unfolding changed
texts_changed w d x e at = ap (λ z. z.texts) (same_all (worked w d x e) w (all_changes d.current e) (worked_bare w d x e at))

-- and so they don't depend on whose turn it was
pub spelled_turn : (t : Shelf) (names : List (Option Name)) (w : World) (d k : Dispatch) (x : Process) (e : Effect) → d.current ≡ k.current → process_at w.processes k.current ≡ Some x
    → AreSpelled t names (changed w k x e) → AreSpelled t names (changed w d x e)
spelled_turn t names w d k x e same at was =
    spelled_to t names (changed w k x e) (changed w d x e)
    (texts_changed w d x e (ap (process_at w.processes) same ∙ at)
    ∙ (ap (λ (n : ℕ). (with_all w (all_changes n e)).texts) same ∙ sym (texts_changed w k x e at)))
    was

-- The next step of a world.

module _ (s : Setting) (w : World) (x : Process) (at : process_at w.processes (next_dispatch s w).current ≡ Some x) (live : x.state ≡ Live) (sound : IsSound w)
    (e : Effect) (orderly : IsOrderly (before s w (next_dispatch s w).current x) e) (tidy : IsTidy w.processes w.names w.reserved) where
  abbrev d : Dispatch
  d = next_dispatch s w

  -- that names nothing
  pub spelled_next : (t : Shelf) (m : Maps) (names : List (Option Name)) (p : Parts) → AreAged t → AreInPlace t m names → IsBehind t p.shelf → AreSpelled t names w → NameNothing e.changes → Matches p (changed w d x e)
      → AreSpelled p.shelf names (changed w d x e)
  spelled_next t m names p aged places behind was none matches =
      spelled_died t m names p w (changed w d x e) aged places behind was (acted_tidy s w x at live sound e orderly tidy) matches (told_behind w d x e none (acted_sound s w x at live sound e orderly))

-- The calls on segments but those by which processes share them name nothing.

either : (P : Ruling → Type 0) (b : Bool) (r q : Ruling) → P r → P q → P (cond b r q)
either P true r q h k = h
either P false r q h k = k

abbrev RulesNoName : Ruling → Type 0
RulesNoName r = NameNothing r.changes

drops_no_name : (n : ℕ) (is : List ℕ) → NameNothing (map (λ (i : ℕ). Drops n i 1) is)
drops_no_name n [] = tt
drops_no_name n (i ∷ is) = (tt, drops_no_name n is)

run_no_name : (c : Change) → IsOfRuns c → NamesNothing c
run_no_name (Makes s) is = tt
run_no_name (Resizes m size) is = tt
run_no_name (Locks m count) is = tt
run_no_name (Marks m discarded) is = tt
run_no_name (Holds p i h) is = tt
run_no_name (Drops p i count) is = tt
run_no_name (Finishes p state) is = tt
run_no_name (Reserves r) is = tt
run_no_name (Frees region first) is = tt
run_no_name (Names text name) is = absurd is

runs_no_name : (cs : List Change) → AreOfRuns cs → NameNothing cs
runs_no_name [] are = tt
runs_no_name (c ∷ cs) are = (run_no_name c are.0, runs_no_name cs are.1)

module _ (k : Known) (n : ℕ) where
  alloc_at : (size flags : ℕ) (o : Option ℕ) → RulesNoName (allocation_at k n size flags o)
  alloc_at size flags None = tt
  alloc_at size flags (Some i) = (tt, (tt, tt))

  resize_with : (name size : ℕ) (o : Option SegmentMarks) → RulesNoName (reallocation_with name size o)
  resize_with name size None = tt
  resize_with name size (Some m) = either RulesNoName (keeps_its_size size m) _ _ tt (go m.discarded)
    where
      go : (b : Bool) → RulesNoName (grants 0 (resizes_with name size b))
      go true = (tt, (tt, (tt, tt)))
      go false = (tt, tt)

  resize_of : (size : ℕ) (o : Option Held) → RulesNoName (reallocation_of k size o)
  resize_of size None = tt
  resize_of size (Some h) = either RulesNoName (is_alias h.cause || is_in_run h) _ _ tt (resize_with h.name size (k.segment h.name))

  free_of : (selector : ℕ) (c : Cpu) (o : Option Held) → RulesNoName (freeing_of k n selector c o)
  free_of selector c None = tt
  free_of selector c (Some h) =
      either RulesNoName (by_load h.cause || is_later (selector / 8) h) _ _ tt
      (either RulesNoName (in_use c (members k n (selector / 8) h)) _ _ tt (drops_no_name n (members k n (selector / 8) h)))

  size_with : (o : Option SegmentMarks) → RulesNoName (sizing_with o)
  size_with None = tt
  size_with (Some m) = tt

  size_of : (o : Option Held) → RulesNoName (sizing_of k o)
  size_of None = tt
  size_of (Some h) = size_with (k.segment h.name)

  lock_with : (name : ℕ) (o : Option SegmentMarks) → RulesNoName (locking_with name o)
  lock_with name None = tt
  lock_with name (Some m) = either RulesNoName (is_discardable m) _ _ (either RulesNoName m.discarded _ _ tt (tt, tt)) tt

  lock_of : (o : Option Held) → RulesNoName (locking_of k o)
  lock_of None = tt
  lock_of (Some h) = lock_with h.name (k.segment h.name)

  unlock_with : (name : ℕ) (o : Option SegmentMarks) → RulesNoName (unlocking_with name o)
  unlock_with name None = tt
  unlock_with name (Some m) = either RulesNoName (is_discardable m) _ _ (either RulesNoName (m.lock == 0) _ _ tt (tt, tt)) tt

  unlock_of : (o : Option Held) → RulesNoName (unlocking_of k o)
  unlock_of None = tt
  unlock_of (Some h) = unlock_with h.name (k.segment h.name)

  alias_at : (name : ℕ) (o : Option ℕ) → RulesNoName (aliasing_at n name o)
  alias_at name None = tt
  alias_at name (Some i) = (tt, tt)

  alias_of : (index : ℕ) (o : Option Held) → RulesNoName (aliasing_of k n index o)
  alias_of index None = tt
  alias_of index (Some h) = either RulesNoName (nat_le 4096 index || (not (is_writable h.rights) || is_in_run h)) _ _ tt (alias_at h.name (free_index k n))

  -- what a call leaves of the names by which processes share, by whether it may name
  pub by_name : (P : Type 0) (a : SegmentArguments) (c : Cpu) (t : Shelf) (old new : List (Option Name)) (w : World) → LeavesSpelled a t old new w
      → (new ≡ old → NameNothing (ruling_of a k n c).changes → P) → (AreSpelled t new w → P) → P
  by_name P (Alloc size flags) c t old new w leaves own shared =
      own leaves (either RulesNoName (nat_lt 15 flags) _ _ tt (either RulesNoName (nat_le k.most k.count) _ _ tt (alloc_at size flags (free_index k (region_by n flags)))))
  by_name P (Realloc size selector) c t old new w leaves own shared = own leaves (resize_of (full_size size) (held_under k n selector))
  by_name P (Free selector) c t old new w leaves own shared = own leaves (free_of selector c (held_under k n selector))
  by_name P (Size selector) c t old new w leaves own shared = own leaves (size_of (held_under k n selector))
  by_name P (Lock selector) c t old new w leaves own shared = own leaves (lock_of (held_under k n selector))
  by_name P (Unlock selector) c t old new w leaves own shared = own leaves (unlock_of (held_under k n selector))
  by_name P (Alias selector) c t old new w leaves own shared = own leaves (alias_of (selector / 8) (held_under k n selector))
  by_name P (Shared a) c t old new w leaves own shared = shared leaves
  by_name P (Huge a) c t old new w leaves own shared = own leaves (runs_no_name (ruling_of (Huge a) k n c).changes (runs_change a k n c))

-- a call that may stop names nothing
pub stops_unnamed : (a : SegmentArguments) → MayStop a → (t : Shelf) (old new : List (Option Name)) (w : World) → LeavesSpelled a t old new w → new ≡ old
stops_unnamed (Alloc size flags) may t old new w leaves = leaves
stops_unnamed (Realloc size selector) may t old new w leaves = leaves
stops_unnamed (Free selector) may t old new w leaves = leaves
stops_unnamed (Size selector) may t old new w leaves = leaves
stops_unnamed (Lock selector) may t old new w leaves = leaves
stops_unnamed (Unlock selector) may t old new w leaves = leaves
stops_unnamed (Alias selector) may t old new w leaves = leaves
stops_unnamed (Shared a) may t old new w leaves = absurd may
stops_unnamed (Huge a) may t old new w leaves = leaves

-- a call whose value is written then
pub leaves_written : (a : SegmentArguments) (s t : Shelf) → KeepsStore s t → (old new : List (Option Name)) (w : World) → LeavesSpelled a s old new w → LeavesSpelled a t old new w
leaves_written (Alloc size flags) s t store old new w leaves = leaves
leaves_written (Realloc size selector) s t store old new w leaves = leaves
leaves_written (Free selector) s t store old new w leaves = leaves
leaves_written (Size selector) s t store old new w leaves = leaves
leaves_written (Lock selector) s t store old new w leaves = leaves
leaves_written (Unlock selector) s t store old new w leaves = leaves
leaves_written (Alias selector) s t store old new w leaves = leaves
leaves_written (Shared a) s t store old new w leaves = spelled_written s t store new w leaves
leaves_written (Huge a) s t store old new w leaves = leaves
