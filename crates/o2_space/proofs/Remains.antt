-- What a call on segments leaves of the names before it: none of them grows or gets a lock, or none goes, shrinks or loses its lock.
-- One that was discarded has no size before.
use Rattle.std.proofs.Common.{◌≡◌, ◌≢◌, inl, inr, ℕ, ◌-◌, ◌≤◌, Bool, true, false, List, [], ◌∷◌, ◌++◌, length, map, Option, Some, None, is_some, option_map, ap, sym, ◌∙◌, refl, subst, arith, if◌then◌else◌}
use Rattle.std.specs.Prelude.{◌==◌, nat_lt, replicate, take}
use Rattle.std.specs.List.{list_any}
use Rattle.std.proofs.lemmas.Bool.{cases_eq, cases_lt, cond-false, eqb-true, false≢true, ne_eqb}
use Rattle.std.proofs.lemmas.List.{length-append, length-replicate, length-take}
use Rattle.o2_conf.specs.Dispatch.{Dispatch}
use Rattle.o2_isa.specs.declared.cpu.Cpu.{Cpu}
use Rattle.o2_run.specs.Room.{is_locked, kept_size, size_of}
use Rattle.o2_world.specs.CallParts.{Before, Effect}
use Rattle.o2_world.specs.Changes.{Change, Drops, Finishes, Frees, Holds, Locks, Makes, Marks, Names, Reserves, Resizes, marked, resized, swept, takes, with_all, with_change, with_changes}
use Rattle.o2_world.specs.Holders.{is_held}
use Rattle.o2_world.specs.Map.{Map, at_key, get}
use Rattle.o2_world.specs.HugeRulings.{huge_allocation, huge_reallocation}
use Rattle.o2_world.specs.Moves.{AllMoves, AreOfRuling, Moves, NoneMoves, OfAllocation, OfNone, OfReallocation, OneAliased, OneLocked, OneMade, OneNamed, OneRemade, OneRun, OneSized, OwnMoves, SomeFreed, SomeShared}
use Rattle.o2_world.specs.Rulings.{full_size, made_segment}
use Rattle.o2_world.specs.Run.{worked}
use Rattle.o2_world.specs.Known.{Known}
use Rattle.o2_world.specs.SharedRulings.{each_more, one_more, shared_segment}
use Rattle.o2_world.specs.World.{ByCall, Held, Process, Segment, World}
use Rattle.o2_world.proofs.MapLemmas.{get-at_key, get-filter, get-map}
use Rattle.o2_stepping.proofs.NextRooms.{IsLess, kept_less, less_kept}
use Rattle.o2_space.proofs.RunSizing.{AllAre, Cut, Grown, IsCutBy, IsGrownBy, IsSizing, grown_takes}

-- a name is there still, as large and as locked at least; one that was discarded had no size
pub record IsMore (v o : Option Segment) : Type 0 where
  pub some : is_some o ≡ true → is_some v ≡ true
  pub size : kept_size o ≤ size_of v
  pub lock : is_locked o ≡ true → is_locked v ≡ true

pub data Remains (old new : Map Segment) : Type 0 where
  NoneMore : ((n : ℕ) → IsLess (get new n) (get old n)) → Remains old new
  NoneLess : ((n : ℕ) → IsMore (get new n) (get old n)) → Remains old new

-- A name that is as large and as locked as it was.

record IsAs (v o : Option Segment) : Type 0 where
  some : is_some v ≡ is_some o
  size : size_of v ≡ size_of o
  lock : is_locked v ≡ is_locked o

as_written : (o : Option Segment) (bytes : List ℕ) → length bytes ≡ size_of o → IsAs (option_map (λ (s : Segment). record s { bytes = bytes }) o) o
as_written None bytes l = record { some = refl; size = refl; lock = refl }
as_written (Some s) bytes l = record { some = refl; size = l; lock = refl }

none_by : (v o : Option Segment) → is_some v ≡ is_some o → o ≡ None → v ≡ None
none_by None o e none = refl
none_by (Some x) o e none = absurd (false≢true (sym (ap is_some none) ∙ sym e))

less_as : (v o : Option Segment) → IsAs v o → IsLess v o
less_as v o a = record { none = none_by v o a.some; size = (let z = a.size in omega (arith, z)); lock = λ e. sym a.lock ∙ e }

more_as : (v o : Option Segment) → IsAs v o → IsMore v o
more_as v o a = record { some = λ e. a.some ∙ e; size = (let z = a.size in let k = kept_less o in omega (arith, z, k)); lock = λ e. a.lock ∙ e }

-- a name that wasn't there
more_new : (v o : Option Segment) → o ≡ None → IsMore v o
more_new v o none = record {
  some = λ e. absurd (false≢true (sym (ap is_some none) ∙ e));
  size = (let z : kept_size o ≡ 0 = ap kept_size none in omega (arith, z));
  lock = λ e. absurd (false≢true (sym (ap is_locked none) ∙ e));
}

-- A segment with another lock count, or another size.

some_left : (v : Segment) (o : Option Segment) → IsAs (Some v) o → (y : Segment) → o ≡ None → Some y ≡ None
some_left v o a y none = absurd (false≢true (sym (ap is_some none) ∙ sym a.some))

lock_less : (count : ℕ) (v o : Option Segment) → nat_lt 0 count ≡ false → IsAs v o → IsLess (option_map (λ (s : Segment). record s { lock = count }) v) o
lock_less count None o none a = less_as None o a
lock_less count (Some s) o none a = record {
  none = some_left s o a (record s { lock = count });
  size = (let z = a.size in omega (arith, z));
  lock = λ e. absurd (false≢true (sym none ∙ e));
}

lock_more : (count : ℕ) (v o : Option Segment) → nat_lt 0 count ≡ true → IsAs v o → IsMore (option_map (λ (s : Segment). record s { lock = count }) v) o
lock_more count None o some a = more_as None o a
lock_more count (Some s) o some a = record { some = λ e. refl; size = (let z = a.size in let k = kept_less o in omega (arith, z, k)); lock = λ e. some }

pub resized_size : (size : ℕ) (bytes : List ℕ) → length (resized size bytes) ≡ size
resized_size size bytes =
    let a = length-append (take size bytes) (replicate (size - length bytes) 0) in
    let b : length {A = ℕ} (replicate (size - length bytes) 0) ≡ size - length bytes = length-replicate (size - length bytes) 0 in
    let c = length-take size bytes in
    omega (arith, a, b, c)

size_less : (size : ℕ) (v o : Option Segment) → size ≤ size_of o → IsAs v o → IsLess (option_map (λ (s : Segment). record s { bytes = resized size s.bytes }) v) o
size_less size None o l a = less_as None o a
size_less size (Some s) o l a = record {
  none = some_left s o a (record s { bytes = resized size s.bytes });
  size = (let z = resized_size size s.bytes in omega (arith, z, l));
  lock = λ e. sym a.lock ∙ e;
}

size_more : (size : ℕ) (v o : Option Segment) → size_of o ≤ size → IsAs v o → IsMore (option_map (λ (s : Segment). record s { bytes = resized size s.bytes }) v) o
size_more size None o l a = more_as None o a
size_more size (Some s) o l a = record {
  some = λ e. refl;
  size = (let z = resized_size size s.bytes in let k = kept_less o in omega (arith, z, l, k));
  lock = λ e. a.lock ∙ e;
}

-- and where it has changed already
less_sized : (size : ℕ) (v o : Option Segment) → size ≤ size_of o → IsLess v o → IsLess (option_map (λ (s : Segment). record s { bytes = resized size s.bytes }) v) o
less_sized size None o l a = a
less_sized size (Some s) o l a = record {
  none = λ gone. absurd (false≢true (ap is_some (sym (a.none gone))));
  size = (let z = resized_size size s.bytes in omega (arith, z, l));
  lock = a.lock;
}

more_sized : (size : ℕ) (v o : Option Segment) → size_of o ≤ size → IsMore v o → IsMore (option_map (λ (s : Segment). record s { bytes = resized size s.bytes }) v) o
more_sized size None o l a = a
more_sized size (Some s) o l a = record {
  some = λ e. refl;
  size = (let z = resized_size size s.bytes in let k = kept_less o in omega (arith, z, l, k));
  lock = a.lock;
}

abbrev pub locked_to : ℕ → Segment → Segment
locked_to count s = record s { lock = count }

abbrev pub sized_to : ℕ → Segment → Segment
sized_to size s = record s { bytes = resized size s.bytes }

-- one that was discarded, made anew
remade_more : (size : ℕ) (v o : Option Segment) → kept_size o ≡ 0 → IsAs v o → IsMore (option_map (locked_to 1) (option_map (sized_to size) (option_map (marked false) v))) o
remade_more size None o none a = more_as None o a
remade_more size (Some s) o none a = record { some = λ e. refl; size = omega (arith, none); lock = λ e. refl }

pub at_same : (n : ℕ) (f : Segment → Segment) (m : Map Segment) → get (at_key n f m) n ≡ option_map f (get m n)
at_same n f m = get-at_key n n f m ∙ ap (λ (t : Bool). if t then option_map f (get m n) else get m n) (equal n)
  where
    equal : (k : ℕ) → (k == k) ≡ true
    equal k = grind arith

at_other : (k n : ℕ) (f : Segment → Segment) (m : Map Segment) → k ≢ n → get (at_key k f m) n ≡ get m n
at_other k n f m other = get-at_key k n f m ∙ ap (λ (t : Bool). if t then option_map f (get m k) else get m n) (ne_eqb k n other)

-- one that is made anew
pub at_thrice : (n size : ℕ) (m : Map Segment)
    → get (at_key n (locked_to 1) (at_key n (sized_to size) (at_key n (marked false) m))) n ≡ option_map (locked_to 1) (option_map (sized_to size) (option_map (marked false) (get m n)))
at_thrice n size m =
    at_same n (locked_to 1) (at_key n (sized_to size) (at_key n (marked false) m))
    ∙ ap (option_map (locked_to 1)) (at_same n (sized_to size) (at_key n (marked false) m) ∙ ap (option_map (sized_to size)) (at_same n (marked false) m))

-- a segment changed in its place
pub by_key : (P : Option Segment → Type 0) (k q : ℕ) (f : Segment → Segment) (m : Map Segment) → (k ≡ q → P (option_map f (get m q))) → P (get m q) → P (get (at_key k f m) q)
by_key P k q f m here there = subst P (sym (get-at_key k q f m)) (go (k == q) refl)
  where
    go : (b : Bool) → (k == q) ≡ b → P (if b then option_map f (get m k) else get m q)
    go true e = (let same = eqb-true k q e in subst (λ (j : ℕ). P (option_map f (get m j))) (sym same) (here same))
    go false e = there

-- what the calls on huge allocations of a step's process come to cuts, or grows
pub record SizesRuns (names : Map Segment) (b : Before) : Type 0 where
  pub made : (segs part most flags : ℕ) → IsSizing names (huge_allocation b.known b.number segs part most flags).changes
  pub sized : (segs part selector : ℕ) → IsSizing names (huge_reallocation b.known b.number segs part selector b.cpu).changes

-- The changes of a call.

drops_names : (v : World) (n : ℕ) (is : List ℕ) → (with_changes v (map (λ (i : ℕ). Drops n i 1) is)).names ≡ v.names
unfolding with_changes
drops_names v n [] = refl
drops_names v n (i ∷ is) = drops_names (with_change v (Drops n i 1)) n is

-- holds of what others hold
pub more_names : (k : Known) (from to : ℕ) (is : List ℕ) (v : World) → (list_any takes (each_more k from to is) ≡ false) × ((with_changes v (each_more k from to is)).names ≡ v.names)
unfolding with_changes
more_names k from to [] v = (refl, refl)
more_names k from to (i ∷ is) v = go (k.held from i) (more_names k from to is)
  where
    go : (o : Option Held) → ((u : World) → (list_any takes (each_more k from to is) ≡ false) × ((with_changes u (each_more k from to is)).names ≡ u.names))
        → (list_any takes (one_more to i o ++ each_more k from to is) ≡ false) × ((with_changes v (one_more to i o ++ each_more k from to is)).names ≡ v.names)
    go None rest = rest v
    go (Some h) rest = rest (with_change v (Holds to i (record h { holds = 1; cause = ByCall })))

module _ (w : World) (d : Dispatch) (x : Process) (e : Effect) (sizes : (n : ℕ) → length (e.bytes n) ≡ size_of (get w.names n)) (new : get w.names w.next_name ≡ None) where
  abbrev u : World
  u = worked w d x e

  written : (n : ℕ) → IsAs (get u.names n) (get w.names n)
  written n =
      subst (λ (v : Option Segment). IsAs v (get w.names n)) (sym (get-map (λ (k : ℕ) (s : Segment). record s { bytes = e.bytes k }) w.names n))
      (as_written (get w.names n) (e.bytes n) (sizes n))

  pub written_some : (n : ℕ) → is_some (get u.names n) ≡ is_some (get w.names n)
  written_some n = (written n).some

  pub written_size : (n : ℕ) → size_of (get u.names n) ≡ size_of (get w.names n)
  written_size n = (written n).size

  abbrev dropped : ℕ → List ℕ → World
  dropped p is = with_changes u (map (λ (i : ℕ). Drops p i 1) is)

  pub freed : (p : ℕ) (is : List ℕ) (n : ℕ) → IsLess (get (with_all u (map (λ (i : ℕ). Drops p i 1) is)).names n) (get w.names n)
  freed p is n = go (list_any takes (map (λ (i : ℕ). Drops p i 1) is))
    where
      before : IsLess (get (dropped p is).names n) (get w.names n)
      before = subst (λ (names : Map Segment). IsLess (get names n) (get w.names n)) (sym (drops_names u p is)) (less_as (get u.names n) (get w.names n) (written n))

      go : (b : Bool) → IsLess (get (if b then swept (dropped p is) else dropped p is).names n) (get w.names n)
      go true =
          subst (λ (o : Option Segment). IsLess o (get w.names n)) (sym (get-filter (is_held (dropped p is).processes) (dropped p is).names n))
          (less_kept (is_held (dropped p is).processes n) (get (dropped p is).names n) (get w.names n) before)
      go false = before

  made : (s : Segment) (n : ℕ) → IsMore (if w.next_name == n then Some s else get u.names n) (get w.names n)
  made s n = go (w.next_name == n) refl
    where
      go : (b : Bool) → (w.next_name == n) ≡ b → IsMore (if b then Some s else get u.names n) (get w.names n)
      go true q = more_new (Some s) (get w.names n) (ap (get w.names) (sym (eqb-true w.next_name n q)) ∙ new)
      go false q = more_as (get u.names n) (get w.names n) (written n)

  locked : (name count : ℕ) → Remains w.names (at_key name (locked_to count) u.names)
  locked name count = go (nat_lt 0 count) refl
    where
      go : (b : Bool) → nat_lt 0 count ≡ b → Remains w.names (at_key name (locked_to count) u.names)
      go true some =
          NoneLess (λ n. by_key (λ o. IsMore o (get w.names n)) name n (locked_to count) u.names
          (λ q. lock_more count (get u.names n) (get w.names n) some (written n)) (more_as (get u.names n) (get w.names n) (written n)))
      go false none =
          NoneMore (λ n. by_key (λ o. IsLess o (get w.names n)) name n (locked_to count) u.names
          (λ q. lock_less count (get u.names n) (get w.names n) none (written n)) (less_as (get u.names n) (get w.names n) (written n)))

  sized : (name size : ℕ) → Remains w.names (at_key name (sized_to size) u.names)
  sized name size = elim (cases_lt size (size_of (get w.names name))) [
    | inl l ↦ NoneMore (λ n. by_key (λ o. IsLess o (get w.names n)) name n (sized_to size) u.names
        (λ q. (let z = ap (λ (k : ℕ). size_of (get w.names k)) q in size_less size (get u.names n) (get w.names n) (omega (arith, l, z)) (written n)))
        (less_as (get u.names n) (get w.names n) (written n)))
    | inr l ↦ NoneLess (λ n. by_key (λ o. IsMore o (get w.names n)) name n (sized_to size) u.names
        (λ q. (let z = ap (λ (k : ℕ). size_of (get w.names k)) q in size_more size (get u.names n) (get w.names n) (omega (arith, l, z)) (written n)))
        (more_as (get u.names n) (get w.names n) (written n)))
  ]

  -- what is discarded, made anew
  abbrev remade_names : (name size : ℕ) → Map Segment
  remade_names name size = at_key name (locked_to 1) (at_key name (sized_to size) (at_key name (marked false) u.names))

  remade : (name size : ℕ) → kept_size (get w.names name) ≡ 0 → (n : ℕ) → IsMore (get (remade_names name size) n) (get w.names n)
  remade name size none n = elim (cases_eq name n) [
    | inl same ↦ subst (λ (k : ℕ). IsMore (get (remade_names name size) k) (get w.names k)) same
        (subst (λ (o : Option Segment). IsMore o (get w.names name)) (sym (at_thrice name size u.names)) (remade_more size (get u.names name) (get w.names name) none (written name)))
    | inr other ↦ subst (λ (o : Option Segment). IsMore o (get w.names n)) (sym (there other)) (more_as (get u.names n) (get w.names n) (written n))
  ]
    where
      there : name ≢ n → get (remade_names name size) n ≡ get u.names n
      there other =
          at_other name n (locked_to 1) (at_key name (sized_to size) (at_key name (marked false) u.names)) other
          ∙ (at_other name n (sized_to size) (at_key name (marked false) u.names) other ∙ at_other name n (marked false) u.names other)

  abbrev Left : List Change → Type 0
  Left cs = Remains w.names (with_all u cs).names

  -- what a call makes anew was discarded
  abbrev MakesAnew : List Change → Type 0
  MakesAnew cs = (name size : ℕ) → cs ≡ Marks name false ∷ Resizes name size ∷ Locks name 1 ∷ [] → kept_size (get w.names name) ≡ 0

  remains : (b : Before) (cpu : Cpu) (cs : List Change) → MakesAnew cs → Moves b cpu cs → Left cs
  unfolding with_changes
  remains b cpu cs anew (NoneMoves is) = subst Left (sym is) (NoneMore (λ n. less_as (get u.names n) (get w.names n) (written n)))
  remains b cpu cs anew (OneMade size flags i free is) = subst Left (sym is) (NoneLess (made (made_segment size flags)))
  remains b cpu cs anew (OneSized name size alone is) = subst Left (sym is) (sized name (full_size size))
  remains b cpu cs anew (OneRemade name size alone is) = subst Left (sym is) (NoneLess (remade name (full_size size) (anew name (full_size size) is)))
  remains b cpu cs anew (OneLocked name count lockable is) = subst Left (sym is) (locked name count)
  remains b cpu cs anew (OneAliased index i h there alone free is) = subst Left (sym is) (NoneMore (λ n. less_as (get u.names n) (get w.names n) (written n)))
  remains b cpu cs anew (SomeFreed xs frees is) = subst Left (sym is) (NoneMore (freed b.number xs))

  -- where a process holds more of what is shared
  shared : (k : Known) (from to : ℕ) (is : List ℕ) → Left (each_more k from to is)
  shared k from to is =
      let more = more_names k from to is u in
      let same : (with_all u (each_more k from to is)).names ≡ u.names = ap (λ (v : World). v.names) (cond-false (list_any takes (each_more k from to is)) (swept (with_changes u (each_more k from to is))) (with_changes u (each_more k from to is)) more.0) ∙ more.1 in
      subst (λ (names : Map Segment). Remains w.names names) (sym same) (NoneMore (λ n. less_as (get u.names n) (get w.names n) (written n)))

  -- where a run is made, or gets other sizes
  cut_names : (cs : List Change) → AllAre (IsCutBy w.names) cs → (y : World) → ((n : ℕ) → IsLess (get y.names n) (get w.names n)) → (n : ℕ) → IsLess (get (with_changes y cs).names n) (get w.names n)
  unfolding with_changes
  cut_names [] are y less n = less n
  cut_names (Makes s ∷ cs) are y less n = absurd are.0
  cut_names (Resizes name size ∷ cs) are y less n =
      cut_names cs are.1 (with_change y (Resizes name size))
      (λ q. by_key (λ o. IsLess o (get w.names q)) name q (sized_to size) y.names
      (λ same. (let z = ap (λ (k : ℕ). size_of (get w.names k)) same in let a = are.0 in less_sized size (get y.names q) (get w.names q) (omega (arith, z, a)) (less q)))
      (less q)) n
  cut_names (Locks name count ∷ cs) are y less n = absurd are.0
  cut_names (Marks name discarded ∷ cs) are y less n = absurd are.0
  cut_names (Holds p i h ∷ cs) are y less n = cut_names cs are.1 (with_change y (Holds p i h)) less n
  cut_names (Drops p i count ∷ cs) are y less n = cut_names cs are.1 (with_change y (Drops p i count)) less n
  cut_names (Finishes p state ∷ cs) are y less n = absurd are.0
  cut_names (Reserves r ∷ cs) are y less n = cut_names cs are.1 (with_change y (Reserves r)) less n
  cut_names (Frees region first ∷ cs) are y less n = absurd are.0
  cut_names (Names text name ∷ cs) are y less n = absurd are.0

  pub cut_less : (cs : List Change) → AllAre (IsCutBy w.names) cs → (n : ℕ) → IsLess (get (with_all u cs).names n) (get w.names n)
  cut_less cs are n = go (list_any takes cs)
    where
      before : IsLess (get (with_changes u cs).names n) (get w.names n)
      before = cut_names cs are u (λ q. less_as (get u.names q) (get w.names q) (written q)) n

      go : (b : Bool) → IsLess (get (if b then swept (with_changes u cs) else with_changes u cs).names n) (get w.names n)
      go true =
          subst (λ (o : Option Segment). IsLess o (get w.names n)) (sym (get-filter (is_held (with_changes u cs).processes) (with_changes u cs).names n))
          (less_kept (is_held (with_changes u cs).processes n) (get (with_changes u cs).names n) (get w.names n) before)
      go false = before

  module _ (fresh : (n : ℕ) → w.next_name ≤ n → get w.names n ≡ None) where
    grown_names : (z : ℕ) (cs : List Change) → AllAre (IsGrownBy w.names z) cs → (y : World) → w.next_name ≤ y.next_name → ((n : ℕ) → IsMore (get y.names n) (get w.names n))
        → (n : ℕ) → IsMore (get (with_changes y cs).names n) (get w.names n)
    unfolding with_changes
    grown_names z [] are y low more n = more n
    grown_names z (Makes s ∷ cs) are y low more n = grown_names z cs are.1 (with_change y (Makes s)) (omega (arith, low)) (λ q. with_new q (y.next_name == q) refl) n
      where
        with_new : (q : ℕ) (b : Bool) → (y.next_name == q) ≡ b → IsMore (if b then Some s else get y.names q) (get w.names q)
        with_new q true e = more_new (Some s) (get w.names q) (fresh q (let same = eqb-true y.next_name q e in omega (arith, low, same)))
        with_new q false e = more q
    grown_names z (Resizes name size ∷ cs) are y low more n =
        grown_names z cs are.1 (with_change y (Resizes name size)) low
        (λ q. by_key (λ o. IsMore o (get w.names q)) name q (sized_to size) y.names
        (λ same. (let e = ap (λ (k : ℕ). size_of (get w.names k)) same in let a = are.0.0 in let b = are.0.1 in more_sized size (get y.names q) (get w.names q) (omega (arith, e, a, b)) (more q)))
        (more q)) n
    grown_names z (Locks name count ∷ cs) are y low more n = absurd are.0
    grown_names z (Marks name discarded ∷ cs) are y low more n = absurd are.0
    grown_names z (Holds p i h ∷ cs) are y low more n = grown_names z cs are.1 (with_change y (Holds p i h)) low more n
    grown_names z (Drops p i count ∷ cs) are y low more n = absurd are.0
    grown_names z (Finishes p state ∷ cs) are y low more n = absurd are.0
    grown_names z (Reserves r ∷ cs) are y low more n = grown_names z cs are.1 (with_change y (Reserves r)) low more n
    grown_names z (Frees region first ∷ cs) are y low more n = absurd are.0
    grown_names z (Names text name ∷ cs) are y low more n = absurd are.0

    sizing_remains : (cs : List Change) → IsSizing w.names cs → Left cs
    sizing_remains cs (Cut are) = NoneMore (cut_less cs are)
    sizing_remains cs (Grown z are) =
        subst (λ (v : World). Remains w.names v.names) (sym (cond-false (list_any takes cs) (swept (with_changes u cs)) (with_changes u cs) (grown_takes w.names z cs are)))
        (NoneLess (grown_names z cs are u (omega arith) (λ q. more_as (get u.names q) (get w.names q) (written q))))

    run_remains : (b : Before) → SizesRuns w.names b → (cs : List Change) → AreOfRuling b cs → Left cs
    run_remains b sizes cs (OfNone is) = subst Left (sym is) (sizing_remains [] (Cut tt))
    run_remains b sizes cs (OfAllocation segs part most flags is) = subst Left (sym is) (sizing_remains _ (sizes.made segs part most flags))
    run_remains b sizes cs (OfReallocation segs part selector is) = subst Left (sym is) (sizing_remains _ (sizes.sized segs part selector))

    pub all_remains : (b : Before) → SizesRuns w.names b → (cpu : Cpu) (cs : List Change) → MakesAnew cs → AllMoves b cpu cs → Left cs
    unfolding with_changes
    all_remains b sizes cpu cs anew (OwnMoves moves) = remains b cpu cs anew moves
    all_remains b sizes cpu cs anew (OneNamed size i name free is) = subst Left (sym is) (NoneLess (made (shared_segment size)))
    all_remains b sizes cpu cs anew (SomeShared from to xs shares is) = subst Left (sym is) (shared b.known from to xs)
    all_remains b sizes cpu cs anew (OneRun moves ruled) = run_remains b sizes cs ruled
