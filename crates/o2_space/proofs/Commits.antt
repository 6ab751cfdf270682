-- Registers and state of a process are written back, and where it has ended it lets go of all that it holds.
use Rattle.std.proofs.Common.{◌≡◌, ◌≢◌, ℕ, zero, suc, ◌-◌, ◌<◌, ◌≤◌, ◌==◌, Bool, true, false, cond, if◌then◌else◌, List, [], ◌∷◌, length, Option, Some, None, option_map, ap, sym, ◌∙◌, refl, subst, arith, slice_index_or, slice_set}
use Rattle.std.specs.Prelude.{slice_get}
use Rattle.std.proofs.lemmas.Bool.{eq-eqb, false≢true}
use Rattle.std.proofs.lemmas.List.{length-set}
use mathlib.Core.Path.{fun_ext}
use Rattle.o2_isa.specs.declared.cpu.Cpu.{Cpu}
use Rattle.o2_regions.specs.Lives.{lives}
use Rattle.o2_regions.specs.Maps.{Maps}
use Rattle.o2_store.specs.Shelf.{Shelf}
use Rattle.o2_world.specs.Changes.{used}
use Rattle.o2_world.specs.Holders.{kept, process_at, with_process}
use Rattle.o2_world.specs.Map.{Map}
use Rattle.o2_world.specs.World.{Process, Reserve, Segment, is_live}
use Rattle.o2_world.specs.declared.types.State.{State}
use Rattle.o2_world.proofs.Keeps.{at_other}
use Rattle.o2_stands.specs.Parts.{Parts, Running, goes_on, running_of}
use Rattle.o2_stands.specs.Stands.{AreMarked, StandsIn}
use Rattle.o2_stands.specs.Moves.{stepped_to, with_running}
use Rattle.o2_stands.proofs.Running.{goes_on_stands}
use Rattle.o2_ends.specs.Ended.{StandsBehind}
use Rattle.o2_space.specs.declared.space.Proc.{Proc}
use Rattle.o2_space.specs.Parts.{running_at, running_in}
use Rattle.o2_space.specs.Stands.{StandsCommitted}

-- A process is put at its place.

number_is : (n k : ℕ) → (n == k) ≡ true → n ≡ k
number_is n k e = grind arith

put_at : (procs : List Proc) (i : ℕ) (x : Proc) → i < length procs → slice_get (slice_set procs i x) i ≡ Some x
put_at [] i x below = absurd (omega (arith, below))
put_at (y ∷ procs) zero x below = refl
put_at (y ∷ procs) (suc i) x below = put_at procs i x (omega (arith, below))

module _ (procs : List Proc) (pid : ℕ) (x : Proc) (some : 0 < pid) (there : pid ≤ length procs) where
  abbrev pub now : List Proc
  now = slice_set procs (pid - 1) x

  pub running_put : (n : ℕ) → running_at now n ≡ (if n == pid then Some (running_in x) else running_at procs n)
  running_put n = go (n == 0) (n == pid) refl refl
    where
      apart : (n == 0) ≡ false → (n == pid) ≡ false → n - 1 ≢ pid - 1
      apart e f same =
          (let zero_not : n ≢ 0 = λ z. false≢true (sym e ∙ eq-eqb n 0 z) in
          false≢true (sym f ∙ eq-eqb n pid (omega (arith, same, some, zero_not))))

      go : (b c : Bool) → (n == 0) ≡ b → (n == pid) ≡ c
          → cond b None (option_map running_in (slice_get now (n - 1))) ≡ cond c (Some (running_in x)) (cond b None (option_map running_in (slice_get procs (n - 1))))
      go true true e f = absurd (let a = number_is n 0 e in let b = number_is n pid f in omega (arith, a, b, some))
      go true false e f = refl
      go false true e f =
          ap (λ (k : ℕ). option_map running_in (slice_get now (k - 1))) (number_is n pid f)
          ∙ ap (option_map running_in) (put_at procs (pid - 1) x (omega (arith, some, there)))
      go false false e f = ap (option_map running_in) (at_other procs (pid - 1) (n - 1) x (apart e f))

  pub count_put : length now ≡ length procs
  count_put = length-set procs (pid - 1) x

  -- the parts with it
  abbrev pub put : Parts → Parts
  put p = record p { running = running_at now }

  pub parts_put : (p : Parts) → p.running ≡ running_at procs → put p ≡ with_running p pid (running_in x)
  parts_put p e =
      ap (λ (f : ℕ → Option Running). record p { running = f })
      (fun_ext (λ n. running_put n ∙ ap (λ (f : ℕ → Option Running). if n == pid then Some (running_in x) else f n) (sym e)))

  -- Marks of those that live.

  pub marked_put : (marks : List Bool) → ((n : ℕ) → lives marks n ≡ goes_on (running_at procs n)) → lives marks pid ≡ is_live x.state
      → (n : ℕ) → lives marks n ≡ goes_on (running_at now n)
  marked_put marks marked here n = go (n == pid) refl ∙ ap goes_on (sym (running_put n))
    where
      go : (c : Bool) → (n == pid) ≡ c → lives marks n ≡ goes_on (cond c (Some (running_in x)) (running_at procs n))
      go true f = ap (lives marks) (number_is n pid f) ∙ here
      go false f = marked n

  pub marked_end : (marks : List Bool) (p : Parts) → p.running ≡ running_at procs → AreMarked marks (with_running p pid (running_in x))
      → (n : ℕ) → lives marks n ≡ goes_on (running_at now n)
  marked_end marks p e marked n = marked n ∙ ap (λ (q : Parts). goes_on (q.running n)) (sym (parts_put p e))

  -- What it stands for then.

  module _ (p : Parts) (ps : List Process) (names : Map Segment) (next : ℕ) (reserved : List Reserve) (y : Process) (r : Running) (at : p.running ≡ running_at procs)
      (stands : StandsIn p ps names next reserved) (found : process_at ps pid ≡ Some y) (cpu : x.cpu ≡ r.cpu) (state : x.state ≡ r.state) where
    abbrev worked : Process
    worked = record y { cpu = r.cpu; state = r.state }

    abbrev ended : Process
    ended = record y { cpu = r.cpu; state = r.state; held = [] }

    -- by whether it lives
    abbrev StandsBy : Parts → Bool → Type 0
    StandsBy q b =
        let qs = with_process ps pid (if b then worked else ended) in
        StandsIn q qs (if b then names else kept qs names) next (if b then reserved else used qs reserved)

    same_running : running_in x ≡ r
    same_running = ap (λ (c : Cpu). record { cpu = c; state = x.state }) cpu ∙ ap (λ (s : State). record { cpu = r.cpu; state = s }) state

    parts_are : (q : Parts) → q.running ≡ running_at procs → with_running q pid r ≡ put q
    parts_are q h = ap (with_running q pid) (sym same_running) ∙ sym (parts_put q h)

    pub stands_live : is_live r.state ≡ true → is_live y.state ≡ true → StandsCommitted ps names next reserved pid y r (put p)
    stands_live live was =
        subst (StandsBy (put p)) (sym live)
        (subst (λ (q : Parts). StandsBy q true) (parts_are p at)
        (goes_on_stands ps pid y worked found refl p names next reserved (live ∙ sym was) stands))

    pub stands_ended : (t : Shelf) (n : Maps) → StandsBehind pid p.shelf p.maps t n → is_live r.state ≡ false → StandsCommitted ps names next reserved pid y r (put (stepped_to p t n))
    stands_ended t n behind dead =
        subst (StandsBy (put (stepped_to p t n))) (sym dead)
        (subst (λ (q : Parts). StandsBy q false) (parts_are (stepped_to p t n) at)
        (behind.stands p ps names next reserved y ended stands found refl dead))

-- The process before its step.

get_at : (procs : List Proc) (i : ℕ) (d : Proc) → i < length procs → slice_get procs i ≡ Some (slice_index_or procs i d)
get_at [] i d below = absurd (omega (arith, below))
get_at (y ∷ procs) zero d below = refl
get_at (y ∷ procs) (suc i) d below = get_at procs i d (omega (arith, below))

some_is : (a b : Running) → Some a ≡ Some b → a ≡ b
some_is a b e = cc

not_none : (n : ℕ) (o : Option Running) → 1 ≤ n → cond (n == 0) None o ≡ o
not_none n o some = go (n == 0) refl
  where
    go : (b : Bool) → (n == 0) ≡ b → cond b None o ≡ o
    go true e = absurd (let z = number_is n 0 e in omega (arith, z, some))
    go false e = refl

module _ (procs : List Proc) (pid : ℕ) (ps : List Process) (x : Process) (some : 1 ≤ pid) (there : pid ≤ length procs)
    (same : option_map running_of (process_at ps pid) ≡ running_at procs pid) (found : process_at ps pid ≡ Some x) where
  pub runs_as : running_at procs pid ≡ Some (running_of x)
  runs_as = sym same ∙ ap (option_map running_of) found

  pub process_was : (y : Proc) → y ≡ slice_index_or procs (pid - 1) y → running_in y ≡ running_of x
  process_was y is =
      some_is (running_in y) (running_of x)
      (ap (λ (z : Proc). Some (running_in z)) is
      ∙ (ap (option_map running_in) (sym (get_at procs (pid - 1) y (omega (arith, some, there))))
      ∙ (sym (not_none pid (option_map running_in (slice_get procs (pid - 1))) some) ∙ runs_as)))

  pub lived : (marks : List Bool) → ((n : ℕ) → lives marks n ≡ goes_on (running_at procs n)) → lives marks pid ≡ true → is_live x.state ≡ true
  lived marks marked here = ap goes_on (sym runs_as) ∙ (sym (marked pid) ∙ here)
