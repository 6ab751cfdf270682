-- What processes share stays as it was, whatever a step does.
use Rattle.std.proofs.Common.{◌≡◌, ℕ, zero, suc, ◌+◌, ◌-◌, ◌^◌, ◌<◌, ◌≤◌, ◌&&◌, ◌==◌, Bool, true, false, cond, eqb, List, [], ◌∷◌, length, Option, Some, None, IsSome, is_some, option_map, ap, refl, sym, ◌∙◌, subst, arith}
use Rattle.std.specs.Prelude.{slice_get}
use Rattle.std.proofs.lemmas.Bool.{eqb-true}
use Rattle.o2_entries.specs.declared.Entry.{Entry}
use Rattle.o2_entries.specs.Tables.{slot_at}
use Rattle.o2_place.specs.declared.seg_id.SegId.{SegId}
use Rattle.o2_regions.specs.declared.held.Held.{Held}
use Rattle.o2_regions.specs.Lives.{lives}
use Rattle.o2_regions.specs.Maps.{IsProcess, Maps, held_at, holds_of}
use Rattle.o2_segbus.specs.Frames.{KeepsMaps, KeepsStore}
use Rattle.o2_store.specs.Shelf.{Shelf, aged, entry_of, entry_or, numbered}
use Rattle.o2_ends.specs.LetsGo.{LetsGo, Sheds, some_has}
use Rattle.o2_ends.proofs.Holders.{IsHolder, has_there, holder_of}
use Rattle.o2_segs.specs.Sharing.{AreHeldAtMost, IsHeldOnly, KeepsShares, ShareOne}
use Rattle.o2_segs.proofs.Sharing.{aged_there, lived_tables, shares_as}
use Rattle.o2_shared.specs.Shares.{AreFew}
use Rattle.o2_world.specs.Holders.{process_at}
use Rattle.o2_world.specs.World.{Process, World}
use Rattle.o2_stands.specs.Parts.{Running, goes_on, running_of}
use Rattle.o2_stands.specs.Stands.{Stands}
use Rattle.o2_calls.specs.SharedActs.{AreSpelled, Spells}
use Rattle.o2_stepping.specs.Shapes.{SameShape}
use Rattle.o2_space.specs.Parts.{parts_in, running_at, running_in}
use Rattle.o2_space.specs.Stands.{GoTogether}
use Rattle.o2_space.specs.declared.space.Proc.{Proc}
use Rattle.o2_space.specs.declared.space.Space.{Space}

held_as : (m n : Maps) → n.held ≡ m.held → (q j : ℕ) → held_at n q j ≡ held_at m q j
held_as m n same q j = ap (λ (l : List (Option Held)). held_at (record m { held = l }) q j) same

-- A step that is tried.
pub shape_shares : (s t : Shelf) (m n : Maps) → SameShape s m t n → KeepsShares s m t n s.made
shape_shares s t m n shape = shares_as m n (held_as m n shape.holds.held) s t s.made (λ id old alive. lived_tables s t shape.tables id alive)

pub shape_grows : (s t : Shelf) (m n : Maps) → SameShape s m t n → s.made ≤ t.made
shape_grows s t m n shape = (let e = shape.tables.made in omega (arith, e))

-- The value of a call.
pub given_shares : (s t : Shelf) (m n : Maps) → KeepsStore s t → KeepsMaps m n → KeepsShares s m t n s.made
given_shares s t m n store maps = shares_as m n (held_as m n maps.held) s t s.made (λ id old alive. subst (λ (x : Shelf). IsSome (entry_of x id)) store.store alive)

pub given_grows : (s t : Shelf) → KeepsStore s t → s.made ≤ t.made
given_grows s t store = (let e : t.made ≡ s.made = ap (λ (x : Shelf). x.made) store.store in omega (arith, e))

pub few_as : (m n : Maps) → n.held ≡ m.held → (k : ℕ) → AreHeldAtMost m k → AreHeldAtMost n k
few_as m n same k most = record { each = λ p i. (let a : holds_of (held_at n p i) ≡ holds_of (held_at m p i) = ap holds_of (held_as m n same p i) in let b = most.each p i in omega (arith, a, b)) }

pub held_few : (m n : Maps) → n.held ≡ m.held → AreFew m → AreFew n
held_few m n same few = record { few = λ p i. subst (λ (k : ℕ). k + 1 < 2 ^ 32) (sym (ap holds_of (held_as m n same p i))) (few.few p i) }

-- Those that are marked live are processes.

get_below : (procs : List Proc) (i : ℕ) (y : Proc) → slice_get procs i ≡ Some y → i < length procs
get_below [] i y e = absurd (cc)
get_below (x ∷ procs) zero y e = omega arith
get_below (x ∷ procs) (suc i) y e = (let l = get_below procs i y e in omega (arith, l))

pub living_are : (procs : List Proc) (m : Maps) (ends : List Bool) → length procs ≡ m.processes → ((n : ℕ) → lives ends n ≡ goes_on (running_at procs n)) → (n : ℕ) → lives ends n ≡ true → IsProcess m n
living_are procs m ends count marked n alive = go (n == 0) refl (sym (marked n) ∙ alive)
  where
    above : (k : ℕ) → (k == 0) ≡ false → 1 ≤ k
    above k e = grind arith

    by : (n == 0) ≡ false → (o : Option Proc) → slice_get procs (n - 1) ≡ o → goes_on (option_map running_in o) ≡ true → IsProcess m n
    by some None e f = absurd (let z : false ≡ true = f in cc)
    by some (Some y) e f = (let low = above n some in let below = get_below procs (n - 1) y e in (low, omega (arith, low, below, count)))

    go : (b : Bool) → (n == 0) ≡ b → goes_on (cond b None (option_map running_in (slice_get procs (n - 1)))) ≡ true → IsProcess m n
    go true e f = absurd (let z : false ≡ true = f in cc)
    go false e f = by e (slice_get procs (n - 1)) refl f

-- A world has as many processes as the machine.

runs_none : {r : Running} → None ≡ Some r → ⊥
runs_none e = cc

same_length : (ps : List Process) (procs : List Proc) → ((i : ℕ) → option_map running_of (slice_get ps i) ≡ option_map running_in (slice_get procs i)) → length ps ≡ length procs
same_length [] [] same = refl
same_length [] (y ∷ procs) same = absurd (runs_none (same 0))
same_length (x ∷ ps) [] same = absurd (runs_none (sym (same 0)))
same_length (x ∷ ps) (y ∷ procs) same = (let l = same_length ps procs (λ i. same (suc i)) in omega (arith, l))

pub processes_are : (ps : List Process) (procs : List Proc) → ((n : ℕ) → option_map running_of (process_at ps n) ≡ running_at procs n) → length ps ≡ length procs
processes_are ps procs same = same_length ps procs (λ i. go i (i + 1 == 0) (above i) (i + 1 - 1) (omega arith) (same (i + 1)))
  where
    above : (i : ℕ) → (i + 1 == 0) ≡ false
    above i = grind arith

    go : (i : ℕ) (b : Bool) → b ≡ false → (j : ℕ) → j ≡ i → option_map running_of (cond b None (slice_get ps j)) ≡ cond b None (option_map running_in (slice_get procs j))
        → option_map running_of (slice_get ps i) ≡ option_map running_in (slice_get procs i)
    go i true e j at f = absurd (let z : true ≡ false = e in cc)
    go i false e j at f = subst (λ (k : ℕ). option_map running_of (slice_get ps k) ≡ option_map running_in (slice_get procs k)) at f

-- What is kept of the names of the segments that they share.
pub spells_of : (m : Space) (device : ℕ) (block : ℕ → List ℕ) (w : World) → GoTogether m device → Stands (parts_in m device block) w → AreSpelled m.store m.names w
    → Spells m.store m.regions m.names m.ends (parts_in m device block) w
spells_of m device block w together stands spelled = record {
  texts = spelled.texts;
  once = spelled.once;
  processes = processes_are w.processes m.procs.items stands.processes ∙ together.numbers;
  marked = together.marked;
}

-- The end of a process.
module _ (s t : Shelf) (m n : Maps) (pid : ℕ) (lets : LetsGo m n pid (λ i. true)) (sheds : Sheds s m t n) where
  was_held : (q j : ℕ) (h : Held) → held_at n q j ≡ Some h → held_at m q j ≡ Some h
  was_held q j h e = go ((q == pid) && true) (sym (lets.held q j) ∙ e)
    where
      go : (b : Bool) → cond b None (held_at m q j) ≡ Some h → held_at m q j ≡ Some h
      go true f = absurd (cc)
      go false f = f

  ended_one : ShareOne m → ShareOne n
  ended_one w = record { one = λ p q i h k high a b called. w.one p q i h k high (was_held p i h a) (was_held q i k b) called }

  pub ended_few : (k : ℕ) → AreHeldAtMost m k → AreHeldAtMost n k
  ended_few k most = record { each = λ q j. go q j (held_at n q j) refl }
    where
      go : (q j : ℕ) (o : Option Held) → held_at n q j ≡ o → holds_of o ≤ k
      go q j None e = omega arith
      go q j (Some h) e = (let a : holds_of (held_at m q j) ≡ h.holds = ap holds_of (was_held q j h e) in let b = most.each q j in omega (arith, a, b))

  pub ended_lived : (id : SegId) → IsSome (entry_of t id) → IsSome (entry_of s id)
  ended_lived id alive = subst (λ (o : Option Entry). IsSome (aged id.age o)) (sheds.same id.key (aged_there id.age (slot_at t.entries id.key) alive)).entry alive

  is_numbered : (id : SegId) → IsSome (entry_of s id) → numbered s id.key ≡ id
  is_numbered id alive = ap (λ (a : ℕ). let x : SegId = record { key = id.key; age = a } in x) (go (slot_at s.entries id.key) refl alive)
    where
      age_is : (e : Entry) (b : Bool) → eqb e.age id.age ≡ b → IsSome (cond b (Some e) None) → e.age ≡ id.age
      age_is e true f some = eqb-true e.age id.age f
      age_is e false f some = absurd (let z : false ≡ true = some in cc)

      go : (o : Option Entry) → slot_at s.entries id.key ≡ o → IsSome (aged id.age o) → (entry_or o).age ≡ id.age
      go None is some = absurd (let z : false ≡ true = some in cc)
      go (Some e) is some = age_is e (eqb e.age id.age) refl some

  ended_only : (j : ℕ) (id : SegId) → IsSome (entry_of t id) → IsHeldOnly m j id → IsHeldOnly n j id
  ended_only j id alive x = by (some_has n id) refl
    where
      only : (q i : ℕ) (h : Held) → held_at n q i ≡ Some h → h.id ≡ id → i ≡ j
      only q i h e same = x.only q i h (was_held q i h e) same

      had : some_has m id ≡ true
      had = subst (λ (y : SegId). some_has m y ≡ true) x.same (has_there m x.process j x.held x.there)

      held_by : IsHolder n id → IsHeldOnly n j id
      held_by y =
          let at : y.index ≡ j = only y.pid y.index y.hold y.there y.named in
          record { process = y.pid; held = y.hold; there = ap (held_at n y.pid) (sym at) ∙ y.there; same = y.named; only = only }

      by : (b : Bool) → some_has n id ≡ b → IsHeldOnly n j id
      by true is = held_by (holder_of n id is)
      by false is =
          let number = is_numbered id (ended_lived id alive) in
          let none : slot_at t.entries id.key ≡ None = sheds.gone id.key (ap (some_has m) number ∙ had) (ap (some_has n) number ∙ is) in
          let z : false ≡ true = sym (ap (λ (o : Option Entry). is_some (aged id.age o)) none) ∙ alive in
          absurd (cc)

  pub ended_shares : KeepsShares s m t n s.made
  ended_shares = record { one = ended_one; lived = λ id old alive. ended_lived id alive; only = λ j id high old alive x. ended_only j id alive x }
