-- What has opened stands for the world before the first step.
use Rattle.std.proofs.Common.{◌≡◌, inl, inr, ℕ, zero, suc, ◌+◌, ◌-◌, ◌<◌, ◌≤◌, ◌&&◌, ◌||◌, ◌==◌, nat_le, nat_lt, Bool, true, false, List, [], ◌∷◌, length, map, Option, Some, None, if◌then◌else◌, ap, sym, ◌∙◌, refl, arith, subst}
use Rattle.std.specs.Prelude.{slice_get, is_some, option_map, min, Result, Ok}
use Rattle.std.specs.List.{list_any}
use Rattle.std.proofs.lemmas.Bool.{false≢true, or_cases}
use Rattle.std.proofs.lemmas.Bool.Decides.{nat_tests}
use Rattle.o2_base.specs.declared.faults.ModuleFault.{ModuleFault}
use Rattle.o2_conf.specs.declared.conf.Conf.{Conf}
use Rattle.o2_desc.specs.Bits.{is_writable}
use Rattle.o2_dynlink.specs.Outcome.{LinkedParts}
use Rattle.o2_image.specs.Getters.{nth}
use Rattle.o2_isa.specs.declared.cpu.Cpu.{Cpu}
use Rattle.o2_regions.specs.declared.held.Held.{Held as HeldThere}
use Rattle.o2_regions.specs.declared.held.Region.{Region}
use Rattle.o2_regions.specs.declared.held.Region.TheVariants.{Private, Shared}
use Rattle.o2_regions.specs.Kept.{AreKept}
use Rattle.o2_regions.specs.Lives.{lives}
use Rattle.o2_regions.specs.Maps.{Maps, IsProcess, held_at as held_there, is_held, is_reserved, is_taken}
use Rattle.o2_regions.proofs.Reserves.{held_reserved, holder_in, is_shared}
use Rattle.o2_segbus.specs.Guards.{AreGuarded}
use Rattle.o2_store.specs.Shelf.{entry}
use Rattle.o2_swapmap.specs.Piles.{all_of}
use Rattle.o2_world.specs.declared.types.State.{State}
use Rattle.o2_world.specs.Map.{get}
use Rattle.o2_world.specs.Holders.{process_at}
use Rattle.o2_world.specs.Known.{held_at, holds_index, is_for_the_run, reserves}
use Rattle.o2_world.specs.Sound.{held_of as held_of_process, held_in as held_at_place}
use Rattle.o2_world.specs.Starts.{Built, all_started, for_the_run, opening_of, where_started, world_of}
use Rattle.o2_world.specs.Tied.{IsSound}
use Rattle.o2_world.specs.World.{Held, Process, Segment, Setting, World}
use Rattle.o2_world.proofs.Numbers.{zero_is}
use Rattle.o2_stands.specs.Parts.{Running, goes_on, held_in, held_of, running_of}
use Rattle.o2_stands.specs.Stands.{IsIndex, IsNamed, IsTidy, StandsIn, number_of, taken_by}
use Rattle.o2_stands.proofs.Openings.{opening_tidy}
use Rattle.o2_load.specs.Loads.{library_ranges, starts_of}
use Rattle.o2_load.specs.Progresses.{IsStartedAt}
use Rattle.o2_opening.specs.declared.opening.Opened.{Opened}
use Rattle.o2_opening.specs.Openings.{IsOpened, IsSettingOf, StandsFirst, first_running, parts_of}

-- Look-ups.

it_is : {X : Type 0} (o : Option X) → is_some o ≡ true → (x : X) × (o ≡ Some x)
it_is None e = absurd (cc)
it_is (Some x) e = (x, refl)

some_in : (m : Maps) (n i : ℕ) → is_some (held_in m n i) ≡ is_some (held_there m n i)
unfolding held_in
some_in m n i = go (held_there m n i)
  where
    go : (o : Option HeldThere) → is_some (option_map (held_of m n i) o) ≡ is_some o
    go None = refl
    go (Some h) = refl

held_here : (m : Maps) (n i : ℕ) (h : HeldThere) → held_there m n i ≡ Some h → held_in m n i ≡ Some (held_of m n i h)
unfolding held_in
held_here m n i h at = ap (option_map (held_of m n i)) at

place_next : (n : ℕ) → (n == 0) ≡ false → n - 1 + 1 ≡ n
place_next n e = grind arith

-- At one place.

held_as : (c : Option Cpu) (holds : ℕ → Option Held) (p : Option Process) → IsStartedAt c holds p → (i : ℕ) → held_of_process p i ≡ holds i
held_as (Some c) holds (Some p) is i = is.held i
held_as None holds None is i = is i
held_as (Some c) holds None is i = absurd is
held_as None holds (Some p) is i = absurd is

abbrev ran : Cpu → State → Option Running
ran c s = Some (record { cpu = c; state = s })

running_as : (c : Option Cpu) (holds : ℕ → Option Held) (p : Option Process) → IsStartedAt c holds p → option_map running_of p ≡ option_map first_running c
running_as (Some c) holds (Some p) is = ap (λ (x : Cpu). ran x p.state) is.cpu ∙ ap (λ (x : State). ran c x) is.state
running_as None holds None is = refl
running_as (Some c) holds None is = absurd is
running_as None holds (Some p) is = absurd is

-- Reserved indexes.

-- what is reserved for the run is reserved
stay_same : (i : ℕ) (rs : List (ℕ × ℕ)) → list_any (reserves 0 i) (map for_the_run rs) ≡ list_any (is_for_the_run i) (map for_the_run rs)
stay_same i [] = refl
stay_same i (r ∷ rs) = ap (λ (b : Bool). reserves 0 i (for_the_run r) || b) (stay_same i rs)

-- and is no index of a process
none_own : (pid i : ℕ) (rs : List (ℕ × ℕ)) → 1 ≤ pid → list_any (reserves pid i) (map for_the_run rs) ≡ false
none_own pid i [] low = refl
none_own pid i (r ∷ rs) low =
    let other : (0 == pid) ≡ false = grind arith in
    ap (λ (t : Bool). (t && (nat_le r.0 i && nat_lt i (r.0 + r.1))) || list_any (reserves pid i) (map for_the_run rs)) other ∙ none_own pid i rs low

or_covered : (a r : Bool) → (a ≡ true → r ≡ true) → (a || r) ≡ r
or_covered true r f = sym (f refl)
or_covered false r f = refl

once_or_twice : (x : Bool) → (x || false) ≡ (x || x)
once_or_twice true = refl
once_or_twice false = refl

-- somebody holds an index that is held
holder : (ps : List Process) (i : ℕ) → holds_index ps i ≡ true → (k : ℕ) × (is_some (held_at_place ps k i) ≡ true)
holder [] i e = absurd (cc)
holder (p ∷ ps) i e = elim (or_cases (is_some (get p.held i)) (holds_index ps i) e) [
  | inl here ↦ (0, here)
  | inr there ↦ (let rest = holder ps i there in (suc rest.0, rest.1))
]

-- Which numbers have a process.

goes_some : (o : Option Cpu) → goes_on (option_map first_running o) ≡ is_some o
goes_some None = refl
goes_some (Some c) = refl

some_at : (cs : List Cpu) (k : ℕ) → is_some (slice_get cs k) ≡ nat_lt k (length cs)
some_at [] k = let f : nat_lt k 0 ≡ false = grind (arith, nat_tests) in sym f
some_at (c ∷ cs) zero = let t : nat_lt 0 (suc (length cs)) ≡ true = grind (arith, nat_tests) in sym t
some_at (c ∷ cs) (suc k) = let e : nat_lt k (length cs) ≡ nat_lt (suc k) (suc (length cs)) = grind (arith, nat_tests) in some_at cs k ∙ e

goes_at : (cs : List Cpu) (n : ℕ) → goes_on (option_map first_running (nth cs n)) ≡ (nat_le 1 n && nat_le n (length cs))
goes_at cs n = go (n == 0) refl
  where
    within : (k count : ℕ) → (k == 0) ≡ false → nat_lt (k - 1) count ≡ (nat_le 1 k && nat_le k count)
    within k count e = grind (arith, nat_tests)

    go : (t : Bool) → (n == 0) ≡ t → goes_on (option_map first_running (if t then None else slice_get cs (n - 1))) ≡ (nat_le 1 n && nat_le n (length cs))
    go true e = ap (λ (k : ℕ). nat_le 1 k && nat_le k (length cs)) (sym (zero_is n e))
    go false e = goes_some (slice_get cs (n - 1)) ∙ some_at cs (n - 1) ∙ within n (length cs) e

module _ (m : Opened) (l : LinkedParts) (b : Built) (is : IsOpened m l b) (kept : AreKept m.regions) where
  -- what each process holds, and how it runs

  held_there_at : (k i : ℕ) → held_at_place b.processes k i ≡ held_in m.regions (k + 1) i
  held_there_at k i = held_as (slice_get m.cpus.items k) (held_in m.regions (k + 1)) (slice_get b.processes k) (is.places k) i

  world_held : (n i : ℕ) → held_at b.processes n i ≡ held_in m.regions n i
  world_held n i = go (n == 0) refl
    where
      go : (t : Bool) → (n == 0) ≡ t → held_of_process (if t then None else slice_get b.processes (n - 1)) i ≡ held_in m.regions n i
      go true e = is.none i ∙ ap (λ (k : ℕ). held_in m.regions k i) (sym (zero_is n e))
      go false e = held_there_at (n - 1) i ∙ ap (λ (k : ℕ). held_in m.regions k i) (place_next n e)

  world_running : (n : ℕ) → option_map running_of (process_at b.processes n) ≡ option_map first_running (nth m.cpus.items n)
  world_running n = go (n == 0)
    where
      go : (t : Bool) → option_map running_of (if t then None else slice_get b.processes (n - 1)) ≡ option_map first_running (if t then None else slice_get m.cpus.items (n - 1))
      go true = refl
      go false = running_as (slice_get m.cpus.items (n - 1)) (held_in m.regions (n - 1 + 1)) (slice_get b.processes (n - 1)) (is.places (n - 1))

  -- a shared index that is held is one of a library
  covered : (n i : ℕ) → 4096 ≤ i → is_some (held_in m.regions n i) ≡ true → list_any (is_for_the_run i) (map for_the_run (library_ranges l)) ≡ true
  covered n i from some =
      let there = it_is (held_there m.regions n i) (sym (some_in m.regions n i) ∙ some) in
      let within = (holder_in m.regions n i there.0 kept there.1).1 in
      sym (is.shared i from within) ∙ ap (λ (g : Region). is_reserved m.regions g i) (sym (is_shared n i from)) ∙ kept.covered n i there.0 there.1

  own_taken : (pid i : ℕ) → IsProcess m.regions pid → 1 ≤ i → i < 4096 → taken_by b.processes (map for_the_run (library_ranges l)) pid i ≡ is_taken m.regions (Private pid) i
  own_taken pid i there from to =
      let some : (pid == 0) ≡ false = let low = there.0 in grind arith in
      ap (λ (t : Bool). (if t then holds_index b.processes i else is_some (held_at b.processes pid i)) || list_any (reserves pid i) (map for_the_run (library_ranges l))) some
      ∙ ap (λ (r : Bool). is_some (held_at b.processes pid i) || r) (none_own pid i (library_ranges l) there.0)
      ∙ ap (λ (o : Option Held). is_some o || false) (world_held pid i)
      ∙ ap (λ (t : Bool). t || false) (some_in m.regions pid i)
      ∙ once_or_twice (is_some (held_there m.regions pid i))
      ∙ ap (λ (r : Bool). is_some (held_there m.regions pid i) || r) (sym (is.own pid i there from to))

  shared_taken : (i : ℕ) → 4096 ≤ i → i < 8192 → taken_by b.processes (map for_the_run (library_ranges l)) 0 i ≡ is_taken m.regions Shared i
  shared_taken i from to =
      let same = stay_same i (library_ranges l) in
      or_covered (holds_index b.processes i) (list_any (reserves 0 i) (map for_the_run (library_ranges l)))
      (λ e. (let k = holder b.processes i e in same ∙ covered (k.0 + 1) i from (ap (λ (o : Option Held). is_some o) (sym (held_there_at k.0 i)) ∙ k.1)))
      ∙ same ∙ sym (is.shared i from to)
      ∙ sym (or_covered (is_held m.regions Shared i) (is_reserved m.regions Shared i) (held_reserved m.regions Shared i kept from to))

  taken : (g : Region) (i : ℕ) → IsIndex m.regions g i → taken_by b.processes (map for_the_run (library_ranges l)) (number_of g) i ≡ is_taken m.regions g i
  taken (Private pid) i x = own_taken pid i x.region x.from x.to
  taken Shared i x = shared_taken i x.from x.to

  -- what is held as data that can be written isn't clean, as in the world
  guarded : ((place i : ℕ) (h : Held) (s : Segment) → held_at_place b.processes place i ≡ Some h → get b.names h.name ≡ Some s → s.clean ≡ true → is_writable h.rights ≡ false)
      → AreGuarded m.store m.regions
  guarded clean pid i h at writable = go (entry m.store h.id.key).attr.clean refl
    where
      back : pid - 1 + 1 ≡ pid
      back = let some = kept.process pid i h at in omega (arith, some)

      here : held_at_place b.processes (pid - 1) i ≡ Some (held_of m.regions pid i h)
      here = held_there_at (pid - 1) i ∙ ap (λ (n : ℕ). held_in m.regions n i) back ∙ held_here m.regions pid i h at

      named : (o : Option Segment) → get b.names h.id.age ≡ o → IsNamed (parts_of m l.images 0 (λ k. [])) (Some h.id.key) o
          → (s : Segment) × ((get b.names h.id.age ≡ Some s) × (s.clean ≡ (entry m.store h.id.key).attr.clean))
      named None e x = absurd x
      named (Some s) e x = (s, (e, x.clean))

      go : (t : Bool) → (entry m.store h.id.key).attr.clean ≡ t → (entry m.store h.id.key).attr.clean ≡ false
      go false e = e
      go true e =
          let s = named (get b.names h.id.age) refl
          (subst (λ (k : Option ℕ). IsNamed (parts_of m l.images 0 (λ k. [])) k (get b.names h.id.age)) (is.found pid i h at) ((is.named h.id.age).named (parts_of m l.images 0 (λ k. [])))) in
          let never = clean (pid - 1) i (held_of m.regions pid i h) s.0 here s.1.0 (s.1.1 ∙ e) in
          absurd (false≢true (sym never ∙ writable))

  stands_first : (device : ℕ) (block : ℕ → List ℕ) → all_of m.store.swap ≤ device
      → ((place i : ℕ) (h : Held) (s : Segment) → held_at_place b.processes place i ≡ Some h → get b.names h.name ≡ Some s → s.clean ≡ true → is_writable h.rights ≡ false)
      → IsTidy b.processes b.names (map for_the_run (library_ranges l))
      → StandsIn (parts_of m l.images device block) b.processes b.names b.next_name (map for_the_run (library_ranges l))
  stands_first device block small clean tidy = record {
    ready = record {
      aged = is.aged;
      named = is.found;
      held = is.held;
      settled = is.settled;
      guarded = guarded clean;
      clean = is.clean;
      pictures = is.pictures;
      device = small;
    };
    segments = λ n. (is.named n).named (parts_of m l.images device block);
    made = is.next;
    processes = world_running;
    held = world_held;
    taken = taken;
    tidy = tidy;
  }

ok_same : (v w : World) → ◌≡◌ {A = Result World (ℕ × ModuleFault)} (Ok v) (Ok w) → v ≡ w
ok_same v w e = cc

pub opened_stands : (m : Opened) (l : LinkedParts) (b : Built) (c : Conf) (device : ℕ) → IsOpened m l b → AreKept m.regions → m.store.places.size ≡ c.memory → length m.store.entries ≡ c.segments
    → all_of m.store.swap ≡ min c.swap device → ((n : ℕ) → lives m.ends n ≡ (nat_le 1 n && nat_le n (length c.process))) → length m.cpus.items ≡ length c.process
    → all_started c.segments (starts_of l 1 c.process) ≡ Ok b → (s : Setting) (input : List ℕ) (w : World) → IsSettingOf c s
    → opening_of s (library_ranges l) c.script input (starts_of l 1 c.process) ≡ Ok w → IsSound w → StandsFirst m l.images device s w
opened_stands m l b c device is kept memory segments blocks ends count all s input w set opens sound =
    let started : opening_of s (library_ranges l) c.script input (starts_of l 1 c.process) ≡ Ok (world_of (library_ranges l) c.script s.budget input b) =
    ap (where_started (library_ranges l) c.script s.budget input) (ap (λ (n : ℕ). all_started n (starts_of l 1 c.process)) set.segments ∙ all) in
    let same : world_of (library_ranges l) c.script s.budget input b ≡ w = ok_same _ w (sym started ∙ opens) in
    let is_sound : IsSound (world_of (library_ranges l) c.script s.budget input b) = subst IsSound (sym same) sound in
    let tidy = opening_tidy s (library_ranges l) c.script input (starts_of l 1 c.process) (world_of (library_ranges l) c.script s.budget input b) started is_sound
    (λ n i from some. covered m l b is kept n i from (ap (λ (o : Option Held). is_some o) (sym (world_held m l b is kept n i)) ∙ some)) in
    subst (λ (x : World). StandsFirst m l.images device s x) same (record {
      stands = λ block. stands_first m l b is kept device block (omega (arith, blocks)) is_sound.tied.clean tidy;
      set = λ block. record { memory = memory ∙ sym set.memory; segments = segments ∙ sym set.segments; blocks = blocks ∙ ap (λ (n : ℕ). min n device) (sym set.swap) };
      marked = λ block n. ends n ∙ ap (λ (k : ℕ). nat_le 1 n && nat_le n k) (sym count) ∙ sym (goes_at m.cpus.items n);
    })
