-- The machine of processes that have started stands for the world that they open.
use Rattle.std.proofs.Common.{◌≡◌, ℕ, zero, suc, ◌+◌, ◌-◌, ◌≤◌, ◌==◌, Bool, true, false, if◌then◌else◌, List, [], ◌∷◌, length, replicate, map, sum_by, Option, Some, None, ap, sym, ◌∙◌, refl, subst, add-one, length-append, arith}
use Rattle.std.specs.Prelude.{slice_get, option_map, codes, min, Ok}
use Rattle.std.proofs.lemmas.List.{length-map}
use Rattle.std.proofs.lemmas.List.Sums.{sum_by-cons}
use Rattle.std.proofs.lemmas.Option.{slice_get-map}
use mathlib.Core.Path.{fun_ext}
use Rattle.o2_conf.specs.declared.conf.Conf.{Conf}
use Rattle.o2_conf.specs.Dispatch.{lives}
use Rattle.o2_conf.specs.Limits.{IsWithinLimits}
use Rattle.o2_dynlink.specs.Outcome.{LinkedParts}
use Rattle.o2_image.specs.Getters.{nth}
use Rattle.o2_image.specs.ImageList.{ImageList}
use Rattle.o2_isa.specs.declared.cpu.Cpu.{Cpu}
use Rattle.o2_regions.specs.declared.held.Held.{Held as HeldThere}
use Rattle.o2_regions.specs.Maps.{Maps, held_at, holds_of}
use Rattle.o2_store.specs.Shelf.{Shelf}
use Rattle.o2_regions.specs.Lives.{lives as is_marked}
use Rattle.o2_swapmap.specs.Piles.{all_of}
use Rattle.o2_world.specs.World.{Held, Process, HoldsBy, Setting, World, is_live}
use Rattle.o2_world.specs.Opening.{start_lines}
use Rattle.o2_world.specs.Run.{live_flags}
use Rattle.o2_world.specs.Starts.{Built, where_started}
use Rattle.o2_world.specs.Reach.{IsTold}
use Rattle.o2_world.specs.Tied.{IsSound}
use Rattle.o2_sched.specs.Schedule.{Schedule}
use Rattle.o2_stands.specs.Parts.{Parts, Running, goes_on}
use Rattle.o2_stands.specs.Stands.{IsReady, IsSetTo, Stands}
use Rattle.o2_gate.specs.declared.state.State.{State as Services}
use Rattle.o2_load.specs.Beginnings.{lines_from, program_name}
use Rattle.o2_load.specs.Loads.{library_ranges, starts_of}
use Rattle.o2_load.specs.Progresses.{IsStartedAt}
use Rattle.o2_load.proofs.Openings.{linked_opening_sound, linked_opening_told}
use Rattle.o2_opening.specs.declared.opening.Opened.{Opened}
use Rattle.o2_opening.specs.Openings.{IsOpened, IsSettingOf, StandsFirst, first_running}
use Rattle.o2_space.specs.declared.space.Proc.{Proc}
use Rattle.o2_space.specs.declared.space.Space.{Space}
use Rattle.o2_space.specs.Parts.{parts_in, running_at, running_in}
use Rattle.o2_machine.specs.declared.machine.Machine.{Machine}
use Rattle.o2_machine.proofs.FirstNames.{started_few}
use Rattle.o2_segs.specs.Sharing.{AreHeldAtMost, ShareOne}
use Rattle.o2_calls.specs.SharedActs.{AreSpelled}
use Rattle.o2_shared.specs.declared.names.Name.{Name}
use Rattle.o2_shared.specs.Texts.{AreInPlace, AreOnce, age_of, found_from}
use Rattle.o2_world.specs.Known.{text_name}
use Rattle.o2_shared.proofs.Staying.{none_in_place}
use Rattle.o2_space.specs.Stands.{AreWhole}
use Rattle.o2_machine.specs.Begins.{IsLinked, first_world, opening, opening_in, setting_of, starting}
use Rattle.o2_machine.specs.GoesOver.{GoesOver}
use Rattle.o2_machine.specs.StandsFor.{StandsFor}
use Rattle.o2_machine.specs.Readies.{first_proc, first_schedule}
use Rattle.o2_machine.proofs.Devices.{ready_over, set_over, stands_over}
use Rattle.o2_machine.proofs.Marks.{all_go_on}

-- the first world of linked modules is sound
pub first_sound : (l : LinkedParts) (c : Conf) → IsWithinLimits c → IsLinked c l → (input : List ℕ) (w : World) → opening l c input ≡ Ok w → IsSound w
first_sound l c within linked input w opens = linked_opening_sound (setting_of c) (library_ranges l) c.script input linked.0 c l w linked.1.0 within.environments linked.1.1 opens

-- and what is held in it is what its lines tell
pub first_told : (l : LinkedParts) (c : Conf) → IsLinked c l → (input : List ℕ) (w : World) → opening l c input ≡ Ok w → IsTold w
first_told l c linked input w opens = linked_opening_told (setting_of c) (library_ranges l) c.script input linked.0 c l w linked.1.0 linked.1.1 opens

-- registers and states

running_first : (cpus : List Cpu) (n : ℕ) → running_at (map first_proc cpus) n ≡ option_map first_running (nth cpus n)
running_first cpus n = go (n == 0)
  where
    at : (o : Option Cpu) → option_map running_in (option_map first_proc o) ≡ option_map first_running o
    at None = refl
    at (Some c) = refl

    go : (b : Bool) → (if b then None else option_map running_in (slice_get (map first_proc cpus) (n - 1))) ≡ option_map first_running (if b then None else slice_get cpus (n - 1))
    go true = refl
    go false = ap (option_map running_in) (slice_get-map first_proc cpus (n - 1)) ∙ at (slice_get cpus (n - 1))

all_live : (cs : List Cpu) (ps : List Process) → ((i : ℕ) → option_map (λ (p : Process). is_live p.state) (slice_get ps i) ≡ option_map (λ (c : Cpu). true) (slice_get cs i)) → live_flags ps ≡ replicate (length cs) true
all_live [] [] h = refl
all_live [] (p ∷ ps) h = absurd (let e = h zero in cc)
all_live (c ∷ cs) [] h = absurd (let e = h zero in cc)
all_live (c ∷ cs) (p ∷ ps) h = ap (λ b. b ∷ live_flags ps) (some_same (is_live p.state) true (h zero)) ∙ ap (λ bs. true ∷ bs) (all_live cs ps (λ i. h (suc i)))
  where
    some_same : (a b : Bool) → ◌≡◌ {A = Option Bool} (Some a) (Some b) → a ≡ b
    some_same a b e = cc

lives_as : (c : Option Cpu) (holds : ℕ → Option Held) (p : Option Process) → IsStartedAt c holds p → option_map (λ (x : Process). is_live x.state) p ≡ option_map (λ (x : Cpu). true) c
lives_as (Some c) holds (Some p) is = ap (λ (b : Bool). Some b) (ap is_live is.state)
lives_as (Some c) holds None is = absurd is
lives_as None holds (Some p) is = absurd is
lives_as None holds None is = refl

-- where no segment is named, none is kept
none_found : (t : Shelf) (n i : ℕ) (text : List ℕ) → found_from t text (replicate n None) i ≡ None
none_found t zero i text = refl
none_found t (suc n) i text = none_found t n (i + 1) text

none_spelled : (t : Shelf) (w : World) (n : ℕ) → w.texts ≡ [] → AreSpelled t (replicate n None) w
none_spelled t w n none = record {
  texts = record { each = λ text. ap (λ ts. text_name ts text) none ∙ ap age_of (sym (none_found t n 4096 text)) };
  once = subst AreOnce (sym none) tt;
}

-- the space of what has opened, with its images
abbrev pub space_of : Opened → ImageList → List Proc → Services → Space → Type 0
space_of o images procs services m =
    (m.procs.items ≡ procs) × ((m.ends ≡ o.ends) × ((m.store ≡ o.store) × ((m.regions ≡ o.regions) × ((m.images ≡ images) × (m.services ≡ services)))))

module _ (o : Opened) (l : LinkedParts) (b : Built) (c : Conf) (blocks : ℕ) (m : Machine) (procs : List Proc) (services : Services)
    (opened : IsOpened o l b) (starts : starting l c ≡ Ok b) (count : length o.cpus.items ≡ length c.process)
    (processes : o.regions.processes ≡ length c.process) (swap : all_of o.store.swap ≡ min c.swap blocks)
    (first : (s : Setting) (input : List ℕ) (w : World) → IsSettingOf c s → opening_in s l c input ≡ Ok w → IsSound w → StandsFirst o l.images blocks s w)
    (sound : (input : List ℕ) (w : World) → opening l c input ≡ Ok w → IsSound w) (told : (input : List ℕ) (w : World) → opening l c input ≡ Ok w → IsTold w)
    (space : space_of o l.images procs services m.space) (bare : m.space.names ≡ replicate 4096 None) (each : procs ≡ map first_proc o.cpus.items) (avail : services.avail ≡ c.avail)
    (sched : m.sched ≡ first_schedule c) (budget : m.budget ≡ c.budget) (console : m.console_bytes ≡ 0) (lines : m.lines ≡ length b.lines) (within : IsWithinLimits c) where
  abbrev pub world : List ℕ → World
  world input = first_world l c input b

  opens : (input : List ℕ) → opening l c input ≡ Ok (world input)
  opens input = ap (where_started (library_ranges l) c.script c.budget input) starts

  stood : (input : List ℕ) → StandsFirst o l.images blocks (setting_of c) (world input)
  stood input = first (setting_of c) input (world input) (record { memory = refl; swap = refl; segments = refl }) (opens input) (sound input (world input) (opens input))

  abbrev runs : ℕ → Option Running
  runs n = option_map first_running (nth o.cpus.items n)

  runs_are : running_at m.space.procs.items ≡ runs
  runs_are = fun_ext (λ n. ap (λ (x : List Proc). running_at x n) (space.0 ∙ each) ∙ running_first o.cpus.items n)

  abbrev made : ℕ → (ℕ → List ℕ) → Shelf → Maps → ImageList → (ℕ → Option Running) → Parts
  made device block t n images running = record { shelf = t; maps = n; images = images; device = device; block = block; running = running }

  -- the parts of the machine are those of what has opened
  parts_are : (device : ℕ) (block : ℕ → List ℕ) → parts_in m.space device block ≡ made device block o.store o.regions l.images runs
  parts_are device block =
      ap (λ (x : ℕ → Option Running). made device block m.space.store m.space.regions m.space.images x) runs_are
      ∙ (ap (λ (t : Shelf). made device block t m.space.regions m.space.images runs) space.1.1.0
      ∙ (ap (λ (n : Maps). made device block o.store n m.space.images runs) space.1.1.1.0
      ∙ ap (λ (x : ImageList). made device block o.store o.regions x runs) space.1.1.1.1.0))

  enough : (device : ℕ) → min c.swap device ≡ min c.swap blocks → all_of o.store.swap ≤ device
  enough device same = omega (arith, swap, same)

  pub first_stands : (device : ℕ) → min c.swap device ≡ min c.swap blocks → (block : ℕ → List ℕ) (input : List ℕ) → StandsFor m device block (setting_of c) (world input)
  first_stands device same block input = record {
    space = subst (λ (p : Parts). Stands p (world input)) (sym (parts_are device block))
        (stands_over o.store o.regions l.images runs blocks device block (world input) (enough device same) ((stood input).stands block));
    sound = sound input (world input) (opens input);
    told = told input (world input) (opens input);
    set = subst (λ (p : Parts). IsSetTo p (setting_of c)) (sym (parts_are device block))
        (set_over o.store o.regions l.images runs blocks device block block (setting_of c) same ((stood input).set block));
    flags = all_live o.cpus.items b.processes (λ i. lives_as (slice_get o.cpus.items i) _ (slice_get b.processes i) (opened.places i))
        ∙ ap (λ n. replicate n true) count ∙ ap (λ (s : Schedule). s.flags) (sym sched);
    dispatch = ap (λ (s : Schedule). s.dispatch) (sym sched);
    quantum = ap (λ (s : Schedule). s.quantum) (sym sched);
    known = record { avail = sym (ap (λ (z : Services). z.avail) space.1.1.1.1.1 ∙ avail) };
    spells = subst (λ (l : List (Option Name)). AreSpelled m.space.store l (world input)) (sym bare) (none_spelled m.space.store (world input) 4096 refl);
    budget = sym budget;
    console = sym console;
    lines = sym lines;
  }

  pub first_goes_on : (device : ℕ) → min c.swap blocks ≤ device → GoesOver m.space m.sched device
  first_goes_on device fits = record {
    together = record {
      ready = λ block.
          subst IsReady (sym (parts_are device block))
          (ready_over o.store o.regions l.images runs blocks device block block (omega (arith, swap, fits)) ((stood []).stands block).ready);
      numbers =
          (let a = ap (λ (xs : List Proc). length xs) (space.0 ∙ each) ∙ length-map o.cpus.items first_proc in
          let d = ap (λ (x : Maps). x.processes) space.1.1.1.0 in
          omega (arith, a, count, processes, d));
      marked = λ n. marks n ∙ ap (λ (x : ℕ → Option Running). goes_on (x n)) (sym runs_are);
      whole = subst AreWhole (sym space.1.1.1.0) opened.tables;
      one = subst ShareOne (sym space.1.1.1.0) (record { one = λ p q i h k high a d called. absurd (called (opened.loaded p i h a)) });
      places = subst (AreInPlace m.space.store m.space.regions) (sym bare) (none_in_place m.space.store m.space.regions 4096);
    };
    budget = (let left = ap (λ (x : Schedule). x.dispatch.budget) sched in let d = within.budget in omega (arith, left, d));
    held = subst (λ (r : Maps). AreHeldAtMost r (4294967290 - m.sched.dispatch.budget)) (sym space.1.1.1.0) (record { each = λ p i. held_once p i (held_at o.regions p i) refl });
    few =
        (let names = started_few c.segments (starts_of l 1 c.process) b starts in
        let next = opened.next in
        let store = ap (λ (t : Shelf). t.made) space.1.1.0 in
        let left = ap (λ (x : Schedule). x.dispatch.budget) sched in
        let a = within.segments.1 in
        let d = within.budget in
        omega (arith, names, next, store, left, a, d));
    marked = λ n. marks n ∙ all_go_on o.cpus.items n ∙ ap (λ k. lives (replicate k true) n) count
        ∙ ap (λ (s : Schedule). lives s.flags n) (sym sched);
  } where
    marks : (n : ℕ) → is_marked m.space.ends n ≡ goes_on (runs n)
    marks n = ap (λ (xs : List Bool). is_marked xs n) space.1.0 ∙ (stood []).marked (λ k. []) n

    held_once : (p i : ℕ) (h : Option HeldThere) → held_at o.regions p i ≡ h → holds_of h ≤ 4294967290 - m.sched.dispatch.budget
    held_once p i None e = omega arith
    held_once p i (Some h) e = (let once = opened.once p i h e in let left = ap (λ (x : Schedule). x.dispatch.budget) sched in let d = within.budget in omega (arith, once, left, d))

-- as many lines as the starts have
pub lines_counted : {X : Type 0} (row : X → List ℕ) (l : LinkedParts) (pid : ℕ) (xs : List X) → length (lines_from l pid (map row xs)) ≡ sum_by (λ x. length (row x) + 1) xs
lines_counted row l pid [] = refl
lines_counted row l pid (x ∷ xs) =
    length-append (start_lines pid (program_name l pid) (row x)) (lines_from l (pid + 1) (map row xs))
    ∙ ap (λ n. suc n + length (lines_from l (pid + 1) (map row xs))) (length-map (row x) (λ s. HoldsBy pid s (codes "load")))
    ∙ ap (λ n. n + length (lines_from l (pid + 1) (map row xs))) (sym (add-one (length (row x))))
    ∙ ap (λ n. length (row x) + 1 + n) (lines_counted row l (pid + 1) xs)
    ∙ sym (sum_by-cons (λ x. length (row x) + 1) x xs)
