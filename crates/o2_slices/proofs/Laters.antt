-- Steps that are done at once are steps of the world.
use Rattle.std.proofs.Common.{◌≡◌, ℕ, zero, suc, ◌+◌, ◌-◌, ◌<◌, ◌≤◌, ◌==◌, ◌||◌, ◌&&◌, Bool, true, false, not, nat_lt, cond, if◌then◌else◌, List, [], ◌∷◌, ◌++◌, length}
use Rattle.std.proofs.Common.{Option, Some, None, option_map, ap, sym, ◌∙◌, refl, inl, inr, ◌⊎◌, subst, arith, below_more, append-nil}
use Rattle.std.specs.Prelude.{Ok}
use Rattle.std.specs.List.{list_any}
use mathlib.Core.Path.{fun_ext}
use Rattle.o2_conf.specs.Dispatch.{Dispatch, counted, dispatched, lives, live_script, started}
use Rattle.o2_conf.proofs.Choice.{chosen_lives}
use Rattle.o2_image.specs.ImageList.{ImageList}
use Rattle.o2_isa.specs.declared.cpu.Cpu.{Cpu}
use Rattle.o2_isa.specs.Presence.{is_in}
use Rattle.o2_isa.specs.View.{bound_registers}
use Rattle.o2_segbus.specs.Seen.{hold_in, present_in}
use Rattle.o2_store.specs.Pictures.{picture}
use Rattle.o2_world.specs.declared.types.State.TheVariants.{Live}
use Rattle.o2_world.specs.declared.types.State.{State}
use Rattle.o2_world.specs.World.{Line, Process, Setting, World, is_live}
use Rattle.o2_world.specs.Calls.{Before, Effect}
use Rattle.o2_world.specs.Changes.{told_of, used}
use Rattle.o2_world.specs.Effect.{effect}
use Rattle.o2_world.specs.Holders.{kept, process_at, with_process}
use Rattle.o2_world.specs.Known.{known_of}
use Rattle.o2_world.specs.Run.{after, any_lives, before, is_over, live_flags, next_dispatch, plainly, process_after, acted, step, words_coming}
use Rattle.o2_world.specs.Views.{with_bytes}
use Rattle.o2_world.proofs.Budget.{budget_after, not_over}
use Rattle.o2_world.proofs.Words.{none_within, step_at_once}
use Rattle.o2_world.proofs.Flags.{flags_after}
use Rattle.o2_world.proofs.Quiet.{changed_plain}
use Rattle.o2_run.specs.Room.{Fits}
use Rattle.o2_run.specs.Slice.{AreSilent, IsSilent}
use Rattle.o2_stands.specs.Parts.{Parts, Running, running_of}
use Rattle.o2_stands.specs.Stands.{AreLawful, IsReady, IsSetTo, Stands, StandsIn}
use Rattle.o2_stands.specs.Moves.{with_running}
use Rattle.o2_stands.proofs.Running.{goes_on_stands}
use Rattle.o2_stepping.specs.Ran.{IsDone}
use Rattle.o2_stepping.specs.Rooms.{all_names, room_in}
use Rattle.o2_stepping.specs.Shapes.{SameShape}
use Rattle.o2_slices.specs.Slices.{AreSliced, AreSteps, IsStep, IsTry, Seat, quiet}
use Rattle.o2_stepping.specs.Worlds.{away_of, before_in, bytes_with}
use Rattle.o2_stepping.specs.declared.one_step.Attempt.TheVariants as attempt
use Rattle.o2_stepping.specs.declared.one_step.Stepped.TheVariants as stepped
use Rattle.o2_stepping.proofs.Keeping.{ready_same, try_shape}
use Rattle.o2_stepping.proofs.NextRooms.{fits}
use Rattle.o2_stepping.proofs.Rooms.{room_fits, room_same}
use Rattle.o2_stepping.proofs.Trials.{away_same, together}
use Rattle.o2_stepping.proofs.Worlds.{away_kept, seen_present, with_kept}
use Rattle.o2_slices.specs.Laters.{StandsLater, counted_by}
use Rattle.o2_space.specs.Stands.{StandsCommitted}
use Rattle.o2_space.proofs.Alike.{made, ready_as, set_as}
use Rattle.o2_space.proofs.Behind.{set_behind, stands_unwritten, stands_written}
use Rattle.o2_space.proofs.Sights.{before_is, bytes_are}

-- the parts stand for a world
pub record IsAt (p : Parts) (s : Setting) (w : World) : Type 0 where
  pub stands : Stands p w
  pub set : IsSetTo p s
  pub lawful : AreLawful p.shelf p.maps

-- and for the next one
record IsNextAt (p : Parts) (s : Setting) (w : World) : Type 0 where
  at : IsAt p s (step s w)
  silent : IsSilent true s w
  texts : (step s w).texts ≡ w.texts
  flags : live_flags (step s w).processes ≡ live_flags w.processes
  dispatch : (step s w).dispatch ≡ counted (next_dispatch s w)

-- and for the one k steps later, whose next step would be of the same turn where that has steps left
record IsLaterAt (p : Parts) (s : Setting) (w : World) (k : ℕ) : Type 0 where
  at : IsAt p s (after s w k)
  wordless : (j : ℕ) → j < k → words_coming (after s w j) ≡ 0
  silent : AreSilent true s w k
  texts : (after s w k).texts ≡ w.texts
  flags : live_flags (after s w k).processes ≡ live_flags w.processes
  dispatch : 0 < k → (after s w k).dispatch ≡ counted_by k (next_dispatch s w)
  next : k < (next_dispatch s w).left → next_dispatch s (after s w k) ≡ counted_by k (next_dispatch s w)

equal_self : (n : ℕ) → (n == n) ≡ true
equal_self n = grind arith

some_is : {A : Type 0} (x y : A) → Some x ≡ Some y → x ≡ y
some_is x y e = cc

some_of : (o : Option Process) (r : Running) → option_map running_of o ≡ Some r → (x : Process) × (o ≡ Some x) × (running_of x ≡ r)
some_of None r e = absurd (cc)
some_of (Some x) r e = (x, refl, some_is (running_of x) r e)

nothing : {A : Type 0} (l : List A) → length l ≡ 0 → l ≡ []
nothing [] e = refl
nothing (x ∷ l) e = absurd (omega (arith, e))

counts_one : (k : ℕ) (d : Dispatch) → counted (counted_by k d) ≡ counted_by (suc k) d
counts_one k d =
    ap (λ (l : ℕ). record d { left = l; budget = d.budget - k - 1 }) (less d.left)
    ∙ ap (λ (b : ℕ). record d { left = d.left - suc k; budget = b }) (less d.budget)
  where
    less : (n : ℕ) → n - k - 1 ≡ n - suc k
    less n = omega arith

counts_none : (d : Dispatch) → counted_by 0 d ≡ d
counts_none d = ap (λ (l : ℕ). record d { left = l; budget = d.budget - 0 }) (same d.left) ∙ ap (λ (b : ℕ). record d { budget = b }) (same d.budget)
  where
    same : (n : ℕ) → n - 0 ≡ n
    same n = omega arith

over_not : (flags : List Bool) (n : ℕ) → list_any (λ (b : Bool). b) flags ≡ true → 0 < n → (not (list_any (λ (b : Bool). b) flags) || (n == 0)) ≡ false
over_not flags n any h = rw any (grind arith)

goes_on_with : {A : Type 0} (b : Bool) (x y : A) → b ≡ true → (if b then x else y) ≡ x
goes_on_with {A} b x y e = rw e refl

-- a turn that has steps left goes on
stays_turn : (quantum : ℕ) (flags : List Bool) (d : Dispatch) → 0 < d.left → lives flags d.current ≡ true → dispatched quantum flags d ≡ d
stays_turn quantum flags d some live = goes_on_with (nat_lt 0 d.left && lives flags d.current) d (started quantum flags d (live_script flags d.script)) (rw live (grind arith))

-- Process pid of a space with these images, over this device.
module _ (pid : ℕ) (images : ImageList) (device : ℕ) (block : ℕ → List ℕ) (running : ℕ → Option Running) (s : Setting) where
  abbrev pub runs_by : Cpu → Running
  runs_by c = record { cpu = c; state = Live }

  -- it lives, with these registers
  abbrev pub runs_with : Cpu → ℕ → Option Running
  runs_with c n = if n == pid then Some (runs_by c) else running n

  abbrev pub parts_at : Seat → Parts
  parts_at a = made a.shelf a.maps images device block (runs_with a.cpu)

  -- One step.

  module _ (a b : Seat) (move : IsStep pid a b) (w : World) (here : IsAt (parts_at a) s w) (runs : is_over w ≡ false) (wordless : words_coming w ≡ 0) (chosen : (next_dispatch s w).current ≡ pid) where
    abbrev d : Dispatch
    d = next_dispatch s w

    found : (x : Process) × (process_at w.processes pid ≡ Some x) × (running_of x ≡ runs_by a.cpu)
    found =
        some_of (process_at w.processes pid) (runs_by a.cpu)
        (here.stands.processes pid ∙ ap (λ (c : Bool). cond c (Some (runs_by a.cpu)) (running pid)) (equal_self pid))

    abbrev x : Process
    x = found.0

    cpu_was : a.cpu ≡ x.cpu
    cpu_was = sym (ap (λ (r : Running). r.cpu) found.2)

    at_current : process_at w.processes d.current ≡ Some x
    at_current = ap (process_at w.processes) chosen ∙ found.1

    abbrev e : Effect
    e = effect (before s w d.current x)

    abbrev away : ℕ → List ℕ
    away = away_of a.shelf a.maps images device block

    abbrev start : Before
    start = before_in away a.shelf a.maps pid a.cpu w.input (known_of s w)

    start_is : start ≡ before s w d.current x
    start_is = before_is (parts_at a) w here.lawful here.stands s pid x a.cpu found.1 cpu_was ∙ ap (λ (n : ℕ). before s w n x) (sym chosen)

    done : IsDone e quiet b.cpu (bytes_with away b.shelf) (Some w.input) None None None None
    done = subst (λ (z : Before). IsDone (effect z) quiet b.cpu (bytes_with away b.shelf) (Some w.input) None None None None) start_is (move.done away w.input (known_of s w) None None)

    lives_on : is_live e.state ≡ true
    lives_on = ap is_live done.state

    shape : SameShape a.shelf a.maps b.shelf b.maps
    shape = try_shape a.shelf b.shelf a.maps b.maps move.follows.store move.follows.maps

    abbrev q : Parts
    q = made b.shelf b.maps images device block (runs_with a.cpu)

    ready : IsReady q
    ready =
        let r = here.stands.ready in
        ready_as b.shelf b.maps images device block block (λ k. None) (runs_with a.cpu)
        (ready_same images a.shelf b.shelf a.maps b.maps device device block block (ready_as a.shelf a.maps images device block block (runs_with a.cpu) (λ k. None) r) shape refl move.follows.next.settled
        (move.follows.clean.clean (picture images) r.aged r.guarded r.clean))

    bytes_are_those : (name : ℕ) → bytes_with (away_of b.shelf b.maps images device block) b.shelf name ≡ e.bytes name
    bytes_are_those name =
        away_same (away_of b.shelf b.maps images device block) away b.shelf (λ k. sym (away_kept images a.shelf b.shelf a.maps b.maps device block move.follows.store k)) name
        ∙ done.bytes name

    between : StandsIn q w.processes (with_bytes w.names e.bytes) w.next_name w.reserved
    between = stands_written (parts_at a) b.shelf b.maps device block shape move.follows.lawful.inside ready e.bytes bytes_are_those w here.stands

    abbrev worked : Process
    worked = record x { cpu = e.cpu; state = e.state }

    abbrev ended : Process
    ended = record x { cpu = e.cpu; state = e.state; held = [] }

    running_same : (n : ℕ) → (if n == pid then Some (running_of worked) else runs_with a.cpu n) ≡ runs_with b.cpu n
    running_same n = go (n == pid)
      where
        same : running_of worked ≡ runs_by b.cpu
        same = ap (λ (c : Cpu). record { cpu = c; state = e.state }) (sym done.cpu) ∙ ap (λ (z : State). record { cpu = b.cpu; state = z }) done.state

        go : (c : Bool) → cond c (Some (running_of worked)) (cond c (Some (runs_by a.cpu)) (running n)) ≡ cond c (Some (runs_by b.cpu)) (running n)
        go true = ap (λ (r : Running). Some r) same
        go false = refl

    parts_are : with_running q pid (running_of worked) ≡ parts_at b
    parts_are = ap (λ (f : ℕ → Option Running). made b.shelf b.maps images device block f) (fun_ext running_same)

    moved : StandsIn (parts_at b) (with_process w.processes pid worked) (with_bytes w.names e.bytes) w.next_name w.reserved
    moved =
        subst (λ (r : Parts). StandsIn r (with_process w.processes pid worked) (with_bytes w.names e.bytes) w.next_name w.reserved) parts_are
        (goes_on_stands w.processes pid x worked found.1 refl q (with_bytes w.names e.bytes) w.next_name w.reserved (lives_on ∙ sym (ap (λ (r : Running). is_live r.state) found.2)) between)

    abbrev StandsBy : Bool → Type 0
    StandsBy z =
        let ps = with_process w.processes d.current (if z then worked else ended) in
        StandsIn (parts_at b) ps (if z then with_bytes w.names e.bytes else kept ps (with_bytes w.names e.bytes)) w.next_name (if z then w.reserved else used ps w.reserved)

    behind : StandsCommitted w.processes (with_bytes w.names e.bytes) w.next_name w.reserved d.current x (record { cpu = e.cpu; state = e.state }) (parts_at b)
    behind =
        subst StandsBy (sym lives_on)
        (subst (λ (n : ℕ). StandsIn (parts_at b) (with_process w.processes n worked) (with_bytes w.names e.bytes) w.next_name w.reserved) (sym chosen) moved)

    step_is : step s w ≡ plainly w d x e
    step_is = step_at_once s w runs wordless ∙ (ap (acted s w d) at_current ∙ changed_plain w d x e done.changes)

    stands_then : Stands (parts_at b) (step s w)
    unfolding plainly
    stands_then = subst (λ (v : World). Stands (parts_at b) v) (sym step_is) behind

    -- what the step needed is in memory together
    abbrev names : List ℕ
    names = all_names start (bound_registers (hold_in b.maps pid) b.cpu)

    names_are : names ≡ all_names (before s w d.current x) (bound_registers (hold_in b.maps d.current) b.cpu)
    names_are =
        ap (λ (z : Before). all_names z (bound_registers (hold_in b.maps pid) b.cpu)) start_is
        ∙ ap (λ (n : ℕ). all_names (before s w d.current x) (bound_registers (hold_in b.maps n) b.cpu)) (sym chosen)

    all_here : (n : ℕ) → is_in n names ≡ true → present_in b.shelf n ≡ true
    all_here =
        seen_present b.shelf b.maps pid b.cpu names
        (together away away away a.shelf a.shelf b.shelf a.maps a.maps pid a.cpu w.input (known_of s w) refl b.maps b.cpu (Ok (attempt.Stepped (stepped.Ran quiet))) move.follows.store move.before move.follows.next
        (λ never. move.present away w.input (known_of s w)))

    fits_there : room_in a.shelf names ≤ a.shelf.places.size
    fits_there =
        (let within = room_fits b.shelf names move.follows.lawful.shelf ready.aged all_here move.follows.sum move.follows.within in
        let same = room_same a.shelf b.shelf names shape.tables in
        let size = shape.tables.size in
        omega (arith, within, same, size))

    room : Fits true s w
    room =
        fits (parts_at a) s w x (record { lawful = here.lawful; set = here.set; stands = here.stands; chosen = at_current; wordless = wordless }) b.maps b.cpu shape.holds done.cpu done.changes
        (subst (λ (l : List ℕ). room_in a.shelf l ≤ a.shelf.places.size) names_are fits_there)

    lives_here : lives (live_flags w.processes) d.current ≡ true
    lives_here = chosen_lives s.quantum (live_flags w.processes) w.dispatch (not_over (any_lives w.processes) w.dispatch.budget runs).0

    -- what it does beside that
    then_input : (step s w).input ≡ w.input
    unfolding plainly
    then_input = ap (λ (v : World). v.input) step_is ∙ sym (some_is w.input e.input done.input)

    then_console : (step s w).console ≡ w.console
    unfolding plainly
    then_console = ap (λ (v : World). v.console) step_is ∙ (ap (λ (l : List ℕ). w.console ++ l) (nothing e.piece done.puts.bytes) ∙ append-nil w.console)

    then_lines : (step s w).lines ≡ w.lines
    unfolding plainly
    then_lines = ap (λ (v : World). v.lines) step_is ∙ (ap (λ (l : List Line). w.lines ++ l) (nothing e.lines done.puts.lines) ∙ append-nil w.lines)

    then_texts : (step s w).texts ≡ w.texts
    unfolding plainly
    then_texts = ap (λ (v : World). v.texts) step_is ∙ goes_on_with (is_live e.state) w.texts (told_of (with_process w.processes d.current (process_after x e)) w.texts) lives_on

    then_dispatch : (step s w).dispatch ≡ counted d
    unfolding plainly
    then_dispatch = ap (λ (v : World). v.dispatch) step_is

    then_flags : live_flags (step s w).processes ≡ live_flags w.processes
    unfolding plainly
    then_flags = ap (λ (v : World). live_flags v.processes) step_is ∙ flags_after w.processes (live_flags w.processes) d.current x e refl lives_here lives_on

    one_step : IsNextAt (parts_at b) s w
    one_step = record {
      at = record {
        stands = stands_then;
        set = set_as b.shelf b.maps images device block block (runs_with a.cpu) (runs_with b.cpu) s (set_behind (parts_at a) b.shelf b.maps device block shape s refl here.set);
        lawful = move.follows.lawful;
      };
      silent = record { runs = runs; room = room; input = then_input; console = then_console; lines = then_lines };
      texts = then_texts;
      flags = then_flags;
      dispatch = then_dispatch;
    }

  -- A try that isn't done.

  module _ (a b : Seat) (tries : IsTry pid a b) (w : World) (here : IsAt (parts_at a) s w) where
    try_shapes : SameShape a.shelf a.maps b.shelf b.maps
    try_shapes = try_shape a.shelf b.shelf a.maps b.maps tries.follows.store tries.follows.maps

    try_ready : IsReady (made b.shelf b.maps images device block (runs_with a.cpu))
    try_ready =
        let r = here.stands.ready in
        ready_as b.shelf b.maps images device block block (λ k. None) (runs_with a.cpu)
        (ready_same images a.shelf b.shelf a.maps b.maps device device block block (ready_as a.shelf a.maps images device block block (runs_with a.cpu) (λ k. None) r) try_shapes refl tries.follows.next.settled
        (tries.follows.clean.clean (picture images) r.aged r.guarded r.clean))

    try_stands : Stands (made b.shelf b.maps images device block (runs_with a.cpu)) w
    try_stands =
        stands_unwritten (parts_at a) b.shelf b.maps device block try_shapes tries.follows.lawful.inside try_ready (bytes_with (away_of b.shelf b.maps images device block) b.shelf) (λ name. refl) w here.stands
        (λ name. with_kept images a.shelf b.shelf a.maps b.maps device block tries.follows.store tries.bytes name ∙ bytes_are (parts_at a) w here.lawful here.stands name)

    tried_at : IsAt (parts_at b) s w
    tried_at = record {
      stands = subst (λ (c : Cpu). Stands (made b.shelf b.maps images device block (runs_with c)) w) (sym tries.cpu) try_stands;
      set = set_as b.shelf b.maps images device block block (runs_with a.cpu) (runs_with b.cpu) s (set_behind (parts_at a) b.shelf b.maps device block try_shapes s refl here.set);
      lawful = tries.follows.lawful;
    }

  -- Some steps.

  module _ (w : World) (runs : is_over w ≡ false) (wordless : words_coming w ≡ 0) (chosen : (next_dispatch s w).current ≡ pid) where
    all_lives : list_any (λ (b : Bool). b) (live_flags w.processes) ≡ true
    all_lives = (not_over (any_lives w.processes) w.dispatch.budget runs).0

    lives_now : lives (live_flags w.processes) (next_dispatch s w).current ≡ true
    lives_now = chosen_lives s.quantum (live_flags w.processes) w.dispatch all_lives

    -- no word comes within a turn
    wordless_at : (k : ℕ) (p : Parts) → IsLaterAt p s w k → suc k ≤ (next_dispatch s w).left → words_coming (after s w k) ≡ 0
    wordless_at zero p h turn = wordless
    wordless_at (suc k) p h turn =
        none_within (after s w (suc k)) (counted_by (suc k) (next_dispatch s w)) (h.dispatch (omega arith)) (omega (arith, turn))
        (ap (λ (f : List Bool). lives f (next_dispatch s w).current) h.flags ∙ lives_now)

    step_later : (k : ℕ) (m b : Seat) → IsLaterAt (parts_at m) s w k → IsStep pid m b → suc k ≤ (next_dispatch s w).left → suc k ≤ w.dispatch.budget → IsLaterAt (parts_at b) s w (suc k)
    step_later k m b h move turn budget = record {
      at = one.at;
      wordless = λ j below. (let P : ℕ → Type 0 = λ i. words_coming (after s w i) ≡ 0 in below_more P k h.wordless (wordless_at k (parts_at m) h turn) j (omega (arith, below)));
      silent = λ j below. (let P : ℕ → Type 0 = λ i. IsSilent true s (after s w i) in below_more P k h.silent one.silent j (omega (arith, below)));
      texts = one.texts ∙ h.texts;
      flags = flags_now;
      dispatch = λ some. counted_now;
      next = λ more.
          ap (λ (f : List Bool). dispatched s.quantum f (after s w (suc k)).dispatch) flags_now
          ∙ (ap (dispatched s.quantum (live_flags w.processes)) counted_now ∙ stays_turn s.quantum (live_flags w.processes) (counted_by (suc k) (next_dispatch s w)) (omega (arith, more)) lives_now);
    } where
      left : (after s w k).dispatch.budget + k ≡ w.dispatch.budget
      left = budget_after s w k (λ j below. (h.silent j below).runs)

      runs_then : is_over (after s w k) ≡ false
      runs_then = over_not (live_flags (after s w k).processes) (after s w k).dispatch.budget (ap (λ (f : List Bool). list_any (λ (b : Bool). b) f) h.flags ∙ all_lives) (omega (arith, left, budget))

      -- the step is of the same turn
      next_then : next_dispatch s (after s w k) ≡ counted_by k (next_dispatch s w)
      next_then = h.next (omega (arith, turn))

      chosen_then : (next_dispatch s (after s w k)).current ≡ pid
      chosen_then = ap (λ (z : Dispatch). z.current) next_then ∙ chosen

      one : IsNextAt (parts_at b) s (after s w k)
      one = one_step m b move (after s w k) h.at runs_then (wordless_at k (parts_at m) h turn) chosen_then

      flags_now : live_flags (after s w (suc k)).processes ≡ live_flags w.processes
      flags_now = one.flags ∙ h.flags

      counted_now : (after s w (suc k)).dispatch ≡ counted_by (suc k) (next_dispatch s w)
      counted_now = one.dispatch ∙ (ap counted next_then ∙ counts_one k (next_dispatch s w))

    steps_later : (k : ℕ) (a b : Seat) → AreSteps pid k a b → IsAt (parts_at a) s w → k ≤ (next_dispatch s w).left → k ≤ w.dispatch.budget → IsLaterAt (parts_at b) s w k
    steps_later zero a b same here turn budget = record {
      at = subst (λ (z : Seat). IsAt (parts_at z) s w) same here;
      wordless = λ j below. absurd (omega (arith, below));
      silent = λ j below. absurd (omega (arith, below));
      texts = refl;
      flags = refl;
      dispatch = λ some. absurd (omega (arith, some));
      next = λ more. sym (counts_none (next_dispatch s w));
    }
    steps_later (suc k) a b steps here turn budget =
        step_later k steps.0 b (steps_later k a steps.0 steps.1.0 here (omega (arith, turn)) (omega (arith, budget))) steps.1.1 turn budget

    pub sliced_later : (k : ℕ) (a b : Seat) → AreSliced pid k a b → IsAt (parts_at a) s w → k ≤ (next_dispatch s w).left → k ≤ w.dispatch.budget → StandsLater (parts_at b) s w k
    sliced_later k a b sliced here turn budget = record { stands = (last_at sliced.behind).stands; wordless = h.wordless; silent = h.silent; texts = h.texts; flags = h.flags; dispatch = h.dispatch } where
      h : IsLaterAt (parts_at sliced.last) s w k
      h = steps_later k a sliced.last sliced.steps here turn budget

      last_at : (sliced.last ≡ b) ⊎ IsTry pid sliced.last b → IsAt (parts_at b) s (after s w k)
      last_at (inl same) = subst (λ (z : Seat). IsAt (parts_at z) s (after s w k)) same h.at
      last_at (inr tries) = tried_at sliced.last b tries (after s w k) h.at
