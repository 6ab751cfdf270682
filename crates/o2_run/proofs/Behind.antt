-- What a turn comes to behind some of the words that come before a step is what it comes to before them.
use Rattle.std.proofs.Common.{◌≡◌, inl, inr, ℕ, zero, suc, ◌+◌, ◌-◌, ◌<◌, ◌≤◌, Bool, true, false, List, [], ◌∷◌, ◌++◌, length, map, sum, Option, Some, if◌then◌else◌, ap, sym, ◌∙◌, refl, subst, arith}
use Rattle.o2_outer.specs.Texts.{Continues, ContinuesBetween}
use Rattle.o2_world.specs.Map.{Map}
use Rattle.o2_world.specs.World.{World, Setting, Process, Segment, Line}
use Rattle.o2_world.specs.Changes.{marked}
use Rattle.o2_world.specs.Discards.{all_discarded, goes}
use Rattle.o2_world.specs.Holders.{process_at}
use Rattle.o2_world.specs.Effect.{AsksInput}
use Rattle.o2_conf.specs.Dispatch.{Dispatch}
use Rattle.o2_world.specs.Text.{lines_text}
use Rattle.o2_world.specs.Run.{IsReadNext, after, before, console, is_over, next_dispatch, ready, step, with_word, words_coming, words_done}
use Rattle.o2_world.proofs.TiedChanges.{zeros_length}
use Rattle.o2_world.proofs.Words.{next_behind, none_over, ready_at_once, ready_behind, stays_behind, step_behind}
use Rattle.o2_run.specs.Room.{AllFits, Fits, blocks_of, chosen_load, chosen_room, live_load, room, swap_load}
use Rattle.o2_run.specs.Stops.{StopFits, StopsFor, stop_line}
use Rattle.o2_run.specs.Slice.{AreSilent, IsSilent}
use Rattle.o2_run.specs.Turn.{IsStopped, StepsInPart, StepsOn}
use Rattle.o2_run.specs.Pieces.{FailedHands, FailsIn, FailsInStep, Hands, TurnHands, told_counts, puts_of, step_puts}
use Rattle.o2_run.specs.declared.steps.Stop.{Stop}
use Rattle.o2_run.specs.declared.steps.Stop.TheVariants as stop
use Rattle.o2_run.specs.declared.steps.Turn.{Turn}
use Rattle.o2_run.specs.declared.steps.Turn.TheVariants as turn

-- Where no word comes, the room and the load are those of the step from the world itself.

pub room_at_once : (s : Setting) (w : World) → words_coming w ≡ 0 → room s w ≡ chosen_room s w
unfolding room
room_at_once s w wordless = ap (chosen_room s) (ready_at_once w wordless)

pub load_at_once : (s : Setting) (w : World) → words_coming w ≡ 0 → live_load s w ≡ chosen_load s w
unfolding live_load
load_at_once s w wordless = ap (chosen_load s) (ready_at_once w wordless)

-- A word takes no swap blocks from what they count: sizes stay.

blocks : ℕ × Segment → ℕ
blocks e = if e.1.clean then 0 else blocks_of (length e.1.bytes)

one_load : (n : ℕ) (s : Segment) (b : Bool) → blocks (n, if b then marked true s else s) ≡ blocks (n, s)
unfolding blocks
one_load n s true = ap (λ (k : ℕ). if s.clean then 0 else blocks_of k) (zeros_length (length s.bytes))
one_load n s false = refl

all_blocks : (ps : List Process) (names : Map Segment) → map blocks (all_discarded ps names) ≡ map blocks names
unfolding blocks all_discarded
all_blocks ps [] = refl
all_blocks ps (e ∷ es) =
    ap (λ (k : ℕ). k ∷ map blocks (all_discarded ps es)) (one_load e.0 e.1 (goes ps e.0 e.1))
    ∙ ap (λ (ks : List ℕ). blocks (e.0, e.1) ∷ ks) (all_blocks ps es)

names_load : (ps : List Process) (names : Map Segment) → sum (map blocks (all_discarded ps names)) ≡ sum (map blocks names)
names_load ps names = ap (λ (ks : List ℕ). sum ks) (all_blocks ps names)

word_load : (w : World) → swap_load (with_word w) ≡ swap_load w
unfolding blocks
word_load w = names_load w.processes w.names

load_behind : (n : ℕ) (w : World) → swap_load (words_done n w) ≡ swap_load w
load_behind zero w = refl
load_behind (suc n) w = load_behind n (with_word w) ∙ word_load w

module _ (s : Setting) (n : ℕ) (v : World) (few : n ≤ words_coming v) where
  abbrev u : World
  u = words_done n v

  over_same : is_over u ≡ is_over v
  over_same = (stays_behind n v).over

  pub input_same : u.input ≡ v.input
  input_same = (stays_behind n v).input

  lines_same : u.lines ≡ v.lines
  lines_same = (stays_behind n v).lines

  console_same : u.console ≡ v.console
  console_same = (stays_behind n v).console

  pub step_same : step s u ≡ step s v
  step_same = step_behind s n v few

  room_same : room s u ≡ room s v
  unfolding room
  room_same = ap (chosen_room s) (ready_behind n v few)

  pub load_same : live_load s u ≡ live_load s v
  unfolding live_load
  load_same = ap (chosen_load s) (ready_behind n v few)

  pub fits_there : (swaps : Bool) → Fits swaps s u → Fits swaps s v
  fits_there swaps fits = λ on. subst (λ (r : ℕ). r ≤ s.memory) room_same (fits on)

  pub all_fits_here : (is_over v ≡ false → AllFits s v) → is_over u ≡ false → AllFits s u
  all_fits_here fits runs = subst (λ (r : ℕ). r ≤ s.memory) (sym load_same) (fits (sym over_same ∙ runs))

  -- where the run is over no word came, and where no more comes all have come
  pub over_none : is_over u ≡ true → n ≡ 0
  over_none over = let none = none_over v (sym over_same ∙ over) in omega (arith, few, none)

  pub over_is : is_over u ≡ true → u ≡ v
  over_is over = ap (λ (k : ℕ). words_done k v) (over_none over)

  pub all_done : words_coming u ≡ 0 → u ≡ ready v
  all_done none = sym (ready_at_once u none) ∙ ready_behind n v few

  -- a turn's step
  pub on_there : (now : World → Type 0) (swaps : Bool) (l d e q p : Option (List ℕ)) → StepsOn now swaps s u l d e q p → StepsOn now swaps s v l d e q p
  on_there now swaps l d e q p on = record {
    runs = sym over_same ∙ on.runs;
    room = fits_there swaps on.room;
    input = on.input ∙ ap (λ (x : World). Some x.input) step_same;
    stands = subst now step_same on.stands;
    to_console = subst (λ (x : World). Continues d e (console v) (console x)) step_same (subst (λ (bs : List ℕ). Continues d e bs (console (step s u))) console_same on.to_console);
    to_report =
        subst (λ (x : World). Continues q p (lines_text v.lines) (lines_text x.lines)) step_same
        (subst (λ (ls : List Line). Continues q p (lines_text ls) (lines_text (step s u).lines)) lines_same on.to_report);
  }

  pub part_there : (now : World → Type 0) (swaps : Bool) (l d e q p : Option (List ℕ)) → StepsInPart now swaps s u l d e q p → StepsInPart (λ _. Unit {0}) swaps s v l d e q p
  part_there now swaps l d e q p part = record {
    runs = sym over_same ∙ part.runs;
    room = fits_there swaps part.room;
    input = part.input ∙ ap (λ (x : World). Some x.input) step_same;
    stands = inl tt;
    to_console = subst (λ (x : World). ContinuesBetween d e (console v) (console x)) step_same (subst (λ (bs : List ℕ). ContinuesBetween d e bs (console (step s u))) console_same part.to_console);
    to_report =
        subst (λ (x : World). ContinuesBetween q p (lines_text v.lines) (lines_text x.lines)) step_same
        (subst (λ (ls : List Line). ContinuesBetween q p (lines_text ls) (lines_text (step s u).lines)) lines_same part.to_report);
    in_order = elim part.in_order [
      | inl same ↦ inl same
      | inr on ↦ inr (subst (λ (x : World). Continues d e (console v) (console x)) step_same (subst (λ (bs : List ℕ). Continues d e bs (console (step s u))) console_same on))
    ];
  }

  -- why it stops
  read_there : IsReadNext s u → IsReadNext s v
  read_there next =
      let same = next_behind s n v few in
      record {
        process = next.process;
        there =
            ap (λ (d : Dispatch). process_at v.processes d.current) (sym same)
            ∙ (ap (λ (ps : List Process). process_at ps (next_dispatch s u).current) (sym (stays_behind n v).processes) ∙ next.there);
        reads =
            subst (λ (d : Dispatch). AsksInput (before s (ready v) d.current next.process)) same
            (subst (λ (x : World). AsksInput (before s x (next_dispatch s u).current next.process)) (ready_behind n v few) next.reads);
      }

  cause_there : (count : ℕ) (why : Stop) → StopsFor count s u why → StopsFor count s v why
  cause_there count stop.Input c = read_there c
  cause_there count stop.NoRoom c = subst (λ (r : ℕ). s.memory < r) room_same c
  cause_there count stop.SwapFull c = record { swap = let same = load_behind n v in omega (arith, c.swap, same); memory = subst (λ (r : ℕ). s.memory < r) load_same c.memory }
  cause_there count stop.SwapFault c = tt

  stop_fits_there : (swaps : Bool) (why : Stop) → StopFits swaps s u why → StopFits swaps s v why
  stop_fits_there swaps stop.Input c = fits_there swaps c
  stop_fits_there swaps stop.NoRoom c = tt
  stop_fits_there swaps stop.SwapFull c = tt
  stop_fits_there swaps stop.SwapFault c = tt

  pub stop_there : (now : World → Type 0) (swaps : Bool) (count : ℕ) (why : Stop) (put : Bool) (l d e q p : Option (List ℕ)) → IsStopped now swaps count s u why put l d e q p
      → IsStopped (λ _. Unit {0}) swaps count s v why put l d e q p
  stop_there now swaps count why put l d e q p halt = record {
    runs = sym over_same ∙ halt.runs;
    cause = cause_there count why halt.cause;
    fits = stop_fits_there swaps why halt.fits;
    stands = tt;
    input = halt.input ∙ ap Some input_same;
    to_console = halt.to_console;
    to_report = subst (λ (ls : List Line). ContinuesBetween q p (lines_text ls) (lines_text ls ++ stop_line why)) lines_same halt.to_report;
    whole = λ is. subst (λ (ls : List Line). Continues q p (lines_text ls) (lines_text ls ++ stop_line why)) lines_same (halt.whole is);
  }

  -- what both sinks are handed
  count_same : length u.lines ≡ length v.lines
  count_same = ap (λ (ls : List Line). length ls) lines_same

  step_count : length (step s u).lines ≡ length (step s v).lines
  step_count = ap (λ (x : World). length x.lines) step_same

  puts_same : step_puts u (step s u) ≡ step_puts v (step s v)
  puts_same =
      ap (λ (x : World). puts_of (length x.console - length u.console)) step_same
      ∙ ap (λ (bs : List ℕ). puts_of (length (step s v).console - length bs)) console_same

  pub one_put : (c d r q : ℕ) (x y : Option (List ℕ)) → Hands (told_counts c d r q (length u.lines) x y) 0 (length u.lines + 1) → Hands (told_counts c d r q (length v.lines) x y) 0 (length v.lines + 1)
  one_put c d r q x y h = record { to_console = h.to_console; to_report = omega (arith, h.to_report, count_same) }

  piece_same : length (step s u).console - length u.console ≡ length (step s v).console - length v.console
  piece_same =
      ap (λ (x : World). length x.console - length u.console) step_same
      ∙ ap (λ (bs : List ℕ). length (step s v).console - length bs) console_same

  in_step_there : (c d r q : ℕ) (x y : Option (List ℕ)) → FailsInStep u (step s u) (told_counts c d r q (length u.lines) x y)
      → FailsInStep v (step s v) (told_counts c d r q (length v.lines) x y)
  in_step_there c d r q x y f = record {
    lines = f.lines;
    adds = ap (λ (w : World). w.lines) (sym step_same) ∙ (f.adds ∙ ap (λ (ls : List Line). ls ++ f.lines) lines_same);
    fails = subst (λ (bytes : ℕ). FailsIn bytes f.lines c d x y r q) piece_same f.fails;
  }

  pub failed_there : (c d r q : ℕ) (x y : Option (List ℕ)) → FailedHands s u (told_counts c d r q (length u.lines) x y) → FailedHands s v (told_counts c d r q (length v.lines) x y)
  failed_there c d r q x y h = record {
    in_step = λ runs. in_step_there c d r q x y (h.in_step (over_same ∙ runs));
    at_end = λ over. one_put c d r q x y (h.at_end (over_same ∙ over));
  }

  pub hands_there : (c d r q : ℕ) (x y : Option (List ℕ)) (t : Turn) → TurnHands s u (told_counts c d r q (length u.lines) x y) t → TurnHands s v (told_counts c d r q (length v.lines) x y) t
  hands_there c d r q x y turn.Ran h = record { to_console = omega (arith, h.to_console, puts_same); to_report = omega (arith, h.to_report, count_same, step_count) }
  hands_there c d r q x y turn.Discarded h = record { to_console = h.to_console; to_report = omega (arith, h.to_report, count_same) }
  hands_there c d r q x y turn.AllEnded h = one_put c d r q x y h
  hands_there c d r q x y turn.BudgetSpent h = one_put c d r q x y h
  hands_there c d r q x y turn.InputFault h = one_put c d r q x y h
  hands_there c d r q x y turn.SinkFault h = failed_there c d r q x y h
  hands_there c d r q x y turn.NoRoom h = one_put c d r q x y h
  hands_there c d r q x y turn.SwapFull h = one_put c d r q x y h
  hands_there c d r q x y turn.SwapFault h = one_put c d r q x y h

  -- steps at once
  pub after_same : (j : ℕ) → after s u (suc j) ≡ after s v (suc j)
  after_same zero = step_same
  after_same (suc j) = ap (step s) (after_same j)

  silent_first : (swaps : Bool) → IsSilent swaps s u → IsSilent swaps s v
  silent_first swaps x = record {
    runs = sym over_same ∙ x.runs;
    room = fits_there swaps x.room;
    input = ap (λ (y : World). y.input) (sym step_same) ∙ (x.input ∙ input_same);
    console = ap (λ (y : World). y.console) (sym step_same) ∙ (x.console ∙ console_same);
    lines = ap (λ (y : World). y.lines) (sym step_same) ∙ (x.lines ∙ lines_same);
  }

  pub silent_there : (swaps : Bool) (k : ℕ) → AreSilent swaps s u k → AreSilent swaps s v k
  silent_there swaps k x zero below = silent_first swaps (x zero below)
  silent_there swaps k x (suc j) below = subst (IsSilent swaps s) (after_same j) (x (suc j) below)
