-- The run of the boundless machine, its texts, and what a stopped run shows of them.
use Rattle.std.specs.Prelude.{◌⊎◌, ◌≡◌, ℕ, zero, suc, ◌-◌, ◌≤◌, ◌<◌, Bool, true, false, not, List, [], ◌∷◌, ◌++◌, if◌then◌else◌, ◌==◌, ◌||◌, Option, Some, None, codes, map}
use Rattle.std.specs.List.{list_any}
use Rattle.o2_outer.specs.Texts.{Gains, GainsSome, GainsBetween, IsPrefix}
use Rattle.o2_world.specs.Map.{Map}
use Rattle.o2_world.specs.World.{World, Setting, Process, Segment, is_live}
use Rattle.o2_conf.specs.Dispatch.{Dispatch, dispatched, counted, words_ahead, word_taken}
use Rattle.o2_world.specs.Holders.{process_at, with_process, kept}
use Rattle.o2_world.specs.Views.{view_of, with_bytes}
use Rattle.o2_world.specs.Discards.{all_discarded}
use Rattle.o2_world.specs.Changes.{Change, Finishes, with_all, used, told_of}
use Rattle.o2_world.specs.Known.{known_of}
use Rattle.o2_world.specs.Calls.{Before, Effect}
use Rattle.o2_world.specs.Effect.{effect, AsksInput}
use Rattle.o2_world.specs.Text.{lines_text}

abbrev pub live_flags : List Process → List Bool
live_flags ps = map (λ (p : Process). is_live p.state) ps

abbrev pub any_lives : List Process → Bool
any_lives ps = list_any (λ b. b) (live_flags ps)

-- the process after an effect: where that ended it, it holds nothing
abbrev pub process_after : Process → Effect → Process
process_after p e = if is_live e.state then record p { cpu = e.cpu; state = e.state } else record p { cpu = e.cpu; state = e.state; held = [] }

-- the names after it: where it ended the process, those that nobody holds go
abbrev pub names_after : List Process → Map Segment → Effect → Map Segment
names_after ps names e = if is_live e.state then with_bytes names e.bytes else kept ps (with_bytes names e.bytes)

-- the process before the changes of its step, and before its end
abbrev pub working : Process → Effect → Process
working p e = record p { cpu = e.cpu; state = if is_live e.state then e.state else p.state }

-- the world with all of an effect but its changes
abbrev pub worked : World → Dispatch → Process → Effect → World
worked w d p e = record w {
  names = with_bytes w.names e.bytes;
  processes = with_process w.processes d.current (working p e);
  input = e.input;
  dispatch = counted d;
  console = w.console ++ e.piece;
  lines = w.lines ++ e.lines;
}

-- all changes of a step: where it ended the process, that comes behind them
abbrev pub all_changes : ℕ → Effect → List Change
all_changes n e = if is_live e.state then e.changes else e.changes ++ Finishes n e.state ∷ []

-- the world after this effect of a step of process d.current
unfoldable pub changed : World → Dispatch → Process → Effect → World
changed w d p e = with_all (worked w d p e) (all_changes d.current e)

-- the same where the effect changes nothing but bytes
unfoldable pub plainly : World → Dispatch → Process → Effect → World
plainly w d p e =
    let ps = with_process w.processes d.current (process_after p e) in
    record w {
      names = names_after ps w.names e;
      processes = ps;
      reserved = if is_live e.state then w.reserved else used ps w.reserved;
      texts = if is_live e.state then w.texts else told_of ps w.texts;
      input = e.input;
      dispatch = counted d;
      console = w.console ++ e.piece;
      lines = w.lines ++ e.lines;
    }

-- what a step of process n starts from
abbrev pub before : Setting → World → ℕ → Process → Before
before s w n p = record { number = n; cpu = p.cpu; view = view_of w.names p; known = known_of s w; input = w.input }

-- the world after the step, where there is one
abbrev pub acted : Setting → World → Dispatch → Option Process → World
acted s w d None = w
acted s w d (Some p) = changed w d p (effect (before s w d.current p))

-- whose step is next
abbrev pub next_dispatch : Setting → World → Dispatch
next_dispatch s w = dispatched s.quantum (live_flags w.processes) w.dispatch

-- all have ended, or the budget is spent
abbrev pub is_over : World → Bool
is_over w = not (any_lives w.processes) || (w.dispatch.budget == 0)

-- The words `discard` of a script that come before the next step: each is done by itself, and takes no step and no budget.

-- how many come: none where the run is over
abbrev pub words_coming : World → ℕ
words_coming w = if is_over w then 0 else words_ahead (live_flags w.processes) w.dispatch

-- the world behind the first of them
abbrev pub with_word : World → World
with_word w = record w { names = all_discarded w.processes w.names; dispatch = word_taken (live_flags w.processes) w.dispatch }

-- behind so many
abbrev pub words_done : ℕ → World → World
words_done zero w = w
words_done (suc n) w = words_done n (with_word w)

-- behind all of them: the world in which the next step is done
unfoldable pub ready : World → World
ready w = words_done (words_coming w) w

-- a step of the process that is chosen
abbrev pub chosen_step : Setting → World → World
chosen_step s w = let d = next_dispatch s w in acted s w d (process_at w.processes d.current)

-- one step of the machine, behind the words that come before it; a run that is over stays as it is
unfoldable pub step : Setting → World → World
step s w = if is_over w then w else chosen_step s (ready w)

-- the next step is a DosRead of at least one byte from handle 0, with good pointers
pub record IsReadNext (s : Setting) (w : World) : Type 0 where
  pub process : Process
  pub there : process_at w.processes (next_dispatch s w).current ≡ Some process
  pub reads : AsksInput (before s (ready w) (next_dispatch s w).current process)

-- after k steps
abbrev pub after : Setting → World → ℕ → World
after s w zero = w
after s w (suc k) = step s (after s w k)

-- how many steps are behind a world
abbrev pub steps_done : Setting → World → ℕ
steps_done s w = s.budget - w.dispatch.budget

-- the run is over after k steps, and not before
pub record IsLast (s : Setting) (w : World) (k : ℕ) : Type 0 where
  pub over : is_over (after s w k) ≡ true
  pub first : (j : ℕ) → j < k → is_over (after s w j) ≡ false

-- k is below the number of steps of the run
abbrev pub IsBelowLast : Setting → World → ℕ → Type 0
IsBelowLast s w k = (j : ℕ) → j ≤ k → is_over (after s w j) ≡ false

abbrev pub last_line : World → List ℕ
last_line w = if not (any_lives w.processes) then codes "all ended" ++ 10 ∷ [] else (if w.dispatch.budget == 0 then codes "budget spent" ++ 10 ∷ [] else [])

abbrev pub console : World → List ℕ
console w = w.console

abbrev pub report : World → List ℕ
report w = lines_text w.lines ++ last_line w

-- both texts of the whole run
pub record HasWholeTexts (s : Setting) (w : World) (console_old console_new report_old report_new : Option (List ℕ)) : Type 0 where
  pub last : ℕ
  pub is_last : IsLast s w last
  pub to_console : Gains console_old console_new (console (after s w last))
  pub to_report : Gains report_old report_new (report (after s w last))

-- of one step either the report has no byte of its lines, or the console has its whole piece
abbrev pub PieceFirst : World → World → (console_old console_new report_old report_new : Option (List ℕ)) → Type 0
PieceFirst w next c d r q = Gains r q (lines_text w.lines) ⊎ Gains c d (console next)

-- both texts are those of a front of the run
pub data HasPartTexts (s : Setting) (w : World) (console_old console_new report_old report_new : Option (List ℕ)) : Type 0 where
  -- in the opening and among the start lines
  InOpening : Gains console_old console_new [] → GainsSome report_old report_new (λ piece. IsPrefix piece (lines_text w.lines)) → HasPartTexts s w console_old console_new report_old report_new
  -- between two steps: one k serves both texts
  Between : (k : ℕ) → IsBelowLast s w k
      → GainsBetween console_old console_new (console (after s w k)) (console (after s w (suc k)))
      → GainsBetween report_old report_new (report (after s w k)) (report (after s w (suc k)))
      → PieceFirst (after s w k) (after s w (suc k)) console_old console_new report_old report_new
      → HasPartTexts s w console_old console_new report_old report_new
  -- at the last line
  AtLastLine : (k : ℕ) → IsLast s w k
      → Gains console_old console_new (console (after s w k))
      → GainsBetween report_old report_new (lines_text (after s w k).lines) (report (after s w k))
      → HasPartTexts s w console_old console_new report_old report_new
