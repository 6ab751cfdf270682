-- A call with its arguments in the order in which a program pushes them, and the world behind it.
use Rattle.std.specs.Prelude.{ℕ, List, ◌++◌, slice_index, ◌&&◌, not, if◌then◌else◌, Option, Some, None}
use Rattle.o2_world.specs.World.{Process, is_live}
use Rattle.o2_world.specs.CallParts.{Before, Effect, trapped}
use Rattle.o2_world.specs.Calls.{row_of}
use Rattle.o2_world.specs.Changes.{with_all}
use Rattle.o2_world.specs.Holders.{process_at}
use Rattle.o2_world.specs.Outcomes.{CallRow, worded}
use Rattle.o2_world.specs.Run.{all_changes}
use Rattle.o2_world.specs.Slots.{words_in}
use Rattle.o2_world.specs.Text.{lines_text}
use Rattle.o2_world_parts.specs.Layouts.{from_top}
use Rattle.o2_boundless.specs.Shown.{Shown, before_call}
use Rattle.o2_world_parts.specs.Effects.{worked_slowly}

abbrev pub words_by : Option CallRow → ℕ
words_by None = 0
words_by (Some r) = words_in r.slots

-- the row of a number with these words; one without a row is that of no call, and its gate names nothing
abbrev pub worded_by : Option CallRow → Before → (next : ℕ) → (ℕ → ℕ) → Effect
worded_by None b next a = trapped b 13
worded_by (Some r) b next a = worded r b next a

-- with these arguments
abbrev pub with_row : Option CallRow → Before → (next : ℕ) → List ℕ → Effect
with_row row b next args = worded_by row b next (slice_index (from_top (words_by row) args))

-- what a call of process n does, whose IP stays
abbrev pub effect_by : Shown → ℕ → Process → Option CallRow → List ℕ → Effect
effect_by v n p row args = with_row row (before_call v n p) p.cpu.ip args

-- the world behind an effect
abbrev pub behind_effect : Shown → ℕ → Process → Effect → Shown
behind_effect v n p e = record v { world = with_all (worked_slowly v.world n p e) (all_changes n e); report = v.report ++ lines_text e.lines }

-- the error number, and 0 where the process ended or waits
abbrev pub answer_of : Effect → ℕ
answer_of e = if is_live e.state && not e.waits then e.cpu.ax else 0

abbrev pub behind_by : Shown → ℕ → List ℕ → Option CallRow → Option Process → Shown
behind_by v n args row (Some p) = behind_effect v n p (effect_by v n p row args)
behind_by v n args row None = v

abbrev pub answer_by : Shown → ℕ → List ℕ → Option CallRow → Option Process → ℕ
answer_by v n args row (Some p) = answer_of (effect_by v n p row args)
answer_by v n args row None = 0

-- the world behind a call, and what it answers
abbrev pub behind_call : Shown → (number service : ℕ) → List ℕ → Shown
behind_call v n service args = behind_by v n args (row_of service) (process_at v.world.processes n)

abbrev pub answer : Shown → (number service : ℕ) → List ℕ → ℕ
answer v n service args = answer_by v n args (row_of service) (process_at v.world.processes n)
