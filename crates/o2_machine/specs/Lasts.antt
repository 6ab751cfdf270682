-- The answer that is final, and what it says.
use Rattle.std.specs.Prelude.{ℕ, Bool, true, false, Option, Some, None}
use Rattle.o2_run.specs.declared.steps.Turn.{Turn}
use Rattle.o2_run.specs.declared.steps.Turn.TheVariants as turn
use Rattle.o2_machine.specs.declared.last.Last.{Last}
use Rattle.o2_run.specs.Faults.{turn_of as stop_turn}
use Rattle.o2_machine.specs.declared.last.Last.TheVariants.{AllEnded, BudgetSpent, SinkFault, Stopped}
use Rattle.o2_sched.specs.declared.sched.Pick.{Pick}
use Rattle.o2_sched.specs.declared.sched.Pick.TheVariants as pick

abbrev pub turn_of : Last → Turn
turn_of AllEnded = turn.AllEnded
turn_of BudgetSpent = turn.BudgetSpent
turn_of SinkFault = turn.SinkFault
turn_of (Stopped why put) = stop_turn why

-- a word of the script comes next
abbrev pub is_word : Pick → Bool
is_word pick.Discard = true
is_word (pick.Step n) = false
is_word pick.AllEnded = false
is_word pick.BudgetSpent = false

-- the answer of a turn: a step where the machine goes on
abbrev pub answer_of : Option Last → Turn
answer_of None = turn.Ran
answer_of (Some last) = turn_of last

-- the answer that stays, and none where the machine goes on
abbrev pub stopped_of : Option Last → Option Turn
stopped_of None = None
stopped_of (Some last) = Some (turn_of last)

-- whether a stop line was put whole
abbrev pub put_of : Option Last → Bool
put_of (Some (Stopped why put)) = put
put_of _ = false

-- the last line of a run that came to its end, which isn't among the lines of its world
abbrev pub last_lines : Option Last → ℕ
last_lines (Some AllEnded) = 1
last_lines (Some BudgetSpent) = 1
last_lines _ = 0

-- segments are kept in the memory of the setting, and swapped
abbrev pub machine_swaps : Bool
machine_swaps = true
