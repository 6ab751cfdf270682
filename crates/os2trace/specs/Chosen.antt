-- Which steps of a run are shown.
use Rattle.std.specs.Prelude.{ℕ, Bool, ◌==◌, ◌&&◌, ◌||◌, nat_le, Option, Some, None}
use Rattle.o2_machine.specs.declared.last.Last.{Last}
use Rattle.o2_sched.specs.declared.sched.Pick.{Pick}
use Rattle.o2_sched.specs.declared.sched.Pick.TheVariants as pick
use Rattle.os2trace.specs.declared.command.Choice.{Choice}

-- the number that is asked for, where 0 asks for any
abbrev pub is_any_or : ℕ → ℕ → Bool
is_any_or asked number = asked == 0 || asked == number

-- from the first step on, those of the process that is asked for, with the selector in CS that is asked for
abbrev pub is_chosen : Choice → ℕ → ℕ → ℕ → Bool
is_chosen choice number process cs = nat_le choice.from number
    && is_any_or choice.process process && is_any_or choice.selector cs

-- the process whose step is next: none where the run has ended or stopped, where a turn would end it, and where a word is next
abbrev pub next_of : Option Last → Pick → Option ℕ
next_of None (pick.Step process) = Some process
next_of None pick.Discard = None
next_of None pick.AllEnded = None
next_of None pick.BudgetSpent = None
next_of (Some last) p = None
