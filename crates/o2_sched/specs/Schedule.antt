-- The schedule of a run.
use Rattle.std.specs.Prelude.{◌≡◌, ℕ, ◌-◌, ◌&&◌, Bool, true, false, not, List, length, if◌then◌else◌, ◌==◌, min, ◌+◌}
use Rattle.std.specs.List.{list_any}
use Rattle.o2_conf.specs.declared.script.Word.{Word}
use Rattle.o2_conf.specs.Dispatch.{Dispatch, lives, dispatched, is_word_next, word_taken}
use Rattle.o2_sched.specs.declared.sched.Pick.{Pick}
use Rattle.o2_sched.specs.declared.sched.Pick.TheVariants.{Step, Discard, AllEnded, BudgetSpent}

-- whose turn it is, which processes live by place, and the steps of a turn
pub record Schedule : Type 0 where
  pub dispatch : Dispatch
  pub flags : List Bool
  pub quantum : ℕ

-- the dispatch of the next step
abbrev pub next_of : Schedule → Dispatch
next_of s = dispatched s.quantum s.flags s.dispatch

-- a word `discard` comes before the next step
abbrev pub has_word : Schedule → Bool
has_word s = is_word_next s.flags s.dispatch

-- what comes before the end, or the next step
abbrev pub word_or_step : Schedule → Pick
word_or_step s = if has_word s then Discard else Step (next_of s).current

-- what comes next
abbrev pub pick_of : Schedule → Pick
pick_of s = if not (list_any (λ b. b) s.flags) then AllEnded else (if s.dispatch.budget == 0 then BudgetSpent else word_or_step s)

-- behind it: a word is taken, and all else stays
abbrev pub behind_pick : Schedule → Pick → Schedule
behind_pick s Discard = record s { dispatch = word_taken s.flags s.dispatch }
behind_pick s (Step n) = s
behind_pick s AllEnded = s
behind_pick s BudgetSpent = s

-- the steps and the words of the script that are left at most
abbrev pub work_left : Schedule → ℕ
work_left s = s.dispatch.budget + length s.dispatch.script

abbrev pub is_step : Pick → Bool
is_step (Step n) = true
is_step Discard = false
is_step AllEnded = false
is_step BudgetSpent = false

-- the process that is chosen lives
abbrev pub PicksLive : List Bool → Pick → Type 0
PicksLive flags (Step n) = lives flags n ≡ true
PicksLive flags Discard = Unit {0}
PicksLive flags AllEnded = Unit {0}
PicksLive flags BudgetSpent = Unit {0}

-- how many steps of the turn that the next step is of may be taken at once: all that it has left, within the budget, where some process
-- lives and no word `discard` comes before them
abbrev pub ahead_of : Schedule → ℕ
ahead_of s = if list_any (λ b. b) s.flags && not (has_word s) then min (next_of s).left s.dispatch.budget else 0

-- so many are done
abbrev pub taken : ℕ → Dispatch → Dispatch
taken k d = record d { left = d.left - k; budget = d.budget - k }

-- before the first step all live
abbrev pub opening_dispatch : List Word → ℕ → Dispatch
opening_dispatch script budget = record { script = script; current = 0; left = 0; turn = 0; budget = budget }
