-- Rows of the calls that make, free and give segments, as the definitions compute them from the opening of `hello`.
use Rattle.std.specs.Prelude.{ℕ, false, List, [], ◌∷◌, drop, length, reverse, get_or, Option, Some, None}
use Rattle.o2_conf.specs.Dispatch.{Dispatch}
use Rattle.o2_desc.specs.Bits.{writable_data}
use Rattle.o2_isa.specs.declared.cpu.Cpu.{Cpu}
use Rattle.o2_world.specs.World.{World, Setting, Process, Held, ByCall}
use Rattle.o2_world.specs.Holders.{process_at}
use Rattle.o2_world.specs.Known.{Marks}
use Rattle.o2_world.specs.Calls.{Before, Effect, row_of, trapped}
use Rattle.o2_world.specs.Changes.{Change, Holds, Drops}
use Rattle.o2_world.specs.Outcomes.{CallRow, worded}
use Rattle.o2_world.specs.Run.{changed, before, next_dispatch}
use Rattle.o2_world.specs.Views.{bytes_in}
use Rattle.o2_world.specs.Text.{lines_text}
use Rattle.o2_world.specs.Starts.{opening_of}
use Rattle.o2_world.specs.Hello.{hello_setting, hello_world, hello_process, opened}

abbrev pub called_at : Setting → World → Dispatch → (Before → Effect) → Option Process → World
called_at s w d row None = w
called_at s w d row (Some p) = changed w d p (row (before s w d.current p))

-- the world after a call of the process whose step is next
abbrev pub called_by : Setting → World → (Before → Effect) → World
called_by s w row = let d = next_dispatch s w in called_at s w d row (process_at w.processes d.current)

abbrev pub after_calls : World → List (Before → Effect) → World
after_calls w [] = w
after_calls w (row ∷ rows) = after_calls (called_by (hello_setting 1000000) w row) rows

abbrev pub one_process : World
one_process = hello_world 1000000

abbrev pub two_processes : World
two_processes = opened (opening_of (hello_setting 1000000) [] [] [] (hello_process ∷ hello_process ∷ []))

-- the lines behind those of the starts
abbrev pub told_after : ℕ → World → List (Before → Effect) → List ℕ
told_after starts w rows = lines_text (drop starts (after_calls w rows).lines)

-- A call of a service with these words, from the first to the last.

-- the words from the top of the stack
abbrev pub on_stack : List ℕ → ℕ → ℕ
on_stack words i = get_or (reverse words) i 0

abbrev pub worded_by : Option CallRow → List ℕ → Before → Effect
worded_by None words b = trapped b 13
worded_by (Some row) words b = worded row b 0 (on_stack words)

unfoldable pub calls : (service : ℕ) → List ℕ → Before → Effect
calls service words b = worded_by (row_of service) words b

-- the calls by their arguments, with pointers into the data of `hello`
abbrev pub allocs : (size flags : ℕ) → Before → Effect
allocs size flags = calls 5 (size ∷ 0x17 ∷ 0 ∷ flags ∷ [])

abbrev pub reallocs : (size selector : ℕ) → Before → Effect
reallocs size selector = calls 6 (size ∷ selector ∷ [])

abbrev pub frees : (selector : ℕ) → Before → Effect
frees selector = calls 7 (selector ∷ [])

abbrev pub sizes : (selector : ℕ) → Before → Effect
sizes selector = calls 8 (selector ∷ 0x17 ∷ 4 ∷ [])

abbrev pub locks : (selector : ℕ) → Before → Effect
locks selector = calls 9 (selector ∷ [])

abbrev pub unlocks : (selector : ℕ) → Before → Effect
unlocks selector = calls 10 (selector ∷ [])

abbrev pub aliases : (selector : ℕ) → Before → Effect
aliases selector = calls 11 (selector ∷ 0x17 ∷ 0 ∷ [])

abbrev pub told_by_one : List (Before → Effect) → List ℕ
told_by_one rows = told_after 4 one_process rows

-- the bytes of its data, the segment of name 1
abbrev pub data_after : List (Before → Effect) → List ℕ
data_after rows = bytes_in (after_calls one_process rows).names 1

-- how many names live
abbrev pub names_with : List (Before → Effect) → ℕ
names_with rows = length (after_calls one_process rows).names

-- the lines of two calls where so many segments may live
abbrev pub called_among : ℕ → World → (Before → Effect) → World
called_among most w row = called_by (record (hello_setting 1000000) { segments = most }) w row

abbrev pub allocs_of : ℕ → List ℕ
allocs_of most = lines_text (drop 4 (called_among most (called_among most one_process (allocs 16 0)) (allocs 16 0)).lines)

-- the lines of holds that came and went in another order than theirs
abbrev pub some_held : ℕ → Held
some_held holds = record { name = 1; rights = writable_data; holds = holds; cause = ByCall; first = 0; reserved = 0 }

abbrev pub some_moves : List Change
some_moves = Drops 2 4 1 ∷ Holds 2 5 (some_held 1) ∷ Holds 1 7 (some_held 2) ∷ Drops 1 9 1 ∷ Holds 1 4 (some_held 1) ∷ []

-- the registers after the first process freed 0027 with this in DS and ES
abbrev pub cpu_of : ℕ → Option Process → Option Cpu
cpu_of s None = None
cpu_of s (Some p) = Some (frees 0x27 (before (hello_setting 1000000) (after_calls one_process (allocs 0 0 ∷ [])) 1 (record p { cpu = record p.cpu { ds = s; es = s } }))).cpu

abbrev pub cpu_after : ℕ → Option Cpu
cpu_after s = cpu_of s (process_at (after_calls one_process (allocs 0 0 ∷ [])).processes 1)

abbrev pub es_of : Option Cpu → ℕ
es_of None = 65536
es_of (Some c) = c.es

abbrev pub ds_of : Option Cpu → ℕ
ds_of None = 65536
ds_of (Some c) = c.ds

abbrev pub es_after : ℕ → ℕ
es_after s = es_of (cpu_after s)

abbrev pub ds_after : ℕ → ℕ
ds_after s = ds_of (cpu_after s)

-- a discardable segment with this lock count
abbrev pub locked_marks : ℕ → Option Marks
locked_marks lock = Some (record { size = 16; clean = false; code = false; flags = 4; lock = lock; shared = false; discarded = false })
