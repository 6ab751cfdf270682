-- Rows of the calls on RAM semaphores, as the definitions compute them for two processes that share a segment of 16 zeros, 8007.
use Rattle.std.specs.Prelude.{ℕ, ◌/◌, ◌%◌, Bool, List, [], ◌∷◌, drop, take, Option, Some, None}
use Rattle.o2_isa.specs.declared.cpu.Cpu.{Cpu}
use Rattle.o2_world.specs.World.{World, Process}
use Rattle.o2_world.specs.Holders.{process_at}
use Rattle.o2_world.specs.CallParts.{Before, Effect}
use Rattle.o2_world.specs.Effect.{single_stepped}
use Rattle.o2_world.specs.Run.{before}
use Rattle.o2_world.specs.Views.{bytes_in}
use Rattle.o2_world.specs.Text.{lines_text}
use Rattle.o2_world.specs.Hello.{hello_setting}
use Rattle.o2_world.specs.SegmentsWorked.{allocs, calls}
use Rattle.o2_world.specs.SharedWorked.{calls_of, gets, two_sharers}

-- the calls by their arguments
abbrev pub requests : (selector offset timeout : ℕ) → Before → Effect
requests selector offset timeout = calls 25 (selector ∷ offset ∷ timeout / 65536 ∷ timeout % 65536 ∷ [])

abbrev pub clears : (selector offset : ℕ) → Before → Effect
clears selector offset = calls 26 (selector ∷ offset ∷ [])

abbrev pub waits_for : (selector offset timeout : ℕ) → Before → Effect
waits_for selector offset timeout = calls 27 (selector ∷ offset ∷ timeout / 65536 ∷ timeout % 65536 ∷ [])

abbrev pub sets : (selector offset : ℕ) → Before → Effect
sets selector offset = calls 28 (selector ∷ offset ∷ [])

abbrev pub forever : ℕ
forever = 0xFFFF_FFFF

abbrev pub with_shared : World
with_shared = calls_of two_sharers ((1, allocs 16 2) ∷ (2, gets 0x8007) ∷ [])

-- the lines behind those of the starts and of the segment
abbrev pub told_of_semaphores : List (ℕ × (Before → Effect)) → List ℕ
told_of_semaphores cs = lines_text (drop 12 (calls_of with_shared cs).lines)

-- the first bytes of the segment
abbrev pub semaphores_behind : (count : ℕ) → List (ℕ × (Before → Effect)) → List ℕ
semaphores_behind count cs = take count (bytes_in (calls_of with_shared cs).names 5)

-- whether a call behind others waits, and its lines
pub record Tried : Type 0 where
  pub waits : Bool
  pub lines : List ℕ

abbrev pub tried_by : World → ℕ → (Before → Effect) → Option Process → Option Tried
tried_by w n row None = None
tried_by w n row (Some p) =
    let e = row (before (hello_setting 1000000) w n p) in
    Some (record { waits = e.waits; lines = lines_text e.lines })

abbrev pub tried : List (ℕ × (Before → Effect)) → ℕ → (Before → Effect) → Option Tried
tried cs n row = let w = calls_of with_shared cs in tried_by w n row (process_at w.processes n)

-- the registers of a process behind calls
abbrev pub cpu_in : Option Process → Option Cpu
cpu_in None = None
cpu_in (Some p) = Some p.cpu

abbrev pub registers_behind : List (ℕ × (Before → Effect)) → ℕ → Option Cpu
registers_behind cs n = cpu_in (process_at (calls_of with_shared cs).processes n)

-- a call with the trap flag set
abbrev pub with_trap_flag : Before → Before
with_trap_flag b = record b { cpu = record b.cpu { flags = 0x102 } }

abbrev pub stepping : (Before → Effect) → Before → Effect
stepping row b = single_stepped (with_trap_flag b) (row (with_trap_flag b))
