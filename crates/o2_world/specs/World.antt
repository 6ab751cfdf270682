-- What the boundless machine consists of. Its segments have no place, and they are never moved or swapped.
use Rattle.std.specs.Prelude.{ℕ, Bool, true, false, List}
use Rattle.o2_isa.specs.declared.cpu.Cpu.{Cpu}
use Rattle.o2_world.specs.declared.types.Argument.{Argument}
use Rattle.o2_world.specs.declared.types.State.{State}
use Rattle.o2_world.specs.declared.types.State.TheVariants.{Live, Exited, Trapped}
use Rattle.o2_world.specs.Map.{Map}
use Rattle.o2_conf.specs.Dispatch.{Dispatch}

-- a live segment; one is clean where it is code or read-only data of a module, whose bytes never change
pub record Segment : Type 0 where
  pub bytes : List ℕ
  pub clean : Bool
  pub code : Bool
  -- of the call that made it, and how often it is locked
  pub flags : ℕ
  pub lock : ℕ
  pub shared : Bool
  pub discarded : Bool

-- how a process came to a selector
pub data Cause : Type 0 where
  ByLoad : Cause
  ByCall : Cause
  ByAlias : Cause

-- what a process holds under a selector: a segment by its name, the access byte without the accessed bit, and how often;
-- first and reserved are the first index and the number of indexes of a huge allocation, both 0 outside one
pub record Held : Type 0 where
  pub name : ℕ
  pub rights : ℕ
  pub holds : ℕ
  pub cause : Cause
  pub first : ℕ
  pub reserved : ℕ

-- indexes that are reserved, held or not: so many from the first on, of a process's region or, with 0, of the shared one.
-- A library's stay; those of a huge allocation go with the last hold of its run
pub record Reserve : Type 0 where
  pub region : ℕ
  pub first : ℕ
  pub count : ℕ
  pub stays : Bool

-- a process: its registers, how far it is, and what it holds by index in its local descriptor table; the place of its module
-- in the machine file, the number of the process that started it (0 for one of the machine file), and the selector of its
-- environment
pub record Process : Type 0 where
  pub cpu : Cpu
  pub state : State
  pub held : Map Held
  pub place : ℕ
  pub parent : ℕ
  pub environment : ℕ

abbrev pub is_live : State → Bool
is_live Live = true
is_live (Exited code) = false
is_live (Trapped vector) = false

-- a line of the report
pub data Line : Type 0 where
  Starts : (process : ℕ) → (name : List ℕ) → Line
  HoldsBy : (process selector : ℕ) → (cause : List ℕ) → Line
  DropsBy : (process selector : ℕ) → (cause : List ℕ) → Line
  Calls : (process : ℕ) → (name : List ℕ) → (args : List Argument) → (error : ℕ) → (values : List Argument) → Line
  Exits : (process action code : ℕ) → Line
  Ends : (process code : ℕ) → Line
  Traps : (process vector selector offset : ℕ) → Line

-- process n is the one at place n - 1, and a name is never used twice
pub record World : Type 0 where
  pub names : Map Segment
  pub next_name : ℕ
  pub processes : List Process
  pub reserved : List Reserve
  -- the texts of the shared segments that live, each with its name
  pub texts : List (List ℕ × ℕ)
  pub input : List ℕ
  pub dispatch : Dispatch
  pub console : List ℕ
  pub lines : List Line

-- what the machine file fixes for the whole run: the steps of a turn, the bytes of physical memory, the blocks of 512 bytes of
-- the swap device that it may use, the most names that may live, the number that DosMemAvail gives, and the steps of the run
pub record Setting : Type 0 where
  pub quantum : ℕ
  pub memory : ℕ
  pub swap : ℕ
  pub segments : ℕ
  pub avail : ℕ
  pub budget : ℕ
