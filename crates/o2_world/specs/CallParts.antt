-- What a call starts from and what it does, its arguments on the stack, and its pointers.
use Rattle.std.specs.Prelude.{ℕ, zero, suc, ◌+◌, ◌*◌, ◌/◌, ◌%◌, Bool, true, false, List, [], ◌∷◌, ◌++◌, ◌&&◌, Result, is_ok}
use Rattle.std.specs.Result.{result_unwrap_or}
use Rattle.o2_isa.specs.declared.cpu.Cpu.{Cpu}
use Rattle.o2_isa.specs.declared.instr.Sreg.TheVariants.{Ss}
use Rattle.o2_isa.specs.declared.instr.Width.TheVariants.{Word as WordWide}
use Rattle.o2_isa.specs.View.{View, read_of}
pub use Rattle.o2_isa.specs.Pointers.{may_read, may_write}
unfoldable pub use Rattle.o2_isa.specs.Pointers.{is_good, range_of, put_at_pointer}
use Rattle.o2_world.specs.declared.types.State.{State}
use Rattle.o2_world.specs.declared.types.State.TheVariants.{Live, Trapped}
use Rattle.o2_world.specs.World.{Line, Traps}
use Rattle.o2_world.specs.Changes.{Change}
use Rattle.o2_world.specs.Known.{Known}

-- what a step does: the registers and the state after it, the bytes after it of the names that lived before, what it changes
-- beside them, in order, the input left, the piece for the console, the lines, and whether it is a call that waits: that leaves all
-- as it is, and the process's next step is the same call
pub record Effect : Type 0 where
  pub cpu : Cpu
  pub state : State
  pub bytes : ℕ → List ℕ
  pub changes : List Change
  pub input : List ℕ
  pub piece : List ℕ
  pub lines : List Line
  pub waits : Bool

-- what a step starts from: the number of its process, its registers, what it sees, what else is known, and the input left
pub record Before : Type 0 where
  pub number : ℕ
  pub cpu : Cpu
  pub view : View
  pub known : Known
  pub input : List ℕ

-- a trap: nothing changes but that the process ends
abbrev pub trapped : Before → ℕ → Effect
trapped b vector = record {
  cpu = b.cpu;
  state = Trapped vector;
  bytes = b.view.bytes;
  changes = [];
  input = b.input;
  piece = [];
  lines = Traps b.number vector b.cpu.cs b.cpu.ip ∷ [];
  waits = false;
}

-- a call that waits: nothing changes, and the registers stay at its CALL
abbrev pub waiting : Before → Effect
waiting b = record {
  cpu = b.cpu;
  state = Live;
  bytes = b.view.bytes;
  changes = [];
  input = b.input;
  piece = [];
  lines = [];
  waits = true;
}

-- the error code of each exception by which a call ends its process
abbrev pub trap_code : ℕ
trap_code = 0

-- Arguments. They are pushed from left to right as words, each of which must lie in SS.

-- the i-th word from the top of the stack
abbrev pub word_of : View → Cpu → ℕ → Result ℕ (ℕ × ℕ)
word_of v c i = read_of v Ss ((c.sp + 2 * i) % 65536) WordWide

unfoldable pub argument : View → Cpu → ℕ → ℕ
argument v c i = result_unwrap_or (word_of v c i) 0

-- the first n words from the top of the stack lie in SS
abbrev pub has_arguments : View → Cpu → ℕ → Bool
has_arguments v c zero = true
has_arguments v c (suc n) = has_arguments v c n && is_ok (word_of v c n)

abbrev pub word_bytes : ℕ → List ℕ
word_bytes n = n % 256 ∷ n / 256 ∷ []

-- four bytes, the low word first
abbrev pub long_bytes : ℕ → List ℕ
long_bytes n = word_bytes (n % 65536) ++ word_bytes (n / 65536)

-- the registers as a call comes back: AX has the error number, and the arguments are gone
abbrev pub returned : Cpu → ℕ → ℕ → ℕ → Cpu
returned c next words error = record c { ax = error; sp = (c.sp + 2 * words) % 65536; ip = next }
