-- A core image as bytes. Each number has its lowest byte first.
use Rattle.std.specs.Prelude.{ℕ, Bool, true, false, List, [], ◌∷◌, ◌++◌, codes, flat_map, length}
use Rattle.std.specs.Int.{bytes_low_first}
use Rattle.o2_desc.specs.Bytes.{bytes_of as descriptor_bytes}
use Rattle.o2_isa.specs.declared.cpu.Cpu.{Cpu}
use Rattle.o2_dump.specs.declared.parts.Block.{Block}
use Rattle.o2_dump.specs.declared.parts.Held.{Held}
use Rattle.o2_dump.specs.declared.parts.Place.{Place}
use Rattle.o2_dump.specs.declared.parts.Place.TheVariants.{Zeros, Image, Memory, Swap}
use Rattle.o2_dump.specs.declared.parts.Process.{Process}
use Rattle.o2_dump.specs.declared.parts.SegmentEntry.{SegmentEntry}
use Rattle.o2_dump.specs.declared.parts.State.{State}
use Rattle.o2_dump.specs.declared.parts.State.TheVariants.{Live, Exited, Trapped}
use Rattle.o2_dump.specs.declared.reader.Core.{Core}

-- a number in two bytes, in four and in eight
abbrev pub word : ℕ → List ℕ
word n = bytes_low_first 0 2 n

abbrev pub long : ℕ → List ℕ
long n = bytes_low_first 0 4 n

abbrev pub quad : ℕ → List ℕ
quad n = bytes_low_first 0 8 n

abbrev pub bit : Bool → ℕ
bit true = 1
bit false = 0

abbrev pub place_number : Place → ℕ
place_number Zeros = 0
place_number (Image m k) = 1
place_number (Memory base) = 2
place_number (Swap bs) = 3

-- a block: its number, then what it holds
abbrev pub block_bytes : Block → List ℕ
block_bytes b = long b.number ++ b.bytes

abbrev pub place_bytes : Place → List ℕ
place_bytes Zeros = []
place_bytes (Image m k) = word m ++ word k
place_bytes (Memory base) = long base
place_bytes (Swap bs) = long (length bs) ++ flat_map block_bytes bs

-- a segment: size, kept bytes, flags, lock, whether it is clean, the number of its place, whether it was discarded, and its place
abbrev pub segment_bytes : SegmentEntry → List ℕ
segment_bytes e =
    long e.size ++ long e.kept
    ++ (e.flags ∷ e.lock ∷ bit e.clean ∷ place_number e.place ∷ bit e.gone ∷ [])
    ++ place_bytes e.place

-- what a process holds: index, descriptor, number of the segment, number of holds
abbrev pub held_bytes : Held → List ℕ
held_bytes h = word h.index ++ descriptor_bytes h.descriptor ++ long h.segment ++ long h.holds

abbrev pub register_bytes : Cpu → List ℕ
register_bytes r =
    word r.ax ++ word r.cx ++ word r.dx ++ word r.bx ++ word r.sp ++ word r.bp ++ word r.si ++ word r.di
    ++ word r.ip ++ word r.flags ++ word r.cs ++ word r.ds ++ word r.es ++ word r.ss

abbrev pub state_number : State → ℕ
state_number Live = 0
state_number Exited = 1
state_number Trapped = 2

-- a process: number, state, code, registers, how much it holds, and what
abbrev pub process_bytes : Process → List ℕ
process_bytes p =
    word p.number ++ word (state_number p.state) ++ word p.code ++ register_bytes p.registers
    ++ long (length p.held) ++ flat_map held_bytes p.held

-- 40 bytes: the mark, how many bytes the memory has and how many blocks the swap device, how many segments and processes
-- follow, steps and console bytes
abbrev pub head_bytes : Core → List ℕ
head_bytes c =
    codes "OS2CORE2" ++ long (length c.memory) ++ long c.blocks
    ++ long (length c.segments) ++ long (length c.processes) ++ quad c.steps ++ quad c.console

-- the whole image: its head, the segments, the memory, the processes, and the end mark
abbrev pub core_bytes : Core → List ℕ
core_bytes c =
    head_bytes c ++ flat_map segment_bytes c.segments ++ c.memory ++ flat_map process_bytes c.processes ++ codes "END!"
