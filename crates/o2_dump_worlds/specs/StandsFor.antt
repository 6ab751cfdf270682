-- When a core image stands for a world: segment by segment, process by process and index by index. Where segments lie is the image's
-- own. Names of shared segments, what the script has left, and the input aren't in an image.
use Rattle.std.specs.Prelude.{◌≡◌, ℕ, ◌+◌, ◌/◌, ◌%◌, ◌<◌, ◌≤◌, ◌==◌, Bool, true, false, List, [], ◌∷◌, length, min, nat_lt, Option, Some, None, is_some, slice_get, slice_index_or, if◌then◌else◌}
use Rattle.o2_desc.specs.Bits.{with_present, unmarked}
use Rattle.o2_desc.specs.declared.descriptor.Descriptor.{Descriptor}
use Rattle.o2_dump.specs.declared.parts.Block.{Block}
use Rattle.o2_dump.specs.declared.parts.Held.{Held as HeldThere}
use Rattle.o2_dump.specs.declared.parts.Place.{Place}
use Rattle.o2_dump.specs.declared.parts.Place.TheVariants.{Zeros, Image, Memory, Swap}
use Rattle.o2_dump.specs.declared.parts.Process.{Process as ProcessThere}
use Rattle.o2_dump.specs.declared.parts.SegmentEntry.{SegmentEntry}
use Rattle.o2_dump.specs.declared.parts.State.{State as StateThere}
use Rattle.o2_dump.specs.declared.parts.State.TheVariants as there
use Rattle.o2_dump.specs.declared.reader.Core.{Core}
use Rattle.o2_store.specs.Shelf.{Pictures}
use Rattle.o2_world.specs.declared.types.State.{State}
use Rattle.o2_world.specs.declared.types.State.TheVariants.{Live, Exited, Trapped}
use Rattle.o2_world.specs.Map.{get}
use Rattle.o2_world.specs.World.{Held, Process, Segment, Setting, World}

-- ---- segments

abbrev pub no_block : Block
no_block = record { number = 0; bytes = [] }

-- a kept byte of a segment: of the memory, of its blocks in order, or of an image, which isn't in the core image
abbrev pub source_byte : Pictures → List ℕ → Place → ℕ → ℕ
source_byte pic memory Zeros j = 0
source_byte pic memory (Image m k) j = pic m k j
source_byte pic memory (Memory base) j = slice_index_or memory (base + j) 0
source_byte pic memory (Swap bs) j = slice_index_or (slice_index_or bs (j / 512) no_block).bytes (j % 512) 0

-- a byte of a segment: those that aren't kept are zeros
abbrev pub byte_of : Pictures → List ℕ → SegmentEntry → ℕ → ℕ
byte_of pic memory e j = if nat_lt j e.kept then source_byte pic memory e.place j else 0

-- where a segment is in memory
abbrev pub base_of : Place → Option ℕ
base_of Zeros = None
base_of (Image m k) = None
base_of (Memory base) = Some base
base_of (Swap bs) = None

abbrev pub has_blocks : Place → Bool
has_blocks Zeros = false
has_blocks (Image m k) = false
has_blocks (Memory base) = false
has_blocks (Swap bs) = true

-- its kept bytes are those of an image, and so not in the core image
abbrev pub stays : Place → Bool
stays Zeros = false
stays (Image m k) = true
stays (Memory base) = false
stays (Swap bs) = false

-- an entry is a segment of the world: its size, its bytes and its marks. One that is locked is in memory, and a clean one has no blocks
pub record IsSegment (pic : Pictures) (memory : List ℕ) (e : SegmentEntry) (s : Segment) : Type 0 where
  pub size : length s.bytes ≡ e.size
  pub kept : e.kept ≤ e.size
  pub bytes : (j : ℕ) → j < e.size → slice_index_or s.bytes j 0 ≡ byte_of pic memory e j
  pub flags : s.flags ≡ e.flags
  pub lock : s.lock ≡ e.lock
  pub clean : s.clean ≡ e.clean
  pub gone : s.discarded ≡ e.gone
  pub locked : 0 < e.lock → is_some (base_of e.place) ≡ true
  pub pure : e.clean ≡ true → has_blocks e.place ≡ false

-- an entry is the segment of a name
abbrev pub IsNamed : Pictures → List ℕ → SegmentEntry → Option Segment → Type 0
IsNamed pic memory e None = ⊥
IsNamed pic memory e (Some s) = IsSegment pic memory e s

-- Each entry is the segment of the name that its number has, no two have one name, and each name has an entry.
pub record AreSegments (pic : Pictures) (c : Core) (w : World) (name : ℕ → ℕ) : Type 0 where
  pub each : (k : ℕ) (e : SegmentEntry) → slice_get c.segments k ≡ Some e → IsNamed pic c.memory e (get w.names (name k))
  pub once : (k l : ℕ) → k < length c.segments → l < length c.segments → name k ≡ name l → k ≡ l
  pub all : (n : ℕ) → is_some (get w.names n) ≡ true → (k : ℕ) × (k < length c.segments) × (name k ≡ n)

-- ---- processes

abbrev pub start_of : Option ℕ → ℕ
start_of None = 0
start_of (Some base) = base

-- a descriptor is that of a segment with these rights: present exactly where it is in memory, with any accessed bit; the base is
-- its own there and 0 elsewhere, and the limit its size less 1
pub record Describes (e : SegmentEntry) (rights : ℕ) (d : Descriptor) : Type 0 where
  pub base : d.base ≡ start_of (base_of e.place)
  pub limit : d.limit + 1 ≡ e.size
  pub access : unmarked d.access ≡ with_present rights (is_some (base_of e.place))

-- what is held is a segment of the image, by its number, with as many holds as in the world and the rights that it has there
pub record IsHold (c : Core) (name : ℕ → ℕ) (h : HeldThere) (k : Held) : Type 0 where
  pub entry : SegmentEntry
  pub found : slice_get c.segments h.segment ≡ Some entry
  pub named : name h.segment ≡ k.name
  pub holds : h.holds ≡ k.holds
  pub descriptor : Describes entry k.rights h.descriptor

-- at one index: both hold it, or neither
abbrev pub IsHeldAs : Core → (ℕ → ℕ) → Option HeldThere → Option Held → Type 0
IsHeldAs c name None None = Unit {0}
IsHeldAs c name None (Some k) = ⊥
IsHeldAs c name (Some h) None = ⊥
IsHeldAs c name (Some h) (Some k) = IsHold c name h k

-- what is listed for an index
abbrev pub held_under : List HeldThere → ℕ → Option HeldThere
held_under [] i = None
held_under (h ∷ hs) i = if h.index == i then Some h else held_under hs i

abbrev pub state_shown : State → StateThere
state_shown Live = there.Live
state_shown (Exited code) = there.Exited
state_shown (Trapped vector) = there.Trapped

-- the exit code or the exception, and 0 where it lives
abbrev pub code_shown : State → ℕ
code_shown Live = 0
code_shown (Exited code) = code
code_shown (Trapped vector) = vector

-- a process of the image is one of the world, by its number: state, code and registers, and what it holds
pub record IsProcess (c : Core) (name : ℕ → ℕ) (n : ℕ) (p : ProcessThere) (q : Process) : Type 0 where
  pub number : p.number ≡ n
  pub state : p.state ≡ state_shown q.state
  pub code : p.code ≡ code_shown q.state
  pub registers : p.registers ≡ q.cpu
  pub held : (i : ℕ) → IsHeldAs c name (held_under p.held i) (get q.held i)

-- by place, from number 1 on
abbrev pub AreProcesses : Core → (ℕ → ℕ) → ℕ → List ProcessThere → List Process → Type 0
AreProcesses c name n [] [] = Unit {0}
AreProcesses c name n [] (q ∷ qs) = ⊥
AreProcesses c name n (p ∷ ps) [] = ⊥
AreProcesses c name n (p ∷ ps) (q ∷ qs) = IsProcess c name n p q × AreProcesses c name (n + 1) ps qs

-- ---- the image

-- The image stands for the world: memory and blocks are those of the setting, where the device has so many blocks; steps and console
-- bytes are as many as the world has; and it shows the world's segments and processes.
pub record ImageStandsFor (pic : Pictures) (s : Setting) (device done : ℕ) (c : Core) (w : World) : Type 0 where
  pub memory : length c.memory ≡ s.memory
  pub blocks : c.blocks ≡ min s.swap device
  pub steps : c.steps ≡ done
  pub console : c.console ≡ length w.console
  -- the name that each segment's number has
  pub name : ℕ → ℕ
  pub segments : AreSegments pic c w name
  pub processes : AreProcesses c name 1 c.processes w.processes
