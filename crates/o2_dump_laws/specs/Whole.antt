-- Images whose fields fit their places in a file, and that keep the rules of the format.
use Rattle.std.specs.Prelude.{◌≡◌, ℕ, ◌+◌, ◌<◌, ◌≤◌, ◌^◌, List, [], ◌∷◌, ◌++◌, length, true}
use Rattle.o2_isa.specs.declared.cpu.Cpu.{Cpu}
use Rattle.o2_dump.specs.declared.parts.Block.{Block}
use Rattle.o2_dump.specs.declared.parts.Held.{Held}
use Rattle.o2_dump.specs.declared.parts.Place.{Place}
use Rattle.o2_dump.specs.declared.parts.Place.TheVariants.{Zeros, Image, Memory, Swap}
use Rattle.o2_dump.specs.declared.parts.Process.{Process}
use Rattle.o2_dump.specs.declared.parts.SegmentEntry.{SegmentEntry}
use Rattle.o2_dump.specs.declared.reader.Core.{Core}
use Rattle.o2_dump.specs.CoreBytes.{bit, place_number}
use Rattle.o2_dump.specs.SegmentEntries.{blocks_for, is_block, is_gone_right, is_place, is_range}

-- what a process holds at an index, not below a least one, of a machine with so many segments
pub record IsHeldWhole (segments least : ℕ) (h : Held) : Type 0 where
  pub rises : least ≤ h.index
  pub index : h.index < 2 ^ 16
  pub limit : h.descriptor.limit < 2 ^ 16
  pub base : h.descriptor.base < 2 ^ 24
  pub segment : h.segment < segments
  pub some : 0 < h.holds
  pub holds : h.holds < 2 ^ 32

abbrev pub AreHeldWhole : (segments least : ℕ) → List Held → Type 0
AreHeldWhole segments least [] = Unit {0}
AreHeldWhole segments least (h ∷ hs) = IsHeldWhole segments least h × AreHeldWhole segments (h.index + 1) hs

-- each register is a word
pub record AreWords (r : Cpu) : Type 0 where
  pub ax : r.ax < 2 ^ 16
  pub cx : r.cx < 2 ^ 16
  pub dx : r.dx < 2 ^ 16
  pub bx : r.bx < 2 ^ 16
  pub sp : r.sp < 2 ^ 16
  pub bp : r.bp < 2 ^ 16
  pub si : r.si < 2 ^ 16
  pub di : r.di < 2 ^ 16
  pub ip : r.ip < 2 ^ 16
  pub flags : r.flags < 2 ^ 16
  pub cs : r.cs < 2 ^ 16
  pub ds : r.ds < 2 ^ 16
  pub es : r.es < 2 ^ 16
  pub ss : r.ss < 2 ^ 16

-- a process with a number not below a least one
pub record IsProcessWhole (segments least : ℕ) (p : Process) : Type 0 where
  pub rises : least ≤ p.number
  pub number : p.number < 2 ^ 16
  pub code : p.code < 2 ^ 16
  pub registers : AreWords p.registers
  pub count : length p.held < 2 ^ 32
  pub held : AreHeldWhole segments 0 p.held

abbrev pub AreProcessesWhole : (segments least : ℕ) → List Process → Type 0
AreProcessesWhole segments least [] = Unit {0}
AreProcessesWhole segments least (p ∷ ps) = IsProcessWhole segments least p × AreProcessesWhole segments (p.number + 1) ps

-- a block on a device of so many, which holds nothing of the segments found, and isn't one of the same segment's own before it
pub record IsBlockWhole (blocks : ℕ) (found : List SegmentEntry) (own : List Block) (b : Block) : Type 0 where
  pub number : b.number < 2 ^ 32
  pub free : is_block blocks found own b.number ≡ true
  pub size : length b.bytes ≡ 512

abbrev pub AreBlocksWhole : (blocks : ℕ) → (found : List SegmentEntry) → (own : List Block) → List Block → Type 0
AreBlocksWhole blocks found own [] = Unit {0}
AreBlocksWhole blocks found own (b ∷ bs) = IsBlockWhole blocks found own b × AreBlocksWhole blocks found (own ++ b ∷ []) bs

-- the place of a segment of this size, of which so many bytes are kept
abbrev pub IsPlaceWhole : (memory blocks : ℕ) → (found : List SegmentEntry) → (size kept : ℕ) → Place → Type 0
IsPlaceWhole memory blocks found size kept Zeros = Unit {0}
IsPlaceWhole memory blocks found size kept (Image m k) = (m < 2 ^ 16) × (k < 2 ^ 16)
IsPlaceWhole memory blocks found size kept (Memory base) = (base < 2 ^ 32) × (is_range memory found base size ≡ true)
IsPlaceWhole memory blocks found size kept (Swap bs) = (length bs ≡ blocks_for kept) × AreBlocksWhole blocks found [] bs

-- a segment behind those found
pub record IsSegmentWhole (memory blocks : ℕ) (found : List SegmentEntry) (e : SegmentEntry) : Type 0 where
  pub some : 1 ≤ e.size
  pub most : e.size ≤ 65536
  pub kept : e.kept ≤ e.size
  pub fits : is_place (place_number e.place) e.kept e.size ≡ true
  pub gone : is_gone_right (bit e.gone) (place_number e.place) e.flags e.lock ≡ true
  pub place : IsPlaceWhole memory blocks found e.size e.kept e.place

abbrev pub AreSegmentsWhole : (memory blocks : ℕ) → (found : List SegmentEntry) → List SegmentEntry → Type 0
AreSegmentsWhole memory blocks found [] = Unit {0}
AreSegmentsWhole memory blocks found (e ∷ es) = IsSegmentWhole memory blocks found e × AreSegmentsWhole memory blocks (found ++ e ∷ []) es

-- the whole image
pub record IsWhole (c : Core) : Type 0 where
  pub memory : length c.memory < 2 ^ 32
  pub blocks : c.blocks < 2 ^ 32
  pub segments : length c.segments < 2 ^ 32
  pub processes : length c.processes < 2 ^ 32
  pub steps : c.steps < 2 ^ 64
  pub console : c.console < 2 ^ 64
  pub each_segment : AreSegmentsWhole (length c.memory) c.blocks [] c.segments
  pub each_process : AreProcessesWhole (length c.segments) 0 c.processes
