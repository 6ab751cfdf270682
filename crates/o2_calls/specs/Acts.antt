-- What a call on segments comes to in the world that a machine stands for.
use Rattle.std.specs.Prelude.{◌≡◌, ℕ, true, List}
use Rattle.o2_desc.specs.Bits.{has_bit}
use Rattle.o2_image.specs.ImageList.{ImageList}
use Rattle.o2_isa.specs.declared.cpu.Cpu.{Cpu}
use Rattle.o2_regions.specs.Maps.{Maps}
use Rattle.o2_store.specs.Shelf.{Shelf}
use Rattle.o2_regions.specs.declared.answer.Roomed.{Roomed}
use Rattle.o2_regions.specs.declared.answer.Roomed.TheVariants.{Done, NoRoom, SwapFull, SwapFault}
use Rattle.o2_world.specs.World.{Setting, World}
use Rattle.o2_world.specs.Known.{Known}
use Rattle.o2_world.specs.Rulings.{freeing_cpu}
use Rattle.o2_gate.specs.declared.requests.SegmentArguments.{SegmentArguments}
use Rattle.o2_gate.specs.declared.requests.SegmentArguments.TheVariants.{Alloc, Realloc, Free, Size, Lock, Unlock, Alias, Shared, Huge}
use Rattle.o2_stands.specs.Parts.{Parts}
pub use Rattle.o2_gate.specs.Requests.{ruling_of}
use Rattle.o2_calls.specs.HugeActs.{MaySize, huge_cpu}
use Rattle.o2_stands.specs.Stands.{AreLawful, IsSetTo, Stands}

-- the registers behind it, as far as the call itself changes them: what frees, or cuts a run, clears DS and ES
abbrev pub cpu_of : SegmentArguments → Known → (number : ℕ) → Cpu → Cpu
cpu_of (Alloc size flags) k n c = c
cpu_of (Realloc size selector) k n c = c
cpu_of (Free selector) k n c = freeing_cpu k n selector c
cpu_of (Size selector) k n c = c
cpu_of (Lock selector) k n c = c
cpu_of (Unlock selector) k n c = c
cpu_of (Alias selector) k n c = c
cpu_of (Shared a) k n c = c
cpu_of (Huge a) k n c = huge_cpu a k n c

-- a stop leaves them
abbrev pub cpu_behind : SegmentArguments → Known → (number : ℕ) → Cpu → Roomed → Cpu
cpu_behind a k n c (Done x) = cpu_of a k n c
cpu_behind a k n c NoRoom = c
cpu_behind a k n c SwapFull = c
cpu_behind a k n c SwapFault = c

-- how many segments a call makes at most: none where it stops, and no more than a region has indexes
abbrev pub most_made : Roomed → ℕ
most_made (Done x) = 4096
most_made NoRoom = 0
most_made SwapFull = 0
most_made SwapFault = 0

-- only a call that sizes or locks may stop
abbrev pub MayStop : SegmentArguments → Type 0
MayStop (Alloc size flags) = has_bit flags 2 ≡ true
MayStop (Realloc size selector) = Unit {0}
MayStop (Free selector) = ⊥
MayStop (Size selector) = ⊥
MayStop (Lock selector) = Unit {0}
MayStop (Unlock selector) = ⊥
MayStop (Alias selector) = ⊥
MayStop (Shared a) = ⊥
MayStop (Huge a) = MaySize a

-- A machine with this store, these maps, images and blocks has what the setting says and stands for the world.
pub record IsOver (shelf : Shelf) (maps : Maps) (images : ImageList) (block : ℕ → List ℕ) (p : Parts) (s : Setting) (w : World) : Type 0 where
  pub store : p.shelf ≡ shelf
  pub regions : p.maps ≡ maps
  pub pictures : p.images ≡ images
  pub blocks : p.block ≡ block
  pub lawful : AreLawful p.shelf p.maps
  pub set : IsSetTo p s
  pub stands : Stands p w
