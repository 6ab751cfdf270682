-- What a call on a huge allocation comes to in the world that a machine stands for.
use Rattle.std.specs.Prelude.{ℕ}
use Rattle.o2_isa.specs.declared.cpu.Cpu.{Cpu}
use Rattle.o2_place.specs.declared.seg_id.SegId.{SegId}
use Rattle.o2_regions.specs.declared.answer.Roomed.{Roomed}
use Rattle.o2_regions.specs.declared.answer.Roomed.TheVariants.{Done, NoRoom, SwapFull, SwapFault}
use Rattle.o2_store.specs.Shelf.{Shelf}
use Rattle.o2_world.specs.HugeRulings.{huge_reallocation, without}
use Rattle.o2_world.specs.Known.{Known}
use Rattle.o2_world.specs.Rulings.{Ruling, dropped_indexes}
use Rattle.o2_gate.specs.declared.requests.HugeArguments.{HugeArguments}
use Rattle.o2_gate.specs.declared.requests.HugeArguments.TheVariants.{Alloc, Realloc, Shift}
use Rattle.o2_gate.specs.declared.requests.SegmentArguments.TheVariants.{Huge}
use Rattle.o2_gate.specs.Requests.{ruling_of}
use Rattle.o2_huge.specs.Growth.{FirstSized}

-- error number, value and changes of the call by a process with these registers
abbrev pub huge_ruling : HugeArguments → Known → (number : ℕ) → Cpu → Ruling
huge_ruling a = ruling_of (Huge a)

-- the registers behind it: DS and ES are 0 where they named a member that is gone
abbrev pub huge_cpu : HugeArguments → Known → (number : ℕ) → Cpu → Cpu
huge_cpu (Alloc segs part most flags) k n c = c
huge_cpu (Realloc segs part selector) k n c = without c (dropped_indexes (huge_reallocation k n segs part selector c).changes)
huge_cpu Shift k n c = c

-- a stop leaves them
abbrev pub huge_behind : HugeArguments → Known → (number : ℕ) → Cpu → Roomed → Cpu
huge_behind a k n c (Done x) = huge_cpu a k n c
huge_behind a k n c NoRoom = c
huge_behind a k n c SwapFull = c
huge_behind a k n c SwapFault = c

-- only a call that sizes a member may stop
abbrev pub MaySize : HugeArguments → Type 0
MaySize (Alloc segs part most flags) = ⊥
MaySize (Realloc segs part selector) = Unit {0}
MaySize Shift = ⊥

-- the first change that its ruling has in a store is a size of a segment of which this is so
abbrev pub SizesOne : HugeArguments → Shelf → Known → (number : ℕ) → Cpu → (SegId → ℕ → Type 0) → Type 0
SizesOne (Alloc segs part most flags) t k n c says = ⊥
SizesOne (Realloc segs part selector) t k n c says = FirstSized t (huge_reallocation k n segs part selector c).changes says
SizesOne Shift t k n c says = ⊥
