-- What a core image tells of a machine over a store: its memory as it is, its segments by rising number, and its processes. A
-- segment's number in the image is its place among the numbers that have one, and not its own number.
use Rattle.std.specs.Prelude.{ℕ, ◌+◌, List, [], ◌∷◌, map, flat_map, nat_lt, count_by, Option, Some, None, slice_index_or}
use Rattle.std.specs.List.{range_with_len}
use Rattle.o2_desc.specs.declared.descriptor.Descriptor.{Descriptor}
use Rattle.o2_desc.specs.Bytes.{empty}
use Rattle.o2_isa.specs.declared.cpu.Cpu.{Cpu}
use Rattle.o2_entries.specs.declared.Entry.{Entry}
use Rattle.o2_entries.specs.Tables.{live_numbers}
use Rattle.o2_regions.specs.declared.held.Held.{Held as HeldThere}
use Rattle.o2_regions.specs.Maps.{Maps, held_at, table_of}
use Rattle.o2_store.specs.declared.brought.Place.{Place as PlaceThere}
use Rattle.o2_store.specs.declared.brought.Place.TheVariants as there
use Rattle.o2_store.specs.Shelf.{Shelf, entry, kept_of, place_of, shown_at}
use Rattle.o2_swapmap.specs.Piles.{blocks_of}
use Rattle.o2_dump.specs.declared.parts.Block.{Block}
use Rattle.o2_dump.specs.declared.parts.Held.{Held}
use Rattle.o2_dump.specs.declared.parts.Place.{Place}
use Rattle.o2_dump.specs.declared.parts.Place.TheVariants.{Zeros, Image, Memory, Swap}
use Rattle.o2_dump.specs.declared.parts.Process.{Process}
use Rattle.o2_dump.specs.declared.parts.SegmentEntry.{SegmentEntry}
use Rattle.o2_dump.specs.declared.reader.Core.{Core}
use Rattle.o2_dump.specs.ProcessEntries.{state_of}

-- the numbers that have a segment, by rising number
abbrev pub numbers : Shelf → List ℕ
numbers s = live_numbers 0 s.entries

-- how many of some numbers lie below one: its place among them, where they rise
abbrev pub place_among : List ℕ → ℕ → ℕ
place_among ns k = count_by (λ n. nat_lt n k) ns

-- the blocks of a number's segment, in the order of its bytes, by what the device's blocks hold
abbrev pub block_told : (ℕ → List ℕ) → ℕ → Block
block_told block b = record { number = b; bytes = block b }

abbrev pub blocks_told : Shelf → (ℕ → List ℕ) → ℕ → List Block
blocks_told s block k = map (block_told block) (blocks_of s.swap k)

abbrev pub place_told : PlaceThere → List Block → Place
place_told there.Zeros bs = Zeros
place_told (there.Image m k) bs = Image m k
place_told (there.Memory base) bs = Memory base
place_told there.Blocks bs = Swap bs

-- a segment with this entry and this range in memory, if it has one; in memory all of it is kept
abbrev pub entry_told : Option (ℕ × ℕ) → Entry → List Block → SegmentEntry
entry_told range e bs = record {
  size = e.size;
  kept = kept_of range e;
  flags = e.attr.flags;
  lock = e.attr.lock;
  clean = e.attr.clean;
  gone = e.attr.gone;
  place = place_told (shown_at range e) bs;
}

-- a number's segment
unfoldable pub segment_told : Shelf → (ℕ → List ℕ) → ℕ → SegmentEntry
segment_told s block k = entry_told (place_of s k) (entry s k) (blocks_told s block k)

-- all segments
abbrev pub segments_told : Shelf → (ℕ → List ℕ) → List SegmentEntry
segments_told s block = map (segment_told s block) (numbers s)

-- the descriptor of a process's index
abbrev pub descriptor_at : Maps → ℕ → ℕ → Descriptor
descriptor_at m pid i = slice_index_or (table_of m pid) i empty

-- what a process holds at an index, where it holds something
abbrev pub hold_told : Shelf → ℕ → Descriptor → Option HeldThere → List Held
hold_told s i d None = []
hold_told s i d (Some h) = record { index = i; descriptor = d; segment = place_among (numbers s) h.id.key; holds = h.holds } ∷ []

unfoldable pub held_told : Shelf → Maps → ℕ → ℕ → List Held
held_told s m pid i = hold_told s i (descriptor_at m pid i) (held_at m pid i)

-- from an index on, so many indexes
unfoldable pub held_from : Shelf → Maps → ℕ → ℕ → ℕ → List Held
held_from s m pid i n = flat_map (held_told s m pid) (range_with_len i n)

-- all that a process holds, by rising index
unfoldable pub all_held : Shelf → Maps → ℕ → List Held
all_held s m pid = held_from s m pid 0 8192

-- a process is its registers, the number of its state and its exit code or exception
abbrev pub Row : Type 0
Row = Cpu × ℕ × ℕ

-- the process of a number
unfoldable pub process_told : Shelf → Maps → ℕ → Row → Process
process_told s m pid p = record { number = pid; state = state_of p.1; code = p.2; registers = p.0; held = all_held s m pid }

-- processes by rising number, from this one on
abbrev pub processes_from : Shelf → Maps → ℕ → List Row → List Process
processes_from s m pid [] = []
processes_from s m pid (p ∷ ps) = process_told s m pid p ∷ processes_from s m (pid + 1) ps

-- the image of a machine with so many blocks, which has done so many steps and counted so many console bytes
abbrev pub core_told : Shelf → Maps → List Row → (block : ℕ → List ℕ) → (blocks steps console : ℕ) → Core
core_told s m ps block blocks steps console = record {
  memory = s.memory;
  blocks = blocks;
  steps = steps;
  console = console;
  segments = segments_told s block;
  processes = processes_from s m 1 ps;
}
