-- What the calls of DOSCALLS on segments come to, by what is known of the machine: the error number, its conditions in their
-- order, the value that is given, and what changes. A selector is taken by its index: its two low bits don't count, and only
-- the local table is named.
use Rattle.std.specs.Prelude.{ℕ, zero, suc, ◌+◌, ◌-◌, ◌/◌, ◌%◌, Bool, true, false, not, List, [], ◌∷◌, map, filter, replicate, min, if◌then◌else◌, ◌==◌, nat_le, nat_lt, ◌&&◌, ◌||◌, Option, Some, None, is_some}
use Rattle.std.specs.List.{list_any}
use Rattle.o2_base.specs.Selectors.{selector_of}
use Rattle.o2_desc.specs.Bits.{has_bit, is_writable, readable_code, writable_data}
use Rattle.o2_desc.specs.Choice.{chosen}
use Rattle.o2_isa.specs.declared.cpu.Cpu.{Cpu}
use Rattle.o2_isa.specs.View.{is_null, is_local}
use Rattle.o2_world.specs.World.{Segment, Held, Cause, ByLoad, ByCall, ByAlias}
use Rattle.o2_world.specs.Changes.{Change, Makes, Resizes, Locks, Marks, Holds, Drops}
use Rattle.o2_world.specs.Known.{Known, Marks as SegmentMarks}

pub record Ruling : Type 0 where
  pub error : ℕ
  -- what is written behind the call's last pointer, where it has one
  pub value : ℕ
  pub changes : List Change

abbrev pub refusal : ℕ → Ruling
refusal error = record { error = error; value = 0; changes = [] }

abbrev pub grants : (value : ℕ) → List Change → Ruling
grants value changes = record { error = 0; value = value; changes = changes }

-- what a process holds under a selector
abbrev pub held_under : Known → (number selector : ℕ) → Option Held
held_under k n selector = if is_local selector then k.held n (selector / 8) else None

-- The regions of indexes: a process has 1 to 4095 for itself, and all share 4096 to 8191.

abbrev pub free_index : Known → (region : ℕ) → Option ℕ
free_index k region = if region == 0 then chosen (k.taken 0) 4096 8192 1 else chosen (k.taken region) 1 4096 1

-- DosAllocSeg(size, psel, flags): 87 where the flags exceed 000Fh; 8 where no index of the region is free, or no more names
-- may live. A segment of zeros, shared where the flags have 1 (giveable) or 2 (gettable); with flag 4 it is locked once.

-- a size is a word, and 0 stands for 65,536
abbrev pub full_size : ℕ → ℕ
full_size size = if size % 65536 == 0 then 65536 else size % 65536

abbrev pub made_segment : (size flags : ℕ) → Segment
made_segment size flags = record {
  bytes = replicate (full_size size) 0;
  clean = false;
  code = false;
  flags = flags;
  lock = if has_bit flags 2 then 1 else 0;
  shared = has_bit flags 0 || has_bit flags 1;
  discarded = false;
}

abbrev pub held_by_call : ℕ → Held
held_by_call name = record { name = name; rights = writable_data; holds = 1; cause = ByCall; first = 0; reserved = 0 }

abbrev pub allocation_at : Known → (number size flags : ℕ) → Option ℕ → Ruling
allocation_at k n size flags None = refusal 8
allocation_at k n size flags (Some i) = grants (selector_of i) (Makes (made_segment size flags) ∷ Holds n i (held_by_call k.next) ∷ [])

-- the region of a new segment: that of the process, or the shared one
abbrev pub region_by : (number flags : ℕ) → ℕ
region_by n flags = if flags % 4 == 0 then n else 0

abbrev pub allocation : Known → (number size flags : ℕ) → Ruling
allocation k n size flags =
    if nat_lt 15 flags then refusal 87
    else (if nat_le k.most k.count then refusal 8 else allocation_at k n size flags (free_index k (region_by n flags)))

-- DosReallocSeg(size, sel): 5 where sel isn't held, is an alias, lies in a run, or its segment is clean, or shared and larger
-- than the size and not sizeable (flag 8). The segment gets the size. One that was discarded is made anew: it is discarded no more, has
-- zeros, and is locked once.

abbrev pub is_alias : Cause → Bool
is_alias ByLoad = false
is_alias ByCall = false
is_alias ByAlias = true

-- in the run of a huge allocation
abbrev pub is_in_run : Held → Bool
is_in_run h = not (h.reserved == 0)

abbrev pub is_sizeable : SegmentMarks → Bool
is_sizeable m = has_bit m.flags 3

abbrev pub keeps_its_size : (size : ℕ) → SegmentMarks → Bool
keeps_its_size size m = m.clean || (m.shared && (not (is_sizeable m) && nat_lt size m.size))

abbrev pub resizes_with : (name size : ℕ) → (discarded : Bool) → List Change
resizes_with name size false = Resizes name size ∷ []
resizes_with name size true = Marks name false ∷ Resizes name size ∷ Locks name 1 ∷ []

abbrev pub reallocation_with : (name size : ℕ) → Option SegmentMarks → Ruling
reallocation_with name size None = refusal 5
reallocation_with name size (Some m) = if keeps_its_size size m then refusal 5 else grants 0 (resizes_with name size m.discarded)

abbrev pub reallocation_of : Known → (size : ℕ) → Option Held → Ruling
reallocation_of k size None = refusal 5
reallocation_of k size (Some h) = if is_alias h.cause || is_in_run h then refusal 5 else reallocation_with h.name size (k.segment h.name)

abbrev pub reallocation : Known → (number size selector : ℕ) → Ruling
reallocation k n size selector = reallocation_of k (full_size size) (held_under k n selector)

-- The indexes of a run, or of a segment alone.

abbrev pub indexes : ℕ → ℕ → List ℕ
indexes first zero = []
indexes first (suc n) = first ∷ indexes (first + 1) n

abbrev pub members : Known → (process index : ℕ) → Held → List ℕ
members k process index h = if h.reserved == 0 then index ∷ [] else filter (λ (i : ℕ). is_some (k.held process i)) (indexes h.first h.reserved)

-- in a run, but not its first
abbrev pub is_later : ℕ → Held → Bool
is_later index h = not (h.reserved == 0) && not (h.first == index)

abbrev pub is_index : ℕ → ℕ → Bool
is_index selector i = not (is_null selector) && (is_local selector && (selector / 8 == i))

abbrev pub in_use : Cpu → List ℕ → Bool
in_use c is = list_any (λ (i : ℕ). is_index c.cs i || is_index c.ss i) is

abbrev pub by_load : Cause → Bool
by_load ByLoad = true
by_load ByCall = false
by_load ByAlias = false

-- DosFreeSeg(sel): 5 where sel isn't held, is held by load, is in a run but not its first, or it or a member of its run is in
-- CS or SS. One hold goes, of each member of a run; where none is left, DS and ES that named it become 0.

abbrev pub is_last : Option Held → Bool
is_last None = false
is_last (Some h) = nat_le h.holds 1

abbrev pub is_gone : Known → (process : ℕ) → List ℕ → ℕ → Bool
is_gone k process is selector = list_any (λ (i : ℕ). is_index selector i && is_last (k.held process i)) is

abbrev pub freed_cpu : Known → (process : ℕ) → List ℕ → Cpu → Cpu
freed_cpu k n is c = record c { ds = if is_gone k n is c.ds then 0 else c.ds; es = if is_gone k n is c.es then 0 else c.es }

abbrev pub freeing_with : (number : ℕ) → Cpu → List ℕ → Ruling
freeing_with n c is = if in_use c is then refusal 5 else grants 0 (map (λ (i : ℕ). Drops n i 1) is)

abbrev pub freeing_of : Known → (number selector : ℕ) → Cpu → Option Held → Ruling
freeing_of k n selector c None = refusal 5
freeing_of k n selector c (Some h) =
    if by_load h.cause || is_later (selector / 8) h then refusal 5 else freeing_with n c (members k n (selector / 8) h)

abbrev pub freeing : Known → (number selector : ℕ) → Cpu → Ruling
freeing k n selector c = freeing_of k n selector c (held_under k n selector)

-- the indexes of which holds go
abbrev pub dropped_by : Change → List ℕ → List ℕ
dropped_by (Drops p i count) is = i ∷ is
dropped_by c is = is

abbrev pub dropped_indexes : List Change → List ℕ
dropped_indexes [] = []
dropped_indexes (c ∷ cs) = dropped_by c (dropped_indexes cs)

-- the registers behind it
abbrev pub freeing_cpu : Known → (number selector : ℕ) → Cpu → Cpu
freeing_cpu k n selector c = freed_cpu k n (dropped_indexes (freeing k n selector c).changes) c

-- DosSizeSeg(sel, psize): 5 where sel isn't held. The size is given.

abbrev pub sizing_with : Option SegmentMarks → Ruling
sizing_with None = refusal 5
sizing_with (Some m) = grants m.size []

abbrev pub sizing_of : Known → Option Held → Ruling
sizing_of k None = refusal 5
sizing_of k (Some h) = sizing_with (k.segment h.name)

abbrev pub sizing : Known → (number selector : ℕ) → Ruling
sizing k n selector = sizing_of k (held_under k n selector)

-- DosLockSeg(sel): 5 where sel isn't held or its segment isn't discardable (flag 4); 157 where it is discarded. Its lock count rises by
-- 1, up to 255.

abbrev pub is_discardable : SegmentMarks → Bool
is_discardable m = has_bit m.flags 2

abbrev pub locking_with : (name : ℕ) → Option SegmentMarks → Ruling
locking_with name None = refusal 5
locking_with name (Some m) =
    if is_discardable m
    then (if m.discarded then refusal 157 else grants 0 (Locks name (min (m.lock + 1) 255) ∷ []))
    else refusal 5

abbrev pub locking_of : Known → Option Held → Ruling
locking_of k None = refusal 5
locking_of k (Some h) = locking_with h.name (k.segment h.name)

abbrev pub locking : Known → (number selector : ℕ) → Ruling
locking k n selector = locking_of k (held_under k n selector)

-- DosUnlockSeg(sel): 5 as DosLockSeg; 158 where the lock count is 0. It falls by 1, but a count of 255 stays.

abbrev pub unlocking_with : (name : ℕ) → Option SegmentMarks → Ruling
unlocking_with name None = refusal 5
unlocking_with name (Some m) =
    if is_discardable m
    then (if m.lock == 0 then refusal 158 else grants 0 (Locks name (if nat_lt m.lock 255 then m.lock - 1 else m.lock) ∷ []))
    else refusal 5

abbrev pub unlocking_of : Known → Option Held → Ruling
unlocking_of k None = refusal 5
unlocking_of k (Some h) = unlocking_with h.name (k.segment h.name)

abbrev pub unlocking : Known → (number selector : ℕ) → Ruling
unlocking k n selector = unlocking_of k (held_under k n selector)

-- DosCreateCSAlias(sel, psel): 5 where sel isn't held, is shared by its index, is code or read-only, or lies in a run; 8 where no
-- index of the process is free. The segment is held under a new selector too, as code that can be read.

abbrev pub held_as_code : (name : ℕ) → Held
held_as_code name = record { name = name; rights = readable_code; holds = 1; cause = ByAlias; first = 0; reserved = 0 }

abbrev pub aliasing_at : (number name : ℕ) → Option ℕ → Ruling
aliasing_at n name None = refusal 8
aliasing_at n name (Some i) = grants (selector_of i) (Holds n i (held_as_code name) ∷ [])

abbrev pub aliasing_of : Known → (number index : ℕ) → Option Held → Ruling
aliasing_of k n index None = refusal 5
aliasing_of k n index (Some h) =
    if nat_le 4096 index || (not (is_writable h.rights) || is_in_run h) then refusal 5 else aliasing_at n h.name (free_index k n)

abbrev pub aliasing : Known → (number selector : ℕ) → Ruling
aliasing k n selector = aliasing_of k n (selector / 8) (held_under k n selector)
