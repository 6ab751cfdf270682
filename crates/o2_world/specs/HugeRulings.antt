-- What the calls of DOSCALLS on huge allocations come to, by what is known of the machine. A huge allocation is a run of indexes
-- that are reserved together as long as somebody holds one of them; its first ones are held, each a segment of 65,536 bytes, but
-- for the last one, which may have fewer.
use Rattle.std.specs.Prelude.{ℕ, ◌+◌, ◌-◌, ◌*◌, ◌/◌, ◌%◌, Bool, false, not, List, [], ◌∷◌, ◌++◌, length, drop, filter, flat_map, replicate, max, if◌then◌else◌, ◌==◌, nat_le, nat_lt, ◌&&◌, ◌||◌, Option, Some, None, is_some}
use Rattle.std.specs.List.{list_any}
use Rattle.o2_base.specs.Selectors.{selector_of}
use Rattle.o2_desc.specs.Bits.{has_bit, writable_data}
use Rattle.o2_desc.specs.Choice.{chosen}
use Rattle.o2_isa.specs.declared.cpu.Cpu.{Cpu}
use Rattle.o2_world.specs.World.{Held, Reserve, ByCall}
use Rattle.o2_world.specs.Changes.{Change, Makes, Resizes, Holds, Drops, Reserves}
use Rattle.o2_world.specs.Known.{Known, Marks}
use Rattle.o2_world.specs.Rulings.{Ruling, refusal, grants, full_size, held_under, in_use, indexes, is_in_run, is_index, made_segment, members, region_by}
use Rattle.o2_world.specs.SharedRulings.{holder, marks_under, shared_from}

-- so many segments, and one more of part bytes where part isn't 0
abbrev pub segments_of : (segs part : ℕ) → ℕ
segments_of segs part = if part == 0 then segs else segs + 1

-- their sizes as words, of which 0 stands for 65,536
abbrev pub sizes_of : (segs part : ℕ) → List ℕ
sizes_of segs part = replicate segs 0 ++ (if part == 0 then [] else part ∷ [])

-- the bytes of all together, where part is a word
abbrev pub bytes_of : (segs part : ℕ) → ℕ
bytes_of segs part = segs * 65536 + part % 65536

-- what a process holds of a run: so many indexes from the first on are reserved for it
abbrev pub held_in_run : (name first count holds : ℕ) → Held
held_in_run name first count holds =
    record { name = name; rights = writable_data; holds = holds; cause = ByCall; first = first; reserved = count }

-- each of these processes holds a member so often
abbrev pub all_hold : (name first count index : ℕ) → List (ℕ × ℕ) → List Change
all_hold name first count i [] = []
all_hold name first count i (p ∷ ps) = Holds p.0 i (held_in_run name first count p.1) ∷ all_hold name first count i ps

-- new members of a run: segments of these sizes, under these indexes, with the next names
abbrev pub new_members : (name first count flags : ℕ) → List (ℕ × ℕ) → (indexes sizes : List ℕ) → List Change
new_members name first count flags ps [] sizes = []
new_members name first count flags ps (i ∷ is) [] = []
new_members name first count flags ps (i ∷ is) (z ∷ zs) =
    Makes (made_segment z flags) ∷ all_hold name first count i ps ++ new_members (name + 1) first count flags ps is zs

-- DosAllocHuge(segs, part, psel, max, flags): 87 where the flags exceed 000Fh or have 4 (discardable), where there would be no
-- segment, or where max isn't 0 and is below their number. 8 where no indexes are free in a row, as many as segments or as max,
-- whichever is more, or where more names would live than may.

abbrev pub is_huge_fault : (count most flags : ℕ) → Bool
is_huge_fault n most flags = nat_lt 15 flags || (has_bit flags 2 || ((n == 0) || (not (most == 0) && nat_lt most n)))

-- as many indexes in a row
abbrev pub free_run : Known → (region count : ℕ) → Option ℕ
free_run k region count = if region == 0 then chosen (k.taken 0) 4096 8192 count else chosen (k.taken region) 1 4096 count

abbrev pub run_reserve : (region first count : ℕ) → Reserve
run_reserve region first count = record { region = region; first = first; count = count; stays = false }

abbrev pub huge_at : Known → (number segs part count flags : ℕ) → Option ℕ → Ruling
huge_at k n segs part count flags None = refusal 8
huge_at k n segs part count flags (Some i) =
    grants (selector_of i)
    (new_members k.next i count flags ((n, 1) ∷ []) (indexes i (segments_of segs part)) (sizes_of segs part)
    ++ Reserves (run_reserve (region_by n flags) i count) ∷ [])

abbrev pub huge_allocation : Known → (number segs part most flags : ℕ) → Ruling
huge_allocation k n segs part most flags =
    let m = segments_of segs part in
    if is_huge_fault m most flags then refusal 87
    else (if nat_lt k.most (k.count + m) then refusal 8
    else huge_at k n segs part (max m most) flags (free_run k (region_by n flags) (max m most)))

-- DosReallocHuge(segs, part, sel): 5 where sel isn't the first of a run that is held; 87 where no segment would be left; 8 where
-- there would be more than indexes are reserved; 5 where the run is shared and has more bytes than it would have; 5 where a selector
-- that goes is that of CS or SS; 8 where more names would live than may. Members that stay get their sizes. Each holder of
-- the run holds the new members as often as its first one. Members that go are the caller's alone, since no shared run loses one.

-- the first of a run
abbrev pub is_first : ℕ → Held → Bool
is_first i h = is_in_run h && (h.first == i)

abbrev pub size_in : Option Marks → ℕ
size_in None = 0
size_in (Some m) = m.size

abbrev pub flags_in : Option Marks → ℕ
flags_in None = 0
flags_in (Some m) = m.flags

-- the bytes of all members together
abbrev pub all_bytes : Known → (number : ℕ) → List ℕ → ℕ
all_bytes k n [] = 0
all_bytes k n (i ∷ is) = size_in (marks_under k (k.held n i)) + all_bytes k n is

-- nobody holds the index: below the shared ones the process itself doesn't
abbrev pub is_unheld : Known → (number index : ℕ) → Bool
is_unheld k n i = if nat_le shared_from i then not (is_some (holder k i)) else not (is_some (k.held n i))

-- the reserved indexes that are still free for new members
abbrev pub left_in_run : Known → (number : ℕ) → Held → List ℕ
left_in_run k n h = filter (is_unheld k n) (indexes h.first h.reserved)

-- a process that holds the run from this index on, with how often it holds its first member
abbrev pub share_of : (first process : ℕ) → Option Held → List (ℕ × ℕ)
share_of first n None = []
share_of first n (Some h) = if is_first first h then (n, h.holds) ∷ [] else []

-- the other processes that hold a shared run
abbrev pub other_shares : Known → (number first : ℕ) → List (ℕ × ℕ)
other_shares k n first =
    if nat_le shared_from first
    then flat_map (λ (m : ℕ). if m == n then [] else share_of first m (k.held m first)) (indexes 1 k.processes)
    else []

-- members that stay get their sizes, where they have others
abbrev pub resized_one : (size : ℕ) → Option Held → Option Marks → List Change
resized_one size (Some h) (Some m) = if m.size == full_size size then [] else Resizes h.name (full_size size) ∷ []
resized_one size h m = []

abbrev pub resized_members : Known → (number : ℕ) → (indexes sizes : List ℕ) → List Change
resized_members k n [] sizes = []
resized_members k n (i ∷ is) [] = []
resized_members k n (i ∷ is) (z ∷ zs) = resized_one z (k.held n i) (marks_under k (k.held n i)) ++ resized_members k n is zs

-- members that go, with all holds of them
abbrev pub all_dropped : (number index : ℕ) → Option Held → List Change
all_dropped n i None = []
all_dropped n i (Some h) = Drops n i h.holds ∷ []

abbrev pub dropped_members : Known → (number : ℕ) → List ℕ → List Change
dropped_members k n [] = []
dropped_members k n (i ∷ is) = all_dropped n i (k.held n i) ++ dropped_members k n is

-- the changes of a run whose members, of the first one as h, are to be of these sizes
abbrev pub run_changes : Known → (number : ℕ) → Held → (members sizes : List ℕ) → List Change
run_changes k n h is zs =
    resized_members k n is zs
    ++ (new_members k.next h.first h.reserved (flags_in (k.segment h.name)) ((n, h.holds) ∷ other_shares k n h.first)
    (left_in_run k n h) (drop (length is) zs)
    ++ dropped_members k n (drop (length zs) is))

abbrev pub run_resized : Known → (number segs part : ℕ) → Cpu → Held → (members : List ℕ) → Ruling
run_resized k n segs part c h is =
    let m = segments_of segs part in
    if m == 0 then refusal 87
    else (if nat_lt h.reserved m then refusal 8
    else (if (nat_le shared_from h.first && nat_lt (bytes_of segs part) (all_bytes k n is)) || in_use c (drop m is) then refusal 5
    else (if nat_lt k.most (k.count + (m - length is)) || nat_lt (length is + length (left_in_run k n h)) m then refusal 8
    else grants 0 (run_changes k n h is (sizes_of segs part)))))

abbrev pub huge_reallocation_of : Known → (number index segs part : ℕ) → Cpu → Option Held → Ruling
huge_reallocation_of k n i segs part c None = refusal 5
huge_reallocation_of k n i segs part c (Some h) =
    if is_first i h then run_resized k n segs part c h (members k n i h) else refusal 5

abbrev pub huge_reallocation : Known → (number segs part selector : ℕ) → Cpu → Ruling
huge_reallocation k n segs part selector c = huge_reallocation_of k n (selector / 8) segs part c (held_under k n selector)

-- DS and ES behind it are 0 where they named a member that is gone
abbrev pub names_one : (selector : ℕ) → List ℕ → Bool
names_one selector is = list_any (is_index selector) is

abbrev pub without : Cpu → List ℕ → Cpu
without c is = record c { ds = if names_one c.ds is then 0 else c.ds; es = if names_one c.es is then 0 else c.es }

-- DosGetHugeShift(pshift): the selectors of a run rise by 8, which is 1 shifted left by 3

abbrev pub huge_shift : ℕ
huge_shift = 3
