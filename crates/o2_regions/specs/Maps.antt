-- What processes hold, as finite maps: per process from index to what it holds there; per region which indexes are reserved;
-- and per process its descriptors.
use Rattle.std.specs.Prelude.{ℕ, zero, suc, ◌+◌, ◌-◌, ◌*◌, ◌≤◌, ◌&&◌, ◌||◌, ◌==◌, nat_lt, Bool, true, false, List, [], ◌∷◌, ◌++◌, Option, Some, None, if◌then◌else◌, take, drop, replicate, slice_index_or, slice_set}
use Rattle.std.specs.Option.{is_some}
use Rattle.o2_desc.specs.declared.descriptor.Descriptor.{Descriptor}
use Rattle.o2_desc.specs.Bytes.{empty}
use Rattle.o2_place.specs.declared.seg_id.SegId.{SegId}
use Rattle.o2_regions.specs.declared.held.Held.{Held}
use Rattle.o2_regions.specs.declared.held.Region.{Region}
use Rattle.o2_regions.specs.declared.held.Region.TheVariants.{Private, Shared}

-- the maps of so many processes, as lists: what is held by process and index, the marks of the reserved indexes by region
-- and index, and the tables by process
pub record Maps : Type 0 where
  pub processes : ℕ
  pub held : List (Option Held)
  pub reserved : List Bool
  pub tables : List (List Descriptor)

-- where a process's index stands
abbrev pub place : ℕ → ℕ → ℕ
place pid i = pid * 8192 + i

-- what a process holds at an index
abbrev pub held_at : Maps → ℕ → ℕ → Option Held
held_at m pid i = if nat_lt i 8192 then slice_index_or m.held (place pid i) None else None

-- the first index of a region
abbrev pub first_of : Region → ℕ
first_of (Private pid) = 1
first_of Shared = 4096

-- the index behind the last one of a region
abbrev pub end_of : Region → ℕ
end_of (Private pid) = 4096
end_of Shared = 8192

-- where the marks of a region begin
abbrev pub base_of : Region → ℕ
base_of (Private pid) = (pid + 1) * 4096
base_of Shared = 0

-- the region of an index, for a process
abbrev pub region_of : ℕ → ℕ → Region
region_of pid i = if nat_lt i 4096 then Private pid else Shared

-- whether an index of a region is reserved
abbrev pub is_reserved : Maps → Region → ℕ → Bool
is_reserved m g i = nat_lt i (end_of g) && slice_index_or m.reserved (base_of g + i) false

-- whether one of the first so many processes holds an index
unfoldable pub some_holds : Maps → ℕ → ℕ → Bool
some_holds m i zero = false
some_holds m i (suc n) = is_some (held_at m (n + 1) i) || some_holds m i n

-- whether an index of a region is held: a shared one by any process
abbrev pub is_held : Maps → Region → ℕ → Bool
is_held m (Private pid) i = is_some (held_at m pid i)
is_held m Shared i = some_holds m i m.processes

-- whether an index of a region may not be chosen
abbrev pub is_taken : Maps → Region → ℕ → Bool
is_taken m g i = is_held m g i || is_reserved m g i

-- a process of the maps
abbrev pub IsProcess : Maps → ℕ → Type 0
IsProcess m pid = (1 ≤ pid) × (pid ≤ m.processes)

-- a region of the maps
abbrev pub IsRegion : Maps → Region → Type 0
IsRegion m (Private pid) = IsProcess m pid
IsRegion m Shared = Unit {0}

-- a process's descriptors
abbrev pub table_of : Maps → ℕ → List Descriptor
table_of m pid = slice_index_or m.tables pid []

-- so many elements from a place on are all the same
unfoldable pub fill : {X : Type 0} → List X → ℕ → ℕ → X → List X
fill xs at n x = take at xs ++ (replicate n x ++ drop (at + n) xs)

-- nothing is held and nothing reserved
unfoldable pub nothing : ℕ → Maps
nothing n = record {
  processes = n;
  held = replicate ((n + 1) * 8192) None;
  reserved = replicate ((n + 2) * 4096) false;
  tables = [] ∷ replicate n (replicate 8192 empty);
}

-- indexes of a region are reserved, or no longer
abbrev pub with_reserved : Maps → Region → ℕ → ℕ → Bool → Maps
with_reserved m g first count mark = record m { reserved = fill m.reserved (base_of g + first) count mark }

-- a process holds that at an index
abbrev pub with_held : Maps → ℕ → ℕ → Option Held → Maps
with_held m pid i h = record m { held = slice_set m.held (place pid i) h }

-- the descriptor of a process's index is that
abbrev pub with_entry : Maps → ℕ → ℕ → Descriptor → Maps
with_entry m pid i d = record m { tables = slice_set m.tables pid (slice_set (table_of m pid) i d) }

-- how many holds there are
abbrev pub holds_of : Option Held → ℕ
holds_of None = 0
holds_of (Some h) = h.holds

-- a descriptor with an access byte that is yet to say where its segment lies
abbrev pub fresh : ℕ → Descriptor
fresh access = record { base = 0; limit = 0; access = access }

-- holds more at an index, of which nothing was held or that was held
abbrev pub granted_over : Option Held → Maps → ℕ → ℕ → Held → ℕ → Maps
granted_over None m pid i h access =
    if h.holds == 0 then m else with_entry (with_held m pid i (Some h)) pid i (fresh access)
granted_over (Some was) m pid i h access = with_held m pid i (Some (record was { holds = was.holds + h.holds }))

-- holds more at an index: cause, run and descriptor of what is held there stay
abbrev pub granted : Maps → ℕ → ℕ → Held → ℕ → Maps
granted m pid i h access = granted_over (held_at m pid i) m pid i h access

-- a hold less at an index
abbrev pub dropped_over : Option Held → Maps → ℕ → ℕ → Maps
dropped_over None m pid i = m
dropped_over (Some was) m pid i =
    if was.holds - 1 == 0 then with_entry (with_held m pid i None) pid i empty
    else with_held m pid i (Some (record was { holds = was.holds - 1 }))

-- a hold less at an index: with the last one map and table are empty there
abbrev pub dropped : Maps → ℕ → ℕ → Maps
dropped m pid i = dropped_over (held_at m pid i) m pid i

-- the holds left
abbrev pub left_of : Option Held → Option ℕ
left_of None = None
left_of (Some was) = Some (was.holds - 1)

-- the descriptor of an index, where it is held
abbrev pub descriptor_of : Option Held → List Descriptor → ℕ → Option Descriptor
descriptor_of None table i = None
descriptor_of (Some h) table i = Some (slice_index_or table i empty)

-- whether what is held is that segment
abbrev pub is_of : SegId → Option Held → Bool
is_of id None = false
is_of id (Some h) = (h.id.key == id.key) && (h.id.age == id.age)

-- what is held at an index with more holds there
abbrev pub more_of : Option Held → Held → Option Held
more_of None h = if h.holds == 0 then None else Some h
more_of (Some was) h = Some (record was { holds = was.holds + h.holds })

-- what is held at an index with one hold less there
abbrev pub less_of : Option Held → Option Held
less_of None = None
less_of (Some was) = if was.holds - 1 == 0 then None else Some (record was { holds = was.holds - 1 })

-- the descriptors with that of an index as a first grant leaves it
abbrev pub entered : Option Held → Held → List Descriptor → ℕ → ℕ → List Descriptor
entered None h table i access = if h.holds == 0 then table else slice_set table i (fresh access)
entered (Some was) h table i access = table

-- the descriptors with that of an index as a drop leaves it
abbrev pub emptied : Option Held → List Descriptor → ℕ → List Descriptor
emptied None table i = table
emptied (Some was) table i = if was.holds - 1 == 0 then slice_set table i empty else table

-- whether two regions are one
abbrev pub same_region : Region → Region → Bool
same_region (Private p) (Private q) = p == q
same_region (Private p) Shared = false
same_region Shared (Private q) = false
same_region Shared Shared = true
