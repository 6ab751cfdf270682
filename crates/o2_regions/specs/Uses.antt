-- What the list of accessed bits says next.
use Rattle.std.specs.Prelude.{List, Option, Some, None, slice_index_or}
use Rattle.o2_place.specs.declared.seg_id.SegId.{SegId}
use Rattle.o2_regions.specs.declared.accessed.Next.{Next}
use Rattle.o2_regions.specs.declared.accessed.Next.TheVariants as next
use Rattle.o2_regions.specs.declared.held.Held.{Held}
use Rattle.o2_regions.specs.declared.regions.Used.{Used}
use Rattle.o2_regions.specs.declared.regions.Used.TheVariants as used

-- the use of a place, by what is held there
abbrev pub used_in : Option Held → Used
used_in None = used.Free
used_in (Some h) = used.Segment h.id

-- the use that the list says, by what is held
abbrev pub used_of : List (Option Held) → Next → Used
used_of held (next.Place p) = used_in (slice_index_or held p None)
used_of held next.Stale = used.Stale
used_of held next.Clear = used.Clear
used_of held next.More = used.More

-- of an index whose bit is clear now: the segment that is held there, or that nothing is
abbrev pub segment_in : Used → Option (Option SegId)
segment_in (used.Segment id) = Some (Some id)
segment_in used.Free = Some None
segment_in used.Stale = None
segment_in used.Clear = None
segment_in used.More = None
