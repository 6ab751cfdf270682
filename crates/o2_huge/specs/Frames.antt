-- What DosReallocHuge asks of a run, and what it leaves.
use Rattle.std.specs.Prelude.{◌⊎◌, ◌≡◌, ℕ, ◌+◌, ◌<◌, ◌≤◌, Bool, true, IsTrue, List, IsSome, Some}
use Rattle.std.specs.List.{list_any}
use Rattle.o2_entries.specs.Tables.{slot_at}
use Rattle.o2_image.specs.ImageList.{ImageList}
use Rattle.o2_isa.specs.declared.cpu.Cpu.{Cpu}
use Rattle.o2_place.specs.declared.seg_id.SegId.{SegId}
use Rattle.o2_regions.specs.declared.answer.Roomed.{Roomed}
use Rattle.o2_regions.specs.declared.held.Held.{Held}
use Rattle.o2_regions.specs.Maps.{Maps, held_at}
use Rattle.o2_store.specs.Idle.{NoneTaken}
use Rattle.o2_store.specs.Loads.{live_load_at}
use Rattle.o2_store.specs.Needs.{named_in}
use Rattle.o2_store.specs.Shelf.{Shelf, place_of}
use Rattle.o2_store.specs.Sizes.{all_wanted_at, stays}
use Rattle.o2_changes.specs.Frames.{KeepsOrderFor}
use Rattle.o2_changes.specs.Holding.{KeepsHolds}
use Rattle.o2_stands.specs.Knows.{Others}
use Rattle.o2_stands.specs.Moves.{moved}
use Rattle.o2_stands.specs.Parts.{Parts}
use Rattle.o2_stands.specs.Runs.{AreFull, AreRuns}
use Rattle.o2_stands.specs.Stands.{Matches}
use Rattle.o2_world.specs.Changes.{Change, takes, with_all}
use Rattle.o2_world.specs.Holders.{process_at}
use Rattle.o2_world.specs.HugeRulings.{without}
use Rattle.o2_world.specs.Rulings.{Ruling, dropped_indexes}
use Rattle.o2_world.specs.World.{Process, World}
use Rattle.o2_segs.specs.Answers.{AnswersRoomed, changes_roomed}
use Rattle.o2_segs.specs.Limits.{KeepsLimitsBy}
use Rattle.o2_huge.specs.Cuts.{MayLose}
use Rattle.o2_huge.specs.Growth.{AreMembers, AreVacant, FirstSized}

-- A process holds so many members of a run, one behind the other from its first one on, of the indexes that are reserved for it.
pub record HoldsRun (m : Maps) (pid first count members : ℕ) (h : Held) : Type 0 where
  pub inside : first + count ≤ 8192
  pub some : 0 < members
  pub few : members ≤ count
  pub held : held_at m pid first ≡ Some h
  pub all : AreMembers m pid first first (first + members)

-- A run of so many members may have so many segments: no fewer indexes are reserved, and those behind the members are vacant.
pub record MayHave (m : Maps) (pid first count members segments : ℕ) : Type 0 where
  pub wanted : 0 < segments
  pub enough : segments ≤ count
  pub short : count ≤ 4096
  pub vacant : AreVacant m pid (first + members) (first + segments)

-- Parts have this store and these tables, in which runs have their form, and know as many processes.
pub record IsKnownBy (s : Shelf) (m : Maps) (p : Parts) (o : Others) : Type 0 where
  pub shelf : p.shelf ≡ s
  pub maps : p.maps ≡ m
  pub processes : o.processes ≡ m.processes
  pub runs : AreRuns m
  pub full : AreFull s m

-- A call follows its ruling: what it answers is the ruling's error and value, DS and ES are 0 where they named a member that goes, the
-- machine matches each world with the ruling's changes that it matched without them, and what is held is held still, or the ruling takes
-- a hold. At a stop nothing changes.
pub record FollowsRuling (r : Ruling) (p : Parts) (pid : ℕ) (s t : Shelf) (m n : Maps) (images : ImageList) (told : Bool) (before after : ℕ → List ℕ) (c d : Cpu) (a : Roomed) : Type 0 where
  pub answer : AnswersRoomed r a
  pub registers : d ≡ without c (dropped_indexes (changes_roomed r a))
  pub world : (w : World) (x : Process) → p.images ≡ images → p.block ≡ before → IsTrue told → process_at w.processes pid ≡ Some x
      → MayLose w → Matches p w → Matches (moved p t n after) (with_all w (changes_roomed r a))
  pub holds : KeepsHolds m n ⊎ (list_any takes r.changes ≡ true)

-- Why a call with these changes stops, and when it leaves the device alone. The first change is then that of a segment's size. Where room
-- lacks, the segment is to stay in memory, and with all that stays it wouldn't fit; where the blocks are full, all that lives wouldn't
-- fit with the new size. Where nothing is in swap blocks, the device isn't touched, unless all that lives wouldn't fit.
pub record StopsFor (s : Shelf) (keep : List SegId) (cs : List Change) (lacks fills idles : Type 0) : Type 0 where
  pub no_room : lacks → FirstSized s cs (λ id size. (stays s id.key keep ≡ true) × (s.places.size < all_wanted_at s id.key keep size))
  pub all_load : fills → FirstSized s cs (λ id size. s.places.size < live_load_at s id.key size)
  pub idle : NoneTaken s.swap → idles ⊎ FirstSized s cs (λ id size. s.places.size < live_load_at s id.key size)

-- What a call that sizes a run leaves: nothing is held more often than before, what is to stay in memory stays there where it lives, and
-- what held of store and tables goes on to hold.
pub record SizesRun (images : ImageList) (keep : List SegId) (s : Shelf) (m : Maps) (t : Shelf) (n : Maps) (most : ℕ) : Type 0 where
  pub limits : KeepsLimitsBy s m t n most 0
  pub processes : n.processes ≡ m.processes
  pub kept : (k : ℕ) → named_in s.entries keep k ≡ true → IsSome (slot_at t.entries k) → IsSome (place_of s k) → IsSome (place_of t k)
  pub goes_on : KeepsOrderFor images s m t n
