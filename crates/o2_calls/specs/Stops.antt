-- Why a call on segments stops, said of the store before it.
use Rattle.std.specs.Prelude.{◌≡◌, ◌⊎◌, ℕ, ◌<◌, ◌≤◌, ◌/◌, List, Option, None, IfSome, true, if◌then◌else◌}
use Rattle.std.specs.List.{list_any}
use Rattle.o2_isa.specs.View.{is_local}
use Rattle.o2_place.specs.declared.seg_id.SegId.{SegId}
use Rattle.o2_regions.specs.declared.answer.Roomed.{Roomed}
use Rattle.o2_regions.specs.declared.answer.Roomed.TheVariants.{Done, NoRoom, SwapFull, SwapFault}
use Rattle.o2_regions.specs.declared.held.Held.{Held}
use Rattle.o2_regions.specs.Maps.{Maps, held_at}
use Rattle.o2_store.specs.Loads.{live_load, live_load_at, swap_load}
use Rattle.o2_store.specs.Needs.{all_wanted}
use Rattle.o2_store.specs.Shelf.{Shelf}
use Rattle.o2_store.specs.Sizes.{all_wanted_at, stays}
use Rattle.o2_swapmap.specs.Piles.{all_of}
use Rattle.o2_world.specs.Rulings.{full_size}
use Rattle.o2_gate.specs.declared.requests.SegmentArguments.{SegmentArguments}
use Rattle.o2_gate.specs.declared.requests.SegmentArguments.TheVariants.{Alloc, Realloc, Free, Size, Lock, Unlock, Alias, Shared, Huge}
use Rattle.o2_gate.specs.declared.requests.HugeArguments.{HugeArguments}
use Rattle.o2_gate.specs.declared.requests.HugeArguments.TheVariants as huge
use Rattle.o2_isa.specs.declared.cpu.Cpu.{Cpu}
use Rattle.o2_world.specs.Changes.{takes}
use Rattle.o2_world.specs.HugeRulings.{huge_reallocation}
use Rattle.o2_world.specs.Known.{Known}
use Rattle.o2_calls.specs.HugeActs.{SizesOne}
use Rattle.o2_changes.specs.Holding.{KeepsHolds}
use Rattle.o2_segs.specs.Answers.{IsUnrefused}
use Rattle.o2_segs.specs.Limits.{KeepsEntries}
use Rattle.o2_calls.specs.Acts.{MayStop}
use Rattle.o2_shared.specs.Shares.{StillHolds}
use Rattle.o2_segs.specs.Made.{IsWithNew}
use Rattle.o2_segs.specs.Remade.{wants_room}

-- what a process holds under a selector
abbrev pub held_by : Maps → ℕ → ℕ → Option Held
held_by m pid selector = if is_local selector then held_at m pid (selector / 8) else None

-- the segment at its new size, or the new one, together with what is to be kept and what is locked is more than the memory
abbrev pub LacksRoom : SegmentArguments → Shelf → Maps → (pid : ℕ) → (keep : List SegId) → Type 0
LacksRoom (Alloc size flags) t m pid keep = IsWithNew t (full_size size) flags (λ u id. u.places.size < all_wanted u id.key keep)
LacksRoom (Realloc size selector) t m pid keep =
    IfSome (held_by m pid selector) (λ h. (wants_room t h.id.key keep ≡ true) × (t.places.size < all_wanted_at t h.id.key keep (full_size size)))
LacksRoom (Free selector) t m pid keep = ⊥
LacksRoom (Size selector) t m pid keep = ⊥
LacksRoom (Lock selector) t m pid keep = IfSome (held_by m pid selector) (λ h. t.places.size < all_wanted t h.id.key keep)
LacksRoom (Unlock selector) t m pid keep = ⊥
LacksRoom (Alias selector) t m pid keep = ⊥
LacksRoom (Shared a) t m pid keep = ⊥
LacksRoom (Huge a) t m pid keep = Unit {0}

-- what lives, with the new segment or the new size, is more than the memory
abbrev pub LacksMemory : SegmentArguments → Shelf → Maps → (pid : ℕ) → Type 0
LacksMemory (Alloc size flags) t m pid = IsWithNew t (full_size size) flags (λ u id. u.places.size < live_load u)
LacksMemory (Realloc size selector) t m pid = IfSome (held_by m pid selector) (λ h. t.places.size < live_load_at t h.id.key (full_size size))
LacksMemory (Free selector) t m pid = ⊥
LacksMemory (Size selector) t m pid = ⊥
LacksMemory (Lock selector) t m pid = t.places.size < live_load t
LacksMemory (Unlock selector) t m pid = ⊥
LacksMemory (Alias selector) t m pid = ⊥
LacksMemory (Shared a) t m pid = ⊥
LacksMemory (Huge a) t m pid = Unit {0}

-- and what isn't clean may need more blocks than there are
abbrev pub LacksSwap : SegmentArguments → Shelf → Maps → (pid : ℕ) → Type 0
LacksSwap a t m pid = (all_of t.swap < swap_load t) × LacksMemory a t m pid

-- it came to no error; of a call on a run this is said where its world is at hand
abbrev pub IsUnrefusedBy : SegmentArguments → Roomed → Type 0
IsUnrefusedBy (Huge a) r = Unit {0}
IsUnrefusedBy a r = IsUnrefused r

-- A call came to no error, and what lives with its change is more than the memory.
pub record IsShort (a : SegmentArguments) (t : Shelf) (m : Maps) (pid : ℕ) (result : Roomed) : Type 0 where
  pub unrefused : IsUnrefusedBy a result
  pub stops : MayStop a
  pub lacks : LacksMemory a t m pid

-- of a call that sizes a run: the member that gets another size, together with what is to be kept and what is locked, is more than the
-- memory; or all that lives with it is
abbrev pub LacksRun : SegmentArguments → Shelf → Known → (pid : ℕ) → Cpu → (keep : List SegId) → Roomed → Type 0
LacksRun (Huge a) t k pid c keep NoRoom = SizesOne a t k pid c (λ id size. (stays t id.key keep ≡ true) × (t.places.size < all_wanted_at t id.key keep size))
LacksRun (Huge a) t k pid c keep SwapFull = SizesOne a t k pid c (λ id size. t.places.size < live_load_at t id.key size)
LacksRun a t k pid c keep r = Unit {0}

-- where it comes to no error, what lives with the member of its new size is more than the memory
abbrev pub LacksRunMemory : SegmentArguments → Shelf → Known → (pid : ℕ) → Cpu → Type 0
LacksRunMemory (Huge a) t k pid c = SizesOne a t k pid c (λ id size. t.places.size < live_load_at t id.key size)
LacksRunMemory a t k pid c = Unit {0}

-- what a run is sized to keeps all holds, but where the call cuts it
abbrev pub LeavesRunHolds : SegmentArguments → (old new : Maps) → Known → (pid : ℕ) → Cpu → Type 0
LeavesRunHolds (Huge (huge.Realloc segs part selector)) m n k pid c =
    KeepsHolds m n ⊎ (list_any takes (huge_reallocation k pid segs part selector c).changes ≡ true)
LeavesRunHolds a m n k pid c = Unit {0}

-- a call that cuts a run may take holds
abbrev pub LeavesRun : HugeArguments → (old new : Maps) → Type 0
LeavesRun (huge.Alloc segs part most flags) m n = KeepsHolds m n
LeavesRun (huge.Realloc segs part selector) m n = Unit {0}
LeavesRun huge.Shift m n = KeepsHolds m n

abbrev pub LeavesRunEntries : HugeArguments → (s t : Shelf) → Type 0
LeavesRunEntries (huge.Alloc segs part most flags) m n = KeepsEntries m n
LeavesRunEntries (huge.Realloc segs part selector) m n = Unit {0}
LeavesRunEntries huge.Shift m n = KeepsEntries m n

-- what a call leaves of what is held: all of it, but for one that frees; one that shares may hold it once more
abbrev pub LeavesHolds : SegmentArguments → (old new : Maps) → Type 0
LeavesHolds (Alloc size flags) m n = KeepsHolds m n
LeavesHolds (Realloc size selector) m n = KeepsHolds m n
LeavesHolds (Free selector) m n = Unit {0}
LeavesHolds (Size selector) m n = KeepsHolds m n
LeavesHolds (Lock selector) m n = KeepsHolds m n
LeavesHolds (Unlock selector) m n = KeepsHolds m n
LeavesHolds (Alias selector) m n = KeepsHolds m n
LeavesHolds (Shared a) m n = StillHolds m n
LeavesHolds (Huge a) m n = LeavesRun a m n

-- what a call that has a pointer leaves of what lives: all of it, with its size
abbrev pub LeavesEntries : SegmentArguments → (s t : Shelf) → Type 0
LeavesEntries (Alloc size flags) m n = KeepsEntries m n
LeavesEntries (Realloc size selector) m n = Unit {0}
LeavesEntries (Free selector) m n = Unit {0}
LeavesEntries (Size selector) m n = KeepsEntries m n
LeavesEntries (Lock selector) m n = Unit {0}
LeavesEntries (Unlock selector) m n = Unit {0}
LeavesEntries (Alias selector) m n = KeepsEntries m n
LeavesEntries (Shared a) m n = KeepsEntries m n
LeavesEntries (Huge a) m n = LeavesRunEntries a m n

-- the value of a call that is done is a word where it is a selector
abbrev pub HasWord : Roomed → Type 0
HasWord (Done x) = x.value ≤ 65535
HasWord NoRoom = Unit {0}
HasWord SwapFull = Unit {0}
HasWord SwapFault = Unit {0}

abbrev pub IsRunGivable : HugeArguments → Roomed → Type 0
IsRunGivable (huge.Alloc segs part most flags) x = HasWord x
IsRunGivable (huge.Realloc segs part selector) x = Unit {0}
IsRunGivable huge.Shift x = HasWord x

abbrev pub IsGivable : SegmentArguments → Roomed → Type 0
IsGivable (Alloc size flags) x = HasWord x
IsGivable (Realloc size selector) x = Unit {0}
IsGivable (Free selector) x = Unit {0}
IsGivable (Size selector) x = Unit {0}
IsGivable (Lock selector) x = Unit {0}
IsGivable (Unlock selector) x = Unit {0}
IsGivable (Alias selector) x = HasWord x
IsGivable (Shared a) x = HasWord x
IsGivable (Huge a) x = IsRunGivable a x
