use Rattle.std.proofs.Common.{◌≡◌, ◌+◌, ◌<◌, ◌≤◌, ℕ, length, None, true, IsSome, IsTrue}
use Rattle.o2_entries.specs.Tables.{slot_at}
use Rattle.o2_swapmap.specs.Piles.{all_of, blocks_of}
use Rattle.o2_place.specs.Layout.{used}
use Rattle.o2_store.specs.Leaving.{LeaveFor}
use Rattle.o2_store.specs.Needs.{named_in}
use Rattle.o2_store.specs.Shelf.{AreClean, KeepsAll, Pictures, SameTables, entry, place_of, rounded}
use Rattle.o2_service.specs.Told.{Follows}
use Rattle.o2_service.proofs.Turns.{HasTaken}
use Rattle.o2_service.proofs.bringing.make_room.Given as goal

abbrev pub invariant-loop-id : goal.invariant-loop-id
invariant-loop-id g l = let S = g.S.SwapDevice in record {
  keeps : (pic : Pictures) → AreClean l.initial.store pic → KeepsAll (S.told l.swap) pic l.initial.store (S.block l.initial.swap) l.store (S.block l.swap);
  clean : (pic : Pictures) → AreClean l.initial.store pic → AreClean l.store pic;
  tables : SameTables l.initial.store l.store;
  blocks : S.blocks l.swap ≡ S.blocks l.initial.swap;
  told : IsTrue (S.told l.swap) → IsTrue (S.told l.initial.swap);
  map : all_of l.store.swap ≡ all_of l.initial.store.swap;
  follows : Follows l.initial.regions l.store l.regions;
  kept : (k : ℕ) → named_in l.initial.store.entries l.keep k ≡ true → place_of l.store k ≡ place_of l.initial.store k;
  none : (k : ℕ) → place_of l.initial.store k ≡ None → place_of l.store k ≡ None;
  unasked : S.asked l.swap ≡ S.asked l.initial.swap;
  piles : (k : ℕ) → k < length l.initial.store.entries → place_of l.initial.store k ≡ None → blocks_of l.store.swap k ≡ blocks_of l.initial.store.swap k;
  still : (k : ℕ) → IsSome (place_of l.store k) → place_of l.store k ≡ place_of l.initial.store k;
  taken : HasTaken l.id.key l.keep (rounded (entry l.initial.store l.id.key).size) l.initial.store l.store;
  leave : LeaveFor l.initial.store l.store (rounded (entry l.initial.store l.id.key).size);
  idle : used l.initial.store.places.ranges + rounded (entry l.initial.store l.id.key).size ≤ l.initial.store.places.size → (l.store ≡ l.initial.store) × (l.swap ≡ l.initial.swap);
  entry : slot_at l.store.entries l.id.key ≡ slot_at l.initial.store.entries l.id.key;
  faults : S.faults l.initial.swap ≤ S.faults l.swap;
}

abbrev pub decreases-loop-id : goal.decreases-loop-id
decreases-loop-id g l = length l.store.places.ranges
