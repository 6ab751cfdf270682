use Rattle.std.proofs.Common.{◌≡◌, ◌+◌, ◌≤◌, ◌<◌, ℕ, length, None, IsTrue}
use Rattle.o2_swapmap.specs.Piles.{all_of, blocks_of}
use Rattle.o2_place.specs.Layout.{used}
use Rattle.o2_place.specs.Marks.{IsKept}
use Rattle.o2_store.specs.Shelf.{KeepsAll, AreClean, SameTables, Pictures, place_of, entry}
use Rattle.o2_store.specs.Leaving.{Evicts, LeaveFor}
use Rattle.o2_store.proofs.store.Store.evict_until.Given as goal

abbrev pub invariant-loop-self : goal.invariant-loop-self
invariant-loop-self g l = let S = g.S.SwapDevice in record {
  keeps : (pic : Pictures) → AreClean l.initial.self pic → KeepsAll (S.told l.swap) pic l.initial.self (S.block l.initial.swap) l.self (S.block l.swap);
  clean : (pic : Pictures) → AreClean l.initial.self pic → AreClean l.self pic;
  tables : SameTables l.initial.self l.self;
  blocks_many : S.blocks l.swap ≡ S.blocks l.initial.swap;
  told : IsTrue (S.told l.swap) → IsTrue (S.told l.initial.swap);
  map : all_of l.self.swap ≡ all_of l.initial.self.swap;
  keys : l.self.keys ≡ l.initial.self.keys;
  kept : (k : ℕ) → IsKept l.initial.self.keys k → place_of l.self k ≡ place_of l.initial.self k;
  locked : (k : ℕ) → 0 < (entry l.initial.self k).attr.lock → place_of l.self k ≡ place_of l.initial.self k;
  none : (k : ℕ) → place_of l.initial.self k ≡ None → place_of l.self k ≡ None;
  evicts : Evicts l.initial.self l.self;
  leave : LeaveFor l.initial.self l.self l.len;
  unasked : S.asked l.swap ≡ S.asked l.initial.swap;
  piles : (k : ℕ) → k < length l.initial.self.entries → place_of l.initial.self k ≡ None → blocks_of l.self.swap k ≡ blocks_of l.initial.self.swap k;
  enough : used l.initial.self.places.ranges + l.len ≤ l.initial.self.places.size → l.self ≡ l.initial.self;
  untouched : used l.initial.self.places.ranges + l.len ≤ l.initial.self.places.size → l.swap ≡ l.initial.swap;
  faults : S.faults l.initial.swap ≤ S.faults l.swap;
}

abbrev pub decreases-loop-self : goal.decreases-loop-self
decreases-loop-self g l = length l.self.places.ranges
