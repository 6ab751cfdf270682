-- What the laws on heaps say: units by their number, and sequences of calls.
use Rattle.std.specs.Prelude.{◌≡◌, ℕ, ◌+◌, ◌/◌, ◌<◌, ◌≤◌, ◌⊎◌, Bool, true, false, ◌&&◌, nat_le, nat_lt, List, [], ◌∷◌, slice_index, slice_index_or, Some}
use Rattle.o2_world.specs.Heaps.{AreBytes, Heap, controls, heap_of, units}
use Rattle.o2_world.specs.HeapRulings.{HeapRuling, rounded, setting_up, taking, giving_back}

-- whether a unit of a heap is free
abbrev pub unit_at : Heap → ℕ → Bool
unit_at h k = slice_index_or (units h) k false

-- a unit is one of so many from one on
abbrev pub is_among : ℕ → ℕ → ℕ → Bool
is_among from count k = nat_le from k && nat_lt k (from + count)

-- so many units in a row are free
abbrev pub AreFree : Heap → ℕ → ℕ → Type 0
AreFree h from count = (k : ℕ) → is_among from count k ≡ true → unit_at h k ≡ true

-- a byte lies outside each word of a list
abbrev pub IsOutside : ℕ → List (ℕ × ℕ) → Type 0
IsOutside i [] = Unit {0}
IsOutside i ((at, w) ∷ ws) = ((i < at) ⊎ (at + 2 ≤ i)) × IsOutside i ws

-- bytes that a call leaves have a heap of this size, whose units are these, and differ from the old ones in its control words alone
pub record HasHeap (old new : List ℕ) (size : ℕ) (unit : ℕ → Bool) : Type 0 where
  pub heap : Heap
  pub is : heap_of new ≡ Some heap
  pub sized : heap.size ≡ size
  pub each : (k : ℕ) → k < size / 4 → unit_at heap k ≡ unit k
  pub others : (i : ℕ) → IsOutside i (controls heap) → slice_index new i ≡ slice_index old i

-- a call that makes no new heap: DosSubSet with flags 0, DosSubAlloc, DosSubFree
pub data HeapCall : Type 0 where
  Grows : ℕ → HeapCall
  Takes : ℕ → HeapCall
  Returns : ℕ → ℕ → HeapCall

abbrev pub ruling_of : HeapCall → List ℕ → HeapRuling
ruling_of (Grows size) bytes = setting_up 0 size bytes
ruling_of (Takes size) bytes = taking size bytes
ruling_of (Returns offset size) bytes = giving_back offset size bytes

-- calls with their rulings, between which the heap stays as the call before left it, from one memory to another
pub data Runs : List ℕ → List (HeapCall × HeapRuling) → List ℕ → Type 0 where
  no_call : {bytes : List ℕ} → Runs bytes [] bytes
  one_call : {bytes next last : List ℕ} {calls : List (HeapCall × HeapRuling)} → (c : HeapCall) → AreBytes next
      → heap_of next ≡ heap_of (ruling_of c bytes).bytes → Runs next calls last → Runs bytes ((c, ruling_of c bytes) ∷ calls) last

-- a call takes a unit
pub data TakesUnit (k : ℕ) : HeapCall → HeapRuling → Type 0 where
  takes : {size : ℕ} {r : HeapRuling} → r.error ≡ 0 → is_among (r.value / 4) (rounded size / 4) k ≡ true → TakesUnit k (Takes size) r

-- one of the calls frees a unit
abbrev pub HasReturn : ℕ → List (HeapCall × HeapRuling) → Type 0
HasReturn k [] = ⊥
HasReturn k ((Grows size, r) ∷ cs) = HasReturn k cs
HasReturn k ((Takes size, r) ∷ cs) = HasReturn k cs
HasReturn k ((Returns offset size, r) ∷ cs) = ((r.error ≡ 0) × (is_among (offset / 4) (rounded size / 4) k ≡ true)) ⊎ HasReturn k cs
