-- A store whose last segment is gone as if it had never been made.
use Rattle.std.proofs.Common.{ℕ, ◌+◌, ◌-◌, ◌<◌, IsSome, length, arith}
use Rattle.o2_entries.specs.Tables.{slot_at}
use Rattle.o2_place.specs.Marks.{mark_of}
use Rattle.o2_swapmap.specs.Piles.{blocks_of}
use Rattle.o2_store.specs.Shelf.{Shelf, IsShelf, entry, place_of}
use Rattle.o2_store.proofs.Tables.{with_made}

pub IsShelf-unmade : (s : Shelf) → IsShelf s → ((k : ℕ) → IsSome (slot_at s.entries k) → (entry s k).age + 1 < s.made) → IsShelf (record s { made = s.made - 1 })
IsShelf-unmade s h gone = record {
  memory = h.memory;
  small = h.small;
  few = h.few;
  places_most = h.places_most;
  swap_most = h.swap_most;
  turns_most = h.turns_most;
  numbered = h.numbered;
  each = λ k l. with_made s.made (s.made - 1) (slot_at s.entries k) (place_of s k) (mark_of s.turns.marks k).present (length (blocks_of s.swap k)) (λ some. let y = gone k some in omega (arith, y)) (h.each k l);
}
