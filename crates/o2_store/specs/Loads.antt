-- What the segments take together.
use Rattle.std.specs.Prelude.{ℕ, length, ◌==◌, if◌then◌else◌}
use Rattle.o2_place.specs.Layout.{over}
use Rattle.o2_store.specs.Shelf.{Shelf, entry, rounded, blocks_for}

-- how many swap blocks a segment may need: a clean one needs none
abbrev pub block_load : Shelf → ℕ → ℕ
block_load s k = if (entry s k).attr.clean then 0 else blocks_for (entry s k).size

-- how many all may need together
abbrev pub swap_load : Shelf → ℕ
swap_load s = over (block_load s) (length s.entries)

-- how many all but one may need together
abbrev pub block_load_but : Shelf → ℕ → ℕ → ℕ
block_load_but s key k = if k == key then 0 else block_load s k

abbrev pub swap_load_but : Shelf → ℕ → ℕ
swap_load_but s key = over (block_load_but s key) (length s.entries)

-- what a segment takes of the memory
abbrev pub memory_load : Shelf → ℕ → ℕ
memory_load s k = rounded (entry s k).size

-- what all take together
abbrev pub live_load : Shelf → ℕ
live_load s = over (memory_load s) (length s.entries)

-- what one takes of the memory, where one of them has another size
abbrev pub memory_load_at : Shelf → ℕ → ℕ → ℕ → ℕ
memory_load_at s key size k = if k == key then rounded size else memory_load s k

-- what all take together, where one of them has another size
abbrev pub live_load_at : Shelf → ℕ → ℕ → ℕ
live_load_at s key size = over (memory_load_at s key size) (length s.entries)
