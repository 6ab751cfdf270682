-- Where nothing is in swap blocks and all that lives fits the memory, the swap device isn't touched.
use Rattle.std.specs.Prelude.{◌≡◌, ◌<◌, ◌≤◌, ℕ, []}
use Rattle.o2_swapmap.specs.Piles.{Blocks, blocks_of}
use Rattle.o2_store.specs.Shelf.{Shelf}

-- no owner has a block
pub record NoneTaken (m : Blocks) : Type 0 where
  pub none : (id : ℕ) → id < m.most → blocks_of m id ≡ []

-- a device is as it was, and no segment of the store behind has a block
pub record IsIdle {D : Type 0} (new : Shelf) (before after : D) : Type 0 where
  pub device : after ≡ before
  pub none : NoneTaken new.swap

-- where no segment had one, and so much fits the memory
abbrev pub Idles : {D : Type 0} → (load : ℕ) → (old new : Shelf) → (before after : D) → Type 0
Idles load old new before after = NoneTaken old.swap → load ≤ old.places.size → IsIdle new before after
