-- Swap blocks in piles, one pile for each owner and one for the free blocks.
use Rattle.std.specs.Prelude.{◌≡◌, ◌≢◌, ℕ, zero, suc, ◌+◌, ◌<◌, ◌≤◌, List, length, [], ◌∷◌, ◌++◌, map, slice_index_or, sum_by, ◌^◌}
use Rattle.o2_swapmap.specs.declared.piles.Block.{Block}
use Rattle.o2_swapmap.specs.declared.piles.Pile.{Pile}

-- the blocks of each owner, in order, and after them those that are free
pub record Blocks : Type 0 where
  pub lists : List (List ℕ)
  pub most : ℕ

-- the blocks of an owner, in order
abbrev pub blocks_of : Blocks → ℕ → List ℕ
blocks_of m id = slice_index_or m.lists id []

-- the blocks that nobody has
abbrev pub free : Blocks → List ℕ
free m = blocks_of m m.most

-- no block stands twice, with one owner or with two
abbrev pub NoneTwice : Blocks → Type 0
NoneTwice m = (i j k l : ℕ) → k < length (blocks_of m i) → l < length (blocks_of m j)
    → slice_index_or (blocks_of m i) k 0 ≡ slice_index_or (blocks_of m j) l 0 → (i ≡ j) × (k ≡ l)

-- only the list of an owner changes, and the free ones
pub record OnlyOf (id : ℕ) (old new : Blocks) : Type 0 where
  pub others : (k : ℕ) → k ≢ id → k ≢ old.most → blocks_of new k ≡ blocks_of old k
  pub most : new.most ≡ old.most
  pub whole : sum_by (λ (xs : List ℕ). length xs) new.lists ≡ sum_by (λ (xs : List ℕ). length xs) old.lists
  pub count : length (blocks_of new id) + length (free new) ≡ length (blocks_of old id) + length (free old)

abbrev pub no_block : Block
no_block = record { below = 0; owner = 0; rank = 0 }

abbrev pub no_pile : Pile
no_pile = record { top = 0; count = 0 }

abbrev pub block : List Block → ℕ → Block
block bs b = slice_index_or bs b no_block

-- the blocks of a pile, the top one last
abbrev pub pile : List Block → ℕ → ℕ → List ℕ
pile bs top zero = []
pile bs top (suc n) = pile bs (block bs top).below n ++ top ∷ []

-- each block of the pile names the owner and its place
abbrev pub IsPile : List Block → ℕ → ℕ → ℕ → Type 0
IsPile bs owner top zero = Unit {0}
IsPile bs owner top (suc n) = (top < length bs) × ((block bs top).owner ≡ owner) × ((block bs top).rank ≡ n) × IsPile bs owner (block bs top).below n

abbrev pub list_of : List Block → Pile → List ℕ
list_of bs p = pile bs p.top p.count

abbrev pub lists_of : List Block → List Pile → List (List ℕ)
lists_of bs ps = map (list_of bs) ps

-- each pile is one
pub record ArePiles (bs : List Block) (ps : List Pile) : Type 0 where
  pub each : (i : ℕ) → i < length ps → IsPile bs i (slice_index_or ps i no_pile).top (slice_index_or ps i no_pile).count
  pub total : sum_by (λ (p : Pile). p.count) ps ≡ length bs

-- the blocks and piles of a map
pub record IsMap (bs : List Block) (ps : List Pile) : Type 0 where
  pub piles : ArePiles bs ps
  pub small : length bs ≤ 65536
  pub some : 0 < length ps
  pub few : length ps < 2 ^ 32

-- how many blocks there are
abbrev pub all_of : Blocks → ℕ
all_of m = sum_by (λ (xs : List ℕ). length xs) m.lists

-- the last block of one list goes to the end of another
pub record IsStep (from to : ℕ) (old new : Blocks) : Type 0 where
  pub block : ℕ
  pub source : blocks_of old from ≡ blocks_of new from ++ block ∷ []
  pub target : blocks_of new to ≡ blocks_of old to ++ block ∷ []
  pub others : (k : ℕ) → k ≢ from → k ≢ to → blocks_of new k ≡ blocks_of old k
  pub most : new.most ≡ old.most
  pub all : all_of new ≡ all_of old
