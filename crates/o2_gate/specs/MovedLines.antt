-- The lines of the holds that came to processes by a call, or went from them.
use Rattle.std.specs.Prelude.{ℕ, ◌+◌, ◌*◌, ◌≤◌, List, [], ◌∷◌, flat_map, replicate, sum, map, if◌then◌else◌}
use Rattle.o2_base.specs.Selectors.{selector_of}
use Rattle.o2_world.specs.Rulings.{indexes}
use Rattle.o2_world.specs.World.{Line, HoldsBy, DropsBy}
use Rattle.o2_gate.specs.declared.moves.Block.{Block}

-- of one hold of an index
abbrev pub line_at : (cause : List ℕ) → Block → ℕ → Line
line_at cause b i = if b.came then HoldsBy b.process (selector_of i) cause else DropsBy b.process (selector_of i) cause

-- of all holds of it that came or went
abbrev pub lines_at : (cause : List ℕ) → Block → ℕ → List Line
lines_at cause b i = replicate b.holds (line_at cause b i)

-- of all indexes of a block, and of all blocks
abbrev pub block_lines : (cause : List ℕ) → Block → List Line
block_lines cause b = flat_map (lines_at cause b) (indexes b.index b.count)

unfoldable pub all_lines : (cause : List ℕ) → List Block → List Line
all_lines cause bs = flat_map (block_lines cause) bs

-- how many these are
abbrev pub line_number : List Block → ℕ
line_number bs = sum (map (λ (b : Block). b.count * b.holds) bs)

-- the indexes of each block are those of a table
abbrev pub AreInside : List Block → Type 0
AreInside [] = Unit {0}
AreInside (b ∷ bs) = (b.index + b.count ≤ 8192) × AreInside bs
