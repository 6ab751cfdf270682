-- Steps that are done at once, one behind another.
use Rattle.std.specs.Prelude.{◌≡◌, ◌<◌, ℕ, Bool, false}
use Rattle.o2_world.specs.World.{World, Setting}
use Rattle.o2_world.specs.Run.{after, is_over, step, words_coming}
use Rattle.o2_run.specs.Room.{Fits}

-- a step that puts nothing and takes nothing from the input; a machine that swaps has its room
pub record IsSilent (swaps : Bool) (s : Setting) (w : World) : Type 0 where
  pub runs : is_over w ≡ false
  pub room : Fits swaps s w
  pub input : (step s w).input ≡ w.input
  pub console : (step s w).console ≡ w.console
  pub lines : (step s w).lines ≡ w.lines

-- the first k steps are such
abbrev pub AreSilent : (swaps : Bool) → Setting → World → ℕ → Type 0
AreSilent swaps s w k = (j : ℕ) → j < k → IsSilent swaps s (after s w j)

-- k steps from a machine that stands for w, before none of which a word comes
pub record Slices (stands_now : World → Type 0) (swaps : Bool) (s : Setting) (w : World) (k : ℕ) : Type 0 where
  pub wordless : (j : ℕ) → j < k → words_coming (after s w j) ≡ 0
  pub silent : AreSilent swaps s w k
  pub stands : stands_now (after s w k)

-- a machine goes on over a device of some number of blocks
pub record OverSome (fits : ℕ → Type 0) : Type 0 where
  pub blocks : ℕ
  pub over : fits blocks
