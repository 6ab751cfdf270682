-- The blocks that a window has.
use Rattle.std.specs.Prelude.{◌≡◌, ℕ, List}
use Rattle.o2_outer.specs.declared.window.Window.{Window}
use Rattle.o2_outer.specs.Windows.{Has}

-- it has a block, with these bytes
abbrev pub has_block : Window → ℕ → List ℕ → Type 0
has_block w i block = Has w.bytes w.first w.len i block

-- it has the same blocks
pub record IsAsBefore (old new : Window) : Type 0 where
  pub bytes : new.bytes ≡ old.bytes
  pub first : new.first ≡ old.first
  pub len : new.len ≡ old.len
