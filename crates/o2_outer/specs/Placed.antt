-- What is written and read at a place of a file, by what the file itself tells: its position, the bytes that it has taken, and those that
-- it has left. Nothing is asked of a file that doesn't tell.
use Rattle.std.specs.Prelude.{◌≡◌, ◌⊎◌, ℕ, ◌*◌, ◌++◌, true, false, List, Option, Some, IfSome, take}
use Rattle.o2_outer.specs.declared.window.Window.{Window}
use Rattle.o2_outer.specs.Texts.{Gains, IsPrefix}
use Rattle.std.specs.Io.KnownBytes.{prepend_known}
use Rattle.o2_outer.specs.Windows.{IsFilled}
use Rattle.o2_outer.specs.Ahead.{has_block}

-- it stands at a place
abbrev pub IsSought : {F : Type 0} → (position : F → Option ℕ) → (at : ℕ) → (old new : F) → Type 0
IsSought position at old new = IfSome (position old) (λ _. position new ≡ Some at)

-- it was sought to a place, and then it took just these bytes
pub record WritesAt {F : Type 0} (position : F → Option ℕ) (contents : F → Option (List ℕ)) (at : ℕ) (bytes : List ℕ) (old new : F) : Type 0 where
  pub sought : F
  pub place : IsSought position at old sought
  pub written : Gains (contents sought) (contents new) bytes

-- the same of some front of the bytes
pub record WritesFront {F : Type 0} (position : F → Option ℕ) (contents : F → Option (List ℕ)) (at : ℕ) (bytes : List ℕ) (old new : F) : Type 0 where
  pub front : List ℕ
  pub is_front : IsPrefix front bytes
  pub at_place : WritesAt position contents at front old new

-- what a flush does to a file: where blocks wait, all their bytes are written at the place of the first one, and else it does nothing
pub record Flushes {F : Type 0} (position : F → Option ℕ) (contents : F → Option (List ℕ)) (old new : Option F) (w : Window) : Type 0 where
  pub none : w.waits ≡ false → new ≡ old
  pub all : w.waits ≡ true → (before after : F) × (old ≡ Some before) × (new ≡ Some after)
      × WritesAt position contents (512 * w.first) (take (512 * w.len) w.bytes) before after

-- what a reading of blocks does: the file is sought to the first one's place, and what it gave there is in the window
pub record Fills {F : Type 0} (position : F → Option ℕ) (remaining : F → Option (List ℕ)) (old new : Option F) (i : ℕ) (w : Window) : Type 0 where
  pub before : F
  pub sought : F
  pub after : F
  pub opened : old ≡ Some before
  pub left : new ≡ Some after
  pub place : IsSought position (512 * i) before sought
  pub filled : IsFilled (remaining sought) (remaining after) i w.bytes w.first w.len

-- a block came from the file: that was sought to its place, and what it gave there begins with these bytes
pub record CameFrom {F : Type 0} (position : F → Option ℕ) (remaining : F → Option (List ℕ)) (new : Option F) (i : ℕ) (block : List ℕ) : Type 0 where
  pub before : F
  pub sought : F
  pub after : F
  pub rest : List ℕ
  pub left : new ≡ Some after
  pub place : IsSought position (512 * i) before sought
  pub given : (t : List ℕ) → remaining sought ≡ Some t → prepend_known (block ++ rest) (remaining after) ≡ Some t

-- a block that is given was in memory, or it came from the file
abbrev pub IsGiven : {F : Type 0} → (position : F → Option ℕ) → (remaining : F → Option (List ℕ)) → (old : Window) → (new : Option F) → (i : ℕ) → (block : List ℕ) → Type 0
IsGiven position remaining old new i block = has_block old i block ⊎ CameFrom position remaining new i block
