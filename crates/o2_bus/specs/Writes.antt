-- Which bytes a call may change.
use Rattle.std.specs.Prelude.{◌≡◌, ◌⊎◌, ℕ, true, Some}
use Rattle.o2_isa.specs.View.{View, Hold, is_writable}

-- the process holds the name as data that can be written
pub record HoldsForWriting (v : View) (n : ℕ) : Type 0 where
  pub index : ℕ
  pub hold : Hold
  pub there : v.held index ≡ Some hold
  pub named : hold.name ≡ n
  pub writable : is_writable hold.rights ≡ true

-- each name has its bytes of before, or the process holds it as data that can be written
abbrev pub WritesHeld : View → View → Type 0
WritesHeld old new = (n : ℕ) → (new.bytes n ≡ old.bytes n) ⊎ HoldsForWriting old n
