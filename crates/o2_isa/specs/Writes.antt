-- Which bytes a step may change.
use Rattle.std.specs.Prelude.{◌≡◌, ◌⊎◌, ℕ, true, Some}
use Rattle.o2_isa.specs.declared.instr.Sreg.{Sreg}
use Rattle.o2_isa.specs.View.{View, Hold, in_register, is_writable}

-- a segment register holds the name as data that can be written
pub record HoldsAsWritable (v : View) (n : ℕ) : Type 0 where
  pub register : Sreg
  pub hold : Hold
  pub there : in_register v.registers register ≡ Some hold
  pub named : hold.name ≡ n
  pub writable : is_writable hold.rights ≡ true

-- each name has its bytes of before, or was held as data that can be written
abbrev pub WritesData : View → View → Type 0
WritesData old new = (n : ℕ) → (new.bytes n ≡ old.bytes n) ⊎ HoldsAsWritable old n
