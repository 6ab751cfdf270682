-- What VERW and VERR ask of an access byte.
use Rattle.std.specs.Prelude.{ℕ, Bool, true, false}
use Rattle.o2_isa.specs.View.{is_readable, is_writable}

abbrev pub asked : Bool → ℕ → Bool
asked true = is_writable
asked false = is_readable
