-- Checks in order, of which the first that fails decides.
use Rattle.std.specs.Prelude.{ℕ, Bool, List, [], ◌∷◌, Result, Ok, Err, if◌then◌else◌}
use Rattle.o2_base.specs.declared.faults.NeFault.{NeFault}
use Rattle.o2_base.specs.declared.faults.NeFault.TheVariants as fault
use Rattle.o2_ne.specs.Words.{first_missing, lies_in}

-- what must hold, and the fault where it does not
pub record Check (F : Type 0) : Type 0 where
  pub holds : Bool
  pub fault : F

abbrev pub or_fault : {F : Type 0} → Bool → F → Check F
or_fault b f = record { holds = b; fault = f }

-- the value where each check holds, else the fault of the first that fails
abbrev pub checked : {X F : Type 0} → List (Check F) → X → Result X F
checked [] x = Ok x
checked (c ∷ cs) x = if c.holds then checked cs x else Err c.fault

abbrev pub all_hold : {F : Type 0} → List (Check F) → Result (Unit {0}) F
all_hold cs = checked cs tt

-- the file has the n bytes from place p; else this fault of the first of them that it lacks
abbrev pub bytes_in : {F : Type 0} → (ℕ → F) → List ℕ → ℕ → ℕ → Check F
bytes_in truncated file p n = or_fault (lies_in file p n) (truncated (first_missing file p))

-- the same, as the header and its tables are refused
abbrev pub in_file : List ℕ → ℕ → ℕ → Check NeFault
in_file file p n = bytes_in fault.Truncated file p n

-- what follows on a value, where there is one
infixl 10 ◌>>=◌
abbrev pub ◌>>=◌ : {A B F : Type 0} → Result A F → (A → Result B F) → Result B F
(Ok x) >>= f = f x
(Err e) >>= f = Err e
