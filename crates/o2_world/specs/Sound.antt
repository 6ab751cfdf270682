-- What holds of every world of a run.
use Rattle.std.specs.Prelude.{◌⊎◌, ◌≡◌, ℕ, ◌%◌, ◌/◌, Bool, true, false, List, Option, Some, None, slice_get}
use Rattle.o2_isa.specs.View.{is_code, is_readable, is_writable, is_null, is_local}
use Rattle.o2_world.specs.Map.{get}
use Rattle.o2_world.specs.World.{Process, Held}

abbrev pub held_of : Option Process → ℕ → Option Held
held_of None i = None
held_of (Some p) i = get p.held i

-- what the process at a place holds under an index
abbrev pub held_in : List Process → ℕ → ℕ → Option Held
held_in ps place i = held_of (slice_get ps place) i

abbrev pub has_rights : (ℕ → Bool) → Option Held → Bool
has_rights ok None = false
has_rights ok (Some h) = ok h.rights

-- a selector of the local table that names a segment of this kind, held by the process
abbrev pub NamesHeld : Process → (ℕ → Bool) → ℕ → Type 0
NamesHeld p ok s = (is_local s ≡ true) × (has_rights ok (get p.held (s / 8)) ≡ true)

-- CS names code and SS writable data, both with privilege level 3; DS and ES are null or name data or readable code
pub record HasGoodRegisters (p : Process) : Type 0 where
  pub cs : NamesHeld p is_code p.cpu.cs
  pub cs_ring : p.cpu.cs % 4 ≡ 3
  pub ss : NamesHeld p is_writable p.cpu.ss
  pub ss_ring : p.cpu.ss % 4 ≡ 3
  pub ds : (is_null p.cpu.ds ≡ true) ⊎ NamesHeld p is_readable p.cpu.ds
  pub es : (is_null p.cpu.es ≡ true) ⊎ NamesHeld p is_readable p.cpu.es
