-- What a call starts from, over what a bus shows and what the services have.
use Rattle.std.specs.Prelude.{◌≡◌, ℕ, List, Option, Some, None, Result, Ok, Err}
use Rattle.o2_isa.specs.declared.cpu.Cpu.{Cpu}
use Rattle.o2_isa.specs.View.{View, Filling, whole, no_rest, no_hidden}
use Rattle.o2_isa.specs.Presence.{with_unseen}
use Rattle.o2_gate.specs.declared.state.State.{State as Services}
use Rattle.o2_world.specs.Known.{Known}
use Rattle.o2_world.specs.Calls.{Before}

-- what is known of the machine is what the services have of it, field by field: those that a service reads
pub record IsKnown (known : Known) (services : Services) : Type 0 where
  pub avail : known.avail ≡ services.avail

-- what the boundless machine sees where a bus shows this: all segments are present, and what no row reads is left out
abbrev pub boundless : Filling → View → View
boundless f v = with_unseen no_rest no_hidden (whole f v)

abbrev pub before_call : View → ℕ → Cpu → List ℕ → Known → Before
before_call v number cpu input known = record { number = number; cpu = cpu; view = v; known = known; input = input }

-- a word of the stack, where it lies in SS
abbrev pub given : Result ℕ (ℕ × ℕ) → Option ℕ
given (Ok x) = Some x
given (Err e) = None
