-- A step writes no name but those that its process holds as data that can be written.
use Rattle.std.proofs.Common.{◌≡◌, ◌≢◌, ℕ, true}
use Rattle.std.specs.Prelude.{Option, Some}
use Rattle.o2_isa.specs.declared.instr.Sreg.{Sreg}
use Rattle.o2_isa.specs.View.{Hold, in_register, is_writable}
use Rattle.o2_world.specs.CallParts.{Before}
use Rattle.o2_world.specs.Effect.{effect}
use Rattle.o2_world.proofs.Unreached.{effect_keeps as unreached_stays}
use Rattle.o2_alone.specs.Renaming.{IsIn}
use Rattle.o2_alone.proofs.RenamedViews.{bound_is_in}

-- the process holds the name only as what can't be written
abbrev pub IsUnwritten : (ℕ → Option Hold) → ℕ → Type 0
IsUnwritten held n = (h : Hold) → IsIn held h → is_writable h.rights ≡ true → h.name ≢ n

pub effect_keeps : (b : Before) (n : ℕ) → IsUnwritten b.view.held n → ((r : Sreg) (h : Hold) → in_register b.view.registers r ≡ Some h → IsIn b.view.held h)
    → (effect b).bytes n ≡ b.view.bytes n
effect_keeps b n unwritten bound = unreached_stays b n (record {
  registers = λ r h there. unwritten h (bound r h there);
  pointers = λ s h there for_es. unwritten h (bound_is_in b.view.held s h there);
})
