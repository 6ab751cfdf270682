-- How an instruction that completes leaves the segment registers.
use Rattle.std.specs.Prelude.{◌≡◌, ◌⊎◌, ℕ, true, List}
use Rattle.o2_isa.specs.declared.instr.Sreg.{Sreg}
use Rattle.o2_isa.specs.declared.instr.Sreg.TheVariants.{Es, Cs, Ss, Ds}
use Rattle.o2_isa.specs.declared.cpu.Cpu.{Cpu}
use Rattle.o2_isa.specs.declared.cpu.Purpose.{Purpose}
use Rattle.o2_isa.specs.declared.cpu.Purpose.TheVariants.{DataReg, StackReg, Return}
use Rattle.o2_isa.specs.declared.cpu.Loaded.TheVariants as loaded
use Rattle.o2_isa.specs.View.{View, found, probe_of}
use Rattle.o2_isa.specs.Presence.{hold_name, is_in}
use Rattle.o2_isa.specs.Registers.{sreg}
use Rattle.o2_isa.specs.Steps.{selector}

-- the selector passes the load rules for this purpose, and its segment is present
abbrev pub Passes : View → Purpose → ℕ → Type 0
Passes v purpose s = probe_of v purpose (selector s) ≡ loaded.Done

-- the rules that a selector in this register has passed; CS has privilege level 3 however it was loaded, so it passes those of
-- a far return
abbrev pub rules_for : Sreg → Purpose
rules_for Es = DataReg
rules_for Cs = Return
rules_for Ss = StackReg
rules_for Ds = DataReg

-- each segment register is as it was, or holds a selector that passes its rules
abbrev pub LoadsByRules : View → Cpu → Cpu → Type 0
LoadsByRules v old new = (r : Sreg) → (sreg new r ≡ sreg old r) ⊎ Passes v (rules_for r) (sreg new r)

-- what the selector names, if anything, is one of these names
abbrev pub IsNamed : View → List ℕ → ℕ → Type 0
IsNamed v names s = (n : ℕ) → is_in n (hold_name (found v s)) ≡ true → is_in n names ≡ true

-- each segment register is as it was, or holds a selector of one of these names
abbrev pub BindsLoaded : View → List ℕ → Cpu → Cpu → Type 0
BindsLoaded v names old new = (r : Sreg) → (sreg new r ≡ sreg old r) ⊎ IsNamed v names (sreg new r)
