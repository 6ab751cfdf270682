-- Calls and returns.
use Rattle.std.specs.Prelude.{ℕ, ◌+◌, ◌%◌, if◌then◌else◌, [], ◌∷◌}
use Rattle.o2_desc.specs.Bits.{popped}
use Rattle.o2_isa.specs.declared.instr.Width.TheVariants.{Word}
use Rattle.o2_isa.specs.declared.instr.Sreg.TheVariants.{Cs, Ss}
use Rattle.o2_isa.specs.declared.flags.Flag.TheVariants.{Nested}
use Rattle.o2_isa.specs.declared.cpu.Cpu.{Cpu}
use Rattle.o2_isa.specs.declared.cpu.Purpose.TheVariants.{Call, Return}
use Rattle.o2_isa.specs.declared.cpu.Stop.TheVariants as stop
use Rattle.o2_isa.specs.Flags.{is_set}
use Rattle.o2_isa.specs.View.{ring3}
use Rattle.o2_isa.specs.Steps.{Steps, Stops, Ends, Reads, Room, Loads, Bind, Write, within, below, above}

-- the next IP is pushed, and IP moves to a target within CS
unfoldable pub call : Cpu → ℕ → ℕ → Steps
call c ip next =
    within c.cs ip (
    Room Ss (below c.sp) Word (
    Ends (record c { sp = below c.sp; ip = ip }) (Write Ss (below c.sp) Word next ∷ [])))

-- CS and the next IP are pushed; CS gets requested privilege level 3
unfoldable pub call_far : Cpu → ℕ → ℕ → ℕ → Steps
call_far c ip cs next =
    Loads Call cs next (
    within cs ip (
    Room Ss (below c.sp) Word (
    Room Ss (below (below c.sp)) Word (
    Ends (record c { cs = ring3 cs; sp = below (below c.sp); ip = ip })
    (Write Ss (below c.sp) Word c.cs ∷ Write Ss (below (below c.sp)) Word next ∷ Bind Cs (ring3 cs) ∷ [])))))

-- IP is popped, and SP rises by n more
unfoldable pub ret : Cpu → ℕ → Steps
ret c n =
    Reads Ss c.sp Word (λ ip.
    within c.cs ip (
    Ends (record c { sp = (c.sp + 2 + n) % 65536; ip = ip }) []))

-- IP and CS are popped, and SP rises by n more
unfoldable pub retf : Cpu → ℕ → ℕ → Steps
retf c n next =
    Reads Ss c.sp Word (λ ip.
    Reads Ss (above c.sp) Word (λ cs.
    Loads Return cs next (
    within cs ip (
    Ends (record c { cs = cs; sp = (c.sp + 4 + n) % 65536; ip = ip }) (Bind Cs cs ∷ [])))))

-- IP, CS and the flags are popped, the flags as POPF does
unfoldable pub iret_unnested : Cpu → ℕ → Steps
iret_unnested c next =
    Reads Ss c.sp Word (λ ip.
    Reads Ss (above c.sp) Word (λ cs.
    Reads Ss (above (above c.sp)) Word (λ word.
    Loads Return cs next (
    within cs ip (
    Ends (record c { cs = cs; sp = (c.sp + 6) % 65536; ip = ip; flags = popped c.flags word }) (Bind Cs cs ∷ []))))))

-- with NT set it would return to another task
abbrev pub iret : Cpu → ℕ → Steps
iret c next = if is_set c.flags Nested then Stops (stop.Trap 13 0) else iret_unnested c next
