-- PUSH, POP, PUSHA, POPA, PUSHF and POPF.
use Rattle.std.specs.Prelude.{ℕ, zero, suc, List, [], ◌∷◌}
use Rattle.o2_isa.specs.declared.instr.Width.TheVariants.{Word}
use Rattle.o2_isa.specs.declared.instr.Sreg.{Sreg}
use Rattle.o2_isa.specs.declared.instr.Sreg.TheVariants.{Ss}
use Rattle.o2_isa.specs.declared.instr.Arg.{Arg}
use Rattle.o2_isa.specs.declared.instr.Arg.TheVariants as arg
use Rattle.o2_isa.specs.declared.cpu.Cpu.{Cpu}
use Rattle.o2_isa.specs.Steps.{Steps, Ends, Reads, Room, Change, Write, valued, storing, below, above}
use Rattle.o2_desc.specs.Bits.{popped, shown}
use Rattle.o2_isa.specs.DataMoves.{loading}

-- SP falls by 2, and the word is stored there
unfoldable pub pushing : Cpu → ℕ → ℕ → Steps
pushing c x next = Room Ss (below c.sp) Word (Ends (record c { sp = below c.sp; ip = next }) (Write Ss (below c.sp) Word x ∷ []))

-- PUSH SP stores the value before
unfoldable pub push : Cpu → Arg → ℕ → Steps
push c a next = valued c Word a (λ x. pushing c x next)

unfoldable pub pushf : Cpu → ℕ → Steps
pushf c next = pushing c (shown c.flags) next

-- the word at SS:SP, and SP rises by 2; the destination is written last
abbrev pub raised : Cpu → Cpu
raised c = record c { sp = above c.sp }

unfoldable pub pop_sreg : Cpu → Sreg → ℕ → Steps
pop_sreg c r next = Reads Ss c.sp Word (λ x. loading (raised c) r x next)

unfoldable pub pop_into : Cpu → Arg → ℕ → Steps
pop_into c a next = Reads Ss c.sp Word (λ x. storing (raised c) Word a x next)

abbrev pub pop : Cpu → Arg → ℕ → Steps
pop c (arg.S r) next = pop_sreg c r next
pop c a next = pop_into c a next

unfoldable pub popf : Cpu → ℕ → Steps
popf c next = Reads Ss c.sp Word (λ x. Ends (record c { sp = above c.sp; flags = popped c.flags x; ip = next }) [])

-- SP after so many pushes
abbrev pub lowered : ℕ → ℕ → ℕ
lowered zero sp = sp
lowered (suc n) sp = lowered n (below sp)

-- room for so many words below SP
abbrev pub room_below : ℕ → ℕ → Steps → Steps
room_below zero sp p = p
room_below (suc n) sp p = Room Ss (below sp) Word (room_below n (below sp) p)

-- words stored one below the other
abbrev pub stacked : List ℕ → ℕ → List Change
stacked [] sp = []
stacked (x ∷ xs) sp = Write Ss (below sp) Word x ∷ stacked xs (below sp)

-- SP as it was before
unfoldable pub pusha : Cpu → ℕ → Steps
pusha c next =
    room_below 8 c.sp (
    Ends (record c { sp = lowered 8 c.sp; ip = next }) (stacked (c.ax ∷ c.cx ∷ c.dx ∷ c.bx ∷ c.sp ∷ c.bp ∷ c.si ∷ c.di ∷ []) c.sp))

-- SP after so many pops
abbrev pub risen : ℕ → ℕ → ℕ
risen zero sp = sp
risen (suc n) sp = above (risen n sp)

-- the word for SP is read and dropped
unfoldable pub popa : Cpu → ℕ → Steps
popa c next =
    Reads Ss c.sp Word (λ di.
    Reads Ss (risen 1 c.sp) Word (λ si.
    Reads Ss (risen 2 c.sp) Word (λ bp.
    Reads Ss (risen 3 c.sp) Word (λ dropped.
    Reads Ss (risen 4 c.sp) Word (λ bx.
    Reads Ss (risen 5 c.sp) Word (λ dx.
    Reads Ss (risen 6 c.sp) Word (λ cx.
    Reads Ss (risen 7 c.sp) Word (λ ax.
    Ends (record c { ax = ax; cx = cx; dx = dx; bx = bx; sp = risen 8 c.sp; bp = bp; si = si; di = di; ip = next }) []))))))))
