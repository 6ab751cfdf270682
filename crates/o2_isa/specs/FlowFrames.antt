-- ENTER and LEAVE.
use Rattle.std.specs.Prelude.{ℕ, zero, suc, ◌+◌, ◌-◌, ◌*◌, ◌%◌, List, [], ◌∷◌}
use Rattle.o2_isa.specs.declared.instr.Width.TheVariants.{Word}
use Rattle.o2_isa.specs.declared.instr.Sreg.TheVariants.{Ss}
use Rattle.o2_isa.specs.declared.cpu.Cpu.{Cpu}
use Rattle.o2_isa.specs.Steps.{Steps, Ends, Reads, Room, Change, Write, Copy, below, above}

-- so much below, modulo 65,536
abbrev pub down : ℕ → ℕ → ℕ
down x n = (x + 65536 - n) % 65536

-- reads of k words, one below the other
abbrev pub reading_down : ℕ → ℕ → Steps → Steps
reading_down zero at p = p
reading_down (suc k) at p = Reads Ss at Word (λ x. reading_down k (below at) p)

-- room for k words, one below the other
abbrev pub room_down : ℕ → ℕ → Steps → Steps
room_down zero at p = p
room_down (suc k) at p = Room Ss at Word (room_down k (below at) p)

-- k words of the old frame are pushed, then the address of the new one
abbrev pub frames : ℕ → ℕ → ℕ → ℕ → List Change
frames zero from to frame = Write Ss to Word frame ∷ []
frames (suc k) from to frame = Copy Ss from to ∷ frames k (below from) (below to) frame

-- BP is pushed; for a level above 0 then the words of the old frame, one less than the level, and the address of the new one
abbrev pub pushed_frames : ℕ → Cpu → List Change
pushed_frames zero c = []
pushed_frames (suc k) c = frames k (below c.bp) (below (below c.sp)) (below c.sp)

-- All is checked first, then all happens in sequence: a word of the old frame is read after the pushes before it.
abbrev pub entering : ℕ → Cpu → ℕ → ℕ → Steps
entering level c size next =
    reading_down (level - 1) (below c.bp) (
    room_down (level + 1) (below c.sp) (
    Ends (record c { sp = down (down (below c.sp) (2 * level)) size; bp = below c.sp; ip = next })
    (Write Ss (below c.sp) Word c.bp ∷ pushed_frames level c)))

-- the level is modulo 32
unfoldable pub enter : Cpu → ℕ → ℕ → ℕ → Steps
enter c size level next = entering (level % 32) c size next

-- SP goes up to BP, and BP is popped
unfoldable pub leave : Cpu → ℕ → Steps
leave c next = Reads Ss c.bp Word (λ x. Ends (record c { sp = above c.bp; bp = x; ip = next }) [])
