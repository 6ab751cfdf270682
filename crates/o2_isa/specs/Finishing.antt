-- How most instructions begin and end: an operand taken as a number of the width, and a result put into an operand together
-- with the flags word and IP.
use Rattle.std.specs.Prelude.{ℕ, ◌%◌, [], ◌∷◌, Result, Ok}
use Rattle.o2_isa.specs.declared.instr.Width.{Width}
use Rattle.o2_isa.specs.declared.instr.Arg.{Arg}
use Rattle.o2_isa.specs.declared.instr.Arg.TheVariants as arg
use Rattle.o2_isa.specs.declared.cpu.Cpu.{Cpu}
use Rattle.o2_isa.specs.declared.cpu.Stop.{Stop}
use Rattle.o2_isa.specs.Registers.{with_reg16, with_reg8, offset_of}
use Rattle.o2_isa.specs.Steps.{State, Steps, Ends, Room, Write, valued, value_of, narrow, ◌>>=◌}

abbrev pub narrowed : Width → Result ℕ Stop → Result ℕ Stop
narrowed w r = r >>= (λ x. Ok (narrow w x))

-- an operand as a number of the width
abbrev pub taken_of : State → Width → Arg → Result ℕ Stop
taken_of s w a = narrowed w (value_of s w a)

-- an operand as a number of the width, and what follows
unfoldable pub taking : Cpu → Width → Arg → (ℕ → Steps) → Steps
taking c w a f = valued c w a (λ x. f (narrow w x))

-- a value put into a register; any other operand keeps all as it is
unfoldable pub placed : Cpu → Arg → ℕ → Cpu
placed c (arg.R8 n) x = with_reg8 c n (x % 256)
placed c (arg.R16 n) x = with_reg16 c n x
placed c _ x = c

-- the flags word and IP at the end
abbrev pub ended : Cpu → ℕ → ℕ → Cpu
ended c f next = record c { flags = f; ip = next }

-- a result put into a register or into memory, and the flags word
unfoldable pub finishing : Cpu → Width → Arg → ℕ → ℕ → ℕ → Steps
finishing c w (arg.M ea) x f next = Room ea.seg (offset_of c ea) w (Ends (ended c f next) (Write ea.seg (offset_of c ea) w (narrow w x) ∷ []))
finishing c w (arg.R8 n) x f next = Ends (ended (with_reg8 c n (x % 256)) f next) []
finishing c w (arg.R16 n) x f next = Ends (ended (with_reg16 c n x) f next) []
finishing c w _ x f next = Ends (ended c f next) []
