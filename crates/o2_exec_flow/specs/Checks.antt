-- The checks of ENTER, as one answer: of words that lie one below the other in SS.
use Rattle.std.specs.Prelude.{ℕ, zero, suc, Result, Ok}
use Rattle.o2_isa.specs.declared.instr.Width.TheVariants.{Word}
use Rattle.o2_isa.specs.declared.instr.Sreg.TheVariants.{Ss}
use Rattle.o2_isa.specs.declared.cpu.Stop.{Stop}
use Rattle.o2_isa.specs.View.{View, read_of, room_of}
use Rattle.o2_isa.specs.Steps.{or_trap, below, ◌>>=◌}

abbrev pub reads_down : ℕ → ℕ → View → Result ℕ Stop
reads_down zero at v = Ok 0
reads_down (suc k) at v = or_trap (read_of v Ss at Word) >>= (λ _. reads_down k (below at) v)

abbrev pub rooms_down : ℕ → ℕ → View → Result ℕ Stop
rooms_down zero at v = Ok 0
rooms_down (suc k) at v = or_trap (room_of v Ss at Word) >>= (λ _. rooms_down k (below at) v)
