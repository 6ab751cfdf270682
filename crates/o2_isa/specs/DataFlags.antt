-- CLC, STC, CMC, CLD, STD, SAHF, LAHF and WAIT.
use Rattle.std.specs.Prelude.{ℕ, ◌/◌, ◌%◌, Bool, []}
use Rattle.o2_isa.specs.declared.flags.Flag.{Flag}
use Rattle.o2_isa.specs.declared.cpu.Cpu.{Cpu}
use Rattle.o2_isa.specs.Flags.{put}
use Rattle.o2_isa.specs.Registers.{with_reg8}
use Rattle.o2_isa.specs.Steps.{Steps, Ends, next_at}
use Rattle.o2_desc.specs.Bits.{loaded, shown}
use Rattle.o2_isa.specs.Finishing.{ended}

-- one flag is put
unfoldable pub flagging : Flag → Bool → Cpu → ℕ → Steps
flagging k on c next = Ends (ended c (put c.flags k on) next) []

unfoldable pub sahf : Cpu → ℕ → Steps
sahf c next = Ends (ended c (loaded c.flags (c.ax / 256)) next) []

-- AH is the low byte of the flags word
unfoldable pub lahf : Cpu → ℕ → Steps
lahf c next = Ends (next_at (with_reg8 c 4 (shown c.flags % 256)) next) []

unfoldable pub wait : Cpu → ℕ → Steps
wait c next = Ends (next_at c next) []
