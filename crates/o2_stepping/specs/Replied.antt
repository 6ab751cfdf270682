-- How a call on segments leaves its process, and what its lines are.
use Rattle.std.specs.Prelude.{ℕ, List, [], ◌∷◌, if◌then◌else◌}
use Rattle.o2_isa.specs.declared.cpu.Cpu.{Cpu}
use Rattle.o2_world.specs.declared.types.State.{State}
use Rattle.o2_world.specs.declared.types.State.TheVariants.{Live, Trapped}
use Rattle.o2_world.specs.Effect.{has_trap_flag}
use Rattle.o2_world.specs.World.{Line, Traps}

-- where the trap flag was set before it, exception 1 follows
abbrev pub state_behind : Cpu → State
state_behind c = if has_trap_flag c.flags then Trapped 1 else Live

abbrev pub trap_lines : ℕ → Cpu → List Line
trap_lines number c = if has_trap_flag c.flags then Traps number 1 c.cs c.ip ∷ [] else []
