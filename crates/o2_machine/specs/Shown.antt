-- A process as the machine shows it: its registers, the number of its state, and the code with which it ended.
use Rattle.std.specs.Prelude.{ℕ, ◌-◌, ◌==◌, List, Option, None, slice_get, if◌then◌else◌}
use Rattle.o2_isa.specs.declared.cpu.Cpu.{Cpu}
use Rattle.o2_world.specs.declared.types.State.{State}
use Rattle.o2_world.specs.declared.types.State.TheVariants.{Live, Exited, Trapped}
use Rattle.o2_world.specs.World.{Process}
use Rattle.o2_space.specs.declared.space.Proc.{Proc}

-- 0 where it lives, 1 where it exited, and 2 where an exception ended it
abbrev pub state_number : State → ℕ
state_number Live = 0
state_number (Exited code) = 1
state_number (Trapped vector) = 2

-- the exit code or the vector, and 0 where it lives
abbrev pub end_code : State → ℕ
end_code Live = 0
end_code (Exited code) = code
end_code (Trapped vector) = vector

abbrev pub shown : Cpu → State → Cpu × ℕ × ℕ
shown cpu state = (cpu, state_number state, end_code state)

abbrev pub shown_process : Process → Cpu × ℕ × ℕ
shown_process p = shown p.cpu p.state

abbrev pub shown_proc : Proc → Cpu × ℕ × ℕ
shown_proc p = shown p.cpu p.state

-- the item of a number, from 1
abbrev pub numbered : {X : Type 0} → List X → ℕ → Option X
numbered xs n = if n == 0 then None else slice_get xs (n - 1)
