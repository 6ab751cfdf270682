-- The run of one process alone: the same setting and the same number. The numbers below it stand for processes that have ended, and there is
-- no script.
use Rattle.std.specs.Prelude.{ℕ, ◌-◌, List, [], replicate, Result}
use Rattle.o2_base.specs.declared.faults.ModuleFault.{ModuleFault}
use Rattle.o2_isa.specs.declared.cpu.Cpu.{Cpu}
use Rattle.o2_world.specs.declared.types.State.TheVariants.{Exited}
use Rattle.o2_world.specs.World.{World, Setting, Process}
use Rattle.o2_world.specs.Starts.{Built, Start, nothing_built, started_as, where_started}

abbrev pub no_cpu : Cpu
no_cpu = record { ax = 0; cx = 0; dx = 0; bx = 0; sp = 0; bp = 0; si = 0; di = 0; ip = 0; flags = 0; cs = 0; ds = 0; es = 0; ss = 0 }

-- a process that has ended, and holds nothing
abbrev pub ended : Process
ended = record { cpu = no_cpu; state = Exited 0; held = []; place = 0; parent = 0; environment = 0 }

-- before process `number` starts: nothing but its lower numbers
abbrev pub before_it : ℕ → Built
before_it number = record nothing_built { processes = replicate (number - 1) ended }

-- the world before the first step of its run alone, or why its start is refused: `reserved` are the indexes of all libraries of the
-- machine file, as in the run of all
abbrev pub opening_alone : Setting → (reserved : List (ℕ × ℕ)) → (input : List ℕ) → (number : ℕ) → Start → Result World (ℕ × ModuleFault)
opening_alone s reserved input number start = where_started reserved [] s.budget input (started_as s.segments number start (before_it number))
