-- Processes that have started, before their first steps.
use Rattle.std.specs.Prelude.{true, length, replicate}
use Rattle.o2_conf.specs.declared.conf.Conf.{Conf}
use Rattle.o2_isa.specs.declared.cpu.Cpu.{Cpu}
use Rattle.o2_sched.specs.Schedule.{Schedule, opening_dispatch}
use Rattle.o2_space.specs.declared.space.Proc.{Proc}
use Rattle.o2_world.specs.declared.types.State.TheVariants.{Live}

abbrev pub first_proc : Cpu → Proc
first_proc c = record { cpu = c; state = Live }

-- all of them live
abbrev pub first_schedule : Conf → Schedule
first_schedule c = record {
  dispatch = opening_dispatch c.script c.budget;
  flags = replicate (length c.process) true;
  quantum = c.quantum;
}
