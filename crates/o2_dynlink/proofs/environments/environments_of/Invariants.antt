use Rattle.std.proofs.Common.{◌≡◌, ◌++◌, drop, map}
use Rattle.o2_conf.specs.Environments.{environment_bytes}
use Rattle.o2_dynlink.proofs.environments.environments_of.Given as goal

abbrev pub invariant-loop-process : goal.invariant-loop-process
invariant-loop-process l =
    l.environments.items ++ map environment_bytes (drop l.process-index l.processes) ≡ map environment_bytes l.processes
