use Rattle.std.proofs.Common.{◌≡◌, replicate}
use Rattle.std.specs.Prelude.{codes}
use Rattle.o2_conf.specs.Alone.{bare_process}
use Rattle.o2_gen.proofs.setting.processes.Given as goal

abbrev pub invariant-loop : goal.invariant-loop
invariant-loop l = l.processes.items ≡ replicate l.counter (bare_process (codes "BENCH"))
