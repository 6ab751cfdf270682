use Rattle.std.proofs.Common.{◌≡◌, take}
use Rattle.o2_dynlink.specs.Outcome.{modules_of}
use Rattle.o2_cli.specs.Checks.{module_lines}
use Rattle.o2_cli.proofs.lines.lines.Given as goal

abbrev pub invariant-loop-k : goal.invariant-loop-k
invariant-loop-k l = record { so_far : l.text.items ≡ module_lines l.shim (take l.k (modules_of l.linked.images)) }
