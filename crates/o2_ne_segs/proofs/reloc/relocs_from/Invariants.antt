use Rattle.std.proofs.Common.{◌≡◌, ◌+◌, ◌*◌, ◌-◌, ◌++◌}
use Rattle.o2_ne.specs.Steps.{tabulate}
use Rattle.o2_ne_segs.specs.Records.{reloc_at, relocs_at}
use Rattle.o2_ne_segs.proofs.reloc.relocs_from.Given as goal

abbrev pub invariant-loop-k : goal.invariant-loop-k
invariant-loop-k l = l.found.items ++ tabulate (λ k. reloc_at l.file (l.at + 8 * k)) l.k (l.count - l.k) ≡ relocs_at l.file l.at l.count
