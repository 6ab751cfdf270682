use Rattle.std.proofs.Common.{sym, ◌∙◌}
use Rattle.o2_outer.specs.Streams.{swap_history}
use Rattle.o2_outer.proofs.Known.{unknown_zeros}
use Rattle.o2_outer.proofs.file_swap.FileSwapSwapDevice.knows.Goals as goal

-- src/file_swap.rt
pub returns-clause-zeros : goal.returns-clause-zeros
returns-clause-zeros g c = λ unknown. unknown_zeros (swap_history c.args.self.now) c.args.i (sym c.knows.ensures ∙ unknown)
