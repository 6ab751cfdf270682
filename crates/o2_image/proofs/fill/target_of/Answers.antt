use Rattle.std.proofs.Common.{sym}
use Rattle.std.proofs.lemmas.Option.{get_or_from_slice_get}
use Rattle.o2_image.specs.Alike.{row_of}
use Rattle.o2_image.proofs.Getting.{not_none}
use Rattle.o2_image.proofs.fill.target_of.Goals as goal

pub returns : goal.returns
returns c = λ d. get_or_from_slice_get (row_of c.args.targets.now) c.args.k _ d (sym c.in-Some.ensures)

pub unreachable-requires : goal.unreachable-requires
unreachable-requires c = not_none (row_of c.args.targets.now) c.args.k c.requires (sym c.in-None.ensures)
