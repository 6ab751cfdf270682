use Rattle.o2_outer.proofs.Written.{written_in_part}
use Rattle.o2_outer.proofs.streams.write_whole.Goals as goal

pub returns-else-write_on-piece : goal.returns-else-write_on-piece
returns-else-write_on-piece g c = record { takes = written_in_part c.args.piece.now c.write_on.result _ _ c.write_on.ensures.gains }
