use Rattle.o2_dump_worlds.proofs.Reading.{segment_is_read}
use Rattle.o2_dump_worlds.proofs.laws.segments_are_read.Goals as goal

pub returns : goal.returns
returns c = segment_is_read
