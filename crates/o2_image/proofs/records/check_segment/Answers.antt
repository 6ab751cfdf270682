use Rattle.std.proofs.Common.{arith}
use Rattle.o2_image.proofs.records.check_segment.Goals as goal

pub returns-in-Ok-clause-whole : goal.returns-in-Ok-clause-whole
returns-in-Ok-clause-whole c = record {
  bytes = c.requires.bytes;
  count = c.in_ok-count.ensures.word;
  relocs = rw (← c.in_ok-count.ensures.value) c.in_ok-count.ensures.rows;
  places = λ j lt. rw (← c.bytes_of-bytes.ensures.value) (c.in-Ok.ensures.places j (omega (arith, c.in_ok-count.ensures.value, lt)));
}
