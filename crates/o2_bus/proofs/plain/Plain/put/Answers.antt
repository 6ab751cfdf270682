use Rattle.std.proofs.Common.{arith, refl}
use Rattle.o2_bus.specs.Plain.{held_in, bytes_in, shown_in, count_in}
use Rattle.o2_bus.proofs.Holders.{length_put_part}
use Rattle.o2_bus.proofs.Writes.{name_within, bytes_after, size_after}
use Rattle.o2_bus.proofs.plain.Plain.put.Goals as goal

pub put_in_segment-requires-clause-named : goal.put_in_segment-requires-clause-named
unfolding bytes_in
put_in_segment-requires-clause-named c =
    name_within c.args.self.now.segments.items c.args.name 0 (omega (arith, c.requires.some, c.requires.there))

pub put_in_segment-requires-clause-room : goal.put_in_segment-requires-clause-room
unfolding bytes_in
put_in_segment-requires-clause-room c = c.requires.there

pub returns-clause-bytes : goal.returns-clause-bytes
unfolding bytes_in
returns-clause-bytes c = bytes_after _ _ _ _ c.put_in_segment.ensures

pub returns-clause-frame : goal.returns-clause-frame
unfolding held_in bytes_in shown_in count_in
returns-clause-frame c = record {
  held = refl;
  shown = c.put_in_segment.ensures.same_shown;
  sizes = size_after _ _ _ _ c.put_in_segment.ensures (length_put_part _ c.args.at c.args.part.now c.requires.there);
  count = c.put_in_segment.ensures.same_count;
}
