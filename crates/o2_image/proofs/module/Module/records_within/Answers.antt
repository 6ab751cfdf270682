use Rattle.std.proofs.Common.{sym}
use Rattle.o2_ne_segs.specs.Records.{relocs_in}
use Rattle.o2_image.proofs.Getting.{nth_list-map}
use Rattle.o2_image.proofs.module.Module.records_within.Goals as goal

pub returns : goal.returns
returns c =
    let file = c.self.inside.names.file in
    let one = nth_list-map (relocs_in file) c.self.inside.segments c.args.a c.in-Some.first (sym c.in-Some.ensures.value) in
    let two = nth_list-map (relocs_in file) c.self.inside.segments c.args.b c.in-Some-get.second (sym c.in-Some-get.ensures.value) in
    let h = rw (c.as_slice.ensures, c.file.ensures) at c.records_within.ensures in
    rw (← c.self.view_is) (rw (one, two) h)
