use Rattle.std.proofs.Common.{◌≡◌, sym, ◌∙◌}
use Rattle.o2_ne_segs.specs.Records.{reloc_count}
use Rattle.o2_image.proofs.Runnable.{no_records, records_of}
use Rattle.o2_image.proofs.module.Module.segment_relocs.Goals as goal

pub returns-in-Some : goal.returns-in-Some
returns-in-Some c =
    let count : c.reloc_count.result ≡ reloc_count c.self.inside.names.file c.in-Some.segment = rw (c.as_slice.ensures, c.file.ensures) at c.reloc_count.ensures in
    rw (← c.self.view_is) (count ∙ sym (records_of c.self.inside.names.file c.self.inside.segments c.args.seg c.in-Some.segment c.in-Some.ensures.value))

pub returns-in-None : goal.returns-in-None
returns-in-None c = rw (← c.self.view_is) (sym (no_records c.self.inside.names.file c.self.inside.segments c.args.seg c.in-None.ensures.value))
