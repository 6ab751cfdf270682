use Rattle.std.proofs.Common.{length, sym, ◌∙◌}
use Rattle.o2_image.proofs.FillSteps.{belonging, image_is}
use Rattle.o2_ne.specs.NameTable.{exports}
use Rattle.o2_image.proofs.module.Module.fill.Goals as goal

pub fill_segment-requires-clause-belong : goal.fill_segment-requires-clause-belong
fill_segment-requires-clause-belong c =
    rw (c.of_segment.ensures, c.as_slice.ensures, c.file.ensures) (belonging _ _ _ _ _ (sym c.in-Some.ensures.value) (rw (← c.self.view_is) at c.requires.belongs))

pub returns : goal.returns
returns c =
    let is = image_is c.self.inside.names.file c.self.inside.head c.self.inside.segments (exports c.self.inside.names) c.self.inside.entries
    c.args.r.now c.args.seg c.in-Some.segment (length c.args.into.now) (sym c.in-Some.ensures.value) in
    rw (← c.self.view_is) ((rw (c.as_slice.ensures, c.file.ensures, c.of_segment.ensures) at c.fill_segment.ensures) ∙ sym is)
