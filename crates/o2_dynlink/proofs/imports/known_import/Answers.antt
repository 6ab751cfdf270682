use Rattle.std.proofs.Common.{◌≡◌, ◌<◌, Some, arith, map, sym, ◌∙◌}
use Rattle.o2_image.specs.Getters.{nth}
use Rattle.o2_dynlink.specs.Leads.{lead_of}
use Rattle.o2_dynlink.proofs.Known.{known_named}
use Rattle.o2_dynlink.proofs.imports.known_import.Goals as goal

pub returns : goal.returns
returns c =
    let low : c.args.reloc.now.second < 65536 = omega arith in
    let lead : nth (map (lead_of c.args.scope.now.modules.now) c.args.«module».now.references) c.args.reloc.now.first ≡ Some c.in-Some.lead =
    rw c.requires.leads at (sym c.lead_at.ensures ∙ c.in-Some.is) in
    known_named c.args.scope.now.modules.now c.args.scope.now.bases.now c.args.scope.now.shim c.args.scope.now.ordinals.now c.args.«module».now c.args.memo.now c.args.reloc.now c.in-Some.lead c.in-Some-block_of.block
    c.known.result c.requires.memo low c.requires.named lead (sym c.block_of.ensures ∙ c.in-Some-block_of.is) c.known.ensures
