use Rattle.std.proofs.Common.{◌≡◌, List, Ok, Result, ap, arith, length, sym, ◌∙◌}
use Rattle.o2_base.specs.declared.faults.ModuleFault.{ModuleFault}
use Rattle.o2_image.specs.Images.{Target}
use Rattle.o2_dynlink.specs.Imports.{target_in}
use Rattle.o2_dynlink.proofs.Ordered.{in_places}
use Rattle.o2_dynlink.proofs.gathering.gathered_by.Goals as goal

pub returns-in-Ok-clause-exact : goal.returns-in-Ok-clause-exact
returns-in-Ok-clause-exact c =
    let f = target_in c.args.scope.now.modules.now c.args.scope.now.bases.now c.args.scope.now.shim c.args.scope.now.ordinals.now c.args.base c.args.«module».now in
    let ok : List (List Target) → Result (List (List Target)) ModuleFault = λ r. Ok r in
    let many : length c.in-Some.places.items ≡ length c.args.«module».now.relocs = omega (arith, rw c.in-Some.is at c.in_ok-kept.ensures.count, c.segment_count.ensures, c.is_runnable.ensures.records) in
    in_places f c.args.«module».now.relocs c.args.order.now c.in-Some.places.items c.in-Ok.found c.in-Ok.ensures.exact many (rw c.in-Some.is at c.in_ok-kept.ensures.at) ∙ ap ok (sym (rw c.as_slice.ensures.value at c.in_ok-finish_in-in-Ok.ensures))
