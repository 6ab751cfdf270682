use Rattle.std.proofs.lemmas.Result.{err_from_is_err_and}
use Rattle.o2_dynlink.specs.Imports.{target_in}
use Rattle.o2_dynlink.proofs.Behind.{fails_behind, found_behind, skipped}
use Rattle.o2_dynlink.proofs.gathering.add_onwards.Goals as goal

pub returns-in_err-targets-clause-exact : goal.returns-in_err-targets-clause-exact
returns-in_err-targets-clause-exact c =
    let p = err_from_is_err_and c.from_residual.result c.from_residual.ensures.1 in
    let f = target_in c.args.scope.now.modules.now c.args.scope.now.bases.now c.args.scope.now.shim c.args.scope.now.ordinals.now c.args.base c.args.«module».now in
    let h = rw c.segment_relocs.ensures at c.in_err-targets.ensures.exact in
    rw (p.1, p.2) (fails_behind f c.args.«module».now.relocs c.args.found.now c.args.last c.args.seg c.args.skip c.requires.known c.requires.precedes c.in_err-targets.field-0.0 h)

pub add_behind-requires-clause-skip : goal.add_behind-requires-clause-skip
add_behind-requires-clause-skip c =
    let f = target_in c.args.scope.now.modules.now c.args.scope.now.bases.now c.args.scope.now.shim c.args.scope.now.ordinals.now c.args.base c.args.«module».now in
    skipped f c.args.«module».now.relocs c.args.found.now c.args.last c.args.seg c.args.skip c.requires.known c.requires.precedes

pub returns-then-held-clause-exact : goal.returns-then-held-clause-exact
returns-then-held-clause-exact c =
    let f = target_in c.args.scope.now.modules.now c.args.scope.now.bases.now c.args.scope.now.shim c.args.scope.now.ordinals.now c.args.base c.args.«module».now in
    let h = rw c.segment_relocs.ensures at c.in_ok-targets.ensures.exact in
    let is = rw c.if-held.true at c.in_ok-held.ensures in
    found_behind f c.args.«module».now.relocs c.args.found.now c.args.last c.args.seg c.args.skip c.requires.known c.requires.precedes c.in_ok-targets.targets.items c.add_behind.new.self h is
