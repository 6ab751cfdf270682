use Rattle.o2_dynlink.specs.Imports.{target_in}
use Rattle.o2_dynlink.proofs.Behind.{found_within, has_room}
use Rattle.o2_dynlink.proofs.gathering.add_targets.Goals as goal

pub add_within-requires-clause-within : goal.add_within-requires-clause-within
add_within-requires-clause-within c =
    let f = target_in c.args.scope.now.modules.now c.args.scope.now.bases.now c.args.scope.now.shim c.args.scope.now.ordinals.now c.args.base c.args.«module».now in
    let known = rw c.in-Some.is at c.requires.known in
    rw c.segment_relocs.ensures (has_room f c.args.«module».now.relocs c.args.found.now c.in-Some.last c.args.seg c.in-Some-records_within.skip known c.in-Some-records_within.ensures)

pub returns-in-Some-records_within-clause-exact : goal.returns-in-Some-records_within-clause-exact
returns-in-Some-records_within-clause-exact c =
    let f = target_in c.args.scope.now.modules.now c.args.scope.now.bases.now c.args.scope.now.shim c.args.scope.now.ordinals.now c.args.base c.args.«module».now in
    let known = rw c.in-Some.is at c.requires.known in
    let is = rw c.segment_relocs.ensures at c.in_ok-add_within.ensures in
    found_within f c.args.«module».now.relocs c.args.found.now c.in-Some.last c.args.seg c.in-Some-records_within.skip known c.in-Some-records_within.ensures c.add_within.new.self is
