use Rattle.std.proofs.Common.{◌≡◌, ◌+◌, true}
use Rattle.o2_huge.specs.Resized.{is_member_in}
use Rattle.o2_calls.proofs.NotedMaps.{many_first, many_next}
use Rattle.o2_calls.proofs.noting.members_from.Goals as goal

pub loop-place-init : goal.loop-place-init
loop-place-init c = many_first c.args.regions.now c.args.pid c.args.first c.args.index c.args.count

pub loop-place-preserved : goal.loop-place-preserved
loop-place-preserved c =
    let passes : is_member_in c.args.regions.now c.args.pid c.args.first (c.args.index + c.loop-place.place) ≡ true = cc (c.is_member.ensures, c.if-not-is_member.false) in
    many_next c.args.regions.now c.args.pid c.args.first c.args.index c.args.count c.loop-place.place c.loop-place-test.true passes c.loop-place.invariant
