use Rattle.std.proofs.Common.{◌<◌, length, arith, rules}
use Rattle.std.proofs.lemmas.Grind.{common_steps}
use Rattle.o2_subseg.proofs.Walks.{inside_at}
use Rattle.o2_subseg.proofs.calls.follow.Goals as goal

pub store-requires : goal.store-requires
store-requires c =
    let short : c.loop-at.at < length c.args.plan.now.words = first_of (omega arith, search rules, grind (arith, common_steps)) in
    let inside = inside_at (length c.args.bytes.now) c.args.plan.now.words c.args.plan.now.count c.loop-at.at c.requires.inside (omega arith) short in
    omega (arith, inside, c.loop-at.auto.bytes)
