use Rattle.std.proofs.Common.{◌≡◌, arith, length, subst}
use Rattle.std.specs.Prelude.{IfOk}
use Rattle.std.specs.List.{zip}
use Rattle.std.proofs.lemmas.Iterator.{YieldsList-from_zip, items_from_collect}
use Rattle.std.proofs.lemmas.Iterator.Adapters.{YieldsList-from_vec}
use Rattle.std.proofs.lemmas.Iterator.Consumers.{YieldsList-at}
use Rattle.o2_dynlink.proofs.checks.pairs_of.Goals as goal

pub returns : goal.returns
returns c =
    let n : c.into_iter-first.result.rest.len ≡ length c.args.modules.items = omega (arith, c.into_iter-first.ensures.len, c.args.modules.ok) in
    let m : c.into_iter-second.result.rest.len ≡ length c.args.targets.items = omega (arith, c.into_iter-second.ensures.len, c.args.targets.ok) in
    let first = YieldsList-from_vec c.args.modules.items c.into_iter-first.ensures.rest n in
    let second = YieldsList-from_vec c.args.targets.items c.into_iter-second.ensures.rest m in
    let road = YieldsList-from_zip (YieldsList-at c.zip.ensures.first first) (YieldsList-at c.zip.ensures.second second) in
    subst (λ r. IfOk r (λ w. w.items ≡ zip c.args.modules.items c.args.targets.items)) c.in_ok-pairs.was (items_from_collect c.collect.result c.collect.ensures.ran road)
