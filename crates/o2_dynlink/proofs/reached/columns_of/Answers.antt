use Rattle.std.proofs.Common.{Bool, Global, Vec, map}
use Rattle.o2_dynlink.specs.Reached.{refers}
use Rattle.o2_dynlink.proofs.Items.{pushed_map}
use Rattle.o2_dynlink.proofs.reached.columns_of.Goals as goal

pub loop-library-preserved : goal.loop-library-preserved
loop-library-preserved c =
    pushed_map (λ (v : Vec Bool Global). v.items) (λ x. map (λ m. refers c.args.shim.now m x) c.args.modules.now) c.args.modules.now c.loop-library.library-index _ _ _ _ _ c.loop-library-test.true c.library-item.is c.in_ok-push.ensures.items
    c.in_ok-referrers.ensures c.loop-library.invariant
