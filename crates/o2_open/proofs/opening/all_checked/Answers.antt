use Rattle.std.proofs.Common.{List, arith, subst}
use Rattle.std.specs.List.{All}
use Rattle.std.proofs.lemmas.List.{take_all}
use Rattle.std.proofs.lemmas.List.Elements.{All-more}
use Rattle.o2_image.specs.Parts.{Parts}
use Rattle.o2_image.specs.Whole.{IsRunnable}
use Rattle.o2_open.proofs.opening.all_checked.Goals as goal

pub loop-one-preserved : goal.loop-one-preserved
loop-one-preserved c = record {
  so_far = All-more IsRunnable c.args.modules.now c.loop-one.one-index c.one-item.result c.loop-one-test.true c.loop-one.invariant.so_far
      (subst IsRunnable c.one-item.is c.is_runnable.ensures);
}

pub returns : goal.returns
returns c = subst (λ (xs : List Parts). All IsRunnable xs) (take_all c.loop-one.one-index c.args.modules.now (omega (arith, c.loop-one-test.false))) c.loop-one.invariant.so_far
