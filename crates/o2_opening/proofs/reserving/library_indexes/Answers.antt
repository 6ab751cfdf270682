use Rattle.std.proofs.Common.{◌-◌, sym, arith}
use Rattle.o2_dynlink.specs.Outcome.{modules_of}
use Rattle.o2_opening.proofs.Libraries.{all_counted, count_next, few_counted, few_next, none_counted}
use Rattle.o2_opening.proofs.reserving.library_indexes.Goals as goal

pub loop-place-init : goal.loop-place-init
loop-place-init c = record { count = sym (none_counted (modules_of c.images-images.result.now)) }

pub overflow_add-count : goal.overflow_add-count
overflow_add-count c =
    let few = few_next c.args.linked.now c.images-images.result.now c.images-images.ensures.consistent c.images-images.ensures.value c.loop-place.place c.loop-place.count c.indexes_at-count.result c.loop-place.auto.place c.loop-place.invariant.count c.indexes_at-count.ensures in
    omega (arith, few)

pub loop-place-preserved : goal.loop-place-preserved
loop-place-preserved c = record {
  count = count_next (modules_of c.images-images.result.now) c.loop-place.place c.loop-place.count c.indexes_at-count.result c.loop-place.auto.place c.loop-place.invariant.count c.indexes_at-count.ensures;
}

pub returns-clause-value : goal.returns-clause-value
returns-clause-value c =
    all_counted c.args.linked.now c.images-images.result.now c.images-images.ensures.consistent c.images-images.ensures.value (c.loop-place.place - 1) c.loop-place.count (omega (arith, c.loop-place-test.false)) c.loop-place.invariant.count

pub returns-clause-most : goal.returns-clause-most
returns-clause-most c =
    few_counted c.args.linked.now c.images-images.result.now c.images-images.ensures.consistent c.images-images.ensures.value (c.loop-place.place - 1) c.loop-place.count c.loop-place.invariant.count
