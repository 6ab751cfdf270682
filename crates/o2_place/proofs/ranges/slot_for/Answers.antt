use Rattle.std.proofs.Common.{ltb, arith, rules}
use Rattle.std.proofs.lemmas.Bool.Decides.{nat_tests}
use Rattle.std.proofs.lemmas.List.Sorted.{IsPartitionPoint-from_clause}
use Rattle.o2_place.specs.declared.ranges.Range.{Range}
use Rattle.o2_place.proofs.RangeLemmas.{below_first}
use Rattle.o2_place.proofs.ranges.slot_for.Goals as goal

pub returns-clause-before : goal.returns-clause-before
returns-clause-before c =
    let q = IsPartitionPoint-from_clause (λ (r : Range). ltb r.at c.args.at) _ _ c.partition_point.ensures.partitioned (below_first c.args.ranges.now c.args.size c.args.at c.requires) (λ a r q k. search rules) in
    λ k d l. let b = q.0 k d (omega arith) l in grind (arith, nat_tests, b)

pub returns-clause-after : goal.returns-clause-after
returns-clause-after c =
    let q = IsPartitionPoint-from_clause (λ (r : Range). ltb r.at c.args.at) _ _ c.partition_point.ensures.partitioned (below_first c.args.ranges.now c.args.size c.args.at c.requires) (λ a r q k. search rules) in
    λ k d l m. let b = q.1 k d l m in grind (arith, nat_tests, b)
