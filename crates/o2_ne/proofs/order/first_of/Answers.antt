use Rattle.std.proofs.Common.{rules}
use Rattle.std.proofs.lemmas.List.Sorted.{IsPartitionPoint-from_clause}
use Rattle.o2_ne.specs.NameOrder.{is_before}
use Rattle.o2_ne.proofs.NameIndex.{parted}
use Rattle.o2_ne.proofs.order.first_of.Goals as goal

pub returns : goal.returns
returns c =
    IsPartitionPoint-from_clause (is_before c.args.file.now c.args.name.now) _ _ c.partition_point.ensures.partitioned
    (parted _ _ c.args.name.now c.requires) (λ a r q k. search rules)
