use Rattle.o2_regions.specs.Maps.{is_taken}
use Rattle.o2_huge.proofs.Rows.{index_small, no_run}
use Rattle.o2_huge.proofs.allocating.free_run.Goals as goal

pub returns-then-count-gt-REGION-clause-chosen : goal.returns-then-count-gt-REGION-clause-chosen
returns-then-count-gt-REGION-clause-chosen c = no_run (is_taken c.args.regions.now c.args.region) c.args.region c.args.count c.if-count-gt-REGION.true

pub returns-clause-index : goal.returns-clause-index
returns-clause-index c = index_small c.lowest.result (is_taken c.args.regions.now c.args.region) c.args.region c.args.count c.requires.some c.lowest.ensures.free
