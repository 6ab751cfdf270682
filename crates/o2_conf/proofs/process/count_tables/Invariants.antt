use Rattle.std.proofs.Common.{◌≡◌, drop}
use Rattle.toml.specs.View.{items_view}
use Rattle.o2_conf.specs.Steps.{each}
use Rattle.o2_conf.specs.Processes.{table_step}
use Rattle.o2_conf.proofs.process.count_tables.Given as goal

abbrev pub invariant-loop-value : goal.invariant-loop-value
invariant-loop-value l = record {
  so_far : each table_step (items_view (drop l.value-index l.values)) l.count ≡ each table_step (items_view l.values) 0;
  count : l.count ≡ l.value-index;
}
