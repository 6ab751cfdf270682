use Rattle.std.proofs.Common.{◌≡◌, [], drop, length, All}
use Rattle.toml.specs.View.{items_view}
use Rattle.o2_conf.specs.Limits.{HasEnvironment}
use Rattle.o2_conf.specs.Steps.{each}
use Rattle.o2_conf.specs.Processes.{process_step}
use Rattle.o2_conf.proofs.process.process_items.Given as goal

abbrev pub invariant-loop-value : goal.invariant-loop-value
invariant-loop-value l = record {
  so_far : each process_step (items_view (drop l.value-index l.values)) l.found.items ≡ each process_step (items_view l.values) [];
  count : length l.found.items ≡ l.value-index;
  fits : All HasEnvironment l.found.items;
}
