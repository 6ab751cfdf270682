use Rattle.std.proofs.Common.{◌≡◌, [], drop}
use Rattle.toml.specs.View.{items_view}
use Rattle.o2_conf.specs.Steps.{each}
use Rattle.o2_conf.specs.Values.{text_step}
use Rattle.o2_conf.proofs.arrays.text_items.Given as goal

abbrev pub invariant-loop-value : goal.invariant-loop-value
invariant-loop-value l = each (text_step l.key) (items_view (drop l.value-index l.values)) l.found.items ≡ each (text_step l.key) (items_view l.values) []
