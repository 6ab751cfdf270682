use Rattle.std.proofs.Common.{◌≡◌, [], drop}
use Rattle.toml.specs.View.{items_view}
use Rattle.o2_conf.specs.Steps.{each}
use Rattle.o2_conf.specs.Script.{word_step}
use Rattle.o2_conf.proofs.script.word_items.Given as goal

abbrev pub invariant-loop-value : goal.invariant-loop-value
invariant-loop-value l = each word_step (items_view (drop l.value-index l.values)) l.found.items ≡ each word_step (items_view l.values) []
