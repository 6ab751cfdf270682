use Rattle.std.proofs.Common.{◌≡◌, []}
use Rattle.toml.specs.View.{members_view, table_view}
use Rattle.o2_conf.specs.Steps.{each_member}
use Rattle.o2_conf.specs.Ordinals.{ordinal_step}
use Rattle.o2_conf.proofs.ordinals.ordinal_items.Given as goal

abbrev pub invariant-loop-name : goal.invariant-loop-name
invariant-loop-name l = each_member ordinal_step (members_view l.name-iterator) l.found.items ≡ each_member ordinal_step (table_view l.table) []
