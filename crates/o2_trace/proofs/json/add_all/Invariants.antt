use Rattle.std.proofs.Common.{◌≡◌, ◌++◌, drop, map}
use Rattle.serde_json.specs.View.{view}
use Rattle.o2_trace.specs.Json.{changes_data}
use Rattle.o2_trace.proofs.json.add_all.Given as goal

abbrev pub invariant-loop-one : goal.invariant-loop-one
invariant-loop-one l = map view l.out.items ++ changes_data (drop l.one-index l.changes) ≡ map view l.initial.out.items ++ changes_data l.changes
