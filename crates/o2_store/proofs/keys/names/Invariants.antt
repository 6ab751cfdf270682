use Rattle.std.proofs.Common.{◌≡◌, drop}
use Rattle.o2_store.specs.Needs.{named_in}
use Rattle.o2_store.proofs.keys.names.Given as goal

abbrev pub invariant-loop-id : goal.invariant-loop-id
invariant-loop-id l = record {
  rest : named_in l.entries l.keep l.key ≡ named_in l.entries (drop l.id-index l.keep) l.key;
}
