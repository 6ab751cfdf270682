use Rattle.std.proofs.Common.{◌≡◌, ◌||◌, ℕ, length, nat_eq, take}
use Rattle.std.specs.Vec.{vec_capacity}
use Rattle.o2_store.specs.Needs.{AreKeys, all_need, has, named_in}
use Rattle.o2_store.proofs.keys.collect.Given as goal

abbrev pub invariant-loop-id : goal.invariant-loop-id
invariant-loop-id l = record {
  once : AreKeys (length l.entries) l.keys.items;
  capacity : vec_capacity l.keys ≡ vec_capacity l.initial.keys;
  need : l.total ≡ all_need l.entries l.keys.items;
  any : (k : ℕ) → has l.keys.items k ≡ (nat_eq k l.key || named_in l.entries (take l.id-index l.keep) k);
}
