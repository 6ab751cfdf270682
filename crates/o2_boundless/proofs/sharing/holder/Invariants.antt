use Rattle.std.proofs.Common.{◌≡◌, ℕ, ◌+◌, ◌-◌, find, length}
use Rattle.std.specs.Prelude.{is_some}
use Rattle.o2_world.specs.Known.{held_at}
use Rattle.o2_world.specs.Rulings.{indexes}
use Rattle.o2_boundless.specs.Sharing.{holder_among}
use Rattle.o2_boundless.proofs.sharing.holder.Given as goal

abbrev pub invariant-loop-k : goal.invariant-loop-k
invariant-loop-k l = find (λ (n : ℕ). is_some (held_at l.processes n l.index)) (indexes (l.k + 1) (length l.processes - l.k)) ≡ holder_among l.processes l.index
