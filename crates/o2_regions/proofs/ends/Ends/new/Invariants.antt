use Rattle.std.proofs.Common.{◌≡◌, ℕ, ◌&&◌, nat_le, nat_lt, length}
use Rattle.o2_regions.specs.Lives.{lives}
use Rattle.o2_regions.proofs.ends.Ends.new.Given as goal

abbrev pub invariant-loop-pid : goal.invariant-loop-pid
invariant-loop-pid l =
    (length l.live.items ≡ 65) × ((n : ℕ) → lives l.live.items n ≡ (nat_le 1 n && nat_lt n l.pid))
