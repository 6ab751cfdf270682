use Rattle.std.proofs.Common.{◌≡◌, ℕ, ◌+◌, ◌-◌, is_some}
use Rattle.std.specs.Prelude.{find}
use Rattle.o2_regions.specs.Maps.{held_at}
use Rattle.o2_world.specs.Rulings.{indexes}
use Rattle.o2_shared.specs.Shares.{holder_in}
use Rattle.o2_shared.proofs.sharing.first_held.Given as goal

-- no process before holds it
abbrev pub invariant-loop-pid : goal.invariant-loop-pid
invariant-loop-pid l = holder_in l.regions l.index ≡ find (λ (n : ℕ). is_some (held_at l.regions n l.index)) (indexes l.pid (l.regions.processes + 1 - l.pid))
