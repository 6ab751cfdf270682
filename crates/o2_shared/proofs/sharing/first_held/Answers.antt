use Rattle.std.proofs.Common.{ℕ, ◌+◌, ◌∙◌, is_some, ap, sym, arith}
use Rattle.o2_regions.specs.Maps.{held_at}
use Rattle.o2_shared.proofs.Holders.{next_from}
use Rattle.o2_shared.proofs.sharing.first_held.Goals as goal

pub loop-pid-preserved : goal.loop-pid-preserved
loop-pid-preserved c =
    c.loop-pid.invariant
    ∙ next_from (λ (n : ℕ). is_some (held_at c.args.regions.now n c.args.index)) c.loop-pid.pid (c.args.regions.now.processes + 1) (omega (arith, c.processes-pid-end.ensures)) (ap is_some (sym c.in_default.ensures.held))
