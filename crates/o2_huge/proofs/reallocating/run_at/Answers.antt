use Rattle.std.proofs.Common.{◌-◌, ℕ, min, ap, sym, ◌∙◌}
use Rattle.o2_huge.proofs.reallocating.run_at.Goals as goal

pub returns-then-is_of_run-clause-run : goal.returns-then-is_of_run-clause-run
returns-then-is_of_run-clause-run c =
    (sym c.if-is_of_run.ensures, ap (λ (n : ℕ). record { first = c.args.index; count = n }) (c.min-count.ensures ∙ ap (λ (e : ℕ). min c.args.held.reserved (e - c.args.index)) (c.region_end.ensures.end 0)))
