use Rattle.std.proofs.Common.{List, None, arith, refl, subst, sym}
use Rattle.os2core.specs.declared.spans.Span.{Span}
use Rattle.os2core.specs.Adjoining.{Adjoin}
use Rattle.os2core.proofs.Adjoined.{more}
use Rattle.os2core.proofs.spans.spans.Goals as goal

pub returns : goal.returns
returns c = (
  c.max.result,
  omega arith,
  subst (λ (ss : List Span). Adjoin 0 ss c.max.result) (sym c.in_ok-push.ensures.items)
      (more c.loop-range.spans.items 0 c.loop-range.at (record { from = c.loop-range.at; to = c.max.result; segment = None }) c.loop-range.invariant refl (omega arith)),
)
