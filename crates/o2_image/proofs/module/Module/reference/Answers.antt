use Rattle.std.proofs.Common.{◌≡◌, ◌-◌, ℕ, List, Option, Some, ap, sym, ◌∙◌}
use Rattle.o2_image.specs.References.{reference_at}
use Rattle.o2_image.proofs.Getting.{nth_past, nth_there}
use Rattle.o2_image.proofs.module.Module.reference.Goals as goal

pub returns-then-k-self : goal.returns-then-k-self
returns-then-k-self c = rw (← c.self.view_is) (sym (nth_past _ _ c.args.k c.if-k-self.true))

pub returns : goal.returns
returns c =
    let text : c.reference_at.result.now ≡ reference_at c.self.inside.names.file c.self.inside.head (c.args.k - 1) =
    rw (c.as_slice.ensures, c.file.ensures) at c.reference_at.ensures in
    let some : List ℕ → Option (List ℕ) = λ t. Some t in
    rw (← c.self.view_is) (ap some text ∙ sym (nth_there _ _ c.args.k c.if-k-eq0.false c.if-k-self.false))
