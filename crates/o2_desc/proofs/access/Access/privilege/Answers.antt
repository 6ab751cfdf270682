use Rattle.std.proofs.Common.{◌∙◌, ap, ℕ, ◌/◌}
use Rattle.o2_desc.proofs.BitTests.{and_privilege}
use Rattle.o2_desc.proofs.access.Access.privilege.Goals as goal

pub returns : goal.returns
returns c = ap (λ (n : ℕ). n / 32) (c.intersection.ensures tt) ∙ and_privilege c.args.self.0
