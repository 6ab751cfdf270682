use Rattle.std.proofs.Common.{arith, sym, ◌∙◌}
use Rattle.o2_shared.proofs.Folding.{same_length, same_more, same_not}
use Rattle.o2_shared.proofs.text.Text.is.Goals as goal

pub returns-then-self-text : goal.returns-then-self-text
returns-then-self-text c = sym (same_length c.self.inside.bytes c.args.text.now c.args.self.now c.self.inside.len c.self.view_is (omega arith) c.if-self-text.true)

pub returns-then-self-k : goal.returns-then-self-k
returns-then-self-k c =
    sym (same_not c.self.inside.bytes c.args.text.now c.args.self.now c.self.inside.len c.self.view_is (omega arith) c.if-self-text.false c.loop-k.k (omega arith) (λ e. c.if-self-k.true (e ∙ sym c.to_ascii_lowercase.ensures.value)) c.loop-k.invariant)

pub loop-k-preserved : goal.loop-k-preserved
loop-k-preserved c =
    same_more c.self.inside.bytes c.args.text.now c.args.self.now c.self.inside.len c.self.view_is (omega arith) c.if-self-text.false c.loop-k.k (omega arith) (c.if-self-k.false ∙ c.to_ascii_lowercase.ensures.value) c.loop-k.invariant
