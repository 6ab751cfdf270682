use Rattle.std.proofs.Common.{w64, sym, ap, ◌∙◌, eqb, ℕ}
use Rattle.std.proofs.lemmas.Nat.Bits.{bit_at_set_same, bit_at_set_other, bit_at_clear_same, bit_at_clear_other}
use Rattle.o2_regions.proofs.bits.with_bit.Goals as goal

pub returns-then-mark-clause-same : goal.returns-then-mark-clause-same
returns-then-mark-clause-same c = ap (λ (x : ℕ). eqb x 1) (bit_at_set_same w64 c.args.word c.args.bit c.requires) ∙ sym c.if-mark.true

pub returns-then-mark-clause-other : goal.returns-then-mark-clause-other
returns-then-mark-clause-other c = λ b h n. bit_at_set_other w64 c.args.word c.args.bit c.requires b n

pub returns-else-mark-clause-same : goal.returns-else-mark-clause-same
returns-else-mark-clause-same c = ap (λ (x : ℕ). eqb x 1) (bit_at_clear_same w64 c.args.word c.args.bit c.requires) ∙ sym c.if-mark.false

pub returns-else-mark-clause-other : goal.returns-else-mark-clause-other
returns-else-mark-clause-other c = λ b h n. bit_at_clear_other w64 c.args.word c.args.bit c.requires b h n
