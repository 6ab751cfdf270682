use Rattle.std.proofs.Common.{sym, subst, arith}
use Rattle.o2_gate.specs.Texts.{IsTextOf}
use Rattle.o2_gate.proofs.Texts.{none_cut, none_text, zero_text}
use Rattle.o2_gate.proofs.text.text_in.Goals as goal

pub returns-in-Some-clause-some : goal.returns-in-Some-clause-some
returns-in-Some-clause-some c =
    subst (IsTextOf c.args.bytes.now) (sym c.padded.ensures)
    (zero_text c.args.bytes.now c.in-Some.end c.requires c.in-Some.ensures.bound (sym c.in-Some.ensures.value))

pub returns-then-bytes-lt129-clause-none : goal.returns-then-bytes-lt129-clause-none
returns-then-bytes-lt129-clause-none c = none_cut c.args.bytes.now c.if-bytes-lt129.true (sym c.in-None.ensures.value)

pub returns-else-bytes-lt129-clause-some : goal.returns-else-bytes-lt129-clause-some
returns-else-bytes-lt129-clause-some c =
    subst (IsTextOf c.args.bytes.now) (sym c.padded-in-None.ensures)
    (none_text c.args.bytes.now (let a = c.requires in let b = c.if-bytes-lt129.false in omega (arith, a, b)) (sym c.in-None.ensures.value))
