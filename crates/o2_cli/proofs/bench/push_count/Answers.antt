use Rattle.std.proofs.Common.{arith, ap, ◌∙◌, length, length-append, decimal}
use Rattle.o2_cli.proofs.Decimal.{length_most}
use Rattle.o2_cli.proofs.bench.push_count.Goals as goal

pub push_text-requires : goal.push_text-requires
push_text-requires c =
    let len = ap length c.push_digits.ensures ∙ length-append c.args.line.now (decimal c.args.n) in
    let most = length_most c.args.n (omega (arith, c.ranges.n.fits)) in
    omega (arith, len, most, c.requires)

pub returns-clause-most : goal.returns-clause-most
returns-clause-most c =
    let len = ap length c.push_digits.ensures ∙ length-append c.args.line.now (decimal c.args.n) in
    let most = length_most c.args.n (omega (arith, c.ranges.n.fits)) in
    omega (arith, len, most, c.push_text.ensures.len)
