-- Each number has one digit more than its tenth.
use Rattle.std.proofs.Common.{◌∷◌, [], ◌+◌, ◌/◌, ◌%◌, arith, length, decimal, ap, ◌∙◌, length-append, append_assoc}
use Rattle.o2_cli.proofs.Decimal.{decimal_more, length_more}
use Rattle.o2_cli.proofs.bench.+push_digits.Goals as goal

pub push_byte-requires-else-n-lt10 : goal.push_byte-requires-else-n-lt10
push_byte-requires-else-n-lt10 t c =
    let more = length_more c.args.n c.if-n-lt10.false (omega (arith, c.ranges.n.fits)) in
    let now = ap length c.push_digits.ensures ∙ length-append c.args.line.now (decimal (c.args.n / 10)) in
    omega (arith, more, now)

pub returns-else-n-lt10 : goal.returns-else-n-lt10
returns-else-n-lt10 t c =
    let n = c.args.n in
    rw (c.push_byte-else-n-lt10.ensures.text, c.push_digits.ensures, decimal_more n c.if-n-lt10.false (omega (arith, c.ranges.n.fits)))
    (append_assoc c.args.line.now (decimal (n / 10)) ((48 + n % 10) ∷ []))
