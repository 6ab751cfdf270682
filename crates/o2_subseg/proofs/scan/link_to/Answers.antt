use Rattle.std.proofs.Common.{◌≡◌, arith}
use Rattle.o2_subseg.proofs.Walks.{link_bad, link_good}
use Rattle.o2_subseg.proofs.scan.link_to.Goals as goal
use Rattle.o2_subseg.proofs.scan.link_to.Goals.{then-offset-ne0-via-then-offset-ne0, then-offset-ne0-via-else-offset-ne0+then-from-low, then-offset-ne0-via-else-offset-ne0+else-from-low+then-from, then-block-ne0-via-then-block-ne0, then-block-ne0-via-else-block-ne0+then-block-lt4, then-block-ne0-via-else-block-ne0+else-block-lt4+then-end-from}

pub returns-then-offset-ne0 : goal.returns-then-offset-ne0
returns-then-offset-ne0 c = link_bad c.args.bytes.now c.args.size c.args.low c.args.link c.word-offset.result c.word-offset.ensures c.if-offset-eq0.false
    (λ len e i. elim c.then-offset-ne0.branch [
      | then-offset-ne0-via-then-offset-ne0 w ↦ absurd (omega (arith, i.whole))
      | then-offset-ne0-via-else-offset-ne0+then-from-low w ↦ absurd (omega (arith, i.behind))
      | then-offset-ne0-via-else-offset-ne0+else-from-low+then-from w ↦ absurd (omega (arith, i.long, i.within))
    ])

pub returns-then-block-ne0 : goal.returns-then-block-ne0
returns-then-block-ne0 c = link_bad c.args.bytes.now c.args.size c.args.low c.args.link c.word-offset.result c.word-offset.ensures c.if-offset-eq0.false
    (λ len e i. let same : c.word.result ≡ len = omega (arith, c.word.ensures, e) in elim c.then-block-ne0.branch [
      | then-block-ne0-via-then-block-ne0 w ↦ absurd (omega (arith, i.whole_length, same))
      | then-block-ne0-via-else-block-ne0+then-block-lt4 w ↦ absurd (omega (arith, i.long, same))
      | then-block-ne0-via-else-block-ne0+else-block-lt4+then-end-from w ↦ absurd (omega (arith, i.within, same))
    ])

pub returns : goal.returns
returns c = link_good c.args.bytes.now c.args.size c.args.low c.args.link c.word-offset.result c.word.result c.word-offset.ensures c.word.ensures
    c.if-offset-eq0.false (record { whole = omega arith; behind = omega arith; whole_length = omega arith; long = omega arith; within = omega arith })
