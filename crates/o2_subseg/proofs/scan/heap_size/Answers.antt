use Rattle.std.proofs.Common.{arith}
use Rattle.o2_subseg.proofs.Walks.{header_bad, header_good}
use Rattle.o2_subseg.proofs.scan.heap_size.Goals as goal
use Rattle.o2_subseg.proofs.scan.heap_size.Goals.{then-bytes-via-then-bytes, then-bytes-via-else-bytes+then-word-ne-MARK, then-bytes-via-else-bytes+else-word-ne-MARK+then-word-ne0, then-size-ne0-via-then-size-ne0, then-size-ne0-via-else-size-ne0+then-size-lt-LEAST_SIZE, then-size-ne0-via-else-size-ne0+else-size-lt-LEAST_SIZE+then-size-bytes}

pub returns-then-bytes : goal.returns-then-bytes
returns-then-bytes c = record {
  low = tt;
  within = tt;
  is = header_bad c.args.bytes.now (λ i. elim c.then-bytes.branch [
    | then-bytes-via-then-bytes w ↦ absurd (omega arith)
    | then-bytes-via-else-bytes+then-word-ne-MARK w ↦ absurd (omega (arith, w.word.ensures, i.mark))
    | then-bytes-via-else-bytes+else-word-ne-MARK+then-word-ne0 w ↦ absurd (omega (arith, w.word-else-word-ne-MARK.ensures, i.zero_word))
  ]);
}

pub returns-then-size-ne0 : goal.returns-then-size-ne0
returns-then-size-ne0 c = record {
  low = tt;
  within = tt;
  is = header_bad c.args.bytes.now (λ i. elim c.then-size-ne0.branch [
    | then-size-ne0-via-then-size-ne0 w ↦ absurd (omega (arith, c.word-size.ensures, i.whole))
    | then-size-ne0-via-else-size-ne0+then-size-lt-LEAST_SIZE w ↦ absurd (omega (arith, c.word-size.ensures, i.low))
    | then-size-ne0-via-else-size-ne0+else-size-lt-LEAST_SIZE+then-size-bytes w ↦ absurd (omega (arith, c.word-size.ensures, i.within))
  ]);
}

pub returns : goal.returns
returns c = record {
  is = header_good c.args.bytes.now c.word-size.result c.word-size.ensures
      (omega (arith, c.word.ensures)) (omega (arith, c.word-else-word-ne-MARK.ensures)) (omega arith) (omega arith) (omega arith);
  low = omega arith;
  within = omega arith;
}
