use Rattle.std.proofs.Common.{◌≡◌, ◌-◌, ◌≤◌, ℕ, List, Some, length, take, drop, arith, length-drop, sym, subst, ◌∙◌}
use Rattle.std.proofs.lemmas.List.{length-take-le}
use borrow.Rule.Slice.PartMut.{same_len_mid}
use Rattle.o2_outer.specs.Reads.{bytes_left}
use Rattle.o2_outer.proofs.Readers.{held_more, take_behind}
use Rattle.o2_outer.proofs.reading.read_on.Goals as goal

pub loop-filled-preserved : goal.loop-filled-preserved
loop-filled-preserved g c =
    let filled = c.loop-filled.filled in
    let within : filled ≤ length c.loop-filled.buffer = omega (arith, c.loop-filled.invariant.most, c.loop-filled.invariant.len, c.requires.room) in
    let lent : length c.read.new.buf ≡ c.args.wanted - filled = c.read.auto.buf ∙ length-take-le (c.args.wanted - filled) (drop filled c.loop-filled.buffer)
    (omega (arith, length-drop filled c.loop-filled.buffer, c.loop-filled.invariant.len, c.requires.room)) in
    let bound : c.in-Ok.count ≤ length c.read.new.buf = c.in-Ok.ensures.bound.0 in
    record {
      more = omega (arith, c.loop-filled.invariant.more);
      most = omega (arith, c.loop-filled.invariant.most, lent, bound);
      len = same_len_mid filled (c.args.wanted - filled) c.loop-filled.buffer c.read.new.buf c.read.auto.buf ∙ c.loop-filled.invariant.len;
      left = λ t e. subst (λ (held : List ℕ). bytes_left held (g.R.Read.remaining c.read.new.self) ≡ Some t)
          (sym (take_behind filled _ c.in-Ok.count c.loop-filled.buffer c.read.new.buf within bound))
          (held_more (take filled c.loop-filled.buffer) (take c.in-Ok.count c.read.new.buf) _ _ t c.in-Ok.ensures.bytes.0 (c.loop-filled.invariant.left t e));
    }
