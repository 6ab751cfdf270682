use Rattle.std.proofs.Common.{arith, ◌≡◌, ◌≤◌, ◌<◌, ◌+◌, ◌*◌, ap, fold, get_or, length, sym, ◌∙◌, rules}
use Rattle.o2_ne_segs.specs.Records.{end_of, reloc_at, reloc_count}
use Rattle.o2_image.specs.Alike.{row_of}
use Rattle.o2_image.specs.Images.{Target, byte_after, patches_of}
use Rattle.o2_image.specs.Records.{bytes_of}
use Rattle.o2_image.proofs.FillSteps.{goes_on, is_done}
use Rattle.o2_image.proofs.fill.fill_relocs.Goals as goal

pub loop-k-preserved : goal.loop-k-preserved
loop-k-preserved c =
    let in_ts : c.loop-k.k < length (row_of c.args.targets.now) = omega (arith, c.len-k-end.ensures) in
    let lt : c.loop-k.k < reloc_count c.args.file.now c.args.segment.now = omega (arith, c.requires.belong, in_ts) in
    let row : c.reloc_at-reloc.result ≡ reloc_at c.args.file.now (end_of c.args.segment.now + 2 + 8 * c.loop-k.k) = search rules in
    let reloc = reloc_at c.args.file.now (end_of c.args.segment.now + 2 + 8 * c.loop-k.k) in
    λ i h. goes_on _ _ _ c.loop-k.k _ (0, 0) _ _ _ _ lt in_ts
    ((rw (row, c.bytes_of-bytes.ensures.value) at (c.fill_reloc.ensures i h))
    ∙ ap (λ (t : Target). fold (byte_after i) (get_or c.loop-k.into i 0) (patches_of (bytes_of c.args.file.now c.args.segment.now) reloc t)) (sym (c.target_of.ensures (0, 0))))
    (c.loop-k.invariant i (rw (← c.fill_reloc.auto.into) h))

pub returns : goal.returns
returns c =
    let le : reloc_count c.args.file.now c.args.segment.now ≤ c.loop-k.k = omega (arith, c.requires.belong, c.len-k-end.ensures) in
    λ i h. is_done _ _ _ c.loop-k.k _ _ _ _ le (c.loop-k.invariant i h)
