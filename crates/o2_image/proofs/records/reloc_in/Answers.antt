use Rattle.std.proofs.Common.{◌≡◌, ◌≤◌, ◌<◌, ◌+◌, ◌*◌, Some, Option, ap, sym, ◌∙◌, arith, rules}
use Rattle.o2_ne.proofs.Tabulated.{slice_get-table, slice_get-tabulate_past}
use Rattle.o2_ne_segs.specs.declared.reloc.Reloc.{Reloc}
use Rattle.o2_ne_segs.specs.Records.{end_of, reloc_at, reloc_count}
use Rattle.o2_image.proofs.records.reloc_in.Goals as goal

pub returns-then-k-reloc_count : goal.returns-then-k-reloc_count
returns-then-k-reloc_count c =
    let past : reloc_count c.args.file.now c.args.segment.now ≤ c.args.k = omega (arith, c.reloc_count.ensures) in
    sym (slice_get-tabulate_past _ 0 _ c.args.k past)

pub returns : goal.returns
returns c =
    let lt : c.args.k < reloc_count c.args.file.now c.args.segment.now = omega (arith, c.reloc_count.ensures) in
    let row : c.reloc_at.result ≡ reloc_at c.args.file.now (end_of c.args.segment.now + 2 + 8 * c.args.k) = search rules in
    let some : Reloc → Option Reloc = λ r. Some r in
    ap some row ∙ sym (slice_get-table _ _ c.args.k lt)
