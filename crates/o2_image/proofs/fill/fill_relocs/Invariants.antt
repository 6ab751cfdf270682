use Rattle.std.proofs.Common.{◌≡◌, ℕ, ◌+◌, ◌-◌, ◌*◌, ◌<◌, length, get_or, fold, drop}
use Rattle.o2_ne.specs.Steps.{tabulate}
use Rattle.o2_ne_segs.specs.Records.{end_of, reloc_at, reloc_count, relocs_in}
use Rattle.o2_image.specs.Alike.{row_of}
use Rattle.o2_image.specs.Images.{all_patches, byte_after}
use Rattle.o2_image.specs.Records.{bytes_of}
use Rattle.o2_image.proofs.fill.fill_relocs.Given as goal

abbrev pub invariant-loop-k : goal.invariant-loop-k
invariant-loop-k l = (i : ℕ) → i < length l.into →
    fold (byte_after i) (get_or l.into i 0)
    (all_patches (bytes_of l.file l.segment) (tabulate (λ j. reloc_at l.file (end_of l.segment + 2 + 8 * j)) l.k (reloc_count l.file l.segment - l.k)) (drop l.k (row_of l.targets)))
    ≡ fold (byte_after i) (get_or l.fn.into i 0) (all_patches (bytes_of l.file l.segment) (relocs_in l.file l.segment) (row_of l.targets))
