-- The records of all segments, counted one segment after the other.
use Rattle.std.proofs.Common.{◌≡◌, ℕ, suc, ◌+◌, ◌*◌, ◌<◌, List, drop, length, get_or, map, arith, add-one}
use Rattle.std.specs.List.{sum_by}
use Rattle.std.proofs.Math.Seq.{drop-cons}
use Rattle.std.proofs.lemmas.List.Sums.{sum_by-cons}
use Rattle.o2_ne.proofs.Tabulated.{length-tabulate}
use Rattle.o2_ne_segs.specs.declared.reloc.Reloc.{Reloc}
use Rattle.o2_ne_segs.specs.declared.segment.Segment.{Segment}
use Rattle.o2_ne_segs.specs.Records.{end_of, reloc_at, reloc_count, relocs_in}

abbrev sum_from : List ℕ → List Segment → ℕ
sum_from file ss = sum_by length (map (relocs_in file) ss)

cells : (f : Segment → List Reloc) (ss : List Segment) (i : ℕ) (d : Segment) → i < length ss
    → sum_by length (map f (drop i ss)) ≡ length (f (get_or ss i d)) + sum_by length (map f (drop (i + 1) ss))
cells f ss i d lt = rw (drop-cons ss i d lt, add-one) (sum_by-cons length (f (get_or ss i d)) (map f (drop (suc i) ss)))

pub goes_on : (file : List ℕ) (ss : List Segment) (i : ℕ) (d : Segment) (total here all : ℕ) → i < length ss → here ≡ reloc_count file (get_or ss i d)
    → total + sum_from file (drop i ss) ≡ all → total + here + sum_from file (drop (i + 1) ss) ≡ all
goes_on file ss i d total here all lt is h =
    let len : length (relocs_in file (get_or ss i d)) ≡ reloc_count file (get_or ss i d) =
    length-tabulate (λ k. reloc_at file (end_of (get_or ss i d) + 2 + 8 * k)) 0 (reloc_count file (get_or ss i d)) in
    let one : sum_from file (drop i ss) ≡ length (relocs_in file (get_or ss i d)) + sum_from file (drop (i + 1) ss) = cells (relocs_in file) ss i d lt in
    omega (arith, h, len, is, one)
