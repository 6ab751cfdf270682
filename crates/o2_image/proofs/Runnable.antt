-- What a run of a checked module goes by, and how many records its segments have.
use Rattle.std.proofs.Common.{◌≡◌, ℕ, ◌+◌, ◌*◌, ◌-◌, ◌==◌, List, Some, None, Bool, true, false, length, map, refl, sym, ap, ◌∙◌}
use Rattle.std.proofs.lemmas.List.{length-map}
use Rattle.std.proofs.lemmas.Option.{slice_get-map}
use Rattle.o2_ne.specs.declared.head.Head.{Head}
use Rattle.o2_ne.specs.declared.entries.Entry.{Entry}
use Rattle.o2_ne.specs.NameTable.{Exports, IsOwnName}
use Rattle.o2_ne.proofs.Tabulated.{length-tabulate}
use Rattle.o2_ne_segs.specs.declared.segment.Segment.{Segment}
use Rattle.o2_ne_segs.specs.Records.{end_of, reloc_at, reloc_count, relocs_in}
use Rattle.o2_ne_segs.specs.SegmentTable.{AllSized, nth_segment}
use Rattle.o2_image.specs.Getters.{nth_list}
use Rattle.o2_image.specs.Modules.{parts_of}
use Rattle.o2_image.specs.References.{reference_at}
use Rattle.o2_image.specs.Whole.{IsRunnable, IsWhole}
use Rattle.o2_image.proofs.Getting.{nth_list-map}

pub runnable : (file : List ℕ) (h : Head) (ss : List Segment) (names : Exports) (es : List Entry) → IsWhole file h ss → IsOwnName names.own → AllSized ss
    → IsRunnable (parts_of file h ss names es)
runnable file h ss names es whole own sizes = record {
  own = own;
  few = whole.few;
  sizes = sizes;
  auto = whole.auto;
  references = length-tabulate (reference_at file h) 0 h.references;
  records = length-map ss (relocs_in file);
}

pub records_of : (file : List ℕ) (ss : List Segment) (n : ℕ) (s : Segment) → Some s ≡ nth_segment n ss → length (nth_list (map (relocs_in file) ss) n) ≡ reloc_count file s
records_of file ss n s h =
    ap length (nth_list-map (relocs_in file) ss n s (sym h)) ∙ length-tabulate (λ k. reloc_at file (end_of s + 2 + 8 * k)) 0 (reloc_count file s)

pub no_records : (file : List ℕ) (ss : List Segment) (n : ℕ) → None ≡ nth_segment n ss → length (nth_list (map (relocs_in file) ss) n) ≡ 0
no_records file ss n h = go (n == 0) refl
  where
    go : (b : Bool) → (n == 0) ≡ b → length (nth_list (map (relocs_in file) ss) n) ≡ 0
    go true e = rw e refl
    go false e = let none = rw e at h in rw (e, slice_get-map (relocs_in file) ss (n - 1), ← none) refl
