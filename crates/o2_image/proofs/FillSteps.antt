-- The patches of a segment's records, one record after the other, and the image that they make.
use Rattle.std.proofs.Common.{◌≡◌, ℕ, suc, ◌+◌, ◌-◌, ◌*◌, ◌<◌, ◌≤◌, List, ◌++◌, Some, true, map, drop, length, get_or, fold, refl, sym, ap, ◌∙◌, arith, add-one}
use Rattle.std.proofs.Math.Seq.{drop-cons}
use Rattle.std.proofs.lemmas.List.Sums.{fold-append}
use Rattle.o2_ne.specs.declared.entries.Entry.{Entry}
use Rattle.o2_ne.specs.declared.head.Head.{Head}
use Rattle.o2_ne.specs.NameTable.{Exports}
use Rattle.o2_ne.specs.Steps.{tabulate}
use Rattle.o2_ne.proofs.Tabulated.{length-tabulate, tabulate-each}
use Rattle.o2_ne_segs.specs.declared.reloc.Reloc.{Reloc}
use Rattle.o2_ne_segs.specs.declared.segment.Segment.{Segment}
use Rattle.o2_ne_segs.specs.Records.{end_of, reloc_at, reloc_count, relocs_in}
use Rattle.o2_ne_segs.specs.SegmentTable.{nth_segment}
use Rattle.o2_image.specs.Getters.{nth_list}
use Rattle.o2_image.specs.Images.{Patch, Target, all_patches, byte_after, image, image_byte, patches_of, segment_image}
use Rattle.o2_image.specs.Modules.{parts_of}
use Rattle.o2_image.specs.Records.{bytes_of}
use Rattle.o2_image.specs.ImageList.{same_shape}
use Rattle.o2_image.proofs.Shapes.{shape_lengths}
use Rattle.o2_image.proofs.Getting.{nth_list-map, same_lengths}

-- the patches of the record at k, then those behind it
next_record : (bytes : List ℕ) (g : ℕ → Reloc) (n k : ℕ) (ts : List Target) (d : Target) → k < n → k < length ts
    → all_patches bytes (tabulate g k (n - k)) (drop k ts)
    ≡ patches_of bytes (g k) (get_or ts k d) ++ all_patches bytes (tabulate g (k + 1) (n - (k + 1))) (drop (k + 1) ts)
unfolding tabulate
next_record bytes g n k ts d lt in_ts =
    let e : n - k ≡ suc (n - (k + 1)) = omega arith in
    rw (e, drop-cons ts k d in_ts, add-one) refl

pub goes_on : (bytes : List ℕ) (g : ℕ → Reloc) (n k : ℕ) (ts : List Target) (d : Target) (i old new total : ℕ) → k < n → k < length ts
    → new ≡ fold (byte_after i) old (patches_of bytes (g k) (get_or ts k d))
    → fold (byte_after i) old (all_patches bytes (tabulate g k (n - k)) (drop k ts)) ≡ total
    → fold (byte_after i) new (all_patches bytes (tabulate g (k + 1) (n - (k + 1))) (drop (k + 1) ts)) ≡ total
goes_on bytes g n k ts d i old new total lt in_ts is h =
    let rest = all_patches bytes (tabulate g (k + 1) (n - (k + 1))) (drop (k + 1) ts) in
    ap (λ (v : ℕ). fold (byte_after i) v rest) is
    ∙ sym (fold-append (byte_after i) old (patches_of bytes (g k) (get_or ts k d)) rest)
    ∙ ap (λ (ps : List Patch). fold (byte_after i) old ps) (sym (next_record bytes g n k ts d lt in_ts)) ∙ h

pub is_done : (bytes : List ℕ) (g : ℕ → Reloc) (n k : ℕ) (ts : List Target) (i old total : ℕ) → n ≤ k
    → fold (byte_after i) old (all_patches bytes (tabulate g k (n - k)) (drop k ts)) ≡ total → old ≡ total
unfolding tabulate
is_done bytes g n k ts i old total le h = let e : n - k ≡ 0 = omega arith in rw e at h

-- what was copied and then patched is the image
pub filled : (bytes seen : List ℕ) (patches : List Patch) (before copied after : List ℕ) → seen ≡ bytes
    → length copied ≡ length before → length after ≡ length copied
    → ((k : ℕ) → k < length copied → get_or copied k 0 ≡ get_or seen k 0)
    → ((k : ℕ) → k < length after → get_or after k 0 ≡ fold (byte_after k) (get_or copied k 0) patches)
    → after ≡ image bytes patches (length before)
filled bytes seen patches before copied after same len_copied len_after copy patch =
    let each : (k : ℕ) → k < length after → get_or after k 0 ≡ image_byte bytes patches (0 + k) = λ k h.
    let e : 0 + k ≡ k = omega arith in
    patch k h ∙ ap (λ (v : ℕ). fold (byte_after k) v patches) (copy k (omega arith) ∙ ap (λ (bs : List ℕ). get_or bs k 0) same)
    ∙ ap (image_byte bytes patches) (sym e) in
    tabulate-each (image_byte bytes patches) after 0 each
    ∙ ap (λ (n : ℕ). tabulate (image_byte bytes patches) 0 n) (len_after ∙ len_copied)

-- a segment of a module has as many targets as records
pub belonging : (file : List ℕ) (ss : List Segment) (targets : List (List Target)) (seg : ℕ) (s : Segment) → nth_segment seg ss ≡ Some s
    → same_shape targets (map (relocs_in file) ss) ≡ true → length (nth_list targets seg) ≡ reloc_count file s
belonging file ss targets seg s is h =
    same_lengths targets (map (relocs_in file) ss) seg (shape_lengths targets (map (relocs_in file) ss) h)
    ∙ ap (λ (rs : List Reloc). length rs) (nth_list-map (relocs_in file) ss seg s is)
    ∙ length-tabulate (λ k. reloc_at file (end_of s + 2 + 8 * k)) 0 (reloc_count file s)

-- its image is that of its bytes and its records
pub image_is : (file : List ℕ) (h : Head) (ss : List Segment) (names : Exports) (es : List Entry) (targets : List (List Target)) (seg : ℕ) (s : Segment) (n : ℕ)
    → nth_segment seg ss ≡ Some s
    → segment_image (parts_of file h ss names es) targets seg n
    ≡ image (bytes_of file s) (all_patches (bytes_of file s) (relocs_in file s) (nth_list targets seg)) n
image_is file h ss names es targets seg s n is =
    let relocs = nth_list-map (relocs_in file) ss seg s is in
    rw (is, relocs) refl
