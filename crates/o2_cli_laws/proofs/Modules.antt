-- A module that is read from a file of bytes passed its checks.
use Rattle.std.proofs.Common.{◌≡◌, ℕ, zero, suc, ◌+◌, ◌*◌, ◌≤◌, ◌<◌, ◌==◌, Bool, true, false, cond, List, [], ◌∷◌, ◌++◌, get_or, length, drop, All, Option, Some, None, sym, ◌∙◌, refl, arith, subst}
use Rattle.std.specs.Prelude.{IfOk, IsTrue, nat_le, not}
use Rattle.std.specs.List.{list_any}
use Rattle.std.proofs.Math.Nat.{le-max_right, max-le}
use Rattle.std.proofs.lemmas.Bool.{leb-true}
use Rattle.std.proofs.lemmas.List.{length-map, length-take-le, length-drop, get_or_past}
use Rattle.std.proofs.lemmas.List.Elements.{All-get_or, All-push}
use Rattle.o2_base.specs.declared.faults.NeFault.{NeFault}
use Rattle.o2_base.specs.declared.faults.NeFault.TheVariants.{BadTable}
use Rattle.o2_base.specs.declared.faults.Which.TheVariants as which
use Rattle.o2_base.specs.declared.faults.SegFault.TheVariants as fault
use Rattle.o2_ne.specs.declared.head.Head.{Head}
use Rattle.o2_ne.specs.Checks.{Check, all_hold, bytes_in, checked, in_file, or_fault}
use Rattle.o2_ne.specs.Header.{head_at, head_of, place_checks, place_of_header, profile_checks}
use Rattle.o2_ne.specs.NameTable.{Exports, IsOwnName, exports_of, names_at, nonresident, own_name, own_text}
use Rattle.o2_ne.specs.EntryTable.{entries_of}
use Rattle.o2_ne.specs.Steps.{over, steps}
use Rattle.o2_ne.specs.Words.{byte_at, string_at, word_at}
use Rattle.o2_ne.proofs.Binding.{lies_inside}
use Rattle.o2_ne.proofs.Tabulated.{length-tabulate}
use Rattle.o2_ne_segs.specs.declared.segment.Segment.{Segment}
use Rattle.o2_ne_segs.specs.Records.{relocs_in}
use Rattle.o2_ne_segs.specs.SegmentTable.{HasSize, file_len_of, nth_segment, or_64k, profile_checks as segment_checks, row_step, segment_at, segment_of, segments_of}
use Rattle.o2_image.specs.Faults.{under_ne, under_seg}
use Rattle.o2_image.specs.Modules.{auto_data_checks, is_writable, module_of}
use Rattle.o2_image.specs.References.{all_references, reference_at}
use Rattle.o2_image.specs.Records.{segment_step}
use Rattle.o2_image.specs.Whole.{HasAutoData, IsRunnable}
use Rattle.o2_cli_laws.proofs.Readings.{Hold, any_ok, checks_ok, more_ok, ne_ok, seg_ok, then_ok}

abbrev pub IsByte : ℕ → Type 0
IsByte b = b < 256

not_true : (b : Bool) → not b ≡ true → b ≡ false
not_true true e = cc
not_true false e = refl

-- Numbers of a file.
module _ (file : List ℕ) (bytes : All IsByte file) where
  small_byte : (p : ℕ) → byte_at file p < 256
  small_byte p = go (nat_le (length file) p) refl
    where
      past : (length file ≤ p) → get_or file p 0 < 256
      past le = let e = get_or_past file p 0 le in omega (arith, e)

      go : (b : Bool) → nat_le (length file) p ≡ b → get_or file p 0 < 256
      go true e = past (leb-true _ _ e)
      go false e = All-get_or IsByte file p 0 (grind arith) bytes

  small_word : (p : ℕ) → word_at file p < 65536
  small_word p = let a = small_byte p in let b = small_byte (p + 1) in omega (arith, a, b)

  -- The header.
  few_segments : IfOk (head_of file) (λ (h : Head). h.segments ≤ 254)
  few_segments =
      any_ok (λ (h : Head). h.segments ≤ 254) (checked (place_checks file) (place_of_header file)) _ (λ (p : ℕ).
      then_ok (λ (u : Unit {0}). Hold (profile_checks (head_at file p))) (λ (h : Head). h.segments ≤ 254) (all_hold (profile_checks (head_at file p))) _ (checks_ok (profile_checks (head_at file p)))
      (λ u held. leb-true (head_at file p).segments 254 held.1.1.1.1.0))

  -- The segments.
  some_bytes : (n : ℕ) → n < 65536 → (1 ≤ or_64k n) × (or_64k n ≤ 65536)
  some_bytes zero less = (omega arith, omega arith)
  some_bytes (suc n) less = go (suc n == 0) refl
    where
      go : (b : Bool) → (suc n == 0) ≡ b → (1 ≤ cond b 65536 (suc n)) × (cond b 65536 (suc n) ≤ 65536)
      go true e = (omega arith, omega arith)
      go false e = (omega arith, omega (arith, less))

  file_bytes : (position len : ℕ) → len < 65536 → file_len_of position len ≤ 65536
  file_bytes position len less = go (position == 0)
    where
      go : (b : Bool) → cond b 0 (or_64k len) ≤ 65536
      go true = omega arith
      go false = (some_bytes len less).1

  row_sized : (shift p : ℕ) → HasSize (segment_at file shift p)
  row_sized shift p =
      let least = some_bytes (word_at file (p + 6)) (small_word (p + 6)) in
      let most = file_bytes (word_at file p) (word_at file (p + 2)) (small_word (p + 2)) in
      let right = le-max_right (file_len_of (word_at file p) (word_at file (p + 2))) (or_64k (word_at file (p + 6))) in
      let some = least.0 in
      (omega (arith, right, some), max-le most least.1)

  segment_sized : (shift p : ℕ) → IfOk (segment_of file shift p) HasSize
  unfolding segment_of
  segment_sized shift p =
      any_ok HasSize (all_hold (bytes_in fault.Truncated file p 8 ∷ [])) _ (λ a.
      any_ok HasSize (all_hold (segment_checks (segment_at file shift p).flags)) _ (λ b.
      any_ok HasSize (all_hold (bytes_in fault.Truncated file (segment_at file shift p).file_at (segment_at file shift p).file_len ∷ [])) _ (λ c. row_sized shift p)))

  -- so many segments, each of 1 to 65,536 bytes
  record AreSized (count : ℕ) (ss : List Segment) : Type 0 where
    many : length ss ≡ count
    sizes : All HasSize ss

  rows_sized : (at shift n count : ℕ) (found : List Segment) → All HasSize found → length found + n ≡ count → IfOk (steps (row_step file at shift) n found) (AreSized count)
  unfolding steps
  rows_sized at shift zero count found sizes is = record { many = omega (arith, is); sizes = sizes }
  rows_sized at shift (suc n) count found sizes is =
      then_ok (λ (ss : List Segment). All HasSize ss × (length ss ≡ length found + 1)) (AreSized count) (row_step file at shift found) (steps (row_step file at shift) n)
      (then_ok HasSize (λ (ss : List Segment). All HasSize ss × (length ss ≡ length found + 1)) (segment_of file shift (at + 8 * length found)) _ (segment_sized shift (at + 8 * length found))
      (λ s size. (All-push HasSize found s sizes size, one_more found s)))
      (λ ss both. let more = both.1 in rows_sized at shift n count ss both.0 (omega (arith, is, more)))
    where
      one_more : (xs : List Segment) (x : Segment) → length (xs ++ x ∷ []) ≡ length xs + 1
      one_more [] x = omega arith
      one_more (y ∷ xs) x = let ih = one_more xs x in omega (arith, ih)

  table_sized : (at count shift : ℕ) → IfOk (segments_of file at count shift) (AreSized count)
  unfolding segments_of
  table_sized at count shift = rows_sized at shift count count [] (λ k d low. absurd (omega (arith, low))) (omega arith)

  -- Automatic data.
  auto_data : (h : Head) (ss : List Segment) → IfOk (all_hold (auto_data_checks h (nth_segment h.auto_seg ss))) (λ (u : Unit {0}). HasAutoData h ss)
  auto_data h ss = go (nth_segment h.auto_seg ss) refl
    where
      none_some : (s : Segment) → ◌≡◌ {A = Option Segment} None (Some s) → ⊥
      none_some s e = cc

      segment_is : (s t : Segment) → Some s ≡ Some t → s ≡ t
      segment_is s t e = cc

      go : (o : Option Segment) → nth_segment h.auto_seg ss ≡ o → IfOk (all_hold (auto_data_checks h o)) (λ (u : Unit {0}). HasAutoData h ss)
      go None at = λ s e. absurd (none_some s (sym at ∙ e))
      go (Some t) at =
          more_ok (λ (u : Unit {0}). Hold (auto_data_checks h (Some t))) (λ (u : Unit {0}). HasAutoData h ss) (all_hold (auto_data_checks h (Some t)))
          (λ u held s e.
          subst (λ (x : Segment). IsTrue (is_writable x.kind) × (x.size + h.stack + h.heap ≤ 65536)) (segment_is t s (sym at ∙ e))
          (held.0, leb-true (t.size + h.stack + h.heap) 65536 held.1.0))
          (checks_ok (auto_data_checks h (Some t)))

  -- The module's name.
  abbrev size_checks : ℕ → ℕ → List (Check NeFault)
  size_checks p n = or_fault (not (n == 0)) (BadTable which.Names) ∷ in_file file (p + 1) (n + 2) ∷ []

  abbrev line_checks : ℕ → ℕ → List (Check NeFault)
  line_checks p n = or_fault (not (list_any (λ b. b == 10) (string_at file (p + 1) n))) (BadTable which.Names) ∷ []

  own_is : (p n : ℕ) → n < 256 → IfOk (own_text file p n) IsOwnName
  own_is p n less =
      then_ok (λ (u : Unit {0}). Hold (size_checks p n)) IsOwnName (all_hold (size_checks p n)) _ (checks_ok (size_checks p n)) (λ (u : Unit {0}) (held : Hold (size_checks p n)).
      then_ok (λ (u : Unit {0}). Hold (line_checks p n)) IsOwnName (all_hold (line_checks p n)) _ (checks_ok (line_checks p n)) (λ (v : Unit {0}) (line : Hold (line_checks p n)).
      let inside = lies_inside file (p + 1) (n + 2) (omega arith) held.1.0 in
      let rest = length-drop (p + 1) file in
      let size : length (string_at file (p + 1) n) ≡ n = length-take-le n (drop (p + 1) file) (omega (arith, inside, rest)) in
      let some : 0 < n = positive n (not_true (n == 0) held.0) in
      record { some = omega (arith, size, some); short = omega (arith, size, less); line = not_true _ line.0 }))
    where
      positive : (n : ℕ) → (n == 0) ≡ false → 0 < n
      positive n e = grind arith

  named : (h : Head) → IfOk (exports_of file h) (λ (x : Exports). IsOwnName x.own)
  unfolding exports_of
  named h =
      then_ok IsOwnName (λ (x : Exports). IsOwnName x.own) (own_name file (h.at + h.resident_at)) _
      (any_ok IsOwnName (all_hold (in_file file (h.at + h.resident_at) 1 ∷ [])) _ (λ a. own_is (h.at + h.resident_at) (byte_at file (h.at + h.resident_at)) (small_byte (h.at + h.resident_at))))
      (λ own is.
      any_ok (λ (x : Exports). IsOwnName x.own) (names_at file (h.at + h.resident_at + length own + 3)) _ (λ resident.
      any_ok (λ (x : Exports). IsOwnName x.own) (nonresident file h) _ (λ others. is)))

  pub runnable : IfOk (module_of file) IsRunnable
  unfolding module_of
  runnable =
      then_ok (λ (h : Head). h.segments ≤ 254) IsRunnable (under_ne (head_of file)) _ (ne_ok (λ (h : Head). h.segments ≤ 254) (head_of file) few_segments) (λ h few.
      then_ok (AreSized h.segments) IsRunnable (under_seg (segments_of file (h.at + h.segments_at) h.segments h.shift)) _ (seg_ok (AreSized h.segments) (segments_of file (h.at + h.segments_at) h.segments h.shift) (table_sized (h.at + h.segments_at) h.segments h.shift)) (λ ss sized.
      then_ok (λ (u : Unit {0}). HasAutoData h ss) IsRunnable (all_hold (auto_data_checks h (nth_segment h.auto_seg ss))) _ (auto_data h ss) (λ u auto.
      then_ok (λ (x : Exports). IsOwnName x.own) IsRunnable (under_ne (exports_of file h)) _ (ne_ok (λ (x : Exports). IsOwnName x.own) (exports_of file h) (named h)) (λ names own.
      any_ok IsRunnable (all_references file h) _ (λ a.
      any_ok IsRunnable (under_ne (entries_of file h)) _ (λ es.
      any_ok IsRunnable (over (segment_step file h es) ss 1) _ (λ b.
      record {
        own = own;
        few = let many = sized.many in omega (arith, few, many);
        sizes = sized.sizes;
        auto = auto;
        references = length-tabulate (reference_at file h) 0 h.references;
        records = length-map ss (relocs_in file);
      })))))))
