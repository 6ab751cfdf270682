-- Where the entries of a module stand in its file.
use Rattle.std.specs.Prelude.{◌≡◌, ◌≢◌, ℕ, ◌+◌, ◌*◌, ◌<◌, ◌≤◌, List, [], ◌++◌}
use Rattle.o2_ne.specs.declared.entries.Entry.{Entry}
use Rattle.o2_ne.specs.EntryTable.{entry_at, size_of}
use Rattle.o2_ne.specs.Steps.{tabulate}
use Rattle.o2_ne.specs.Words.{byte_at}

-- the entries of a bundle with this type and count, the first of them at place p and of ordinal n
abbrev pub bundle_entries : List ℕ → ℕ → ℕ → ℕ → ℕ → List Entry
bundle_entries file kind count p n = tabulate (λ j. entry_at file kind (n + j) (p + size_of kind * j)) 0 count

-- the entries of the bundles from place p on, whose next ordinal is n. A bundle is its count, its type and its entries;
-- the bundles end at a count of 0, or where the next would begin at the table's end or behind it; type 0 skips ordinals.
pub data BundlesStand (file : List ℕ) (end : ℕ) : ℕ → ℕ → List Entry → Type 0 where
  at_end : {p n : ℕ} → end ≤ p → BundlesStand file end p n []
  at_zero : {p n : ℕ} → p < end → byte_at file p ≡ 0 → BundlesStand file end p n []
  skipped : {p n : ℕ} {es : List Entry} → p < end → byte_at file p ≢ 0 → byte_at file (p + 1) ≡ 0
      → BundlesStand file end (p + 2) (n + byte_at file p) es → BundlesStand file end p n es
  bundle : {p n : ℕ} {es rest : List Entry} → p < end → byte_at file p ≢ 0 → byte_at file (p + 1) ≢ 0
      → es ≡ bundle_entries file (byte_at file (p + 1)) (byte_at file p) (p + 2) n ++ rest
      → BundlesStand file end (p + 2 + size_of (byte_at file (p + 1)) * byte_at file p) (n + byte_at file p) rest
      → BundlesStand file end p n es
