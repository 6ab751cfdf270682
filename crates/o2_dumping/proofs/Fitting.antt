-- What loops have told so far fits.
use Rattle.std.proofs.Common.{◌≡◌, ℕ, ◌+◌, ◌<◌, List, length, get_or, Option, Some, None, refl, sym, ap, ◌∙◌, subst, arith, inl, inr, option_map}
use Rattle.std.specs.Prelude.{slice_get}
use Rattle.std.proofs.lemmas.Bool.{cases_lt}
use Rattle.std.proofs.lemmas.Option.{get_or_from_slice_get}
use Rattle.o2_entries.specs.declared.Entry.{Entry}
use Rattle.o2_entries.specs.Tables.{slot_at}
use Rattle.o2_place.specs.declared.seg_id.SegId.{SegId}
use Rattle.o2_regions.specs.Maps.{Maps, held_at}
use Rattle.o2_store.specs.declared.brought.Place.TheVariants.{Blocks}
use Rattle.o2_store.specs.Shelf.{IsShelf, Shelf, blocks_for, entry, entry_of, entry_or, place_of, shown_at}
use Rattle.o2_store.proofs.Tables.{aged_is}
use Rattle.o2_swapmap.specs.Piles.{blocks_of}
use Rattle.o2_dumping.specs.declared.shown.Shown.{Shown}
use Rattle.o2_dumping.specs.Fits.{AreLong, FitsAt, IsFitHold, IsFitPlace, IsFitRow}
use Rattle.o2_dumping.specs.Fronts.{shown_of}
use Rattle.o2_dumping.specs.Told.{Row, numbers}
use Rattle.o2_dumping.proofs.Segmenting.{count_is, within}

-- ---- by one more

one_more : (P : ℕ → Type 0) (k : ℕ) → ((i : ℕ) → i < k → P i) → P k → (i : ℕ) → i < k + 1 → P i
one_more P k before here i l = elim (cases_lt i k) [
  | inl m ↦ before i m
  | inr m ↦ (let e : k ≡ i = omega (arith, l, m) in subst P e here)
]

pub long_more : (block now : ℕ → List ℕ) (bs : List ℕ) (k n : ℕ) → AreLong block bs k → n ≡ get_or bs k 0 → now ≡ block → length (now n) ≡ 512 → AreLong block bs (k + 1)
long_more block now bs k n before is same long =
    one_more (λ i. length (block (get_or bs i 0)) ≡ 512) k before
    (ap (λ (z : ℕ). length (block z)) (sym is) ∙ (ap (λ (f : ℕ → List ℕ). length (f n)) (sym same) ∙ long))

pub fits_more : (s : Shelf) (block now : ℕ → List ℕ) (k n : ℕ) → ((i : ℕ) → i < k → FitsAt s block (get_or (numbers s) i 0)) → n ≡ get_or (numbers s) k 0 → now ≡ block
    → FitsAt s now n → (i : ℕ) → i < k + 1 → FitsAt s block (get_or (numbers s) i 0)
fits_more s block now k n before is same fits =
    one_more (λ i. FitsAt s block (get_or (numbers s) i 0)) k before
    (subst (λ (z : ℕ). FitsAt s block z) is (subst (λ (f : ℕ → List ℕ). FitsAt s f n) same fits))

pub holds_more : (m : Maps) (pid k : ℕ) → ((i : ℕ) → i < k → IsFitHold (held_at m pid i)) → IsFitHold (held_at m pid k) → (i : ℕ) → i < k + 1 → IsFitHold (held_at m pid i)
holds_more m pid k before here = one_more (λ i. IsFitHold (held_at m pid i)) k before here

pub tables_more : (m : Maps) (k : ℕ) → ((j i : ℕ) → j < k → i < 8192 → IsFitHold (held_at m (j + 1) i)) → ((i : ℕ) → i < 8192 → IsFitHold (held_at m (k + 1) i))
    → (j i : ℕ) → j < k + 1 → i < 8192 → IsFitHold (held_at m (j + 1) i)
tables_more m k before here j i l small = one_more (λ n. (i : ℕ) → i < 8192 → IsFitHold (held_at m (n + 1) i)) k (λ n x y z. before n y x z) here j l i small

pub rows_more : (rows : List Row) (k : ℕ) (d : Row) → k < length rows → ((i : ℕ) (p : Row) → i < k → slice_get rows i ≡ Some p → IsFitRow p) → IsFitRow (get_or rows k d)
    → (i : ℕ) (p : Row) → i < k + 1 → slice_get rows i ≡ Some p → IsFitRow p
rows_more rows k d l before here i p m is =
    one_more (λ j. (q : Row) → slice_get rows j ≡ Some q → IsFitRow q) k (λ j x q. before j q x)
    (λ q there. subst IsFitRow (get_or_from_slice_get rows k q d there) here) i m p is

-- ---- a segment

shown_is : (s : Shelf) (id : SegId) (x : Entry) → entry_of s id ≡ Some x → shown_at (place_of s id.key) (entry s id.key) ≡ shown_at (place_of s id.key) x
shown_is s id x live = ap (λ (o : Option Entry). shown_at (place_of s id.key) (entry_or o)) (aged_is id.age (slot_at s.entries id.key) x live)

-- where the store shows its place
place_is : (s : Shelf) (id : SegId) (shown : Shown) (o : Option Entry) → entry_of s id ≡ o → Some shown ≡ option_map (shown_of (place_of s id.key)) o
    → shown.place ≡ shown_at (place_of s id.key) (entry s id.key)
place_is s id shown None live is = absurd (cc)
place_is s id shown (Some x) live is =
    let same : shown ≡ shown_of (place_of s id.key) x = cc in
    ap (λ (z : Shown). z.place) same ∙ sym (shown_is s id x live)

pub fits_other : (s : Shelf) (block : ℕ → List ℕ) (id : SegId) (shown : Shown) → Some shown ≡ option_map (shown_of (place_of s id.key)) (entry_of s id) → IsFitPlace shown.place
    → (shown.place ≡ Blocks → ⊥) → FitsAt s block id.key
fits_other s block id shown is fits other =
    let same = place_is s id shown (entry_of s id) refl is in
    record { place = subst IsFitPlace same fits; blocks = λ e. absurd (other (same ∙ e)) }

pub fits_blocks : (s : Shelf) (block : ℕ → List ℕ) (id : SegId) (shown : Shown) → IsShelf s → Some shown ≡ option_map (shown_of (place_of s id.key)) (entry_of s id) → IsFitPlace shown.place
    → shown.place ≡ Blocks → AreLong block (blocks_of s.swap id.key) (blocks_for shown.kept) → FitsAt s block id.key
fits_blocks s block id shown h is fits blocks long = go (entry_of s id) refl is
  where
    same : shown.place ≡ shown_at (place_of s id.key) (entry s id.key)
    same = place_is s id shown (entry_of s id) refl is

    go : (o : Option Entry) → entry_of s id ≡ o → Some shown ≡ option_map (shown_of (place_of s id.key)) o → FitsAt s block id.key
    go None live e = absurd (cc)
    go (Some x) live e =
        let shows : shown ≡ shown_of (place_of s id.key) x = cc in
        let many : blocks_for shown.kept ≡ length (blocks_of s.swap id.key) =
        ap (λ (z : Shown). blocks_for z.kept) shows ∙ count_is s id x h live (within s id x live) (ap (λ (z : Shown). z.place) (sym shows) ∙ blocks) in
        record { place = subst IsFitPlace same fits; blocks = λ t. subst (λ (n : ℕ). AreLong block (blocks_of s.swap id.key) n) many long }
