-- Each segment of an image is one of the world.
use Rattle.std.proofs.Common.{◌≡◌, ℕ, ◌+◌, ◌/◌, ◌%◌, ◌<◌, ◌≤◌, List, length, get_or, Bool, true, false, cond, Option, Some, None, IsSome, is_some, refl, sym, ap, ◌∙◌, map, option_map, subst, arith, inl, inr}
use Rattle.std.specs.Prelude.{nat_lt, slice_get, ◌==◌}
use Rattle.std.proofs.lemmas.Bool.{cases_lt, cond-true, cond-false, false≢true}
use Rattle.std.proofs.lemmas.Bool.Decides.{nat_tests}
use Rattle.std.proofs.lemmas.List.{get_or-map, get_or_past, length-map}
use Rattle.std.proofs.lemmas.Option.{slice_get-get_or, slice_get-map, slice_get_within}
use Rattle.o2_dump.specs.declared.parts.Block.{Block}
use Rattle.o2_dump.specs.declared.parts.Place.TheVariants.{Swap}
use Rattle.o2_dump.specs.declared.parts.SegmentEntry.{SegmentEntry}
use Rattle.o2_dumping.specs.Told.{block_told, blocks_told, entry_told, numbers, place_among, place_told, segment_told}
use Rattle.o2_dumping.proofs.Lists.{is_place}
use Rattle.o2_entries.specs.declared.Entry.{Entry}
use Rattle.o2_entries.specs.Tables.{slot_at}
use Rattle.o2_entries.proofs.Numbers.{at_rank, below_rank, from_rank, listed_lives, rank, rank-le}
use Rattle.o2_segbus.specs.Seen.{key_of}
use Rattle.o2_stands.specs.Parts.{Parts}
use Rattle.o2_stands.specs.Stands.{IsNamed as IsNamedThere}
use Rattle.o2_store.specs.declared.brought.Place.{Place as PlaceThere}
use Rattle.o2_store.specs.declared.brought.Place.TheVariants as there
use Rattle.o2_store.specs.Pictures.{picture}
use Rattle.o2_store.specs.Shelf.{IsSegmentAt, IsShelf, Pictures, Shelf, blocks_for, byte_in, entry, kept_of, out_byte, place_of, shown_out, source_byte as source_there, stored_byte}
use Rattle.o2_swapmap.specs.Piles.{blocks_of}
use Rattle.o2_world.specs.World.{Segment}
use Rattle.o2_dump_worlds.specs.StandsFor.{IsNamed, IsSegment, base_of, byte_of, has_blocks, no_block, source_byte}

-- ---- numbers of segments in an image

pub lives : (s : Shelf) (k : ℕ) → k < length (numbers s) → IsSome (slot_at s.entries (get_or (numbers s) k 0))
lives s k l = let e : get_or (numbers s) k 0 ≡ 0 + get_or (numbers s) k 0 = omega arith in listed_lives 0 s.entries k (get_or (numbers s) k 0) l e

pub below_all : (s : Shelf) (n : ℕ) → IsSome (slot_at s.entries n) → n < length s.entries
below_all s n x = elim (cases_lt n (length s.entries)) [
  | inl l ↦ l
  | inr l ↦ absurd (false≢true (ap is_some (sym (get_or_past s.entries n None l)) ∙ x))
]

pub place_is : (s : Shelf) (n : ℕ) → rank s.entries n ≡ place_among (numbers s) n
place_is s n =
    is_place (numbers s) n (rank s.entries n) (rank-le 0 n s.entries)
    (λ i h. let a = below_rank 0 s.entries n i h in omega (arith, a))
    (λ i h l. let a = from_rank 0 s.entries n i h l in omega (arith, a))

-- a number with a segment stands at its place
pub stands_at : (s : Shelf) (n : ℕ) → IsSome (slot_at s.entries n) → (place_among (numbers s) n < length (numbers s)) × (get_or (numbers s) (place_among (numbers s) n) 0 ≡ n)
stands_at s n x = subst (λ (k : ℕ). (k < length (numbers s)) × (get_or (numbers s) k 0 ≡ n)) (place_is s n) at
  where
    at : (rank s.entries n < length (numbers s)) × (get_or (numbers s) (rank s.entries n) 0 ≡ n)
    at = let a = at_rank 0 s.entries n x in (a.0, omega (arith, a.1))

pub told_at : (s : Shelf) (block : ℕ → List ℕ) (k : ℕ) → k < length (numbers s)
    → slice_get (map (segment_told s block) (numbers s)) k ≡ Some (segment_told s block (get_or (numbers s) k 0))
told_at s block k l = slice_get-map (segment_told s block) (numbers s) k ∙ ap (option_map (segment_told s block)) (slice_get-get_or (numbers s) k 0 l)

pub within : (s : Shelf) (block : ℕ → List ℕ) (k : ℕ) (e : SegmentEntry) → slice_get (map (segment_told s block) (numbers s)) k ≡ Some e → k < length (numbers s)
within s block k e is =
    let a = slice_get_within (map (segment_told s block) (numbers s)) k e is in
    omega (arith, a, length-map (numbers s) (segment_told s block))

pub told_is : (s : Shelf) (block : ℕ → List ℕ) (k : ℕ) (e : SegmentEntry) → slice_get (map (segment_told s block) (numbers s)) k ≡ Some e
    → segment_told s block (get_or (numbers s) k 0) ≡ e
told_is s block k e is = let x : Some (segment_told s block (get_or (numbers s) k 0)) ≡ Some e = sym (told_at s block k (within s block k e is)) ∙ is in cc

-- ---- one segment

module _ (s : Shelf) (pic : Pictures) (block : ℕ → List ℕ) (n : ℕ) (is_one : IsSegmentAt s n) where
  abbrev e : Entry
  e = entry s n

  abbrev bs : List Block
  bs = blocks_told s block n

  nothing_below : (j : ℕ) → nat_lt j 0 ≡ false
  nothing_below j = grind (arith, nat_tests)

  none_kept : (j kept : ℕ) (x : ℕ) → (kept == 0) ≡ true → cond (nat_lt j kept) x 0 ≡ 0
  none_kept j kept x z = cond-false (nat_lt j kept) x 0 (grind (arith, nat_tests))

  -- a byte that is in a block
  stored : (j : ℕ) → length (blocks_of s.swap n) ≡ blocks_for e.kept → j < e.kept → stored_byte s.swap block n j ≡ source_byte pic s.memory (Swap bs) j
  stored j many l =
      let there : j / 512 < length (blocks_of s.swap n) = omega (arith, many, l) in
      ap (λ (b : Block). get_or b.bytes (j % 512) 0) (sym (get_or-map (block_told block) (blocks_of s.swap n) (j / 512) 0 no_block there))

  -- out of memory, by its image
  away : (j : ℕ) (o : Option (ℕ × ℕ)) → e.image ≡ o → (e.image ≡ None → length (blocks_of s.swap n) ≡ blocks_for e.kept)
      → cond (nat_lt j e.kept) (source_there o pic s.swap block n j) 0 ≡ cond (nat_lt j e.kept) (source_byte pic s.memory (place_told (shown_out o e.kept) bs) j) 0
  away j (Some p) is many = refl
  away j None is many = go (e.kept == 0) refl
    where
      go : (b : Bool) → (e.kept == 0) ≡ b → cond (nat_lt j e.kept) (stored_byte s.swap block n j) 0 ≡ cond (nat_lt j e.kept) (source_byte pic s.memory (place_told (shown_out None e.kept) bs) j) 0
      go true z = none_kept j e.kept _ z ∙ sym (none_kept j e.kept _ z)
      go false z = by (nat_lt j e.kept) refl
        where
          by : (b : Bool) → nat_lt j e.kept ≡ b → cond b (stored_byte s.swap block n j) 0 ≡ cond b (source_byte pic s.memory (place_told (shown_out None e.kept) bs) j) 0
          by false q = refl
          by true q =
              let l : j < e.kept = grind (arith, nat_tests) in
              let shown : shown_out None e.kept ≡ there.Blocks = ap (λ (b : Bool). cond b there.Zeros there.Blocks) z in
              stored j (many is) l ∙ ap (λ (p : PlaceThere). source_byte pic s.memory (place_told p bs) j) (sym shown)

  byte_is : (range : Option (ℕ × ℕ)) (j : ℕ) → j < e.size
      → byte_in s.memory range (out_byte s pic block n j) j ≡ byte_of pic s.memory (entry_told range e bs) j
  byte_is None j l = away j e.image refl is_one.stored
  byte_is (Some r) j l = sym (cond-true (nat_lt j e.size) (get_or s.memory (r.0 + j) 0) 0 (grind (arith, nat_tests)))

  kept_is : (range : Option (ℕ × ℕ)) → kept_of range e ≤ e.size
  kept_is None = is_one.kept
  kept_is (Some r) = omega arith

  locked_is : (range : Option (ℕ × ℕ)) → IsSome range → is_some (base_of (entry_told range e bs).place) ≡ true
  locked_is None x = absurd (false≢true x)
  locked_is (Some r) x = refl

  pure_out : (o : Option (ℕ × ℕ)) → IsSome o → has_blocks (place_told (shown_out o e.kept) bs) ≡ false
  pure_out None x = absurd (false≢true x)
  pure_out (Some p) x = refl

  pure_is : (range : Option (ℕ × ℕ)) → e.attr.clean ≡ true → has_blocks (entry_told range e bs).place ≡ false
  pure_is None c = pure_out e.image (is_one.clean c)
  pure_is (Some r) c = refl

  pub segment_is : (x : Segment) → length x.bytes ≡ e.size → ((j : ℕ) → j < e.size → get_or x.bytes j 0 ≡ byte_in s.memory (place_of s n) (out_byte s pic block n j) j)
      → x.flags ≡ e.attr.flags → x.lock ≡ e.attr.lock → x.clean ≡ e.attr.clean → x.discarded ≡ e.attr.gone → IsSegment pic s.memory (segment_told s block n) x
  unfolding segment_told
  segment_is x size bytes flags lock clean gone = record {
    size = size;
    kept = kept_is (place_of s n);
    bytes = λ j l. bytes j l ∙ byte_is (place_of s n) j l;
    flags = flags;
    lock = lock;
    clean = clean;
    gone = gone;
    locked = λ l. locked_is (place_of s n) (is_one.locked l);
    pure = pure_is (place_of s n);
  }

-- ---- under its name

named_one : (p : Parts) (n : ℕ) (o : Option Segment) → IsShelf p.shelf → IsSome (slot_at p.shelf.entries n) → IsNamedThere p (Some n) o
    → IsNamed (picture p.images) p.shelf.memory (segment_told p.shelf p.block n) o
named_one p n None shelf live named = named
named_one p n (Some x) shelf live named =
    segment_is p.shelf (picture p.images) p.block n (shelf.each n (below_all p.shelf n live)) x named.size named.bytes named.flags named.lock named.clean named.discarded

pub named_is : (p : Parts) (n : ℕ) (o : Option Segment) → IsShelf p.shelf → IsSome (slot_at p.shelf.entries n) → key_of p.shelf (entry p.shelf n).age ≡ Some n
    → IsNamedThere p (key_of p.shelf (entry p.shelf n).age) o → IsNamed (picture p.images) p.shelf.memory (segment_told p.shelf p.block n) o
named_is p n o shelf live key named = named_one p n o shelf live (subst (λ (k : Option ℕ). IsNamedThere p k o) key named)
