-- The image that is told keeps the rules of the format, so it is read back.
use Rattle.std.proofs.Common.{◌≡◌, ℕ, ◌+◌, ◌<◌, ◌≤◌, ◌^◌, List, [], length, get_or, Some, Ok, sym, ap, map, subst, arith}
use Rattle.std.specs.Prelude.{slice_get}
use Rattle.std.proofs.lemmas.List.{length-map}
use Rattle.o2_dump.specs.declared.reader.Core.{Core}
use Rattle.o2_dump.specs.CoreBytes.{core_bytes}
use Rattle.o2_dump.specs.CoreImage.{core_of}
use Rattle.o2_dump_laws.specs.Whole.{IsWhole}
use Rattle.o2_dump_laws.proofs.ImageRead.{image_is}
use Rattle.o2_entries.specs.Tables.{slot_at}
use Rattle.o2_entries.proofs.Numbers.{listed-le}
use Rattle.o2_regions.specs.Kept.{AreKept}
use Rattle.o2_regions.specs.Maps.{Maps, held_at}
use Rattle.o2_segbus.specs.Settled.{IsSettled}
use Rattle.o2_service.specs.Told.{IsHeldWell}
use Rattle.o2_store.specs.Shelf.{Shelf}
use Rattle.o2_swapmap.specs.Piles.{all_of}
use Rattle.o2_dumping.specs.Apart.{IsApart}
use Rattle.o2_dumping.specs.Fits.{FitsAt, IsFitHold, IsFitRow}
use Rattle.o2_dumping.specs.Told.{Row, core_told, descriptor_at, numbers, segment_told}
use Rattle.o2_dumping.proofs.Imaging.{many_processes}
use Rattle.o2_dumping.proofs.ProcessesWhole.{processes_whole}
use Rattle.o2_dumping.proofs.SegmentsWhole.{IsLawful, segments_apart, segments_whole}

-- whatever fits its fields, the segments lie apart
pub image_apart : (s : Shelf) (m : Maps) (rows : List Row) (block : ℕ → List ℕ) (blocks done console : ℕ) → IsLawful s → all_of s.swap ≤ blocks
    → (c : Core) → c ≡ core_told s m rows block blocks done console → IsApart c
image_apart s m rows block blocks done console law enough c is =
    subst (λ (x : Core). IsApart x) (sym is) (record { segments = segments_apart s block blocks law enough s.entries 0 [] (omega arith) tt })

pub image_whole : (s : Shelf) (m : Maps) (rows : List Row) (block : ℕ → List ℕ) (blocks done console : ℕ) → IsLawful s → AreKept m → IsSettled s m → IsHeldWell s m
    → ((pid i : ℕ) → (descriptor_at m pid i).base < 2 ^ 24) → all_of s.swap ≤ blocks → blocks < 2 ^ 32 → done < 2 ^ 64 → console < 2 ^ 64 → length rows ≤ m.processes
    → ((k : ℕ) (p : Row) → slice_get rows k ≡ Some p → IsFitRow p) → ((k i : ℕ) → k < length rows → i < 8192 → IsFitHold (held_at m (k + 1) i))
    → ((k : ℕ) → k < length (numbers s) → FitsAt s block (get_or (numbers s) k 0)) → IsWhole (core_told s m rows block blocks done console)
image_whole s m rows block blocks done console law maps settled held low enough few less small count fit fits places =
    let many : length (map (segment_told s block) (numbers s)) ≡ length (numbers s) = length-map (numbers s) (segment_told s block) in
    let most = listed-le 0 s.entries in
    record {
      memory = omega (arith, law.shelf.small);
      blocks = few;
      segments = omega (arith, many, most, law.shelf.few);
      processes = omega (arith, many_processes s m 1 rows, count, maps.most);
      steps = less;
      console = small;
      each_segment =
          segments_whole s block blocks law enough few s.entries 0 [] (omega arith) (λ i. let z : i ≡ 0 + i = omega arith in ap (slot_at s.entries) z) tt places;
      each_process =
          processes_whole s m (length (map (segment_told s block) (numbers s))) many law.shelf maps settled (λ pid i h e. held.live pid i h e) low rows 1 0 (omega arith)
          (omega (arith, count, maps.most)) fit
          (λ k i l n. let z : k + 1 ≡ 1 + k = omega arith in subst (λ (j : ℕ). IsFitHold (held_at m j i)) z (fits k i l n));
    }

pub image_back : (s : Shelf) (m : Maps) (rows : List Row) (block : ℕ → List ℕ) (blocks done console : ℕ) → IsLawful s → AreKept m → IsSettled s m → IsHeldWell s m
    → ((pid i : ℕ) → (descriptor_at m pid i).base < 2 ^ 24) → all_of s.swap ≤ blocks → blocks < 2 ^ 32 → done < 2 ^ 64 → console < 2 ^ 64 → length rows ≤ m.processes
    → ((k : ℕ) (p : Row) → slice_get rows k ≡ Some p → IsFitRow p) → ((k i : ℕ) → k < length rows → i < 8192 → IsFitHold (held_at m (k + 1) i))
    → ((k : ℕ) → k < length (numbers s) → FitsAt s block (get_or (numbers s) k 0)) → (c : Core) → c ≡ core_told s m rows block blocks done console
    → IsWhole c × (core_of (core_bytes c) ≡ Ok c)
image_back s m rows block blocks done console law maps settled held low enough few less small count fit fits places c is =
    subst (λ (x : Core). IsWhole x × (core_of (core_bytes x) ≡ Ok x)) (sym is) (whole, image_is (core_told s m rows block blocks done console) whole)
  where
    whole : IsWhole (core_told s m rows block blocks done console)
    whole = image_whole s m rows block blocks done console law maps settled held low enough few less small count fit fits places
