-- Names stay in place, whatever segments and holds come and go.
use Rattle.std.proofs.Common.{◌≡◌, ℕ, ◌+◌, ◌≤◌, List, Option, Some, None, get_or, replicate, sym, ◌∙◌, arith}
use Rattle.o2_regions.specs.Maps.{Maps}
use Rattle.o2_regions.proofs.Writes.{get_or-same}
use Rattle.o2_store.specs.Shelf.{Shelf}
use Rattle.o2_segs.specs.Sharing.{KeepsShares}
use Rattle.o2_shared.specs.declared.names.Name.{Name}
use Rattle.o2_shared.specs.Texts.{AreInPlace, IsNamed}

-- no name is in no place
pub none_in_place : (s : Shelf) (m : Maps) (n : ℕ) → AreInPlace s m (replicate n None)
none_in_place s m n = record {
  held = λ place k named. absurd (no_name place k named.there);
  once = λ place other k l a b text. absurd (no_name place k a.there);
  older = λ place k there. absurd (no_name place k there);
}
  where
    no_name : (place : ℕ) (k : Name) → get_or (replicate n None) place None ≡ Some k → ⊥
    no_name place k there = let z : ◌≡◌ {A = Option Name} None (Some k) = sym (get_or-same n place None) ∙ there in cc

pub stay_in_place : (s t : Shelf) (m n : Maps) (names : List (Option Name)) → AreInPlace s m names → KeepsShares s m t n s.made → s.made ≤ t.made → AreInPlace t n names
stay_in_place s t m n names places shares grows = record {
  held = λ place k named. shares.only (4096 + place) k.id (omega arith) (places.older place k named.there) named.lives (places.held place k (before place k named));
  once = λ place other k l a b text. places.once place other k l (before place k a) (before other l b) text;
  older = λ place k there. (let a = places.older place k there in omega (arith, a, grows));
}
  where
    before : (place : ℕ) (k : Name) → IsNamed t names place k → IsNamed s names place k
    before place k named = record { there = named.there; lives = shares.lived k.id (places.older place k named.there) named.lives }
