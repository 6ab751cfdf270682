-- The bytes of a new segment, and of the others.
use Rattle.std.proofs.Common.{◌≡◌, ◌≢◌, ℕ, ◌<◌, List, Option, Some, None, true, false, ltb, refl, ap, ◌∙◌, arith, IfSome, if◌then◌else◌}
use Rattle.std.proofs.lemmas.Bool.Decides.{nat_tests}
use Rattle.o2_entries.specs.declared.Entry.{Entry}
use Rattle.o2_entries.specs.Tables.{slot_at}
use Rattle.o2_place.specs.declared.seg_id.SegId.{SegId}
use Rattle.o2_swapmap.specs.Piles.{blocks_of}
use Rattle.o2_store.specs.Shelf.{Shelf, IsShelf, Adds, Pictures, place_of, byte_at, source_byte}
use Rattle.o2_store.proofs.Tables.{slot-set_same, slot-set_other, byte_same}

added_byte : (s t : Shelf) (id : SegId) (e : Entry) (pic : Pictures) (block : ℕ → List ℕ) (j : ℕ) → IsShelf s → Adds s t id e → byte_at t pic block id.key j ≡ (if ltb j e.kept then source_byte e.image pic t.swap block id.key j else 0)
added_byte s t id e pic block j h a =
    let out : place_of t id.key ≡ None = ap (λ (x : Shelf). place_of x id.key) a.shelf ∙ (h.each id.key a.within).dead a.vacant in
    let slot : slot_at t.entries id.key ≡ Some e = ap (λ (x : Shelf). slot_at x.entries id.key) a.shelf ∙ slot-set_same s.entries id.key (Some e) a.within in
    rw (out, slot) refl

-- a new segment of zeros
pub zeros_added : (s t : Shelf) (e : Entry) (o : Option SegId) → IsShelf s → e.kept ≡ 0 → IfSome o (λ id. Adds s t id e) → IfSome o (λ id. (pic : Pictures) (block : ℕ → List ℕ) (j : ℕ) → byte_at t pic block id.key j ≡ 0)
zeros_added s t e None h z a = tt
zeros_added s t e (Some id) h z a = λ pic block j. (let b = added_byte s t id e pic block j h a in let f : ltb j e.kept ≡ false = grind (arith, nat_tests) in b ∙ rw f refl)

-- a new segment with an image
pub image_added : (s t : Shelf) (e : Entry) (m n : ℕ) (o : Option SegId) → IsShelf s → e.image ≡ Some (m, n) → IfSome o (λ id. Adds s t id e)
    → IfSome o (λ id. (pic : Pictures) (block : ℕ → List ℕ) (j : ℕ) → j < e.kept → byte_at t pic block id.key j ≡ pic m n j)
image_added s t e m n None h i a = tt
image_added s t e m n (Some id) h i a = λ pic block j l. (let b = added_byte s t id e pic block j h a in let f : ltb j e.kept ≡ true = grind (arith, nat_tests) in b ∙ rw (f, i) refl)

-- a new segment with the front of an image
pub front_added : (s t : Shelf) (e : Entry) (m n : ℕ) (o : Option SegId) → IsShelf s → e.image ≡ Some (m, n) → IfSome o (λ id. Adds s t id e)
    → IfSome o (λ id. (pic : Pictures) (block : ℕ → List ℕ) (j : ℕ) → byte_at t pic block id.key j ≡ (if ltb j e.kept then pic m n j else 0))
front_added s t e m n None h i a = tt
front_added s t e m n (Some id) h i a = λ pic block j. (let b = added_byte s t id e pic block j h a in b ∙ rw i refl)

-- the others keep their bytes
pub others_added : (s t : Shelf) (e : Entry) (o : Option SegId) → IfSome o (λ id. Adds s t id e) → IfSome o (λ id. (pic : Pictures) (block : ℕ → List ℕ) (k j : ℕ) → k ≢ id.key → byte_at t pic block k j ≡ byte_at s pic block k j)
others_added s t e None a = tt
others_added s t e (Some id) a = λ pic block k j d.
    byte_same s t pic block block k j (ap (λ (x : Shelf). x.memory) a.shelf) (ap (λ (x : Shelf). slot_at x.entries k) a.shelf ∙ slot-set_other s.entries id.key k (Some e) d) (ap (λ (x : Shelf). place_of x k) a.shelf)
    (ap (λ (x : Shelf). blocks_of x.swap k) a.shelf) (λ i. refl)
