-- What the reader gives of a segment is what the world has of it.
use Rattle.std.proofs.Common.{◌≡◌, ℕ, zero, suc, ◌+◌, ◌-◌, ◌*◌, ◌/◌, ◌%◌, ◌<◌, ◌≤◌, List, [], ◌∷◌, ◌++◌, length, take, drop, replicate, get_or, Bool, true, false, cond}
use Rattle.std.proofs.Common.{◌&&◌, Option, Some, None, refl, sym, ap, ◌∙◌, option_map, subst, arith, inl, inr, length-append}
use Rattle.std.specs.Prelude.{nat_le, nat_lt, slice_get}
use Rattle.std.proofs.lemmas.Bool.{cases_lt, cond-true, cond-false, eqb-true, false≢true}
use Rattle.std.proofs.lemmas.Bool.Decides.{nat_tests}
use Rattle.std.proofs.lemmas.List.{ext_get_or, get_or-append-add}
use Rattle.o2_dump.specs.declared.parts.Block.{Block}
use Rattle.o2_dump.specs.declared.parts.Place.{Place}
use Rattle.o2_dump.specs.declared.parts.Place.TheVariants.{Zeros, Image, Memory, Swap}
use Rattle.o2_dump.specs.declared.parts.SegmentEntry.{SegmentEntry}
use Rattle.o2_dump.specs.declared.reader.Core.{Core}
use Rattle.o2_dump.specs.CoreBytes.{place_number}
use Rattle.o2_dump.specs.CoreImage.{bytes_of, joined, kept_bytes, segment_bytes}
use Rattle.o2_dump.specs.SegmentEntries.{is_free, is_place, rounded}
use Rattle.o2_dump_laws.specs.Whole.{AreBlocksWhole, AreSegmentsWhole, IsPlaceWhole, IsSegmentWhole, IsWhole}
use Rattle.o2_store.specs.Shelf.{Pictures}
use Rattle.o2_world.specs.Map.{get}
use Rattle.o2_world.specs.World.{Segment, Setting, World}
use Rattle.o2_dump_worlds.specs.StandsFor.{ImageStandsFor, IsNamed, IsSegment, no_block, source_byte, stays}

-- ---- parts of lists

front_at : (n i : ℕ) (xs : List ℕ) → i < n → get_or (take n xs) i 0 ≡ get_or xs i 0
front_at zero i xs l = absurd (omega arith)
front_at (suc n) i [] l = refl
front_at (suc n) zero (x ∷ xs) l = refl
front_at (suc n) (suc i) (x ∷ xs) l = front_at n i xs (omega arith)

front_long : (n : ℕ) (xs : List ℕ) → n ≤ length xs → length (take n xs) ≡ n
front_long zero xs l = refl
front_long (suc n) [] l = absurd (omega arith)
front_long (suc n) (x ∷ xs) l = let a = front_long n xs (omega arith) in omega (arith, a)

behind_at : (b i : ℕ) (xs : List ℕ) → get_or (drop b xs) i 0 ≡ get_or xs (b + i) 0
behind_at zero i xs = let e : i ≡ 0 + i = omega arith in ap (λ (z : ℕ). get_or xs z 0) e
behind_at (suc b) i [] = refl
behind_at (suc b) i (x ∷ xs) = let e : suc (b + i) ≡ suc b + i = omega arith in behind_at b i xs ∙ ap (λ (z : ℕ). get_or (x ∷ xs) z 0) e

behind_long : (b : ℕ) (xs : List ℕ) → b ≤ length xs → length (drop b xs) + b ≡ length xs
behind_long zero xs l = omega arith
behind_long (suc b) [] l = absurd (omega arith)
behind_long (suc b) (x ∷ xs) l = let a = behind_long b xs (omega arith) in omega (arith, a)

left_at : (xs ys : List ℕ) (i : ℕ) → i < length xs → get_or (xs ++ ys) i 0 ≡ get_or xs i 0
left_at [] ys i l = absurd (omega arith)
left_at (x ∷ xs) ys zero l = refl
left_at (x ∷ xs) ys (suc i) l = left_at xs ys i (omega arith)

right_at : (xs ys : List ℕ) (i : ℕ) → length xs ≤ i → get_or (xs ++ ys) i 0 ≡ get_or ys (i - length xs) 0
right_at xs ys i l =
    let e : i ≡ length xs + (i - length xs) = omega arith in
    ap (λ (z : ℕ). get_or (xs ++ ys) z 0) e ∙ get_or-append-add xs ys (i - length xs) 0

abbrev zeros : ℕ → List ℕ
zeros n = replicate n 0

zeros_at : (n i : ℕ) → get_or (zeros n) i 0 ≡ 0
zeros_at zero i = refl
zeros_at (suc n) zero = refl
zeros_at (suc n) (suc i) = zeros_at n i

zeros_long : (n : ℕ) → length (zeros n) ≡ n
zeros_long zero = refl
zeros_long (suc n) = let a = zeros_long n in omega (arith, a)

-- ---- blocks

abbrev AreLong : List Block → Type 0
AreLong [] = Unit {0}
AreLong (b ∷ bs) = (length b.bytes ≡ 512) × AreLong bs

are_long : (blocks : ℕ) (found : List SegmentEntry) (own bs : List Block) → AreBlocksWhole blocks found own bs → AreLong bs
are_long blocks found own [] h = tt
are_long blocks found own (b ∷ bs) h = (h.0.size, are_long blocks found (own ++ b ∷ []) bs h.1)

joined_long : (bs : List Block) → AreLong bs → length (joined bs) ≡ 512 * length bs
joined_long [] h = refl
joined_long (b ∷ bs) h = let a = joined_long bs h.1 in omega (arith, a, h.0, length-append b.bytes (joined bs))

joined_at : (bs : List Block) (j : ℕ) → AreLong bs → j < 512 * length bs → get_or (joined bs) j 0 ≡ get_or (get_or bs (j / 512) no_block).bytes (j % 512) 0
joined_at [] j h l = absurd (omega arith)
joined_at (b ∷ bs) j h l = elim (cases_lt j 512) [
  | inl m ↦
      (let first : 0 ≡ j / 512 = omega (arith, m) in
      let rest : j ≡ j % 512 = omega (arith, m) in
      left_at b.bytes (joined bs) j (omega (arith, m, h.0))
      ∙ (ap (λ (z : ℕ). get_or b.bytes z 0) rest ∙ ap (λ (z : ℕ). get_or (get_or (b ∷ bs) z no_block).bytes (j % 512) 0) first))
  | inr m ↦
      (let less : j - length b.bytes ≡ j - 512 = omega (arith, h.0) in
      let next : suc ((j - 512) / 512) ≡ j / 512 = omega (arith, m) in
      let same : (j - 512) % 512 ≡ j % 512 = omega (arith, m) in
      right_at b.bytes (joined bs) j (omega (arith, m, h.0))
      ∙ (ap (λ (z : ℕ). get_or (joined bs) z 0) less
      ∙ (joined_at bs (j - 512) h.1 (omega (arith, m, l))
      ∙ (ap (λ (z : ℕ). get_or (get_or bs ((j - 512) / 512) no_block).bytes z 0) same
      ∙ ap (λ (z : ℕ). get_or (get_or (b ∷ bs) z no_block).bytes (j % 512) 0) next))))
]

-- ---- one segment

and_left : (a b : Bool) → (a && b) ≡ true → a ≡ true
and_left true b e = refl
and_left false b e = absurd (false≢true e)

-- the kept bytes of a place, as many as are kept
pub record AreKept (pic : Pictures) (memory : List ℕ) (kept : ℕ) (p : Place) : Type 0 where
  pub long : length (kept_bytes memory kept p) ≡ kept
  pub at : (j : ℕ) → j < kept → get_or (kept_bytes memory kept p) j 0 ≡ source_byte pic memory p j

kept_are : (pic : Pictures) (memory : List ℕ) (blocks : ℕ) (found : List SegmentEntry) (size kept : ℕ) (p : Place) → IsPlaceWhole (length memory) blocks found size kept p
    → is_place (place_number p) kept size ≡ true → stays p ≡ false → AreKept pic memory kept p
kept_are pic memory blocks found size kept Zeros ok fits away =
    let none : kept ≡ 0 = eqb-true kept 0 fits in
    record { long = sym none; at = λ j l. absurd (omega (arith, none, l)) }
kept_are pic memory blocks found size kept (Image m k) ok fits away = absurd (false≢true (sym away))
kept_are pic memory blocks found size kept (Memory base) ok fits away =
    let all : kept ≡ size = eqb-true kept size fits in
    let test : nat_le (base + rounded size) (length memory) ≡ true = and_left (nat_le (base + rounded size) (length memory)) (is_free found base size) ok.1 in
    let inside : base + rounded size ≤ length memory = grind (arith, nat_tests) in
    let rest = behind_long base memory (omega (arith, inside)) in
    record {
      long = front_long kept (drop base memory) (omega (arith, all, inside, rest));
      at = λ j l. front_at kept j (drop base memory) l ∙ behind_at base j memory;
    }
kept_are pic memory blocks found size kept (Swap bs) ok fits away =
    let each = are_long blocks found [] bs ok.1 in
    let whole = joined_long bs each in
    record {
      long = front_long kept (joined bs) (omega (arith, ok.0, whole));
      at = λ j l. front_at kept j (joined bs) l ∙ joined_at bs j each (omega (arith, ok.0, l));
    }

-- kept bytes, and zeros behind them
filled_at : (ks : List ℕ) (kept size j x : ℕ) → length ks ≡ kept → (j < kept → get_or ks j 0 ≡ x) → get_or (ks ++ zeros (size - length ks)) j 0 ≡ cond (nat_lt j kept) x 0
filled_at ks kept size j x long at = elim (cases_lt j kept) [
  | inl l ↦ left_at ks (zeros (size - length ks)) j (omega (arith, long, l)) ∙ (at l ∙ sym (cond-true (nat_lt j kept) x 0 (grind (arith, nat_tests))))
  | inr l ↦
      (right_at ks (zeros (size - length ks)) j (omega (arith, long, l))
      ∙ (zeros_at (size - length ks) (j - length ks) ∙ sym (cond-false (nat_lt j kept) x 0 (grind (arith, nat_tests)))))
]

bytes_are : (pic : Pictures) (memory : List ℕ) (blocks : ℕ) (found : List SegmentEntry) (e : SegmentEntry) (x : Segment) → IsSegmentWhole (length memory) blocks found e
    → stays e.place ≡ false → IsSegment pic memory e x → bytes_of memory e ≡ x.bytes
bytes_are pic memory blocks found e x ok away is =
    let kept : AreKept pic memory e.kept e.place = kept_are pic memory blocks found e.size e.kept e.place ok.place ok.fits away in
    let long : length (kept_bytes memory e.kept e.place ++ zeros (e.size - length (kept_bytes memory e.kept e.place))) ≡ e.size =
    omega (arith, length-append (kept_bytes memory e.kept e.place) (zeros (e.size - length (kept_bytes memory e.kept e.place))), zeros_long (e.size - length (kept_bytes memory e.kept e.place)), kept.long, ok.kept) in
    ext_get_or 0 (bytes_of memory e) x.bytes (long ∙ sym is.size)
    (λ j l.
    filled_at (kept_bytes memory e.kept e.place) e.kept e.size j (source_byte pic memory e.place j) kept.long (kept.at j)
    ∙ sym (is.bytes j (omega (arith, l, long))))

-- ---- by its number

whole_at : (memory blocks : ℕ) (found es : List SegmentEntry) (k : ℕ) (e : SegmentEntry) → AreSegmentsWhole memory blocks found es → slice_get es k ≡ Some e
    → (before : List SegmentEntry) × IsSegmentWhole memory blocks before e
whole_at memory blocks found [] k e h is = absurd (cc)
whole_at memory blocks found (x ∷ es) zero e h is = let same : x ≡ e = cc in (found, subst (λ (z : SegmentEntry). IsSegmentWhole memory blocks found z) same h.0)
whole_at memory blocks found (x ∷ es) (suc k) e h is = whole_at memory blocks (found ++ x ∷ []) es k e h.1 is

named_bytes : (pic : Pictures) (memory : List ℕ) (blocks : ℕ) (found : List SegmentEntry) (e : SegmentEntry) (o : Option Segment) → IsSegmentWhole (length memory) blocks found e → stays e.place ≡ false
    → IsNamed pic memory e o → Some (bytes_of memory e) ≡ option_map (λ (x : Segment). x.bytes) o
named_bytes pic memory blocks found e None ok away named = absurd named
named_bytes pic memory blocks found e (Some x) ok away named = ap Some (bytes_are pic memory blocks found e x ok away named)

pub segment_is_read : (pic : Pictures) (s : Setting) (device done : ℕ) (c : Core) (w : World) (k : ℕ) (e : SegmentEntry) (h : ImageStandsFor pic s device done c w) → IsWhole c → slice_get c.segments k ≡ Some e
    → stays e.place ≡ false → segment_bytes c k ≡ option_map (λ (x : Segment). x.bytes) (get w.names (h.name k))
segment_is_read pic s device done c w k e h whole is away =
    let one = whole_at (length c.memory) c.blocks [] c.segments k e whole.each_segment is in
    ap (option_map (bytes_of c.memory)) is ∙ named_bytes pic c.memory c.blocks one.0 e (get w.names (h.name k)) one.1 away (h.segments.each k e is)
