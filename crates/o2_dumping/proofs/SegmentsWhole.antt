-- The segments that are told keep the rules of the format.
use Rattle.std.proofs.Common.{◌≡◌, ◌≢◌, ◌⊎◌, ℕ, zero, suc, ◌+◌, ◌*◌, ◌/◌, ◌%◌, ◌<◌, ◌≤◌, ◌^◌, List, [], ◌∷◌, ◌++◌, length, get_or, Bool, true, false, cond, not, ◌&&◌, ◌||◌}
use Rattle.std.proofs.Common.{Option, Some, None, IsSome, is_some, refl, sym, ap, ◌∙◌, map, subst, arith, inl, inr, append_assoc, length-append}
use Rattle.std.specs.Prelude.{nat_le, nat_lt, ◌==◌}
use Rattle.std.specs.List.{list_any}
use Rattle.std.proofs.lemmas.Bool.{eq-eqb}
use Rattle.std.proofs.lemmas.Bool.Decides.{nat_tests}
use Rattle.std.proofs.lemmas.List.{get_or-append-add, length-map}
use Rattle.o2_dump.specs.declared.parts.Block.{Block}
use Rattle.o2_dump.specs.declared.parts.SegmentEntry.{SegmentEntry}
use Rattle.o2_dump.specs.CoreBytes.{bit, place_number}
use Rattle.o2_dump.specs.SegmentEntries.{has_block, is_among, is_block, is_free, is_gone_right, is_met_by, is_place, is_range, is_unused, rounded}
use Rattle.o2_dump_laws.specs.Whole.{AreBlocksWhole, AreSegmentsWhole, IsPlaceWhole, IsSegmentWhole}
use Rattle.o2_entries.specs.declared.Entry.{Entry}
use Rattle.o2_entries.specs.Tables.{live_numbers, slot_at}
use Rattle.o2_store.specs.declared.brought.Place.{Place as PlaceThere}
use Rattle.o2_store.specs.declared.brought.Place.TheVariants as there
use Rattle.o2_store.specs.Shelf.{IsSegmentAt, IsShelf, Shelf, entry, kept_of, place_of, shown_at, shown_out}
use Rattle.o2_swapmap.specs.Piles.{NoneTwice, all_of, blocks_of}
use Rattle.o2_dumping.specs.Apart.{AreApart, AreBlocksApart, IsPlaceApart}
use Rattle.o2_dumping.specs.Fits.{AreLong, FitsAt, IsFitPlace}
use Rattle.o2_dumping.specs.Told.{block_told, blocks_told, place_told, segment_told}

no_and : (a : Bool) → (a && false) ≡ false
no_and true = refl
no_and false = refl

both : (a b : Bool) → a ≡ true → b ≡ true → (a && b) ≡ true
both a b p q = rw (p, q) refl

neither : (a b : Bool) → a ≡ false → b ≡ false → (a || b) ≡ false
neither a b p q = rw (p, q) refl

-- what holds of every store
pub record IsLawful (s : Shelf) : Type 0 where
  pub shelf : IsShelf s
  pub once : NoneTwice s.swap
  pub below : (i k : ℕ) → k < length (blocks_of s.swap i) → get_or (blocks_of s.swap i) k 0 < all_of s.swap
  pub within : (k at len : ℕ) → place_of s k ≡ Some (at, len) → at + len ≤ s.places.size
  pub positive : (k at len : ℕ) → place_of s k ≡ Some (at, len) → 0 < len
  pub apart : (i j a l b m : ℕ) → i ≢ j → place_of s i ≡ Some (a, l) → place_of s j ≡ Some (b, m) → (a + l ≤ b) ⊎ (b + m ≤ a)

-- these numbers are below one
abbrev pub AreBelow : ℕ → List ℕ → Type 0
AreBelow n [] = Unit {0}
AreBelow n (k ∷ ks) = (k < n) × AreBelow n ks

below_more : (n m : ℕ) (ks : List ℕ) → n ≤ m → AreBelow n ks → AreBelow m ks
below_more n m [] l h = tt
below_more n m (k ∷ ks) l h = (omega (arith, h.0), below_more n m ks l h.1)

below_next : (n : ℕ) (ks : List ℕ) → AreBelow n ks → AreBelow (n + 1) (ks ++ n ∷ [])
below_next n [] h = (omega arith, tt)
below_next n (k ∷ ks) h = (omega (arith, h.0), below_next n ks h.1)

map_two : {X Y : Type 0} (f : X → Y) (xs : List X) (y : X) → map f (xs ++ y ∷ []) ≡ map f xs ++ f y ∷ []
map_two f [] y = refl
map_two f (x ∷ xs) y = ap (λ z. f x ∷ z) (map_two f xs y)

module _ (s : Shelf) (block : ℕ → List ℕ) (blocks : ℕ) (law : IsLawful s) (enough : all_of s.swap ≤ blocks) where
  -- ---- blocks

  not_in : (number : ℕ) (ns : List ℕ) → ((i : ℕ) → i < length ns → get_or ns i 0 ≢ number) → is_among number (map (block_told block) ns) ≡ false
  not_in number [] h = refl
  not_in number (n ∷ ns) h =
      let first : (n == number) ≡ false = (let x : n ≢ number = h 0 (omega arith) in grind (arith, nat_tests)) in
      neither (n == number) (is_among number (map (block_told block) ns)) first (not_in number ns (λ i l. h (suc i) (omega arith)))

  module _ (n k : ℕ) (l : k < length (blocks_of s.swap n)) where
    abbrev number : ℕ
    number = get_or (blocks_of s.swap n) k 0

    unused_of : (other : ℕ) → other < n → (p : PlaceThere) → has_block number (place_told p (blocks_told s block other)) ≡ false
    unused_of other b there.Zeros = refl
    unused_of other b (there.Image m i) = refl
    unused_of other b (there.Memory base) = refl
    unused_of other b there.Blocks =
        not_in number (blocks_of s.swap other) (λ i m e. let x = law.once other n i k m l e in omega (arith, b, x.0))

    unused_one : (other : ℕ) → other < n → has_block number (segment_told s block other).place ≡ false
    unfolding segment_told
    unused_one other b = unused_of other b (shown_at (place_of s other) (entry s other))

    none_has : (before : List ℕ) → AreBelow n before → list_any (λ e. has_block number e.place) (map (segment_told s block) before) ≡ false
    none_has [] h = refl
    none_has (other ∷ before) h =
        neither (has_block number (segment_told s block other).place) (list_any (λ e. has_block number e.place) (map (segment_told s block) before))
        (unused_one other h.0) (none_has before h.1)

    own_less : (own rest : List ℕ) → blocks_of s.swap n ≡ own ++ rest → length own ≡ k → is_among number (map (block_told block) own) ≡ false
    own_less own rest e long =
        not_in number own
        (λ i m same.
        let here : get_or (blocks_of s.swap n) i 0 ≡ get_or own i 0 = ap (λ (z : List ℕ). get_or z i 0) e ∙ front own rest i m in
        let x = law.once n n i k (omega (arith, m, long, l)) l (here ∙ same) in
        omega (arith, m, long, x.1))
      where
        front : (xs ys : List ℕ) (i : ℕ) → i < length xs → get_or (xs ++ ys) i 0 ≡ get_or xs i 0
        front [] ys i m = absurd (omega (arith, m))
        front (x ∷ xs) ys zero m = refl
        front (x ∷ xs) ys (suc i) m = front xs ys i (omega (arith, m))

    block_is : (before own rest : List ℕ) → AreBelow n before → blocks_of s.swap n ≡ own ++ rest → length own ≡ k
        → is_block blocks (map (segment_told s block) before) (map (block_told block) own) number ≡ true
    block_is before own rest h e long =
        let low = law.below n k l in
        both (nat_lt number blocks && is_unused (map (segment_told s block) before) number) (not (is_among number (map (block_told block) own)))
        (both (nat_lt number blocks) (is_unused (map (segment_told s block) before) number) (grind (arith, nat_tests)) (ap not (none_has before h)))
        (ap not (own_less own rest e long))

  -- ---- ranges

  module _ (n : ℕ) (r : ℕ × ℕ) (here : place_of s n ≡ Some r) (long : r.1 ≡ 16 * (((entry s n).size + 15) / 16)) where
    met_none : (other : ℕ) (x : Option (ℕ × ℕ)) → place_of s other ≡ x → other < n → (e : Entry) → ((q : ℕ × ℕ) → x ≡ Some q → q.1 ≡ 16 * ((e.size + 15) / 16))
        → is_met_by r.0 (entry s n).size (place_told (shown_at x e) (blocks_told s block other)) e.size ≡ false
    met_none other None is l e lens = out e.image
      where
        by : (b : Bool) → is_met_by r.0 (entry s n).size (place_told (cond b there.Zeros there.Blocks) (blocks_told s block other)) e.size ≡ false
        by true = refl
        by false = refl

        out : (o : Option (ℕ × ℕ)) → is_met_by r.0 (entry s n).size (place_told (shown_out o e.kept) (blocks_told s block other)) e.size ≡ false
        out (Some p) = refl
        out None = by (e.kept == 0)
    met_none other (Some q) is l e lens =
        let a : (r.0 + r.1 ≤ q.0) ⊎ (q.0 + q.1 ≤ r.0) = law.apart n other r.0 r.1 q.0 q.1 (λ x. omega (arith, l, x)) here is in
        apart (lens q refl) a
      where
        apart : q.1 ≡ 16 * ((e.size + 15) / 16) → (r.0 + r.1 ≤ q.0) ⊎ (q.0 + q.1 ≤ r.0)
            → (nat_lt r.0 (q.0 + rounded e.size) && nat_lt q.0 (r.0 + rounded (entry s n).size)) ≡ false
        apart size (inl a) = (let x : nat_lt q.0 (r.0 + rounded (entry s n).size) ≡ false = (let y : r.0 + rounded (entry s n).size ≤ q.0 = omega (arith, a, long) in grind (arith, nat_tests)) in rw x (no_and (nat_lt r.0 (q.0 + rounded e.size))))
        apart size (inr a) = (let x : nat_lt r.0 (q.0 + rounded e.size) ≡ false = (let y : q.0 + rounded e.size ≤ r.0 = omega (arith, a, size) in grind (arith, nat_tests)) in rw x refl)

    met_one : (other : ℕ) → other < n → IsSegmentAt s other → is_met_by r.0 (entry s n).size (segment_told s block other).place (segment_told s block other).size ≡ false
    unfolding segment_told
    met_one other l each = met_none other (place_of s other) refl l (entry s other) (λ q e. each.placed q.0 q.1 e)

    none_met : (before : List ℕ) → AreBelow n before → ((k : ℕ) → k < n → IsSegmentAt s k)
        → list_any (λ e. is_met_by r.0 (entry s n).size e.place e.size) (map (segment_told s block) before) ≡ false
    none_met [] h each = refl
    none_met (other ∷ before) h each =
        neither (is_met_by r.0 (entry s n).size (segment_told s block other).place (segment_told s block other).size)
        (list_any (λ e. is_met_by r.0 (entry s n).size e.place e.size) (map (segment_told s block) before))
        (met_one other h.0 (each other h.0)) (none_met before h.1 each)

    range_is : (before : List ℕ) → AreBelow n before → ((k : ℕ) → k < n → IsSegmentAt s k) → is_range (length s.memory) (map (segment_told s block) before) r.0 (entry s n).size ≡ true
    range_is before h each =
        let top : r.0 + r.1 ≤ s.places.size = law.within n r.0 r.1 here in
        let fits : r.0 + rounded (entry s n).size ≤ length s.memory = omega (arith, top, long, law.shelf.memory) in
        both (nat_le (r.0 + rounded (entry s n).size) (length s.memory)) (is_free (map (segment_told s block) before) r.0 (entry s n).size) (grind (arith, nat_tests))
        (ap not (none_met before h each))

  -- ---- apart, whatever the blocks hold

  blocks_apart : (n : ℕ) (before own rest : List ℕ) → AreBelow n before → blocks_of s.swap n ≡ own ++ rest
      → AreBlocksApart blocks (map (segment_told s block) before) (map (block_told block) own) (map (block_told block) rest)
  blocks_apart n before own [] h e = tt
  blocks_apart n before own (b ∷ rest) h e =
      let at : get_or (blocks_of s.swap n) (length own) 0 ≡ b =
      ap (λ (z : List ℕ). get_or z (length own) 0) e ∙ (let z : length own + 0 ≡ length own = omega arith in ap (λ (i : ℕ). get_or (own ++ b ∷ rest) i 0) (sym z) ∙ get_or-append-add own (b ∷ rest) 0 0) in
      let inside : length own < length (blocks_of s.swap n) = omega (arith, ap length e, length-append own (b ∷ rest)) in (
        ap (is_block blocks (map (segment_told s block) before) (map (block_told block) own)) (sym at) ∙ block_is n (length own) inside before own (b ∷ rest) h e refl,
        subst (λ (z : List Block). AreBlocksApart blocks (map (segment_told s block) before) z (map (block_told block) rest)) (map_two (block_told block) own b)
            (blocks_apart n before (own ++ b ∷ []) rest h (e ∙ sym (append_assoc own (b ∷ []) rest))),
      )

  module _ (n : ℕ) (l : n < length s.entries) (before : List ℕ) (h : AreBelow n before) where
    out_apart : (o : Option (ℕ × ℕ))
        → IsPlaceApart (length s.memory) blocks (map (segment_told s block) before) (entry s n).size (place_told (shown_out o (entry s n).kept) (blocks_told s block n))
    out_apart (Some p) = tt
    out_apart None = by ((entry s n).kept == 0)
      where
        by : (b : Bool) → IsPlaceApart (length s.memory) blocks (map (segment_told s block) before) (entry s n).size (place_told (cond b there.Zeros there.Blocks) (blocks_told s block n))
        by true = tt
        by false = blocks_apart n before [] (blocks_of s.swap n) h refl

    place_apart : (range : Option (ℕ × ℕ)) → place_of s n ≡ range
        → IsPlaceApart (length s.memory) blocks (map (segment_told s block) before) (entry s n).size (place_told (shown_at range (entry s n)) (blocks_told s block n))
    place_apart None is = out_apart (entry s n).image
    place_apart (Some r) is = range_is n r is ((law.shelf.each n l).placed r.0 r.1 is) before h (λ k m. law.shelf.each k (omega (arith, l, m)))

    segment_apart : IsPlaceApart (length s.memory) blocks (map (segment_told s block) before) (segment_told s block n).size (segment_told s block n).place
    unfolding segment_told
    segment_apart = place_apart (place_of s n) refl

  pub segments_apart : (es : List (Option Entry)) (first : ℕ) (before : List ℕ) → first + length es ≤ length s.entries → AreBelow first before
      → AreApart (length s.memory) blocks (map (segment_told s block) before) (map (segment_told s block) (live_numbers first es))
  segments_apart [] first before l h = tt
  segments_apart (None ∷ es) first before l h = segments_apart es (first + 1) before (omega (arith, l)) (below_more first (first + 1) before (omega arith) h)
  segments_apart (Some x ∷ es) first before l h = (
    segment_apart first (omega (arith, l)) before h,
    subst (λ (z : List SegmentEntry). AreApart (length s.memory) blocks z (map (segment_told s block) (live_numbers (first + 1) es))) (map_two (segment_told s block) before first)
        (segments_apart es (first + 1) (before ++ first ∷ []) (omega (arith, l)) (below_next first before h)),
  )

  -- ---- whole, where fields and blocks have their sizes

  module _ (few : blocks < 2 ^ 32) where
    blocks_whole : (n : ℕ) (before own rest : List ℕ) → AreBelow n before → blocks_of s.swap n ≡ own ++ rest → AreLong block (blocks_of s.swap n) (length (blocks_of s.swap n))
        → AreBlocksWhole blocks (map (segment_told s block) before) (map (block_told block) own) (map (block_told block) rest)
    blocks_whole n before own [] h e long = tt
    blocks_whole n before own (b ∷ rest) h e long =
        let at : get_or (blocks_of s.swap n) (length own) 0 ≡ b =
        ap (λ (z : List ℕ). get_or z (length own) 0) e ∙ (let z : length own + 0 ≡ length own = omega arith in ap (λ (i : ℕ). get_or (own ++ b ∷ rest) i 0) (sym z) ∙ get_or-append-add own (b ∷ rest) 0 0) in
        let inside : length own < length (blocks_of s.swap n) = omega (arith, ap length e, length-append own (b ∷ rest)) in
        let low = law.below n (length own) inside in (
          record {
            number = omega (arith, low, at, enough, few);
            free = ap (is_block blocks (map (segment_told s block) before) (map (block_told block) own)) (sym at) ∙ block_is n (length own) inside before own (b ∷ rest) h e refl;
            size = ap (λ (z : ℕ). length (block z)) (sym at) ∙ long (length own) inside;
          },
          subst (λ (z : List Block). AreBlocksWhole blocks (map (segment_told s block) before) z (map (block_told block) rest)) (map_two (block_told block) own b)
              (blocks_whole n before (own ++ b ∷ []) rest h (e ∙ sym (append_assoc own (b ∷ []) rest)) long),
        )

    -- ---- one segment

    module _ (n : ℕ) (l : n < length s.entries) (live : IsSome (slot_at s.entries n)) (fits_n : FitsAt s block n) (before : List ℕ) (h : AreBelow n before) where
      each : (k : ℕ) → k < n → IsSegmentAt s k
      each k m = law.shelf.each k (omega (arith, l, m))

      at : IsSegmentAt s n
      at = law.shelf.each n l

      abbrev found : List SegmentEntry
      found = map (segment_told s block) before

      kept_fits : (range : Option (ℕ × ℕ)) → kept_of range (entry s n) ≤ (entry s n).size
      kept_fits None = at.kept
      kept_fits (Some r) = omega arith

      -- a discarded one has no bytes anywhere
      gone_fits : (b : Bool) → (entry s n).attr.gone ≡ b
          → is_gone_right (bit b) (place_number (place_told (shown_at (place_of s n) (entry s n)) (blocks_told s block n))) (entry s n).attr.flags (entry s n).attr.lock ≡ true
      gone_fits false e = refl
      gone_fits true e =
          let g = at.gone e in
          rw (g.out, g.image, g.kept) (both ((entry s n).attr.flags / 4 % 2 == 1) ((entry s n).attr.lock == 0) g.kind.flag (eq-eqb (entry s n).attr.lock 0 g.kind.unlocked))

      -- the place of a segment that is out of memory
      out_fits : (o : Option (ℕ × ℕ)) → (entry s n).image ≡ o → is_place (place_number (place_told (shown_out o (entry s n).kept) (blocks_told s block n))) (entry s n).kept (entry s n).size ≡ true
      out_fits (Some p) is = refl
      out_fits None is = by ((entry s n).kept == 0) refl
        where
          by : (b : Bool) → ((entry s n).kept == 0) ≡ b → is_place (place_number (place_told (cond b there.Zeros there.Blocks) (blocks_told s block n))) (entry s n).kept (entry s n).size ≡ true
          by true q = q
          by false q = refl

      place_fits : (range : Option (ℕ × ℕ)) → is_place (place_number (place_told (shown_at range (entry s n)) (blocks_told s block n))) (kept_of range (entry s n)) (entry s n).size ≡ true
      place_fits None = out_fits (entry s n).image refl
      place_fits (Some r) = eq-eqb (entry s n).size (entry s n).size refl

      out_whole : (o : Option (ℕ × ℕ)) → (entry s n).image ≡ o → IsFitPlace (shown_out o (entry s n).kept)
          → (shown_out o (entry s n).kept ≡ there.Blocks → AreLong block (blocks_of s.swap n) (length (blocks_of s.swap n)))
          → IsPlaceWhole (length s.memory) blocks found (entry s n).size (entry s n).kept (place_told (shown_out o (entry s n).kept) (blocks_told s block n))
      out_whole (Some p) is fit long = fit
      out_whole None is fit long = by ((entry s n).kept == 0) refl
        where
          by : (b : Bool) → ((entry s n).kept == 0) ≡ b → IsPlaceWhole (length s.memory) blocks found (entry s n).size (entry s n).kept (place_told (cond b there.Zeros there.Blocks) (blocks_told s block n))
          by true q = tt
          by false q = (
            length-map (blocks_of s.swap n) (block_told block) ∙ at.stored is,
            blocks_whole n before [] (blocks_of s.swap n) h refl (long (ap (λ (b : Bool). cond b there.Zeros there.Blocks) q)),
          )

      place_whole : (range : Option (ℕ × ℕ)) → place_of s n ≡ range → IsFitPlace (shown_at range (entry s n))
          → (shown_at range (entry s n) ≡ there.Blocks → AreLong block (blocks_of s.swap n) (length (blocks_of s.swap n)))
          → IsPlaceWhole (length s.memory) blocks found (entry s n).size (kept_of range (entry s n)) (place_told (shown_at range (entry s n)) (blocks_told s block n))
      place_whole None is fit long = out_whole (entry s n).image refl fit long
      place_whole (Some r) is fit long =
          let size : r.1 ≡ 16 * (((entry s n).size + 15) / 16) = at.placed r.0 r.1 is in
          let top : r.0 + r.1 ≤ s.places.size = law.within n r.0 r.1 is in
          (omega (arith, top, law.shelf.memory, law.shelf.small), range_is n r is size before h each)

      pub segment_whole : IsSegmentWhole (length s.memory) blocks found (segment_told s block n)
      unfolding segment_told
      segment_whole = record {
        some = at.live live;
        most = at.sized;
        kept = kept_fits (place_of s n);
        fits = place_fits (place_of s n);
        gone = gone_fits (entry s n).attr.gone refl;
        place = place_whole (place_of s n) refl fits_n.place fits_n.blocks;
      }

    -- ---- all of them

    pub segments_whole : (es : List (Option Entry)) (first : ℕ) (before : List ℕ) → first + length es ≤ length s.entries → ((i : ℕ) → slot_at es i ≡ slot_at s.entries (first + i)) → AreBelow first before
        → ((i : ℕ) → i < length (live_numbers first es) → FitsAt s block (get_or (live_numbers first es) i 0))
        → AreSegmentsWhole (length s.memory) blocks (map (segment_told s block) before) (map (segment_told s block) (live_numbers first es))
    segments_whole [] first before l same h fits = tt
    segments_whole (None ∷ es) first before l same h fits =
        segments_whole es (first + 1) before (omega (arith, l))
        (λ i. same (suc i) ∙ (let z : first + suc i ≡ first + 1 + i = omega arith in ap (slot_at s.entries) z))
        (below_more first (first + 1) before (omega arith) h) fits
    segments_whole (Some x ∷ es) first before l same h fits =
        let here : slot_at s.entries first ≡ Some x = (let z : first + 0 ≡ first = omega arith in ap (slot_at s.entries) (sym z) ∙ sym (same 0)) in (
          segment_whole first (omega (arith, l)) (ap is_some here) (fits 0 (omega arith)) before h,
          subst (λ (z : List SegmentEntry). AreSegmentsWhole (length s.memory) blocks z (map (segment_told s block) (live_numbers (first + 1) es))) (map_two (segment_told s block) before first)
              (segments_whole es (first + 1) (before ++ first ∷ []) (omega (arith, l))
              (λ i. same (suc i) ∙ (let z : first + suc i ≡ first + 1 + i = omega arith in ap (slot_at s.entries) z))
              (below_next first before h) (λ i m. fits (suc i) (omega (arith, m)))),
        )
