-- Searches among blocks: that the blocks where one ends lie within the heap, and what a range meets.
use Rattle.std.proofs.Common.{◌≡◌, ℕ, ◌+◌, ◌%◌, ◌<◌, ◌≤◌, Bool, true, false, ◌&&◌, ◌||◌, nat_le, nat_lt, List, [], ◌∷◌, Option, Some, None, is_some, if◌then◌else◌, refl, sym, ap, subst, ◌∙◌, arith}
use Rattle.std.proofs.lemmas.Bool.Decides.{nat_tests}
use Rattle.o2_subseg.specs.declared.block.Block.{Block}
use Rattle.o2_subseg.specs.declared.scan.Seek.{Seek}
use Rattle.o2_subseg.specs.declared.scan.Seek.TheVariants.{Offset}
use Rattle.o2_subseg.specs.declared.scan.Spot.{Spot}
use Rattle.o2_world.specs.HeapRulings.{meets}
use Rattle.o2_subseg.specs.Spots.{passes, behind, spot_in, IsWithin, IsWithinOrNone, AreApart, IsSpot, ends_behind, is_met_by}
use Rattle.o2_subseg.proofs.Chains.{IsBlock, AreLaid}

-- the block of a pair
abbrev pub block : ℕ → ℕ → Block
block at len = record { offset = at; length = len }

-- a search with these blocks
abbrev pub spot : ℕ → Option Block → Option Block → Spot
spot size before found = record { size = size; before = before; found = found }

-- a search that has found its block stays
pub found_stays : (seek : Seek) (size : ℕ) (before : Option Block) (f : Block) (bs : List (ℕ × ℕ))
    → spot_in seek (spot size before (Some f)) bs ≡ spot size before (Some f)
found_stays seek size before f [] = refl
found_stays seek size before f ((at, len) ∷ bs) = found_stays seek size before f bs

behind_by : (seek : Seek) (size : ℕ) (before : Option Block) (at len : ℕ) (p : Bool) → passes seek (block at len) ≡ p
    → behind seek (spot size before None) (block at len) ≡ (if p then spot size before (Some (block at len)) else spot size (Some (block at len)) None)
behind_by seek size before at len p e =
    ap (λ b. if b then spot size before (Some (block at len)) else spot size (Some (block at len)) None) e

-- a search ends at a block that passes
pub passes_here : (seek : Seek) (size : ℕ) (before : Option Block) (at len : ℕ) (bs : List (ℕ × ℕ)) → passes seek (block at len) ≡ true
    → spot_in seek (spot size before None) ((at, len) ∷ bs) ≡ spot size before (Some (block at len))
passes_here seek size before at len bs e =
    ap (λ s. spot_in seek s bs) (behind_by seek size before at len true e) ∙ found_stays seek size before (block at len) bs

-- a search goes on behind a block that doesn't
pub passes_later : (seek : Seek) (size : ℕ) (before : Option Block) (at len : ℕ) (bs : List (ℕ × ℕ)) → passes seek (block at len) ≡ false
    → spot_in seek (spot size before None) ((at, len) ∷ bs) ≡ spot_in seek (spot size (Some (block at len)) None) bs
passes_later seek size before at len bs e = ap (λ s. spot_in seek s bs) (behind_by seek size before at len false e)

-- a block ends before a place
abbrev pub EndsBefore : ℕ → Option Block → Type 0
EndsBefore low None = Unit {0}
EndsBefore low (Some b) = b.offset + b.length < low

within : (size low at len : ℕ) → 8 ≤ low → IsBlock size low at len → IsWithin size (block at len)
within size low at len h b = record {
  whole = b.whole;
  whole_length = b.whole_length;
  low = omega (arith, b.behind);
  long = b.long;
  high = b.within;
}

apart : (before : Option Block) (low at len : ℕ) → EndsBefore low before → low ≤ at → AreApart before (Some (block at len))
apart None low at len e h = tt
apart (Some b) low at len e h = omega (arith, e)

-- the size of a heap
pub record IsSize (size : ℕ) : Type 0 where
  pub whole : size % 4 ≡ 0
  pub low : 12 ≤ size
  pub word : size < 65536

of_parts : (size : ℕ) (before found : Option Block) → IsSize size → IsWithinOrNone size before → IsWithinOrNone size found → AreApart before found
    → IsSpot (spot size before found)
of_parts size before found s b f a = record {
  size_whole = s.whole;
  size_low = s.low;
  size_word = s.word;
  before_within = b;
  found_within = f;
  apart = a;
}

none_apart : (before : Option Block) → AreApart before None
none_apart None = tt
none_apart (Some b) = tt

-- the blocks where a search ends lie within the heap
spot_arms : (seek : Seek) (size low : ℕ) (before : Option Block) (at len : ℕ) (bs : List (ℕ × ℕ)) (p : Bool) → passes seek (block at len) ≡ p
    → IsSize size → 8 ≤ low → IsBlock size low at len → IsWithinOrNone size before → EndsBefore low before
    → IsSpot (spot_in seek (spot size (Some (block at len)) None) bs)
    → IsSpot (spot_in seek (spot size before None) ((at, len) ∷ bs))
spot_arms seek size low before at len bs true e s h b w ends later =
    let P : Spot → Type 0 = λ r. IsSpot r in
    subst P (sym (passes_here seek size before at len bs e))
    (of_parts size before (Some (block at len)) s w (within size low at len h b) (apart before low at len ends b.behind))
spot_arms seek size low before at len bs false e s h b w ends later =
    let P : Spot → Type 0 = λ r. IsSpot r in
    subst P (sym (passes_later seek size before at len bs e)) later

pub spot_whole : (seek : Seek) (size low : ℕ) (before : Option Block) (bs : List (ℕ × ℕ)) → IsSize size → 8 ≤ low → AreLaid size low bs
    → IsWithinOrNone size before → EndsBefore low before → IsSpot (spot_in seek (spot size before None) bs)
spot_whole seek size low before [] s h laid w ends = of_parts size before None s w tt (none_apart before)
spot_whole seek size low before ((at, len) ∷ bs) s h (b, laid) w ends =
    spot_arms seek size low before at len bs (passes seek (block at len)) refl s h b w ends
    (spot_whole seek size (at + len + 1) (Some (block at len)) bs s (omega (arith, b.behind, h)) laid (within size low at len h b) (omega arith))

-- the size stays
behind_size : (seek : Seek) (s : Spot) (b : Block) (i p : Bool)
    → (if i then s else if p then record s { found = Some b } else record s { before = Some b }).size ≡ s.size
behind_size seek s b true p = refl
behind_size seek s b false true = refl
behind_size seek s b false false = refl

pub spot_size : (seek : Seek) (s : Spot) (bs : List (ℕ × ℕ)) → (spot_in seek s bs).size ≡ s.size
spot_size seek s [] = refl
spot_size seek s ((at, len) ∷ bs) =
    let b = block at len in
    spot_size seek (behind seek s b) bs ∙ behind_size seek s b (is_some s.found) (passes seek b)

not_below : (a b : ℕ) → b ≤ a → nat_lt a b ≡ false
not_below a b h = grind (arith, nat_tests)

is_below : (a b : ℕ) → a < b → nat_lt a b ≡ true
is_below a b h = grind (arith, nat_tests)

pub le_true : (a b : ℕ) → nat_le a b ≡ true → a ≤ b
le_true a b h = grind (arith, nat_tests)

pub le_false : (a b : ℕ) → nat_le a b ≡ false → b < a
le_false a b h = grind (arith, nat_tests)

pub lt_false : (a b : ℕ) → nat_lt a b ≡ false → b ≤ a
lt_false a b h = grind (arith, nat_tests)

-- blocks behind a range aren't met by it
pub none_met : (size low from end : ℕ) (bs : List (ℕ × ℕ)) → end ≤ low → AreLaid size low bs → meets from end bs ≡ false
none_met size low from end [] h laid = refl
none_met size low from end ((at, len) ∷ bs) h (b, laid) =
    let rest = none_met size (at + len + 1) from end bs (omega (arith, b.behind, h)) laid in
    let here : nat_lt at end ≡ false = not_below at end (omega (arith, b.behind, h)) in
    rw (here, rest) refl

with_none : (x a b m : Bool) → b ≡ true → (a ≡ false → m ≡ false) → (x || a) ≡ (x || ((a && b) || m))
with_none true a b m e f = refl
with_none false true true m e f = refl
with_none false true false m e f = cc
with_none false false b m e f = sym (f refl)

met_found : (x : Bool) (from end at len size : ℕ) (bs : List (ℕ × ℕ)) → nat_le from at ≡ true → 4 ≤ len → AreLaid size (at + len + 1) bs
    → (x || nat_lt at end) ≡ (x || ((nat_lt at end && nat_lt from (at + len)) || meets from end bs))
met_found x from end at len size bs e long laid =
    with_none x (nat_lt at end) (nat_lt from (at + len)) (meets from end bs) (is_below from (at + len) (omega (arith, le_true from at e)))
    (λ f. none_met size (at + len + 1) from end bs (omega (arith, lt_false at end f)) laid)

passed_by : (x a b m : Bool) → x ≡ false → a ≡ true → (b || m) ≡ (x || ((a && b) || m))
passed_by x a b m e f = rw (e, f) refl

not_behind : (before : Option Block) (low from at : ℕ) → EndsBefore low before → low ≤ at → at < from → ends_behind from before ≡ false
not_behind None low from at ends h k = refl
not_behind (Some b) low from at ends h k = not_below from (b.offset + b.length) (omega (arith, ends))

met_passed : (before : Option Block) (low from end at len : ℕ) (m : Bool) → nat_le from at ≡ false → from < end → EndsBefore low before → low ≤ at
    → (nat_lt from (at + len) || m) ≡ (ends_behind from before || ((nat_lt at end && nat_lt from (at + len)) || m))
met_passed before low from end at len m e wide ends h =
    let k = le_false from at e in
    passed_by (ends_behind from before) (nat_lt at end) (nat_lt from (at + len)) m (not_behind before low from at ends h k) (is_below at end (omega (arith, k, wide)))

-- a range meets blocks exactly where it meets those beside it
met_arms : (size low from end : ℕ) (before : Option Block) (at len : ℕ) (bs : List (ℕ × ℕ)) (p : Bool) → nat_le from at ≡ p → from < end
    → IsBlock size low at len → AreLaid size (at + len + 1) bs → EndsBefore low before
    → is_met_by (spot_in (Offset from) (spot size (Some (block at len)) None) bs) from end ≡ (nat_lt from (at + len) || meets from end bs)
    → is_met_by (spot_in (Offset from) (spot size before None) ((at, len) ∷ bs)) from end
    ≡ (ends_behind from before || ((nat_lt at end && nat_lt from (at + len)) || meets from end bs))
met_arms size low from end before at len bs true e wide b laid ends later =
    ap (λ s. is_met_by s from end) (passes_here (Offset from) size before at len bs e) ∙ met_found (ends_behind from before) from end at len size bs e b.long laid
met_arms size low from end before at len bs false e wide b laid ends later =
    ap (λ s. is_met_by s from end) (passes_later (Offset from) size before at len bs e) ∙ later
    ∙ met_passed before low from end at len (meets from end bs) e wide ends b.behind

pub met_beside : (size low from end : ℕ) (before : Option Block) (bs : List (ℕ × ℕ)) → from < end → AreLaid size low bs → EndsBefore low before
    → is_met_by (spot_in (Offset from) (spot size before None) bs) from end ≡ (ends_behind from before || meets from end bs)
met_beside size low from end before [] wide laid ends = refl
met_beside size low from end before ((at, len) ∷ bs) wide (b, laid) ends =
    met_arms size low from end before at len bs (nat_le from at) refl wide b laid ends
    (met_beside size (at + len + 1) from end (Some (block at len)) bs wide laid (omega arith))
