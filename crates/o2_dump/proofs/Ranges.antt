-- What is known of the ranges in memory that a map lists.
use Rattle.std.proofs.Common.{◌≡◌, ◌⊎◌, inl, inr, ℕ, ◌+◌, ◌<◌, ◌≤◌, ◌||◌, not, nat_le, subst, Bool, true, false, List, [], ◌∷◌, ◌++◌, Some, None, refl, sym, ap, ◌∙◌, arith}
use Rattle.std.specs.List.{list_any}
use Rattle.std.specs.Ordering.{nat_cmp, is_eq, is_lt}
use Rattle.std.specs.declared.cmp.Ordering.TheVariants.{Less, Equal, Greater}
use Rattle.std.specs.declared.ops.Bound.TheVariants.{Excluded, Unbounded}
use Rattle.std.specs.Cmp.{nat_cmp_is}
use Rattle.std.specs.BTreeMap.Range.{IsRangeOf}
use Rattle.std.proofs.lemmas.Map.Keys.{ge_from_not_lt}
use Rattle.std.specs.BTreeMap as tree
use Rattle.std.specs.BTreeMap.{BTreeMap, Updates, is_at}
use Rattle.std.proofs.lemmas.Bool.{false≢true, or_cases, or_left, or_right, and_parts, and_from, false_from_ne_true, ltb-true, lt-ltb, leb-true, leb-false, eqb-true, eq-eqb, cases_eq, cases_lt, cases_order, not-true, both_ways}
use Rattle.std.proofs.lemmas.List.Folds.{list_any-append}
use Rattle.o2_dump.specs.declared.parts.Place.{Place}
use Rattle.o2_dump.specs.declared.parts.Place.TheVariants.{Zeros, Image, Memory, Swap}
use Rattle.o2_dump.specs.declared.parts.SegmentEntry.{SegmentEntry}
use Rattle.o2_dump.specs.SegmentEntries.{rounded, is_met_by, is_free}
use Rattle.o2_dump.specs.FoundIndex.{has_range, is_range_of, AreRanges, IsLastBelow, fits}

-- a segment that shares a byte with a range has one that begins below its end and ends behind its base
abbrev pub Crosses : ℕ → ℕ → (ℕ → ℕ → Bool) → Type 0
Crosses base top has = (b : ℕ) × (x : ℕ) × (has b x ≡ true) × (base < x) × (b < top)

one_crosses : (base size : ℕ) (p : Place) (n : ℕ) → is_met_by base size p n ≡ true
    → Crosses base (base + rounded size) (λ b x. has_range b x p n)
one_crosses base size (Memory other) n met =
    let parts = and_parts _ _ met in
    (other, other + rounded n, and_from _ _ (eq-eqb other other refl) (eq-eqb (other + rounded n) (other + rounded n) refl), ltb-true _ _ parts.0, ltb-true _ _ parts.1)
one_crosses base size Zeros n met = absurd cc
one_crosses base size (Image m k) n met = absurd cc
one_crosses base size (Swap bs) n met = absurd cc

some_crosses : (base size : ℕ) (found : List SegmentEntry) → list_any (λ (e : SegmentEntry). is_met_by base size e.place e.size) found ≡ true
    → Crosses base (base + rounded size) (is_range_of found)
some_crosses base size [] met = absurd cc
some_crosses base size (e ∷ es) met = go (or_cases _ _ met) (some_crosses base size es)
  where
    go : (is_met_by base size e.place e.size ≡ true) ⊎ (list_any (λ (e : SegmentEntry). is_met_by base size e.place e.size) es ≡ true)
        → (list_any (λ (e : SegmentEntry). is_met_by base size e.place e.size) es ≡ true → Crosses base (base + rounded size) (is_range_of es))
        → Crosses base (base + rounded size) (is_range_of (e ∷ es))
    go (inl here) more = let c = one_crosses base size e.place e.size here in (c.0, c.1, or_left _ _ c.2, c.3, c.4)
    go (inr there) more = let c = more there in (c.0, c.1, or_right _ _ c.2, c.3, c.4)

-- and the other way round
one_met : (base size : ℕ) (p : Place) (n b x : ℕ) → has_range b x p n ≡ true → base < x → b < base + rounded size → is_met_by base size p n ≡ true
one_met base size (Memory other) n b x has above below =
    let parts = and_parts _ _ has in
    let begins : other ≡ b = eqb-true other b parts.0 in
    let ends : other + rounded n ≡ x = eqb-true (other + rounded n) x parts.1 in
    and_from _ _ (lt-ltb base (other + rounded n) (rw ends above)) (lt-ltb other (base + rounded size) (rw begins below))
one_met base size Zeros n b x has above below = absurd cc
one_met base size (Image m k) n b x has above below = absurd cc
one_met base size (Swap bs) n b x has above below = absurd cc

some_met : (base size : ℕ) (found : List SegmentEntry) (b x : ℕ) → is_range_of found b x ≡ true → base < x → b < base + rounded size
    → list_any (λ (e : SegmentEntry). is_met_by base size e.place e.size) found ≡ true
some_met base size [] b x has above below = absurd cc
some_met base size (e ∷ es) b x has above below = go (or_cases _ _ has) (λ there. some_met base size es b x there above below)
  where
    go : (has_range b x e.place e.size ≡ true) ⊎ (is_range_of es b x ≡ true)
        → (is_range_of es b x ≡ true → list_any (λ (e : SegmentEntry). is_met_by base size e.place e.size) es ≡ true)
        → list_any (λ (e : SegmentEntry). is_met_by base size e.place e.size) (e ∷ es) ≡ true
    go (inl here) more = or_left _ _ (one_met base size e.place e.size b x here above below)
    go (inr there) more = or_right _ _ (more there)

-- a range is free where the last one that begins below its end ends before it
pub free_behind : (found : List SegmentEntry) (ranges : BTreeMap ℕ ℕ) (base size x : ℕ) → AreRanges found ranges
    → IsLastBelow ranges (base + rounded size) (Some x) → x ≤ base → is_free found base size ≡ true
free_behind found ranges base size x are last le =
    ap not (false_from_ne_true _ (λ met. clash (some_crosses base size found met)))
  where
    clash : Crosses base (base + rounded size) (is_range_of found) → ⊥
    clash c =
        let there : tree.get nat_cmp ranges c.0 ≡ Some c.1 = are.complete _ _ c.2 in
        let before : c.0 ≤ last.0 = last.3 c.0 c.4 (rw there refl) in
        let ends : last.0 < x = are.long _ _ last.2 in
        case (cases_eq c.0 last.0) there before ends
      where
        case : (c.0 ≡ last.0) ⊎ (c.0 ≡ last.0 → ⊥) → tree.get nat_cmp ranges c.0 ≡ Some c.1 → c.0 ≤ last.0 → last.0 < x → ⊥
        case (inl same) there before ends =
            let found_there : Some c.1 ≡ Some x = sym there ∙ ap (tree.get nat_cmp ranges) same ∙ last.2 in
            let is : c.1 ≡ x = cc in
            let above = c.3 in omega (arith, is, above, le)
        case (inr other) there before ends =
            let less : c.0 < last.0 = omega (arith, before, other) in
            let apart : c.1 ≤ last.0 = are.apart _ _ _ _ there last.2 less in
            let above = c.3 in omega (arith, apart, above, ends, le)

-- and where none begins below its end
pub free_alone : (found : List SegmentEntry) (ranges : BTreeMap ℕ ℕ) (base size : ℕ) → AreRanges found ranges
    → IsLastBelow ranges (base + rounded size) None → is_free found base size ≡ true
free_alone found ranges base size are none =
    ap not (false_from_ne_true _ (λ met. clash (some_crosses base size found met)))
  where
    clash : Crosses base (base + rounded size) (is_range_of found) → ⊥
    clash c =
        let there : tree.get nat_cmp ranges c.0 ≡ Some c.1 = are.complete _ _ c.2 in
        let lacks = none c.0 c.4 in cc

-- but not where that one ends within it or behind it
pub taken : (found : List SegmentEntry) (ranges : BTreeMap ℕ ℕ) (base size x : ℕ) → AreRanges found ranges
    → IsLastBelow ranges (base + rounded size) (Some x) → base < x → is_free found base size ≡ false
taken found ranges base size x are last above =
    ap not (some_met base size found last.0 x (are.listed _ _ last.2) above last.1)

-- so the answer is whether that end lies behind the base
pub free_as : (found : List SegmentEntry) (ranges : BTreeMap ℕ ℕ) (base size x top : ℕ) → AreRanges found ranges → top ≡ base + rounded size
    → IsLastBelow ranges top (Some x) → nat_le x base ≡ is_free found base size
free_as found ranges base size x top are is last = go (nat_le x base) refl (subst (λ (t : ℕ). IsLastBelow ranges t (Some x)) is last)
  where
    go : (b : Bool) → nat_le x base ≡ b → IsLastBelow ranges (base + rounded size) (Some x) → nat_le x base ≡ is_free found base size
    go true e last = e ∙ sym (free_behind found ranges base size x are last (leb-true x base e))
    go false e last = e ∙ sym (taken found ranges base size x are last (leb-false x base e))

not_less : (b c : ℕ) → is_lt (nat_cmp b c) ≡ false → c ≤ b
not_less = ge_from_not_lt

is_less : (a b : ℕ) → nat_cmp a b ≡ Less → a < b
is_less a b e = go (cases_lt a b)
  where
    go : (a < b) ⊎ (b ≤ a) → a < b
    go (inl lt) = lt
    go (inr le) = more (cases_lt b a)
      where
        more : (b < a) ⊎ (a ≤ b) → a < b
        more (inl lt) = absurd (let is = sym (nat_cmp_is a b Greater lt) in let bad : Greater ≡ Less = sym is ∙ e in cc)
        more (inr ge) = absurd (let is = sym (nat_cmp_is a b Equal (omega (arith, le, ge))) in let bad : Equal ≡ Less = sym is ∙ e in cc)

-- the last of the ranges below a place
pub last_of : (ranges : BTreeMap ℕ ℕ) (top b x : ℕ) (part front : List (ℕ × ℕ)) → IsRangeOf nat_cmp Unbounded (Excluded top) ranges part
    → part ≡ front ++ (b, x) ∷ [] → IsLastBelow ranges top (Some x)
last_of ranges top b x part front is ends =
    let here = is.3 (b, x) front ends in (
      b,
      is_less b top here.0.1,
      here.1,
      λ c below has. not_less b c (is.4 (b, x) front ends c (tt, sym (nat_cmp_is c top Less below)) has),
    )

-- ---- one range more, at a base where none is

-- a range that is told of is not that of a free one
apart_from : (found : List SegmentEntry) (ranges : BTreeMap ℕ ℕ) (base size b x : ℕ) → AreRanges found ranges → is_free found base size ≡ true
    → tree.get nat_cmp ranges b ≡ Some x → base < x → b < base + rounded size → ⊥
apart_from found ranges base size b x are free has above below =
    both_ways _ (not-true _ free) (some_met base size found b x (are.listed _ _ has) above below)

-- the map with one more
abbrev pub Adds : BTreeMap ℕ ℕ → ℕ → ℕ → BTreeMap ℕ ℕ → Type 0
Adds ranges base top after = ((q : ℕ) → q ≡ base → tree.get nat_cmp after q ≡ Some top) × ((q : ℕ) → (q ≡ base → ⊥) → tree.get nat_cmp after q ≡ tree.get nat_cmp ranges q)

same_value : (x y : ℕ) → Some x ≡ Some y → x ≡ y
same_value x y e = cc

range_added : (found : List SegmentEntry) (e : SegmentEntry) (b x : ℕ)
    → is_range_of (found ++ e ∷ []) b x ≡ (is_range_of found b x || (has_range b x e.place e.size || false))
range_added found e b x = list_any-append _ found (e ∷ [])

before : (x c : ℕ) → (c < x → ⊥) → x ≤ c
before x c not_inside = split (cases_lt c x)
  where
    split : (c < x) ⊎ (x ≤ c) → x ≤ c
    split (inl lt) = absurd (not_inside lt)
    split (inr le) = le

module _ (found : List SegmentEntry) (ranges after : BTreeMap ℕ ℕ) (base size top : ℕ) (are : AreRanges found ranges) (free : is_free found base size ≡ true)
    (long : base < top) (ends : base + rounded size ≡ top) (adds : Adds ranges base top after) where
  lists : (has : ℕ → ℕ → Bool) → has base top ≡ true → (b x : ℕ) → tree.get nat_cmp after b ≡ Some x → (is_range_of found b x || (has b x || false)) ≡ true
  lists has own b x there = case (cases_eq b base)
    where
      case : (b ≡ base) ⊎ (b ≡ base → ⊥) → (is_range_of found b x || (has b x || false)) ≡ true
      case (inl same) =
          let value : top ≡ x = same_value _ _ (sym (adds.0 b same) ∙ there) in
          let own : has b x ≡ true = rw (same, sym value) own in
          or_right _ _ (or_left _ _ own)
      case (inr other) = or_left _ _ (are.listed b x (sym (adds.1 b other) ∙ there))

  stays : (b x : ℕ) → is_range_of found b x ≡ true → tree.get nat_cmp after b ≡ Some x
  stays b x has = case (cases_eq b base)
    where
      there : tree.get nat_cmp ranges b ≡ Some x
      there = are.complete b x has

      case : (b ≡ base) ⊎ (b ≡ base → ⊥) → tree.get nat_cmp after b ≡ Some x
      case (inl same) =
          let behind : b < x = are.long b x there in
          absurd (apart_from found ranges base size b x are free there (omega (arith, behind, same)) (omega (arith, same, long, ends)))
      case (inr other) = adds.1 b other ∙ there

  value_of : (b x : ℕ) → tree.get nat_cmp after b ≡ Some x → ((b ≡ base) × (x ≡ top)) ⊎ ((b ≡ base → ⊥) × (tree.get nat_cmp ranges b ≡ Some x))
  value_of b x there = case (cases_eq b base)
    where
      case : (b ≡ base) ⊎ (b ≡ base → ⊥) → ((b ≡ base) × (x ≡ top)) ⊎ ((b ≡ base → ⊥) × (tree.get nat_cmp ranges b ≡ Some x))
      case (inl same) = inl (same, same_value _ _ (sym there ∙ adds.0 b same))
      case (inr other) = inr (other, sym (adds.1 b other) ∙ there)

  is_long : (b x : ℕ) → tree.get nat_cmp after b ≡ Some x → b < x
  is_long b x there = case (value_of b x there)
    where
      case : ((b ≡ base) × (x ≡ top)) ⊎ ((b ≡ base → ⊥) × (tree.get nat_cmp ranges b ≡ Some x)) → b < x
      case (inl own) = omega (arith, own.0, own.1, long)
      case (inr old) = are.long b x old.1

  is_apart : (b x c y : ℕ) → tree.get nat_cmp after b ≡ Some x → tree.get nat_cmp after c ≡ Some y → b < c → x ≤ c
  is_apart b x c y at_b at_c less = case (value_of b x at_b) (value_of c y at_c)
    where
      case : ((b ≡ base) × (x ≡ top)) ⊎ ((b ≡ base → ⊥) × (tree.get nat_cmp ranges b ≡ Some x))
          → ((c ≡ base) × (y ≡ top)) ⊎ ((c ≡ base → ⊥) × (tree.get nat_cmp ranges c ≡ Some y)) → x ≤ c
      case (inl one) (inl two) = absurd (omega (arith, one.0, two.0, less))
      case (inl one) (inr two) =
          let behind : c < y = are.long c y two.1 in
          before x c (λ inside. apart_from found ranges base size c y are free two.1 (omega (arith, one.0, less, behind)) (omega (arith, one.1, inside, ends)))
      case (inr one) (inl two) =
          let behind : b < x = are.long b x one.1 in
          before x c (λ inside. apart_from found ranges base size b x are free one.1 (omega (arith, two.0, inside)) (omega (arith, two.0, less, long, ends)))
      case (inr one) (inr two) = are.apart b x c y one.1 two.1 less

not_at : (k q : ℕ) → (q ≡ k → ⊥) → is_at (nat_cmp k) q ≡ false
not_at k q other = go (cases_order k q)
  where
    go : (k ≡ q) ⊎ ((k < q) ⊎ (q < k)) → is_at (nat_cmp k) q ≡ false
    go (inl same) = absurd (other (sym same))
    go (inr (inl lt)) = ap is_eq (sym (nat_cmp_is k q Less lt))
    go (inr (inr gt)) = ap is_eq (sym (nat_cmp_is k q Greater gt))

adds_of : (ranges after : BTreeMap ℕ ℕ) (base top : ℕ) → Updates nat_cmp ranges after base (Some top) → Adds ranges base top after
adds_of ranges after base top u = (λ q same. ap (λ (k : ℕ). tree.get nat_cmp after k) same ∙ u.1, λ q other. u.2 q (not_at base q other))

-- a segment in memory
noted : (found : List SegmentEntry) (ranges after : BTreeMap ℕ ℕ) (e : SegmentEntry) (base : ℕ) → e.place ≡ Memory base → 1 ≤ e.size
    → Adds ranges base (base + rounded e.size) after → AreRanges found ranges → fits found e.size e.place ≡ true → AreRanges (found ++ e ∷ []) after
noted found ranges after e base is size adds are fits_there =
    let free : is_free found base e.size ≡ true = sym (ap (fits found e.size) is) ∙ fits_there in
    let long : base < base + rounded e.size = above base e.size size in
    let own : has_range base (base + rounded e.size) e.place e.size ≡ true =
    ap (λ (p : Place). has_range base (base + rounded e.size) p e.size) is
    ∙ and_from _ _ (eq-eqb base base refl) (eq-eqb (base + rounded e.size) (base + rounded e.size) refl) in
    record {
      listed = λ b x there. range_added found e b x ∙ lists found ranges after base e.size (base + rounded e.size) are free long refl adds (λ b x. has_range b x e.place e.size) own b x there;
      complete = λ b x has. complete b x (or_cases _ _ (sym (range_added found e b x) ∙ has)) adds are free long;
      long = is_long found ranges after base e.size (base + rounded e.size) are free long refl adds;
      apart = is_apart found ranges after base e.size (base + rounded e.size) are free long refl adds;
    }
  where
    above : (base n : ℕ) → 1 ≤ n → base < base + rounded n
    above base n le = omega (arith, le)

    mine : (b x : ℕ) (p : Place) (n : ℕ) → p ≡ Memory base → (has_range b x p n || false) ≡ true → (b ≡ base) × (x ≡ base + rounded n)
    mine b x p n is has =
        let here : (has_range b x (Memory base) n || false) ≡ true = sym (ap (λ (p : Place). has_range b x p n || false) is) ∙ has in
        case (or_cases _ _ here)
      where
        case : (has_range b x (Memory base) n ≡ true) ⊎ (false ≡ true) → (b ≡ base) × (x ≡ base + rounded n)
        case (inl here) = let parts = and_parts _ _ here in (sym (eqb-true base b parts.0), sym (eqb-true (base + rounded n) x parts.1))
        case (inr never) = absurd (false≢true never)

    complete : (b x : ℕ) → (is_range_of found b x ≡ true) ⊎ ((has_range b x e.place e.size || false) ≡ true)
        → Adds ranges base (base + rounded e.size) after → AreRanges found ranges → is_free found base e.size ≡ true → base < base + rounded e.size
        → tree.get nat_cmp after b ≡ Some x
    complete b x (inl old) adds are free long = stays found ranges after base e.size (base + rounded e.size) are free long refl adds b x old
    complete b x (inr own) adds are free long =
        let both = mine b x e.place e.size is own in
        adds.0 b both.0 ∙ ap Some (sym both.1)

-- the same, with what the code has in place of base and end
pub noted_as : (found : List SegmentEntry) (ranges after : BTreeMap ℕ ℕ) (e : SegmentEntry) (base key top : ℕ) → e.place ≡ Memory base → 1 ≤ e.size
    → key ≡ base → top ≡ key + rounded e.size → Updates nat_cmp ranges after key (Some top)
    → AreRanges found ranges → fits found e.size e.place ≡ true → AreRanges (found ++ e ∷ []) after
noted_as found ranges after e base key top is size key_is top_is updates are fits_there =
    noted found ranges after e key (is ∙ ap Memory (sym key_is)) size (adds_of ranges after key (key + rounded e.size) (subst (λ (t : ℕ). Updates nat_cmp ranges after key (Some t)) top_is updates)) are fits_there

-- and one elsewhere
pub not_noted : (found : List SegmentEntry) (ranges : BTreeMap ℕ ℕ) (e : SegmentEntry) → ((b x : ℕ) → has_range b x e.place e.size ≡ false)
    → AreRanges found ranges → AreRanges (found ++ e ∷ []) ranges
not_noted found ranges e none are = record {
  listed = λ b x there. range_added found e b x ∙ or_left _ _ (are.listed b x there);
  complete = λ b x has. are.complete b x (old b x (or_cases _ _ (sym (range_added found e b x) ∙ has)));
  long = are.long;
  apart = are.apart;
}
  where
    old : (b x : ℕ) → (is_range_of found b x ≡ true) ⊎ ((has_range b x e.place e.size || false) ≡ true) → is_range_of found b x ≡ true
    old b x (inl there) = there
    old b x (inr own) = absurd (let no = none b x in let bad : (false || false) ≡ true = rw no at own in cc)
