-- Which swap blocks are read for what is needed.
use Rattle.std.proofs.Common.{◌≡◌, ◌≢◌, ℕ, zero, suc, ◌<◌, Bool, true, false, cond, eqb, List, [], ◌∷◌, ◌++◌, length, take, get_or, None, IsSome, slice_get, Some, inl, inr, refl, sym, ap, subst, ◌∙◌, arith}
use Rattle.std.specs.List.{All, AllByRecursion, IsDistinct, filter}
use Rattle.std.proofs.lemmas.Bool.{cases_eq, ne_eqb}
use Rattle.std.proofs.lemmas.List.{append-nil, append_assoc}
use Rattle.std.proofs.lemmas.List.Elements.{All-append, All-filter, All-take}
use Rattle.o2_place.specs.declared.seg_id.SegId.{SegId}
use Rattle.std.proofs.lemmas.List.{get_or_default}
use Rattle.o2_swapmap.specs.Piles.{NoneTwice, blocks_of}
use Rattle.o2_store.specs.Asked.{AsksFor}
use Rattle.o2_store.specs.Shelf.{Shelf, place_of}
use Rattle.o2_store.proofs.Leaving.{by_presence, some_not_none}
use Rattle.o2_service.specs.Needs.{AreLive, Stays, needs}
use Rattle.o2_service.specs.Reads.{AsksForNeeded, IsOfNeeded}
use Rattle.o2_service.proofs.Amounts.{live_within}

each_append : (P : ℕ → Type 0) (xs ys : List ℕ) → AllByRecursion P xs → AllByRecursion P ys → AllByRecursion P (xs ++ ys)
each_append P [] ys p q = q
each_append P (x ∷ xs) ys p q = (p.0, each_append P xs ys p.1 q)

each_filter : (P : ℕ → Type 0) (f : ℕ → Bool) (xs : List ℕ) → AllByRecursion P xs → AllByRecursion P (filter f xs)
each_filter P f [] p = tt
each_filter P f (x ∷ xs) p = by (f x) (each_filter P f xs p.1)
  where
    by : (b : Bool) → AllByRecursion P (filter f xs) → AllByRecursion P (cond b (x ∷ filter f xs) (filter f xs))
    by true r = (p.0, r)
    by false r = r

each_take : (P : ℕ → Type 0) (n : ℕ) (xs : List ℕ) → AllByRecursion P xs → AllByRecursion P (take n xs)
each_take P zero xs p = tt
each_take P (suc n) [] p = tt
each_take P (suc n) (x ∷ xs) p = (p.0, each_take P n xs p.1)

each_from : (P : ℕ → Type 0) (xs : List ℕ) → All P xs → AllByRecursion P xs
each_from P [] a = tt
each_from P (x ∷ xs) a = (a 0 x (omega arith), each_from P xs (λ k d l. a (suc k) d (omega (arith, l))))

distinct_append : (xs ys : List ℕ) → IsDistinct eqb xs → IsDistinct eqb ys → All (λ x. All (λ y. eqb x y ≡ false) ys) xs → IsDistinct eqb (xs ++ ys)
unfolding IsDistinct
distinct_append [] ys p q c = q
distinct_append (x ∷ xs) ys p q c =
    (each_append (λ y. eqb x y ≡ false) xs ys p.0 (each_from (λ y. eqb x y ≡ false) ys (c 0 x (omega arith))), distinct_append xs ys p.1 q (λ k d l. c (suc k) d (omega (arith, l))))

distinct_kept : (x : ℕ) (ys : List ℕ) (b : Bool) → AllByRecursion (λ y. eqb x y ≡ false) ys → IsDistinct eqb ys → IsDistinct eqb (cond b (x ∷ ys) ys)
unfolding IsDistinct
distinct_kept x ys true p q = (p, q)
distinct_kept x ys false p q = q

distinct_filter : (f : ℕ → Bool) (xs : List ℕ) → IsDistinct eqb xs → IsDistinct eqb (filter f xs)
unfolding IsDistinct
distinct_filter f [] p = tt
distinct_filter f (x ∷ xs) p = distinct_kept x (filter f xs) (f x) (each_filter (λ y. eqb x y ≡ false) f xs p.0) (distinct_filter f xs p.1)

distinct_take : (n : ℕ) (xs : List ℕ) → IsDistinct eqb xs → IsDistinct eqb (take n xs)
unfolding IsDistinct
distinct_take zero xs p = tt
distinct_take (suc n) [] p = tt
distinct_take (suc n) (x ∷ xs) p = (each_take (λ y. eqb x y ≡ false) n xs p.0, distinct_take n xs p.1)

distinct_from : (xs : List ℕ) → ((i j d e : ℕ) → i < j → j < length xs → get_or xs i d ≢ get_or xs j e) → IsDistinct eqb xs
unfolding IsDistinct
distinct_from [] f = tt
distinct_from (x ∷ xs) f = (
  each_from (λ y. eqb x y ≡ false) xs (λ k d l. ne_eqb x (get_or xs k d) (f 0 (suc k) 0 d (omega arith) (omega (arith, l)))),
  distinct_from xs (λ i j d e l m. f (suc i) (suc j) d e (omega (arith, l)) (omega (arith, m))),
)

-- a block that was read, where something holds of its segment's number
pub record IsReadOf (s : Shelf) (need : List (SegId × ℕ)) (P : ℕ → Type 0) (block : ℕ) : Type 0 where
  pub of : IsOfNeeded s need block
  pub here : P of.key

-- the blocks that were read so far, where something holds of their segments' numbers
pub record HasAsked (s : Shelf) (need : List (SegId × ℕ)) (P : ℕ → Type 0) (before after : List ℕ) : Type 0 where
  pub blocks : List ℕ
  pub asked : after ≡ before ++ blocks
  pub those : All (λ b. IsReadOf s need P b) blocks
  pub once : IsDistinct eqb blocks

-- a needed segment that is out of memory was so at first, and has the blocks that it had
pub record Waits (s t : Shelf) (need : List (SegId × ℕ)) : Type 0 where
  pub each : (k : ℕ) → needs need k ≡ true → place_of t k ≡ None → (place_of s k ≡ None) × (blocks_of t.swap k ≡ blocks_of s.swap k)

pub asked_nothing : (s : Shelf) (need : List (SegId × ℕ)) (P : ℕ → Type 0) (before after : List ℕ) → after ≡ before → HasAsked s need P before after
unfolding IsDistinct
asked_nothing s need P before after same = record { blocks = []; asked = same ∙ sym (append-nil before); those = λ k d l. absurd (omega (arith, l)); once = tt }

pub for_needed : (s : Shelf) (need : List (SegId × ℕ)) (P : ℕ → Type 0) (before after : List ℕ) → HasAsked s need P before after → AsksForNeeded s need before after
for_needed s need P before after h = record { blocks = h.blocks; asked = h.asked; those = λ k d l. (h.those k d l).of; once = h.once }

pub needs_nothing : (s : Shelf) (need : List (SegId × ℕ)) (before after : List ℕ) → after ≡ before → AsksForNeeded s need before after
needs_nothing s need before after same = for_needed s need (λ k. Unit {0}) before after (asked_nothing s need (λ k. Unit {0}) before after same)

-- the blocks of one that comes in, behind those of others
module _ (s : Shelf) (need : List (SegId × ℕ)) (P Q : ℕ → Type 0) (key : ℕ) (twice : NoneTwice s.swap) (among : needs need key ≡ true) (out : place_of s key ≡ None)
    (others : (k : ℕ) → needs need k ≡ true → P k → (k ≢ key) × Q k) (here : Q key) where
  abbrev owned : List ℕ
  owned = blocks_of s.swap key

  own : All (λ b. IsReadOf s need Q b) owned
  own k d l = record { of = record { key = key; needed = among; out = out; rank = k; within = l; is = get_or_default owned k 0 d l }; here = here }

  own_once : IsDistinct eqb owned
  own_once = distinct_from owned (λ i j d e l m same.
      (let low : i < length owned = omega (arith, l, m) in
      let z = (twice key key i j low m (get_or_default owned i 0 d low ∙ same ∙ get_or_default owned j e 0 m)).1 in
      omega (arith, z, l)))

  other : (b : ℕ) → IsReadOf s need P b → All (λ y. eqb b y ≡ false) owned
  other b r k d l = ne_eqb b (get_or owned k d) (λ same.
      (others r.of.key r.of.needed r.here).0 (twice r.of.key key r.of.rank k r.of.within l (r.of.is ∙ same ∙ get_or_default owned k d 0 l)).0)

  pub asked_one : (known : ℕ → Bool) (before mid after : List ℕ) (done : Type 0) → HasAsked s need P before mid → AsksFor known owned mid after done → HasAsked s need Q before after
  asked_one known before mid after done h f =
      let first = take f.count owned in
      let more = filter known first in
      record {
        blocks = h.blocks ++ more;
        asked = f.asked ∙ ap (λ (xs : List ℕ). xs ++ more) h.asked ∙ append_assoc before h.blocks more;
        those = All-append (λ b. IsReadOf s need Q b) h.blocks more
            (λ k d l. (let r = h.those k d l in record { of = r.of; here = (others r.of.key r.of.needed r.here).1 }))
            (All-filter known (λ b. IsReadOf s need Q b) first (All-take (λ b. IsReadOf s need Q b) f.count owned own));
        once = distinct_append h.blocks more h.once (distinct_filter known first (distinct_take f.count owned own_once))
            (λ k d l. All-filter known (λ y. eqb (get_or h.blocks k d) y ≡ false) first
            (All-take (λ y. eqb (get_or h.blocks k d) y ≡ false) f.count owned (other (get_or h.blocks k d) (h.those k d l))));
      }

asked_still : (s : Shelf) (need : List (SegId × ℕ)) (P Q : ℕ → Type 0) (before mid after : List ℕ) → ((k : ℕ) → needs need k ≡ true → P k → Q k) → after ≡ mid → HasAsked s need P before mid
    → HasAsked s need Q before after
asked_still s need P Q before mid after by same h = record {
  blocks = h.blocks;
  asked = same ∙ h.asked;
  those = λ k d l. (let r = h.those k d l in record { of = r.of; here = by r.of.key r.of.needed r.here });
  once = h.once;
}

-- those of the next one, where it isn't in memory yet
pub asked_next : (s t : Shelf) (need : List (SegId × ℕ)) (Q : ℕ → Type 0) (key : ℕ) (known : ℕ → Bool) (before mid after : List ℕ) (done : Type 0)
    → NoneTwice s.swap → needs need key ≡ true → Waits s t need → ((k : ℕ) → needs need k ≡ true → IsSome (place_of t k) → Q k) → Q key
    → HasAsked s need (λ k. IsSome (place_of t k)) before mid
    → (place_of t key ≡ None → AsksFor known (blocks_of t.swap key) mid after done) → (IsSome (place_of t key) → after ≡ mid) → HasAsked s need Q before after
asked_next s t need Q key known before mid after done twice among waits by here h asks same = elim (by_presence (place_of t key)) [
  | inl n ↦
      (let w = waits.each key among n in
      asked_one s need (λ k. IsSome (place_of t k)) Q key twice among w.0
      (λ k m i. ((λ e. some_not_none (place_of t k) i (subst (λ (x : ℕ). place_of t x ≡ None) (sym e) n)), by k m i)) here
      known before mid after done h (subst (λ (xs : List ℕ). AsksFor known xs mid after done) w.1 (asks n)))
  | inr y ↦ asked_still s need (λ k. IsSome (place_of t k)) Q before mid after by (same y) h
]

pub waits_first : (s : Shelf) (need : List (SegId × ℕ)) → Waits s s need
waits_first s need = record { each = λ k e n. (n, refl) }

within_needed : (need : List (SegId × ℕ)) (n k : ℕ) → ((i : ℕ) (p : SegId × ℕ) → slice_get need i ≡ Some p → p.0.key < n) → needs need k ≡ true → k < n
within_needed [] n k each e = absurd cc
within_needed (p ∷ ps) n k each e = elim (cases_eq k p.0.key) [
  | inl same ↦ subst (λ (x : ℕ). x < n) (sym same) (each 0 p refl)
  | inr other ↦ (let t : eqb k p.0.key ≡ false = ne_eqb k p.0.key other in
      let r : needs ps k ≡ true = rw t at e in
      within_needed ps n k (λ i q f. each (suc i) q f) r)
]

pub waits_next : (s t u : Shelf) (need : List (SegId × ℕ)) → AreLive t need → Stays need t u
    → ((k : ℕ) → k < length t.entries → place_of t k ≡ None → blocks_of u.swap k ≡ blocks_of t.swap k) → Waits s t need → Waits s u need
waits_next s t u need live stays piles w = record {
  each = λ k e n. elim (by_presence (place_of t k)) [
    | inl m ↦
        (let r = w.each k e m in
        (r.0, piles k (within_needed need (length t.entries) k (λ i p f. live_within t p.0 (live.each i p f)) e) m ∙ r.1))
    | inr y ↦ absurd (some_not_none (place_of u k) (stays.each k e y) n)
  ];
}

pub asks_marked : (s t : Shelf) (need : List (SegId × ℕ)) (before after : List ℕ) → t ≡ record s { turns = t.turns } → AsksForNeeded t need before after → AsksForNeeded s need before after
asks_marked s t need before after e w =
    let x : AsksForNeeded (record s { turns = t.turns }) need before after = subst (λ (z : Shelf). AsksForNeeded z need before after) e w in
    record {
      blocks = x.blocks;
      asked = x.asked;
      those = λ k d l. (let r = x.those k d l in record { key = r.key; needed = r.needed; out = r.out; rank = r.rank; within = r.within; is = r.is });
      once = x.once;
    }
