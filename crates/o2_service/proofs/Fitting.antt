-- Where all that is needed is in memory and none grows, it fits.
use Rattle.std.proofs.Common.{◌≡◌, ℕ, zero, suc, ◌+◌, ◌<◌, ◌≤◌, inl, inr, List, [], ◌∷◌, length, Option, Some, None, IsSome, Bool, true, false, ltb, eqb, ◌||◌, if◌then◌else◌, max, refl, sym, ap, ◌∙◌, subst, arith, unwrap_or}
use Rattle.std.specs.List.{slice_get}
use Rattle.std.proofs.lemmas.Bool.{cases_eq, cases_lt}
use Rattle.std.proofs.lemmas.Bool.Decides.{nat_tests}
use Rattle.o2_place.specs.declared.seg_id.SegId.{SegId}
use Rattle.o2_place.specs.Layout.{over, len_of, used}
use Rattle.o2_place.proofs.Sums.{over-le}
use Rattle.o2_store.specs.Shelf.{Shelf, IsShelf, entry, place_of, rounded}
use Rattle.o2_store.proofs.Tables.{placed_at, locked_at}
use Rattle.o2_service.specs.Needs.{ArePresent, needs, size_in, needed, all_needed}

-- the first n are in memory, and none of them gets a larger size
pub record FitAt (s : Shelf) (need : List (SegId × ℕ)) (n : ℕ) : Type 0 where
  pub place : (i : ℕ) (p : SegId × ℕ) → i < n → slice_get need i ≡ Some p → IsSome (place_of s p.0.key)
  pub size : (i : ℕ) (p : SegId × ℕ) → i < n → slice_get need i ≡ Some p → p.1 ≤ (entry s p.0.key).size

pub fit_more : (s : Shelf) (need : List (SegId × ℕ)) (n : ℕ) (p : SegId × ℕ) → FitAt s need n → slice_get need n ≡ Some p → IsSome (place_of s p.0.key) → p.1 ≤ (entry s p.0.key).size → FitAt s need (n + 1)
fit_more s need n p f at place size = record {
  place = λ i q l e. elim (cases_lt i n) [
    | inl low ↦ f.place i q low e
    | inr high ↦ subst (λ (x : SegId × ℕ). IsSome (place_of s x.0.key)) (same i q high l e) place
  ];
  size = λ i q l e. elim (cases_lt i n) [
    | inl low ↦ f.size i q low e
    | inr high ↦ subst (λ (x : SegId × ℕ). x.1 ≤ (entry s x.0.key).size) (same i q high l e) size
  ];
}
  where
    same : (i : ℕ) (q : SegId × ℕ) → n ≤ i → i < n + 1 → slice_get need i ≡ Some q → p ≡ q
    same i q a b e =
        let k : i ≡ n = omega (arith, a, b) in
        let z : ◌≡◌ {A = Option (SegId × ℕ)} (Some p) (Some q) = sym at ∙ subst (λ (x : ℕ). slice_get need x ≡ Some q) k e in
        ap (λ (o : Option (SegId × ℕ)). unwrap_or o p) z

-- all of a list, and all behind its first
record FitAll (s : Shelf) (need : List (SegId × ℕ)) : Type 0 where
  pub place : (i : ℕ) (p : SegId × ℕ) → slice_get need i ≡ Some p → IsSome (place_of s p.0.key)
  pub size : (i : ℕ) (p : SegId × ℕ) → slice_get need i ≡ Some p → p.1 ≤ (entry s p.0.key).size

get_within : (need : List (SegId × ℕ)) (i : ℕ) (p : SegId × ℕ) → slice_get need i ≡ Some p → i < length need
get_within [] i p e = absurd cc
get_within (q ∷ qs) zero p e = omega arith
get_within (q ∷ qs) (suc i) p e = (let l = get_within qs i p e in omega (arith, l))

fit_all : (s : Shelf) (need : List (SegId × ℕ)) → FitAt s need (length need) → FitAll s need
fit_all s need f = record { place = λ i p e. f.place i p (get_within need i p e) e; size = λ i p e. f.size i p (get_within need i p e) e }

fit_rest : (s : Shelf) (p : SegId × ℕ) (need : List (SegId × ℕ)) → FitAll s (p ∷ need) → FitAll s need
fit_rest s p need f = record { place = λ i q e. f.place (suc i) q e; size = λ i q e. f.size (suc i) q e }

most_of : (a b c : ℕ) → a ≤ c → b ≤ c → max a b ≤ c
most_of a b c l m = grind (arith, nat_tests)

size_within : (s : Shelf) (need : List (SegId × ℕ)) (k : ℕ) → FitAll s need → size_in need k ≤ (entry s k).size
size_within s [] k f = omega arith
size_within s (p ∷ ps) k f = most_of (if eqb k p.0.key then p.1 else 0) (size_in ps k) (entry s k).size first (size_within s ps k (fit_rest s p ps f))
  where
    first : (if eqb k p.0.key then p.1 else 0) ≤ (entry s k).size
    first = elim (cases_eq k p.0.key) [
      | inl same ↦ (let t : eqb k p.0.key ≡ true = grind (arith, nat_tests) in rw t (subst (λ (x : ℕ). p.1 ≤ (entry s x).size) (sym same) (f.size 0 p refl)))
      | inr other ↦ (let t : eqb k p.0.key ≡ false = grind (arith, nat_tests) in rw t (omega arith))
    ]

needed_place : (s : Shelf) (need : List (SegId × ℕ)) (k : ℕ) → FitAll s need → needs need k ≡ true → IsSome (place_of s k)
needed_place s [] k f e = absurd (let g : false ≡ true = e in cc)
needed_place s (p ∷ ps) k f e = elim (cases_eq k p.0.key) [
  | inl same ↦ subst (λ (x : ℕ). IsSome (place_of s x)) (sym same) (f.place 0 p refl)
  | inr other ↦ (let t : eqb k p.0.key ≡ false = grind (arith, nat_tests) in let r : needs ps k ≡ true = rw t at e in needed_place s ps k (fit_rest s p ps f) r)
]

-- what a segment in memory takes
taken : (s : Shelf) (k g : ℕ) → IsShelf s → g ≤ (entry s k).size → IsSome (place_of s k) → rounded (max (entry s k).size g) ≤ len_of (place_of s k)
taken s k g h l i = go (place_of s k) refl i
  where
    same : max (entry s k).size g ≡ (entry s k).size
    same = grind (arith, nat_tests)

    go : (o : Option (ℕ × ℕ)) → place_of s k ≡ o → IsSome o → rounded (max (entry s k).size g) ≤ len_of o
    go None e i = absurd (let f : false ≡ true = i in cc)
    go (Some r) e i = (let p = (placed_at s k r.0 r.1 h e).1 in let m = ap rounded same in omega (arith, p, m))

part : (s : Shelf) (need : List (SegId × ℕ)) (k : ℕ) → IsShelf s → FitAll s need → needed s need k ≤ len_of (place_of s k)
part s need k h f = go (ltb 0 (entry s k).attr.lock) (needs need k) refl refl
  where
    go : (a b : Bool) → ltb 0 (entry s k).attr.lock ≡ a → needs need k ≡ b → (if a || b then rounded (max (entry s k).size (size_in need k)) else 0) ≤ len_of (place_of s k)
    go true b e g = (let l : 0 < (entry s k).attr.lock = grind (arith, nat_tests) in taken s k (size_in need k) h (size_within s need k f) (locked_at s k h l))
    go false true e g = taken s k (size_in need k) h (size_within s need k f) (needed_place s need k f g)
    go false false e g = omega arith

pub all_fit : (s : Shelf) (need : List (SegId × ℕ)) → IsShelf s → FitAt s need (length need) → over (λ k. len_of (place_of s k)) (length s.entries) ≡ used s.places.ranges
    → used s.places.ranges ≤ s.places.size → all_needed s need ≤ s.places.size
all_fit s need h f sum room =
    let a = over-le (needed s need) (λ k. len_of (place_of s k)) (length s.entries) (λ k l. part s need k h (fit_all s need f)) in
    omega (arith, a, sum, room)

-- where all that is needed is in memory, each number that is needed has its segment there
present_needs : (s : Shelf) (need : List (SegId × ℕ)) (k : ℕ) → ((i : ℕ) (p : SegId × ℕ) → slice_get need i ≡ Some p → IsSome (place_of s p.0.key)) → needs need k ≡ true → IsSome (place_of s k)
present_needs s [] k f e = absurd (let g : false ≡ true = e in cc)
present_needs s (p ∷ ps) k f e = elim (cases_eq k p.0.key) [
  | inl same ↦ subst (λ (x : ℕ). IsSome (place_of s x)) (sym same) (f 0 p refl)
  | inr other ↦ (let t : eqb k p.0.key ≡ false = grind (arith, nat_tests) in let r : needs ps k ≡ true = rw t at e in present_needs s ps k (λ i q. f (suc i) q) r)
]

pub all_present : (s : Shelf) (need : List (SegId × ℕ)) (k : ℕ) → ArePresent s need (length need) → needs need k ≡ true → IsSome (place_of s k)
all_present s need k a e = present_needs s need k (λ i p q. a.each i p (get_within need i p q) q) e
