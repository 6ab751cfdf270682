-- Lists of the numbers that have a segment.
use Rattle.std.proofs.Common.{◌≡◌, ◌≢◌, zero, suc, ℕ, ◌+◌, ◌-◌, ◌<◌, ◌≤◌, List, [], ◌∷◌, length, get_or, set, Option, Some, None, IsSome, is_some, true, ltb, refl, ap, arith, inl, inr}
use Rattle.std.proofs.lemmas.Bool.{cases_lt, cases_eq}
use Rattle.std.proofs.lemmas.Bool.Decides.{nat_tests}
use Rattle.std.proofs.lemmas.List.{get_or_default}
use Rattle.std.specs.List.{insert, remove}
use Rattle.o2_entries.specs.declared.Entry.{Entry}
use Rattle.o2_entries.specs.Tables.{live_numbers, slot_at, RisesTo}

-- how many of the first n numbers have a segment
abbrev pub rank : List (Option Entry) → ℕ → ℕ
rank [] n = 0
rank (e ∷ es) zero = 0
rank (None ∷ es) (suc n) = rank es n
rank (Some e ∷ es) (suc n) = suc (rank es n)

pub rank-le : (first n : ℕ) (es : List (Option Entry)) → rank es n ≤ length (live_numbers first es)
rank-le first n [] = omega arith
rank-le first zero (e ∷ es) = omega arith
rank-le first (suc n) (None ∷ es) = rank-le (first + 1) n es
rank-le first (suc n) (Some e ∷ es) = let a = rank-le (first + 1) n es in omega (arith, a)

pub above : (first : ℕ) (es : List (Option Entry)) (i : ℕ) → i < length (live_numbers first es) → first + i ≤ get_or (live_numbers first es) i 0
above first [] i l = absurd (omega arith)
above first (None ∷ es) i l = let a = above (first + 1) es i l in omega (arith, a)
above first (Some e ∷ es) zero l = omega arith
above first (Some e ∷ es) (suc i) l = let a = above (first + 1) es i (omega arith) in omega (arith, a)

pub rises : (first : ℕ) (es : List (Option Entry)) → RisesTo (live_numbers first es)
rises first [] i j l m = absurd (omega arith)
rises first (None ∷ es) i j l m = rises (first + 1) es i j l m
rises first (Some e ∷ es) i zero l m = absurd (omega arith)
rises first (Some e ∷ es) zero (suc j) l m = let a = above (first + 1) es j (omega arith) in omega (arith, a)
rises first (Some e ∷ es) (suc i) (suc j) l m = rises (first + 1) es i j (omega arith) (omega arith)

-- a number with a segment stands at its rank
pub at_rank : (first : ℕ) (es : List (Option Entry)) (n : ℕ) → IsSome (slot_at es n) → (rank es n < length (live_numbers first es)) × (get_or (live_numbers first es) (rank es n) 0 ≡ first + n)
at_rank first [] n h = absurd (cc)
at_rank first (None ∷ es) zero h = absurd (cc)
at_rank first (Some e ∷ es) zero h = (omega arith, omega arith)
at_rank first (None ∷ es) (suc n) h = let a = at_rank (first + 1) es n h in (a.0, omega (arith, a.1))
at_rank first (Some e ∷ es) (suc n) h = let a = at_rank (first + 1) es n h in (omega (arith, a.0), omega (arith, a.1))

-- those before its rank are below the number, and the others aren't
pub below_rank : (first : ℕ) (es : List (Option Entry)) (n k : ℕ) → k < rank es n → get_or (live_numbers first es) k 0 < first + n
below_rank first [] n k l = absurd (omega arith)
below_rank first (e ∷ es) zero k l = absurd (omega arith)
below_rank first (None ∷ es) (suc n) k l = let a = below_rank (first + 1) es n k l in omega (arith, a)
below_rank first (Some e ∷ es) (suc n) zero l = omega arith
below_rank first (Some e ∷ es) (suc n) (suc k) l = let a = below_rank (first + 1) es n k (omega arith) in omega (arith, a)

pub from_rank : (first : ℕ) (es : List (Option Entry)) (n k : ℕ) → rank es n ≤ k → k < length (live_numbers first es) → first + n ≤ get_or (live_numbers first es) k 0
from_rank first [] n k l m = absurd (omega arith)
from_rank first (e ∷ es) zero k l m = let a = above first (e ∷ es) k m in omega (arith, a)
from_rank first (None ∷ es) (suc n) k l m = let a = from_rank (first + 1) es n k l m in omega (arith, a)
from_rank first (Some e ∷ es) (suc n) zero l m = absurd (omega arith)
from_rank first (Some e ∷ es) (suc n) (suc k) l m = let a = from_rank (first + 1) es n k (omega arith) (omega arith) in omega (arith, a)

-- the place that a search finds is the rank
pub is_rank : (es : List (Option Entry)) (n p : ℕ) → p ≤ length (live_numbers 0 es) → ((k : ℕ) → k < p → get_or (live_numbers 0 es) k 0 < n) → ((k : ℕ) → p ≤ k → k < length (live_numbers 0 es) → n ≤ get_or (live_numbers 0 es) k 0) → p ≡ rank es n
is_rank es n p l before after =
    elim (cases_lt p (rank es n)) [
      | inl w ↦ absurd (let a = below_rank 0 es n p w in let b = rank-le 0 n es in let c = after p (omega arith) (omega (arith, b)) in omega (arith, a, c))
      | inr w ↦ elim (cases_lt (rank es n) p) [
        | inl v ↦ absurd (let a = from_rank 0 es n (rank es n) (omega arith) (omega arith) in let b = before (rank es n) v in omega (arith, a, b))
        | inr v ↦ omega arith
      ]
    ]

-- a number gets a segment
pub listed-add : (first : ℕ) (es : List (Option Entry)) (n : ℕ) (e : Entry) → n < length es → slot_at es n ≡ None → live_numbers first (set es n (Some e)) ≡ insert (live_numbers first es) (rank es n) (first + n)
listed-add first [] n e l h = absurd (omega arith)
listed-add first (None ∷ es) zero e l h = let z : first + 0 ≡ first = omega arith in rw z refl
listed-add first (Some f ∷ es) zero e l h = absurd (cc)
listed-add first (None ∷ es) (suc n) e l h = let s : first + 1 + n ≡ first + suc n = omega arith in rw s at (listed-add (first + 1) es n e (omega arith) h)
listed-add first (Some f ∷ es) (suc n) e l h = let s : first + 1 + n ≡ first + suc n = omega arith in ap (λ xs. first ∷ xs) (rw s at (listed-add (first + 1) es n e (omega arith) h))

-- a number loses its segment
pub listed-remove : (first : ℕ) (es : List (Option Entry)) (n : ℕ) → IsSome (slot_at es n) → live_numbers first (set es n None) ≡ remove (live_numbers first es) (rank es n)
listed-remove first [] n h = absurd (cc)
listed-remove first (None ∷ es) zero h = absurd (cc)
listed-remove first (Some f ∷ es) zero h = refl
listed-remove first (None ∷ es) (suc n) h = listed-remove (first + 1) es n h
listed-remove first (Some f ∷ es) (suc n) h = ap (λ xs. first ∷ xs) (listed-remove (first + 1) es n h)

-- a segment changes
pub listed-set : (first : ℕ) (es : List (Option Entry)) (n : ℕ) (e : Entry) → IsSome (slot_at es n) → live_numbers first (set es n (Some e)) ≡ live_numbers first es
listed-set first [] n e h = absurd (cc)
listed-set first (None ∷ es) zero e h = absurd (cc)
listed-set first (Some f ∷ es) zero e h = refl
listed-set first (None ∷ es) (suc n) e h = listed-set (first + 1) es n e h
listed-set first (Some f ∷ es) (suc n) e h = ap (λ xs. first ∷ xs) (listed-set (first + 1) es n e h)

pub listed-none : (first n : ℕ) (es : List (Option Entry)) → ((k : ℕ) → k < length es → slot_at es k ≡ None) → live_numbers first es ≡ []
listed-none first n [] h = refl
listed-none first n (None ∷ es) h = listed-none (first + 1) n es (λ k l. h (suc k) (omega arith))
listed-none first n (Some e ∷ es) h = absurd (let z = h 0 (omega arith) in cc)

pub listed-le : (first : ℕ) (es : List (Option Entry)) → length (live_numbers first es) ≤ length es
listed-le first [] = omega arith
listed-le first (None ∷ es) = let a = listed-le (first + 1) es in omega (arith, a)
listed-le first (Some e ∷ es) = let a = listed-le (first + 1) es in omega (arith, a)

-- what stands at a place is a number at least as high as the place, and then all before are too
pub rising_from : (ns : List ℕ) (i d : ℕ) → RisesTo ns → i + d < length ns → get_or ns i 0 + d ≤ get_or ns (i + d) 0
rising_from ns i zero r l = let z : i + 0 ≡ i = omega arith in rw z (omega arith)
rising_from ns i (suc d) r l = let a = rising_from ns i d r (omega arith) in let b = r (i + d) (i + suc d) (omega arith) l in omega (arith, a, b)

pub gap_before : (ns : List ℕ) (m k : ℕ) → RisesTo ns → m < length ns → get_or ns m 0 ≡ m → k ≤ m → get_or ns k 0 ≡ k
gap_before ns m k r l e w =
    let s : k + (m - k) ≡ m = omega arith in
    let a = rising_from ns k (m - k) r (omega arith) in
    let b = rw s at a in
    let z : 0 + k ≡ k = omega arith in
    let c = rw z at (rising_from ns 0 k r (omega arith)) in
    omega (arith, b, c, e)

pub gap_after : (ns : List ℕ) (m k : ℕ) → RisesTo ns → m < length ns → get_or ns m 0 ≢ m → m ≤ k → k < length ns → k < get_or ns k 0
gap_after ns m k r l e w h =
    let s : m + (k - m) ≡ k = omega arith in
    let a = rw s at (rising_from ns m (k - m) r (omega arith)) in
    let z : 0 + m ≡ m = omega arith in
    let c = rw z at (rising_from ns 0 m r (omega arith)) in
    let d : m < get_or ns m 0 = omega (arith, c, e) in
    omega (arith, a, d)

pub below_first : (ns : List ℕ) (n : ℕ) → RisesTo ns → (i j d : ℕ) → i ≤ j → j < length ns → ltb (get_or ns j d) n ≡ true → ltb (get_or ns i d) n ≡ true
below_first ns n r i j d l m h = elim (cases_eq i j) [
  | inl e ↦ rw e h
  | inr ne ↦
      (let a = r i j (omega arith) m in
      let x : get_or ns j d ≡ get_or ns j 0 = get_or_default ns j d 0 m in
      let y : get_or ns i d ≡ get_or ns i 0 = get_or_default ns i d 0 (omega arith) in
      let b : get_or ns j d < n = grind (arith, nat_tests) in
      let c : get_or ns i d < n = omega (arith, a, b, x, y) in
      grind (arith, nat_tests))
]

-- where a number has none, there are fewer segments than numbers
pub listed-lt : (first : ℕ) (es : List (Option Entry)) (n : ℕ) → n < length es → slot_at es n ≡ None → length (live_numbers first es) < length es
listed-lt first [] n l h = absurd (omega arith)
listed-lt first (None ∷ es) zero l h = let a = listed-le (first + 1) es in omega (arith, a)
listed-lt first (Some e ∷ es) zero l h = absurd (cc)
listed-lt first (None ∷ es) (suc n) l h = let a = listed-lt (first + 1) es n (omega arith) h in omega (arith, a)
listed-lt first (Some e ∷ es) (suc n) l h = let a = listed-lt (first + 1) es n (omega arith) h in omega (arith, a)

-- the number that a search for a gap finds has no segment
gap_by : (es : List (Option Entry)) (n : ℕ) (o : Option Entry) → slot_at es n ≡ o → ((k : ℕ) → k < n → get_or (live_numbers 0 es) k 0 ≡ k) → ((k : ℕ) → n ≤ k → k < length (live_numbers 0 es) → k < get_or (live_numbers 0 es) k 0) → o ≡ None
gap_by es n None e before after = refl
gap_by es n (Some x) e before after =
    let a = at_rank 0 es n (ap is_some e) in
    elim (cases_lt (rank es n) n) [
      | inl w ↦ absurd (let b = before (rank es n) w in omega (arith, a.1, b, w))
      | inr w ↦ absurd (let b = after (rank es n) w a.0 in omega (arith, a.1, b, w))
    ]

pub gap_is_vacant : (es : List (Option Entry)) (n : ℕ) → ((k : ℕ) → k < n → get_or (live_numbers 0 es) k 0 ≡ k) → ((k : ℕ) → n ≤ k → k < length (live_numbers 0 es) → k < get_or (live_numbers 0 es) k 0) → slot_at es n ≡ None
gap_is_vacant es n before after = gap_by es n (slot_at es n) refl before after

-- what the list names has a segment
pub listed_lives : (first : ℕ) (es : List (Option Entry)) (i n : ℕ) → i < length (live_numbers first es) → get_or (live_numbers first es) i 0 ≡ first + n → IsSome (slot_at es n)
listed_lives first [] i n l e = absurd (omega (arith, l))
listed_lives first (None ∷ es) i zero l e = absurd (let a = above (first + 1) es i l in omega (arith, a, e))
listed_lives first (None ∷ es) i (suc n) l e = listed_lives (first + 1) es i n l (omega (arith, e))
listed_lives first (Some x ∷ es) zero zero l e = refl
listed_lives first (Some x ∷ es) zero (suc n) l e = absurd (omega (arith, e))
listed_lives first (Some x ∷ es) (suc i) zero l e = absurd (let a = above (first + 1) es i (omega (arith, l)) in omega (arith, a, e))
listed_lives first (Some x ∷ es) (suc i) (suc n) l e = listed_lives (first + 1) es i n (omega (arith, l)) (omega (arith, e))
