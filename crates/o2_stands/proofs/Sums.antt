-- Sums over names are sums over numbers of segments.
use Rattle.std.proofs.Common.{◌≡◌, inl, inr, ℕ, zero, suc, ◌+◌, ◌<◌, Bool, true, false, cond, not, eqb, ◌||◌, List, [], ◌∷◌, length, map, Option, Some, None, is_some, IsSome, refl, sym, ap, ◌∙◌, subst, arith, if◌then◌else◌}
use Rattle.std.specs.Prelude.{filter, sum, ◌==◌}
use Rattle.std.proofs.lemmas.Bool.{cases_eq, false≢true}
use Rattle.std.proofs.lemmas.Bool.Decides.{nat_tests}
use Rattle.std.proofs.lemmas.List.Sums.{sum_by-cons}
use Rattle.o2_entries.specs.declared.Entry.{Entry}
use Rattle.o2_entries.specs.Tables.{live_numbers, slot_at}
use Rattle.o2_place.specs.Layout.{over}
use Rattle.o2_place.proofs.Sums.{only, over-add, over-only, over-same, over-zero}
use Rattle.o2_world.specs.Map.{Map, get}
use Rattle.o2_world.specs.World.{Segment}
use Rattle.o2_run.specs.Room.{is_in, numbers}
use Rattle.o2_store.specs.Needs.{has_age}
use Rattle.o2_store.specs.Shelf.{entry_or}
use Rattle.o2_segbus.specs.Seen.{number_from}
use Rattle.o2_stands.specs.Stands.{AreOnce}

-- Over the pairs of a map.

-- what a name weighs, 0 where it has none
abbrev pub val : (Segment → ℕ) → Option Segment → ℕ
val h None = 0
val h (Some s) = h s

here : (k : ℕ) → (k == k) ≡ true
here k = grind arith

none_some : {X : Type 0} (x : X) → None ≡ Some x → ⊥
none_some x e = cc

step : (h : ℕ → Segment → ℕ) (e : ℕ × Segment) (es : Map Segment) (n : ℕ) → get es e.0 ≡ None
    → val (h n) (get (e ∷ es) n) ≡ val (h n) (get es n) + only e.0 (h e.0 e.1) n
step h e es n none = elim (cases_eq n e.0) [
  | inl same ↦
      (let t : (e.0 == n) ≡ true = grind arith in
      let u : eqb n e.0 ≡ true = grind (arith, nat_tests) in
      let g : get es n ≡ None = subst (λ (k : ℕ). get es k ≡ None) (sym same) none in
      let w : h n e.1 ≡ h e.0 e.1 = ap (λ (k : ℕ). h k e.1) same in
      rw (t, u, g) (omega (arith, w)))
  | inr other ↦
      (let t : (e.0 == n) ≡ false = grind arith in
      let u : eqb n e.0 ≡ false = grind (arith, nat_tests) in
      rw (t, u) (omega arith))
]

there : (e : ℕ × Segment) (es : Map Segment) (n : ℕ) → is_some (get es n) ≡ true → is_some (get (e ∷ es) n) ≡ true
there e es n s = go (e.0 == n)
  where
    go : (b : Bool) → is_some (cond b (Some e.1) (get es n)) ≡ true
    go true = refl
    go false = s

first : (e : ℕ × Segment) (es : Map Segment) → is_some (get (e ∷ es) e.0) ≡ true
first e es = rw (here e.0) refl

-- a sum over the pairs of a map that has each name once is one over the names
pub pairs_sum : (h : ℕ → Segment → ℕ) (m : Map Segment) (top : ℕ) → AreOnce m → ((n : ℕ) → is_some (get m n) ≡ true → n < top)
    → sum (map (λ (e : ℕ × Segment). h e.0 e.1) m) ≡ over (λ n. val (h n) (get m n)) top
pairs_sum h [] top once below = sym (over-zero top)
pairs_sum h (e ∷ es) top once below =
    let rest = pairs_sum h es top once.1 (λ n s. below n (there e es n s)) in
    let split = over-same (λ n. val (h n) (get (e ∷ es) n)) (λ n. val (h n) (get es n) + only e.0 (h e.0 e.1) n) top (λ n l. step h e es n once.0) in
    let add = over-add (λ n. val (h n) (get es n)) (only e.0 (h e.0 e.1)) top in
    let one = over-only e.0 (h e.0 e.1) top (below e.0 (first e es)) in
    let c = sum_by-cons (λ (x : ℕ). x) (h e.0 e.1) (map (λ (x : ℕ × Segment). h x.0 x.1) es) in
    omega (arith, rest, split, add, one, c)

-- names that pass a test weigh something, others nothing
pub picked_sum : (g : ℕ → ℕ) (c : ℕ → Bool) (m : Map Segment) → sum (map g (filter c (numbers m))) ≡ sum (map (λ (e : ℕ × Segment). if c e.0 then g e.0 else 0) m)
picked_sum g c [] = refl
picked_sum g c (e ∷ es) =
    let rest = picked_sum g c es in
    let a = sum_by-cons (λ (x : ℕ). x) (if c e.0 then g e.0 else 0) (map (λ (x : ℕ × Segment). if c x.0 then g x.0 else 0) es) in
    go (c e.0) (sum (map (λ (x : ℕ × Segment). if c x.0 then g x.0 else 0) (e ∷ es))) a rest
  where
    go : (b : Bool) (all : ℕ) → all ≡ (if b then g e.0 else 0) + sum (map (λ (x : ℕ × Segment). if c x.0 then g x.0 else 0) es)
        → sum (map g (filter c (numbers es))) ≡ sum (map (λ (x : ℕ × Segment). if c x.0 then g x.0 else 0) es)
        → sum (map g (cond b (e.0 ∷ filter c (numbers es)) (filter c (numbers es)))) ≡ all
    go true all a rest = let c2 = sum_by-cons (λ (x : ℕ). x) (g e.0) (map g (filter c (numbers es))) in omega (arith, a, rest, c2)
    go false all a rest = omega (arith, a, rest)

pub all_sum : (g : ℕ → ℕ) (m : Map Segment) → sum (map g (numbers m)) ≡ sum (map (λ (e : ℕ × Segment). g e.0) m)
all_sum g [] = refl
all_sum g (e ∷ es) =
    let rest = all_sum g es in
    let a = sum_by-cons (λ (x : ℕ). x) (g e.0) (map g (numbers es)) in
    let b = sum_by-cons (λ (x : ℕ). x) (g e.0) (map (λ (x : ℕ × Segment). g x.0) es) in
    omega (arith, rest, a, b)

-- a name that has a segment is among the numbers
in_step : (k n : ℕ) (rest : Option Segment) (below : Bool) → (is_some rest ≡ true → below ≡ true) → (s : Segment) → is_some (if k == n then Some s else rest) ≡ true
    → (k == n) || below ≡ true
in_step k n rest below h s e = go (k == n) e
  where
    go : (b : Bool) → is_some (cond b (Some s) rest) ≡ true → b || below ≡ true
    go true e = refl
    go false e = h e

pub is_number : (m : Map Segment) (n : ℕ) → is_some (get m n) ≡ true → is_in n (numbers m) ≡ true
is_number [] n e = absurd (false≢true e)
is_number (e ∷ es) n s = in_step e.0 n (get es n) (is_in n (numbers es)) (is_number es n) e.1 s

-- where all names are among others, none is left beside them
pub none_beside : (old : List ℕ) (m : Map Segment) → ((n : ℕ) → is_some (get m n) ≡ true → is_in n old ≡ true)
    → filter (λ n. not (is_in n old)) (numbers m) ≡ []
none_beside old [] all = refl
none_beside old (e ∷ es) all =
    ap (λ (b : Bool). cond (not b) (e.0 ∷ filter (λ n. not (is_in n old)) (numbers es)) (filter (λ n. not (is_in n old)) (numbers es))) (all e.0 (first e es))
    ∙ none_beside old es (λ n s. all n (there e es n s))

-- Over the numbers of a store.

abbrev pub at_key : (ℕ → ℕ) → Option ℕ → ℕ
at_key f None = 0
at_key f (Some k) = f k

abbrev pub in_slot : (ℕ → ℕ) → ℕ → Option Entry → ℕ
in_slot f k None = 0
in_slot f k (Some e) = f k

over-first : (f : ℕ → ℕ) (n : ℕ) → over f (suc n) ≡ f 0 + over (λ k. f (suc k)) n
over-first f zero = omega arith
over-first f (suc n) = let a = over-first f n in omega (arith, a)

-- no two have one age, and each age is below a bound
pub record AreAges (es : List (Option Entry)) (top : ℕ) : Type 0 where
  pub apart : (j k : ℕ) → IsSome (slot_at es j) → IsSome (slot_at es k) → (entry_or (slot_at es j)).age ≡ (entry_or (slot_at es k)).age → j ≡ k
  pub young : (k : ℕ) → IsSome (slot_at es k) → (entry_or (slot_at es k)).age < top

ages_behind : (o : Option Entry) (es : List (Option Entry)) (top : ℕ) → AreAges (o ∷ es) top → AreAges es top
ages_behind o es top a = record {
  apart = λ j k x y e. (let q = a.apart (suc j) (suc k) x y e in omega (arith, q));
  young = λ k x. a.young (suc k) x;
}

none_from : (age : ℕ) (es : List (Option Entry)) (b : ℕ) → ((k : ℕ) → has_age (slot_at es k) age ≡ false) → number_from age es b ≡ None
none_from age [] b h = refl
none_from age (o ∷ es) b h =
    ap (λ (t : Bool). cond t (Some b) (number_from age es (b + 1))) (h 0) ∙ none_from age es (b + 1) (λ k. h (suc k))

has_is : (o : Option Entry) (age : ℕ) → has_age o age ≡ true → IsSome o × ((entry_or o).age ≡ age)
has_is None age h = absurd (false≢true h)
has_is (Some e) age h = (refl, grind arith)

no_more : (e : Entry) (es : List (Option Entry)) (top b : ℕ) → AreAges (Some e ∷ es) top → number_from e.age es b ≡ None
no_more e es top b a = none_from e.age es b (λ k. go k (has_age (slot_at es k) e.age) refl)
  where
    go : (k : ℕ) (t : Bool) → has_age (slot_at es k) e.age ≡ t → t ≡ false
    go k false q = refl
    go k true q =
        let x = has_is (slot_at es k) e.age q in
        let z = a.apart (suc k) 0 x.0 refl x.1 in
        absurd (omega (arith, z))

key_step : (f : ℕ → ℕ) (e : Entry) (es : List (Option Entry)) (b top n : ℕ) → AreAges (Some e ∷ es) top
    → at_key f (number_from n (Some e ∷ es) b) ≡ at_key f (number_from n es (b + 1)) + only e.age (f b) n
key_step f e es b top n a = elim (cases_eq n e.age) [
  | inl same ↦
      (let t : (e.age == n) ≡ true = grind arith in
      let u : eqb n e.age ≡ true = grind (arith, nat_tests) in
      let g : number_from n es (b + 1) ≡ None = subst (λ (k : ℕ). number_from k es (b + 1) ≡ None) (sym same) (no_more e es top (b + 1) a) in
      rw (t, u, g) (omega arith))
  | inr other ↦
      (let t : (e.age == n) ≡ false = grind arith in
      let u : eqb n e.age ≡ false = grind (arith, nat_tests) in
      rw (t, u) (omega arith))
]

shifted : (f : ℕ → ℕ) (es : List (Option Entry)) (b : ℕ) → over (λ k. in_slot f (b + 1 + k) (slot_at es k)) (length es) ≡ over (λ k. in_slot f (b + suc k) (slot_at es k)) (length es)
shifted f es b =
    over-same (λ k. in_slot f (b + 1 + k) (slot_at es k)) (λ k. in_slot f (b + suc k) (slot_at es k)) (length es)
    (λ k l. (let e : b + 1 + k ≡ b + suc k = omega arith in ap (λ (j : ℕ). in_slot f j (slot_at es k)) e))

-- a sum over the ages is one over the numbers
numbers_from : (f : ℕ → ℕ) (es : List (Option Entry)) (b top : ℕ) → AreAges es top
    → over (λ n. at_key f (number_from n es b)) top ≡ over (λ k. in_slot f (b + k) (slot_at es k)) (length es)
numbers_from f [] b top a = over-zero top
numbers_from f (None ∷ es) b top a =
    let rest = numbers_from f es (b + 1) top (ages_behind None es top a) in
    let split = over-first (λ k. in_slot f (b + k) (slot_at (None ∷ es) k)) (length es) in
    let s = shifted f es b in
    omega (arith, rest, split, s)
numbers_from f (Some e ∷ es) b top a =
    let rest = numbers_from f es (b + 1) top (ages_behind (Some e) es top a) in
    let split = over-first (λ k. in_slot f (b + k) (slot_at (Some e ∷ es) k)) (length es) in
    let s = shifted f es b in
    let more = over-same (λ n. at_key f (number_from n (Some e ∷ es) b)) (λ n. at_key f (number_from n es (b + 1)) + only e.age (f b) n) top (λ n l. key_step f e es b top n a) in
    let add = over-add (λ n. at_key f (number_from n es (b + 1))) (only e.age (f b)) top in
    let one = over-only e.age (f b) top (a.young 0 refl) in
    let z : f (b + 0) ≡ f b = ap f (omega arith) in
    omega (arith, rest, split, s, more, add, one, z)

pub numbers_sum : (f : ℕ → ℕ) (es : List (Option Entry)) (top : ℕ) → AreAges es top
    → over (λ n. at_key f (number_from n es 0)) top ≡ over (λ k. in_slot f k (slot_at es k)) (length es)
numbers_sum f es top a =
    numbers_from f es 0 top a
    ∙ over-same (λ k. in_slot f (0 + k) (slot_at es k)) (λ k. in_slot f k (slot_at es k)) (length es)
    (λ k l. (let e : 0 + k ≡ k = omega arith in ap (λ (j : ℕ). in_slot f j (slot_at es k)) e))

pub ages_are : (es : List (Option Entry)) (top : ℕ)
    → ((j k : ℕ) → IsSome (slot_at es j) → IsSome (slot_at es k) → (entry_or (slot_at es j)).age ≡ (entry_or (slot_at es k)).age → j ≡ k)
    → ((k : ℕ) → IsSome (slot_at es k) → (entry_or (slot_at es k)).age < top) → AreAges es top
ages_are es top a y = record { apart = a; young = y }

same_one : (k : ℕ) (o : Option Entry) → in_slot (λ j. 1) (suc k) o ≡ in_slot (λ j. 1) k o
same_one k None = refl
same_one k (Some e) = refl

-- how many numbers have a segment
live_from : (es : List (Option Entry)) (b : ℕ) → length (live_numbers b es) ≡ over (λ k. in_slot (λ j. 1) k (slot_at es k)) (length es)
live_from [] b = refl
live_from (None ∷ es) b =
    let rest = live_from es (b + 1) in
    let split = over-first (λ k. in_slot (λ j. 1) k (slot_at (None ∷ es) k)) (length es) in
    let s = over-same (λ k. in_slot (λ j. 1) (suc k) (slot_at es k)) (λ k. in_slot (λ j. 1) k (slot_at es k)) (length es) (λ k l. same_one k (slot_at es k)) in
    omega (arith, rest, split, s)
live_from (Some e ∷ es) b =
    let rest = live_from es (b + 1) in
    let split = over-first (λ k. in_slot (λ j. 1) k (slot_at (Some e ∷ es) k)) (length es) in
    let s = over-same (λ k. in_slot (λ j. 1) (suc k) (slot_at es k)) (λ k. in_slot (λ j. 1) k (slot_at es k)) (length es) (λ k l. same_one k (slot_at es k)) in
    omega (arith, rest, split, s)

pub live_sum : (es : List (Option Entry)) → length (live_numbers 0 es) ≡ over (λ k. in_slot (λ j. 1) k (slot_at es k)) (length es)
live_sum es = live_from es 0
