-- Who leaves the memory had to, and gaps by where segments lie.
use Rattle.std.proofs.Common.{◌≡◌, ◌≢◌, ◌⊎◌, inl, inr, ℕ, ◌+◌, ◌<◌, ◌≤◌, List, [], ◌∷◌, Option, Some, None, is_some, IsSome, Bool, true, false, eqb, if◌then◌else◌}
use Rattle.std.proofs.Common.{refl, sym, ap, ◌∙◌, subst, arith, length}
use Rattle.std.specs.Option.{IfNone}
use Rattle.std.proofs.lemmas.Bool.{cases_eq}
use Rattle.std.proofs.lemmas.Bool.Decides.{nat_tests}
use Rattle.o2_entries.specs.declared.Entry.{Entry}
use Rattle.o2_entries.specs.Tables.{slot_at}
use Rattle.o2_place.proofs.Sums.{over-le}
use Rattle.o2_place.specs.declared.ranges.Range.{Range}
use Rattle.o2_place.specs.Layout.{Layout, AreApart, Changes, IsFree, IsLowestFree, find_in, len_of, over, used}
use Rattle.o2_store.specs.Gaps.{IsGap, IsGapBehind, SlideFor}
use Rattle.o2_store.specs.Leaving.{HadToLeave, LeaveFor, NoneLeaves, lacking}
use Rattle.o2_store.specs.Shelf.{Shelf, IsMoved, IsShelf, SameTables, entry, entry_or, place_of, rounded}
use Rattle.o2_store.proofs.Leaving.{by_presence, some_not_none}
use Rattle.o2_store.proofs.Tables.{none_is_none, over-change, place-same, placed_at}

-- where no range changes, none leaves
pub leave_still : (s t : Shelf) (len : ℕ) → t.places ≡ s.places → LeaveFor s t len
leave_still s t len e = inl (record {
  each = λ k i. ap (λ (p : Layout). is_some (find_in p.ranges k)) e ∙ i;
  load = (let q : used t.places.ranges ≡ used s.places.ranges = ap (λ (p : Layout). used p.ranges) e in omega (arith, q));
})

-- what a segment takes where it is
pub taken_size : (s : Shelf) (key : ℕ) → IsShelf s → IsSome (place_of s key) → len_of (place_of s key) ≡ rounded (entry s key).size
taken_size s key h i = go (place_of s key) refl i
  where
    go : (o : Option (ℕ × ℕ)) → place_of s key ≡ o → IsSome o → len_of o ≡ rounded (entry s key).size
    go None e j = absurd (let f : false ≡ true = j in cc)
    go (Some r) e j = (placed_at s key r.0 r.1 h e).1

-- what is free where it leaves
pub frees : (s : Shelf) (q : Layout) (key : ℕ) (o : Option (ℕ × ℕ)) → IsShelf s → IsSome (place_of s key) → o ≡ place_of s key → used q.ranges + len_of o ≡ used s.places.ranges
    → used q.ranges + rounded (entry s key).size ≡ used s.places.ranges
frees s q key o h i e l =
    let a = taken_size s key h i in
    let b : len_of o ≡ len_of (place_of s key) = ap len_of e in
    omega (arith, a, b, l)

-- one leaves where so many bytes have no room
pub leave_one : (s t : Shelf) (key len : ℕ) → IsSome (place_of s key) → Changes s.places t.places key None → used t.places.ranges + rounded (entry s key).size ≡ used s.places.ranges
    → s.places.size < used s.places.ranges + len → LeaveFor s t len
leave_one s t key len was c load short = inr (record {
  number = key;
  was = was;
  out = place-same s.places t.places key None c;
  short = (let size = c.size in omega (arith, size, load, short));
})

-- the same behind a change that moves none
pub leave_saved : (s t u : Shelf) (key len : ℕ) → SameTables s t → t.places ≡ s.places → IsSome (place_of s key) → Changes t.places u.places key None
    → used u.places.ranges + rounded (entry t key).size ≡ used t.places.ranges → s.places.size < used s.places.ranges + len → LeaveFor s u len
leave_saved s t u key len same e was c load short =
    let a : rounded (entry t key).size ≡ rounded (entry s key).size = ap rounded (same.same key).size in
    let b : used t.places.ranges ≡ used s.places.ranges = ap (λ (p : Layout). used p.ranges) e in
    leave_one s u key len was (subst (λ (p : Layout). Changes p u.places key None) e c) (omega (arith, a, b, load)) short

-- the marks of the clock and the numbers of a call don't matter
pub leave_same : (s t u : Shelf) (len : ℕ) → t.places ≡ s.places → t.entries ≡ s.entries → LeaveFor t u len → LeaveFor s u len
leave_same s t u len e f p = elim p [
  | inl n ↦ inl (record {
    each = λ k i. n.each k (ap (λ (x : Layout). is_some (find_in x.ranges k)) e ∙ i);
    load = (let a : used t.places.ranges ≡ used s.places.ranges = ap (λ (x : Layout). used x.ranges) e in let b = n.load in omega (arith, a, b));
  })
  | inr h ↦ inr (record {
    number = h.number;
    was = sym (ap (λ (x : Layout). is_some (find_in x.ranges h.number)) e) ∙ h.was;
    out = h.out;
    short = (let a : rounded (entry t h.number).size ≡ rounded (entry s h.number).size = ap (λ (es : List (Option Entry)). rounded (entry_or (slot_at es h.number)).size) f in
        let b = h.short in omega (arith, a, b));
  })
]

pub none_twice : (s t u : Shelf) → NoneLeaves s t → NoneLeaves t u → NoneLeaves s u
none_twice s t u m n = record { each = λ k i. n.each k (m.each k i); load = (let a = m.load in let b = n.load in omega (arith, a, b)) }

-- one that left had to, before others came or left, and behind others that came or left
pub had_first : (s t u : Shelf) (len : ℕ) → SameTables s t → (h : HadToLeave t u len) → IsSome (place_of s h.number) → HadToLeave s u len
had_first s t u len same h was = record {
  number = h.number;
  was = was;
  out = h.out;
  short = (let a : rounded (entry t h.number).size ≡ rounded (entry s h.number).size = ap rounded (same.same h.number).size in let b = h.short in omega (arith, a, b));
}

pub had_later : (s t u : Shelf) (len : ℕ) → u.places.size ≡ t.places.size → NoneLeaves t u → (h : HadToLeave s t len) → place_of u h.number ≡ None → HadToLeave s u len
had_later s t u len size n h out = record {
  number = h.number;
  was = h.was;
  out = out;
  short = (let a = n.load in let b = h.short in omega (arith, a, b, size));
}

was_there : (s t : Shelf) (k : ℕ) → (place_of s k ≡ None → place_of t k ≡ None) → IsSome (place_of t k) → IsSome (place_of s k)
was_there s t k f i = elim (by_presence (place_of s k)) [ inl n ↦ absurd (some_not_none (place_of t k) i (f n)) | inr y ↦ y ]

-- one call that takes segments out behind another
pub leave_behind : (s t u : Shelf) (len : ℕ) → SameTables s t → u.places.size ≡ t.places.size → ((k : ℕ) → place_of s k ≡ None → place_of t k ≡ None)
    → ((k : ℕ) → place_of t k ≡ None → place_of u k ≡ None) → LeaveFor s t len → LeaveFor t u len → LeaveFor s u len
leave_behind s t u len same size first later p q = elim q [
  | inl n ↦ elim p [
    | inl m ↦ inl (none_twice s t u m n)
    | inr h ↦ inr (had_later s t u len size n h (later h.number h.out))
  ]
  | inr h ↦ inr (had_first s t u len same h (was_there s t h.number (first h.number) h.was))
]

-- what lacks is at most the size, nothing of a segment in memory, and the size of one out of it
lacking_most : (s : Shelf) (key : ℕ) → lacking s key ≤ rounded (entry s key).size
lacking_most s key = go (is_some (place_of s key))
  where
    go : (b : Bool) → (if b then 0 else rounded (entry s key).size) ≤ rounded (entry s key).size
    go true = omega arith
    go false = omega arith

lacking_here : (s : Shelf) (key : ℕ) → is_some (place_of s key) ≡ true → lacking s key ≡ 0
lacking_here s key i = rw i refl

lacking_out : (s : Shelf) (key : ℕ) → is_some (place_of s key) ≡ false → lacking s key ≡ rounded (entry s key).size
lacking_out s key n = rw n refl

pub leave_here : (s t : Shelf) (key : ℕ) → IsSome (place_of t key) → LeaveFor s t (lacking t key) → LeaveFor s t 0
leave_here s t key i p = subst (λ (n : ℕ). LeaveFor s t n) (lacking_here t key i) p

-- one that didn't come in lacks its size
pub leave_out : (s t : Shelf) (key len : ℕ) → SameTables s t → place_of t key ≡ None → len ≡ rounded (entry s key).size → LeaveFor s t len → LeaveFor s t (lacking t key)
leave_out s t key len same out e p =
    let a : lacking t key ≡ rounded (entry t key).size = lacking_out t key (ap is_some out) in
    let b : rounded (entry t key).size ≡ rounded (entry s key).size = ap rounded (same.same key).size in
    subst (λ (n : ℕ). LeaveFor s t n) (e ∙ sym (a ∙ b)) p

-- one comes in behind those that left
pub leave_in : (s t u : Shelf) (key len : ℕ) → SameTables t u → place_of s key ≡ None → len ≡ rounded (entry t key).size → used u.places.ranges + lacking u key ≡ used t.places.ranges + len
    → ((k : ℕ) → IsSome (place_of t k) → IsSome (place_of u k)) → ((k : ℕ) → k ≢ key → place_of t k ≡ None → place_of u k ≡ None) → LeaveFor s t len → LeaveFor s u (lacking u key)
leave_in s t u key len same out e takes others none p = elim p [
  | inl n ↦ inl (record { each = λ k i. others k (n.each k i); load = (let a = n.load in omega (arith, a, most, takes, size, e)) })
  | inr h ↦ inr (record {
    number = h.number;
    was = h.was;
    out = none h.number (λ x. some_not_none (place_of s h.number) h.was (subst (λ (k : ℕ). place_of s k ≡ None) (sym x) out)) h.out;
    short = (let a = h.short in let b = same.size in omega (arith, a, b, takes));
  })
]
  where
    most : lacking u key ≤ rounded (entry u key).size
    most = lacking_most u key

    size : rounded (entry u key).size ≡ rounded (entry t key).size
    size = ap rounded (same.same key).size

-- what is taken where a segment couldn't come in, and where it has
pub takes_none : (s t u : Shelf) (key : ℕ) → IsMoved s t → u ≡ record t { memory = u.memory } → place_of s key ≡ None
    → used u.places.ranges + lacking u key ≡ used s.places.ranges + rounded (entry s key).size
takes_none s t u key q e none =
    let out : is_some (place_of u key) ≡ false = ap (λ (x : Shelf). is_some (place_of x key)) e ∙ ap is_some (q.none key none) in
    let a : used u.places.ranges ≡ used t.places.ranges = ap (λ (x : Shelf). used x.places.ranges) e in
    let b : rounded (entry u key).size ≡ rounded (entry t key).size = ap (λ (x : Shelf). rounded (entry x key).size) e in
    let d : rounded (entry t key).size ≡ rounded (entry s key).size = ap (λ (x : Shelf). rounded (entry x key).size) q.shelf in
    let f = lacking_out u key out in
    let g = q.load in
    omega (arith, a, b, d, f, g)

pub takes_size : (s t u v : Shelf) (key : ℕ) (r : ℕ × ℕ) → IsMoved s t → u ≡ record t { memory = u.memory } → Changes u.places v.places key (Some r)
    → used v.places.ranges ≡ used u.places.ranges + rounded (entry u key).size → used v.places.ranges + lacking v key ≡ used s.places.ranges + rounded (entry s key).size
takes_size s t u v key r q e c load =
    let a : used u.places.ranges ≡ used t.places.ranges = ap (λ (x : Shelf). used x.places.ranges) e in
    let b : rounded (entry u key).size ≡ rounded (entry t key).size = ap (λ (x : Shelf). rounded (entry x key).size) e in
    let d : rounded (entry t key).size ≡ rounded (entry s key).size = ap (λ (x : Shelf). rounded (entry x key).size) q.shelf in
    let f = lacking_here v key (ap is_some (place-same u.places v.places key (Some r) c)) in
    let g = q.load in
    omega (arith, a, b, d, f, g, load)

found_first : (r : Range) (rs : List Range) → find_in (r ∷ rs) r.id ≡ Some (r.at, r.len)
found_first r rs = (let e : eqb r.id r.id ≡ true = grind (arith, nat_tests) in rw e refl)

found_behind : (r : Range) (rs : List Range) (k at len : ℕ) → find_in rs r.id ≡ None → find_in rs k ≡ Some (at, len) → find_in (r ∷ rs) k ≡ Some (at, len)
found_behind r rs k at len none e = elim (cases_eq k r.id) [
  | inl same ↦ absurd (none_is_none (subst (λ (x : ℕ). find_in rs x ≡ Some (at, len)) same e) none)
  | inr other ↦ (let t : eqb k r.id ≡ false = grind (arith, nat_tests) in rw t e)
]

either_way : (a b c d : ℕ) → (a ≤ b) ⊎ (c ≤ d) → (c ≤ d) ⊎ (a ≤ b)
either_way a b c d p = elim p [ inl l ↦ inr l | inr l ↦ inl l ]

-- what meets no range is free
free_by : (rs : List Range) (size start count : ℕ) → AreApart rs → start + count ≤ size → ((k at len : ℕ) → find_in rs k ≡ Some (at, len) → (start + count ≤ at) ⊎ (at + len ≤ start))
    → IsFree size rs start count
free_by [] size start count a w f = w
free_by (r ∷ rs) size start count a w f = (
  either_way (start + count) r.at (r.at + r.len) start (f r.id r.at r.len (found_first r rs)),
  free_by rs size start count a.1 w (λ k at len e. f k at len (found_behind r rs k at len a.0 e)),
)

-- where no gap is found, there is none
pub no_gap : (s : Shelf) (count : ℕ) (o : Option ℕ) → AreApart s.places.ranges → IsLowestFree s.places count o → IfNone o ((start : ℕ) → IsGap s start count → ⊥)
no_gap s count None a low = λ start g. low start (free_by s.places.ranges s.places.size start count a g.within g.apart)
no_gap s count (Some at) a low = tt

-- a gap of those that stay is one once the others have left
pub gap_left : (s t v : Shelf) (key start : ℕ) → SameTables s t → ((k : ℕ) → IsSome (place_of t k) → place_of t k ≡ place_of s k) → place_of t key ≡ None
    → ((k : ℕ) → k ≢ key → is_some (place_of v k) ≡ is_some (place_of t k)) → IsGapBehind s v key start (rounded (entry s key).size) → IsGap t start (rounded (entry t key).size)
gap_left s t v key start same stay none presence g = record {
  within = (let a = g.within in let b = same.size in omega (arith, a, b, size));
  apart = λ k at len e.
      (let here : IsSome (place_of t k) = ap is_some e in
      let other : k ≢ key = λ x. none_is_none (subst (λ (j : ℕ). place_of t j ≡ Some (at, len)) x e) none in
      let p = g.apart k at len other (presence k other ∙ here) (sym (stay k here) ∙ e) in
      subst (λ (n : ℕ). (start + n ≤ at) ⊎ (at + len ≤ start)) (sym size) p);
}
  where
    size : rounded (entry t key).size ≡ rounded (entry s key).size
    size = ap rounded (same.same key).size

-- the numbers of a call don't matter
pub slide_keys : (s t u : Shelf) (key : ℕ) → t ≡ record s { keys = t.keys } → SlideFor t u key (rounded (entry t key).size) → SlideFor s u key (rounded (entry s key).size)
slide_keys s t u key e w start k g d i =
    let q : SlideFor (record s { keys = t.keys }) u key (rounded (entry s key).size) = subst (λ (x : Shelf). SlideFor x u key (rounded (entry x key).size)) e w in
    q start k (record { within = g.within; apart = g.apart }) d i

-- what a segment takes where it is, and the same with one more there
abbrev len_at : Shelf → ℕ → ℕ
len_at s k = len_of (place_of s k)

abbrev len_with : Shelf → ℕ → ℕ → ℕ
len_with s key k = if eqb k key then rounded (entry s key).size else len_of (place_of s k)

len_with_key : (s : Shelf) (key : ℕ) → len_with s key key ≡ rounded (entry s key).size
len_with_key s key = (let y : eqb key key ≡ true = grind (arith, nat_tests) in rw y refl)

len_with_other : (s : Shelf) (key k : ℕ) → k ≢ key → len_with s key k ≡ len_at s k
len_with_other s key k n = (let y : eqb k key ≡ false = grind (arith, nat_tests) in rw y refl)

key_within : (s : Shelf) (key : ℕ) → IsShelf s → IsSome (place_of s key) → key < length s.entries
key_within s key h i = go (place_of s key) refl i
  where
    go : (o : Option (ℕ × ℕ)) → place_of s key ≡ o → IsSome o → key < length s.entries
    go None e j = absurd (let f : false ≡ true = j in cc)
    go (Some r) e j = (placed_at s key r.0 r.1 h e).0

len_stays : (s t : Shelf) (k : ℕ) → SameTables s t → IsShelf s → IsShelf t → (IsSome (place_of s k) → IsSome (place_of t k)) → len_at s k ≤ len_at t k
len_stays s t k same h q stay = elim (by_presence (place_of s k)) [
  | inl n ↦ (let z : len_of (place_of s k) ≡ 0 = ap len_of n in omega (arith, z))
  | inr i ↦
      (let x = taken_size s k h i in
      let y = taken_size t k q (stay i) in
      let z : rounded (entry t k).size ≡ rounded (entry s k).size = ap rounded (same.same k).size in
      omega (arith, x, y, z))
]

len_comes : (s t : Shelf) (key k : ℕ) → SameTables s t → IsShelf s → IsShelf t → (IsSome (place_of s k) → IsSome (place_of t k)) → IsSome (place_of t key) → len_with s key k ≤ len_at t k
len_comes s t key k same h q stay here = elim (cases_eq k key) [
  | inl e ↦
      (let x = taken_size t key q here in
      let z : rounded (entry t key).size ≡ rounded (entry s key).size = ap rounded (same.same key).size in
      let w = len_with_key s key in
      let v : len_with s key key ≤ len_at t key = omega (arith, w, x, z) in
      subst (λ (j : ℕ). len_with s key j ≤ len_at t j) (sym e) v)
  | inr d ↦ (let w = len_with_other s key k d in let v = len_stays s t k same h q stay in omega (arith, w, v))
]

-- where none leaves, what comes in is taken of the memory
pub came_in : (s t : Shelf) (key : ℕ) → SameTables s t → IsShelf s → IsShelf t → over (λ k. len_of (place_of s k)) (length s.entries) ≡ used s.places.ranges
    → over (λ k. len_of (place_of t k)) (length t.entries) ≡ used t.places.ranges → ((k : ℕ) → IsSome (place_of s k) → IsSome (place_of t k)) → place_of s key ≡ None → IsSome (place_of t key)
    → used s.places.ranges + rounded (entry s key).size ≤ used t.places.ranges
came_in s t key same h q sum_s sum_t stay none here =
    let l = key_within t key q here in
    let c = same.count in
    let a = over-change (len_at s) (len_with s key) key (length s.entries) (λ k n. len_with_other s key k n) (omega (arith, l, c)) in
    let b = over-le (len_with s key) (len_at t) (length s.entries) (λ k m. len_comes s t key k same h q (stay k) here) in
    let d : over (len_at t) (length s.entries) ≡ used t.places.ranges = subst (λ (n : ℕ). over (len_at t) n ≡ used t.places.ranges) c sum_t in
    let e : len_at s key ≡ 0 = ap len_of none in
    let f = len_with_key s key in
    let g : over (len_at s) (length s.entries) ≡ used s.places.ranges = sum_s in
    omega (arith, a, b, d, e, f, g)
