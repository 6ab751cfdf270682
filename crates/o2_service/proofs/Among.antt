-- What is needed, as the store is asked for it.
use Rattle.std.proofs.Common.{◌≡◌, ◌≢◌, ℕ, zero, suc, ◌+◌, ◌<◌, ◌≤◌, inl, inr, List, [], ◌∷◌, length, map, Option, Some, None, is_some, IsSome, Bool, true, false, ltb}
use Rattle.std.proofs.Common.{eqb, ◌||◌, ◌&&◌, if◌then◌else◌, max, refl, sym, ap, ◌∙◌, subst, arith, unwrap_or}
use Rattle.std.specs.List.{slice_get}
use Rattle.std.proofs.lemmas.Bool.{cases_eq, cases_lt}
use Rattle.std.proofs.lemmas.Bool.Decides.{nat_tests}
use Rattle.std.proofs.Math.Nat.{le-max_left}
use Rattle.o2_entries.specs.declared.Entry.{Entry}
use Rattle.o2_entries.specs.declared.Attr.{Attr}
use Rattle.o2_entries.specs.Tables.{slot_at}
use Rattle.o2_place.specs.declared.seg_id.SegId.{SegId}
use Rattle.o2_place.specs.Layout.{over}
use Rattle.o2_place.proofs.Sums.{over-same, over-le}
use Rattle.o2_store.specs.Shelf.{Shelf, SameTables, aged, entry, entry_of, entry_or, place_of, rounded, base_of}
use Rattle.o2_swapmap.specs.Piles.{all_of}
use Rattle.o2_store.specs.Loads.{live_load, swap_load}
use Rattle.o2_store.proofs.Loads.{same_live_load, same_swap_load}
use Rattle.o2_store.specs.Needs.{named_in, is_named, has_age, wanted, all_wanted}
use Rattle.o2_service.specs.Needs.{AreLive, ArePresent, AreWhole, OnlyNeededComes, Stays, needs, size_in, needed, all_needed, segments_of}

-- a live segment is the one that its number has
pub named_live : (age : ℕ) (o : Option Entry) → IsSome (aged age o) → has_age o age ≡ true
named_live age None i = i
named_live age (Some e) i = elim (cases_eq e.age age) [
  | inl same ↦ grind (arith, nat_tests)
  | inr other ↦ absurd (let t : eqb e.age age ≡ false = grind (arith, nat_tests) in let f : false ≡ true = rw t at i in cc)
]

-- those behind the first are live
pub live_rest : (s : Shelf) (p : SegId × ℕ) (need : List (SegId × ℕ)) → AreLive s (p ∷ need) → AreLive s need
live_rest s p need l = record { each = λ i q e. l.each (suc i) q e }

pub live_first : (s : Shelf) (p : SegId × ℕ) (need : List (SegId × ℕ)) → AreLive s (p ∷ need) → IsSome (entry_of s p.0)
live_first s p need l = l.each 0 p refl

-- a number that is needed is named, where all that is needed is live
pub named_needed : (s : Shelf) (need : List (SegId × ℕ)) (k : ℕ) → AreLive s need → needs need k ≡ true → named_in s.entries (segments_of need) k ≡ true
named_needed s [] k l e = e
named_needed s (p ∷ ps) k l e =
    let n : is_named s.entries p.0 ≡ true = named_live p.0.age (slot_at s.entries p.0.key) (live_first s p ps l) in
    elim (cases_eq k p.0.key) [
      | inl same ↦ (let t : eqb k p.0.key ≡ true = grind (arith, nat_tests) in rw (n, t) refl)
      | inr other ↦
          (let t : eqb k p.0.key ≡ false = grind (arith, nat_tests) in
          let r : needs ps k ≡ true = rw t at e in
          rw (n, t) (named_needed s ps k (live_rest s p ps l) r))
    ]

-- a number that is named is needed
needed_named : (es : List (Option Entry)) (need : List (SegId × ℕ)) (k : ℕ) → named_in es (segments_of need) k ≡ true → needs need k ≡ true
needed_named es [] k e = e
needed_named es (p ∷ ps) k e = elim (cases_eq k p.0.key) [
  | inl same ↦ (let t : eqb k p.0.key ≡ true = grind (arith, nat_tests) in rw t refl)
  | inr other ↦
      (let t : eqb k p.0.key ≡ false = grind (arith, nat_tests) in
      rw t (needed_named es ps k (rest (is_named es p.0) (eqb k p.0.key) t e)))
]
  where
    rest : (a b : Bool) → b ≡ false → ((a && b) || named_in es (segments_of ps) k) ≡ true → named_in es (segments_of ps) k ≡ true
    rest true b f e = rw f at e
    rest false b f e = e

-- a number at a place of the list is needed
pub needs_at : (need : List (SegId × ℕ)) (i : ℕ) (p : SegId × ℕ) → slice_get need i ≡ Some p → needs need p.0.key ≡ true
needs_at [] i p e = absurd cc
needs_at (q ∷ qs) zero p e =
    let same : q.0.key ≡ p.0.key = ap (λ (o : Option (SegId × ℕ)). (unwrap_or o q).0.key) e in
    let t : eqb p.0.key q.0.key ≡ true = grind (arith, nat_tests) in
    rw t refl
needs_at (q ∷ qs) (suc i) p e = elim (cases_eq p.0.key q.0.key) [
  | inl same ↦ (let t : eqb p.0.key q.0.key ≡ true = grind (arith, nat_tests) in rw t refl)
  | inr other ↦ (let t : eqb p.0.key q.0.key ≡ false = grind (arith, nat_tests) in rw t (needs_at qs i p e))
]

rounded_le : (a b : ℕ) → a ≤ b → rounded a ≤ rounded b
rounded_le a b l = omega (arith, l)

-- what the store is asked for at once is part of what is needed
part : (s : Shelf) (need : List (SegId × ℕ)) (key : ℕ) → needs need key ≡ true → (k : ℕ) → wanted s key (segments_of need) k ≤ needed s need k
part s need key among k = go (ltb 0 (entry s k).attr.lock) (eqb k key || named_in s.entries (segments_of need) k) refl
  where
    asked : (eqb k key || named_in s.entries (segments_of need) k) ≡ true → needs need k ≡ true
    asked e = elim (cases_eq k key) [
      | inl same ↦ subst (λ (x : ℕ). needs need x ≡ true) (sym same) among
      | inr other ↦ (let t : eqb k key ≡ false = grind (arith, nat_tests) in let r : named_in s.entries (segments_of need) k ≡ true = rw t at e in needed_named s.entries need k r)
    ]

    go : (a b : Bool) → (eqb k key || named_in s.entries (segments_of need) k) ≡ b
        → (if a || b then rounded (entry s k).size else 0) ≤ (if a || needs need k then rounded (max (entry s k).size (size_in need k)) else 0)
    go true b e = rounded_le (entry s k).size (max (entry s k).size (size_in need k)) (le-max_left (entry s k).size (size_in need k))
    go false true e = (let y = asked e in rw y (rounded_le (entry s k).size (max (entry s k).size (size_in need k)) (le-max_left (entry s k).size (size_in need k))))
    go false false e = omega arith

pub wanted_needed : (s : Shelf) (need : List (SegId × ℕ)) (key : ℕ) → needs need key ≡ true → all_wanted s key (segments_of need) ≤ all_needed s need
wanted_needed s need key among = over-le (wanted s key (segments_of need)) (needed s need) (length s.entries) (λ k l. part s need key among k)

-- the need is that of sizes and locks alone
pub same_needed : (s t : Shelf) (need : List (SegId × ℕ)) → SameTables s t → all_needed t need ≡ all_needed s need
same_needed s t need q =
    ap (λ (n : ℕ). over (needed t need) n) q.count
    ∙ over-same (needed t need) (needed s need) (length s.entries)
    (λ k l. ap (λ (a : Attr). if ltb 0 a.lock || needs need k then rounded (max (entry t k).size (size_in need k)) else 0) (q.same k).attr
    ∙ ap (λ (n : ℕ). if ltb 0 (entry s k).attr.lock || needs need k then rounded (max n (size_in need k)) else 0) (q.same k).size)

-- live segments stay live
live_aged : (age : ℕ) (o p : Option Entry) → is_some p ≡ is_some o → (entry_or p).age ≡ (entry_or o).age → IsSome (aged age o) → IsSome (aged age p)
live_aged age None p a b i = absurd (let f : false ≡ true = i in cc)
live_aged age (Some e) None a b i = absurd (let f : false ≡ true = a in cc)
live_aged age (Some e) (Some f) a b i = subst (λ (x : ℕ). IsSome (if eqb x age then Some f else None)) (sym b) (go (eqb e.age age) i)
  where
    go : (t : Bool) → IsSome (if t then Some e else None) → IsSome (if t then Some f else None)
    go true j = refl
    go false j = j

pub live_same : (s t : Shelf) (id : SegId) → SameTables s t → IsSome (entry_of s id) → IsSome (entry_of t id)
live_same s t id q i = live_aged id.age (slot_at s.entries id.key) (slot_at t.entries id.key) (q.same id.key).live (q.same id.key).age i

pub all_live_same : (s t : Shelf) (need : List (SegId × ℕ)) → SameTables s t → AreLive s need → AreLive t need
all_live_same s t need q l = record { each = λ i p e. live_same s t p.0 q (l.each i p e) }

pub whole_same : (s t : Shelf) (k : ℕ) → SameTables s t → (entry s k).attr.gone ≡ false → (entry t k).attr.gone ≡ false
whole_same s t k q w = ap (λ (a : Attr). a.gone) (q.same k).attr ∙ w

pub all_whole_same : (s t : Shelf) (need : List (SegId × ℕ)) → SameTables s t → AreWhole s need → AreWhole t need
all_whole_same s t need q w = record { each = λ i p e. whole_same s t p.0.key q (w.each i p e) }

-- what stays in two steps
pub stays_refl : (need : List (SegId × ℕ)) (s : Shelf) → Stays need s s
stays_refl need s = record { each = λ k e i. i }

pub stays_trans : (need : List (SegId × ℕ)) (s t u : Shelf) → Stays need s t → Stays need t u → Stays need s u
stays_trans need s t u p q = record { each = λ k e i. q.each k e (p.each k e i) }

-- one more is in memory
pub present_more : (s t : Shelf) (need : List (SegId × ℕ)) (n : ℕ) (p : SegId × ℕ) → ArePresent s need n → Stays need s t → slice_get need n ≡ Some p → IsSome (place_of t p.0.key) → ArePresent t need (n + 1)
present_more s t need n p a q at here = record {
  each = λ i r l e. elim (cases_lt i n) [
    | inl low ↦ q.each r.0.key (needs_at need i r e) (a.each i r low e)
    | inr high ↦
        (let same : i ≡ n = omega (arith, high, l) in
        let z : ◌≡◌ {A = Option (SegId × ℕ)} (Some p) (Some r) = sym at ∙ subst (λ (x : ℕ). slice_get need x ≡ Some r) same e in
        subst (λ (x : SegId × ℕ). IsSome (place_of t x.0.key)) (ap (λ (o : Option (SegId × ℕ)). unwrap_or o p) z) here)
  ];
}

-- a segment with an address is in memory
pub based_placed : (o : Option Entry) (p : Option (ℕ × ℕ)) → is_some (base_of o p) ≡ true → IsSome p
based_placed None p e = absurd (let f : false ≡ true = e in cc)
based_placed (Some x) None e = absurd (let f : false ≡ true = e in cc)
based_placed (Some x) (Some r) e = refl

-- what the store keeps of the named ones, of what is needed
pub stays_by : (s t : Shelf) (need : List (SegId × ℕ)) (keep : List SegId) → keep ≡ segments_of need → AreLive s need
    → ((k : ℕ) → named_in s.entries keep k ≡ true → IsSome (place_of s k) → IsSome (place_of t k)) → Stays need s t
stays_by s t need keep e l kept = record { each = λ k n i. kept k (subst (λ (x : List SegId). named_in s.entries x k ≡ true) (sym e) (named_needed s need k l n)) i }

-- only what is needed comes in, in two steps
pub only_refl : (need : List (SegId × ℕ)) (s : Shelf) → OnlyNeededComes need s s
only_refl need s = record { each = λ k e n. n }

pub only_trans : (need : List (SegId × ℕ)) (s t u : Shelf) → OnlyNeededComes need s t → OnlyNeededComes need t u → OnlyNeededComes need s u
only_trans need s t u p q = record { each = λ k e n. q.each k e (p.each k e n) }

-- one that is needed comes in
pub only_by : (s t : Shelf) (need : List (SegId × ℕ)) (key : ℕ) → needs need key ≡ true → ((k : ℕ) → k ≢ key → place_of s k ≡ None → place_of t k ≡ None) → OnlyNeededComes need s t
only_by s t need key among none = record { each = λ k e n. none k (λ same. (let f : false ≡ true = sym e ∙ subst (λ (x : ℕ). needs need x ≡ true) (sym same) among in cc)) n }

-- the causes of a full swap, after steps that keep the tables
pub loads_after : (s t : Shelf) → SameTables s t → all_of t.swap ≡ all_of s.swap → (all_of t.swap < swap_load t) × (t.places.size < live_load t) → (all_of s.swap < swap_load s) × (s.places.size < live_load s)
loads_after s t q map l =
    let a = same_swap_load s t q in
    let b = same_live_load s t q in
    (omega (arith, l.0, a, map), omega (arith, l.1, b, q.size))

-- the first n are live
pub record LiveTo (s : Shelf) (need : List (SegId × ℕ)) (n : ℕ) : Type 0 where
  pub each : (i : ℕ) (p : SegId × ℕ) → i < n → slice_get need i ≡ Some p → IsSome (entry_of s p.0)

pub live_none : (s : Shelf) (need : List (SegId × ℕ)) → LiveTo s need 0
live_none s need = record { each = λ i p l e. absurd (omega (arith, l)) }

pub live_more : (s : Shelf) (need : List (SegId × ℕ)) (n : ℕ) (p : SegId × ℕ) → LiveTo s need n → slice_get need n ≡ Some p → IsSome (entry_of s p.0) → LiveTo s need (n + 1)
live_more s need n p l at here = record {
  each = λ i r w e. elim (cases_lt i n) [
    | inl low ↦ l.each i r low e
    | inr high ↦
        (let same : i ≡ n = omega (arith, high, w) in
        let z : ◌≡◌ {A = Option (SegId × ℕ)} (Some p) (Some r) = sym at ∙ subst (λ (x : ℕ). slice_get need x ≡ Some r) same e in
        subst (λ (x : SegId × ℕ). IsSome (entry_of s x.0)) (ap (λ (o : Option (SegId × ℕ)). unwrap_or o p) z) here)
  ];
}

within_list : (need : List (SegId × ℕ)) (i : ℕ) (p : SegId × ℕ) → slice_get need i ≡ Some p → i < length need
within_list [] i p e = absurd cc
within_list (q ∷ qs) zero p e = omega arith
within_list (q ∷ qs) (suc i) p e = (let l = within_list qs i p e in omega (arith, l))

pub all_live : (s : Shelf) (need : List (SegId × ℕ)) (n : ℕ) → length need ≤ n → LiveTo s need n → AreLive s need
all_live s need n l t = record { each = λ i p e. t.each i p (let w = within_list need i p e in omega (arith, w, l)) e }
