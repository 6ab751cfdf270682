-- Numbers that are listed, and what their segments take.
use Rattle.std.proofs.Common.{◌≡◌, ◌≢◌, inl, inr, ℕ, zero, suc, ◌+◌, ◌*◌, ◌<◌, ◌≤◌, List, [], ◌∷◌, ◌++◌, length, get_or, Option, Some, None, is_some, IsSome, true, false}
use Rattle.std.proofs.Common.{◌||◌, ◌&&◌, arith, refl, sym, ◌∙◌, ap, nat_eq, eqb, ltb, subst, Bool, take, add-one, if◌then◌else◌}
use Rattle.std.proofs.lemmas.Bool.{cases_eq, cases_lt, false≢true}
use Rattle.std.specs.List.{list_any, IsDistinct}
use Rattle.std.proofs.lemmas.Bool.Decides.{nat_tests}
use Rattle.std.proofs.lemmas.List.{length_push}
use Rattle.std.proofs.lemmas.List.Folds.{list_any-append}
use Rattle.std.proofs.lemmas.Map.Keys.{IsDistinct-push}
use Rattle.std.proofs.lemmas.Map.Steps.{length-le_from_distinct_below}
use Rattle.std.proofs.lemmas.Cmp.{nat_eq_equiv}
use Rattle.o2_entries.specs.declared.Entry.{Entry}
use Rattle.o2_entries.specs.declared.Attr.{Attr}
use Rattle.o2_entries.specs.Tables.{slot_at}
use Rattle.o2_place.specs.declared.seg_id.SegId.{SegId}
use Rattle.o2_place.specs.Layout.{over, used, len_of}
use Rattle.o2_place.specs.Marks.{IsKept}
use Rattle.o2_place.proofs.Sums.{over-same, over-le, over-add, over-only, only}
use Rattle.o2_store.specs.Shelf.{Shelf, IsShelf, SameTables, entry, place_of, entry_or, rounded, all_locked, locked_need}
use Rattle.o2_store.specs.Sizes.{wanted_at, all_wanted_at}
use Rattle.o2_store.specs.Needs.{AreKeys, has, need_in, all_need, named_in, is_named, wanted, all_wanted}
use Rattle.o2_store.proofs.Tables.{over-change, over_small, rounded_small, none_is_none, placed_at}

below_case : (n x k : ℕ) (b : Bool) → (b ≡ true → k < n) → x < n → (b || (nat_eq k x || false)) ≡ true → k < n
below_case n x k true h l e = h refl
below_case n x k false h l e = elim (cases_eq k x) [ inl s ↦ omega arith | inr d ↦ absurd (let t : nat_eq k x ≡ false = grind (arith, nat_tests) in false≢true (rw t at e)) ]

pub pushed : (n x : ℕ) (keys : List ℕ) → AreKeys n keys → x < n → list_any (nat_eq x) keys ≡ false → AreKeys n (keys ++ x ∷ [])
pushed n x keys h l f = record {
  once = IsDistinct-push nat_eq_equiv keys x h.once f;
  below = λ k q. (let e : list_any (nat_eq k) keys || list_any (nat_eq k) (x ∷ []) ≡ true = sym (list_any-append (nat_eq k) keys (x ∷ [])) ∙ q in below_case n x k (list_any (nat_eq k) keys) (h.below k) l e);
}

pub has_room : (n x : ℕ) (keys : List ℕ) → AreKeys n keys → x < n → list_any (nat_eq x) keys ≡ false → length keys < n
has_room n x keys h l f =
    let p = pushed n x keys h l f in
    let q = length-le_from_distinct_below (keys ++ x ∷ []) n p.once p.below in
    omega (arith, q, length_push keys x)

pub flip : (x : ℕ) (keys : List ℕ) → list_any (nat_eq x) keys ≡ list_any (λ y. nat_eq y x) keys
flip x [] = refl
flip x (k ∷ ks) = ap (λ b. b || list_any (nat_eq x) ks) (nat_eq_equiv.symm x k) ∙ ap (λ b. nat_eq k x || b) (flip x ks)

pub empty_keys : (n : ℕ) → AreKeys n []
unfolding IsDistinct
empty_keys n = record { once = tt; below = λ k q. absurd (false≢true q) }

or_false : (b : Bool) → (b || false) ≡ b
or_false true = refl
or_false false = refl

-- one more number
pub has-push : (keys : List ℕ) (x k : ℕ) → has (keys ++ x ∷ []) k ≡ (has keys k || nat_eq k x)
has-push keys x k = list_any-append (λ y. nat_eq y k) keys (x ∷ []) ∙ ap (λ b. has keys k || b) (or_false (nat_eq x k) ∙ nat_eq_equiv.symm x k)

-- a number that is there already
pub has-same : (keys : List ℕ) (x k : ℕ) → has keys x ≡ true → has keys k ≡ (has keys k || nat_eq k x)
has-same keys x k h = elim (cases_eq k x) [
  | inl e ↦ (let t : has keys k ≡ true = ap (has keys) e ∙ h in rw t refl)
  | inr d ↦ (let t : nat_eq k x ≡ false = grind (arith, nat_tests) in rw t (sym (or_false (has keys k))))
]

-- what one more number takes
pub need-push : (es : List (Option Entry)) (keys : List ℕ) (x n : ℕ) → x < length es → has keys x ≡ false → n ≡ (if ltb 0 (entry_or (slot_at es x)).attr.lock then 0 else rounded (entry_or (slot_at es x)).size)
    → all_need es keys + n ≡ all_need es (keys ++ x ∷ [])
need-push es keys x n l fresh e =
    let a = over-change (need_in es keys) (need_in es (keys ++ x ∷ [])) x (length es)
    (λ k d. (let t : nat_eq k x ≡ false = grind (arith, nat_tests) in let p : has (keys ++ x ∷ []) k ≡ has keys k = has-push keys x k ∙ ap (λ b. has keys k || b) t ∙ or_false (has keys k) in rw p refl)) l in
    let t : nat_eq x x ≡ true = grind (arith, nat_tests) in
    let p : has (keys ++ x ∷ []) x ≡ true = has-push keys x x ∙ rw (fresh, t) refl in
    elim (cases_lt 0 (entry_or (slot_at es x)).attr.lock) [
      | inl w ↦
          (let u : ltb 0 (entry_or (slot_at es x)).attr.lock ≡ true = grind (arith, nat_tests) in
          let f : need_in es keys x ≡ rounded (entry_or (slot_at es x)).size = rw u refl in
          let g : need_in es (keys ++ x ∷ []) x ≡ rounded (entry_or (slot_at es x)).size = rw u refl in
          let z : n ≡ 0 = e ∙ rw u refl in
          omega (arith, a, f, g, z))
      | inr w ↦
          (let u : ltb 0 (entry_or (slot_at es x)).attr.lock ≡ false = grind (arith, nat_tests) in
          let f : need_in es keys x ≡ 0 = rw (u, fresh) refl in
          let g : need_in es (keys ++ x ∷ []) x ≡ rounded (entry_or (slot_at es x)).size = rw (u, p) refl in
          let z : n ≡ rounded (entry_or (slot_at es x)).size = e ∙ rw u refl in
          omega (arith, a, f, g, z))
    ]

-- without numbers, what the locked ones take
pub need-none : (es : List (Option Entry)) → all_need es [] ≡ all_locked es
need-none es = over-same (need_in es []) (locked_need es) (length es) (λ k l. ap (λ b. if b then rounded (entry_or (slot_at es k)).size else 0) (or_false (ltb 0 (entry_or (slot_at es k)).attr.lock)))

need_le : (es : List (Option Entry)) (keys : List ℕ) (k : ℕ) → (entry_or (slot_at es k)).size ≤ 65536 → need_in es keys k ≤ 65536
need_le es keys k l = go (ltb 0 (entry_or (slot_at es k)).attr.lock || has keys k)
  where
    go : (b : Bool) → (if b then rounded (entry_or (slot_at es k)).size else 0) ≤ 65536
    go true = rounded_small (entry_or (slot_at es k)).size l
    go false = omega arith

pub need_bound : (es : List (Option Entry)) (keys : List ℕ) → ((k : ℕ) → (entry_or (slot_at es k)).size ≤ 65536) → all_need es keys ≤ 65536 * length es
need_bound es keys h = over_small (need_in es keys) 65536 (length es) (λ k. need_le es keys k (h k))

pub or_assoc : (a b c : Bool) → ((a || b) || c) ≡ (a || (b || c))
or_assoc true b c = refl
or_assoc false b c = refl

-- one more name
pub named-more : (es : List (Option Entry)) (ids : List SegId) (i k : ℕ) (d : SegId) → i < length ids → named_in es (take (suc i) ids) k ≡ (named_in es (take i ids) k || (is_named es (get_or ids i d) && nat_eq k (get_or ids i d).key))
named-more es [] i k d l = absurd (omega arith)
named-more es (x ∷ ids) zero k d l = or_false (is_named es x && nat_eq k x.key)
named-more es (x ∷ ids) (suc i) k d l =
    ap (λ b. (is_named es x && nat_eq k x.key) || b) (named-more es ids i k d (omega arith)) ∙ sym (or_assoc (is_named es x && nat_eq k x.key) (named_in es (take i ids) k) (is_named es (get_or ids i d) && nat_eq k (get_or ids i d).key))

pub any-more : (es : List (Option Entry)) (old new : List ℕ) (ids : List SegId) (key i k : ℕ) (d : SegId) → i < length ids → has old k ≡ (nat_eq k key || named_in es (take i ids) k)
    → has new k ≡ (has old k || (is_named es (get_or ids i d) && nat_eq k (get_or ids i d).key)) → has new k ≡ (nat_eq k key || named_in es (take (i + 1) ids) k)
any-more es old new ids key i k d l a b =
    b ∙ ap (λ x. x || (is_named es (get_or ids i d) && nat_eq k (get_or ids i d).key)) a ∙ or_assoc (nat_eq k key) (named_in es (take i ids) k) (is_named es (get_or ids i d) && nat_eq k (get_or ids i d).key)
    ∙ ap (λ x. nat_eq k key || x) (rw (add-one i) (sym (named-more es ids i k d l)))

-- a number that is there stands among the numbers, and the other way round
pub has_kept : (keys : List ℕ) (id i : ℕ) → i < length keys → get_or keys i 0 ≡ id → has keys id ≡ true
has_kept [] id i l e = absurd (omega arith)
has_kept (x ∷ xs) id zero l e = (let t : eqb x id ≡ true = grind (arith, nat_tests) in rw t refl)
has_kept (x ∷ xs) id (suc i) l e = let a = has_kept xs id i (omega arith) e in rw a (grind (arith, nat_tests))

pub kept_has : (keys : List ℕ) (id : ℕ) → has keys id ≡ true → IsKept keys id
kept_has [] id e = absurd (false≢true e)
kept_has (x ∷ xs) id e = elim (cases_eq x id) [
  | inl s ↦ (0, omega arith, s)
  | inr d ↦
      (let t : eqb x id ≡ false = grind (arith, nat_tests) in
      let f : has xs id ≡ true = rw t at e in
      let r = kept_has xs id f in
      (suc r.0, omega (arith, r.1), r.2))
]

-- what one must be in memory takes
pub need_yes : (es : List (Option Entry)) (keys : List ℕ) (k : ℕ) → has keys k ≡ true → need_in es keys k ≡ rounded (entry_or (slot_at es k)).size
need_yes es keys k h = go (ltb 0 (entry_or (slot_at es k)).attr.lock)
  where
    go : (b : Bool) → (if b || has keys k then rounded (entry_or (slot_at es k)).size else 0) ≡ rounded (entry_or (slot_at es k)).size
    go true = refl
    go false = rw h refl

need_by : (s : Shelf) (keys : List ℕ) (key k : ℕ) → IsShelf s → ((k : ℕ) → IsSome (place_of s k) → (entry s k).attr.lock ≡ 0 → IsKept keys k) → has keys key ≡ true → place_of s key ≡ None
    → (o : Option (ℕ × ℕ)) → place_of s k ≡ o → len_of o + only key (rounded (entry s key).size) k ≤ need_in s.entries keys k
need_by s keys key k h kept among none None e = elim (cases_eq k key) [
  | inl q ↦
      (let t : eqb k key ≡ true = grind (arith, nat_tests) in
      let y = need_yes s.entries keys key among in
      let z : need_in s.entries keys k ≡ need_in s.entries keys key = ap (need_in s.entries keys) q in
      rw t (omega (arith, y, z)))
  | inr n ↦ (let t : eqb k key ≡ false = grind (arith, nat_tests) in rw t (omega arith))
]
need_by s keys key k h kept among none (Some r) e =
    let ne : k ≢ key = λ q. none_is_none e (subst (λ (x : ℕ). place_of s x ≡ None) (sym q) none) in
    let t : eqb k key ≡ false = grind (arith, nat_tests) in
    let p = (placed_at s k r.0 r.1 h e).1 in
    rw t (elim (cases_lt 0 (entry s k).attr.lock) [
      | inl w ↦ (let u : ltb 0 (entry s k).attr.lock ≡ true = grind (arith, nat_tests) in rw u (omega (arith, p)))
      | inr w ↦
          (let here : IsSome (place_of s k) = ap is_some e in
          let y = kept k here (omega arith) in
          let u : ltb 0 (entry s k).attr.lock ≡ false = grind (arith, nat_tests) in
          let v : has keys k ≡ true = has_kept keys k y.0 y.1 y.2 in
          rw (u, v) (omega (arith, p)))
    ])

pub need_exceeds : (s : Shelf) (keys : List ℕ) (key : ℕ) → IsShelf s → key < length s.entries → has keys key ≡ true → place_of s key ≡ None → ((k : ℕ) → IsSome (place_of s k) → (entry s k).attr.lock ≡ 0 → IsKept keys k)
    → over (λ k. len_of (place_of s k)) (length s.entries) ≡ used s.places.ranges → used s.places.ranges + rounded (entry s key).size ≤ all_need s.entries keys
need_exceeds s keys key h l among none kept sum =
    let a = over-add (λ k. len_of (place_of s k)) (only key (rounded (entry s key).size)) (length s.entries) in
    let b = over-only key (rounded (entry s key).size) (length s.entries) l in
    let c = over-le (λ k. len_of (place_of s k) + only key (rounded (entry s key).size) k) (need_in s.entries keys) (length s.entries) (λ k w. need_by s keys key k h kept among none (place_of s k) refl) in
    omega (arith, a, b, c, sum)

-- the need is that of sizes and locks alone
pub same_need : (s t : Shelf) (keys : List ℕ) → SameTables s t → all_need t.entries keys ≡ all_need s.entries keys
same_need s t keys q =
    ap (λ (n : ℕ). over (need_in t.entries keys) n) q.count
    ∙ over-same (need_in t.entries keys) (need_in s.entries keys) (length s.entries)
    (λ k l. ap (λ (a : Attr). if ltb 0 a.lock || has keys k then rounded (entry_or (slot_at t.entries k)).size else 0) (q.same k).attr
    ∙ ap (λ (n : ℕ). if ltb 0 (entry_or (slot_at s.entries k)).attr.lock || has keys k then rounded n else 0) (q.same k).size)

-- what the listed numbers take is what the names ask for
pub need_wanted : (s : Shelf) (keys : List ℕ) (key : ℕ) (keep : List SegId) → ((k : ℕ) → has keys k ≡ (nat_eq k key || named_in s.entries keep k)) → all_need s.entries keys ≡ all_wanted s key keep
need_wanted s keys key keep any = over-same (need_in s.entries keys) (wanted s key keep) (length s.entries)
    (λ k l. ap (λ (b : Bool). if ltb 0 (entry_or (slot_at s.entries k)).attr.lock || b then rounded (entry_or (slot_at s.entries k)).size else 0) (any k))

need_over : (s : Shelf) (keys : List ℕ) (k : ℕ) → IsShelf s → ((k : ℕ) → IsSome (place_of s k) → (entry s k).attr.lock ≡ 0 → IsKept keys k) → (o : Option (ℕ × ℕ)) → place_of s k ≡ o → len_of o ≤ need_in s.entries keys k
need_over s keys k h kept None e = omega arith
need_over s keys k h kept (Some r) e =
    let p = (placed_at s k r.0 r.1 h e).1 in
    elim (cases_lt 0 (entry s k).attr.lock) [
      | inl w ↦ (let u : ltb 0 (entry s k).attr.lock ≡ true = grind (arith, nat_tests) in rw u (omega (arith, p)))
      | inr w ↦
          (let here : IsSome (place_of s k) = ap is_some e in
          let y = kept k here (omega arith) in
          let u : ltb 0 (entry s k).attr.lock ≡ false = grind (arith, nat_tests) in
          let v : has keys k ≡ true = has_kept keys k y.0 y.1 y.2 in
          rw (u, v) (omega (arith, p)))
    ]

-- where all in memory must be there, what they take is part of the need
pub need_holds : (s : Shelf) (keys : List ℕ) → IsShelf s → ((k : ℕ) → IsSome (place_of s k) → (entry s k).attr.lock ≡ 0 → IsKept keys k)
    → over (λ k. len_of (place_of s k)) (length s.entries) ≡ used s.places.ranges → used s.places.ranges ≤ all_need s.entries keys
need_holds s keys h kept sum =
    let c = over-le (λ k. len_of (place_of s k)) (need_in s.entries keys) (length s.entries) (λ k w. need_over s keys k h kept (place_of s k) refl) in
    omega (arith, c, sum)

-- the need with one segment at another size
pub wanted_change : (s : Shelf) (key : ℕ) (keep : List SegId) (size : ℕ) → key < length s.entries → all_wanted_at s key keep size + rounded (entry s key).size ≡ all_wanted s key keep + rounded size
wanted_change s key keep size l =
    let a = over-change (wanted s key keep) (wanted_at s key keep size) key (length s.entries) (λ k d. (let t : nat_eq k key ≡ false = grind (arith, nat_tests) in rw t refl)) l in
    let t : nat_eq key key ≡ true = grind (arith, nat_tests) in
    let b : wanted_at s key keep size key ≡ rounded size = rw t refl in
    let c : wanted s key keep key ≡ rounded (entry s key).size = all_of_it (ltb 0 (entry_or (slot_at s.entries key)).attr.lock) (nat_eq key key) t in
    omega (arith, a, b, c)
  where
    all_of_it : (x y : Bool) → y ≡ true → (if x || (y || named_in s.entries keep key) then rounded (entry_or (slot_at s.entries key)).size else 0) ≡ rounded (entry_or (slot_at s.entries key)).size
    all_of_it true y e = refl
    all_of_it false y e = rw e refl
