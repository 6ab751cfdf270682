-- What each call leaves of the ranges and of their index by id.
use Rattle.std.proofs.Common.{◌≡◌, ℕ, suc, ◌+◌, ◌-◌, ◌<◌, ◌≤◌, inl, inr, List, length, Option, Some, None, cond, eqb, refl, sym, ap, ◌∙◌, arith, true, false, get_or, subst, set, add-one}
use Rattle.std.specs.List.{insert, remove}
use Rattle.std.proofs.lemmas.Bool.{cases_lt, cases_eq}
use Rattle.std.proofs.lemmas.Bool.Decides.{nat_tests}
use Rattle.std.proofs.lemmas.Grind.{common_steps}
use Rattle.std.proofs.lemmas.List.{length-set, get_or-set_same, get_or-set_other, get_or_read}
use Rattle.o2_place.specs.declared.ranges.Range.{Range}
use Rattle.o2_place.specs.declared.places.Spot.{Spot}
use Rattle.o2_place.specs.Layout.{Layout, find_in, AreLaid, AreApart, IsFree, used, Changes, end_before, start_of, one_of, over, no_range, range_at, reshaped, ids_of, without}
use Rattle.o2_place.specs.Spots.{no_spot, spot_of, spot_at, layout_of, IsPlaces}
use Rattle.o2_place.proofs.RangeLemmas.{find_in-insert, find_in-remove, AreLaid-insert, AreLaid-remove, AreApart-insert, AreApart-remove, AreLaid-reshape, AreApart-reshape, find_in-reshape, find_in-at, used-reshape, len-le-used, found_at, IsFree-remove, ids-remove}
use Rattle.o2_place.proofs.Sums.{over-ranges, over-few, over-fewer, sum-ones}

spot_some : (at len : ℕ) → 0 < len → spot_of (record { at = at; len = len }) ≡ Some (at, len)
spot_some at len p = let e : eqb len 0 ≡ false = grind (arith, nat_tests) in rw e refl

-- the index after a write
spot_set : (ss : List Spot) (id : ℕ) (s : Spot) → id < length ss → (k : ℕ) → spot_at (set ss id s) k ≡ cond (eqb k id) (spot_of s) (spot_at ss k)
spot_set ss id s l k = elim (cases_eq k id) [
  | inl same ↦ (let e : eqb k id ≡ true = grind (arith, nat_tests) in rw e (subst (λ (x : ℕ). spot_of (get_or (set ss id s) x no_spot) ≡ spot_of s) (sym same) (ap spot_of (get_or-set_same ss id s no_spot l))))
  | inr other ↦ (let e : eqb k id ≡ false = grind (arith, nat_tests) in rw e (ap spot_of (get_or-set_other ss id k s no_spot other)))
]

-- an id with a range is one of the index
indexed_below : (rs : List Range) (ss : List Spot) → ((id : ℕ) → spot_at ss id ≡ find_in rs id) → (k at len : ℕ) → find_in rs k ≡ Some (at, len) → k < length ss
indexed_below rs ss h k at len e = elim (cases_lt k (length ss)) [
  | inl less ↦ less
  | inr past ↦ (let g : get_or ss k no_spot ≡ no_spot = grind (arith, common_steps) in let n : spot_at ss k ≡ None = ap spot_of g in cc (n, e, h k))
]

-- one id's range and spot change alike
pub IsPlaces-changed : (rs next : List Range) (ss : List Spot) (size taken now id : ℕ) (s : Spot) → IsPlaces rs ss size taken → id < length ss → AreLaid 0 size next → AreApart next
    → ((k : ℕ) → find_in next k ≡ cond (eqb k id) (spot_of s) (find_in rs k)) → now ≡ used next → IsPlaces next (set ss id s) size now
IsPlaces-changed rs next ss size taken now id s h l laid apart changed counted =
    let long : length (set ss id s) ≡ length ss = length-set ss id s in
    record {
      layout = record {
        laid = laid;
        apart = apart;
        below = λ k at len q. elim (cases_eq k id) [
          | inl same ↦ omega arith
          | inr other ↦
              (let e : eqb k id ≡ false = grind (arith, nat_tests) in
              let f : find_in next k ≡ find_in rs k = rw e at (changed k) in
              let b : k < length ss = h.layout.below k at len (sym f ∙ q) in
              omega arith)
        ];
      };
      indexed = λ k. spot_set ss id s l k ∙ ap (λ (o : Option (ℕ × ℕ)). cond (eqb k id) (spot_of s) o) (h.indexed k) ∙ sym (changed k);
      counted = counted;
    }

pub Changes-changed : (rs next : List Range) (ss : List Spot) (size id : ℕ) (s : Spot) (o : Option (ℕ × ℕ)) → spot_of s ≡ o
    → ((k : ℕ) → find_in next k ≡ cond (eqb k id) (spot_of s) (find_in rs k)) → Changes (layout_of rs ss size) (layout_of next (set ss id s) size) id o
Changes-changed rs next ss size id s o e changed = record {
  at = λ k. changed k ∙ ap (λ (p : Option (ℕ × ℕ)). cond (eqb k id) p (find_in rs k)) e;
  size = refl;
  most = length-set ss id s;
}

one_small : (o : Option (ℕ × ℕ)) → one_of o ≤ 1
one_small None = omega arith
one_small (Some r) = omega arith

number_is : (rs : List Range) (ss : List Spot) (size taken : ℕ) → IsPlaces rs ss size taken → over (λ k. one_of (find_in rs k)) (length ss) ≡ length rs
number_is rs ss size taken h = over-ranges one_of refl rs (length ss) h.layout.apart h.layout.below ∙ sum-ones rs

-- there are at most as many ranges as ids, and fewer where an id has none
pub few : (rs : List Range) (ss : List Spot) (size taken : ℕ) → IsPlaces rs ss size taken → length rs ≤ length ss
few rs ss size taken h = let n = number_is rs ss size taken h in let m = over-few (λ k. one_of (find_in rs k)) (length ss) (λ k. one_small (find_in rs k)) in omega (arith, n, m)

pub fewer : (rs : List Range) (ss : List Spot) (size taken id : ℕ) → IsPlaces rs ss size taken → id < length ss → find_in rs id ≡ None → length rs < length ss
fewer rs ss size taken id h l e = let n = number_is rs ss size taken h in let m = over-fewer (λ k. one_of (find_in rs k)) (length ss) id (λ k. one_small (find_in rs k)) l (ap one_of e) in omega (arith, n, m)

-- what `put` leaves
put_changed : (rs : List Range) (i id at len : ℕ) → 0 < len → find_in rs id ≡ None → (k : ℕ) → find_in (insert rs i (record { id = id; at = at; len = len })) k ≡ cond (eqb k id) (spot_of (record { at = at; len = len })) (find_in rs k)
put_changed rs i id at len p h k = find_in-insert rs i (record { id = id; at = at; len = len }) h k ∙ ap (λ (o : Option (ℕ × ℕ)). cond (eqb k id) o (find_in rs k)) (sym (spot_some at len p))

pub used-insert : (rs : List Range) (i : ℕ) (r : Range) → i ≤ length rs → used (insert rs i r) ≡ used rs + r.len
used-insert rs i r l = grind (arith, common_steps)

pub IsPlaces-put : (rs next : List Range) (ss : List Spot) (size taken i id at len : ℕ) → IsPlaces rs ss size taken → next ≡ insert rs i (record { id = id; at = at; len = len }) → id < length ss → find_in rs id ≡ None → 0 < len → IsFree size rs at len → i ≤ length rs
    → ((k : ℕ) (d : Range) → k < i → (get_or rs k d).at < at) → ((k : ℕ) (d : Range) → i ≤ k → k < length rs → at ≤ (get_or rs k d).at) → IsPlaces next (set ss id (record { at = at; len = len })) size (taken + len)
IsPlaces-put rs next ss size taken i id at len h e l n p f m b a =
    let r : Range = record { id = id; at = at; len = len } in
    let P : List Range → Type 0 = λ xs. IsPlaces xs (set ss id (record { at = at; len = len })) size (taken + len) in
    subst P (sym e) (IsPlaces-changed rs (insert rs i r) ss size taken (taken + len) id (record { at = at; len = len }) h l
    (AreLaid-insert rs i r 0 size h.layout.laid f p (omega arith) m b (λ d q. a i d (omega arith) q))
    (AreApart-insert rs i r n h.layout.apart)
    (put_changed rs i id at len p n)
    (let u = used-insert rs i r m in omega (arith, u, h.counted)))

pub Changes-put : (rs next : List Range) (ss : List Spot) (size i id at len : ℕ) → next
    ≡ insert rs i (record { id = id; at = at; len = len }) → find_in rs id ≡ None → 0 < len
    → Changes (layout_of rs ss size) (layout_of next (set ss id (record { at = at; len = len })) size) id (Some (at, len))
Changes-put rs next ss size i id at len e n p =
    let P : List Range → Type 0 = λ xs. Changes (layout_of rs ss size) (layout_of xs (set ss id (record { at = at; len = len })) size) id (Some (at, len)) in
    subst P (sym e) (Changes-changed rs (insert rs i (record { id = id; at = at; len = len })) ss size id (record { at = at; len = len }) (Some (at, len)) (spot_some at len p) (put_changed rs i id at len p n))

-- what `take` leaves
take_changed : (rs : List Range) (i id : ℕ) (d : Range) → i < length rs → AreApart rs → (get_or rs i d).id ≡ id → (k : ℕ) → find_in (remove rs i) k ≡ cond (eqb k id) (spot_of no_spot) (find_in rs k)
take_changed rs i id d l a e k = subst (λ (x : ℕ). find_in (remove rs i) k ≡ cond (eqb k x) None (find_in rs k)) e (find_in-remove rs i d l a k)

pub used-remove : (rs : List Range) (i : ℕ) (d : Range) → i < length rs → used (remove rs i) + (get_or rs i d).len ≡ used rs
used-remove rs i d l = grind (arith, common_steps)

pub IsPlaces-take : (rs next : List Range) (ss : List Spot) (size taken i id len : ℕ) (d : Range) → IsPlaces rs ss size taken → next
    ≡ remove rs i → id < length ss → i < length rs → (get_or rs i d).id ≡ id → (get_or rs i d).len ≡ len
    → IsPlaces next (set ss id no_spot) size (taken - len)
IsPlaces-take rs next ss size taken i id len d h e l m q w =
    let P : List Range → Type 0 = λ xs. IsPlaces xs (set ss id no_spot) size (taken - len) in
    subst P (sym e) (IsPlaces-changed rs (remove rs i) ss size taken (taken - len) id no_spot h l
    (AreLaid-remove rs i 0 size m h.layout.laid)
    (AreApart-remove rs i m h.layout.apart)
    (take_changed rs i id d m h.layout.apart q)
    (let u = used-remove rs i d m in omega (arith, u, w, h.counted)))

pub Changes-take : (rs next : List Range) (ss : List Spot) (size i id : ℕ) (d : Range) → AreApart rs → next ≡ remove rs i → i < length rs → (get_or rs i d).id ≡ id → Changes (layout_of rs ss size) (layout_of next (set ss id no_spot) size) id None
Changes-take rs next ss size i id d a e m q =
    let P : List Range → Type 0 = λ xs. Changes (layout_of rs ss size) (layout_of xs (set ss id no_spot) size) id None in
    subst P (sym e) (Changes-changed rs (remove rs i) ss size id no_spot None refl (take_changed rs i id d m a q))

-- what `reshape` leaves
pub IsPlaces-reshape : (rs : List Range) (ss : List Spot) (size taken k at len : ℕ) (d : Range) → IsPlaces rs ss size taken → k < length rs → 0 < len → end_before 0 rs k ≤ at → at + len ≤ start_of size rs (suc k)
    → IsPlaces (set rs k (record { id = (get_or rs k d).id; at = at; len = len })) (set ss (get_or rs k d).id (record { at = at; len = len })) size (taken - (get_or rs k d).len + len)
IsPlaces-reshape rs ss size taken k at len d h l p b c =
    let id = (get_or rs k d).id in
    let f = find_in-at rs k d l h.layout.apart in
    let m : id < length ss = h.layout.below id (get_or rs k d).at (get_or rs k d).len f in
    IsPlaces-changed rs (set rs k (record { id = id; at = at; len = len })) ss size taken (taken - (get_or rs k d).len + len) id (record { at = at; len = len }) h m
    (AreLaid-reshape rs k 0 size id at len l h.layout.laid p b c)
    (AreApart-reshape rs k d at len l h.layout.apart)
    (λ j. find_in-reshape rs k d at len l h.layout.apart j ∙ ap (λ (o : Option (ℕ × ℕ)). cond (eqb j id) o (find_in rs j)) (sym (spot_some at len p)))
    (let u = used-reshape rs k id at len d l in let v = len-le-used rs k d l in omega (arith, u, v, h.counted))

-- the same with the range as it was read
pub IsPlaces-reshape_read : (rs : List Range) (ss : List Spot) (size taken k at len : ℕ) (was : Range) → was ≡ get_or rs k was → IsPlaces rs ss size taken → k < length rs → 0 < len → end_before 0 rs k ≤ at → at + len ≤ start_of size rs (k + 1)
    → IsPlaces (set rs k (record { id = was.id; at = at; len = len })) (set ss was.id (record { at = at; len = len })) size (taken - was.len + len)
IsPlaces-reshape_read rs ss size taken k at len was e h l p b c =
    let P : Range → Type 0 = λ r. IsPlaces (set rs k (record { id = r.id; at = at; len = len })) (set ss r.id (record { at = at; len = len })) size (taken - r.len + len) in
    subst P (sym e) (IsPlaces-reshape rs ss size taken k at len was h l p b (rw (add-one k) at c))

pub id_read : (rs : List Range) (ss : List Spot) (size taken k : ℕ) (was : Range) → was ≡ get_or rs k was → IsPlaces rs ss size taken → k < length rs → was.id < length ss
id_read rs ss size taken k was e h l =
    let f = find_in-at rs k was l h.layout.apart in
    let b : (get_or rs k was).id < length ss = h.layout.below (get_or rs k was).id (get_or rs k was).at (get_or rs k was).len f in
    let P : Range → Type 0 = λ r. r.id < length ss in
    subst P (sym e) b

-- what is taken away
pub record Taken (rs : List Range) (ss : List Spot) (size taken id i : ℕ) (spot : Spot) : Type 0 where
  pub within : i < length rs
  pub less : spot.len ≤ taken
  pub places : (next : List Range) → next ≡ remove rs i → IsPlaces next (set ss id no_spot) size (taken - spot.len)
  pub changes : (next : List Range) → next ≡ remove rs i → Changes (layout_of rs ss size) (layout_of next (set ss id no_spot) size) id None
  pub fewer : (next : List Range) → next ≡ remove rs i → used next + spot.len ≡ used rs
  pub free : (next : List Range) → next ≡ remove rs i → (at len : ℕ) → IsFree size rs at len → IsFree size next at len
  pub order : (next : List Range) → next ≡ remove rs i → ids_of next ≡ without id (ids_of rs)

spot_read : (rs : List Range) (ss : List Spot) (size taken id : ℕ) (spot : Spot) → IsPlaces rs ss size taken → id < length ss → spot ≡ get_or ss id spot → 0 < spot.len → find_in rs id ≡ Some (spot.at, spot.len)
spot_read rs ss size taken id spot h l e p = sym (h.indexed id) ∙ ap spot_of (sym (get_or_read ss id spot l e no_spot)) ∙ spot_some spot.at spot.len p

pub taken_is : (rs : List Range) (ss : List Spot) (size taken id i : ℕ) (spot : Spot) → IsPlaces rs ss size taken → id < length ss → spot ≡ get_or ss id spot → (spot.len ≡ 0 → ⊥)
    → ((k : ℕ) (d : Range) → k < i → (get_or rs k d).at < spot.at) → ((k : ℕ) (d : Range) → i ≤ k → k < length rs → spot.at ≤ (get_or rs k d).at) → Taken rs ss size taken id i spot
taken_is rs ss size taken id i spot h l e n b a =
    let d : Range = record { id = id; at = spot.at; len = spot.len } in
    let p : 0 < spot.len = omega arith in
    let q = found_at rs 0 size id spot.at spot.len i d h.layout.laid (spot_read rs ss size taken id spot h l e p) b a in
    let same : (get_or rs i d).id ≡ id = ap (λ (r : Range). r.id) q.1 in
    let long : (get_or rs i d).len ≡ spot.len = ap (λ (r : Range). r.len) q.1 in
    let u = used-remove rs i d q.0 in
    record {
      within = q.0;
      less = omega (arith, u, long, h.counted);
      places = λ next w. IsPlaces-take rs next ss size taken i id spot.len d h w l q.0 same long;
      changes = λ next w. Changes-take rs next ss size i id d h.layout.apart w q.0 same;
      fewer = λ next w. ap (λ (xs : List Range). used xs + spot.len) w ∙ omega (arith, u, long);
      free = λ next w at len f. subst (λ (xs : List Range). IsFree size xs at len) (sym w) (IsFree-remove rs i size at len q.0 f);
      order = λ next w. ap ids_of w ∙ ids-remove rs i id d q.0 h.layout.apart same;
    }

-- the range of an id with a spot stands behind those that begin below it
pub ranked : (rs : List Range) (ss : List Spot) (size taken id i : ℕ) (spot : Spot) → IsPlaces rs ss size taken → id < length ss → spot ≡ get_or ss id spot → (spot.len ≡ 0 → ⊥)
    → ((k : ℕ) (d : Range) → k < i → (get_or rs k d).at < spot.at) → ((k : ℕ) (d : Range) → i ≤ k → k < length rs → spot.at ≤ (get_or rs k d).at) → (i < length rs) × ((get_or rs i no_range).id ≡ id)
ranked rs ss size taken id i spot h l e n b a =
    let p : 0 < spot.len = omega arith in
    let q = found_at rs 0 size id spot.at spot.len i no_range h.layout.laid (spot_read rs ss size taken id spot h l e p) b a in
    (q.0, ap (λ (r : Range). r.id) q.1)

-- an id whose spot is empty has no range
pub unranked : (rs : List Range) (ss : List Spot) (size taken id : ℕ) (spot : Spot) → IsPlaces rs ss size taken → id < length ss → spot ≡ get_or ss id spot → spot.len ≡ 0 → find_in rs id ≡ None
unranked rs ss size taken id spot h l e n =
    let z : eqb spot.len 0 ≡ true = grind (arith, nat_tests) in
    let s : spot_of spot ≡ None = rw z refl in
    sym (h.indexed id) ∙ ap spot_of (sym (get_or_read ss id spot l e no_spot)) ∙ s

-- the layout after a change of the k-th range
pub reshaped_read : (rs : List Range) (ss : List Spot) (size k at len : ℕ) (was : Range) → was ≡ range_at rs k
    → layout_of (set rs k (record { id = was.id; at = at; len = len })) (set ss was.id (record { at = at; len = len })) size ≡ reshaped (layout_of rs ss size) k (range_at rs k).id at len
reshaped_read rs ss size k at len was e =
    let n : length (set ss was.id (record { at = at; len = len })) ≡ length ss = length-set ss was.id (record { at = at; len = len }) in
    let f : layout_of (set rs k (record { id = was.id; at = at; len = len })) (set ss was.id (record { at = at; len = len })) size ≡ reshaped (layout_of rs ss size) k was.id at len =
    ap (λ (m : ℕ). let y : Layout = record { ranges = set rs k (record { id = was.id; at = at; len = len }); size = size; most = m } in y) n in
    f ∙ ap (λ (r : Range). reshaped (layout_of rs ss size) k r.id at len) e
