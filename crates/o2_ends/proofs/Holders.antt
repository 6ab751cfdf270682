-- Who holds a segment, by look-ups.
use Rattle.std.proofs.Common.{◌≡◌, ℕ, zero, suc, ◌+◌, ◌/◌, ◌%◌, Bool, true, false, cond, not, ◌&&◌, ◌||◌, List, [], ◌∷◌, map, get_or, Option, Some, None, is_some, IsSome, refl, sym, ap, ◌∙◌, subst, arith}
use Rattle.std.specs.Prelude.{nat_lt, slice_get, ◌==◌}
use Rattle.std.specs.List.{list_any}
use Rattle.std.proofs.lemmas.Bool.{false≢true}
use Rattle.o2_place.specs.declared.seg_id.SegId.{SegId}
use Rattle.o2_regions.specs.declared.held.Held.{Held}
use Rattle.o2_regions.specs.Links.{holders, pair_at, places_from}
use Rattle.o2_regions.specs.Maps.{Maps, held_at, is_of, place}
use Rattle.o2_regions.proofs.Keeps.{held_in}
use Rattle.o2_ends.specs.LetsGo.{some_has}

none_some : {X : Type 0} (x : X) → None ≡ Some x → ⊥
none_some x e = cc

pub some_is : {X : Type 0} (x y : X) → Some x ≡ Some y → x ≡ y
some_is x y e = cc

same_key : (j k : ℕ) → (j == k) ≡ true → j ≡ k
same_key j k e = grind arith

equal_key : (j k : ℕ) → j ≡ k → (j == k) ≡ true
equal_key j k e = grind arith

-- Two segments are one where number and age are the same.

pub id_same : (a b : SegId) → a.key ≡ b.key → a.age ≡ b.age → a ≡ b
id_same a b e f = ap (λ (k : ℕ). record { key = k; age = a.age }) e ∙ ap (λ (n : ℕ). record { key = b.key; age = n }) f

and_parts : (a b : Bool) → a && b ≡ true → (a ≡ true) × (b ≡ true)
and_parts true b e = (refl, e)
and_parts false b e = absurd (false≢true e)

pub of_is : (id : SegId) (o : Option Held) (h : Held) → o ≡ Some h → is_of id o ≡ true → h.id ≡ id
of_is id o h e t =
    let x : is_of id (Some h) ≡ true = ap (is_of id) (sym e) ∙ t in
    let y = and_parts (h.id.key == id.key) (h.id.age == id.age) x in
    id_same h.id id (same_key h.id.key id.key y.0) (same_key h.id.age id.age y.1)

pub is_of_it : (id : SegId) (h : Held) → h.id ≡ id → is_of id (Some h) ≡ true
is_of_it id h e = subst (λ (x : SegId). is_of x (Some h) ≡ true) e (both (h.id.key == h.id.key) (h.id.age == h.id.age) (equal_key h.id.key h.id.key refl) (equal_key h.id.age h.id.age refl))
  where
    both : (a b : Bool) → a ≡ true → b ≡ true → a && b ≡ true
    both true b e f = f
    both false b e f = e

-- In a list.

any_there : (id : SegId) (os : List (Option Held)) (p : ℕ) (h : Held) → get_or os p None ≡ Some h → h.id ≡ id → list_any (is_of id) os ≡ true
any_there id [] p h e f = absurd (none_some h e)
any_there id (o ∷ os) zero h e f = ap (λ (b : Bool). b || list_any (is_of id) os) (ap (is_of id) e ∙ is_of_it id h f)
any_there id (o ∷ os) (suc p) h e f = or_right (is_of id o) (list_any (is_of id) os) (any_there id os p h e f)
  where
    or_right : (a b : Bool) → b ≡ true → a || b ≡ true
    or_right true b e = refl
    or_right false b e = e

record IsThere (id : SegId) (os : List (Option Held)) : Type 0 where
  at : ℕ
  hold : Held
  there : get_or os at None ≡ Some hold
  named : hold.id ≡ id

there_any : (id : SegId) (os : List (Option Held)) → list_any (is_of id) os ≡ true → IsThere id os
there_any id [] e = absurd (false≢true e)
there_any id (o ∷ os) e = go o refl (is_of id o) refl e (there_any id os)
  where
    behind : IsThere id os → IsThere id (o ∷ os)
    behind x = record { at = suc x.at; hold = x.hold; there = x.there; named = x.named }

    here : (x : Option Held) → o ≡ x → is_of id x ≡ true → IsThere id (o ∷ os)
    here None q t = absurd (false≢true t)
    here (Some h) q t = record { at = 0; hold = h; there = q; named = of_is id (Some h) h refl t }

    go : (x : Option Held) → o ≡ x → (b : Bool) → is_of id o ≡ b → b || list_any (is_of id) os ≡ true → (list_any (is_of id) os ≡ true → IsThere id os) → IsThere id (o ∷ os)
    go x q true t any rest = here o refl t
    go x q false t any rest = behind (rest any)

-- By process and index.

pub record IsHolder (m : Maps) (id : SegId) : Type 0 where
  pub pid : ℕ
  pub index : ℕ
  pub hold : Held
  pub there : held_at m pid index ≡ Some hold
  pub named : hold.id ≡ id

pub has_there : (m : Maps) (pid i : ℕ) (h : Held) → held_at m pid i ≡ Some h → some_has m h.id ≡ true
has_there m pid i h e = go (nat_lt i 8192) e
  where
    go : (b : Bool) → cond b (get_or m.held (place pid i) None) None ≡ Some h → some_has m h.id ≡ true
    go true q = any_there h.id m.held (place pid i) h q refl
    go false q = absurd (none_some h q)

pub holder_of : (m : Maps) (id : SegId) → some_has m id ≡ true → IsHolder m id
holder_of m id e =
    let x = there_any id m.held e in
    let p = x.at in
    let at : place (p / 8192) (p % 8192) ≡ p = omega arith in
    let there : held_at m (p / 8192) (p % 8192) ≡ get_or m.held p None = held_in m (p / 8192) (p % 8192) (omega arith) ∙ ap (λ (k : ℕ). get_or m.held k None) at in
    record { pid = p / 8192; index = p % 8192; hold = x.hold; there = there ∙ x.there; named = x.named }

-- The first of the list of holders.

none_from : (test : Option Held → Bool) (os : List (Option Held)) (at : ℕ) → slice_get (map pair_at (places_from test os at)) 0 ≡ None → list_any test os ≡ false
none_from test [] at e = refl
none_from test (o ∷ os) at e = go (test o) e (none_from test os (at + 1))
  where
    go : (b : Bool) → slice_get (map pair_at (cond b (at ∷ places_from test os (at + 1)) (places_from test os (at + 1)))) 0 ≡ None
        → (slice_get (map pair_at (places_from test os (at + 1))) 0 ≡ None → list_any test os ≡ false) → b || list_any test os ≡ false
    go true q rest = absurd (let x : Some (pair_at at) ≡ None = q in cc)
    go false q rest = rest q

some_from : (test : Option Held → Bool) (os : List (Option Held)) (at : ℕ) → IsSome (slice_get (map pair_at (places_from test os at)) 0) → list_any test os ≡ true
some_from test [] at e = absurd (false≢true e)
some_from test (o ∷ os) at e = go (test o) e (some_from test os (at + 1))
  where
    go : (b : Bool) → IsSome (slice_get (map pair_at (cond b (at ∷ places_from test os (at + 1)) (places_from test os (at + 1)))) 0)
        → (IsSome (slice_get (map pair_at (places_from test os (at + 1))) 0) → list_any test os ≡ true) → b || list_any test os ≡ true
    go true q rest = refl
    go false q rest = rest q

pub nobody : (m : Maps) (id : SegId) → slice_get (holders m id) 0 ≡ None → some_has m id ≡ false
nobody m id e = none_from (is_of id) m.held 0 e

pub somebody : (m : Maps) (id : SegId) → IsSome (slice_get (holders m id) 0) → some_has m id ≡ true
somebody m id e = some_from (is_of id) m.held 0 e

-- by a test of the first holder
pub nobody_by : (m : Maps) (id : SegId) (r : Option (ℕ × ℕ)) (b : Bool) → r ≡ slice_get (holders m id) 0 → is_some r ≡ not b → b ≡ true → some_has m id ≡ false
nobody_by m id r b e f t = nobody m id (none_of (slice_get (holders m id) 0) (sym (ap is_some e) ∙ (f ∙ ap not t)))
  where
    none_of : (o : Option (ℕ × ℕ)) → is_some o ≡ false → o ≡ None
    none_of None g = refl
    none_of (Some x) g = absurd (false≢true (sym g))

pub somebody_by : (m : Maps) (id : SegId) (r : Option (ℕ × ℕ)) (b : Bool) → r ≡ slice_get (holders m id) 0 → is_some r ≡ not b → b ≡ false → some_has m id ≡ true
somebody_by m id r b e f t = somebody m id (sym (ap is_some e) ∙ (f ∙ ap not t))
