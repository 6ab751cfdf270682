-- The number of a name's segment, where segments are made, changed and removed.
use Rattle.std.proofs.Common.{◌≡◌, ◌≢◌, ℕ, suc, ◌+◌, ◌<◌, inl, inr, List, [], ◌∷◌, length, Option, Some, None, is_some, IsSome, Bool, true, false, cond, eqb, refl, sym, ap, ◌∙◌, subst, arith, set}
use Rattle.std.proofs.lemmas.Bool.{cases_eq, cases_lt, cond-false, ne_eqb, eqb-true}
use Rattle.std.proofs.lemmas.List.{length-set}
use Rattle.o2_entries.specs.declared.Entry.{Entry}
use Rattle.o2_entries.specs.Tables.{slot_at}
use Rattle.o2_place.specs.declared.seg_id.SegId.{SegId}
use Rattle.o2_segbus.specs.Guards.{AreAged}
use Rattle.o2_segbus.specs.Seen.{key_of, number_from}
use Rattle.o2_segbus.proofs.Ages.{aged_key}
use Rattle.o2_store.specs.Needs.{has_age}
use Rattle.o2_store.specs.Shelf.{Shelf, Removes, aged, entry_of, entry_or}
use Rattle.o2_store.proofs.Tables.{slot-past, slot-set_same}

same_numbers : (age : ℕ) (es fs : List (Option Entry)) (b : ℕ) → length fs ≡ length es → ((k : ℕ) → has_age (slot_at fs k) age ≡ has_age (slot_at es k) age) → number_from age fs b ≡ number_from age es b
same_numbers age [] [] b l f = refl
same_numbers age [] (o ∷ fs) b l f = absurd (omega (arith, l))
same_numbers age (o ∷ es) [] b l f = absurd (omega (arith, l))
same_numbers age (o ∷ es) (p ∷ fs) b l f =
    ap (λ (t : Bool). cond t (Some b) (number_from age fs (b + 1))) (f 0)
    ∙ ap (λ (z : Option ℕ). cond (has_age o age) (Some b) z) (same_numbers age es fs (b + 1) (omega (arith, l)) (λ k. f (suc k)))

-- the same ages, the same number
pub same_key : (s t : Shelf) (q : ℕ) → length t.entries ≡ length s.entries → ((k : ℕ) → has_age (slot_at t.entries k) q ≡ has_age (slot_at s.entries k) q) → key_of t q ≡ key_of s q
unfolding key_of
same_key s t q l f = same_numbers q s.entries t.entries 0 l f

none_from : (age : ℕ) (es : List (Option Entry)) (b : ℕ) → ((k : ℕ) → has_age (slot_at es k) age ≡ false) → number_from age es b ≡ None
none_from age [] b f = refl
none_from age (o ∷ es) b f = cond-false (has_age o age) (Some b) (number_from age es (b + 1)) (f 0) ∙ none_from age es (b + 1) (λ k. f (suc k))

-- no segment of that age
pub no_key : (s : Shelf) (q : ℕ) → ((k : ℕ) → has_age (slot_at s.entries k) q ≡ false) → key_of s q ≡ None
unfolding key_of
no_key s q f = none_from q s.entries 0 f

found_from : (age : ℕ) (es : List (Option Entry)) (b n : ℕ) → number_from age es b ≡ Some n → (k : ℕ) × (n ≡ b + k) × (has_age (slot_at es k) age ≡ true)
found_from age [] b n e = absurd (cc)
found_from age (o ∷ es) b n e = go (has_age o age) refl e (found_from age es (b + 1) n)
  where
    go : (t : Bool) → has_age o age ≡ t → cond t (Some b) (number_from age es (b + 1)) ≡ Some n
        → (number_from age es (b + 1) ≡ Some n → (k : ℕ) × (n ≡ b + 1 + k) × (has_age (slot_at es k) age ≡ true)) → (k : ℕ) × (n ≡ b + k) × (has_age (slot_at (o ∷ es) k) age ≡ true)
    go true is e rest = (let z : b ≡ n = cc in (0, omega (arith, z), is))
    go false is e rest = (let r = rest e in let q = r.1 in (suc r.0, omega (arith, q), r.2))

-- the number has a segment of that age
pub key_has : (s : Shelf) (q k : ℕ) → key_of s q ≡ Some k → has_age (slot_at s.entries k) q ≡ true
unfolding key_of
key_has s q k e =
    let r = found_from q s.entries 0 k e in
    let i = r.1 in
    let same : k ≡ r.0 = omega (arith, i) in
    subst (λ (j : ℕ). has_age (slot_at s.entries j) q ≡ true) (sym same) r.2

pub has_is : (o : Option Entry) (age : ℕ) → has_age o age ≡ true → IsSome o × ((entry_or o).age ≡ age)
has_is None age h = absurd (cc)
has_is (Some e) age h = (refl, eqb-true e.age age h)

pub aged_has : (age : ℕ) (o : Option Entry) → is_some (aged age o) ≡ has_age o age
aged_has age None = refl
aged_has age (Some e) = go (eqb e.age age)
  where
    go : (b : Bool) → is_some (cond b (Some e) None) ≡ b
    go true = refl
    go false = refl

-- a live segment is found by its age
pub live_key : (s : Shelf) (id : SegId) → AreAged s → IsSome (entry_of s id) → key_of s id.age ≡ Some id.key
live_key s id a live =
    let h = has_is (slot_at s.entries id.key) id.age (sym (aged_has id.age (slot_at s.entries id.key)) ∙ live) in
    subst (λ (n : ℕ). key_of s n ≡ Some id.key) h.1 (aged_key s id.key a h.0)

-- another name's segment has another number
pub other_key : (s : Shelf) (id : SegId) (q k : ℕ) → IsSome (entry_of s id) → q ≢ id.age → key_of s q ≡ Some k → k ≢ id.key
other_key s id q k live other e same =
    let a = has_is (slot_at s.entries k) q (key_has s q k e) in
    let b = has_is (slot_at s.entries id.key) id.age (sym (aged_has id.age (slot_at s.entries id.key)) ∙ live) in
    let c : q ≡ id.age = sym a.1 ∙ ap (λ (j : ℕ). (entry_or (slot_at s.entries j)).age) same ∙ b.1 in
    other c

-- Removed.

pub removed_none : (s t : Shelf) (key : ℕ) → Removes s t key → slot_at t.entries key ≡ None
removed_none s t key r = ap (λ (x : Shelf). slot_at x.entries key) r.shelf ∙ elim (cases_lt key (length s.entries)) [
  | inl l ↦ there l
  | inr l ↦ slot-past (set s.entries key None) key (omega (arith, l, length-set s.entries key None))
]
  where
    there : key < length s.entries → slot_at (set s.entries key None) key ≡ None
    there l = slot-set_same s.entries key None l

pub removed_count : (s t : Shelf) (key : ℕ) → Removes s t key → length t.entries ≡ length s.entries
removed_count s t key r = ap (λ (x : Shelf). length x.entries) r.shelf ∙ length-set s.entries key None

-- all other names go on to be found
pub removed_other : (s t : Shelf) (id : SegId) (q : ℕ) → IsSome (entry_of s id) → Removes s t id.key → q ≢ id.age → key_of t q ≡ key_of s q
removed_other s t id q live r other = same_key s t q (removed_count s t id.key r) (λ k. elim (cases_eq k id.key) [
  | inr n ↦ ap (λ (o : Option Entry). has_age o q) (r.entries k n)
  | inl e ↦ (let b = has_is (slot_at s.entries id.key) id.age (sym (aged_has id.age (slot_at s.entries id.key)) ∙ live) in
      ap (λ (j : ℕ). has_age (slot_at t.entries j) q) e ∙ ap (λ (o : Option Entry). has_age o q) (removed_none s t id.key r)
      ∙ sym (ap (λ (j : ℕ). has_age (slot_at s.entries j) q) e ∙ not_aged (slot_at s.entries id.key) b.1))
])
  where
    not_aged : (o : Option Entry) → (entry_or o).age ≡ id.age → has_age o q ≡ false
    not_aged None e = refl
    not_aged (Some x) e = ne_eqb x.age q (λ z. other (sym z ∙ e))

-- and its own isn't
pub removed_own : (s t : Shelf) (id : SegId) → AreAged s → IsSome (entry_of s id) → Removes s t id.key → key_of t id.age ≡ None
removed_own s t id a live r = no_key t id.age (λ k. elim (cases_eq k id.key) [
  | inl e ↦ ap (λ (j : ℕ). has_age (slot_at t.entries j) id.age) e ∙ ap (λ (o : Option Entry). has_age o id.age) (removed_none s t id.key r)
  | inr n ↦ go k n (has_age (slot_at t.entries k) id.age) refl
])
  where
    go : (k : ℕ) → k ≢ id.key → (b : Bool) → has_age (slot_at t.entries k) id.age ≡ b → b ≡ false
    go k n false e = refl
    go k n true e =
        let h = has_is (slot_at s.entries k) id.age (ap (λ (o : Option Entry). has_age o id.age) (sym (r.entries k n)) ∙ e) in
        let b = has_is (slot_at s.entries id.key) id.age (sym (aged_has id.age (slot_at s.entries id.key)) ∙ live) in
        absurd (n (a k id.key h.0 b.0 (h.1 ∙ sym b.1)))
