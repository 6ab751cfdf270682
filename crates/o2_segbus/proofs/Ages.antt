-- A segment is found by its age.
use Rattle.std.proofs.Common.{◌≡◌, ◌≢◌, inl, inr, ◌<◌, ◌≤◌, ◌+◌, refl, sym, ◌∙◌, ap, subst, ℕ, zero, suc, Bool, true, false, cond, ◌==◌, List, [], ◌∷◌, length, set, arith, IsSome}
use Rattle.std.specs.Prelude.{Option, Some, None, is_some}
use Rattle.std.proofs.lemmas.Bool.{false≢true, eqb-true, eq-eqb, cases_lt, cases_eq}
use Rattle.std.proofs.lemmas.List.{get_or_past, get_or-set_other, get_or-set_same, length-set}
use Rattle.o2_entries.specs.declared.Entry.{Entry}
use Rattle.o2_entries.specs.Tables.{slot_at}
use Rattle.o2_place.specs.declared.seg_id.SegId.{SegId}
use Rattle.o2_regions.specs.declared.held.Held.{Held}
use Rattle.o2_regions.specs.Maps.{Maps, held_at}
use Rattle.o2_store.specs.Needs.{has_age}
use Rattle.o2_store.specs.Shelf.{Shelf, IsShelf, SameEntry, SameTables, Adds, Removes, entry, entry_or, aged}
use Rattle.o2_segbus.specs.Seen.{key_of, number_from, AreNamed}
use Rattle.o2_segbus.specs.Guards.{AreAged, AreLive}

-- the first number whose segment has an age
first_at : (age : ℕ) (es : List (Option Entry)) (b k : ℕ) → has_age (slot_at es k) age ≡ true → ((j : ℕ) → j < k → has_age (slot_at es j) age ≡ false) → number_from age es b ≡ Some (b + k)
first_at age [] b k h f = absurd (false≢true h)
first_at age (o ∷ es) b zero h f = ap (λ (t : Bool). cond t (Some b) (number_from age es (b + 1))) h ∙ ap Some (omega arith)
first_at age (o ∷ es) b (suc k) h f =
    ap (λ (t : Bool). cond t (Some b) (number_from age es (b + 1))) (f 0 (omega arith))
    ∙ (first_at age es (b + 1) k h (λ j l. f (suc j) (omega arith)) ∙ ap Some (omega arith))

live_has : (o : Option Entry) → IsSome o → has_age o (entry_or o).age ≡ true
live_has None s = absurd (false≢true s)
live_has (Some e) s = eq-eqb e.age e.age refl

has_live : (o : Option Entry) (age : ℕ) → has_age o age ≡ true → IsSome o × ((entry_or o).age ≡ age)
has_live None age h = absurd (false≢true h)
has_live (Some e) age h = (refl, eqb-true e.age age h)

pub aged_key : (s : Shelf) (k : ℕ) → AreAged s → IsSome (slot_at s.entries k) → key_of s (entry s k).age ≡ Some k
unfolding key_of
aged_key s k a live =
    first_at (entry s k).age s.entries 0 k (live_has (slot_at s.entries k) live) (λ j l. before j l (has_age (slot_at s.entries j) (entry s k).age) refl) ∙ ap Some (omega arith)
  where
    before : (j : ℕ) → j < k → (b : Bool) → has_age (slot_at s.entries j) (entry s k).age ≡ b → b ≡ false
    before j l false e = refl
    before j l true e =
        let h = has_live (slot_at s.entries j) (entry s k).age e in
        let q : j ≡ k = a j k h.0 live h.1 in
        absurd (omega (arith, q, l))

-- a live segment that is held is the one of its name
aged_is : (o : Option Entry) (age : ℕ) → IsSome (aged age o) → IsSome o × ((entry_or o).age ≡ age)
aged_is None age h = absurd (false≢true h)
aged_is (Some e) age h = go (e.age == age) refl h
  where
    go : (b : Bool) → (e.age == age) ≡ b → is_some (cond b (Some e) None) ≡ true → IsSome (Some e) × (e.age ≡ age)
    go true q z = (refl, eqb-true e.age age q)
    go false q z = absurd (false≢true z)

pub named_by_age : (s : Shelf) (m : Maps) → AreAged s → AreLive s m → AreNamed s m
named_by_age s m a l pid i h e =
    let q = aged_is (slot_at s.entries h.id.key) h.id.age (l pid i h e) in
    subst (λ (n : ℕ). key_of s n ≡ Some h.id.key) q.1 (aged_key s h.id.key a q.0)

-- The same ages, the same names.

same_numbers : (age : ℕ) (es fs : List (Option Entry)) (b : ℕ) → length fs ≡ length es → ((k : ℕ) → has_age (slot_at fs k) age ≡ has_age (slot_at es k) age) → number_from age fs b ≡ number_from age es b
same_numbers age [] [] b l f = refl
same_numbers age [] (o ∷ fs) b l f = absurd (omega (arith, l))
same_numbers age (o ∷ es) [] b l f = absurd (omega (arith, l))
same_numbers age (o ∷ es) (p ∷ fs) b l f =
    ap (λ (t : Bool). cond t (Some b) (number_from age fs (b + 1))) (f 0)
    ∙ ap (λ (z : Option ℕ). cond (has_age o age) (Some b) z) (same_numbers age es fs (b + 1) (omega (arith, l)) (λ k. f (suc k)))

same_has : (o p : Option Entry) (age : ℕ) → SameEntry o p → has_age p age ≡ has_age o age
same_has None None age e = refl
same_has None (Some y) age e = absurd (false≢true (sym e.live))
same_has (Some x) None age e = absurd (false≢true e.live)
same_has (Some x) (Some y) age e = ap (λ (n : ℕ). n == age) e.age

pub names_stay : (s t : Shelf) (m n : Maps) → SameTables s t → n.held ≡ m.held → AreNamed s m → AreNamed t n
unfolding key_of
names_stay s t m n w e a pid i h q =
    same_numbers h.id.age s.entries t.entries 0 w.count (λ k. same_has (slot_at s.entries k) (slot_at t.entries k) h.id.age (w.same k))
    ∙ a pid i h (ap (λ (z : List (Option Held)). held_at (record m { held = z }) pid i) (sym e) ∙ q)

pub ages_stay : (s t : Shelf) → SameTables s t → AreAged s → AreAged t
ages_stay s t w a j k x y e =
    a j k (sym (w.same j).live ∙ x) (sym (w.same k).live ∙ y) (sym (w.same j).age ∙ (e ∙ (w.same k).age))

pub no_ages : (s : Shelf) → ((k : ℕ) → slot_at s.entries k ≡ None) → AreAged s
no_ages s f j k x y e = absurd (false≢true (ap is_some (sym (f j)) ∙ x))

below : (s : Shelf) (k : ℕ) → IsSome (slot_at s.entries k) → k < length s.entries
below s k x = elim (cases_lt k (length s.entries)) [
  | inl l ↦ l
  | inr l ↦ absurd (false≢true (ap is_some (sym (get_or_past s.entries k None l)) ∙ x))
]

young_at : (s : Shelf) (k : ℕ) → IsShelf s → IsSome (slot_at s.entries k) → (entry s k).age < s.made
young_at s k h x = (h.each k (below s k x)).young x

pub ages_added : (s t : Shelf) (id : SegId) (e : Entry) → IsShelf s → Adds s t id e → e.age ≡ s.made → AreAged s → AreAged t
ages_added s t id e h w m a = subst AreAged (sym w.shelf) by_keys
  where
    es : List (Option Entry)
    es = set s.entries id.key (Some e)

    here : slot_at es id.key ≡ Some e
    here = get_or-set_same s.entries id.key (Some e) None w.within

    there : (k : ℕ) → k ≢ id.key → slot_at es k ≡ slot_at s.entries k
    there k n = get_or-set_other s.entries id.key k (Some e) None n

    older : (k : ℕ) → k ≢ id.key → IsSome (slot_at es k) → (entry_or (slot_at es k)).age < s.made
    older k n x =
        let q = there k n in
        subst (λ (o : Option Entry). (entry_or o).age < s.made) (sym q) (young_at s k h (ap is_some (sym q) ∙ x))

    newest : (entry_or (slot_at es id.key)).age ≡ s.made
    newest = ap (λ (o : Option Entry). (entry_or o).age) here ∙ m

    by_keys : (j k : ℕ) → IsSome (slot_at es j) → IsSome (slot_at es k) → (entry_or (slot_at es j)).age ≡ (entry_or (slot_at es k)).age → j ≡ k
    by_keys j k x y q = elim (cases_eq j id.key) [
      | inl u ↦ elim (cases_eq k id.key) [
        | inl v ↦ u ∙ sym v
        | inr v ↦ (let o = older k v y in let z : (entry_or (slot_at es j)).age ≡ s.made = ap (λ (n : ℕ). (entry_or (slot_at es n)).age) u ∙ newest in absurd (omega (arith, o, z, q)))
      ]
      | inr u ↦ elim (cases_eq k id.key) [
        | inl v ↦ (let o = older j u x in let z : (entry_or (slot_at es k)).age ≡ s.made = ap (λ (n : ℕ). (entry_or (slot_at es n)).age) v ∙ newest in absurd (omega (arith, o, z, q)))
        | inr v ↦ a j k (ap is_some (sym (there j u)) ∙ x) (ap is_some (sym (there k v)) ∙ y)
            (ap (λ (o : Option Entry). (entry_or o).age) (sym (there j u)) ∙ (q ∙ ap (λ (o : Option Entry). (entry_or o).age) (there k v)))
      ]
    ]

pub ages_removed : (s t : Shelf) (key : ℕ) → Removes s t key → AreAged s → AreAged t
ages_removed s t key w a j k x y q =
    let u = stays j x in
    let v = stays k y in
    a j k (ap is_some (sym u) ∙ x) (ap is_some (sym v) ∙ y) (ap (λ (o : Option Entry). (entry_or o).age) (sym u) ∙ (q ∙ ap (λ (o : Option Entry). (entry_or o).age) v))
  where
    es : List (Option Entry)
    es = set s.entries key None

    gone : slot_at t.entries key ≡ None
    gone = ap (λ (z : Shelf). slot_at z.entries key) w.shelf ∙ elim (cases_lt key (length s.entries)) [
      | inl l ↦ get_or-set_same s.entries key None None l
      | inr l ↦ past l
    ]
      where
        past : length s.entries ≤ key → slot_at es key ≡ None
        past l = get_or_past es key None (omega (arith, l, length-set s.entries key None))

    stays : (i : ℕ) → IsSome (slot_at t.entries i) → slot_at t.entries i ≡ slot_at s.entries i
    stays i z = elim (cases_eq i key) [
      | inl e ↦ absurd (false≢true (ap is_some (sym (ap (slot_at t.entries) e ∙ gone)) ∙ z))
      | inr n ↦ w.entries i n
    ]
