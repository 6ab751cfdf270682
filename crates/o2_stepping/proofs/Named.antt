-- The segments that a step needs: their names, and that they are in memory.
use Rattle.std.proofs.Common.{◌≡◌, ◌⊎◌, inl, inr, ℕ, suc, ◌==◌, Bool, true, false, cond, ◌||◌, List, [], ◌∷◌, ◌++◌, Option, Some, None, is_some, IsSome, ap, sym, ◌∙◌, refl, subst, arith}
use Rattle.std.specs.Prelude.{slice_get}
use Rattle.std.proofs.lemmas.Bool.{false≢true, eqb-true}
use Rattle.std.proofs.lemmas.List.Folds.{list_any-append}
use Rattle.o2_isa.specs.declared.instr.Sreg.{Sreg}
use Rattle.o2_isa.specs.declared.instr.Sreg.TheVariants.{Es, Cs, Ss, Ds}
use Rattle.o2_isa.specs.Presence.{is_in}
use Rattle.o2_isa.specs.View.{Hold, Registers, in_register, present_or_none}
use Rattle.o2_entries.specs.declared.Entry.{Entry}
use Rattle.o2_entries.specs.Tables.{slot_at}
use Rattle.o2_place.specs.declared.seg_id.SegId.{SegId}
use Rattle.o2_run.specs.Room.{name_in, seated}
use Rattle.o2_store.specs.Shelf.{Shelf, aged, entry, entry_of, entry_or, place_of}
use Rattle.o2_segbus.specs.Guards.{AreAged}
use Rattle.o2_segbus.specs.Seen.{key_of, present_in, present_under}
use Rattle.o2_segbus.proofs.Ages.{aged_key}
use Rattle.o2_service.specs.Needs.{needs}
use Rattle.o2_stepping.specs.Rooms.{ages_of}

-- Names in lists.

pub both_in : (n : ℕ) (xs ys : List ℕ) → is_in n (xs ++ ys) ≡ (is_in n xs || is_in n ys)
both_in n xs ys = list_any-append (λ (m : ℕ). m == n) xs ys

pub one_of : (a b : Bool) → (a || b) ≡ true → (a ≡ true) ⊎ (b ≡ true)
one_of true b e = inl refl
one_of false b e = inr e

pub or_front : (a b : Bool) → a ≡ true → (a || b) ≡ true
or_front a b e = grind arith

pub or_back : (a b : Bool) → b ≡ true → (a || b) ≡ true
or_back a b e = grind arith

-- what the segment registers name is present
pub seated_present : (present : ℕ → Bool) (r : Registers) → ((x : Sreg) → present_or_none present (in_register r x) ≡ true) → (n : ℕ) → is_in n (seated r) ≡ true → present n ≡ true
seated_present present r bound n e =
    in_two (name_in r.es ++ name_in r.cs ++ name_in r.ss) (name_in r.ds) (λ f. in_two (name_in r.es ++ name_in r.cs) (name_in r.ss) (λ g. in_two (name_in r.es) (name_in r.cs) (one r.es (bound Es)) (one r.cs (bound Cs)) g) (one r.ss (bound Ss)) f) (one r.ds (bound Ds)) e
  where
    same : (m : ℕ) → is_in n (m ∷ []) ≡ true → m ≡ n
    same m f = grind arith

    one : (o : Option Hold) → present_or_none present o ≡ true → is_in n (name_in o) ≡ true → present n ≡ true
    one None p f = absurd (false≢true f)
    one (Some h) p f = subst (λ (m : ℕ). present m ≡ true) (same h.name f) p

    in_two : (xs ys : List ℕ) → (is_in n xs ≡ true → present n ≡ true) → (is_in n ys ≡ true → present n ≡ true) → is_in n (xs ++ ys) ≡ true → present n ≡ true
    in_two xs ys f g h = by (one_of (is_in n xs) (is_in n ys) (sym (both_in n xs ys) ∙ h))
      where
        by : (is_in n xs ≡ true) ⊎ (is_in n ys ≡ true) → present n ≡ true
        by (inl x) = f x
        by (inr y) = g y

-- A segment in memory is present under its name.

live_entry : (age : ℕ) (o : Option Entry) → IsSome (aged age o) → IsSome o × ((entry_or o).age ≡ age)
live_entry age None l = absurd (false≢true l)
live_entry age (Some e) l = at (e.age == age) refl l
  where
    at : (b : Bool) → (e.age == age) ≡ b → is_some (cond b (Some e) None) ≡ true → IsSome (Some e) × (e.age ≡ age)
    at true q z = (refl, eqb-true e.age age q)
    at false q z = absurd (false≢true z)

pub age_is : (s : Shelf) (id : SegId) → IsSome (entry_of s id) → (entry s id.key).age ≡ id.age
age_is s id live = (live_entry id.age (slot_at s.entries id.key) live).1

module _ (s : Shelf) (aged_once : AreAged s) where
  pub key_of_live : (id : SegId) → IsSome (entry_of s id) → key_of s id.age ≡ Some id.key
  key_of_live id live =
      let e = live_entry id.age (slot_at s.entries id.key) live in
      subst (λ (n : ℕ). key_of s n ≡ Some id.key) e.1 (aged_key s id.key aged_once e.0)

  pub present_by_key : (id : SegId) → IsSome (entry_of s id) → IsSome (place_of s id.key) → present_in s id.age ≡ true
  present_by_key id live placed = ap (present_under s) (key_of_live id live) ∙ placed

-- What is needed is present under its names.
pub ages_present : (s : Shelf) (need : List (SegId × ℕ)) → AreAged s → ((i : ℕ) (p : SegId × ℕ) → slice_get need i ≡ Some p → IsSome (entry_of s p.0))
    → ((i : ℕ) (p : SegId × ℕ) → slice_get need i ≡ Some p → IsSome (place_of s p.0.key)) → (n : ℕ) → is_in n (ages_of need) ≡ true → present_in s n ≡ true
ages_present s [] a live placed n e = absurd (false≢true e)
ages_present s (p ∷ ps) a live placed n e =
    let rest = λ (f : is_in n (ages_of ps) ≡ true). ages_present s ps a (λ i q h. live (suc i) q h) (λ i q h. placed (suc i) q h) n f in
    elim (one_of (p.0.age == n) (is_in n (ages_of ps)) e) [
      | inl x ↦ subst (λ (m : ℕ). present_in s m ≡ true) (eqb-true p.0.age n x) (present_by_key s a p.0 (live 0 p refl) (placed 0 p refl))
      | inr y ↦ rest y
    ]

-- a number that is needed is that of one of the segments
pub needed_at : (need : List (SegId × ℕ)) (k : ℕ) → needs need k ≡ true → (i : ℕ) × ((p : SegId × ℕ) × ((slice_get need i ≡ Some p) × (p.0.key ≡ k)))
needed_at [] k e = absurd (false≢true e)
needed_at (p ∷ ps) k e =
    let rest = λ (f : needs ps k ≡ true). needed_at ps k f in
    elim (one_of (k == p.0.key) (needs ps k) e) [
      | inl x ↦ (0, (p, (refl, sym (eqb-true k p.0.key x))))
      | inr y ↦ (let r = rest y in (suc r.0, (r.1.0, (r.1.1.0, r.1.1.1))))
    ]
