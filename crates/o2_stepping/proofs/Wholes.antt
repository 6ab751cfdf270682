-- Of the names that a step needs, those whose segments weren't discarded.
use Rattle.std.proofs.Common.{◌≡◌, inl, inr, ℕ, suc, ◌==◌, Bool, true, false, not, ◌||◌, if◌then◌else◌, List, [], ◌∷◌, Option, Some, None, IsSome, ap, sym, ◌∙◌, refl, subst}
use Rattle.std.specs.Prelude.{slice_get}
use Rattle.std.proofs.lemmas.Bool.{false≢true, eqb-true}
use Rattle.o2_entries.specs.declared.Attr.{Attr}
use Rattle.o2_isa.specs.Presence.{is_in}
use Rattle.o2_place.specs.declared.seg_id.SegId.{SegId}
use Rattle.o2_store.specs.Shelf.{SameTables, Shelf, entry, entry_of}
use Rattle.o2_segbus.specs.Guards.{AreAged}
use Rattle.o2_segbus.specs.Seen.{gone_in, gone_under, key_of}
use Rattle.o2_stands.proofs.Moves.{same_keys}
use Rattle.o2_stepping.specs.Rooms.{ages_of, whole_names}
use Rattle.o2_stepping.proofs.Named.{key_of_live, one_of, or_back, or_front}

not_true : (b : Bool) → not b ≡ true → b ≡ false
not_true true e = absurd (false≢true e)
not_true false e = refl

not_false : (b : Bool) → not b ≡ false → b ≡ true
not_false true e = refl
not_false false e = absurd (false≢true (sym e))

module _ (s : Shelf) (n : ℕ) where
  among_one : (m : ℕ) (ms : List ℕ) → gone_in s n ≡ false → (is_in n ms ≡ true → is_in n (whole_names s ms) ≡ true) → (a g : Bool) → (m == n) ≡ a → not (gone_in s m) ≡ g
      → (a || is_in n ms) ≡ true → is_in n (if g then m ∷ whole_names s ms else whole_names s ms) ≡ true
  among_one m ms w later true true is keeps e = or_front (m == n) (is_in n (whole_names s ms)) is
  among_one m ms w later true false is keeps e = absurd (false≢true (sym w ∙ (ap (gone_in s) (sym (eqb-true m n is)) ∙ not_false (gone_in s m) keeps)))
  among_one m ms w later false true is keeps e = or_back (m == n) (is_in n (whole_names s ms)) (later e)
  among_one m ms w later false false is keeps e = later e

  pub among_whole : (names : List ℕ) → gone_in s n ≡ false → is_in n names ≡ true → is_in n (whole_names s names) ≡ true
  among_whole [] w e = absurd (false≢true e)
  among_whole (m ∷ ms) w e = among_one m ms w (λ f. among_whole ms w f) (m == n) (not (gone_in s m)) refl refl e

  of_one : (m : ℕ) (ms : List ℕ) → (is_in n (whole_names s ms) ≡ true → (is_in n ms ≡ true) × (gone_in s n ≡ false)) → (a g : Bool) → (m == n) ≡ a → not (gone_in s m) ≡ g
      → is_in n (if g then m ∷ whole_names s ms else whole_names s ms) ≡ true → (((m == n) || is_in n ms) ≡ true) × (gone_in s n ≡ false)
  of_one m ms later true true is keeps e = (or_front (m == n) (is_in n ms) is, ap (gone_in s) (sym (eqb-true m n is)) ∙ not_true (gone_in s m) keeps)
  of_one m ms later false true is keeps e =
      (let rest : is_in n (whole_names s ms) ≡ true = ap (λ (b : Bool). b || is_in n (whole_names s ms)) (sym is) ∙ e in
      let x = later rest in (or_back (m == n) (is_in n ms) x.0, x.1))
  of_one m ms later a false is keeps e = (let x = later e in (or_back (m == n) (is_in n ms) x.0, x.1))

  pub of_whole : (names : List ℕ) → is_in n (whole_names s names) ≡ true → (is_in n names ≡ true) × (gone_in s n ≡ false)
  of_whole [] e = absurd (false≢true e)
  of_whole (m ∷ ms) e = of_one m ms (λ f. of_whole ms f) (m == n) (not (gone_in s m)) refl refl e

-- a live segment's mark is that of its name
pub gone_by_key : (s : Shelf) → AreAged s → (id : SegId) → IsSome (entry_of s id) → gone_in s id.age ≡ (entry s id.key).attr.gone
gone_by_key s aged id live = ap (gone_under s) (key_of_live s aged id live)

-- what is needed and whole is so under its names
pub ages_whole : (s : Shelf) (need : List (SegId × ℕ)) → AreAged s → ((i : ℕ) (p : SegId × ℕ) → slice_get need i ≡ Some p → IsSome (entry_of s p.0))
    → ((i : ℕ) (p : SegId × ℕ) → slice_get need i ≡ Some p → (entry s p.0.key).attr.gone ≡ false) → (n : ℕ) → is_in n (ages_of need) ≡ true → gone_in s n ≡ false
ages_whole s [] a live whole n e = absurd (false≢true e)
ages_whole s (p ∷ ps) a live whole n e =
    let rest = λ (f : is_in n (ages_of ps) ≡ true). ages_whole s ps a (λ i q h. live (suc i) q h) (λ i q h. whole (suc i) q h) n f in
    elim (one_of (p.0.age == n) (is_in n (ages_of ps)) e) [
      | inl x ↦ subst (λ (m : ℕ). gone_in s m ≡ false) (eqb-true p.0.age n x) (gone_by_key s a p.0 (live 0 p refl) ∙ whole 0 p refl)
      | inr y ↦ rest y
    ]

-- Marks stay where the tables do.

gone_same : (s t : Shelf) → SameTables s t → (o : Option ℕ) → gone_under t o ≡ gone_under s o
gone_same s t w None = refl
gone_same s t w (Some k) = ap (λ (a : Attr). a.gone) (w.same k).attr

pub marks_stay : (s t : Shelf) → SameTables s t → (n : ℕ) → gone_in t n ≡ gone_in s n
marks_stay s t w n = ap (gone_under t) (same_keys s t w n) ∙ gone_same s t w (key_of s n)
