-- The index of the common names, when there is one name more.
use Rattle.std.proofs.Common.{◌≡◌, inl, inr, ℕ, ◌<◌, List, [], ◌∷◌, ◌++◌, length, Bool, true, false, Option, Some, None, unwrap_or, get_or, set, get_or-set_same, get_or-set_other, if◌then◌else◌, ◌==◌, ◌&&◌, sym, ap, ◌∙◌, refl, arith, subst}
use Rattle.std.proofs.lemmas.Bool.{cases_eq, eq-eqb, ne_eqb}
use Rattle.o2_world.specs.declared.types.Made.{Made}
use Rattle.o2_world.specs.Starts.{name_in}
use Rattle.o2_load.specs.MadeIndex.{slot_of, IsIndexed}

first_of : Option ℕ → Option ℕ → Option ℕ
first_of (Some x) o = Some x
first_of None o = o

first_none : (o : Option ℕ) → first_of o None ≡ o
unfolding first_of
first_none (Some x) = refl
first_none None = refl

first_some : (o : Option ℕ) (x : ℕ) → first_of o (Some x) ≡ Some (unwrap_or o x)
unfolding first_of
first_some (Some y) x = refl
first_some None x = refl

first_either : (b : Bool) (x : ℕ) (o p : Option ℕ) → (if b then Some x else first_of o p) ≡ first_of (if b then Some x else o) p
unfolding first_of
first_either true x o p = refl
first_either false x o p = refl

is_of : Made → ℕ → ℕ → Option ℕ
is_of m place number = if (m.place == place) && (m.number == number) then Some m.name else None

name_in_more : (ms : List Made) (m : Made) (place number : ℕ) → name_in (ms ++ m ∷ []) place number ≡ first_of (name_in ms place number) (is_of m place number)
unfolding is_of first_of
name_in_more [] m place number = refl
name_in_more (x ∷ ms) m place number =
    ap (λ (o : Option ℕ). if (x.place == place) && (x.number == number) then Some x.name else o) (name_in_more ms m place number)
    ∙ first_either ((x.place == place) && (x.number == number)) x.name (name_in ms place number) (is_of m place number)

is_itself : (m : Made) → is_of m m.place m.number ≡ Some m.name
unfolding is_of
is_itself m =
    let a : (m.place == m.place) ≡ true = eq-eqb m.place m.place refl in
    let b : (m.number == m.number) ≡ true = eq-eqb m.number m.number refl in
    rw (a, b) refl

is_another : (m : Made) (place number : ℕ) → (slot_of m.place m.number ≡ slot_of place number → ⊥) → is_of m place number ≡ None
unfolding is_of
is_another m place number other = elim (cases_eq m.place place) [
  | inl same ↦ elim (cases_eq m.number number) [
    | inl both ↦ absurd (other (omega (arith, same, both)))
    | inr apart ↦ (let b : (m.number == number) ≡ false = ne_eqb m.number number apart in let a : (m.place == place) ≡ true = eq-eqb m.place place same in rw (a, b) refl)
  ]
  | inr apart ↦ (let a : (m.place == place) ≡ false = ne_eqb m.place place apart in rw a refl)
]

module _ (ms : List Made) (m : Made) (index : List (Option ℕ)) (is : IsIndexed ms index) (small : m.number < 256) (within : slot_of m.place m.number < length index) where
  after : List (Option ℕ)
  after = set index (slot_of m.place m.number) (Some (unwrap_or (get_or index (slot_of m.place m.number) None) m.name))

  at_same : get_or after (slot_of m.place m.number) None ≡ name_in (ms ++ m ∷ []) m.place m.number
  unfolding after
  at_same =
      get_or-set_same index (slot_of m.place m.number) (Some (unwrap_or (get_or index (slot_of m.place m.number) None) m.name)) None within
      ∙ ap (λ (o : Option ℕ). Some (unwrap_or o m.name)) (is m.place m.number small)
      ∙ sym (first_some (name_in ms m.place m.number) m.name)
      ∙ ap (first_of (name_in ms m.place m.number)) (sym (is_itself m))
      ∙ sym (name_in_more ms m m.place m.number)

  at_other : (place number : ℕ) → number < 256 → (slot_of m.place m.number ≡ slot_of place number → ⊥) → get_or after (slot_of place number) None ≡ name_in (ms ++ m ∷ []) place number
  unfolding after
  at_other place number low other =
      get_or-set_other index (slot_of m.place m.number) (slot_of place number) (Some (unwrap_or (get_or index (slot_of m.place m.number) None) m.name)) None (λ e. other (sym e))
      ∙ is place number low
      ∙ sym (first_none (name_in ms place number))
      ∙ ap (first_of (name_in ms place number)) (sym (is_another m place number other))
      ∙ sym (name_in_more ms m place number)

  pub indexed_more : IsIndexed (ms ++ m ∷ []) (set index (slot_of m.place m.number) (Some (unwrap_or (get_or index (slot_of m.place m.number) None) m.name)))
  unfolding after
  indexed_more place number low = elim (cases_eq (slot_of m.place m.number) (slot_of place number)) [
    | inl same ↦
        (let p : m.place ≡ place = omega (arith, same, small, low) in
        let n : m.number ≡ number = omega (arith, same, small, low) in
        let P : ℕ → ℕ → Type 0 = λ x y. get_or after (slot_of x y) None ≡ name_in (ms ++ m ∷ []) x y in
        subst (λ y. P place y) n (subst (λ x. P x m.number) p at_same))
    | inr other ↦ at_other place number low other
  ]
