-- Slots of ordinals, as entries come one by one.
use Rattle.std.proofs.Common.{◌≡◌, ◌≢◌, ℕ, zero, suc, ◌+◌, ◌-◌, ◌<◌, ◌≤◌, ◌==◌, ◌++◌, ◌∷◌, [], Bool, true, false, List, Option, Some, None, find, get_or, length, set, take, refl, sym, subst, ap, ◌∙◌, arith}
use Rattle.std.specs.Prelude.{nat_lt, option_map, slice_get}
use Rattle.std.specs.Option.{option_or}
use Rattle.std.proofs.Math.Seq.{take-suc}
use Rattle.std.proofs.lemmas.Bool.{eqb-false, eqb-true, ltb-false, ltb-true, ne_eqb}
use Rattle.std.proofs.lemmas.List.{get_or-set_other, get_or-set_same, length-set, length-take-le}
use Rattle.std.proofs.lemmas.List.Folds.{find-append}
use Rattle.o2_ne.specs.declared.entries.Entry.{Entry}
use Rattle.o2_ne.specs.EntrySlots.{AreSlots, IsFirst, IsSlot, noted}
use Rattle.o2_ne.specs.EntryTable.{target_of}

abbrev has : ℕ → Entry → Bool
has n e = e.ordinal == n

still_at : (es : List Entry) (more : List Entry) (i : ℕ) (e : Entry) → slice_get es i ≡ Some e → slice_get (es ++ more) i ≡ Some e
still_at [] more i e h = absurd cc
still_at (x ∷ xs) more zero e h = h
still_at (x ∷ xs) more (suc i) e h = still_at xs more i e h

last_at : (es : List Entry) (e : Entry) → slice_get (es ++ e ∷ []) (length es) ≡ Some e
last_at [] e = refl
last_at (x ∷ xs) e = last_at xs e

still_first : (es : List Entry) (e : Entry) (n i : ℕ) → IsFirst es n i → IsFirst (es ++ e ∷ []) n i
still_first es e n i f = record {
  entry = f.entry;
  at = still_at es (e ∷ []) i f.entry f.at;
  first = find-append (has n) es (e ∷ []) ∙ ap (λ (o : Option Entry). option_or o (find (has n) (e ∷ []))) f.first;
}

-- a slot that is taken stays as it is
kept : (es : List Entry) (e : Entry) (n slot : ℕ) → IsSlot es n slot → slot ≢ 0 → IsSlot (es ++ e ∷ []) n slot
kept es e n slot s taken = record {
  none = λ is. absurd (taken is);
  some = λ i is. still_first es e n i (s.some i is);
}

-- and so does that of another ordinal
passed : (es : List Entry) (e : Entry) (n slot : ℕ) → IsSlot es n slot → (e.ordinal == n) ≡ false → IsSlot (es ++ e ∷ []) n slot
passed es e n slot s other =
    let nowhere : find (has n) (e ∷ []) ≡ None = rw other refl in
    record {
      none = λ is. find-append (has n) es (e ∷ []) ∙ ap (λ (o : Option Entry). option_or o (find (has n) (e ∷ []))) (s.none is) ∙ nowhere;
      some = λ i is. still_first es e n i (s.some i is);
    }

-- an empty slot gets the number of the entry
landed : (es : List Entry) (e : Entry) (n : ℕ) → IsSlot es n 0 → (e.ordinal == n) ≡ true → IsSlot (es ++ e ∷ []) n (length es + 1)
landed es e n s same =
    let here : find (has n) (e ∷ []) ≡ Some e = rw same refl in
    record {
      none = λ is. absurd (omega (arith, is));
      some = λ i is.
          let at : i ≡ length es = omega (arith, is) in
          record {
            entry = e;
            at = rw at (last_at es e);
            first = find-append (has n) es (e ∷ []) ∙ ap (λ (o : Option Entry). option_or o (find (has n) (e ∷ []))) (s.none refl) ∙ here;
          };
    }

module _ (most : ℕ) (es : List Entry) (slots : List ℕ) (e : Entry) (s : AreSlots most es slots) where
  abbrev Next : List ℕ → Type 0
  Next after = AreSlots most (es ++ e ∷ []) after

  -- the slot is there and empty
  fills : e.ordinal < length slots → get_or slots e.ordinal 0 ≡ 0 → Next (set slots e.ordinal (length es + 1))
  fills lt empty = record {
    count = length-set slots e.ordinal (length es + 1) ∙ s.count;
    each = λ n below. go n below (e.ordinal == n) refl;
  }
    where
      go : (n : ℕ) → n < most → (b : Bool) → (e.ordinal == n) ≡ b → IsSlot (es ++ e ∷ []) n (get_or (set slots e.ordinal (length es + 1)) n 0)
      go n below true same =
          let is : e.ordinal ≡ n = eqb-true e.ordinal n same in
          let held : get_or slots n 0 ≡ 0 = ap (λ (i : ℕ). get_or slots i 0) (sym is) ∙ empty in
          let now : get_or (set slots e.ordinal (length es + 1)) n 0 ≡ length es + 1 =
          ap (λ (i : ℕ). get_or (set slots e.ordinal (length es + 1)) i 0) (sym is) ∙ get_or-set_same slots e.ordinal (length es + 1) 0 lt in
          rw now (landed es e n (rw held at (s.each n below)) same)
      go n below false other =
          let differs : n ≢ e.ordinal = (λ is. eqb-false e.ordinal n other (sym is)) in
          rw (get_or-set_other slots e.ordinal n (length es + 1) 0 differs) (passed es e n (get_or slots n 0) (s.each n below) other)

  -- it is taken
  stays : get_or slots e.ordinal 0 ≢ 0 → Next slots
  stays taken = record { count = s.count; each = λ n below. go n below (e.ordinal == n) refl }
    where
      go : (n : ℕ) → n < most → (b : Bool) → (e.ordinal == n) ≡ b → IsSlot (es ++ e ∷ []) n (get_or slots n 0)
      go n below true same =
          let is : e.ordinal ≡ n = eqb-true e.ordinal n same in
          kept es e n (get_or slots n 0) (s.each n below) (λ none. taken (ap (λ (i : ℕ). get_or slots i 0) is ∙ none))
      go n below false other = passed es e n (get_or slots n 0) (s.each n below) other

  -- there is none
  goes_past : length slots ≤ e.ordinal → Next slots
  goes_past le = record {
    count = s.count;
    each = λ n below.
        let count = s.count in
        let differs : e.ordinal ≢ n = (λ is. omega (arith, is, below, count, le)) in
        passed es e n (get_or slots n 0) (s.each n below) (ne_eqb e.ordinal n differs);
  }

  -- one entry more
  more : Next (noted slots e.ordinal (length es + 1))
  more = by (nat_lt e.ordinal (length slots)) refl
    where
      inside : e.ordinal < length slots → (b : Bool) → (get_or slots e.ordinal 0 == 0) ≡ b → nat_lt e.ordinal (length slots) ≡ true → Next (noted slots e.ordinal (length es + 1))
      inside lt true empty is = rw (is, empty) (fills lt (eqb-true (get_or slots e.ordinal 0) 0 empty))
      inside lt false taken is = rw (is, taken) (stays (eqb-false (get_or slots e.ordinal 0) 0 taken))

      by : (b : Bool) → nat_lt e.ordinal (length slots) ≡ b → Next (noted slots e.ordinal (length es + 1))
      by true is = inside (ltb-true e.ordinal (length slots) is) (get_or slots e.ordinal 0 == 0) refl is
      by false is = rw is (goes_past (ltb-false e.ordinal (length slots) is))

-- no entry yet
pub no_entry : (most : ℕ) (slots : List ℕ) → length slots ≡ most → ((n : ℕ) → get_or slots n 0 ≡ 0) → AreSlots most [] slots
no_entry most slots count empty = record {
  count = count;
  each = λ n below. record {
    none = λ is. refl;
    some = λ i is. absurd (let none = empty n in omega (arith, is, none));
  };
}

-- the next of a list's entries
pub next_slot : (most : ℕ) (es : List Entry) (slots after : List ℕ) (k : ℕ) (d : Entry) → AreSlots most (take k es) slots → k < length es
    → after ≡ noted slots (get_or es k d).ordinal (k + 1) → AreSlots most (take (k + 1) es) after
next_slot most es slots after k d s lt now =
    let e = get_or es k d in
    let len : length (take k es) ≡ k = length-take-le k es (omega (arith, lt)) in
    let on : k + 1 ≡ suc k = omega arith in
    let all : take (k + 1) es ≡ take k es ++ e ∷ [] = ap (λ (i : ℕ). take i es) on ∙ take-suc es k d lt in
    let step : AreSlots most (take k es ++ e ∷ []) (noted slots e.ordinal (k + 1)) =
    subst (λ (n : ℕ). AreSlots most (take k es ++ e ∷ []) (noted slots e.ordinal (n + 1))) len (more most (take k es) slots e s) in
    rw (all, now) step

-- what a slot says of its ordinal
abbrev leads : Option Entry → Option (ℕ × ℕ)
leads found = option_map (λ e. (e.segment, e.offset)) found

pub undefined : (most : ℕ) (es : List Entry) (slots : List ℕ) (n : ℕ) → AreSlots most es slots → n < most → get_or slots n 0 ≡ 0 → target_of n es ≡ None
undefined most es slots n s below none = ap leads ((s.each n below).none none)

pub defined : (most : ℕ) (es : List Entry) (slots : List ℕ) (n : ℕ) (e : Entry) → AreSlots most es slots → n < most → get_or slots n 0 ≢ 0
    → slice_get es (get_or slots n 0 - 1) ≡ Some e → target_of n es ≡ Some (e.segment, e.offset)
defined most es slots n e s below some at =
    let number : get_or slots n 0 ≡ get_or slots n 0 - 1 + 1 = omega (arith, some) in
    let f = (s.each n below).some (get_or slots n 0 - 1) number in
    let same : f.entry ≡ e = (let two = sym f.at ∙ at in cc) in
    ap leads f.first ∙ ap (λ (x : Entry). Some (x.segment, x.offset)) same

pub not_lost : (most : ℕ) (es : List Entry) (slots : List ℕ) (n : ℕ) → AreSlots most es slots → n < most → get_or slots n 0 ≢ 0 → slice_get es (get_or slots n 0 - 1) ≡ None → ⊥
not_lost most es slots n s below some at =
    let number : get_or slots n 0 ≡ get_or slots n 0 - 1 + 1 = omega (arith, some) in
    let f = (s.each n below).some (get_or slots n 0 - 1) number in
    let two = sym f.at ∙ at in
    cc
