-- Whose turn it is to leave.
use Rattle.std.proofs.Common.{◌≡◌, ◌≢◌, ℕ, ◌+◌, ◌<◌, List, length, Option, Some, None, IsSome, Bool, true, false, ◌||◌, nat_eq, refl, sym, ap, ◌∙◌, arith, subst, inl, inr}
use Rattle.std.proofs.lemmas.Bool.{false≢true}
use Rattle.std.proofs.lemmas.Bool.Decides.{nat_tests}
use Rattle.o2_entries.specs.declared.Entry.{Entry}
use Rattle.o2_place.specs.declared.seg_id.SegId.{SegId}
use Rattle.o2_place.specs.Marks.{AllUnused, IsKept, IsNext, IsOutside, IsPresent, IsVictim, NoneUnused, OnlyUnmarks, Turns, place_in}
use Rattle.o2_store.specs.Leaving.{MayLeave}
use Rattle.o2_store.specs.Needs.{has, named_in}
use Rattle.o2_store.specs.Shelf.{IsShelf, Shelf, entry, numbered, place_of}
use Rattle.o2_store.specs.Victims.{IsNextOut}
use Rattle.o2_store.proofs.Choosing.{may_leave}
use Rattle.o2_store.proofs.Collecting.{has_kept}
use Rattle.o2_store.proofs.Keeping.{placed_below, present_is, present_yes}

-- the numbers of a call don't matter
pub may_keyed : (s : Shelf) (ks : List ℕ) (key : ℕ) (keep : List SegId) (k : SegId) → MayLeave s key keep k → MayLeave (record s { keys = ks }) key keep k
may_keyed s ks key keep k m = record { live = m.live; here = m.here; unlocked = m.unlocked; other = m.other; unnamed = m.unnamed }

may_unkeyed : (s : Shelf) (ks : List ℕ) (key : ℕ) (keep : List SegId) (k : SegId) → MayLeave (record s { keys = ks }) key keep k → MayLeave s key keep k
may_unkeyed s ks key keep k m = record { live = m.live; here = m.here; unlocked = m.unlocked; other = m.other; unnamed = m.unnamed }

pub next_unkeyed : (s : Shelf) (ks : List ℕ) (u : Turns) (key : ℕ) (keep : List SegId) (out : SegId) → IsNextOut (record s { keys = ks }) u key keep out → IsNextOut s u key keep out
next_unkeyed s ks u key keep out n = record {
  may = may_unkeyed s ks key keep out n.may;
  unused = λ k m w. n.unused k (may_keyed s ks key keep k m) w;
  before = λ k m w. n.before k (may_keyed s ks key keep k m) w;
  round = λ none k m. n.round (λ j w x. none j (may_unkeyed s ks key keep j w) x) k (may_keyed s ks key keep k m);
  unmarks = n.unmarks;
  hand = n.hand;
  places = n.places;
}

-- those that may leave are those that the clock has, outside the numbers that stay
module _ (t : Shelf) (key : ℕ) (keep : List SegId) (h : IsShelf t) (any : (k : ℕ) → has t.keys k ≡ (nat_eq k key || named_in t.entries keep k)) where
  there : (k : SegId) → MayLeave t key keep k → IsPresent t.turns.marks k.key
  there k m = present_is t k.key h m.here m.unlocked (placed_below t k.key h m.here)

  away : (k : SegId) → MayLeave t key keep k → IsKept t.keys k.key → ⊥
  away k m w =
      let a : has t.keys k.key ≡ true = has_kept t.keys k.key w.0 w.1 w.2 in
      let other : k.key ≢ key = m.other in
      let n : nat_eq k.key key ≡ false = grind (arith, nat_tests) in
      let b : has t.keys k.key ≡ false = any k.key ∙ rw (n, m.unnamed) refl in
      false≢true (sym b ∙ a)

  outside : (k : SegId) → MayLeave t key keep k → IsOutside t.keys k.key
  outside k m = λ i l e. away k m (i, l, e)

  may_go : (k : ℕ) → IsPresent t.turns.marks k → IsOutside t.keys k → MayLeave t key keep (numbered t k)
  may_go k p o = (let y = present_yes t k h p in may_leave t t key k (entry t k).age keep h refl any y.1 y.2 o refl)

  next_here : (u : Turns) (v age : ℕ) → IsVictim t.turns.marks t.keys v → IsNext t.turns u.marks t.keys v → (NoneUnused t.turns.marks t.keys → AllUnused t.turns.marks u.marks t.keys)
      → OnlyUnmarks t.turns.marks u.marks → u.hand ≡ place_in t.turns v + 1 → u.places ≡ t.turns.places → age ≡ (entry t v).age → IsNextOut t u key keep (record { key = v; age = age })
  next_here u v age victim next round unmarks hand places g =
      let y = present_yes t v h victim.present in
      record {
        may = may_leave t t key v age keep h refl any y.1 y.2 victim.outside g;
        unused = λ k m w. victim.unused k.key (there k m) (outside k m) w;
        before = λ k m w. elim (next k.key (there k m) w) [
          | inl kept ↦ absurd (away k m kept)
          | inr passed ↦ passed
        ];
        round = λ none k m. round (λ j p o w. none (numbered t j) (may_go j p o) w) k.key (there k m) (outside k m);
        unmarks = unmarks;
        hand = hand;
        places = places;
      }

-- the one that the clock gives is next
pub next_out : (s t : Shelf) (u : Turns) (key : ℕ) (keep : List SegId) (v age : ℕ) → IsShelf t → t ≡ record s { keys = t.keys } → ((k : ℕ) → has t.keys k ≡ (nat_eq k key || named_in s.entries keep k))
    → IsVictim t.turns.marks t.keys v → IsNext t.turns u.marks t.keys v → (NoneUnused t.turns.marks t.keys → AllUnused t.turns.marks u.marks t.keys) → OnlyUnmarks t.turns.marks u.marks
    → u.hand ≡ place_in t.turns v + 1 → u.places ≡ t.turns.places → age ≡ (entry t v).age → IsNextOut s u key keep (record { key = v; age = age })
next_out s t u key keep v age h e any victim next round unmarks hand places g =
    let out : SegId = record { key = v; age = age } in
    let same : t.entries ≡ s.entries = ap (λ (x : Shelf). x.entries) e in
    let n = next_here t key keep h (λ k. any k ∙ ap (λ (es : List (Option Entry)). nat_eq k key || named_in es keep k) (sym same)) u v age victim next round unmarks hand places g in
    next_unkeyed s t.keys u key keep out (subst (λ (x : Shelf). IsNextOut x u key keep out) e n)
