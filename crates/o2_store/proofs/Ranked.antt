-- Segments in memory by their place.
use Rattle.std.proofs.Common.{◌≡◌, ℕ, zero, suc, ◌<◌, List, [], ◌∷◌, length, drop, get_or, Option, Some, None, IsSome, true, eqb, refl, sym, ap, ◌∙◌, subst, add-one, ◌+◌, arith}
use Rattle.std.proofs.lemmas.Bool.Decides.{nat_tests}
use Rattle.o2_entries.specs.declared.Entry.{Entry}
use Rattle.o2_entries.specs.Tables.{slot_at}
use Rattle.o2_place.specs.declared.ranges.Range.{Range}
use Rattle.o2_place.specs.Layout.{AreApart, find_in, no_range, range_at}
use Rattle.o2_place.proofs.RangeLemmas.{find_in-at}
use Rattle.o2_store.specs.Shelf.{Shelf, IsShelf, entry, entry_of, numbered, place_of}
use Rattle.o2_store.proofs.Tables.{none_is_none}

-- no range behind one has its id
pub apart_drop : (rs : List Range) (k : ℕ) (d : Range) → k < length rs → AreApart rs → find_in (drop (suc k) rs) (get_or rs k d).id ≡ None
apart_drop [] k d l a = absurd (omega arith)
apart_drop (r ∷ rs) zero d l a = a.0
apart_drop (r ∷ rs) (suc k) d l a = apart_drop rs k d (omega arith) a.1

-- what is in memory is live
pub live_numbered : (s : Shelf) (key at len : ℕ) → IsShelf s → place_of s key ≡ Some (at, len) → IsSome (entry_of s (numbered s key))
live_numbered s key at len h place = go (slot_at s.entries key) refl
  where
    go : (o : Option Entry) → slot_at s.entries key ≡ o → IsSome (entry_of s (numbered s key))
    go None e = absurd (none_is_none place ((h.each key (h.numbered key at len place)).dead e))
    go (Some x) e = (let t : eqb x.age x.age ≡ true = grind (arith, nat_tests) in rw (e, t) refl)

-- the segment of a range
pub ranked_place : (s : Shelf) (k : ℕ) (r : Range) → AreApart s.places.ranges → k < length s.places.ranges → r ≡ range_at s.places.ranges k
    → place_of s r.id ≡ Some ((range_at s.places.ranges k).at, (range_at s.places.ranges k).len)
ranked_place s k r a l e = ap (λ (x : Range). place_of s x.id) e ∙ find_in-at s.places.ranges k no_range l a

pub ranked_once : (s : Shelf) (k : ℕ) (r : Range) → AreApart s.places.ranges → k < length s.places.ranges → r ≡ range_at s.places.ranges k → find_in (drop (k + 1) s.places.ranges) r.id ≡ None
ranked_once s k r a l e = rw (add-one k) (ap (λ (x : Range). find_in (drop (suc k) s.places.ranges) x.id) e ∙ apart_drop s.places.ranges k no_range l a)

pub ranked_live : (s : Shelf) (k age : ℕ) (r : Range) → IsShelf s → AreApart s.places.ranges → k < length s.places.ranges → r ≡ range_at s.places.ranges k → age ≡ (entry s r.id).age
    → IsSome (entry_of s (record { key = r.id; age = age }))
ranked_live s k age r h a l e g =
    let p = ranked_place s k r a l e in
    let x : IsSome (entry_of s (numbered s r.id)) = live_numbered s r.id (range_at s.places.ranges k).at (range_at s.places.ranges k).len h p in
    subst (λ (y : ℕ). IsSome (entry_of s (record { key = r.id; age = y }))) (sym g) x
