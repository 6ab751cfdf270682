-- The room of what a step needs, in a store.
use Rattle.std.proofs.Common.{◌≡◌, ◌⊎◌, inl, inr, ℕ, ◌<◌, ◌≤◌, Bool, true, false, cond, ◌||◌, List, length, Option, Some, None, is_some, IsSome, ap, sym, ◌∙◌, refl, subst, arith}
use Rattle.std.specs.Prelude.{max, nat_lt}
use Rattle.std.proofs.lemmas.Bool.{false≢true}
use Rattle.o2_entries.specs.declared.Entry.{Entry}
use Rattle.o2_entries.specs.declared.Attr.{Attr}
use Rattle.o2_entries.specs.Tables.{slot_at}
use Rattle.o2_isa.specs.Presence.{is_in}
use Rattle.o2_place.specs.declared.seg_id.SegId.{SegId}
use Rattle.o2_place.specs.Layout.{len_of, over, used}
use Rattle.o2_place.proofs.Sums.{over-le, over-same}
use Rattle.o2_store.specs.Shelf.{Shelf, IsShelf, SameTables, entry, entry_or, place_of, rounded}
use Rattle.o2_segbus.specs.Guards.{AreAged}
use Rattle.o2_segbus.specs.Seen.{present_in, present_under}
use Rattle.o2_segbus.proofs.Ages.{aged_key}
use Rattle.o2_service.specs.Needs.{all_needed, needed, needs, size_in}
use Rattle.o2_stepping.specs.Rooms.{room_at, room_in}

more : (a b c : Bool) → (b ≡ true → c ≡ true) → (a || b) ≡ true → (a || c) ≡ true
more true b c f e = refl
more false b c f e = f e

-- a part that counts under a test counts under a wider one
wider : (a b : Bool) (x y : ℕ) → x ≡ y → (a ≡ true → b ≡ true) → cond a x 0 ≤ cond b y 0
wider true b x y e f = subst (λ (c : Bool). x ≤ cond c y 0) (sym (f refl)) (omega (arith, e))
wider false b x y e f = omega arith

max_zero : (n : ℕ) → max n 0 ≡ n
max_zero n = omega arith

-- what is needed is no more than the room of its names
pub need_fits : (s : Shelf) (need : List (SegId × ℕ)) (names : List ℕ) → ((k : ℕ) → size_in need k ≡ 0) → ((k : ℕ) → needs need k ≡ true → is_in (entry s k).age names ≡ true)
    → all_needed s need ≤ room_in s names
need_fits s need names sizes named =
    over-le (needed s need) (room_at s names) (length s.entries) (λ k l.
    wider (nat_lt 0 (entry s k).attr.lock || needs need k) (nat_lt 0 (entry s k).attr.lock || is_in (entry s k).age names)
    (rounded (max (entry s k).size (size_in need k))) (rounded (entry s k).size)
    (ap (λ (n : ℕ). rounded (max (entry s k).size n)) (sizes k) ∙ ap rounded (max_zero (entry s k).size))
    (more (nat_lt 0 (entry s k).attr.lock) (needs need k) (is_in (entry s k).age names) (named k)))

-- The room stays where ages, sizes and locks stay.
pub room_same : (s t : Shelf) (names : List ℕ) → SameTables s t → room_in t names ≡ room_in s names
room_same s t names w =
    ap (over (room_at t names)) w.count
    ∙ over-same (room_at t names) (room_at s names) (length s.entries) (λ k l. at_number k)
  where
    at_number : (k : ℕ) → room_at t names k ≡ room_at s names k
    at_number k =
        ap (λ (n : ℕ). cond (nat_lt 0 (entry t k).attr.lock || is_in n names) (rounded (entry t k).size) 0) (w.same k).age
        ∙ ap (λ (n : ℕ). cond (nat_lt 0 (entry t k).attr.lock || is_in (entry s k).age names) (rounded n) 0) (w.same k).size
        ∙ ap (λ (n : ℕ). cond (nat_lt 0 n || is_in (entry s k).age names) (rounded (entry s k).size) 0) (ap (λ (a : Attr). a.lock) (w.same k).attr)

-- What is in memory together has room there.

either : (a b : Bool) → (a || b) ≡ true → (a ≡ true) ⊎ (b ≡ true)
either true b e = inl refl
either false b e = inr e

lt_of : (a b : ℕ) → nat_lt a b ≡ true → a < b
lt_of a b e = grind arith

module _ (s : Shelf) (names : List ℕ) (shelf : IsShelf s) (aged : AreAged s) (here : (n : ℕ) → is_in n names ≡ true → present_in s n ≡ true) where
  dead : (o : Option Entry) → o ≡ None → rounded (entry_or o).size ≤ 0
  dead None e = omega arith
  dead (Some x) e = absurd (let p : is_some (Some x) ≡ false = ap is_some e in false≢true (sym p))

  there : (k : ℕ) → IsSome (slot_at s.entries k) → is_in (entry s k).age names ≡ true → IsSome (place_of s k)
  there k live e = subst (λ (o : Option ℕ). present_under s o ≡ true) (aged_key s k aged live) (here (entry s k).age e)

  by_place : (k : ℕ) (p : Option (ℕ × ℕ)) → ((at len : ℕ) → p ≡ Some (at, len) → len ≡ rounded (entry s k).size) → IsSome p → rounded (entry s k).size ≤ len_of p
  by_place k None f i = absurd (false≢true i)
  by_place k (Some r) f i = (let e = f r.0 r.1 refl in omega (arith, e))

  part_fits : (k : ℕ) → k < length s.entries → room_at s names k ≤ len_of (place_of s k)
  part_fits k l = go (nat_lt 0 (entry s k).attr.lock || is_in (entry s k).age names) refl
    where
      by_slot : (o : Option Entry) → slot_at s.entries k ≡ o → (nat_lt 0 (entry s k).attr.lock || is_in (entry s k).age names) ≡ true → rounded (entry s k).size ≤ len_of (place_of s k)
      by_slot None e t = (let d : rounded (entry s k).size ≤ 0 = dead (slot_at s.entries k) e in omega (arith, d))
      by_slot (Some x) e t = by_place k (place_of s k) (shelf.each k l).placed (by_test (either _ _ t))
        where
          live : IsSome (slot_at s.entries k)
          live = ap is_some e

          by_test : (nat_lt 0 (entry s k).attr.lock ≡ true) ⊎ (is_in (entry s k).age names ≡ true) → IsSome (place_of s k)
          by_test (inl a) = (shelf.each k l).locked (lt_of 0 (entry s k).attr.lock a)
          by_test (inr b) = there k live b

      go : (b : Bool) → (nat_lt 0 (entry s k).attr.lock || is_in (entry s k).age names) ≡ b → cond b (rounded (entry s k).size) 0 ≤ len_of (place_of s k)
      go true e = by_slot (slot_at s.entries k) refl e
      go false e = omega arith

  pub room_fits : over (λ k. len_of (place_of s k)) (length s.entries) ≡ used s.places.ranges → used s.places.ranges ≤ s.places.size → room_in s names ≤ s.places.size
  room_fits sum room = (let le = over-le (room_at s names) (λ k. len_of (place_of s k)) (length s.entries) part_fits in omega (arith, le, sum, room))
