-- Which segment may leave, and where none may.
use Rattle.std.proofs.Common.{◌≡◌, ◌≢◌, ℕ, ◌+◌, ◌<◌, List, [], ◌∷◌, length, Option, Some, None, IsSome, Bool, true, false, ◌||◌, ◌&&◌, eqb, ltb, nat_eq, refl, sym, ap, ◌∙◌, arith, subst, if◌then◌else◌}
use Rattle.std.proofs.lemmas.Bool.{false≢true}
use Rattle.std.proofs.lemmas.Bool.Decides.{nat_tests}
use Rattle.o2_entries.specs.declared.Attr.{Attr}
use Rattle.o2_entries.specs.declared.Entry.{Entry}
use Rattle.o2_entries.specs.Tables.{slot_at}
use Rattle.o2_place.specs.declared.seg_id.SegId.{SegId}
use Rattle.o2_place.specs.Layout.{Layout, Changes, IsFree, IsLowestFree, over, len_of, used}
use Rattle.o2_place.specs.Marks.{IsKept, IsOutside}
use Rattle.o2_store.specs.Leaving.{MayLeave}
use Rattle.o2_place.proofs.Sums.{over-same}
use Rattle.o2_store.specs.Needs.{has, has_age, all_need, is_named, named_in, wanted, all_wanted}
use Rattle.o2_store.specs.Shelf.{Shelf, IsShelf, SameEntry, SameTables, aged, entry, entry_of, entry_or, numbered, place_of, rounded}
use Rattle.o2_store.proofs.Tables.{place-other}
use Rattle.o2_store.proofs.Collecting.{kept_has, need_exceeds, need_wanted}
use Rattle.o2_store.proofs.Ranked.{live_numbered}

-- a live segment's number has a segment
pub live_slot : (age : ℕ) (o : Option Entry) → IsSome (aged age o) → IsSome o
live_slot age None i = i
live_slot age (Some e) i = refl

-- the clock and the numbers of a call may change
pub chosen_shelf : (s t u : Shelf) → t ≡ record s { keys = t.keys } → u ≡ record t { turns = u.turns } → u ≡ record s { turns = u.turns; keys = u.keys }
chosen_shelf s t u e f =
    f ∙ ap (λ (x : Shelf). record x { turns = u.turns }) e ∙ ap (λ (ks : List ℕ). record s { turns = u.turns; keys = ks }) (sym (ap (λ (x : Shelf). x.keys) f))

outside_has : (keys : List ℕ) (v : ℕ) → IsOutside keys v → has keys v ≡ false
outside_has keys v out = go (has keys v) refl
  where
    go : (b : Bool) → has keys v ≡ b → has keys v ≡ false
    go false e = e
    go true e = absurd (let k = kept_has keys v e in out k.0 k.1 k.2)

neither : (a b : Bool) → (a || b) ≡ false → (a ≡ false) × (b ≡ false)
neither true b e = absurd (false≢true (sym e))
neither false b e = (refl, e)

-- what the clock gives may leave
pub may_leave : (s t : Shelf) (key v age : ℕ) (keep : List SegId) → IsShelf t → t ≡ record s { keys = t.keys } → ((k : ℕ) → has t.keys k ≡ (nat_eq k key || named_in s.entries keep k))
    → IsSome (place_of t v) → (entry t v).attr.lock ≡ 0 → IsOutside t.keys v → age ≡ (entry t v).age → MayLeave s key keep (record { key = v; age = age })
may_leave s t key v age keep h e any here unlocked out g =
    let q = neither (nat_eq v key) (named_in s.entries keep v) (sym (any v) ∙ outside_has t.keys v out) in
    record {
      live = subst (λ (x : Shelf). IsSome (entry_of x (record { key = v; age = age }))) e (subst (λ (a : ℕ). IsSome (entry_of t (record { key = v; age = a }))) (sym g) (live (place_of t v) refl here));
      here = subst (λ (x : Shelf). IsSome (place_of x v)) e here;
      unlocked = subst (λ (x : Shelf). (entry x v).attr.lock ≡ 0) e unlocked;
      other = λ same. (let t : nat_eq v key ≡ true = grind (arith, nat_tests) in false≢true (sym q.0 ∙ t));
      unnamed = q.1;
    }
  where
    live : (o : Option (ℕ × ℕ)) → place_of t v ≡ o → IsSome o → IsSome (entry_of t (numbered t v))
    live None f j = absurd (false≢true j)
    live (Some r) f j = live_numbered t v r.0 r.1 h f

-- where none may leave, and there is no room, all that must be there is too much
pub no_more : (s t : Shelf) (key : ℕ) (keep : List SegId) → IsShelf t → over (λ k. len_of (place_of t k)) (length t.entries) ≡ used t.places.ranges → t ≡ record s { keys = t.keys }
    → ((k : ℕ) → has t.keys k ≡ (nat_eq k key || named_in s.entries keep k)) → key < length s.entries → ((k : ℕ) → IsSome (place_of t k) → (entry t k).attr.lock ≡ 0 → IsKept t.keys k)
    → place_of s key ≡ None → s.places.size < used s.places.ranges + rounded (entry s key).size → s.places.size < all_wanted s key keep
no_more s t key keep h sum e any l kept none short =
    let q : nat_eq key key ≡ true = grind (arith, nat_tests) in
    let among : has t.keys key ≡ true = any key ∙ rw q refl in
    let out : place_of t key ≡ None = ap (λ (x : Shelf). place_of x key) e ∙ none in
    let m : length t.entries ≡ length s.entries = ap (λ (x : Shelf). length x.entries) e in
    let w = need_wanted s t.keys key keep any in
    let n = need_exceeds t t.keys key h (omega (arith, l, m)) among out kept sum in
    let a : used t.places.ranges ≡ used s.places.ranges = ap (λ (x : Shelf). used x.places.ranges) e in
    let b : rounded (entry t key).size ≡ rounded (entry s key).size = ap (λ (x : Shelf). rounded (entry x key).size) e in
    let d : all_need t.entries t.keys ≡ all_need s.entries t.keys = ap (λ (x : Shelf). all_need x.entries t.keys) e in
    omega (arith, w, n, a, b, d, short)

-- where no gap is long enough, none is free
pub none_free : (p : Layout) (len : ℕ) (o : Option ℕ) → o ≡ None → IsLowestFree p len o → (at : ℕ) → IsFree p.size p.ranges at len → ⊥
none_free p len None e low at f = low at f
none_free p len (Some x) e low at f = absurd cc

-- one comes to a gap, and no other moves
pub gap_failed : (s t u : Shelf) (k : ℕ) → t ≡ s → u ≡ record t { memory = u.memory } → place_of u k ≡ place_of s k
gap_failed s t u k e f = ap (λ (x : Shelf). place_of x k) f ∙ ap (λ (x : Shelf). place_of x k) e

pub gap_filled : (s t u v : Shelf) (key k : ℕ) (o : Option (ℕ × ℕ)) → t ≡ s → u ≡ record t { memory = u.memory } → Changes u.places v.places key o → k ≢ key → place_of v k ≡ place_of s k
gap_filled s t u v key k o e f c n = place-other u.places v.places key k o c n ∙ gap_failed s t u k e f

-- the names of segments stay with their numbers
has_same : (age : ℕ) (o p : Option Entry) → SameEntry o p → has_age p age ≡ has_age o age
has_same age None None q = refl
has_same age None (Some e) q = absurd (false≢true (sym q.live))
has_same age (Some e) None q = absurd (false≢true q.live)
has_same age (Some e) (Some f) q = ap (λ (a : ℕ). eqb a age) q.age

pub same_named : (s t : Shelf) (keep : List SegId) (k : ℕ) → SameTables s t → named_in t.entries keep k ≡ named_in s.entries keep k
same_named s t [] k q = refl
same_named s t (id ∷ ids) k q =
    ap (λ (b : Bool). (b && nat_eq k id.key) || named_in t.entries ids k) (has_same id.age (slot_at s.entries id.key) (slot_at t.entries id.key) (q.same id.key))
    ∙ ap (λ (b : Bool). (is_named s.entries id && nat_eq k id.key) || b) (same_named s t ids k q)

-- and so does what they ask for
pub same_wanted : (s t : Shelf) (key : ℕ) (keep : List SegId) → SameTables s t → all_wanted t key keep ≡ all_wanted s key keep
same_wanted s t key keep q =
    ap (λ (n : ℕ). over (wanted t key keep) n) q.count
    ∙ over-same (wanted t key keep) (wanted s key keep) (length s.entries)
    (λ k l. ap (λ (b : Bool). if ltb 0 (entry_or (slot_at t.entries k)).attr.lock || (nat_eq k key || b) then rounded (entry_or (slot_at t.entries k)).size else 0) (same_named s t keep k q)
    ∙ ap (λ (a : Attr). if ltb 0 a.lock || (nat_eq k key || named_in s.entries keep k) then rounded (entry_or (slot_at t.entries k)).size else 0) (q.same k).attr
    ∙ ap (λ (n : ℕ). if ltb 0 (entry_or (slot_at s.entries k)).attr.lock || (nat_eq k key || named_in s.entries keep k) then rounded n else 0) (q.same k).size)
