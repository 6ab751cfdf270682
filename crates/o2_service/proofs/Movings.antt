-- Segments leave, slide and come in one after the other, and descriptors follow.
use Rattle.std.proofs.Common.{◌≡◌, ◌≢◌, inl, inr, ℕ, ◌+◌, ◌<◌, ◌≤◌, List, length, drop, Option, Some, None, is_some, IsSome, IfSome, Bool, true, false, eqb, if◌then◌else◌, refl, sym, ap, ◌∙◌, subst, arith}
use Rattle.std.specs.Option.{IfNone}
use Rattle.std.proofs.lemmas.Bool.{cases_eq, false≢true}
use Rattle.o2_entries.specs.declared.Entry.{Entry}
use Rattle.o2_entries.specs.Tables.{slot_at}
use Rattle.o2_place.specs.declared.seg_id.SegId.{SegId}
use Rattle.o2_place.specs.Layout.{Layout, IsFree, IsLowestFree, find_in, len_of, over, used}
use Rattle.o2_regions.specs.Maps.{Maps}
use Rattle.o2_store.specs.Gaps.{IsGap}
use Rattle.o2_segbus.specs.Settled.{IsSettled}
use Rattle.o2_store.specs.Leaving.{MayLeave}
use Rattle.o2_store.specs.Loads.{live_load, swap_load}
use Rattle.o2_store.specs.Needs.{named_in}
use Rattle.o2_store.specs.Shelf.{Shelf, AreClean, IsMoved, IsShelf, KeepsAll, Pictures, SameTables, aged, base_of, entry, entry_of, entry_or, place_of, rounded}
use Rattle.o2_swapmap.specs.Piles.{all_of}
use Rattle.o2_store.proofs.Keeping.{keeps_trans, same_entry}
use Rattle.o2_store.proofs.Loads.{out_load}
use Rattle.o2_service.specs.Told.{AreToldBefore, AreToldBut, Follows, IsHeldWell}
use Rattle.o2_service.proofs.Placing.{only_refl, only_trans, told_all, told_still}

-- the clock's marks and the numbers of a call don't matter
pub keeps_chosen : (told : Bool) (pic : Pictures) (s t u : Shelf) (a b : ℕ → List ℕ) → t ≡ record s { turns = t.turns; keys = t.keys } → KeepsAll told pic t a u b → KeepsAll told pic s a u b
keeps_chosen told pic s t u a b e k =
    let r : KeepsAll told pic s a (record s { turns = t.turns; keys = t.keys }) a = record {
      bytes = λ w i j l. refl;
      tables = record { same = λ i. same_entry (slot_at s.entries i); count = refl; made = refl; size = refl };
    } in
    keeps_trans told pic s t u a a b (subst (λ (z : Shelf). KeepsAll told pic s a z a) (sym e) r) k

pub clean_chosen : (s t : Shelf) (pic : Pictures) → t ≡ record s { turns = t.turns; keys = t.keys } → AreClean s pic → AreClean t pic
clean_chosen s t pic e c =
    let r : AreClean (record s { turns = t.turns; keys = t.keys }) pic = record { bytes = c.bytes } in
    subst (λ (z : Shelf). AreClean z pic) (sym e) r

pub tables_chosen : (s t u : Shelf) → t ≡ record s { turns = t.turns; keys = t.keys } → SameTables t u → SameTables s u
tables_chosen s t u e q =
    let r : SameTables (record s { turns = t.turns; keys = t.keys }) u = subst (λ (z : Shelf). SameTables z u) e q in
    record { same = r.same; count = r.count; made = r.made; size = r.size }

pub place_chosen : (s t : Shelf) (k : ℕ) → t ≡ record s { turns = t.turns; keys = t.keys } → place_of t k ≡ place_of s k
place_chosen s t k e = ap (λ (z : Shelf). place_of z k) e

-- a segment that may leave isn't locked
pub may_evict : (s t : Shelf) (key : ℕ) (keep : List SegId) (out : SegId) → t ≡ record s { turns = t.turns; keys = t.keys } → MayLeave s key keep out → IfSome (entry_of t out) (λ e. e.attr.lock ≡ 0)
may_evict s t key keep out e m = subst (λ (z : Shelf). IfSome (entry_of z out) (λ x. x.attr.lock ≡ 0)) (sym e) (go out.age (slot_at s.entries out.key) m.unlocked)
  where
    go : (age : ℕ) (o : Option Entry) → (entry_or o).attr.lock ≡ 0 → IfSome (aged age o) (λ x. x.attr.lock ≡ 0)
    go age None l = tt
    go age (Some x) l = pick (eqb x.age age)
      where
        pick : (b : Bool) → IfSome (if b then Some x else None) (λ y. y.attr.lock ≡ 0)
        pick true = l
        pick false = tt

-- one leaves, and the others stay where they are
pub kept_leaving : (s t u : Shelf) (key : ℕ) (keep : List SegId) (out : SegId) → t ≡ record s { turns = t.turns; keys = t.keys } → MayLeave s key keep out → ((k : ℕ) → k ≢ out.key → place_of u k ≡ place_of t k)
    → (k : ℕ) → named_in s.entries keep k ≡ true → place_of u k ≡ place_of s k
kept_leaving s t u key keep out e m others k n =
    others k (λ same. false≢true (sym (subst (λ (x : ℕ). named_in s.entries keep x ≡ false) (sym same) m.unnamed) ∙ n)) ∙ place_chosen s t k e

pub none_leaving : (s t u : Shelf) (key : ℕ) (keep : List SegId) (out : SegId) → t ≡ record s { turns = t.turns; keys = t.keys } → MayLeave s key keep out → ((k : ℕ) → k ≢ out.key → place_of u k ≡ place_of t k)
    → (k : ℕ) → place_of s k ≡ None → place_of u k ≡ None
none_leaving s t u key keep out e m others k n = elim (cases_eq k out.key) [
  | inl same ↦ absurd (false≢true (sym (ap is_some (subst (λ (x : ℕ). place_of s x ≡ None) same n)) ∙ m.here))
  | inr other ↦ others k other ∙ place_chosen s t k e ∙ n
]

-- one out of memory isn't one that is there
pub out_other : (s : Shelf) (k out : ℕ) → place_of s k ≡ None → IsSome (place_of s out) → k ≢ out
out_other s k out n i same = false≢true (sym (ap is_some (subst (λ (x : ℕ). place_of s x ≡ None) same n)) ∙ i)

pub fewer_leaving : (s t u : Shelf) (key : ℕ) (keep : List SegId) (out : SegId) → t ≡ record s { turns = t.turns; keys = t.keys } → MayLeave s key keep out → (IsSome (place_of t out.key) → length u.places.ranges < length t.places.ranges)
    → length u.places.ranges < length s.places.ranges
fewer_leaving s t u key keep out e m f =
    let here : IsSome (place_of t out.key) = ap is_some (place_chosen s t out.key e) ∙ m.here in
    let n : length t.places.ranges ≡ length s.places.ranges = ap (λ (z : Shelf). length z.places.ranges) e in
    let l = f here in
    omega (arith, l, n)

-- where one has no room, all together may take more than there is
pub short_load : (s t : Shelf) (key : ℕ) → t ≡ record s { turns = t.turns; keys = t.keys } → IsShelf s → over (λ k. len_of (place_of s k)) (length s.entries) ≡ used s.places.ranges → place_of s key ≡ None
    → s.places.size < used s.places.ranges + rounded (entry s key).size → all_of t.swap < swap_load t → (all_of s.swap < swap_load s) × (s.places.size < live_load s)
short_load s t key e h sum none short l =
    let x : all_of s.swap < swap_load s = subst (λ (z : Shelf). all_of z.swap < swap_load z) e l in
    let y = out_load s key h sum none in
    (x, omega (arith, y, short))

-- descriptors follow where one segment alone has moved
pub told_but : (s t : Shelf) (key : ℕ) (m : Maps) → IsSettled s m → SameTables s t → ((k : ℕ) → k ≢ key → place_of t k ≡ place_of s k) → AreToldBut key t m
told_but s t key m a q others = told_still (λ k. k ≢ key) s t m a others (λ k. (q.same k).size)

pub told_before : (s t : Shelf) (front : ℕ) (m : Maps) → IsSettled s m → IsMoved s t → ((k : ℕ) → find_in (drop front t.places.ranges) k ≡ None → place_of t k ≡ place_of s k) → AreToldBefore front t m
told_before s t front m a q stay = told_still (λ k. find_in (drop front t.places.ranges) k ≡ None) s t m a stay (λ k. ap (λ (z : Shelf). (entry z k).size) q.shelf)

pub held_moved : (s t : Shelf) (m : Maps) → IsHeldWell s m → IsMoved s t → IsHeldWell t m
held_moved s t m w q = record { live = λ pid i h e. subst (λ (z : Shelf). IsSome (entry_of z h.id)) (sym q.shelf) (w.live pid i h e); inside = w.inside }

pub follows_refl : (s : Shelf) (m : Maps) → IsHeldWell s m → IsSettled s m → Follows m s m
follows_refl s m w a = record { maps = only_refl m; held = w; settled = a; unused = λ u. u }

pub follows_trans : (l m n : Maps) (s t : Shelf) → Follows l s m → Follows m t n → Follows l t n
follows_trans l m n s t p q = record { maps = only_trans l m n p.maps q.maps; held = q.held; settled = q.settled; unused = λ u. q.unused (p.unused u) }

-- a gap that is there
pub gap_there : (p : Layout) (len : ℕ) (o : Option ℕ) → IsLowestFree p len o → is_some o ≡ true → (at : ℕ) × IsFree p.size p.ranges at len
gap_there p len None l e = absurd (false≢true e)
gap_there p len (Some at) l e = (at, l.0)

-- where none is found, there is none
pub gap_never : (s : Shelf) (count : ℕ) (o : Option ℕ) → is_some o ≡ false → IfNone o ((start : ℕ) → IsGap s start count → ⊥) → (start : ℕ) → IsGap s start count → ⊥
gap_never s count None e f start g = f start g
gap_never s count (Some at) e f start g = false≢true (sym e)

presence_by : (s t : Shelf) (k : ℕ) → IsMoved s t → (o : Option (ℕ × ℕ)) → place_of s k ≡ o → is_some (place_of t k) ≡ is_some o
presence_by s t k q None e = ap is_some (q.none k e)
presence_by s t k q (Some r) e = ap is_some (q.some k r.0 r.1 e).1

pub same_presence : (s t : Shelf) (k : ℕ) → IsMoved s t → is_some (place_of t k) ≡ is_some (place_of s k)
same_presence s t k q = presence_by s t k q (place_of s k) refl

pub moved_room : (s t : Shelf) (key : ℕ) → IsMoved s t → used s.places.ranges + rounded (entry s key).size ≤ s.places.size → used t.places.ranges + rounded (entry t key).size ≤ t.places.size
moved_room s t key q l =
    let a : rounded (entry t key).size ≡ rounded (entry s key).size = ap (λ (z : Shelf). rounded (entry z key).size) q.shelf in
    omega (arith, a, l, q.size, q.load)

pub not_there : (o : Option (ℕ × ℕ)) → is_some o ≡ false → o ≡ None
not_there None e = refl
not_there (Some r) e = absurd (false≢true (sym e))

-- a live segment without an address is out of memory
pub base_none : (o : Option Entry) (p : Option (ℕ × ℕ)) → IsSome o → is_some (base_of o p) ≡ false → p ≡ None
base_none None p i e = absurd (false≢true i)
base_none (Some x) None i e = refl
base_none (Some x) (Some r) i e = absurd (false≢true (sym e))

-- one out of memory has no address
pub none_based : (o : Option Entry) (p : Option (ℕ × ℕ)) → p ≡ None → is_some (base_of o p) ≡ true → ⊥
none_based None p n e = false≢true e
none_based (Some x) None n e = false≢true e
none_based (Some x) (Some r) n e = false≢true (sym (ap is_some n))

-- a segment that may leave isn't stale
pub stale_never : (s t : Shelf) (out : SegId) → t ≡ record s { turns = t.turns; keys = t.keys } → IsSome (entry_of s out) → entry_of t out ≡ None → ⊥
stale_never s t out e i n = false≢true (sym (ap is_some (sym (ap (λ (z : Shelf). entry_of z out) e) ∙ n)) ∙ i)

-- the numbers of a call alone may change
pub held_keys : (s t : Shelf) (m : Maps) → t ≡ record s { keys = t.keys } → IsHeldWell s m → IsHeldWell t m
held_keys s t m e w = record { live = λ pid i h x. subst (λ (z : Shelf). IsSome (entry_of z h.id)) (sym e) (w.live pid i h x); inside = w.inside }

pub settled_keys : (s t : Shelf) (m : Maps) → t ≡ record s { keys = t.keys } → IsSettled s m → IsSettled t m
settled_keys s t m e a =
    told_all (λ k. k ≡ k) t m (told_still (λ k. k ≡ k) s t m a (λ k p. ap (λ (z : Shelf). place_of z k) e) (λ k. ap (λ (z : Shelf). (entry z k).size) e)) (λ k. refl)

pub follows_keys : (s t : Shelf) (m : Maps) → t ≡ record s { keys = t.keys } → IsHeldWell s m → IsSettled s m → Follows m t m
follows_keys s t m e w a = follows_refl t m (held_keys s t m e w) (settled_keys s t m e a)
