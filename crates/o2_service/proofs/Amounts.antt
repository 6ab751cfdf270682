-- What a list of needed segments takes, segment by segment.
use Rattle.std.proofs.Common.{◌≡◌, ◌≢◌, ℕ, ◌+◌, ◌<◌, ◌≤◌, List, [], ◌∷◌, ◌++◌, length, take, get_or, Option, Some, None, IsSome, Bool, false, ltb, eqb, ◌||◌, if◌then◌else◌, max, refl, ap, ◌∙◌, arith}
use Rattle.std.proofs.lemmas.Bool.Decides.{nat_tests}
use Rattle.std.proofs.lemmas.List.{take_more}
use Rattle.o2_entries.specs.declared.Entry.{Entry}
use Rattle.o2_entries.specs.Tables.{slot_at}
use Rattle.o2_place.specs.declared.seg_id.SegId.{SegId}
use Rattle.o2_store.specs.Shelf.{Shelf, aged, entry, entry_of, rounded}
use Rattle.o2_store.proofs.Tables.{over-change, le_over, within_at}
use Rattle.o2_service.specs.Needs.{needs, size_in, needed, all_needed}

-- a live segment's number is one of the store's
pub slot_some : (age : ℕ) (o : Option Entry) → IsSome (aged age o) → IsSome o
slot_some age None i = i
slot_some age (Some e) i = refl

pub live_within : (s : Shelf) (id : SegId) → IsSome (entry_of s id) → id.key < length s.entries
live_within s id i = within_at s.entries id.key (slot_some id.age (slot_at s.entries id.key) i)

-- one more segment matters to its own number alone
needs_other : (need : List (SegId × ℕ)) (p : SegId × ℕ) (k : ℕ) → k ≢ p.0.key → needs (need ++ p ∷ []) k ≡ needs need k
needs_other [] p k n = (let t : eqb k p.0.key ≡ false = grind (arith, nat_tests) in rw t refl)
needs_other (q ∷ qs) p k n = ap (λ (b : Bool). eqb k q.0.key || b) (needs_other qs p k n)

size_other : (need : List (SegId × ℕ)) (p : SegId × ℕ) (k : ℕ) → k ≢ p.0.key → size_in (need ++ p ∷ []) k ≡ size_in need k
size_other [] p k n = (let t : eqb k p.0.key ≡ false = grind (arith, nat_tests) in rw t refl)
size_other (q ∷ qs) p k n = ap (λ (x : ℕ). max (if eqb k q.0.key then q.1 else 0) x) (size_other qs p k n)

needed_other : (s : Shelf) (need : List (SegId × ℕ)) (p : SegId × ℕ) (k : ℕ) → k ≢ p.0.key → needed s (need ++ p ∷ []) k ≡ needed s need k
needed_other s need p k n =
    ap (λ (b : Bool). if ltb 0 (entry s k).attr.lock || b then rounded (max (entry s k).size (size_in (need ++ p ∷ []) k)) else 0) (needs_other need p k n)
    ∙ ap (λ (x : ℕ). if ltb 0 (entry s k).attr.lock || needs need k then rounded (max (entry s k).size x) else 0) (size_other need p k n)

-- one more needed segment
pub needed_more : (s : Shelf) (need : List (SegId × ℕ)) (k : ℕ) (d : SegId × ℕ) → k < length need → (get_or need k d).0.key < length s.entries
    → all_needed s (take (k + 1) need) + needed s (take k need) (get_or need k d).0.key ≡ all_needed s (take k need) + needed s (take (k + 1) need) (get_or need k d).0.key
needed_more s need k d l w =
    let p = get_or need k d in
    rw (take_more need k d l) (over-change (needed s (take k need)) (needed s (take k need ++ p ∷ [])) p.0.key (length s.entries) (λ j n. needed_other s (take k need) p j n) w)

pub needed_part : (s : Shelf) (need : List (SegId × ℕ)) (key : ℕ) → key < length s.entries → needed s need key ≤ all_needed s need
needed_part s need key w = le_over (needed s need) key (length s.entries) w
