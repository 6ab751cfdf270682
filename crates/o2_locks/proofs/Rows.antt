-- What the rows of locks come to.
use Rattle.std.proofs.Common.{◌≡◌, ◌≢◌, ℕ, ◌+◌, ◌-◌, ◌≤◌, ◌/◌, ◌<◌, arith, min, Some, None, Bool, true, false, cond, eqb, nat_lt, option_map, List, [], ◌∷◌, refl, sym, ap, ◌∙◌, subst}
use Rattle.std.proofs.lemmas.Bool.{cond-true, cond-false, ne_eqb, eq-eqb}
use Rattle.o2_desc.specs.Bits.{has_bit}
use Rattle.o2_entries.specs.declared.Attr.{Attr}
use Rattle.o2_regions.specs.declared.held.Held.{Held as HeldThere}
use Rattle.o2_regions.specs.Maps.{Maps}
use Rattle.o2_segbus.specs.Seen.{AreNamed}
use Rattle.o2_store.specs.Shelf.{IsShelf, Shelf, entry}
use Rattle.o2_segs.proofs.Discarded.{gone_is}
use Rattle.o2_place.specs.declared.seg_id.SegId.{SegId}
use Rattle.o2_stands.specs.Stands.{Matches}
use Rattle.o2_world.specs.World.{World}
use Rattle.o2_world.specs.Changes.{Locks, with_all, with_change, with_changes}
use Rattle.o2_stands.specs.Moves.{moved}
use Rattle.o2_world.specs.Known.{Marks}
use Rattle.o2_world.specs.Rulings.{Ruling, grants, locking, locking_of, locking_with, refusal, unlocking, unlocking_of, unlocking_with}
use Rattle.o2_stands.specs.Knows.{Others, known_in, marks_under}
use Rattle.o2_stands.specs.Parts.{Parts, held_of}
use Rattle.o2_segs.proofs.Selecting.{marks_are, under, under_held, under_is}
use Rattle.o2_locks.specs.Marked.{IsMarked}

-- where nothing is held
pub unlock_none : (p : Parts) (o : Others) (pid s : ℕ) → under p.maps pid s ≡ None → unlocking (known_in p o) pid s ≡ refusal 5
unlock_none p o pid s e = ap (unlocking_of (known_in p o)) (under_is p o pid s ∙ ap (option_map (held_of p.maps pid (s / 8))) e)

pub lock_none : (p : Parts) (o : Others) (pid s : ℕ) → under p.maps pid s ≡ None → locking (known_in p o) pid s ≡ refusal 5
lock_none p o pid s e = ap (locking_of (known_in p o)) (under_is p o pid s ∙ ap (option_map (held_of p.maps pid (s / 8))) e)

-- where a segment is
pub unlock_some : (p : Parts) (o : Others) (pid s : ℕ) (h : HeldThere) → AreNamed p.shelf p.maps → under p.maps pid s ≡ Some h → unlocking (known_in p o) pid s ≡ unlocking_with h.id.age (Some (marks_under p o h.id.age h.id.key))
unlock_some p o pid s h named e =
    ap (unlocking_of (known_in p o)) (under_is p o pid s ∙ ap (option_map (held_of p.maps pid (s / 8))) e)
    ∙ ap (unlocking_with h.id.age) (marks_are p o named pid (s / 8) h (under_held p.maps pid s h e).1)

pub lock_some : (p : Parts) (o : Others) (pid s : ℕ) (h : HeldThere) → AreNamed p.shelf p.maps → under p.maps pid s ≡ Some h → locking (known_in p o) pid s ≡ locking_with h.id.age (Some (marks_under p o h.id.age h.id.key))
lock_some p o pid s h named e =
    ap (locking_of (known_in p o)) (under_is p o pid s ∙ ap (option_map (held_of p.maps pid (s / 8))) e)
    ∙ ap (locking_with h.id.age) (marks_are p o named pid (s / 8) h (under_held p.maps pid s h e).1)

pub marked : (p : Parts) (o : Others) (s : Shelf) (n k : ℕ) → p.shelf ≡ s → IsMarked (entry s k).attr (marks_under p o n k)
marked p o s n k es = subst (λ (x : Shelf). IsMarked (entry x k).attr (marks_under p o n k)) es (record { flags = refl; lock = refl; discarded = refl })

-- by flags and lock count
pub unlock_plain : (name : ℕ) (a : Attr) (m : Marks) → IsMarked a m → has_bit a.flags 2 ≡ false → unlocking_with name (Some m) ≡ refusal 5
unlock_plain name a m is e =
    cond-false (has_bit m.flags 2) (cond (eqb m.lock 0) (refusal 158) (grants 0 (Locks name (cond (nat_lt m.lock 255) (m.lock - 1) m.lock) ∷ []))) (refusal 5) (ap (λ (f : ℕ). has_bit f 2) is.flags ∙ e)

pub unlock_open : (name : ℕ) (a : Attr) (m : Marks) → IsMarked a m → has_bit a.flags 2 ≡ true → a.lock ≡ 0 → unlocking_with name (Some m) ≡ refusal 158
unlock_open name a m is e z =
    cond-true (has_bit m.flags 2) (cond (eqb m.lock 0) (refusal 158) (grants 0 (Locks name (cond (nat_lt m.lock 255) (m.lock - 1) m.lock) ∷ []))) (refusal 5) (ap (λ (f : ℕ). has_bit f 2) is.flags ∙ e)
    ∙ cond-true (eqb m.lock 0) (refusal 158) (grants 0 (Locks name (cond (nat_lt m.lock 255) (m.lock - 1) m.lock) ∷ [])) (eq-eqb m.lock 0 (is.lock ∙ z))

pub unlock_done : (name : ℕ) (a : Attr) (m : Marks) → IsMarked a m → has_bit a.flags 2 ≡ true → a.lock ≢ 0 → unlocking_with name (Some m) ≡ grants 0 (Locks name (cond (nat_lt a.lock 255) (a.lock - 1) a.lock) ∷ [])
unlock_done name a m is e n =
    cond-true (has_bit m.flags 2) (cond (eqb m.lock 0) (refusal 158) (grants 0 (Locks name (cond (nat_lt m.lock 255) (m.lock - 1) m.lock) ∷ []))) (refusal 5) (ap (λ (f : ℕ). has_bit f 2) is.flags ∙ e)
    ∙ cond-false (eqb m.lock 0) (refusal 158) (grants 0 (Locks name (cond (nat_lt m.lock 255) (m.lock - 1) m.lock) ∷ [])) (ne_eqb m.lock 0 (λ z. n (sym is.lock ∙ z)))
    ∙ ap (λ (l : ℕ). grants 0 (Locks name (cond (nat_lt l 255) (l - 1) l) ∷ [])) is.lock

pub lock_plain : (name : ℕ) (a : Attr) (m : Marks) → IsMarked a m → has_bit a.flags 2 ≡ false → locking_with name (Some m) ≡ refusal 5
lock_plain name a m is e =
    cond-false (has_bit m.flags 2) (cond m.discarded (refusal 157) (grants 0 (Locks name (min (m.lock + 1) 255) ∷ []))) (refusal 5) (ap (λ (f : ℕ). has_bit f 2) is.flags ∙ e)

pub lock_gone : (name : ℕ) (a : Attr) (m : Marks) → IsMarked a m → has_bit a.flags 2 ≡ true → a.gone ≡ true → locking_with name (Some m) ≡ refusal 157
lock_gone name a m is e gone =
    cond-true (has_bit m.flags 2) (cond m.discarded (refusal 157) (grants 0 (Locks name (min (m.lock + 1) 255) ∷ []))) (refusal 5) (ap (λ (f : ℕ). has_bit f 2) is.flags ∙ e)
    ∙ cond-true m.discarded (refusal 157) (grants 0 (Locks name (min (m.lock + 1) 255) ∷ [])) (is.discarded ∙ gone)

pub lock_done : (name : ℕ) (a : Attr) (m : Marks) → IsMarked a m → has_bit a.flags 2 ≡ true → a.gone ≡ false → locking_with name (Some m) ≡ grants 0 (Locks name (min (a.lock + 1) 255) ∷ [])
lock_done name a m is e whole =
    cond-true (has_bit m.flags 2) (cond m.discarded (refusal 157) (grants 0 (Locks name (min (m.lock + 1) 255) ∷ []))) (refusal 5) (ap (λ (f : ℕ). has_bit f 2) is.flags ∙ e)
    ∙ cond-false m.discarded (refusal 157) (grants 0 (Locks name (min (m.lock + 1) 255) ∷ [])) (is.discarded ∙ whole)
    ∙ ap (λ (l : ℕ). grants 0 (Locks name (min (l + 1) 255) ∷ [])) is.lock

pub none_less : (n : ℕ) → n ≤ 0 → n ≡ 0
none_less n low = omega (arith, low)

pub positive : (n : ℕ) → n ≢ 0 → 0 < n
positive n other = omega (arith, other)

-- a lock as the change of a row
pub done_matches : (p : Parts) (w : World) (t : Shelf) (id : SegId) (n m : ℕ) {r : Ruling} → r ≡ grants 0 (Locks id.age n ∷ []) → m ≡ n → Matches (record p { shelf = t }) (with_change w (Locks id.age m)) → Matches (record p { shelf = t }) (with_all w r.changes)
unfolding with_changes
done_matches p w t id n m e same q =
    subst (λ (x : Ruling). Matches (record p { shelf = t }) (with_all w x.changes)) (sym e) (subst (λ (x : ℕ). Matches (record p { shelf = t }) (with_change w (Locks id.age x))) same q)

-- the same where segments have come and gone
pub locked_matches : (p : Parts) (w : World) (t : Shelf) (n : Maps) (block : ℕ → List ℕ) (id : SegId) (lock m : ℕ) (r : Ruling) → r
    ≡ grants 0 (Locks id.age lock ∷ []) → m ≡ lock → Matches (moved p t n block) (with_change w (Locks id.age m))
    → Matches (moved p t n block) (with_all w r.changes)
unfolding with_changes
locked_matches p w t n block id lock m r e same q =
    subst (λ (x : Ruling). Matches (moved p t n block) (with_all w x.changes)) (sym e) (subst (λ (x : ℕ). Matches (moved p t n block) (with_change w (Locks id.age x))) same q)

-- what is locked isn't discarded
pub locked_whole : (s : Shelf) (key : ℕ) → IsShelf s → 0 < (entry s key).attr.lock → (entry s key).attr.gone ≡ false
locked_whole s key h some = go (entry s key).attr.gone refl
  where
    go : (b : Bool) → (entry s key).attr.gone ≡ b → b ≡ false
    go false e = refl
    go true e = absurd (let none = (gone_is s key h e).kind.unlocked in omega (arith, some, none))
