-- What single changes leave of the guards: no two live segments have one age, and what may be written isn't clean.
use Rattle.std.proofs.Common.{◌≡◌, ◌≢◌, ◌⊎◌, inl, inr, ℕ, List, Bool, Option, Some, None, is_some, IsSome, IfSome, true, false, refl, sym, ap, ◌∙◌, subst}
use Rattle.std.specs.Option.{IfNone}
use Rattle.o2_desc.specs.Bits.{is_writable, rights_of}
use Rattle.o2_entries.specs.declared.Attr.{Attr}
use Rattle.o2_entries.specs.declared.Entry.{Entry}
use Rattle.o2_entries.specs.Tables.{slot_at}
use Rattle.o2_image.specs.ImageList.{ImageList}
use Rattle.o2_place.specs.declared.seg_id.SegId.{SegId}
use Rattle.o2_regions.specs.declared.held.Held.{Held}
use Rattle.o2_regions.specs.Maps.{Maps, held_at, is_of}
use Rattle.o2_segbus.specs.Guards.{AreGuarded}
use Rattle.o2_segbus.proofs.Ages.{ages_added, ages_removed, ages_stay}
use Rattle.o2_service.specs.Told.{OnlyTables}
use Rattle.o2_service.proofs.Amounts.{slot_some}
use Rattle.o2_stands.proofs.Moves.{held_same}
use Rattle.o2_store.specs.declared.brought.Brought.{Brought}
use Rattle.o2_store.specs.declared.brought.Brought.TheVariants.{Here, NoRoom, SwapFull, SwapFault, Stale}
use Rattle.o2_store.specs.Pictures.{picture}
use Rattle.o2_store.specs.Shelf.{Shelf, Adds, HasAll, IsShelf, KeepsAll, Removes, SameTables, entry, entry_of, entry_or}
use Rattle.o2_store.specs.Sizes.{Resizes}
use Rattle.o2_store.proofs.Tables.{slot-set_other}
use Rattle.o2_changes.specs.Holding.{Grants, IsUnheld, Takes, TakesSome}
use Rattle.o2_changes.specs.Order.{IsGuarded, IsInOrder}
use Rattle.o2_changes.specs.Segments.{SetsLock}
use Rattle.o2_swapmap.specs.Piles.{all_of}
use Rattle.o2_changes.proofs.DropsStand.{dropped_guarded}
use Rattle.o2_changes.proofs.Freeing.{keys_apart}
use Rattle.o2_changes.proofs.HoldsStand.{granted_guarded}
use Rattle.o2_changes.proofs.LocksStand.{locked_aged, locked_entry}
use Rattle.o2_changes.proofs.SizesMatch.{each, sized_aged}
use Rattle.o2_changes.proofs.Taking.{takes_some}

-- where nobody holds more and no segment turns clean
pub still_guarded : (s t : Shelf) (m : Maps) → ((q j : ℕ) (h : Held) → held_at m q j ≡ Some h → (entry t h.id.key).attr.clean ≡ (entry s h.id.key).attr.clean) → AreGuarded s m → AreGuarded t m
still_guarded s t m same was q j h e writable = same q j h e ∙ was q j h e writable

-- the tables behind a settling
pub told_guarded : (s : Shelf) (m n : Maps) → OnlyTables m n → AreGuarded s m → AreGuarded s n
told_guarded s m n only was q j h e writable =
    was q j h (sym (held_same m n q j (ap (λ (x : Maps). x.held) only.rest)) ∙ e) (subst (λ (r : ℕ). is_writable r ≡ true) (only.rights q j) writable)

-- Each change.

pub made_guards : (s t : Shelf) (m : Maps) (id : SegId) (e : Entry) → IsShelf s → Adds s t id e → e.age ≡ s.made → IsInOrder s m → IsGuarded s m → IsGuarded t m
made_guards s t m id e shelf a age o g = record { aged = ages_added s t id e shelf a age g.aged; guarded = still_guarded s t m same g.guarded }
  where
    other : (q j : ℕ) (h : Held) → held_at m q j ≡ Some h → h.id.key ≢ id.key
    other q j h f same =
        let l = slot_some h.id.age (slot_at s.entries h.id.key) (o.held.live q j h f) in
        let z : false ≡ true = sym (ap is_some (ap (slot_at s.entries) same ∙ a.vacant)) ∙ l in
        cc

    same : (q j : ℕ) (h : Held) → held_at m q j ≡ Some h → (entry t h.id.key).attr.clean ≡ (entry s h.id.key).attr.clean
    same q j h f = ap (λ (x : Option Entry). (entry_or x).attr.clean) (ap (λ (x : Shelf). slot_at x.entries h.id.key) a.shelf ∙ slot-set_other s.entries id.key h.id.key (Some e) (other q j h f))

pub some_guards : (s t : Shelf) (m : Maps) (o : Option SegId) (e : Entry) (X : Type 0) → IsShelf s → e.age ≡ s.made → IfNone o (X × (t ≡ s)) → IfSome o (λ id. Adds s t id e) → IsInOrder s m → IsGuarded s m → IsGuarded t m
some_guards s t m None e X shelf age none adds order g = subst (λ (x : Shelf). IsGuarded x m) (sym none.1) g
some_guards s t m (Some id) e X shelf age none adds order g = made_guards s t m id e shelf adds age order g

pub locked_guards : (s t : Shelf) (m : Maps) (id : SegId) (lock : ℕ) → IsSome (entry_of s id) → SetsLock s t id lock → IsGuarded s m → IsGuarded t m
locked_guards s t m id lock live l g = record {
  aged = locked_aged s t id lock live l g.aged;
  guarded = still_guarded s t m (λ q j h e. ap (λ (x : Entry). x.attr.clean) (locked_entry s t id lock live l h.id.key)) g.guarded;
}

pub moved_guards : (s t : Shelf) (m n : Maps) → SameTables s t → OnlyTables m n → IsGuarded s m → IsGuarded t n
moved_guards s t m n same only g = record {
  aged = ages_stay s t same g.aged;
  guarded = told_guarded t m n only (still_guarded s t m (λ q j h e. ap (λ (a : Attr). a.clean) (same.same h.id.key).attr) g.guarded);
}

pub sized_guards : (s t : Shelf) (m n : Maps) (told : Bool) (images : ImageList) (before after : ℕ → List ℕ) (key size : ℕ) → Resizes told (picture images) s before t after key size → OnlyTables m n → IsGuarded s m → IsGuarded t n
sized_guards s t m n told images before after key size r only g = record {
  aged = sized_aged s t told images before after key size r g.aged;
  guarded = told_guarded t m n only (still_guarded s t m (λ q j h e. ap (λ (a : Attr). a.clean) (each s t told images before after key size r h.id.key).attr) g.guarded);
}

pub removed_guards : (s t : Shelf) (m : Maps) (id : SegId) → IsSome (entry_of s id) → IsUnheld m id → Removes s t id.key → IsInOrder s m → IsGuarded s m → IsGuarded t m
removed_guards s t m id live none r o g = record {
  aged = ages_removed s t id.key r g.aged;
  guarded = still_guarded s t m (λ q j h e. ap (λ (x : Option Entry). (entry_or x).attr.clean) (r.entries h.id.key (keys_apart s id h live (o.held.live q j h e) (sym (ap (is_of id) e) ∙ none q j)))) g.guarded;
}

pub granted_guards : (s : Shelf) (m n : Maps) (pid i access : ℕ) (h : Held) → Grants m n pid i h access → IfSome (held_at m pid i) (λ y. y.id ≡ h.id)
    → (is_writable (rights_of access) ≡ true → (entry s h.id.key).attr.clean ≡ false) → IsGuarded s m → IsGuarded s n
granted_guards s m n pid i access h g same guard was = record { aged = was.aged; guarded = granted_guarded s m n pid i access h g same guard was.guarded }

pub dropped_guards : (s : Shelf) (m n : Maps) (pid i : ℕ) → Takes m n pid i → IsGuarded s m → IsGuarded s n
dropped_guards s m n pid i d g = record { aged = g.aged; guarded = dropped_guarded s s m n pid i 1 (takes_some m n pid i d) (λ q j y e. refl) g.guarded }

pub lost_guards : (s : Shelf) (m n : Maps) (pid i count : ℕ) → TakesSome m n pid i count → IsGuarded s m → IsGuarded s n
lost_guards s m n pid i count d g = record { aged = g.aged; guarded = dropped_guarded s s m n pid i count d (λ q j y e. refl) g.guarded }

-- reserved indexes guard nothing
pub reserved_guards : (s : Shelf) (m n : Maps) → n ≡ record m { reserved = n.reserved } → IsGuarded s m → IsGuarded s n
reserved_guards s m n is g = subst (IsGuarded s) (sym is) (record { aged = g.aged; guarded = g.guarded })

-- Images that were there are there.

pub moved_pictures : (s t : Shelf) (has : ℕ → ℕ → Type 0) → SameTables s t → HasAll has s → HasAll has t
moved_pictures s t has same was k m n e = was k m n ((same.same k).image (m, n) e)

pub sized_pictures : (s t : Shelf) (has : ℕ → ℕ → Type 0) (told : Bool) (images : ImageList) (before after : ℕ → List ℕ) (key size : ℕ) → Resizes told (picture images) s before t after key size → HasAll has s → HasAll has t
sized_pictures s t has told images before after key size r was k m n e = was k m n ((each s t told images before after key size r k).image (m, n) e)

pub some_swap : (s t : Shelf) (o : Option SegId) (e : Entry) (X : Type 0) → IfNone o (X × (t ≡ s)) → IfSome o (λ id. Adds s t id e) → t.swap ≡ s.swap
some_swap s t None e X none adds = ap (λ (x : Shelf). x.swap) none.1
some_swap s t (Some id) e X none adds = ap (λ (x : Shelf). x.swap) adds.shelf

pub locked_swap : (s t : Shelf) (id : SegId) (lock : ℕ) → SetsLock s t id lock → all_of t.swap ≡ all_of s.swap
locked_swap s t id lock l = ap (λ (x : Shelf). all_of x.swap) l.shelf

-- a call that sizes, or only moves

resized_or : (answer : Brought) → (answer ≡ Here) ⊎ (answer ≡ Here → ⊥)
resized_or Here = inl refl
resized_or NoRoom = inr (λ e. cc)
resized_or SwapFull = inr (λ e. cc)
resized_or SwapFault = inr (λ e. cc)
resized_or Stale = inr (λ e. cc)

module _ (s t : Shelf) (told : Bool) (images : ImageList) (before after : ℕ → List ℕ) (key size : ℕ) (answer : Brought) (sized : answer ≡ Here → Resizes told (picture images) s before t after key size)
    (keeps : (answer ≡ Here → ⊥) → KeepsAll told (picture images) s before t after) where
  pub resized_guards_by : (m n : Maps) → OnlyTables m n → IsGuarded s m → IsGuarded t n
  resized_guards_by m n only g = elim (resized_or answer) [
    | inl here ↦ sized_guards s t m n told images before after key size (sized here) only g
    | inr other ↦ moved_guards s t m n (keeps other).tables only g
  ]

  pub resized_pictures_by : (has : ℕ → ℕ → Type 0) → HasAll has s → HasAll has t
  resized_pictures_by has was = elim (resized_or answer) [
    | inl here ↦ sized_pictures s t has told images before after key size (sized here) was
    | inr other ↦ moved_pictures s t has (keeps other).tables was
  ]
