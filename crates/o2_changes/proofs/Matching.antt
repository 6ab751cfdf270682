-- What changes of store and tables leave of the worlds that they match.
use Rattle.std.specs.Prelude.{IsTrue}
use Rattle.std.proofs.Common.{◌≡◌, ◌≢◌, ℕ, ◌<◌, ◌&&◌, ◌||◌, List, [], ◌∷◌, Option, Some, None, is_some, IsSome, IfSome, Bool, true, false, cond, eqb, refl, sym, ap, ◌∙◌, subst}
use Rattle.o2_desc.specs.Bits.{is_writable, rights_of}
use Rattle.o2_entries.specs.declared.Attr.{Attr}
use Rattle.o2_entries.specs.declared.Entry.{Entry}
use Rattle.o2_entries.specs.Tables.{slot_at}
use Rattle.o2_image.specs.ImageList.{ImageList}
use Rattle.o2_place.specs.declared.seg_id.SegId.{SegId}
use Rattle.o2_regions.specs.declared.held.Held.{Held as HeldThere}
use Rattle.o2_regions.specs.Kept.{AreKept}
use Rattle.o2_regions.specs.Maps.{Maps, IsProcess, held_at as held_there, is_held, is_reserved, is_taken, less_of, region_of, same_region}
use Rattle.o2_regions.proofs.Writes.{get_or-same}
use Rattle.o2_service.specs.Told.{OnlyTables}
use Rattle.o2_store.specs.Pictures.{picture}
use Rattle.o2_store.specs.Shelf.{Shelf, Adds, AreClean, IsShelf, KeepsAll, Pictures, byte_at, entry, entry_of, entry_or}
use Rattle.o2_store.proofs.Tables.{slot-set_same}
use Rattle.o2_swapmap.specs.Piles.{all_of}
use Rattle.o2_world.specs.World.{Process, Reserve, World}
use Rattle.o2_world.specs.Holders.{kept, process_at}
use Rattle.o2_world.specs.Changes.{Drops, Holds, Locks, Makes, with_all, with_change, with_changes}
use Rattle.o2_world.proofs.TiedChanges.{zeros_length}
use Rattle.o2_stands.specs.Moves.{moved}
use Rattle.o2_stands.specs.Parts.{Parts}
use Rattle.o2_stands.specs.Stands.{IsSegment, Matches, MatchesIn}
use Rattle.o2_changes.specs.Holding.{FreesIndex, Grants, Sweeps, Takes, TakesIndex, TakesSome}
use Rattle.o2_changes.specs.Order.{IsInOrder}
use Rattle.o2_changes.specs.Segments.{IsNewest, SetsLock}
use Rattle.o2_changes.specs.Worlds.{LosesOne, LosesSome, MatchesMake, held_as, lost, new_segment}
use Rattle.o2_changes.proofs.DropsStand.{drops_stand, taken_freed, taken_kept}
use Rattle.o2_changes.proofs.HoldsStand.{holds_stand, region_same}
use Rattle.o2_changes.proofs.LocksStand.{locks_match}
use Rattle.o2_changes.proofs.MakesStand.{made_clean, made_pictures, makes_match, new_newest, new_unheld, unmade_match}
use Rattle.o2_world.specs.Map.{get}
use Rattle.o2_world.specs.World.{Segment}
use Rattle.o2_store.specs.Shelf.{HasAll, Removes, aged}
use Rattle.std.specs.Option.{IfNone}
use Rattle.o2_changes.specs.Holding.{IsUnheld}
use Rattle.std.proofs.lemmas.Bool.{cond-true, eq-eqb}
use Rattle.o2_changes.proofs.MovesMatch.{moves_match}
use Rattle.o2_changes.proofs.SizesMatch.{sizes_match}
use Rattle.o2_store.specs.Sizes.{Resizes}
use Rattle.o2_world.specs.Changes.{Resizes as ResizesChange}
use Rattle.o2_changes.proofs.Taken.{held_apart}
use Rattle.o2_changes.proofs.Taking.{takes_some}

pub holds_match : (s : Shelf) (m n : Maps) (pid i access : ℕ) (h : HeldThere) → Grants m n pid i h access → 0 < h.holds → IfSome (held_there m pid i) (λ y. y.id ≡ h.id) → AreKept m → AreKept n → IsProcess m pid → TakesIndex m n pid i → IsInOrder s n
    → (p : Parts) (w : World) (x : Process) → p.shelf ≡ s → p.maps ≡ m → process_at w.processes pid ≡ Some x
    → (is_writable (rights_of access) ≡ true → (entry s h.id.key).attr.clean ≡ false) → Matches p w → Matches (record p { maps = n }) (with_change w (Holds pid i (held_as h access)))
holds_match s m n pid i access h g some same k kn there takes order p w x es em at guard q =
    holds_stand p w n pid i access h x (subst (λ (y : Maps). Grants y n pid i h access) (sym em) g) some (subst (λ (y : Maps). IfSome (held_there y pid i) (λ z. z.id ≡ h.id)) (sym em) same) at q
    (subst AreKept (sym em) k) kn (subst (λ (y : Maps). IsProcess y pid) (sym em) there) (subst (λ (y : Maps). TakesIndex y n pid i) (sym em) takes) (subst (λ (y : Shelf). IsInOrder y n) (sym es) order)
    (subst (λ (y : Shelf). is_writable (rights_of access) ≡ true → (entry y h.id.key).attr.clean ≡ false) (sym es) guard)

pub lock_matches : (s t : Shelf) (m : Maps) (id : SegId) (lock : ℕ) → IsSome (entry_of s id) → SetsLock s t id lock → IsInOrder t m
    → (p : Parts) (w : World) → p.shelf ≡ s → p.maps ≡ m → Matches p w → Matches (record p { shelf = t }) (with_change w (Locks id.age lock))
lock_matches s t m id lock live l order p w es em q =
    locks_match p w t id lock (subst (λ (y : Shelf). IsSome (entry_of y id)) (sym es) live) (subst (λ (y : Shelf). SetsLock y t id lock) (sym es) l) q (subst (IsInOrder t) (sym em) order)

-- one hold less, and then the index free
frees_behind : (m a n : Maps) (pid i : ℕ) → Takes m a pid i → a.reserved ≡ m.reserved → FreesIndex a n pid i → FreesIndex m n pid i
frees_behind m a n pid i t reserved f g j r from to =
    f g j (region_same a m g (sym t.processes) r) from to ∙ go (same_region g (region_of pid i) && eqb j i) refl
  where
    go : (hit : Bool) → (same_region g (region_of pid i) && eqb j i) ≡ hit → cond hit (is_held n g j) (is_taken a g j) ≡ cond hit (is_held n g j) (is_taken m g j)
    go true e = refl
    go false e =
        ap (λ (b : Bool). b || is_reserved a g j) (held_apart m a pid i t.processes (λ q k u. ap is_some (t.held q k ∙ ap (λ (b : Bool). cond b (less_of (held_there m pid i)) (held_there m q k)) u)) g j from to e)
        ∙ ap (λ (xs : List Bool). is_held m g j || is_reserved (record m { reserved = xs }) g j) reserved

takes_behind : (m a n : Maps) (pid i : ℕ) → Takes m a pid i → n ≡ record a { reserved = n.reserved } → Takes m n pid i
takes_behind m a n pid i t is = subst (λ (x : Maps). Takes m x pid i) (sym is) (record { processes = t.processes; held = t.held; rights = t.rights })

pub let_go_matches : (s t : Shelf) (m a n : Maps) (pid i : ℕ) (h : HeldThere) → held_there m pid i ≡ Some h → IsShelf s → AreKept m → AreKept n → Takes m a pid i → a.reserved ≡ m.reserved → FreesIndex a n pid i
    → n ≡ record a { reserved = n.reserved } → IsInOrder s n → IsInOrder t n → all_of t.swap ≡ all_of s.swap → Sweeps s t n h.id
    → (p : Parts) (w : World) (x : Process) → p.shelf ≡ s → p.maps ≡ m → process_at w.processes pid ≡ Some x → LosesOne w pid i → Matches p w → Matches (record p { shelf = t; maps = n }) (with_all w (Drops pid i 1 ∷ []))
unfolding with_changes
let_go_matches s t m a n pid i h there shelf k kn takes reserved frees is before order map sweeps p w x es em at loses q =
    let d : TakesSome p.maps n pid i 1 = takes_some p.maps n pid i (subst (λ (y : Maps). Takes y n pid i) (sym em) (takes_behind m a n pid i takes is)) in
    let at_first : held_there p.maps pid i ≡ Some h = ap (λ (y : Maps). held_there y pid i) em ∙ there in
    subst (λ (rs : List Reserve). MatchesIn (record p { shelf = t; maps = n }) (with_change w (Drops pid i 1)).processes (kept (with_change w (Drops pid i 1)).processes w.names) w.next_name rs) (sym loses.reserved)
    (drops_stand p w t n pid i 1 h x d at_first at q loses.named (subst IsShelf (sym es) shelf)
    (taken_freed p w t n pid i 1 h x d at_first at q loses.named (subst AreKept (sym em) k) kn (subst (λ (y : Maps). FreesIndex y n pid i) (sym em) (frees_behind m a n pid i takes reserved frees)) loses.free)
    (subst (λ (y : Shelf). IsInOrder y n) (sym es) before) order (map ∙ ap (λ (y : Shelf). all_of y.swap) (sym es)) (subst (λ (y : Shelf). Sweeps y t n h.id) (sym es) sweeps))

pub lose_matches : (s t : Shelf) (m n : Maps) (pid i count : ℕ) (h : HeldThere) → held_there m pid i ≡ Some h → IsShelf s → AreKept m → AreKept n → TakesSome m n pid i count → n.reserved ≡ m.reserved
    → IsInOrder s n → IsInOrder t n → all_of t.swap ≡ all_of s.swap → Sweeps s t n h.id
    → (p : Parts) (w : World) (x : Process) → p.shelf ≡ s → p.maps ≡ m → process_at w.processes pid ≡ Some x → LosesSome w pid i → Matches p w → Matches (record p { shelf = t; maps = n }) (lost w pid i count)
lose_matches s t m n pid i count h there shelf k kn takes reserved before order map sweeps p w x es em at loses q =
    let d : TakesSome p.maps n pid i count = subst (λ (y : Maps). TakesSome y n pid i count) (sym em) takes in
    let at_first : held_there p.maps pid i ≡ Some h = ap (λ (y : Maps). held_there y pid i) em ∙ there in
    drops_stand p w t n pid i count h x d at_first at q loses.named (subst IsShelf (sym es) shelf)
    (taken_kept p w t n pid i count h x d at_first at q loses.named (subst AreKept (sym em) k) kn (reserved ∙ ap (λ (y : Maps). y.reserved) (sym em)) loses.covered)
    (subst (λ (y : Shelf). IsInOrder y n) (sym es) before) order (map ∙ ap (λ (y : Shelf). all_of y.swap) (sym es)) (subst (λ (y : Shelf). Sweeps y t n h.id) (sym es) sweeps)

pub move_matches : (s t : Shelf) (m n : Maps) (images : ImageList) (told : Bool) (before after : ℕ → List ℕ) → KeepsAll told (picture images) s before t after → OnlyTables m n → AreClean t (picture images) → IsInOrder t n → all_of t.swap ≡ all_of s.swap
    → (p : Parts) (w : World) → p.shelf ≡ s → p.maps ≡ m → p.images ≡ images → p.block ≡ before → IsTrue told → Matches p w → Matches (moved p t n after) w
move_matches s t m n images told before after keeps only clean order all p w es em ei eb tells q =
    moves_match p w t n after told tells
    (subst (λ (i : ImageList). KeepsAll told (picture i) p.shelf p.block t after) (sym ei) (subst (λ (x : Shelf). KeepsAll told (picture images) x p.block t after) (sym es) (subst (λ (b : ℕ → List ℕ). KeepsAll told (picture images) s b t after) (sym eb) keeps)))
    (subst (λ (x : Maps). OnlyTables x n) (sym em) only) q (subst (λ (i : ImageList). AreClean t (picture i)) (sym ei) clean) order (all ∙ ap (λ (x : Shelf). all_of x.swap) (sym es))

made_is : (p : Parts) (t : Shelf) (key : ℕ) (e : Entry) (size flags : ℕ) (shared : Bool) → slot_at t.entries key ≡ Some e → e.size ≡ size → e.attr ≡ record { flags = flags; lock = 0; clean = false; shared = shared; gone = false }
    → ((j : ℕ) → byte_at t (picture p.images) p.block key j ≡ 0) → IsSegment (record p { shelf = t }) key (new_segment size flags shared)
made_is p t key e size flags shared slot sized attr zeros =
    let same : entry t key ≡ e = ap entry_or slot in
    record {
      size = zeros_length size ∙ sym (ap (λ (x : Entry). x.size) same ∙ sized);
      bytes = λ j low. get_or-same size j 0 ∙ sym (zeros j);
      clean = sym (ap (λ (x : Entry). x.attr.clean) same ∙ ap (λ (a : Attr). a.clean) attr);
      flags = sym (ap (λ (x : Entry). x.attr.flags) same ∙ ap (λ (a : Attr). a.flags) attr);
      lock = sym (ap (λ (x : Entry). x.attr.lock) same ∙ ap (λ (a : Attr). a.lock) attr);
      shared = sym (ap (λ (x : Entry). x.attr.shared) same ∙ ap (λ (a : Attr). a.shared) attr);
      discarded = sym (ap (λ (x : Entry). x.attr.gone) same ∙ ap (λ (a : Attr). a.gone) attr);
    }

make_matches : (s t : Shelf) (m : Maps) (id : SegId) (size flags : ℕ) (shared : Bool) → IsShelf s → Adds s t id (record { age = s.made; size = size; kept = 0; image = None; attr = record { flags = flags; lock = 0; clean = false; shared = shared; gone = false } }) → IsInOrder t m
    → ((pic : Pictures) (block : ℕ → List ℕ) (j : ℕ) → byte_at t pic block id.key j ≡ 0) → ((pic : Pictures) (block : ℕ → List ℕ) (k j : ℕ) → k ≢ id.key → byte_at t pic block k j ≡ byte_at s pic block k j)
    → (p : Parts) (w : World) → p.shelf ≡ s → p.maps ≡ m → Matches p w → Matches (record p { shelf = t }) (with_change w (Makes (new_segment size flags shared)))
make_matches s t m id size flags shared shelf adds order zeros others p w es em q =
    let e : Entry = record { age = s.made; size = size; kept = 0; image = None; attr = record { flags = flags; lock = 0; clean = false; shared = shared; gone = false } } in
    makes_match p w t id e (new_segment size flags shared) (subst IsShelf (sym es) shelf) (subst (λ (x : Shelf). Adds x t id e) (sym es) adds) (ap (λ (x : Shelf). x.made) (sym es)) q
    (λ block k j n. others (picture p.images) block k j n ∙ ap (λ (x : Shelf). byte_at x (picture p.images) block k j) (sym es)) refl (subst (IsInOrder t) (sym em) order)
    (made_is p t id.key e size flags shared (ap (λ (x : Shelf). slot_at x.entries id.key) adds.shelf ∙ slot-set_same s.entries id.key (Some e) adds.within) refl refl (zeros (picture p.images) p.block))

pub some_made : (s t : Shelf) (m : Maps) (o : Option SegId) (size flags : ℕ) (shared : Bool) → IsShelf s → IfSome o (λ id. Adds s t id (record { age = s.made; size = size; kept = 0; image = None; attr = record { flags = flags; lock = 0; clean = false; shared = shared; gone = false } }))
    → IsInOrder t m → IfSome o (λ id. (pic : Pictures) (block : ℕ → List ℕ) (j : ℕ) → byte_at t pic block id.key j ≡ 0)
    → IfSome o (λ id. (pic : Pictures) (block : ℕ → List ℕ) (k j : ℕ) → k ≢ id.key → byte_at t pic block k j ≡ byte_at s pic block k j)
    → IfSome o (λ id. MatchesMake s t m (new_segment size flags shared))
some_made s t m None size flags shared shelf adds order zeros others = tt
some_made s t m (Some id) size flags shared shelf adds order zeros others = record { world = make_matches s t m id size flags shared shelf adds order zeros others }

pub size_matches : (s t : Shelf) (m n : Maps) (images : ImageList) (told : Bool) (before after : ℕ → List ℕ) (id : SegId) (size : ℕ) → IsSome (entry_of s id) → Resizes told (picture images) s before t after id.key size → OnlyTables m n → AreClean t (picture images)
    → IsInOrder t n → all_of t.swap ≡ all_of s.swap
    → (p : Parts) (w : World) → p.shelf ≡ s → p.maps ≡ m → p.images ≡ images → p.block ≡ before → IsTrue told → Matches p w → Matches (moved p t n after) (with_change w (ResizesChange id.age size))
size_matches s t m n images told before after id size live r only clean order all p w es em ei eb tells q =
    sizes_match p w t n after told id size tells
    (subst (λ (i : ImageList). Resizes told (picture i) p.shelf p.block t after id.key size) (sym ei)
    (subst (λ (x : Shelf). Resizes told (picture images) x p.block t after id.key size) (sym es)
    (subst (λ (b : ℕ → List ℕ). Resizes told (picture images) s b t after id.key size) (sym eb) r)))
    (subst (λ (x : Maps). OnlyTables x n) (sym em) only) (subst (λ (x : Shelf). IsSome (entry_of x id)) (sym es) live) q (subst (λ (i : ImageList). AreClean t (picture i)) (sym ei) clean) order (all ∙ ap (λ (x : Shelf). all_of x.swap) (sym es))

pub unmake_matches : (s t : Shelf) (m : Maps) (id : SegId) → IsShelf s → IsSome (entry_of s id) → IsUnheld m id → Removes s t id.key → IsInOrder t m → all_of t.swap ≡ all_of s.swap
    → (p : Parts) (w : World) (sg : Segment) → p.shelf ≡ s → p.maps ≡ m → id.age ≡ w.next_name → get w.names w.next_name ≡ None
    → Matches p (with_change w (Makes sg)) → Matches (record p { shelf = record t { made = id.age } }) w
unmake_matches s t m id shelf live none r order map p w sg es em age absent q =
    subst (λ (k : ℕ). Matches (record p { shelf = record t { made = k } }) w) (sym age)
    (unmade_match p w sg t id (subst IsShelf (sym es) shelf) (subst (λ (x : Shelf). IsSome (entry_of x id)) (sym es) live)
    (subst (λ (x : Shelf). Removes x t id.key) (sym es) r) (subst (λ (x : Maps). IsUnheld x id) (sym em) none) age absent q
    (subst (IsInOrder t) (sym em) order) (map ∙ ap (λ (x : Shelf). all_of x.swap) (sym es)))

pub some_newest : (s t : Shelf) (o : Option SegId) (e : Entry) → IsShelf s → IfSome o (λ id. Adds s t id e) → IfSome o (λ id. IsNewest t id)
some_newest s t None e shelf adds = tt
some_newest s t (Some id) e shelf adds = new_newest s t id e shelf adds

pub some_unheld : (s t : Shelf) (m : Maps) (o : Option SegId) (e : Entry) → IfSome o (λ id. Adds s t id e) → IsInOrder s m → IfSome o (λ id. IsUnheld m id)
some_unheld s t m None e adds order = tt
some_unheld s t m (Some id) e adds order = new_unheld s t m id e adds order

pub some_live : (s t : Shelf) (o : Option SegId) (e : Entry) → e.age ≡ s.made → IfSome o (λ id. Adds s t id e) → IfSome o (λ id. IsSome (entry_of t id))
some_live s t None e age adds = tt
some_live s t (Some id) e age adds =
    let slot : slot_at t.entries id.key ≡ Some e = ap (λ (x : Shelf). slot_at x.entries id.key) adds.shelf ∙ slot-set_same s.entries id.key (Some e) adds.within in
    ap is_some (ap (aged id.age) slot ∙ cond-true (eqb e.age id.age) (Some e) None (eq-eqb e.age id.age (age ∙ sym adds.age)))

pub some_clean : (s t : Shelf) (o : Option SegId) (e : Entry) (X : Type 0) → IsShelf s → e.age ≡ s.made → IfNone o (X × (t ≡ s)) → IfSome o (λ id. Adds s t id e) → (pic : Pictures) → AreClean s pic → AreClean t pic
some_clean s t None e X shelf age none adds pic a = subst (λ (x : Shelf). AreClean x pic) (sym none.1) a
some_clean s t (Some id) e X shelf age none adds pic a = made_clean s t id e shelf adds age pic a

pub some_pictures : (s t : Shelf) (o : Option SegId) (e : Entry) (X : Type 0) → IsShelf s → e.age ≡ s.made → e.image ≡ None → IfNone o (X × (t ≡ s)) → IfSome o (λ id. Adds s t id e) → (has : ℕ → ℕ → Type 0) → HasAll has s → HasAll has t
some_pictures s t None e X shelf age blank none adds has a = subst (λ (x : Shelf). HasAll has x) (sym none.1) a
some_pictures s t (Some id) e X shelf age blank none adds has a = made_pictures s t id e shelf adds age has blank a
