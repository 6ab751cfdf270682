-- What each call keeps of a store and of the tables of one process.
use Rattle.std.proofs.Common.{◌≡◌, ◌≢◌, ℕ, zero, suc, ◌<◌, ◌≤◌, inl, inr, List, [], ◌∷◌, length, get_or, replicate, Option, Some, None, IfSome, true, false, sym, ap, ◌∙◌, subst, arith}
use Rattle.std.specs.Option.{IfNone}
use Rattle.std.proofs.lemmas.Bool.{cases_eq}
use Rattle.std.proofs.lemmas.List.{length-replicate}
use Rattle.o2_desc.specs.Bytes.{empty}
use Rattle.o2_entries.specs.declared.Entry.{Entry}
use Rattle.o2_entries.specs.declared.Attr.{Attr}
use Rattle.o2_entries.specs.Tables.{slot_at}
use Rattle.o2_image.specs.ImageList.{ImageList}
use Rattle.o2_place.specs.declared.seg_id.SegId.{SegId}
use Rattle.o2_regions.specs.declared.held.Held.{Held}
use Rattle.o2_regions.specs.Maps.{Maps, IsProcess, held_at, nothing, table_of}
use Rattle.o2_store.specs.Pictures.{HasPicture}
use Rattle.o2_store.specs.Shelf.{Shelf, IsShelf, SameTables, AreClean, Adds, HasAll, Pictures, entry, entry_or}
use Rattle.o2_store.proofs.Tables.{slot-set_other, slot-set_same}
use Rattle.o2_swapmap.specs.Piles.{all_of}
use Rattle.o2_segbus.specs.Frames.{KeepsMaps, KeepsStore}
use Rattle.o2_segbus.specs.Settled.{IsSettled}
use Rattle.o2_segbus.proofs.Ages.{ages_added, ages_stay, no_ages}
use Rattle.o2_service.specs.Told.{OnlyTables}
use Rattle.o2_service.proofs.Placing.{held_same}
use Rattle.o2_service.proofs.Unheld.{unheld_new, unheld_settled, unheld_well}
use Rattle.o2_changes.specs.Order.{IsInOrder}
use Rattle.o2_changes.proofs.Segmenting.{told_order}
use Rattle.test_bus_parts.specs.Trials.{IsTrial}

-- The beginning.

rows_long : (n m k : ℕ) → k < n → length (get_or (replicate n (replicate m empty)) k []) ≡ m
rows_long zero m k l = absurd (omega (arith, l))
rows_long (suc n) m zero l = length-replicate m empty
rows_long (suc n) m (suc k) l = rows_long n m k (omega (arith, l))

first_long : (n m k : ℕ) → 1 ≤ k → k ≤ n → length (get_or ([] ∷ replicate n (replicate m empty)) k []) ≡ m
first_long n m zero a b = absurd (omega (arith, a))
first_long n m (suc k) a b = rows_long n m k (omega (arith, b))

tables_long : (m : Maps) (n pid : ℕ) → m ≡ nothing n → IsProcess m pid → length (table_of m pid) ≡ 8192
unfolding nothing
tables_long m n pid e p =
    let q : m.processes ≡ n = ap (λ (z : Maps). z.processes) e in
    ap (λ (z : Maps). length (table_of z pid)) e ∙ first_long n 8192 pid p.0 (let l = p.1 in omega (arith, l, q))

none_some : (p : ℕ × ℕ) → ◌≡◌ {A = Option (ℕ × ℕ)} None (Some p) → ⊥
none_some p z = cc

pub begun : (s : Shelf) (m : Maps) (blocks b : ℕ) → ((k : ℕ) → slot_at s.entries k ≡ None) → all_of s.swap ≡ blocks → b ≡ blocks → m ≡ nothing 1 → m.processes ≡ 1 → ((pid i : ℕ) → held_at m pid i ≡ None) → IsTrial s m b
begun s m blocks b none a c e one unheld =
    let u = unheld_new m 1 e unheld in
    record {
      aged = no_ages s none;
      written = λ k. ap (λ (o : Option Entry). (entry_or o).attr.clean) (none k);
      own = λ k p i. none_some p (sym (ap (λ (o : Option Entry). (entry_or o).image) (none k)) ∙ i);
      order = record { held = unheld_well s m u; settled = unheld_settled s m u; tables = λ pid p. tables_long m 1 pid e p };
      device = omega (arith, a, c);
      process = (omega arith, omega (arith, one));
    }

-- What the calls of the store ask for.

pub no_pictures : (s : Shelf) (m : Maps) (b : ℕ) (images : ImageList) → IsTrial s m b → HasAll (HasPicture images) s
no_pictures s m b images h = λ k i seg e. absurd (h.own k (i, seg) e)

pub none_clean : (s : Shelf) (m : Maps) (b : ℕ) (pic : Pictures) → IsTrial s m b → AreClean s pic
none_clean s m b pic h = record { bytes = λ k at len j clean place l block. absurd (let f : true ≡ false = sym clean ∙ h.written k in cc) }

-- The calls.

pub added : (A : Type 0) (s t : Shelf) (m : Maps) (b : ℕ) (e : Entry) (o : Option SegId) → IsShelf s → IsTrial s m b → e.age ≡ s.made → e.attr.clean ≡ false → e.image ≡ None
    → IfNone o (A × (t ≡ s)) → IfSome o (λ id. Adds s t id e) → IsInOrder t m → IsTrial t m b
added A s t m b e None shelf h age clean image none a order = subst (λ (z : Shelf). IsTrial z m b) (sym none.1) h
added A s t m b e (Some id) shelf h age clean image none a order = record {
  aged = ages_added s t id e shelf a age h.aged;
  written = written;
  own = own;
  order = order;
  device = subst (λ (z : Shelf). all_of z.swap ≤ b) (sym a.shelf) h.device;
  process = h.process;
}
  where
    here : slot_at t.entries id.key ≡ Some e
    here = ap (λ (x : Shelf). slot_at x.entries id.key) a.shelf ∙ slot-set_same s.entries id.key (Some e) a.within

    there : (k : ℕ) → k ≢ id.key → slot_at t.entries k ≡ slot_at s.entries k
    there k n = ap (λ (x : Shelf). slot_at x.entries k) a.shelf ∙ slot-set_other s.entries id.key k (Some e) n

    written : (k : ℕ) → (entry t k).attr.clean ≡ false
    written k = elim (cases_eq k id.key) [
      | inl same ↦ ap (λ (j : ℕ). (entry t j).attr.clean) same ∙ ap (λ (o : Option Entry). (entry_or o).attr.clean) here ∙ clean
      | inr n ↦ ap (λ (o : Option Entry). (entry_or o).attr.clean) (there k n) ∙ h.written k
    ]

    own : (k : ℕ) (p : ℕ × ℕ) → (entry t k).image ≡ Some p → ⊥
    own k p i = elim (cases_eq k id.key) [
      | inl same ↦ none_some p (sym (ap (λ (j : ℕ). (entry t j).image) same ∙ ap (λ (o : Option Entry). (entry_or o).image) here ∙ image) ∙ i)
      | inr n ↦ h.own k p (sym (ap (λ (o : Option Entry). (entry_or o).image) (there k n)) ∙ i)
    ]

pub holds : (s : Shelf) (m n : Maps) (b : ℕ) → IsTrial s m b → n.processes ≡ m.processes → IsInOrder s n → IsTrial s n b
holds s m n b h e order = record {
  aged = h.aged;
  written = h.written;
  own = h.own;
  order = order;
  device = h.device;
  process = (h.process.0, (let l = h.process.1 in omega (arith, e, l)));
}

pub served : (s t : Shelf) (m n : Maps) (a b : ℕ) → IsTrial s m a → SameTables s t → OnlyTables m n → IsSettled t n → all_of t.swap ≡ all_of s.swap → b ≡ a → IsTrial t n b
served s t m n a b h w only settled map same = record {
  aged = ages_stay s t w h.aged;
  written = λ k. ap (λ (x : Attr). x.clean) (w.same k).attr ∙ h.written k;
  own = λ k p i. h.own k p ((w.same k).image p i);
  order = told_order t m n (held_same s t m h.order.held w) h.order.tables settled only;
  device = (let d = h.device in omega (arith, d, map, same));
  process = (h.process.0, (let e : n.processes ≡ m.processes = ap (λ (x : Maps). x.processes) only.rest in let l = h.process.1 in omega (arith, e, l)));
}

pub with_memory : (s t : Shelf) (x : List ℕ) (m : Maps) (b : ℕ) → IsTrial s m b → t ≡ record s { memory = x } → IsTrial t m b
with_memory s t x m b h e =
    let r : IsTrial (record s { memory = x }) m b = record {
      aged = h.aged;
      written = h.written;
      own = h.own;
      order = record { held = record { live = h.order.held.live; inside = h.order.held.inside }; settled = h.order.settled; tables = h.order.tables };
      device = h.device;
      process = h.process;
    } in
    subst (λ (z : Shelf). IsTrial z m b) (sym e) r

with_marks : (s : Shelf) (m n : Maps) (b : ℕ) → IsTrial s m b → KeepsMaps m n → IsSettled s n → IsTrial s n b
with_marks s m n b h k settled = record {
  aged = h.aged;
  written = h.written;
  own = h.own;
  order = record {
    held = record {
      live = λ pid i x e. h.order.held.live pid i x (sym (stays pid i) ∙ e);
      inside = λ pid i x e. (let l = k.lengths pid in let y = h.order.held.inside pid i x (sym (stays pid i) ∙ e) in omega (arith, l, y));
    };
    settled = settled;
    tables = λ pid p. k.lengths pid ∙ h.order.tables pid (p.0, (let l = p.1 in let e = k.processes in omega (arith, l, e)));
  };
  device = h.device;
  process = (h.process.0, (let e = k.processes in let l = h.process.1 in omega (arith, e, l)));
}
  where
    stays : (pid i : ℕ) → held_at n pid i ≡ held_at m pid i
    stays pid i = ap (λ (l : List (Option Held)). held_at (record m { held = l }) pid i) k.held

pub tried : (s t : Shelf) (m n : Maps) (b : ℕ) → IsTrial s m b → KeepsStore s t → KeepsMaps m n → IsSettled t n → IsTrial t n b
tried s t m n b h k l settled = with_marks t m n b (with_memory s t t.memory m b h k.store) l settled
