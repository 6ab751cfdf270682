-- What is held under a selector, as the rows read it.
use Rattle.std.proofs.Common.{◌≡◌, ℕ, ◌/◌, Option, Some, None, IsSome, Bool, true, false, cond, eqb, option_map, refl, sym, ap, ◌∙◌, subst}
use Rattle.o2_entries.specs.declared.Entry.{Entry}
use Rattle.o2_entries.specs.Tables.{slot_at}
use Rattle.o2_isa.specs.View.{is_local}
use Rattle.o2_regions.specs.declared.held.Held.{Held as HeldThere}
use Rattle.o2_regions.specs.Maps.{Maps, held_at}
use Rattle.o2_segbus.specs.Seen.{AreNamed}
use Rattle.o2_store.specs.Shelf.{Shelf, aged, entry, entry_of, entry_or}
use Rattle.o2_changes.proofs.Keys.{aged_has, key_has}
use Rattle.o2_world.specs.Rulings.{held_under}
use Rattle.o2_stands.specs.Knows.{Others, known_in, marks_under}
use Rattle.o2_stands.specs.Parts.{Parts, held_in, held_of}

abbrev pub under : Maps → ℕ → ℕ → Option HeldThere
under m pid s = cond (is_local s) (held_at m pid (s / 8)) None

-- the row's look-up of a selector
pub under_is : (p : Parts) (o : Others) (pid s : ℕ) → held_under (known_in p o) pid s ≡ option_map (held_of p.maps pid (s / 8)) (under p.maps pid s)
unfolding held_in
under_is p o pid s = go (is_local s)
  where
    go : (b : Bool) → cond b (option_map (held_of p.maps pid (s / 8)) (held_at p.maps pid (s / 8))) None ≡ option_map (held_of p.maps pid (s / 8)) (cond b (held_at p.maps pid (s / 8)) None)
    go true = refl
    go false = refl

pub under_held : (m : Maps) (pid s : ℕ) (h : HeldThere) → under m pid s ≡ Some h → (is_local s ≡ true) × (held_at m pid (s / 8) ≡ Some h)
under_held m pid s h e = go (is_local s) e
  where
    go : (b : Bool) → cond b (held_at m pid (s / 8)) None ≡ Some h → (b ≡ true) × (held_at m pid (s / 8) ≡ Some h)
    go true e = (refl, e)
    go false e = absurd (cc)

-- a held segment is live, with its marks
pub named_live : (s : Shelf) (m : Maps) → AreNamed s m → (pid i : ℕ) (h : HeldThere) → held_at m pid i ≡ Some h → IsSome (entry_of s h.id)
named_live s m named pid i h e = aged_has h.id.age (slot_at s.entries h.id.key) ∙ key_has s h.id.age h.id.key (named pid i h e)

pub entry_is : (s : Shelf) (age key : ℕ) → IsSome (aged age (slot_at s.entries key)) → aged age (slot_at s.entries key) ≡ Some (entry s key)
entry_is s age key live = go (slot_at s.entries key) live
  where
    go : (o : Option Entry) → IsSome (aged age o) → aged age o ≡ Some (entry_or o)
    go None l = absurd (let f : false ≡ true = l in cc)
    go (Some e) l = pick (eqb e.age age) l
      where
        pick : (b : Bool) → IsSome (cond b (Some e) None) → cond b (Some e) None ≡ Some e
        pick true l = refl
        pick false l = absurd (let f : false ≡ true = l in cc)

pub marks_are : (p : Parts) (o : Others) → AreNamed p.shelf p.maps → (pid i : ℕ) (h : HeldThere) → held_at p.maps pid i ≡ Some h → (known_in p o).segment h.id.age ≡ Some (marks_under p o h.id.age h.id.key)
marks_are p o named pid i h e = ap (option_map (marks_under p o h.id.age)) (named pid i h e)

-- the size of what is held
pub size_is : (s : Shelf) (m : Maps) → AreNamed s m → (pid i : ℕ) (h : HeldThere) (size : ℕ) → held_at m pid i ≡ Some h → option_map (λ (e : Entry). e.size) (entry_of s h.id) ≡ Some size → size ≡ (entry s h.id.key).size
size_is s m named pid i h size at e =
    let z : Some (entry s h.id.key).size ≡ Some size = sym (ap (option_map (λ (x : Entry). x.size)) (entry_is s h.id.age h.id.key (named_live s m named pid i h at))) ∙ e in
    let y : (entry s h.id.key).size ≡ size = cc in
    sym y

pub size_there : (s : Shelf) (m : Maps) → AreNamed s m → (pid i : ℕ) (h : HeldThere) → held_at m pid i ≡ Some h → ◌≡◌ {A = Option ℕ} (option_map (λ (e : Entry). e.size) (entry_of s h.id)) None → ⊥
size_there s m named pid i h at e =
    let z : ◌≡◌ {A = Option ℕ} (Some (entry s h.id.key).size) None = sym (ap (option_map (λ (x : Entry). x.size)) (entry_is s h.id.age h.id.key (named_live s m named pid i h at))) ∙ e in
    cc

pub named_in : (p : Parts) (s : Shelf) (m : Maps) → p.shelf ≡ s → p.maps ≡ m → AreNamed s m → AreNamed p.shelf p.maps
named_in p s m es em named = subst (λ (x : Shelf). AreNamed x p.maps) (sym es) (subst (AreNamed s) (sym em) named)
