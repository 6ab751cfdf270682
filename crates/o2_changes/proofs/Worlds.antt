-- A world behind a change of what one of its processes holds.
use Rattle.std.proofs.Common.{◌≡◌, ℕ, zero, suc, ◌-◌, ◌||◌, Bool, true, false, List, [], ◌∷◌, Option, Some, None, is_some, refl, sym, ap, ◌∙◌, arith}
use Rattle.std.specs.Cmp.{both_ways}
use Rattle.o2_regions.specs.declared.held.Held.{Held as HeldThere}
use Rattle.o2_regions.specs.Kept.{AreKept}
use Rattle.o2_regions.specs.Maps.{Maps, held_at as held_there, some_holds}
use Rattle.o2_regions.proofs.Reserves.{held_shared, holder_in, unheld_shared}
use Rattle.o2_world.specs.Map.{get}
use Rattle.o2_world.specs.World.{Held, Process}
use Rattle.o2_world.specs.Holders.{is_held}
use Rattle.o2_world.specs.Sound.{held_in}
use Rattle.o2_world.specs.Known.{held_at, holds_index}
use Rattle.o2_world.proofs.Holding.{held_by}
use Rattle.o2_world.proofs.Keeps.{held_found}
use Rattle.o2_stands.proofs.Puts.{held_suc}

-- A shared index is held by a process of the world where it is held by one of the maps.

index_holder : (ps : List Process) (j : ℕ) → holds_index ps j ≡ true → (n : ℕ) × (is_some (held_in ps n j) ≡ true)
index_holder [] j e = absurd (cc)
index_holder (p ∷ ps) j e = go (is_some (get p.held j)) refl e (index_holder ps j)
  where
    go : (b : Bool) → is_some (get p.held j) ≡ b → (b || holds_index ps j) ≡ true → (holds_index ps j ≡ true → (n : ℕ) × (is_some (held_in ps n j) ≡ true)) → (n : ℕ) × (is_some (held_in (p ∷ ps) n j) ≡ true)
    go true is e rest = (0, is)
    go false is e rest = (let r = rest e in (suc r.0, r.1))

holder_index : (ps : List Process) (j n : ℕ) → is_some (held_in ps n j) ≡ true → holds_index ps j ≡ true
holder_index [] j n e = absurd (cc)
holder_index (p ∷ ps) j zero e = ap (λ (b : Bool). b || holds_index ps j) e
holder_index (p ∷ ps) j (suc n) e = go (is_some (get p.held j)) (holder_index ps j n e)
  where
    go : (b : Bool) → holds_index ps j ≡ true → (b || holds_index ps j) ≡ true
    go true e = refl
    go false e = e

there_is : (o : Option HeldThere) → is_some o ≡ true → (h : HeldThere) × (o ≡ Some h)
there_is None e = absurd (cc)
there_is (Some h) e = (h, refl)

held_place : (ps : List Process) (n j : ℕ) → is_some (held_at ps n j) ≡ true → is_some (held_in ps (n - 1) j) ≡ true
held_place ps zero j e = absurd (cc)
held_place ps (suc n) j e =
    let s : suc n - 1 ≡ n = omega arith in
    ap (λ (k : ℕ). is_some (held_in ps k j)) s ∙ sym (ap is_some (held_suc ps n j)) ∙ e

pub index_held : (ps : List Process) (m : Maps) (j : ℕ) → AreKept m → ((n : ℕ) → is_some (held_at ps n j) ≡ is_some (held_there m n j)) → holds_index ps j ≡ some_holds m j m.processes
index_held ps m j k same = both_ways (holds_index ps j) (some_holds m j m.processes) to from
  where
    to : holds_index ps j ≡ true → some_holds m j m.processes ≡ true
    to e =
        let r = index_holder ps j e in
        let s : is_some (held_there m (suc r.0) j) ≡ true = sym (same (suc r.0)) ∙ ap is_some (held_suc ps r.0 j) ∙ r.1 in
        let h = there_is (held_there m (suc r.0) j) s in
        let p = holder_in m (suc r.0) j h.0 k h.1 in
        go (some_holds m j m.processes) refl (λ f. let z : false ≡ true = sym (unheld_shared m j m.processes (suc r.0) f p.0.0 p.0.1) ∙ s in absurd (cc))
      where
        go : (b : Bool) → some_holds m j m.processes ≡ b → (some_holds m j m.processes ≡ false → some_holds m j m.processes ≡ true) → some_holds m j m.processes ≡ true
        go true e f = e
        go false e f = f e

    from : some_holds m j m.processes ≡ true → holds_index ps j ≡ true
    from e = (let r = held_shared m j m.processes e in holder_index ps j (r.0 - 1) (held_place ps r.0 j (same r.0 ∙ r.1)))

-- A name that is held.

pub name_held : (ps : List Process) (n i : ℕ) (h : Held) → held_at ps n i ≡ Some h → is_held ps h.name ≡ true
name_held ps zero i h e = absurd (cc)
name_held ps (suc n) i h e = held_found ps n i h (sym (held_suc ps n i) ∙ e)

pub name_holder : (ps : List Process) (q : ℕ) → is_held ps q ≡ true → (n : ℕ) × (i : ℕ) × (h : Held) × (held_at ps n i ≡ Some h) × (h.name ≡ q)
name_holder ps q e = (let x = held_by q ps e in (suc x.place, x.index, x.hold, held_suc ps x.place x.index ∙ x.there, x.named))
