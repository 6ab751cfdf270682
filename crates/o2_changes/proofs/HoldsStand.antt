-- What a machine stands for behind a hold more.
use Rattle.std.proofs.Common.{◌≡◌, ℕ, ◌+◌, ◌<◌, ◌≤◌, ◌&&◌, ◌||◌, List, Option, Some, None, is_some, IsSome, IfSome, Bool, true, false, cond, eqb, if◌then◌else◌, ◌==◌, option_map, refl, sym, ap, ◌∙◌, subst, arith}
use Rattle.std.specs.List.{list_any}
use Rattle.std.proofs.lemmas.Bool.{cond-true, cond-false, eq-eqb, ne_eqb}
use Rattle.o2_desc.specs.Bits.{is_writable, rights_of}
use Rattle.o2_regions.specs.declared.held.Held.{Held as HeldThere}
use Rattle.o2_regions.specs.declared.held.Region.{Region}
use Rattle.o2_regions.specs.declared.held.Region.TheVariants.{Private, Shared}
use Rattle.o2_regions.specs.Kept.{AreKept}
use Rattle.o2_regions.specs.Maps.{Maps, IsProcess, IsRegion, held_at as held_there, is_held, is_taken, more_of, region_of, same_region}
use Rattle.o2_segbus.specs.Guards.{AreGuarded}
use Rattle.o2_segbus.specs.Seen.{key_of}
use Rattle.o2_segbus.proofs.Ages.{named_by_age}
use Rattle.o2_store.specs.Shelf.{Shelf, entry}
use Rattle.o2_world.specs.World.{Process, Reserve, World}
use Rattle.o2_world.specs.Map.{get}
use Rattle.o2_world.specs.Holders.{process_at}
use Rattle.o2_world.specs.Known.{held_at, holds_index, reserves}
use Rattle.o2_world.specs.Changes.{Holds, more, with_change}
use Rattle.o2_stands.specs.Parts.{Parts, held_in, held_of, running_of}
use Rattle.o2_stands.specs.Stands.{IsIndex, Matches, number_of, taken_by}
use Rattle.o2_changes.specs.Holding.{Grants, TakesIndex, rights_at}
use Rattle.o2_changes.specs.Order.{IsInOrder}
use Rattle.o2_changes.specs.Worlds.{held_as}
use Rattle.o2_changes.proofs.Named.{named_maps}
use Rattle.o2_changes.proofs.Settling.{Here, Other, pair_is}
use Rattle.o2_changes.proofs.Taken.{held_apart, held_region, pair_hit}
use Rattle.o2_stands.proofs.Puts.{held_put, number_kept, put_at}
use Rattle.o2_changes.proofs.Worlds.{index_held}

mapped : (m : Maps) (q j : ℕ) → is_some (held_in m q j) ≡ is_some (held_there m q j)
unfolding held_in
mapped m q j = go (held_there m q j)
  where
    go : (o : Option HeldThere) → is_some (option_map (held_of m q j) o) ≡ is_some o
    go None = refl
    go (Some h) = refl

-- an index that is held is held by a process of the world
pub world_holds : (m : Maps) (ps : List Process) (g : Region) (j : ℕ) → AreKept m → IsRegion m g → ((n i : ℕ) → held_at ps n i ≡ held_in m n i)
    → (if number_of g == 0 then holds_index ps j else is_some (held_at ps (number_of g) j)) ≡ is_held m g j
world_holds m ps (Private q) j k r same =
    cond-false (eqb q 0) (holds_index ps j) (is_some (held_at ps q j)) (ne_eqb q 0 (omega (arith, r.0))) ∙ ap is_some (same q j) ∙ mapped m q j
world_holds m ps Shared j k r same = index_held ps m j k (λ n. ap is_some (same n j) ∙ mapped m n j)

-- an index is taken in the world where it is held there or reserved
pub world_taken : (m : Maps) (ps : List Process) (rs : List Reserve) (g : Region) (j : ℕ) → AreKept m → IsRegion m g → ((n i : ℕ) → held_at ps n i ≡ held_in m n i)
    → taken_by ps rs (number_of g) j ≡ (is_held m g j || list_any (reserves (number_of g) j) rs)
world_taken m ps rs g j k r same = ap (λ (b : Bool). b || list_any (reserves (number_of g) j) rs) (world_holds m ps g j k r same)

pub region_same : (m n : Maps) (g : Region) → n.processes ≡ m.processes → IsRegion n g → IsRegion m g
region_same m n (Private q) e r = subst (λ (c : ℕ). (1 ≤ q) × (q ≤ c)) e r
region_same m n Shared e r = r

-- holds look at name, rights, cause and run
pub held_of_same : (m n : Maps) (q j : ℕ) (o : Option HeldThere) → (IsSome o → rights_at n q j ≡ rights_at m q j) → option_map (held_of n q j) o ≡ option_map (held_of m q j) o
held_of_same m n q j None e = refl
held_of_same m n q j (Some h) e = ap (λ (r : ℕ). Some (record (held_of m q j h) { rights = r })) (e refl)

-- more is held there
more_here : (m n : Maps) (pid i access : ℕ) (h : HeldThere) (o : Option HeldThere) → 0 < h.holds → (o ≡ None → rights_at n pid i ≡ rights_of access) → (IsSome o → rights_at n pid i ≡ rights_at m pid i)
    → more (held_as h access) (option_map (held_of m pid i) o) ≡ option_map (held_of n pid i) (more_of o h)
more_here m n pid i access h None some new old =
    ap (λ (r : ℕ). Some (record (held_as h access) { rights = r })) (sym (new refl))
    ∙ sym (ap (option_map (held_of n pid i)) (cond-false (eqb h.holds 0) None (Some h) (ne_eqb h.holds 0 (omega arith))))
more_here m n pid i access h (Some was) some new old = ap (λ (r : ℕ). Some (record (held_of m pid i was) { rights = r; holds = was.holds + h.holds })) (sym (old refl))

more_some : (o : Option HeldThere) (h : HeldThere) → 0 < h.holds → is_some (more_of o h) ≡ true
more_some None h some = ap is_some (cond-false (eqb h.holds 0) None (Some h) (ne_eqb h.holds 0 (omega arith)))
more_some (Some was) h some = refl

-- what may be written isn't clean
pub granted_guarded : (s : Shelf) (m n : Maps) (pid i access : ℕ) (h : HeldThere) → Grants m n pid i h access → IfSome (held_there m pid i) (λ y. y.id ≡ h.id)
    → (is_writable (rights_of access) ≡ true → (entry s h.id.key).attr.clean ≡ false) → AreGuarded s m → AreGuarded s n
granted_guarded s m n pid i access h g same guard was q j y e writable = elim (pair_is q j pid i) [
  | Other _ t ↦ (let z : held_there m q j ≡ Some y = sym (g.held q j ∙ cond-false (eqb q pid && eqb j i) (more_of (held_there m pid i) h) (held_there m q j) t) ∙ e in
      was q j y z (ap is_writable (sym (g.rights q j (ap is_some z))) ∙ writable))
  | Here a b t ↦ (let z : more_of (held_there m pid i) h ≡ Some y = sym (g.held q j ∙ cond-true (eqb q pid && eqb j i) (more_of (held_there m pid i) h) (held_there m q j) t) ∙ e in
      let wr : is_writable (rights_at n pid i) ≡ true = sym (ap (λ (c : ℕ). is_writable (rights_at n c j)) a ∙ ap (λ (c : ℕ). is_writable (rights_at n pid c)) b) ∙ writable in
      here (held_there m pid i) refl same y z wr)
]
  where
    here : (o : Option HeldThere) → held_there m pid i ≡ o → IfSome o (λ y. y.id ≡ h.id) → (y : HeldThere) → more_of o h ≡ Some y → is_writable (rights_at n pid i) ≡ true → (entry s y.id.key).attr.clean ≡ false
    here None none u y z wr = new (eqb h.holds 0) z
      where
        new : (b : Bool) → cond b None (Some h) ≡ Some y → (entry s y.id.key).attr.clean ≡ false
        new true z = absurd (cc)
        new false z = (let v : h ≡ y = cc in subst (λ (u : HeldThere). (entry s u.id.key).attr.clean ≡ false) v (guard (ap is_writable (sym (g.here none)) ∙ wr)))
    here (Some old) is u y z wr =
        let v : record old { holds = old.holds + h.holds } ≡ y = cc in
        subst (λ (u : HeldThere). (entry s u.id.key).attr.clean ≡ false) v
        (was pid i old is (ap is_writable (sym (g.rights pid i (ap is_some is))) ∙ wr))

module _ (p : Parts) (w : World) (n : Maps) (pid i access : ℕ) (h : HeldThere) (x : Process) (g : Grants p.maps n pid i h access)
    (some : 0 < h.holds) (same : IfSome (held_there p.maps pid i) (λ y. y.id ≡ h.id)) (at : process_at w.processes pid ≡ Some x)
    (stands : Matches p w) where
  after : World
  after = with_change w (Holds pid i (held_as h access))

  held_now : (q j : ℕ) → held_at (with_change w (Holds pid i (held_as h access))).processes q j ≡ held_in n q j
  unfolding held_in
  held_now q j = held_put w.processes pid q i j (more (held_as h access)) x at ∙ elim (pair_is q j pid i) [
    | Here e f t ↦ cond-true (eqb q pid && eqb j i) (more (held_as h access) (held_at w.processes pid i)) (held_at w.processes q j) t
        ∙ ap (more (held_as h access)) (stands.held pid i)
        ∙ more_here p.maps n pid i access h (held_there p.maps pid i) some g.here (g.rights pid i)
        ∙ sym (ap (λ (y : ℕ). option_map (held_of n y j) (held_there n q j)) e ∙ ap (λ (y : ℕ). option_map (held_of n pid y) (held_there n q j)) f
        ∙ ap (option_map (held_of n pid i)) (g.held q j ∙ cond-true (eqb q pid && eqb j i) (more_of (held_there p.maps pid i) h) (held_there p.maps q j) t))
    | Other _ t ↦ cond-false (eqb q pid && eqb j i) (more (held_as h access) (held_at w.processes pid i)) (held_at w.processes q j) t
        ∙ stands.held q j
        ∙ sym (ap (option_map (held_of n q j)) (g.held q j ∙ cond-false (eqb q pid && eqb j i) (more_of (held_there p.maps pid i) h) (held_there p.maps q j) t)
        ∙ held_of_same p.maps n q j (held_there p.maps q j) (g.rights q j))
  ]

  is_same : (q j : ℕ) → (eqb q pid && eqb j i) ≡ false → is_some (held_there n q j) ≡ is_some (held_there p.maps q j)
  is_same q j t = ap is_some (g.held q j ∙ cond-false (eqb q pid && eqb j i) (more_of (held_there p.maps pid i) h) (held_there p.maps q j) t)

  here_some : is_some (held_there n pid i) ≡ true
  here_some = ap is_some (g.held pid i ∙ cond-true (eqb pid pid && eqb i i) (more_of (held_there p.maps pid i) h) (held_there p.maps pid i) (rw (eq-eqb pid pid refl, eq-eqb i i refl) refl)) ∙ more_some (held_there p.maps pid i) h some

  taken_now : AreKept p.maps → AreKept n → IsProcess p.maps pid → TakesIndex p.maps n pid i → (r : Region) (j : ℕ) → IsIndex n r j
      → taken_by (with_change w (Holds pid i (held_as h access))).processes w.reserved (number_of r) j ≡ is_taken n r j
  taken_now k kn there takes r j d =
      let rm = region_same p.maps n r g.processes d.region in
      world_taken n (with_change w (Holds pid i (held_as h access))).processes w.reserved r j kn d.region held_now
      ∙ go (same_region r (region_of pid i) && eqb j i) refl
      ∙ sym (takes r j rm d.from d.to)
    where
      rest : Bool
      rest = list_any (reserves (number_of r) j) w.reserved

      old : (is_held p.maps r j || list_any (reserves (number_of r) j) w.reserved) ≡ is_taken p.maps r j
      old = sym (world_taken p.maps w.processes w.reserved r j k (region_same p.maps n r g.processes d.region) stands.held) ∙ stands.taken r j (record { region = region_same p.maps n r g.processes d.region; from = d.from; to = d.to })

      go : (hit : Bool) → (same_region r (region_of pid i) && eqb j i) ≡ hit → (is_held n r j || list_any (reserves (number_of r) j) w.reserved) ≡ (hit || is_taken p.maps r j)
      go true e =
          let t = pair_hit r pid i j e in
          let there2 : IsProcess n pid = subst (λ (c : ℕ). (1 ≤ pid) × (pid ≤ c)) (sym g.processes) there in
          ap (λ (b : Bool). b || list_any (reserves (number_of r) j) w.reserved)
          (ap (λ (z : Region). is_held n z j) t.0 ∙ ap (is_held n (region_of pid i)) t.1 ∙ held_region n pid i there2 here_some)
      go false e = ap (λ (b : Bool). b || list_any (reserves (number_of r) j) w.reserved) (held_apart p.maps n pid i g.processes is_same r j d.from d.to e) ∙ old

  pub holds_stand : AreKept p.maps → AreKept n → IsProcess p.maps pid → TakesIndex p.maps n pid i → IsInOrder p.shelf n
      → (is_writable (rights_of access) ≡ true → (entry p.shelf h.id.key).attr.clean ≡ false)
      → Matches (record p { maps = n }) (with_change w (Holds pid i (held_as h access)))
  holds_stand k kn there takes order guard = record {
    ready = record {
      aged = stands.ready.aged;
      named = named_by_age p.shelf n stands.ready.aged order.held.live;
      held = order.held;
      settled = order.settled;
      guarded = granted_guarded p.shelf p.maps n pid i access h g same guard stands.ready.guarded;
      clean = stands.ready.clean;
      pictures = stands.ready.pictures;
      device = stands.ready.device;
    };
    segments = λ q. named_maps p n (key_of p.shelf q) (get w.names q) (stands.segments q);
    made = stands.made;
    processes = λ q. number_kept running_of (put_at i (more (held_as h access))) (λ y. refl) pid q w.processes ∙ stands.processes q;
    held = held_now;
    taken = taken_now k kn there takes;
  }
