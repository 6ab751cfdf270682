-- What a machine stands for behind a hold less.
use Rattle.std.proofs.Common.{◌≡◌, ◌≢◌, ℕ, ◌+◌, ◌-◌, ◌<◌, ◌≤◌, ◌&&◌, ◌||◌, ◌⊎◌, inl, inr, List, Option, Some, None, is_some, IsSome, Bool, true, false, cond, eqb, nat_lt, option_map, get_or, refl, sym, ap, ◌∙◌, subst, arith}
use Rattle.std.specs.List.{list_any}
use Rattle.std.proofs.lemmas.Bool.{cases_eq, cond-true, cond-false, eq-eqb, and_parts, eqb-true}
use Rattle.std.proofs.lemmas.Bool.Decides.{nat_tests}
use Rattle.o2_desc.specs.Bits.{is_writable}
use Rattle.o2_entries.specs.declared.Entry.{Entry}
use Rattle.o2_place.specs.declared.seg_id.SegId.{SegId}
use Rattle.o2_regions.specs.declared.held.Held.{Held as HeldThere}
use Rattle.o2_regions.specs.declared.held.Region.{Region}
use Rattle.o2_regions.specs.Kept.{AreKept}
use Rattle.o2_regions.specs.Maps.{Maps, held_at as held_there, is_held, is_of, is_reserved, is_taken, region_of, same_region}
use Rattle.o2_segbus.specs.Guards.{AreAged, AreGuarded}
use Rattle.o2_segbus.specs.Seen.{key_of}
use Rattle.o2_segbus.proofs.Ages.{ages_removed, named_by_age}
use Rattle.o2_store.specs.Pictures.{picture, HasPicture}
use Rattle.o2_store.specs.Shelf.{Shelf, AreClean, HasAll, IsShelf, Pictures, Removes, byte_at, entry, entry_or, out_byte, place_of, source_byte}
use Rattle.o2_store.proofs.Keeping.{clean_source}
use Rattle.o2_store.proofs.Tables.{none_is_none}
use Rattle.o2_swapmap.specs.Piles.{all_of}
use Rattle.o2_world.specs.Map.{get}
use Rattle.o2_world.specs.World.{Held, Process, Segment, World}
use Rattle.o2_world.specs.Holders.{is_held as is_name_held, kept, process_at}
use Rattle.o2_world.specs.Known.{held_at, reserves}
use Rattle.o2_world.specs.Changes.{Drops, fewer, with_change}
use Rattle.o2_world.proofs.MapLemmas.{get-filter}
use Rattle.o2_stands.specs.Parts.{Parts, held_in, held_of, running_of}
use Rattle.o2_stands.specs.Stands.{IsIndex, IsNamed, Matches, number_of, taken_by}
use Rattle.o2_changes.specs.Holding.{FreesIndex, Goes, IsUnheld, Remains, Sweeps, TakesSome, less_by, rights_at}
use Rattle.o2_changes.specs.Order.{IsInOrder}
use Rattle.o2_changes.specs.Worlds.{lost}
use Rattle.o2_changes.proofs.HoldsStand.{held_of_same, region_same, world_taken}
use Rattle.o2_changes.proofs.Freeing.{keys_apart}
use Rattle.o2_changes.proofs.Keys.{live_key, other_key, removed_none, removed_other, removed_own}
use Rattle.o2_changes.proofs.Named.{named_by}
use Rattle.o2_changes.proofs.Settling.{IsPair, Here, Other, pair_is}
use Rattle.o2_changes.proofs.Taken.{held_apart, pair_hit}
use Rattle.o2_stands.proofs.Puts.{held_put, number_kept, put_at}
use Rattle.o2_changes.proofs.Worlds.{name_held, name_holder}

-- so many less
less_test : (count n : ℕ) → nat_lt count n ≡ cond (eqb (n - count) 0) false true
less_test count n = grind (arith, nat_tests)

less_here : (m n : Maps) (pid i count : ℕ) (o : Option HeldThere) → (IsSome (less_by count o) → rights_at n pid i ≡ rights_at m pid i)
    → fewer count (option_map (held_of m pid i) o) ≡ option_map (held_of n pid i) (less_by count o)
less_here m n pid i count None e = refl
less_here m n pid i count (Some was) e = ap (λ (b : Bool). cond b (Some (record (held_of m pid i was) { holds = was.holds - count })) None) (less_test count was.holds) ∙ go (eqb (was.holds - count) 0) e
  where
    go : (b : Bool) → (IsSome (cond b None (Some (record was { holds = was.holds - count }))) → rights_at n pid i ≡ rights_at m pid i)
        → cond (cond b false true) (Some (record (held_of m pid i was) { holds = was.holds - count })) None ≡ option_map (held_of n pid i) (cond b None (Some (record was { holds = was.holds - count })))
    go true e = refl
    go false e = ap (λ (r : ℕ). Some (record (held_of m pid i was) { rights = r; holds = was.holds - count })) (sym (e refl))

less_some : (count : ℕ) (o : Option HeldThere) (y : HeldThere) → less_by count o ≡ Some y → (w : HeldThere) × (o ≡ Some w) × (y.id ≡ w.id)
less_some count None y e = absurd (cc)
less_some count (Some was) y e = go (eqb (was.holds - count) 0) e
  where
    go : (b : Bool) → cond b None (Some (record was { holds = was.holds - count })) ≡ Some y → (w : HeldThere) × (Some was ≡ Some w) × (y.id ≡ w.id)
    go true e = absurd (cc)
    go false e = (let z : record was { holds = was.holds - count } ≡ y = cc in (was, refl, ap (λ (u : HeldThere). u.id) (sym z)))

-- a held segment of the maps, by its name
name_there : (m : Maps) (q j : ℕ) (h : Held) → held_in m q j ≡ Some h → (y : HeldThere) × (held_there m q j ≡ Some y) × (y.id.age ≡ h.name)
unfolding held_in
name_there m q j h e = go (held_there m q j) refl e
  where
    go : (o : Option HeldThere) → held_there m q j ≡ o → option_map (held_of m q j) o ≡ Some h → (y : HeldThere) × (held_there m q j ≡ Some y) × (y.id.age ≡ h.name)
    go None is e = absurd (cc)
    go (Some y) is e = (let z : held_of m q j y ≡ h = cc in (y, is, ap (λ (u : Held). u.name) z))

there_name : (m : Maps) (q j : ℕ) (y : HeldThere) → held_there m q j ≡ Some y → held_in m q j ≡ Some (held_of m q j y)
unfolding held_in
there_name m q j y e = ap (option_map (held_of m q j)) e

of_is : (id : SegId) (o : Option HeldThere) → is_of id o ≡ true → (y : HeldThere) × (o ≡ Some y) × (y.id.age ≡ id.age)
of_is id None e = absurd (cc)
of_is id (Some y) e = (y, refl, eqb-true y.id.age id.age (and_parts (eqb y.id.key id.key) (eqb y.id.age id.age) e).1)

-- the byte of an image doesn't hang on blocks
out_image : (s t : Shelf) (pic : Pictures) (block : ℕ → List ℕ) (k j : ℕ) → entry t k ≡ entry s k → IsSome (entry s k).image → out_byte s pic block k j ≡ out_byte t pic block k j
out_image s t pic block k j e image =
    ap (λ (x : ℕ). cond (nat_lt j (entry s k).kept) x 0) (clean_source (entry s k).image pic t.swap s.swap block block k j image)
    ∙ ap (λ (x : Entry). cond (nat_lt j x.kept) (source_byte x.image pic t.swap block k j) 0) (sym e)

-- clean segments go on to have the bytes of their images where another segment is removed
pub removed_clean : (s t : Shelf) (key : ℕ) (pic : Pictures) → IsShelf s → Removes s t key → AreClean s pic → AreClean t pic
removed_clean s t key pic shelf r a = record { bytes = λ k at len j clean place l block. go k at len j clean place l block (cases_eq k key) }
  where
    go : (k at len j : ℕ) → (entry t k).attr.clean ≡ true → place_of t k ≡ Some (at, len) → j < (entry t k).size → (block : ℕ → List ℕ) → (k ≡ key) ⊎ (k ≢ key)
        → get_or t.memory (at + j) 0 ≡ out_byte t pic block k j
    go k at len j clean place l block (inl e) = absurd (none_is_none place (ap (place_of t) e ∙ r.out))
    go k at len j clean place l block (inr n) =
        let same : entry t k ≡ entry s k = ap entry_or (r.entries k n) in
        let c : (entry s k).attr.clean ≡ true = ap (λ (x : Entry). x.attr.clean) (sym same) ∙ clean in
        let pl : place_of s k ≡ Some (at, len) = sym (r.places k n) ∙ place in
        let ll : j < (entry s k).size = subst (λ (x : Entry). j < x.size) same l in
        let image = (shelf.each k (shelf.numbered k at len pl)).clean c in
        ap (λ (x : Shelf). get_or x.memory (at + j) 0) r.shelf ∙ a.bytes k at len j c pl ll block ∙ out_image s t pic block k j same image

pub removed_pictures : (s t : Shelf) (key : ℕ) (has : ℕ → ℕ → Type 0) → Removes s t key → HasAll has s → HasAll has t
removed_pictures s t key has r a k x y e = elim (cases_eq k key) [
  | inr n ↦ a k x y (ap (λ (o : Option Entry). (entry_or o).image) (sym (r.entries k n)) ∙ e)
  | inl same ↦ absurd (let z : ◌≡◌ {A = Option (ℕ × ℕ)} None (Some (x, y)) = sym (ap (λ (j : ℕ). (entry t j).image) same ∙ ap (λ (o : Option Entry). (entry_or o).image) (removed_none s t key r)) ∙ e in cc)
]

-- what is held was held
held_before : (m n : Maps) (pid i count : ℕ) → TakesSome m n pid i count → (q j : ℕ) (y : HeldThere) → held_there n q j ≡ Some y → (z : HeldThere) × (held_there m q j ≡ Some z) × (y.id ≡ z.id)
held_before m n pid i count d q j y e = elim (pair_is q j pid i) [
  | Other _ u ↦ (y, sym (d.held q j ∙ cond-false (eqb q pid && eqb j i) (less_by count (held_there m pid i)) (held_there m q j) u) ∙ e, refl)
  | Here a b u ↦ (let l = less_some count (held_there m pid i) y (sym (d.held q j ∙ cond-true (eqb q pid && eqb j i) (less_by count (held_there m pid i)) (held_there m q j) u) ∙ e) in
      (l.0, ap (λ (c : ℕ). held_there m c j) a ∙ ap (held_there m pid) b ∙ l.1, l.2))
]

-- what may be written isn't clean
pub dropped_guarded : (s t : Shelf) (m n : Maps) (pid i count : ℕ) → TakesSome m n pid i count → ((q j : ℕ) (y : HeldThere) → held_there n q j ≡ Some y → entry t y.id.key ≡ entry s y.id.key) → AreGuarded s m → AreGuarded t n
dropped_guarded s t m n pid i count d same was q j y e writable =
    let z = held_before m n pid i count d q j y e in
    ap (λ (v : Entry). v.attr.clean) (same q j y e) ∙ ap (λ (v : SegId). (entry s v.key).attr.clean) z.2
    ∙ was q j z.0 z.1 (ap is_writable (sym (d.rights q j (ap is_some e))) ∙ writable)

module _ (p : Parts) (w : World) (t : Shelf) (n : Maps) (pid i count : ℕ) (was : HeldThere) (x : Process) (d : TakesSome p.maps n pid i count) (there : held_there p.maps pid i ≡ Some was) (at : process_at w.processes pid ≡ Some x) (stands : Matches p w)
    (named : (q : ℕ) → is_some (get w.names q) ≡ true → is_name_held w.processes q ≡ true) where
  held_now : (q j : ℕ) → held_at (with_change w (Drops pid i count)).processes q j ≡ held_in n q j
  unfolding held_in
  held_now q j = held_put w.processes pid q i j (fewer count) x at ∙ elim (pair_is q j pid i) [
    | Here e f u ↦ cond-true (eqb q pid && eqb j i) (fewer count (held_at w.processes pid i)) (held_at w.processes q j) u
        ∙ ap (fewer count) (stands.held pid i)
        ∙ less_here p.maps n pid i count (held_there p.maps pid i) (λ s. d.rights pid i (ap is_some here ∙ s))
        ∙ sym (ap (λ (y : ℕ). option_map (held_of n y j) (held_there n q j)) e ∙ ap (λ (y : ℕ). option_map (held_of n pid y) (held_there n q j)) f
        ∙ ap (option_map (held_of n pid i)) (d.held q j ∙ cond-true (eqb q pid && eqb j i) (less_by count (held_there p.maps pid i)) (held_there p.maps q j) u))
    | Other _ u ↦ cond-false (eqb q pid && eqb j i) (fewer count (held_at w.processes pid i)) (held_at w.processes q j) u
        ∙ stands.held q j
        ∙ sym (ap (option_map (held_of n q j)) (other q j u)
        ∙ held_of_same p.maps n q j (held_there p.maps q j) (λ s. d.rights q j (ap is_some (other q j u) ∙ s)))
  ]
    where
      here : held_there n pid i ≡ less_by count (held_there p.maps pid i)
      here = d.held pid i ∙ cond-true (eqb pid pid && eqb i i) (less_by count (held_there p.maps pid i)) (held_there p.maps pid i) (rw (eq-eqb pid pid refl, eq-eqb i i refl) refl)

      other : (q j : ℕ) → (eqb q pid && eqb j i) ≡ false → held_there n q j ≡ held_there p.maps q j
      other q j u = d.held q j ∙ cond-false (eqb q pid && eqb j i) (less_by count (held_there p.maps pid i)) (held_there p.maps q j) u

  other_there : (q j : ℕ) → (eqb q pid && eqb j i) ≡ false → held_there n q j ≡ held_there p.maps q j
  other_there q j u = d.held q j ∙ cond-false (eqb q pid && eqb j i) (less_by count (held_there p.maps pid i)) (held_there p.maps q j) u

  old_taken : AreKept p.maps → (r : Region) (j : ℕ) → IsIndex n r j → (is_held p.maps r j || list_any (reserves (number_of r) j) w.reserved) ≡ is_taken p.maps r j
  old_taken k r j x2 =
      sym (world_taken p.maps w.processes w.reserved r j k (region_same p.maps n r d.processes x2.region) stands.held)
      ∙ stands.taken r j (record { region = region_same p.maps n r d.processes x2.region; from = x2.from; to = x2.to })

  still_held : (r : Region) (j : ℕ) → IsIndex n r j → (same_region r (region_of pid i) && eqb j i) ≡ false → is_held n r j ≡ is_held p.maps r j
  still_held r j x2 e = held_apart p.maps n pid i d.processes (λ q y u. ap is_some (other_there q y u)) r j x2.from x2.to e

  -- the indexes that may not be chosen, where this one may be again, and where it stays reserved
  pub taken_freed : AreKept p.maps → AreKept n → FreesIndex p.maps n pid i → list_any (reserves (number_of (region_of pid i)) i) w.reserved ≡ false
      → (r : Region) (j : ℕ) → IsIndex n r j → taken_by (with_change w (Drops pid i count)).processes w.reserved (number_of r) j ≡ is_taken n r j
  taken_freed k kn frees free r j x2 =
      let rm = region_same p.maps n r d.processes x2.region in
      world_taken n (with_change w (Drops pid i count)).processes w.reserved r j kn x2.region held_now
      ∙ go (same_region r (region_of pid i) && eqb j i) refl
      ∙ sym (frees r j rm x2.from x2.to)
    where
      or_false : (b : Bool) → (b || false) ≡ b
      or_false true = refl
      or_false false = refl

      go : (hit : Bool) → (same_region r (region_of pid i) && eqb j i) ≡ hit → (is_held n r j || list_any (reserves (number_of r) j) w.reserved) ≡ cond hit (is_held n r j) (is_taken p.maps r j)
      go true e =
          let u = pair_hit r pid i j e in
          ap (λ (b : Bool). is_held n r j || b) (ap (λ (y : ℕ). list_any (reserves (number_of r) y) w.reserved) u.1 ∙ ap (λ (v : Region). list_any (reserves (number_of v) i) w.reserved) u.0 ∙ free) ∙ or_false (is_held n r j)
      go false e = ap (λ (b : Bool). b || list_any (reserves (number_of r) j) w.reserved) (still_held r j x2 e) ∙ old_taken k r j x2

  pub taken_kept : AreKept p.maps → AreKept n → n.reserved ≡ p.maps.reserved → list_any (reserves (number_of (region_of pid i)) i) w.reserved ≡ true
      → (r : Region) (j : ℕ) → IsIndex n r j → taken_by (with_change w (Drops pid i count)).processes w.reserved (number_of r) j ≡ is_taken n r j
  taken_kept k kn same covered r j x2 =
      world_taken n (with_change w (Drops pid i count)).processes w.reserved r j kn x2.region held_now
      ∙ go (same_region r (region_of pid i) && eqb j i) refl
    where
      marks : (v : Region) (y : ℕ) → is_reserved n v y ≡ is_reserved p.maps v y
      marks v y = ap (λ (xs : List Bool). is_reserved (record p.maps { reserved = xs }) v y) same

      go : (hit : Bool) → (same_region r (region_of pid i) && eqb j i) ≡ hit → (is_held n r j || list_any (reserves (number_of r) j) w.reserved) ≡ is_taken n r j
      go true e =
          let u = pair_hit r pid i j e in
          let a : list_any (reserves (number_of r) j) w.reserved ≡ true = ap (λ (y : ℕ). list_any (reserves (number_of r) y) w.reserved) u.1 ∙ ap (λ (v : Region). list_any (reserves (number_of v) i) w.reserved) u.0 ∙ covered in
          let b : is_reserved n r j ≡ true = marks r j ∙ ap (is_reserved p.maps r) u.1 ∙ ap (λ (v : Region). is_reserved p.maps v i) u.0 ∙ k.covered pid i was there in
          ap (λ (c : Bool). is_held n r j || c) (a ∙ sym b)
      go false e =
          ap (λ (b : Bool). b || list_any (reserves (number_of r) j) w.reserved) (still_held r j x2 e)
          ∙ old_taken k r j x2
          ∙ ap (λ (b : Bool). b || is_reserved p.maps r j) (sym (still_held r j x2 e))
          ∙ ap (λ (b : Bool). is_held n r j || b) (sym (marks r j))

  -- another name goes on to be held
  held_still : (q : ℕ) → q ≢ was.id.age → is_name_held w.processes q ≡ true → is_name_held (with_change w (Drops pid i count)).processes q ≡ true
  held_still q other e =
      let h = name_holder w.processes q e in
      let y = name_there p.maps h.0 h.1 h.2 (sym (stands.held h.0 h.1) ∙ h.3) in
      go h.0 h.1 y.0 y.1 (y.2 ∙ h.4) (pair_is h.0 h.1 pid i)
    where
      go : (a b : ℕ) (y : HeldThere) → held_there p.maps a b ≡ Some y → y.id.age ≡ q → IsPair a b pid i → is_name_held (with_change w (Drops pid i count)).processes q ≡ true
      go a b y e same (Here c f u) =
          let z : Some was ≡ Some y = sym there ∙ ap (λ (v : ℕ). held_there p.maps v i) (sym c) ∙ ap (held_there p.maps a) (sym f) ∙ e in
          let v : was ≡ y = cc in
          absurd (other (sym same ∙ ap (λ (s : HeldThere). s.id.age) (sym v)))
      go a b y e same (Other m u) =
          subst (λ (c : ℕ). is_name_held (with_change w (Drops pid i count)).processes c ≡ true) same
          (name_held (with_change w (Drops pid i count)).processes a b (held_of n a b y) (held_now a b ∙ there_name n a b y (other_there a b u ∙ e)))

  -- the name whose hold went is held by those who hold its segment
  own_held : (a b : ℕ) → is_of was.id (held_there n a b) ≡ true → is_name_held (with_change w (Drops pid i count)).processes was.id.age ≡ true
  own_held a b e =
      let y = of_is was.id (held_there n a b) e in
      subst (λ (c : ℕ). is_name_held (with_change w (Drops pid i count)).processes c ≡ true) y.2
      (name_held (with_change w (Drops pid i count)).processes a b (held_of n a b y.0) (held_now a b ∙ there_name n a b y.0 y.1))

  own_unheld : IsInOrder p.shelf n → IsUnheld n was.id → is_name_held (with_change w (Drops pid i count)).processes was.id.age ≡ false
  own_unheld order none = go (is_name_held (with_change w (Drops pid i count)).processes was.id.age) refl
    where
      go : (b : Bool) → is_name_held (with_change w (Drops pid i count)).processes was.id.age ≡ b → b ≡ false
      go false e = refl
      go true e =
          let h = name_holder (with_change w (Drops pid i count)).processes was.id.age e in
          let y = name_there n h.0 h.1 h.2 (sym (held_now h.0 h.1) ∙ h.3) in
          let live = order.held.live h.0 h.1 y.0 y.1 in
          let age : y.0.id.age ≡ was.id.age = y.2 ∙ h.4 in
          let k1 = live_key p.shelf y.0.id stands.ready.aged live in
          let k2 = live_key p.shelf was.id stands.ready.aged (stands.ready.held.live pid i was there) in
          let k : Some y.0.id.key ≡ Some was.id.key = sym k1 ∙ ap (key_of p.shelf) age ∙ k2 in
          let key : y.0.id.key ≡ was.id.key = cc in
          let is : is_of was.id (Some y.0) ≡ true = rw (eq-eqb y.0.id.key was.id.key key, eq-eqb y.0.id.age was.id.age age) refl in
          let f : false ≡ true = sym (none h.0 h.1) ∙ ap (is_of was.id) y.1 ∙ is in
          absurd (cc)

  -- the machine with another store and other maps
  after : Parts
  after = record p { shelf = t; maps = n }

  kept_name : (q : ℕ) → (is_some (get w.names q) ≡ true → is_name_held (with_change w (Drops pid i count)).processes q ≡ true) → get (kept (with_change w (Drops pid i count)).processes w.names) q ≡ get w.names q
  kept_name q held = get-filter (is_name_held (with_change w (Drops pid i count)).processes) w.names q ∙ go (get w.names q) (is_name_held (with_change w (Drops pid i count)).processes q) held
    where
      go : (o : Option Segment) (b : Bool) → (is_some o ≡ true → b ≡ true) → cond b o None ≡ o
      go o true f = refl
      go None false f = refl
      go (Some s) false f = absurd (let z : false ≡ true = f refl in cc)

  used_now : (q : ℕ) → q ≢ was.id.age → is_some (get w.names q) ≡ true → is_name_held (with_change w (Drops pid i count)).processes q ≡ true
  used_now q other live = held_still q other (named q live)

  drops_with : AreAged t → AreClean t (picture p.images) → HasAll (HasPicture p.images) t → all_of t.swap ≤ p.device → t.made ≡ p.shelf.made
      → ((q : ℕ) → IsNamed (record p { shelf = t; maps = n }) (key_of t q) (get (kept (with_change w (Drops pid i count)).processes w.names) q))
      → ((q j : ℕ) (y : HeldThere) → held_there n q j ≡ Some y → entry t y.id.key ≡ entry p.shelf y.id.key)
      → ((r : Region) (j : ℕ) → IsIndex n r j → taken_by (with_change w (Drops pid i count)).processes w.reserved (number_of r) j ≡ is_taken n r j) → IsInOrder t n
      → Matches (record p { shelf = t; maps = n }) (lost w pid i count)
  drops_with aged clean pictures device made segments same taken order = record {
    ready = record {
      aged = aged;
      named = named_by_age t n aged order.held.live;
      held = order.held;
      settled = order.settled;
      guarded = dropped_guarded p.shelf t p.maps n pid i count d same stands.ready.guarded;
      clean = clean;
      pictures = pictures;
      device = device;
    };
    segments = segments;
    made = stands.made ∙ sym made;
    processes = λ q. number_kept running_of (put_at i (fewer count)) (λ y. refl) pid q w.processes ∙ stands.processes q;
    held = held_now;
    taken = taken;
  }

  pub drops_stand : IsShelf p.shelf
      → ((r : Region) (j : ℕ) → IsIndex n r j → taken_by (with_change w (Drops pid i count)).processes w.reserved (number_of r) j ≡ is_taken n r j)
      → IsInOrder p.shelf n → IsInOrder t n → all_of t.swap ≡ all_of p.shelf.swap → Sweeps p.shelf t n was.id
      → Matches (record p { shelf = t; maps = n }) (lost w pid i count)
  drops_stand shelf taken before order map (Goes none r) =
      let live = stands.ready.held.live pid i was there in
      drops_with (ages_removed p.shelf t was.id.key r stands.ready.aged) (removed_clean p.shelf t was.id.key (picture p.images) shelf r stands.ready.clean)
      (removed_pictures p.shelf t was.id.key (HasPicture p.images) r stands.ready.pictures) (let z = stands.ready.device in omega (arith, map, z)) (ap (λ (s : Shelf). s.made) r.shelf)
      (λ q. elim (cases_eq q was.id.age) [
        | inl e ↦ subst (λ (o : Option ℕ). IsNamed (record p { shelf = t; maps = n }) o (get (kept (with_change w (Drops pid i count)).processes w.names) q)) (sym (ap (key_of t) e ∙ removed_own p.shelf t was.id stands.ready.aged live r))
            (subst (λ (g : Option Segment). IsNamed (record p { shelf = t; maps = n }) None g) (sym (get-filter (is_name_held (with_change w (Drops pid i count)).processes) w.names q
            ∙ cond-false (is_name_held (with_change w (Drops pid i count)).processes q) (get w.names q) None (ap (is_name_held (with_change w (Drops pid i count)).processes) e ∙ own_unheld before none))) tt)
        | inr other ↦ subst (λ (g : Option Segment). IsNamed (record p { shelf = t; maps = n }) (key_of t q) g) (sym (kept_name q (used_now q other)))
            (named_by p t n (key_of p.shelf q) (key_of t q) (get w.names q) (removed_other p.shelf t was.id q live r other)
            (λ c e. ap entry_or (r.entries c (other_key p.shelf was.id q c live other e)))
            (λ c e j. r.bytes (picture p.images) p.block c j (other_key p.shelf was.id q c live other e)) (stands.segments q))
      ])
      (λ q j y e. ap entry_or (r.entries y.id.key (keys_apart p.shelf was.id y live (before.held.live q j y e) (sym (ap (is_of was.id) e) ∙ none q j))))
      taken order
  drops_stand shelf taken before order map (Remains a b e same) =
      drops_with (subst AreAged (sym same) stands.ready.aged) (subst (λ (s : Shelf). AreClean s (picture p.images)) (sym same) stands.ready.clean)
      (subst (HasAll (HasPicture p.images)) (sym same) stands.ready.pictures) (let z = stands.ready.device in omega (arith, map, z)) (ap (λ (s : Shelf). s.made) same)
      (λ q. subst (λ (g : Option Segment). IsNamed (record p { shelf = t; maps = n }) (key_of t q) g) (sym (kept_name q (still q)))
      (named_by p t n (key_of p.shelf q) (key_of t q) (get w.names q) (ap (λ (s : Shelf). key_of s q) same)
      (λ c f. ap (λ (s : Shelf). entry s c) same) (λ c f j. ap (λ (s : Shelf). byte_at s (picture p.images) p.block c j) same) (stands.segments q)))
      (λ q j y f. ap (λ (s : Shelf). entry s y.id.key) same)
      taken order
    where
      still : (q : ℕ) → is_some (get w.names q) ≡ true → is_name_held (with_change w (Drops pid i count)).processes q ≡ true
      still q live = elim (cases_eq q was.id.age) [
        | inl f ↦ ap (is_name_held (with_change w (Drops pid i count)).processes) f ∙ own_held a b e
        | inr other ↦ used_now q other live
      ]
