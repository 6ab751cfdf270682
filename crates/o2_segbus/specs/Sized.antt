-- The sizes of the segments of a bus.
use Rattle.std.proofs.Common.{◌≡◌, ◌≤◌, refl, ap, subst, ℕ, true, length, arith}
use Rattle.std.specs.Prelude.{Option, Some, None, is_some, option_map}
use Rattle.std.proofs.lemmas.Bool.{false≢true}
use Rattle.o2_isa.specs.View.{Hold}
use Rattle.o2_isa.specs.Sizes.{IsSized}
use Rattle.o2_phys.proofs.Parts.{length-part}
use Rattle.o2_regions.specs.declared.held.Held.{Held}
use Rattle.o2_regions.specs.Maps.{Maps, held_at}
use Rattle.o2_store.specs.Shelf.{Shelf, entry, place_of}
use Rattle.o2_segbus.specs.declared.seg_bus.SegBus.{SegBus}
use Rattle.o2_segbus.specs.Settled.{IsSettled, IsSettledAt, descriptor_at}
use Rattle.o2_segbus.specs.Seen.{key_of, size_under, present_under, bytes_under, bytes_from, hold_in, hold_of, seen_with, AreNamed, size_in}
use Rattle.o2_segbus.specs.Bus.{AreInside, bus_view}

by_place : (s : Shelf) (k : ℕ) → AreInside s → (p : Option (ℕ × ℕ)) → place_of s k ≡ p → is_some p ≡ true → length (bytes_from s.memory p (entry s k).size) ≡ (entry s k).size
by_place s k i None e h = absurd (false≢true h)
by_place s k i (Some r) e h = length-part s.memory r.0 (entry s k).size (i.within k r.0 r.1 e)

by_key : (s : Shelf) → AreInside s → (o : Option ℕ) → present_under s o ≡ true → length (bytes_under s o) ≡ size_under s o
by_key s i None h = absurd (false≢true h)
by_key s i (Some k) h = by_place s k i (place_of s k) refl h

small : (s : Shelf) → AreInside s → (o : Option ℕ) → size_under s o ≤ 65536
small s i None = omega arith
small s i (Some k) = i.most k

some : (s : Shelf) (m : Maps) (pid j : ℕ) (h : Hold) → AreNamed s m → IsSettled s m → (o : Option Held) → held_at m pid j ≡ o → option_map (hold_of m pid j) o ≡ Some h → 1 ≤ size_in s h.name
some s m pid j h named settled None e is = absurd (none_some is)
  where
    none_some : {x : Hold} → None ≡ Some x → ⊥
    none_some q = cc
some s m pid j h named settled (Some x) e is =
    let n : x.id.age ≡ h.name = ap (λ (o : Option Hold). name_or o) is in
    let d = subst (λ (o : Option Held). IsSettledAt s o (descriptor_at m pid j)) e (settled pid j) in
    let q : size_in s x.id.age ≡ (entry s x.id.key).size = ap (size_under s) (named pid j x e) in
    let l : 1 ≤ size_in s x.id.age = omega (arith, q, d.limit) in
    subst (λ (k : ℕ). 1 ≤ size_in s k) n l
  where
    name_or : Option Hold → ℕ
    name_or None = 0
    name_or (Some y) = y.name

pub seg_sized : (b : SegBus) → IsSized (bus_view b.store.ghost_name b.regions.ghost_name b.store.now b.regions.now b.pid b.registers)
unfolding bus_view seen_with hold_in
seg_sized b = record {
  bytes = λ n present. by_key b.store.now b.inside (key_of b.store.now n) present;
  most = λ n present. small b.store.now b.inside (key_of b.store.now n);
  least = λ i h held present. some b.store.now b.regions.now b.pid i h b.named b.settled (held_at b.regions.now b.pid i) refl held;
}
