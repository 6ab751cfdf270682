-- A store and the tables of one process over it, as tests and measurements have them.
use Rattle.std.specs.Prelude.{◌≡◌, ℕ, ◌≤◌, true, false, Some}
use Rattle.o2_isa.specs.declared.cpu.Cpu.{Cpu}
use Rattle.o2_isa.specs.View.{bound_in, present_or_none}
use Rattle.o2_outer.specs.Devices.{swap_blocks}
use Rattle.o2_regions.specs.Maps.{Maps, IsProcess}
use Rattle.o2_store.specs.Shelf.{Shelf, entry}
use Rattle.o2_swapmap.specs.Piles.{all_of}
use Rattle.o2_segbus.specs.Guards.{AreAged}
use Rattle.o2_segbus.specs.Seen.{hold_in, present_in}
use Rattle.o2_changes.specs.Order.{IsInOrder}
use Rattle.test_bus_parts.specs.declared.bench.Bench.{Bench}

-- no two live segments have one age, none is clean or comes from an image, and the tables agree with the store
pub record IsTrial (s : Shelf) (m : Maps) (blocks : ℕ) : Type 0 where
  pub aged : AreAged s
  pub written : (k : ℕ) → (entry s k).attr.clean ≡ false
  pub own : (k : ℕ) (p : ℕ × ℕ) → (entry s k).image ≡ Some p → ⊥
  pub order : IsInOrder s m
  pub device : all_of s.swap ≤ blocks
  pub process : IsProcess m 1

abbrev pub IsReady : Bench → Type 0
IsReady b = IsTrial b.store b.regions (swap_blocks b.swap)

-- what a selector names for process 1 is in memory, or it names nothing
pub record IsSeated (s : Shelf) (m : Maps) (sel : ℕ) : Type 0 where
  pub present : present_or_none (present_in s) (bound_in (hold_in m 1) sel) ≡ true

pub record AreSeated (s : Shelf) (m : Maps) (c : Cpu) : Type 0 where
  pub es : IsSeated s m c.es
  pub cs : IsSeated s m c.cs
  pub ss : IsSeated s m c.ss
  pub ds : IsSeated s m c.ds
