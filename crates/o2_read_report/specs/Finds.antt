-- What a process finds under a selector, against what the report tells.
use Rattle.std.specs.Prelude.{◌≡◌, ℕ, Bool, true, false, ◌<◌, ◌/◌, nat_lt, Some, is_some, if◌then◌else◌}
use Rattle.o2_base.specs.Selectors.{selector_of}
use Rattle.o2_base.specs.declared.selector.Selector.{Selector}
use Rattle.o2_isa.specs.declared.cpu.Purpose.{Purpose}
use Rattle.o2_isa.specs.declared.cpu.Purpose.TheVariants.{DataReg}
use Rattle.o2_isa.specs.declared.cpu.Loaded.{Loaded}
use Rattle.o2_isa.specs.declared.cpu.Loaded.TheVariants.{Done}
use Rattle.o2_isa.specs.View.{Hold, found, is_readable, probe_of, refused, trap_of}
use Rattle.o2_world.specs.World.{World, Process}
use Rattle.o2_world.specs.Views.{discarded_in, view_of}
use Rattle.o2_world.specs.Reach.{reach}

-- the reach of a process and the index that a selector names, by the report's lines
abbrev pub reach_of : World → (number s : ℕ) → ℕ
reach_of w number s = reach w.lines number (selector_of (s / 8))

-- how a load ends that its rules let pass
abbrev pub done_or_gone : Bool → ℕ → Loaded
done_or_gone true s = trap_of 11 s
done_or_gone false s = Done

pub record FindsReach (w : World) (number : ℕ) (p : Process) (s : Selector) : Type 0 where
  -- a selector names a segment exactly where it is reached
  pub finds : is_some (found (view_of w.names p) s.0) ≡ nat_lt 0 (reach_of w number s.0)
  -- elsewhere each load is exception 13
  pub refuses : reach_of w number s.0 ≡ 0 → (purpose : Purpose) → probe_of (view_of w.names p) purpose s ≡ refused s.0
  -- there a load into DS or ES is done if the segment may be read, and is exception 13 otherwise; exception 11 where it is discarded
  pub loads : 0 < reach_of w number s.0
      → (h : Hold) × (found (view_of w.names p) s.0 ≡ Some h)
      × (probe_of (view_of w.names p) DataReg s ≡ (if is_readable h.rights then done_or_gone (discarded_in w.names h.name) s.0 else refused s.0))
