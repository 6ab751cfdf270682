-- Whether the segments that a process's segment registers name were discarded.
use Rattle.std.specs.Prelude.{◌≡◌, ℕ, Bool, false, not, ◌&&◌, Some}
use Rattle.o2_isa.specs.declared.cpu.Cpu.{Cpu}
use Rattle.o2_regions.specs.declared.held.Held.{Held}
use Rattle.o2_regions.specs.Maps.{Maps}
use Rattle.o2_store.specs.Shelf.{Shelf, entry}
use Rattle.o2_segbus.specs.Bus.{held_under}
use Rattle.o2_segbus.specs.Words.{gone_held}

-- what a selector names wasn't discarded
abbrev pub IsWholeUnder : Shelf → Maps → (pid sel : ℕ) → Type 0
IsWholeUnder s m pid sel = (h : Held) → held_under m pid sel ≡ Some h → (entry s h.id.key).attr.gone ≡ false

-- nor what the segment registers name
pub record HasWholeSeats (s : Shelf) (m : Maps) (pid : ℕ) (c : Cpu) : Type 0 where
  pub es : IsWholeUnder s m pid c.es
  pub cs : IsWholeUnder s m pid c.cs
  pub ss : IsWholeUnder s m pid c.ss
  pub ds : IsWholeUnder s m pid c.ds

-- the same, tested
abbrev pub is_whole : Shelf → Maps → (pid sel : ℕ) → Bool
is_whole s m pid sel = not (gone_held s (held_under m pid sel))

abbrev pub are_whole : Shelf → Maps → (pid : ℕ) → Cpu → Bool
are_whole s m pid c = is_whole s m pid c.es && is_whole s m pid c.cs && is_whole s m pid c.ss && is_whole s m pid c.ds
