-- A process holds nothing at one of its indexes any more.
use Rattle.std.specs.Prelude.{◌≡◌, ℕ, ◌-◌, ◌&&◌, ◌==◌, length, if◌then◌else◌, Option, Some, None}
use Rattle.o2_desc.specs.Bytes.{empty}
use Rattle.o2_regions.specs.declared.held.Held.{Held}
use Rattle.o2_regions.specs.Maps.{Maps, held_at, table_of}
use Rattle.o2_segbus.specs.Settled.{descriptor_at}

-- what is left of holds after so many drops
abbrev pub left_after : Held → ℕ → Option Held
left_after was drops = if was.holds - drops == 0 then None else Some (record was { holds = was.holds - drops })

-- after so many drops at an index at which a process held this
pub record Drops (old new : Maps) (pid index : ℕ) (was : Held) (drops : ℕ) : Type 0 where
  pub processes : new.processes ≡ old.processes
  pub reserved : new.reserved ≡ old.reserved
  pub lengths : (q : ℕ) → length (table_of new q) ≡ length (table_of old q)
  pub held : (q i : ℕ) → held_at new q i ≡ (if (q == pid) && (i == index) then left_after was drops else held_at old q i)
  pub described : (q i : ℕ) → descriptor_at new q i ≡ (if ((q == pid) && (i == index)) && (was.holds - drops == 0) then empty else descriptor_at old q i)

-- after all drops
pub record Empties (old new : Maps) (pid index : ℕ) : Type 0 where
  pub processes : new.processes ≡ old.processes
  pub reserved : new.reserved ≡ old.reserved
  pub lengths : (q : ℕ) → length (table_of new q) ≡ length (table_of old q)
  pub held : (q i : ℕ) → held_at new q i ≡ (if (q == pid) && (i == index) then None else held_at old q i)
  pub described : (q i : ℕ) → descriptor_at new q i ≡ (if (q == pid) && (i == index) then empty else descriptor_at old q i)
