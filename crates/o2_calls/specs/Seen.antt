-- What a call on segments writes, as it is seen of a store.
use Rattle.std.specs.Prelude.{◌≡◌, ℕ, ◌<◌, true, List, [], ◌∷◌, Option, Some, is_some, if◌then◌else◌}
use Rattle.o2_isa.specs.View.{Hold, bound_in}
use Rattle.o2_segbus.specs.Seen.{bytes_in, hold_in, present_in}
use Rattle.o2_store.specs.Shelf.{Shelf}
use Rattle.o2_world.specs.Rulings.{Ruling}
use Rattle.o2_world.specs.Slots.{Pointer, targets_in}
use Rattle.o2_world.specs.Map.{get}
use Rattle.o2_world.specs.Views.{bytes_in as world_bytes, holds_in}
use Rattle.o2_world.specs.World.{Process, World}
use Rattle.o2_gate.specs.declared.arguments.Arguments.{Arguments}
use Rattle.o2_gate.specs.Given.{word_in}
use Rattle.o2_gate.specs.Replies.{bytes_of}
use Rattle.o2_gate.specs.Targets.{slots_of}
use Rattle.o2_stands.specs.Parts.{Parts}

-- the bytes of each name: those in memory, and of the others these
abbrev pub bytes_with : (away : ℕ → List ℕ) → Shelf → ℕ → List ℕ
bytes_with away s n = if present_in s n then bytes_in s n else away n

-- A pointer's segment is held before the call and behind it, and is older than new ones.
pub record IsAimedAt (held now : ℕ → Option Hold) (next : ℕ) (p : Pointer) : Type 0 where
  pub hold : Hold
  pub was : bound_in held p.selector ≡ Some hold
  pub still : bound_in now p.selector ≡ Some hold
  pub older : hold.name < next

abbrev pub AreAimed : (held now : ℕ → Option Hold) → (next : ℕ) → List Pointer → Type 0
AreAimed held now next [] = Unit {0}
AreAimed held now next (p ∷ ps) = IsAimedAt held now next p × AreAimed held now next ps

-- the pointers behind which a call writes its value
abbrev pub written_in : Arguments → List Pointer
written_in a = targets_in (slots_of a) (word_in a.words)

-- The store of a machine behind the changes of a call of a process, once the value is written, by the world `u` with these changes:
-- the pointer goes on to name what it named, and the bytes in memory are those that the call leaves there.
pub record Gives (w u : World) (number : ℕ) (x : Process) (a : Arguments) (r : Ruling) (q : Parts) (t : Shelf) : Type 0 where
  pub aimed : r.error ≡ 0 → AreAimed (holds_in x.held) (hold_in q.maps number) w.next_name (written_in a)
  pub bytes : (n : ℕ) → is_some (get u.names n) ≡ true → bytes_with (world_bytes u.names) t n ≡ bytes_of a r.error r.value (hold_in q.maps number) (world_bytes u.names) n
