-- Which segments of a space go at the script's word `discard`.
use Rattle.std.specs.Prelude.{ℕ, ◌+◌, ◌==◌, ◌&&◌, ◌||◌, Bool, false, not, List, [], ◌∷◌, map, nat_lt, Option, Some, None, if◌then◌else◌}
use Rattle.o2_desc.specs.Bits.{has_bit}
use Rattle.o2_isa.specs.View.{bound_registers}
use Rattle.o2_entries.specs.declared.Attr.{Attr}
use Rattle.o2_regions.specs.Maps.{Maps}
use Rattle.o2_segbus.specs.Seen.{hold_in, key_of}
use Rattle.o2_store.specs.Shelf.{Shelf}
use Rattle.o2_world.specs.Discards.{behind_discard, has_seated}
use Rattle.o2_world.specs.Map.{Map}
use Rattle.o2_world.specs.World.{Process, Segment, is_live}
use Rattle.o2_space.specs.declared.space.Proc.{Proc}

-- a process of this number goes on, and has a segment of this name in a segment register
abbrev pub seats_in : Maps → (number : ℕ) → Proc → (name : ℕ) → Bool
seats_in m n x q = is_live x.state && has_seated (bound_registers (hold_in m n) x.cpu) q

-- one of these does, of which the first has this number and the others those behind it
abbrev pub are_seated : Maps → (number : ℕ) → List Proc → (name : ℕ) → Bool
are_seated m n [] q = false
are_seated m n (x ∷ xs) q = seats_in m n x q || are_seated m (n + 1) xs q

-- what goes at the word, by its attributes and whether it stands in a segment register
abbrev pub goes_by : Attr → (seated : Bool) → Bool
goes_by a seated = (not a.gone && (has_bit a.flags 2 && not a.clean)) && ((a.lock == 0) && not seated)

-- The segments of a world of which those have gone that go, and whose names pass a test.
unfoldable pub discarded_where : (ℕ → Bool) → List Process → Map Segment → Map Segment
discarded_where test ps names = map (λ (e : ℕ × Segment). (e.0, if test e.0 then behind_discard ps e.0 e.1 else e.1)) names

abbrev pub is_number : (key : ℕ) → Option ℕ → Bool
is_number key None = false
is_number key (Some k) = k == key

abbrev pub is_lower : (bound : ℕ) → Option ℕ → Bool
is_lower bound None = false
is_lower bound (Some k) = nat_lt k bound

-- the segment of a name has this number, or one below this
abbrev pub is_at : Shelf → (key name : ℕ) → Bool
is_at s key q = is_number key (key_of s q)

abbrev pub is_below : Shelf → (bound name : ℕ) → Bool
is_below s bound q = is_lower bound (key_of s q)
