-- Which segments go at the script's word `discard`, and what of them stays.
use Rattle.std.specs.Prelude.{◌≡◌, ℕ, ◌==◌, ◌&&◌, ◌||◌, Bool, true, false, not, List, map, Option, Some, None, if◌then◌else◌}
use Rattle.std.specs.List.{list_any}
use Rattle.o2_desc.specs.Bits.{has_bit}
use Rattle.o2_isa.specs.View.{Hold, Registers, bound_registers}
use Rattle.o2_world.specs.Map.{Map}
use Rattle.o2_world.specs.World.{Process, Segment, is_live}
use Rattle.o2_world.specs.Views.{holds_in}
use Rattle.o2_world.specs.Changes.{marked}

abbrev pub is_of : ℕ → Option Hold → Bool
is_of n None = false
is_of n (Some h) = h.name == n

-- a segment stands in a segment register, under whichever selector
abbrev pub has_seated : Registers → ℕ → Bool
has_seated r n = (is_of n r.es || is_of n r.cs) || (is_of n r.ss || is_of n r.ds)

abbrev pub seats : Process → ℕ → Bool
seats p n = is_live p.state && has_seated (bound_registers (holds_in p.held) p.cpu) n

-- it stands in a segment register of a process that lives
unfoldable pub is_seated : List Process → ℕ → Bool
is_seated ps n = list_any (λ (p : Process). seats p n) ps

-- A segment may be discarded that is discardable (flag 4), isn't clean and isn't locked, and stands in no segment register of a process
-- that lives.
pub record MayBeDiscarded (ps : List Process) (n : ℕ) (s : Segment) : Type 0 where
  pub discardable : has_bit s.flags 2 ≡ true
  pub changes : s.clean ≡ false
  pub unlocked : (s.lock == 0) ≡ true
  pub unseated : is_seated ps n ≡ false

abbrev pub may_be_discarded : List Process → ℕ → Segment → Bool
may_be_discarded ps n s = (has_bit s.flags 2 && not s.clean) && ((s.lock == 0) && not (is_seated ps n))

-- it goes at the word: it isn't discarded yet
abbrev pub goes : List Process → ℕ → Segment → Bool
goes ps n s = may_be_discarded ps n s && not s.discarded

abbrev pub behind_discard : List Process → ℕ → Segment → Segment
behind_discard ps n s = if goes ps n s then marked true s else s

-- the segments behind the word
unfoldable pub all_discarded : List Process → Map Segment → Map Segment
all_discarded ps names = map (λ (e : ℕ × Segment). (e.0, behind_discard ps e.0 e.1)) names
