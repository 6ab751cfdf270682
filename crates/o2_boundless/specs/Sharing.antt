-- Who holds an index, and which segments are shared, each as a test of one index.
use Rattle.std.specs.Prelude.{ℕ, Bool, not, List, length, find, nat_le, ◌&&◌, Option, is_some}
use Rattle.o2_world.specs.World.{Process}
use Rattle.o2_world.specs.Known.{Known, held_at}
use Rattle.o2_world.specs.Rulings.{indexes}
use Rattle.o2_world.specs.SharedRulings.{held_by, holder, is_share, is_shared_with, marks_by_call, shared_from}

abbrev pub holder_among : List Process → (index : ℕ) → Option ℕ
holder_among ps i = find (λ (n : ℕ). is_some (held_at ps n i)) (indexes 1 (length ps))

abbrev pub lacks_at : Known → (flag process index : ℕ) → Bool
lacks_at k flag n i = not (nat_le shared_from i && is_shared_with flag (marks_by_call k (k.held n i)))

-- the first that holds the index holds there a shared segment of this name
abbrev pub is_share_at : Known → (name index : ℕ) → Bool
is_share_at k q i = is_share k q (held_by k i (holder k i))

abbrev pub is_no_share : Known → (name index : ℕ) → Bool
is_no_share k q i = not (is_share_at k q i)
