-- What a call does, as a value of the code: what it writes, one part after the other, and its lines as bytes.
use Rattle.std.specs.Prelude.{◌≡◌, ℕ, ◌+◌, ◌*◌, Bool, false, List, [], ◌∷◌, drop, replicate, flat_map, length, nat_le, not, if◌then◌else◌, ◌==◌, ◌&&◌, ◌||◌, Option, Some, None}
use Rattle.o2_base.specs.Selectors.{selector_of}
use Rattle.o2_isa.specs.declared.cpu.Cpu.{Cpu}
use Rattle.o2_isa.specs.View.{Hold, is_readable, is_writable}
use Rattle.o2_isa.specs.Pointers.{put_at_pointer}
use Rattle.o2_world.specs.declared.types.Slot.{Slot}
use Rattle.o2_world.specs.declared.types.State.TheVariants.{Exited, Live}
use Rattle.o2_world.specs.World.{World, Line, Calls, Ends, Exits, HoldsBy, DropsBy, Process}
use Rattle.o2_world.specs.Changes.{Change, Makes, Resizes, Locks, Marks, Holds, Drops, Finishes, Reserves, Frees, Names, moved_lines}
use Rattle.o2_world.specs.CallParts.{Before, Effect}
use Rattle.o2_world.specs.Outcomes.{Done}
use Rattle.o2_world.specs.Run.{worked}
use Rattle.o2_world.specs.Slots.{put_all, shown_in, targets_in}
use Rattle.o2_world.specs.Text.{lines_text}
use Rattle.o2_world_parts.specs.declared.effect.Effect as code
use Rattle.o2_world_parts.specs.Edits.{changes_of}

-- The bytes of all names with parts that are written, each behind the next pointer, as selector and offset; where there are no more,
-- nothing is.
abbrev pub written : (ℕ → Option Hold) → List (ℕ × ℕ) → List (List ℕ) → (ℕ → List ℕ) → ℕ → List ℕ
written held [] parts bytes n = bytes n
written held (p ∷ ps) [] bytes n = bytes n
written held (p ∷ ps) (part ∷ parts) bytes n = written held ps parts (put_at_pointer held bytes p.0 p.1 part) n

-- a name is what is held
abbrev pub is_behind : Option Hold → ℕ → Bool
is_behind None n = false
is_behind (Some h) n = n == h.name

-- so many bytes from an offset on lie in what is held, which isn't discarded and may be read, and written where the call writes
abbrev pub reaches : (ℕ → List ℕ) → (ℕ → Bool) → (writes : Bool) → (offset count : ℕ) → Option Hold → Bool
reaches bytes discarded writes offset count None = false
reaches bytes discarded writes offset count (Some h) =
    is_readable h.rights
    && (not (discarded h.name) && ((not writes || is_writable h.rights) && nat_le (offset + count) (length (bytes h.name))))

-- what is done is this effect
pub record IsEffect (b : Before) (x : code.Effect) (e : Effect) : Type 0 where
  pub cpu : x.cpu ≡ e.cpu
  pub state : x.state ≡ e.state
  pub bytes : written b.view.held x.targets.items x.parts.items b.view.bytes ≡ e.bytes
  pub changes : changes_of x.edits.items ≡ e.changes
  pub input : drop x.read b.input ≡ e.input
  pub piece : x.piece.items ≡ e.piece
  pub lines : x.lines.items ≡ lines_text e.lines
  pub waits : x.waits ≡ e.waits

-- the process leaves by a call
abbrev pub left_by : Before → (action code : ℕ) → Effect
left_by b action code = record {
  cpu = b.cpu;
  state = Exited code;
  bytes = b.view.bytes;
  changes = [];
  input = b.input;
  piece = [];
  lines = Exits b.number action code ∷ Ends b.number code ∷ [];
  waits = false;
}

-- a call that comes back with these registers, this error, and what it gives
abbrev pub came_back : Before → Cpu → (name : List ℕ) → List Slot → (ℕ → ℕ) → (error : ℕ) → Done → Effect
came_back b cpu name slots a error d = record {
  cpu = cpu;
  state = Live;
  bytes = put_all b.view.held (targets_in slots a) d.parts b.view.bytes;
  changes = d.changes;
  input = d.input;
  piece = d.piece;
  lines = Calls b.number name (shown_in slots a) error d.values ∷ moved_lines name d.changes;
  waits = false;
}

-- Holds that came, or went: of each change a process, an index and a number.

abbrev pub moves : Bool → Change → ℕ × ℕ × ℕ
moves came (Makes s) = (0, 0, 0)
moves came (Resizes n size) = (0, 0, 0)
moves came (Locks n count) = (0, 0, 0)
moves came (Marks n discarded) = (0, 0, 0)
moves came (Holds p i h) = if came then (p, i, h.holds) else (0, 0, 0)
moves came (Drops p i count) = if came then (0, 0, 0) else (p, i, count)
moves came (Finishes p state) = (0, 0, 0)
moves came (Reserves r) = (0, 0, 0)
moves came (Frees region first) = (0, 0, 0)
moves came (Names text name) = (0, 0, 0)

-- as often the process and the selector
abbrev pub times : ℕ × ℕ × ℕ → List (ℕ × ℕ)
times m = replicate m.2 (m.0, selector_of m.1)

abbrev pub pairs_of : Bool → List Change → List (ℕ × ℕ)
pairs_of came cs = flat_map (λ (c : Change). times (moves came c)) cs

abbrev pub key_by : ℕ × ℕ → ℕ
key_by p = 65536 * p.0 + p.1

-- by process, then selector
abbrev pub among_pairs : ℕ × ℕ → List (ℕ × ℕ) → List (ℕ × ℕ)
among_pairs p [] = p ∷ []
among_pairs p (x ∷ xs) = if nat_le (key_by p) (key_by x) then p ∷ x ∷ xs else x ∷ among_pairs p xs

abbrev pub ordered : List (ℕ × ℕ) → List (ℕ × ℕ)
ordered [] = []
ordered (p ∷ ps) = among_pairs p (ordered ps)

abbrev pub line_by : Bool → List ℕ → ℕ × ℕ → Line
line_by came cause p = if came then HoldsBy p.0 p.1 cause else DropsBy p.0 p.1 cause

-- The world behind an effect of process n: the dispatch is as it was, and the lines are kept as bytes.
abbrev pub worked_slowly : World → ℕ → Process → Effect → World
worked_slowly w n p e = record (worked w (record w.dispatch { current = n }) p e) { dispatch = w.dispatch; lines = [] }
