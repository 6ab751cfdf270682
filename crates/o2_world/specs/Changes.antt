-- What a step changes beside bytes, registers and texts, as data: the calls say it, and one function does it.
use Rattle.std.specs.Prelude.{ℕ, zero, suc, ◌+◌, ◌-◌, ◌*◌, Bool, true, false, not, List, [], ◌∷◌, ◌++◌, take, length, replicate, filter, flat_map, if◌then◌else◌, ◌==◌, ◌&&◌, ◌||◌, nat_le, nat_lt, Option, Some, None}
use Rattle.std.specs.List.{list_any}
use Rattle.o2_world.specs.declared.types.State.{State}
use Rattle.o2_world.specs.Map.{Map, at_key, get, put}
use Rattle.o2_world.specs.World.{World, Process, Segment, Held, Reserve, Line, Starts, HoldsBy, DropsBy, Calls, Exits, Ends, Traps}
use Rattle.o2_world.specs.Holders.{is_held, kept, process_at}
use Rattle.o2_base.specs.Selectors.{selector_of}

pub data Change : Type 0 where
  -- a segment with the next name
  Makes : (segment : Segment) → Change
  -- the bytes are cut, or zeros come behind them
  Resizes : (name size : ℕ) → Change
  Locks : (name count : ℕ) → Change
  -- discarded, so that its bytes are zeros, or discarded no more
  Marks : (name : ℕ) → (discarded : Bool) → Change
  -- so many holds more of process and index; where there were none, all that is held
  Holds : (process index : ℕ) → (held : Held) → Change
  -- so many holds less; where none is left, the index holds nothing
  Drops : (process index count : ℕ) → Change
  -- the process has ended, and holds nothing more
  Finishes : (process : ℕ) → (state : State) → Change
  Reserves : (reserve : Reserve) → Change
  Frees : (region first : ℕ) → Change
  Names : (text : List ℕ) → (name : ℕ) → Change

abbrev pub resized : ℕ → List ℕ → List ℕ
resized size bytes = take size bytes ++ replicate (size - length bytes) 0

-- a discarded segment has zeros in place of its bytes
abbrev pub marked : Bool → Segment → Segment
marked true s = record s { bytes = replicate (length s.bytes) 0; discarded = true }
marked false s = record s { discarded = false }

-- holds more, and holds less
abbrev pub more : Held → Option Held → Option Held
more h None = Some h
more h (Some old) = Some (record old { holds = old.holds + h.holds })

abbrev pub fewer_of : ℕ → Held → Option Held
fewer_of count old = if nat_lt count old.holds then Some (record old { holds = old.holds - count }) else None

abbrev pub fewer : ℕ → Option Held → Option Held
fewer count None = None
fewer count (Some old) = fewer_of count old

-- a list with one place changed
abbrev pub at_place : {X : Type 0} → ℕ → (X → X) → List X → List X
at_place i f [] = []
at_place zero f (x ∷ xs) = f x ∷ xs
at_place (suc i) f (x ∷ xs) = x ∷ at_place i f xs

-- a list of processes with one changed, by its number
abbrev pub at_number : ℕ → (Process → Process) → List Process → List Process
at_number n f ps = if n == 0 then ps else at_place (n - 1) f ps

abbrev pub with_held : World → ℕ → (Map Held → Map Held) → World
with_held w n f = record w { processes = at_number n (λ (p : Process). record p { held = f p.held }) w.processes }

-- a segment is changed in its place, so that no name stands twice
abbrev pub with_segment : World → ℕ → (Segment → Segment) → World
with_segment w n f = record w { names = at_key n f w.names }

-- the world with a change
abbrev pub with_change : World → Change → World
with_change w (Makes s) = record w { names = put w.next_name (Some s) w.names; next_name = w.next_name + 1 }
with_change w (Resizes n size) = with_segment w n (λ (s : Segment). record s { bytes = resized size s.bytes })
with_change w (Locks n count) = with_segment w n (λ (s : Segment). record s { lock = count })
with_change w (Marks n discarded) = with_segment w n (marked discarded)
with_change w (Holds p i h) = with_held w p (λ (m : Map Held). put i (more h (get m i)) m)
with_change w (Drops p i count) = with_held w p (λ (m : Map Held). put i (fewer count (get m i)) m)
with_change w (Finishes p state) = record w { processes = at_number p (λ (x : Process). record x { state = state; held = [] }) w.processes }
with_change w (Reserves r) = record w { reserved = r ∷ w.reserved }
with_change w (Frees region first) = record w { reserved = filter (λ (r : Reserve). not ((r.region == region) && (r.first == first))) w.reserved }
with_change w (Names text name) = record w { texts = (text, name) ∷ w.texts }

unfoldable pub with_changes : World → List Change → World
with_changes w [] = w
with_changes w (c ∷ cs) = with_changes (with_change w c) cs

-- What nobody holds any more goes.

abbrev pub runs_from : ℕ → Option Held → Bool
runs_from first None = false
runs_from first (Some h) = (h.first == first) && not (h.reserved == 0)

-- a process holds a member of the run from this index on
unfoldable pub holds_run : Map Held → ℕ → Bool
holds_run held first = list_any (λ (e : ℕ × Held). runs_from first (get held e.0)) held

abbrev pub run_held : List Process → ℕ → Bool
run_held ps first = list_any (λ (p : Process). holds_run p.held first) ps

abbrev pub own_run_held : Option Process → ℕ → Bool
own_run_held None first = false
own_run_held (Some p) first = holds_run p.held first

abbrev pub is_used : List Process → Reserve → Bool
is_used ps r = if r.region == 0 then r.stays || run_held ps r.first else own_run_held (process_at ps r.region) r.first

abbrev pub used : List Process → List Reserve → List Reserve
used ps rs = filter (is_used ps) rs

abbrev pub told_of : List Process → List (List ℕ × ℕ) → List (List ℕ × ℕ)
told_of ps texts = filter (λ (t : List ℕ × ℕ). is_held ps t.1) texts

-- Names that nobody holds go with their texts, and the reserved indexes of runs that nobody holds
abbrev pub swept : World → World
swept w = record w { names = kept w.processes w.names; reserved = used w.processes w.reserved; texts = told_of w.processes w.texts }

-- a change that takes holds
abbrev pub takes : Change → Bool
takes (Makes s) = false
takes (Resizes n size) = false
takes (Locks n count) = false
takes (Marks n discarded) = false
takes (Holds p i h) = false
takes (Drops p i count) = true
takes (Finishes p state) = true
takes (Reserves r) = false
takes (Frees region first) = false
takes (Names text name) = false

-- the world with all changes of a step
abbrev pub with_all : World → List Change → World
with_all w cs = if list_any takes cs then swept (with_changes w cs) else with_changes w cs

-- The lines of holds that came and went: by process, then selector.

-- a line among lines in order; those of one process and selector are the same
abbrev pub key_of : Line → ℕ
key_of (Starts q name) = 0
key_of (HoldsBy q t cause) = 65536 * q + t
key_of (DropsBy q t cause) = 65536 * q + t
key_of (Calls q name args error values) = 0
key_of (Exits q action code) = 0
key_of (Ends q code) = 0
key_of (Traps q vector t offset) = 0

abbrev pub among : Line → List Line → List Line
among l [] = l ∷ []
among l (x ∷ xs) = if nat_le (key_of l) (key_of x) then l ∷ x ∷ xs else x ∷ among l xs

abbrev pub in_order : List Line → List Line
in_order [] = []
in_order (l ∷ ls) = among l (in_order ls)

abbrev pub hold_lines_of : List ℕ → Change → List Line
hold_lines_of cause (Makes s) = []
hold_lines_of cause (Resizes n size) = []
hold_lines_of cause (Locks n count) = []
hold_lines_of cause (Marks n discarded) = []
hold_lines_of cause (Holds p i h) = replicate h.holds (HoldsBy p (selector_of i) cause)
hold_lines_of cause (Drops p i count) = []
hold_lines_of cause (Finishes p state) = []
hold_lines_of cause (Reserves r) = []
hold_lines_of cause (Frees region first) = []
hold_lines_of cause (Names text name) = []

abbrev pub drop_lines_of : List ℕ → Change → List Line
drop_lines_of cause (Makes s) = []
drop_lines_of cause (Resizes n size) = []
drop_lines_of cause (Locks n count) = []
drop_lines_of cause (Marks n discarded) = []
drop_lines_of cause (Holds p i h) = []
drop_lines_of cause (Drops p i count) = replicate count (DropsBy p (selector_of i) cause)
drop_lines_of cause (Finishes p state) = []
drop_lines_of cause (Reserves r) = []
drop_lines_of cause (Frees region first) = []
drop_lines_of cause (Names text name) = []

-- first those that came
unfoldable pub moved_lines : List ℕ → List Change → List Line
moved_lines cause cs = in_order (flat_map (hold_lines_of cause) cs) ++ in_order (flat_map (drop_lines_of cause) cs)
