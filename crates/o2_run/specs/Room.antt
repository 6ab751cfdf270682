-- The room that a step needs in memory, and what swapping has to hold.
use Rattle.std.specs.Prelude.{◌≡◌, ℕ, ◌+◌, ◌*◌, ◌/◌, ◌≤◌, ◌==◌, ◌&&◌, ◌||◌, Bool, true, false, not, nat_le, nat_lt, if◌then◌else◌, max}
use Rattle.std.specs.Prelude.{List, [], ◌∷◌, ◌++◌, filter, length, map, sum, Option, Some, None, Result, Err}
use Rattle.std.specs.List.{list_any}
use Rattle.o2_isa.specs.View.{View, Hold, Registers, bound_in}
use Rattle.o2_isa.specs.Pointers.{is_for_es}
use Rattle.o2_isa.specs.Steps.{State as Machine, state}
use Rattle.o2_isa.specs.Step.{stepped, step_names}
use Rattle.o2_isa.specs.declared.cpu.Stop.{Stop}
use Rattle.o2_isa.specs.declared.cpu.Stop.TheVariants as stop
use Rattle.o2_conf.specs.Dispatch.{Dispatch}
use Rattle.o2_world.specs.Map.{Map, get}
use Rattle.o2_world.specs.World.{World, Setting, Process, Segment, is_live}
use Rattle.o2_world.specs.Holders.{process_at}
use Rattle.o2_world.specs.Views.{view_of}
use Rattle.o2_world.specs.Calls.{Before, Effect, argument, has_arguments, row_of}
use Rattle.o2_world.specs.Outcomes.{CallRow}
use Rattle.o2_world.specs.Slots.{Pointer, are_good, heaps_in, may_have_heap, pointers_in, words_in}
use Rattle.o2_world.specs.Effect.{answered}
use Rattle.o2_world.specs.Run.{before, changed, next_dispatch, ready}

-- a length in whole paragraphs of 16 bytes
abbrev pub rounded : ℕ → ℕ
rounded n = (n + 15) / 16 * 16

-- the swap blocks of 512 bytes that a length takes
abbrev pub blocks_of : ℕ → ℕ
blocks_of n = (n + 511) / 512

-- Need: the names in the segment registers before the step and after it, those that an instruction loads, and those whose
-- selectors pass as pointers of a call.

abbrev pub name_in : Option Hold → List ℕ
name_in None = []
name_in (Some h) = h.name ∷ []

abbrev pub seated : Registers → List ℕ
seated r = name_in r.es ++ name_in r.cs ++ name_in r.ss ++ name_in r.ds

-- a selector that passes counts even where the right to write or the range behind it is refused, and nothing behind a refused
-- pointer does; a range of no bytes is not looked at
abbrev pub passed : View → Option Hold → Pointer → (rest : List ℕ) → List ℕ
passed v None p rest = []
passed v (Some h) p rest =
    if is_for_es v p.selector
    then h.name ∷ (if p.good h.rights && nat_le (p.offset + p.count) (length (v.bytes h.name)) then rest else [])
    else []

abbrev pub pointed : View → List Pointer → List ℕ
pointed v [] = []
pointed v (p ∷ ps) =
    if p.count == 0 then pointed v ps else passed v (bound_in v.held p.selector) p (pointed v ps)

-- heaps are looked at where all pointers are good; one that can't be written is refused by an error, and doesn't count
abbrev pub heaped : View → List Pointer → List ℕ
heaped v [] = []
heaped v (p ∷ ps) = (if may_have_heap v p.selector then name_in (bound_in v.held p.selector) else []) ++ heaped v ps

abbrev pub worded_names : View → CallRow → (ℕ → ℕ) → List ℕ
worded_names v row a =
    pointed v (pointers_in row.slots v a) ++ (if are_good v (pointers_in row.slots v a) then heaped v (heaps_in row.slots a) else [])

-- the words of a call's arguments must lie in the stack before a pointer is looked at
abbrev pub call_names : Before → Option CallRow → List ℕ
call_names b None = []
call_names b (Some row) =
    if has_arguments b.view b.cpu (words_in row.slots)
    then worded_names b.view row (argument b.view b.cpu)
    else []

abbrev pub gate_names : Before → Result Machine Stop → List ℕ
gate_names b (Err (stop.Gate service next)) = call_names b (row_of service)
gate_names b _ = []

-- the names that a step loads, or passes as pointers
abbrev pub touched : Before → List ℕ
touched b = step_names (state b.cpu b.view) ++ gate_names b (stepped (state b.cpu b.view))

-- The step before exception 1, where that follows in it.
abbrev pub untrapped : Before → Effect
untrapped b = answered b (stepped (state b.cpu b.view))

abbrev pub seated_in : Map Segment → Option Process → List ℕ
seated_in names None = []
seated_in names (Some p) = if is_live p.state then seated (view_of names p).registers else []

abbrev pub need : Before → (names : Map Segment) → (after : Option Process) → List ℕ
need b names after = seated b.view.registers ++ touched b ++ seated_in names after

-- Sums over the names that live before or after a step, each once.

abbrev pub is_in : ℕ → List ℕ → Bool
is_in n ns = list_any (λ m. m == n) ns

abbrev pub numbers : Map Segment → List ℕ
numbers names = map (λ (e : ℕ × Segment). e.0) names

abbrev pub of_both : Map Segment → Map Segment → List ℕ
of_both old new = numbers old ++ filter (λ n. not (is_in n (numbers old))) (numbers new)

abbrev pub size_of : Option Segment → ℕ
size_of None = 0
size_of (Some s) = length s.bytes

abbrev pub is_locked : Option Segment → Bool
is_locked None = false
is_locked (Some s) = nat_lt 0 s.lock

-- a segment that is discarded has no bytes to keep
abbrev pub kept_size : Option Segment → ℕ
kept_size None = 0
kept_size (Some s) = if s.discarded then 0 else length s.bytes

-- the larger of a name's sizes, in whole paragraphs
abbrev pub larger : Map Segment → Map Segment → ℕ → ℕ
larger old new n = rounded (max (size_of (get old n)) (size_of (get new n)))

-- the same, where one that is discarded before the step has no bytes there
abbrev pub needs : Map Segment → Map Segment → ℕ → ℕ
needs old new n = rounded (max (kept_size (get old n)) (size_of (get new n)))

-- Room: what is needed or locked, all in memory together
abbrev pub room_between : Map Segment → Map Segment → (need : List ℕ) → ℕ
room_between old new need =
    let counts : ℕ → Bool = λ n. is_in n need || (is_locked (get old n) || is_locked (get new n)) in
    sum (map (needs old new) (filter counts (of_both old new)))

-- Live load: all that lives before or after the step, in memory together
abbrev pub load_between : Map Segment → Map Segment → ℕ
load_between old new = sum (map (larger old new) (of_both old new))

-- Swap load: the blocks of all names that aren't clean
abbrev pub swap_load : World → ℕ
swap_load w = sum (map (λ (e : ℕ × Segment). if e.1.clean then 0 else blocks_of (length e.1.bytes)) w.names)

-- the world behind the next step, without the exception 1 that follows in it
abbrev pub behind : World → Dispatch → Process → Before → World
behind w d p b = changed w d p (untrapped b)

abbrev pub room_next : Setting → World → Dispatch → Option Process → ℕ
room_next s w d None = 0
room_next s w d (Some p) =
    let b = before s w d.current p in
    let next = behind w d p b in
    room_between w.names next.names (need b next.names (process_at next.processes d.current))

abbrev pub load_next : Setting → World → Dispatch → Option Process → ℕ
load_next s w d None = load_between w.names w.names
load_next s w d (Some p) = load_between w.names (behind w d p (before s w d.current p)).names

-- of the step that is chosen, 0 where there is none
abbrev pub chosen_room : Setting → World → ℕ
chosen_room s w = let d = next_dispatch s w in room_next s w d (process_at w.processes d.current)

abbrev pub chosen_load : Setting → World → ℕ
chosen_load s w = let d = next_dispatch s w in load_next s w d (process_at w.processes d.current)

-- of the next step, behind the words that come before it
unfoldable pub room : Setting → World → ℕ
room s w = chosen_room s (ready w)

unfoldable pub live_load : Setting → World → ℕ
live_load s w = chosen_load s (ready w)

-- A machine that swaps keeps its segments in the memory of its setting, and takes no step whose room that doesn't have.
abbrev pub Fits : (swaps : Bool) → Setting → World → Type 0
Fits swaps s w = swaps ≡ true → room s w ≤ s.memory

-- all that lives before or behind the next step fits the memory
abbrev pub AllFits : Setting → World → Type 0
AllFits s w = live_load s w ≤ s.memory
