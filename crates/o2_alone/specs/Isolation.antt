-- Isolation: where a process keeps to itself, its run among others is its run alone.
use Rattle.std.specs.Prelude.{◌≡◌, ◌≢◌, ◌⊎◌, ℕ, ◌+◌, ◌-◌, ◌<◌, ◌≤◌, ◌==◌, true, false, List, [], filter, Option, Some, None, option_map, slice_get, Ok}
use Rattle.std.specs.List.{All}
use Rattle.o2_conf.specs.declared.script.Word.{Word}
use Rattle.o2_desc.specs.Bits.{has_bit}
use Rattle.o2_world.specs.Map.{Map, get}
use Rattle.o2_world.specs.World.{World, Setting, Process, Reserve, Segment, Held}
use Rattle.o2_world.specs.Views.{bytes_in}
use Rattle.o2_world.specs.Known.{held_at, lives_at}
use Rattle.o2_world.specs.Rulings.{by_load, is_in_run}
use Rattle.o2_world.specs.Holders.{process_at}
use Rattle.o2_world.specs.Starts.{Loaded, Start, opening_of}
use Rattle.o2_world.specs.FitStarts.{ShareNoIndex, AreFit, AreOf}
use Rattle.o2_world.specs.Tied.{IsSound}
use Rattle.o2_world.specs.Run.{after}
use Rattle.o2_alone.specs.Renaming.{Renaming, renamed_held}
use Rattle.o2_alone.specs.Events.{events, events_of, own_steps}
use Rattle.o2_alone.specs.Alone.{opening_alone}
use Rattle.o2_alone.specs.Keeping.{KeepsToItself, is_clean}

-- What is the same in both runs.

-- what a process holds under an index, whatever the number of its segment
abbrev pub nameless : Option Held → Option Held
nameless h = option_map (λ (g : Held). record g { name = 0 }) h

abbrev pub held_bytes : Map Segment → Option Held → List ℕ
held_bytes names None = []
held_bytes names (Some h) = bytes_in names h.name

-- the bytes behind a selector with this index
abbrev pub bytes_behind : World → (number index : ℕ) → List ℕ
bytes_behind w number index = held_bytes w.names (held_at w.processes number index)

-- a process in two worlds: its registers and its state, what it holds, and the bytes behind each of its selectors
pub record IsSame (w other : World) (number : ℕ) : Type 0 where
  pub cpu : option_map (λ (p : Process). p.cpu) (process_at w.processes number) ≡ option_map (λ (p : Process). p.cpu) (process_at other.processes number)
  pub state : option_map (λ (p : Process). p.state) (process_at w.processes number) ≡ option_map (λ (p : Process). p.state) (process_at other.processes number)
  pub held : (i : ℕ) → nameless (held_at w.processes number i) ≡ nameless (held_at other.processes number i)
  pub bytes : (i : ℕ) → bytes_behind w number i ≡ bytes_behind other number i

-- its events among the first k are the first events of its run alone, and behind them it is the same in both
pub record IsIsolated (s : Setting) (w alone : World) (number k : ℕ) : Type 0 where
  pub same_events : events_of number (events s w k) ≡ events s alone (own_steps s w number k)
  pub same : IsSame (after s w k) (after s alone (own_steps s w number k)) number

-- Two worlds from which both runs begin.

-- what is reserved of a process's own region
abbrev pub own_reserves : (number : ℕ) → List Reserve → List Reserve
own_reserves number rs = filter (λ (r : Reserve). r.region == number) rs

-- A process in two worlds, with other numbers for the names that it holds: the same registers and state, and under each index the same
-- rights, holds and segment. Of its own region the same indexes are reserved, by the same stretches.
pub record IsLike (f : Renaming) (number : ℕ) (w other : World) : Type 0 where
  pub process : Process
  pub twin : Process
  pub there : process_at w.processes number ≡ Some process
  pub there_too : process_at other.processes number ≡ Some twin
  pub cpu : twin.cpu ≡ process.cpu
  pub state : twin.state ≡ process.state
  pub held : (i : ℕ) → get twin.held i ≡ option_map (renamed_held f) (get process.held i)
  pub segment : (i : ℕ) (h : Held) → get process.held i ≡ Some h → get other.names (f h.name) ≡ get w.names h.name
  pub apart : (i j : ℕ) (g h : Held) → get process.held i ≡ Some g → get process.held j ≡ Some h → f g.name ≡ f h.name → g.name ≡ h.name
  pub reserved : own_reserves number other.reserved ≡ own_reserves number w.reserved

-- no other process lives, and no word of a script is left
pub record IsAlone (number : ℕ) (w : World) : Type 0 where
  pub script : w.dispatch.script ≡ []
  pub others : (place : ℕ) → place + 1 ≢ number → lives_at (slice_get w.processes place) ≡ false

-- no segment that never changes can be locked: none is discardable (flag 4)
abbrev pub AreFixed : Map Segment → Type 0
AreFixed names = (n : ℕ) (s : Segment) → get names n ≡ Some s → s.clean ≡ true → has_bit s.flags 2 ≡ false

-- A hold of a run: its stretch lies in one region, and nobody for whom an index of it is the same holds that by load.
pub record IsRunApart (w : World) (n i : ℕ) (h : Held) : Type 0 where
  pub region : h.first < 4096 → h.first + h.reserved ≤ 4096
  pub shared : 4096 ≤ i → 4096 ≤ h.first
  pub loads : (m j : ℕ) (g : Held) → (m ≡ n) ⊎ (4096 ≤ j) → h.first ≤ j → j < h.first + h.reserved → held_at w.processes m j ≡ Some g → by_load g.cause ≡ false

-- what never changes is held by load, and what is held by load lies in no run
pub record AreLoadsApart (w : World) : Type 0 where
  pub clean : (n i : ℕ) (h : Held) → held_at w.processes n i ≡ Some h → by_load h.cause ≡ false → is_clean (get w.names h.name) ≡ false
  pub runs : (n i : ℕ) (h : Held) → held_at w.processes n i ≡ Some h → is_in_run h ≡ true → IsRunApart w n i h

pub record BeginsAlike (number : ℕ) (w alone : World) : Type 0 where
  pub names : Renaming
  pub like : IsLike names number w alone
  pub sound : IsSound w
  pub sound_alone : IsSound alone
  pub fixed : AreFixed w.names
  pub loads : AreLoadsApart w
  pub is_alone : IsAlone number alone
  pub budget : w.dispatch.budget ≤ alone.dispatch.budget

-- From such worlds on its run alone is its run among others, for as long as it keeps to itself.
abbrev pub IsIsolatedFrom : Setting → (w alone : World) → ℕ → Type 0
IsIsolatedFrom s w alone number = (k : ℕ) → KeepsToItself s w alone number k → IsIsolated s w alone number k

-- The whole statement.

-- the process runs one of these modules, and its libraries are of these, each by its place
pub record IsOver (modules : ℕ → Loaded) (s : Start) : Type 0 where
  pub program : modules s.program.place ≡ s.program
  pub libraries : All (λ (m : Loaded). modules m.place ≡ m) s.libraries

-- its run alone begins, and is its run among others
pub record RunsAlone (s : Setting) (reserved : List (ℕ × ℕ)) (input : List ℕ) (number : ℕ) (start : Start) (w : World) : Type 0 where
  pub world : World
  pub begins : opening_alone s reserved input number start ≡ Ok world
  pub isolated : IsIsolatedFrom s w world number

-- Isolation, for each process of a machine file, over the modules from which it starts.
abbrev pub Isolation : Type 0
Isolation = (modules : ℕ → Loaded) (s : Setting) (reserved : List (ℕ × ℕ)) (script : List Word) (input : List ℕ) (starts : List Start) (w : World)
    → ShareNoIndex modules → AreFit starts → AreOf modules starts → All (IsOver modules) starts → opening_of s reserved script input starts ≡ Ok w
    → (number : ℕ) (start : Start) → 0 < number → slice_get starts (number - 1) ≡ Some start
    → RunsAlone s reserved input number start w
