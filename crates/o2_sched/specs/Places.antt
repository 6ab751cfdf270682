-- What a place in the script and in the turns stands for.
use Rattle.std.specs.Prelude.{◌≡◌, ◌≤◌, ◌<◌, ℕ, ◌+◌, Bool, List, drop, length, slice_index_or}
use Rattle.std.specs.List.{list_any}
use Rattle.o2_conf.specs.declared.script.Word.{Word}
use Rattle.o2_conf.specs.Dispatch.{Dispatch, turn_after}
use Rattle.o2_sched.specs.declared.place.Place.{Place}

abbrev pub place_dispatch : List Word → Place → ℕ → Dispatch
place_dispatch script p budget = record { script = drop p.at script; current = p.current; left = p.left; turn = p.turn; budget = budget }

-- the process whose turn comes behind each process's, and at 0 the first
pub record AreTurns (turns : List ℕ) (flags : List Bool) : Type 0 where
  pub count : length turns ≡ length flags + 1
  pub turn : (n : ℕ) → n ≤ length flags → slice_index_or turns n 0 ≡ turn_after flags n
  pub bound : (n : ℕ) → n ≤ length flags → slice_index_or turns n 0 ≤ length flags

-- the place lies within the script and the processes, of which there are 64 at most
pub record IsWithin (words : ℕ) (p : Place) (flags : List Bool) (turn_list : List ℕ) (any_lives : Bool) : Type 0 where
  pub within : p.at ≤ words
  pub few : length flags < 65
  pub inside : p.turn ≤ length flags
  pub turns : AreTurns turn_list flags
  pub any : any_lives ≡ list_any (λ b. b) flags
