-- What goes for each row of the table of calls.
use Rattle.std.specs.Prelude.{◌≡◌, ◌≢◌, ℕ, Bool, true, ◌==◌, ◌&&◌, ◌||◌, List, [], ◌∷◌, length}
use Rattle.o2_isa.specs.declared.cpu.Cpu.{Cpu}
use Rattle.o2_isa.specs.Pointers.{has_range, is_for_es}
use Rattle.o2_isa.specs.Presence.{SameSelectors}
use Rattle.o2_isa.specs.View.{View, bound_in, is_writable}
use Rattle.o2_world.specs.declared.types.Argument.{Argument}
use Rattle.o2_world.specs.declared.types.State.TheVariants.{Live}
use Rattle.o2_world.specs.World.{Calls, Line}
use Rattle.o2_world.specs.Changes.{Change}
use Rattle.o2_world.specs.CallParts.{Before, Effect}
use Rattle.o2_world.specs.Rulings.{Ruling}
use Rattle.o2_world.specs.HugeRulings.{without}
use Rattle.o2_world.specs.Moves.{AllMoves}
use Rattle.o2_world.specs.Slots.{Pointer, are_good, pointers_in, targets_in}
use Rattle.o2_world.specs.Outcomes.{CallRow, Does, Fails, Waits, Leaves, Outcome, gone_indexes}

-- for each entry of a table, by its number
abbrev pub EachEntry : {X : Type 0} → (ℕ → X → Type 0) → List (ℕ × X) → Type 0
EachEntry P [] = Unit {0}
EachEntry P (e ∷ es) = P e.0 e.1 × EachEntry P es

abbrev pub EachRow : (CallRow → Type 0) → List (ℕ × CallRow) → Type 0
EachRow P es = EachEntry (λ (service : ℕ) (r : CallRow). P r) es

abbrev pub changes_of : Outcome → List Change
changes_of (Fails error values) = []
changes_of (Does d) = d.changes
changes_of Waits = []
changes_of (Leaves action code) = []

-- a row that changes nothing beside bytes
abbrev pub IsQuiet : CallRow → Type 0
IsQuiet r = (b : Before) (a : ℕ → ℕ) → changes_of (r.outcome b a) ≡ []

-- so many bytes lie there in a segment that may be loaded into ES and can be written; for none nothing is looked at
abbrev pub fits_at : View → (ℕ → List ℕ) → (s offset count : ℕ) → Bool
fits_at v bytes s offset count = (count == 0) || (is_for_es v s && has_range bytes is_writable offset count (bound_in v.held s))

-- each part has a pointer, and fits there
abbrev pub AreFitParts : View → (ℕ → List ℕ) → List Pointer → (parts : List (List ℕ)) → Type 0
AreFitParts v bytes [] [] = Unit {0}
AreFitParts v bytes [] (part ∷ parts) = ⊥
AreFitParts v bytes (p ∷ ps) [] = Unit {0}
AreFitParts v bytes (p ∷ ps) (part ∷ parts) = (fits_at v bytes p.selector p.offset (length part) ≡ true) × AreFitParts v bytes ps parts

abbrev pub IsFitOutcome : View → List Pointer → Outcome → Type 0
IsFitOutcome v ps (Fails error values) = Unit {0}
IsFitOutcome v ps (Does d) = AreFitParts v v.bytes ps d.parts
IsFitOutcome v ps Waits = Unit {0}
IsFitOutcome v ps (Leaves action code) = Unit {0}

-- what changes, with the registers behind it, where those at its return have the selectors of before
abbrev pub OutcomeMoves : Before → Cpu → Outcome → Type 0
OutcomeMoves b c (Fails error values) = Unit {0}
OutcomeMoves b c (Does d) = AllMoves b (without c (gone_indexes b.known d.changes)) d.changes
OutcomeMoves b c Waits = Unit {0}
OutcomeMoves b c (Leaves action code) = Unit {0}

-- what a ruling by a call's words changes
pub record RuledMoves (ruling : Before → (ℕ → ℕ) → Ruling) : Type 0 where
  pub moves : (b : Before) (a : ℕ → ℕ) (c : Cpu) → SameSelectors c b.cpu
      → let r = ruling b a in AllMoves b (without c (gone_indexes b.known r.changes)) r.changes

pub record IsLawful (r : CallRow) : Type 0 where
  pub fits : (b : Before) (a : ℕ → ℕ) → are_good b.view (pointers_in r.slots b.view a) ≡ true → IsFitOutcome b.view (targets_in r.slots a) (r.outcome b a)
  pub moves : (b : Before) (a : ℕ → ℕ) (c : Cpu) → SameSelectors c b.cpu → OutcomeMoves b c (r.outcome b a)

-- no name, map or lock changes, nothing is written and no input goes, and the process goes on with its selectors
pub record ChangesNothing (b : Before) (e : Effect) : Type 0 where
  pub changes : e.changes ≡ []
  pub bytes : e.bytes ≡ b.view.bytes
  pub input : e.input ≡ b.input
  pub piece : e.piece ≡ []
  pub state : e.state ≡ Live
  pub selectors : SameSelectors e.cpu b.cpu

-- where this is the line of a call with an error, nothing changes
abbrev pub ErrorChangesNothing : Before → Effect → Type 0
ErrorChangesNothing b e =
    (number : ℕ) (name : List ℕ) (args : List Argument) (error : ℕ) (values : List Argument) (rest : List Line)
    → e.lines ≡ Calls number name args error values ∷ rest → error ≢ 0 → ChangesNothing b e
