-- The calls on a semaphore that the lines of the report tell, each with its ruling.
use Rattle.std.specs.Prelude.{ℕ, ◌+◌, ◌*◌, ◌==◌, ◌&&◌, Bool, List, [], ◌∷◌, ◌++◌, map, codes, if◌then◌else◌}
use Rattle.o2_isa.specs.View.{ring3}
use Rattle.o2_world.specs.declared.types.Argument.{Argument}
use Rattle.o2_world.specs.declared.types.Argument.TheVariants.{Word, Long, Far}
use Rattle.o2_world.specs.Known.{same_text}
use Rattle.o2_world.specs.SemRulings.{SemRuling, Becomes, Refuses}
use Rattle.o2_world.specs.World.{Line, Starts, HoldsBy, DropsBy, Calls, Exits, Ends, Traps}
use Rattle.o2_ramsem.specs.Calls.{SemCall, Requests, Clears, Awaits, Sets}

-- where a semaphore's four bytes lie: a selector and the offset of the first, and the name of the segment that the selector names
pub record Place : Type 0 where
  pub selector : ℕ
  pub offset : ℕ
  pub name : ℕ

-- a line with error 0 says that the number became this one
abbrev pub ruling_told : (behind error : ℕ) → SemRuling
ruling_told behind error = if error == 0 then Becomes behind else Refuses error

-- the call on a semaphore that has this name, none where it is the name of another call
abbrev pub call_told : (process : ℕ) → (name : List ℕ) → (timeout error : ℕ) → List (SemCall × SemRuling)
call_told p name timeout error =
    if same_text name (codes "DosSemRequest") then (Requests p timeout, ruling_told p error) ∷ []
    else if same_text name (codes "DosSemClear") then (Clears p, ruling_told 0 error) ∷ []
    else if same_text name (codes "DosSemWait") then (Awaits p timeout, ruling_told 0 error) ∷ []
    else if same_text name (codes "DosSemSet") then (Sets p, ruling_told 0xFFFF error) ∷ []
    else []

-- the timeout behind a call's pointer, 0 where it has none
abbrev pub timeout_told : List Argument → ℕ
timeout_told [] = 0
timeout_told (Word n ∷ args) = 0
timeout_told (Long high low ∷ args) = low + 65536 * high
timeout_told (Far selector offset ∷ args) = 0

-- a pointer that points there; selectors are compared with both low bits set
abbrev pub is_at : Place → (selector offset : ℕ) → Bool
is_at place selector offset = (ring3 selector == ring3 place.selector) && (offset == place.offset)

-- a call whose first argument is a pointer to the place
abbrev pub call_at : Place → (process : ℕ) → (name : List ℕ) → List Argument → (error : ℕ) → List (SemCall × SemRuling)
call_at place p name [] error = []
call_at place p name (Word n ∷ args) error = []
call_at place p name (Long high low ∷ args) error = []
call_at place p name (Far selector offset ∷ args) error = if is_at place selector offset then call_told p name (timeout_told args) error else []

abbrev pub told_by : Place → Line → List (SemCall × SemRuling)
told_by place (Starts p name) = []
told_by place (HoldsBy p s cause) = []
told_by place (DropsBy p s cause) = []
told_by place (Calls p name args error values) = call_at place p name args error
told_by place (Exits p action code) = []
told_by place (Ends p code) = []
told_by place (Traps p vector s o) = []

-- the calls on the semaphore at a place that lines tell, in their order; a call that waits has no line
abbrev pub told : Place → List Line → List (SemCall × SemRuling)
told place [] = []
told place (l ∷ ls) = told_by place l ++ told place ls

-- without their rulings
abbrev pub calls_in : List (SemCall × SemRuling) → List SemCall
calls_in ls = map (λ (l : SemCall × SemRuling). l.0) ls
