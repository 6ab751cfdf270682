-- When a line of the report can be told by its text, and what its text shows of it.
use Rattle.std.specs.Prelude.{◌≡◌, ℕ, ◌<◌, ◌^◌, ◌==◌, Bool, false, List, [], ◌∷◌, if◌then◌else◌, decimal}
use Rattle.std.specs.List.{list_any}
use Rattle.std.specs.Str.Parse.{digits_value}
use Rattle.o2_world.specs.World.{Line, Starts, HoldsBy, DropsBy, Calls, Exits, Ends, Traps}
use Rattle.o2_world.specs.Text.{process_of}
use Rattle.o2_world.specs.Starts.{Start}

-- a text has this byte
abbrev pub has : ℕ → List ℕ → Bool
has byte text = list_any (λ x. x == byte) text

-- the names in a line end where they end: a module's name and a cause before the line's end, a call's name before a blank
abbrev pub HasPlainNames : Line → Type 0
HasPlainNames (Starts p name) = has 10 name ≡ false
HasPlainNames (HoldsBy p s cause) = has 10 cause ≡ false
HasPlainNames (DropsBy p s cause) = has 10 cause ≡ false
HasPlainNames (Calls p name args error values) = has 32 name ≡ false
HasPlainNames (Exits p action code) = Unit {0}
HasPlainNames (Ends p code) = Unit {0}
HasPlainNames (Traps p vector s o) = Unit {0}

-- a decimal number has at most 64 digits
pub record IsPlain (l : Line) : Type 0 where
  pub process : process_of l < 10 ^ 64
  pub names : HasPlainNames l

abbrev pub ArePlain : List Line → Type 0
ArePlain [] = Unit {0}
ArePlain (l ∷ ls) = IsPlain l × ArePlain ls

-- the name of the module that a process runs has no line end
abbrev pub IsPlainStart : Start → Type 0
IsPlainStart s = has 10 s.program.name ≡ false

-- the number that the digits of a number show: below 10 ^ 64 the number itself
abbrev pub shown_number : ℕ → ℕ
shown_number n = digits_value 10 (decimal n)

-- what the text of a line shows: of the values those behind error 0
abbrev pub shown : Line → Line
shown (Starts p name) = Starts p name
shown (HoldsBy p s cause) = HoldsBy p s cause
shown (DropsBy p s cause) = DropsBy p s cause
shown (Calls p name args error values) = Calls p name args (shown_number error) (if error == 0 then values else [])
shown (Exits p action code) = Exits p action code
shown (Ends p code) = Ends p (shown_number code)
shown (Traps p vector s o) = Traps p (shown_number vector) s o
