-- The lines of the report as bytes.
use Rattle.std.specs.Prelude.{ℕ, ◌+◌, ◌/◌, ◌%◌, List, [], ◌∷◌, ◌++◌, if◌then◌else◌, nat_lt, ◌==◌, decimal, codes, flat_map}
use Rattle.o2_world.specs.declared.types.Argument.{Argument}
use Rattle.o2_world.specs.declared.types.Argument.TheVariants.{Word, Long, Far}
use Rattle.o2_world.specs.World.{Line, Starts, HoldsBy, DropsBy, Calls, Exits, Ends, Traps}

-- an upper-case hexadecimal digit
abbrev pub hex_digit : ℕ → ℕ
hex_digit d = if nat_lt d 10 then 48 + d else 55 + d

-- four of them
unfoldable pub hex4 : ℕ → List ℕ
hex4 n = hex_digit (n / 4096) ∷ hex_digit (n / 256 % 16) ∷ hex_digit (n / 16 % 16) ∷ hex_digit (n % 16) ∷ []

abbrev pub far : ℕ → ℕ → List ℕ
far selector offset = hex4 selector ++ 58 ∷ [] ++ hex4 offset

-- an argument or a value, behind a blank
abbrev pub argument_text : Argument → List ℕ
argument_text (Word n) = 32 ∷ hex4 n
argument_text (Long high low) = 32 ∷ hex4 high ++ hex4 low
argument_text (Far selector offset) = 32 ∷ far selector offset

-- values stand only behind the error 0
abbrev pub values_text : ℕ → List Argument → List ℕ
values_text error values = if error == 0 then flat_map argument_text values else []

-- a line without its number and its end
abbrev pub rest_of : Line → List ℕ
rest_of (Starts p name) = codes " start " ++ name
rest_of (HoldsBy p s cause) = codes " hold " ++ hex4 s ++ codes " by " ++ cause
rest_of (DropsBy p s cause) = codes " drop " ++ hex4 s ++ codes " by " ++ cause
rest_of (Calls p name args error values) = codes " call " ++ name ++ flat_map argument_text args ++ codes " = " ++ decimal error ++ values_text error values
rest_of (Exits p action code) = codes " call DosExit " ++ hex4 action ++ codes " " ++ hex4 code
rest_of (Ends p code) = codes " end exit " ++ decimal code
rest_of (Traps p vector s o) = codes " end trap " ++ decimal vector ++ codes " at " ++ far s o

abbrev pub process_of : Line → ℕ
process_of (Starts p name) = p
process_of (HoldsBy p s cause) = p
process_of (DropsBy p s cause) = p
process_of (Calls p name args error values) = p
process_of (Exits p action code) = p
process_of (Ends p code) = p
process_of (Traps p vector s o) = p

unfoldable pub line_text : Line → List ℕ
line_text line = decimal (process_of line) ++ rest_of line ++ 10 ∷ []

abbrev pub lines_text : List Line → List ℕ
lines_text lines = flat_map line_text lines
