-- Bytes as a text that any terminal shows.
use Rattle.std.specs.Prelude.{ℕ, ◌/◌, ◌%◌, ◌-◌, ◌^◌, true, false, ◌&&◌, nat_le, nat_lt, if◌then◌else◌, List, [], ◌∷◌, ◌++◌}
use Rattle.std.specs.Fmt.{digit_glyph, digits, format_spec, padded_integral}

-- printable ASCII is written as it is, any other byte as \x and two hexadecimal digits
abbrev pub byte_text : ℕ → List ℕ
byte_text b = if nat_le 32 b && nat_lt b 127 then b ∷ [] else 92 ∷ (120 ∷ (digit_glyph true (b / 16) ∷ (digit_glyph true (b % 16) ∷ [])))

abbrev pub shown_text : List ℕ → List ℕ
shown_text [] = []
shown_text (b ∷ bs) = byte_text b ++ shown_text bs

-- bytes in hexadecimal digits, two of each
abbrev pub pair_text : ℕ → List ℕ
pair_text b = digit_glyph true (b / 16) ∷ (digit_glyph true (b % 16) ∷ [])

abbrev pub hex_text : List ℕ → List ℕ
hex_text [] = []
hex_text (b ∷ bs) = pair_text b ++ hex_text bs

-- a number in four hexadecimal digits, as `{:04X}` writes it
abbrev pub hex4 : ℕ → List ℕ
hex4 n = padded_integral (format_spec 32 0 4 4 (2 ^ 64 - 1)) false [] (digits 16 true n)
