-- The lines of a segment's code.
use Rattle.std.specs.Prelude.{◌≡◌, ℕ, ◌+◌, ◌%◌, List, [], ◌∷◌, ◌++◌, codes, drop, take, slice_index}
use Rattle.o2_isa.specs.declared.rows.Decoded.{Decoded}
use Rattle.o2_isa.specs.declared.rows.Decoded.TheVariants.{One, Invalid, TooLong, Need}
use Rattle.o2_isa.specs.Reading.{decoded}
use Rattle.o2_text.specs.Text.{hex2, text_of}
use Rattle.os2list.specs.declared.lines.CodeLine.{CodeLine}

-- what the bytes from a place on spell
abbrev pub spelled : List ℕ → ℕ → Decoded
spelled bytes at = decoded (take 10 (drop at bytes))

-- a byte that begins no instruction
abbrev pub byte_text : ℕ → List ℕ
byte_text byte = codes "db 0x" ++ hex2 byte

-- the text of a line: the instruction's, with the place behind it as its IP, or the byte's
abbrev pub line_text : ℕ → ℕ → Decoded → List ℕ
line_text at byte (One i n) = text_of i ((at + n) % 65536)
line_text at byte Invalid = byte_text byte
line_text at byte TooLong = byte_text byte
line_text at byte Need = byte_text byte

-- how many bytes it shows
abbrev pub line_count : Decoded → ℕ
line_count (One i n) = n
line_count Invalid = 1
line_count TooLong = 1
line_count Need = 1

-- the line at a place
pub record IsLine (bytes : List ℕ) (place : ℕ) (l : CodeLine) : Type 0 where
  pub at : l.at ≡ place
  pub count : l.count ≡ line_count (spelled bytes place)
  pub text : l.text.items ≡ line_text place (slice_index bytes place) (spelled bytes place)

-- lines show the bytes from one place up to another, each from where the one before it ends
abbrev pub Shows : List ℕ → ℕ → List CodeLine → ℕ → Type 0
Shows bytes from [] to = from ≡ to
Shows bytes from (l ∷ ls) to = IsLine bytes from l × Shows bytes (from + l.count) ls to
