-- Bytes as letters in a column.
use Rattle.std.specs.Prelude.{ℕ, ◌&&◌, List, map, nat_le, if◌then◌else◌}

-- a printable byte as it is, any other as a dot
abbrev pub letter : ℕ → ℕ
letter b = if nat_le 32 b && nat_le b 126 then b else 46

abbrev pub letters : List ℕ → List ℕ
letters bytes = map letter bytes
