-- Parts of a list of bytes.
use Rattle.std.specs.Prelude.{ℕ, ◌+◌, List, ◌++◌, length, take, drop}

-- a list with these bytes from a place on
abbrev pub put_part : List ℕ → ℕ → List ℕ → List ℕ
put_part bytes at part = take at bytes ++ part ++ drop (at + length part) bytes
