-- What a source over a reader has left.
use Rattle.std.specs.Prelude.{ℕ, Bool, true, false, List, Option, Some}
use Rattle.std.specs.Io.KnownBytes.{prepend_known}

-- the bytes that are held, and then those that the reader has
abbrev pub bytes_left : List ℕ → Option (List ℕ) → Option (List ℕ)
bytes_left held remaining = prepend_known held remaining

-- the same, where the reader's end may have been seen: then it is asked no more
abbrev pub left_behind : (ended : Bool) → List ℕ → Option (List ℕ) → Option (List ℕ)
left_behind true held remaining = Some held
left_behind false held remaining = bytes_left held remaining
