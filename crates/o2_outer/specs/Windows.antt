-- Blocks of a file that follow one another, in memory.
use Rattle.std.specs.Prelude.{◌≡◌, ◌≢◌, ℕ, ◌+◌, ◌-◌, ◌*◌, ◌<◌, ◌≤◌, List, ◌++◌, take, drop, length, Option, Some}
use Rattle.std.specs.Io.KnownBytes.{prepend_known}

-- bytes with others in place of those from a place on
abbrev pub with_bytes : List ℕ → ℕ → List ℕ → List ℕ
with_bytes bytes at new = take at bytes ++ new ++ drop (at + length new) bytes

-- of so many blocks of 512 bytes from the first one on, the i-th holds these
pub record Has (bytes : List ℕ) (first len i : ℕ) (block : List ℕ) : Type 0 where
  pub behind : first ≤ i
  pub within : i - first < len
  pub same : block ≡ take 512 (drop (512 * (i - first)) bytes)

-- all but one are as they were
pub record KeepOthers (old : List ℕ) (len : ℕ) (new : List ℕ) (now first i : ℕ) : Type 0 where
  pub each : (b : ℕ) (block : List ℕ) → b ≢ i → Has old first len b block → Has new first now b block
  pub back : (b : ℕ) (block : List ℕ) → b ≢ i → Has new first now b block → Has old first len b block

-- what a reader gave: its whole blocks are the blocks here, from the i-th on
pub record IsFilled (old new : Option (List ℕ)) (i : ℕ) (bytes : List ℕ) (first len : ℕ) : Type 0 where
  pub read : List ℕ
  pub given : (t : List ℕ) → old ≡ Some t → prepend_known read new ≡ Some t
  pub whole : 512 * len ≤ length read
  pub same : take (512 * len) bytes ≡ take (512 * len) read
  pub from_first : 0 < len → first ≡ i
