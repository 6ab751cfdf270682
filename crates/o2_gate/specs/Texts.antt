-- The text at the front of bytes.
use Rattle.std.specs.Prelude.{◌≡◌, ℕ, ◌-◌, ◌<◌, ◌≤◌, ◌++◌, List, length, min, take, Option, Some, None}
use Rattle.o2_world.specs.SharedNames.{before_zero, looked_at}
use Rattle.o2_gate.specs.declared.text.TextArgument.{TextArgument}

-- The text behind a pointer: up to a zero among its bytes, where there is one.
abbrev pub text_of : TextArgument → Option (List ℕ)
text_of t = before_zero t.bytes

-- how many bytes are looked at from an offset on, in a segment of such a size
abbrev pub counted : Option ℕ → (offset : ℕ) → ℕ
counted None offset = 1
counted (Some size) offset = min (size - offset) 129

-- whatever comes behind these bytes, the text is that of these, and as many are looked at
pub record IsTextOf (bytes text : List ℕ) : Type 0 where
  pub text_is : (rest : List ℕ) → before_zero (take 129 (bytes ++ rest)) ≡ before_zero text
  pub size_is : (rest : List ℕ) → looked_at 129 (bytes ++ rest) ≡ looked_at 129 text
  pub fits : looked_at 129 text ≤ length bytes

-- they end before a zero and before the 129th
pub record IsCutOff (bytes : List ℕ) : Type 0 where
  pub few : length bytes < 129
  pub size_is : looked_at 129 bytes ≡ 129
