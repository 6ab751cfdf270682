-- Packed decimals: two decimal digits in a byte.
use Rattle.std.specs.Prelude.{ℕ, ◌+◌, ◌*◌, ◌/◌, ◌%◌}

-- a number below 100 as a byte, with its tens in the high four bits and its units in the low four
abbrev pub packed : ℕ → ℕ
packed n = n / 10 * 16 + n % 10
