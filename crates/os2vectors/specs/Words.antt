-- What the word OPCODE asks for.
use Rattle.std.specs.Prelude.{ℕ, ◌+◌, ◌*◌, ◌-◌, ◌&&◌, nat_le, List, [], ◌∷◌, length, Option, Some, None, option_map, option_and_then, if◌then◌else◌}

-- the value of a hexadecimal digit, in either case
abbrev pub digit_value : ℕ → Option ℕ
digit_value c =
    if nat_le 48 c && nat_le c 57 then Some (c - 48)
    else if nat_le 65 c && nat_le c 70 then Some (c - 65 + 10)
    else if nat_le 97 c && nat_le c 102 then Some (c - 97 + 10)
    else None

-- the bytes that pairs of digits write, where the first digit of a pair may have been read
abbrev pub pair_bytes : List ℕ → Option ℕ → Option (List ℕ)
pair_bytes [] None = Some []
pair_bytes [] (Some high) = None
pair_bytes (c ∷ cs) None = option_and_then (λ d. pair_bytes cs (Some d)) (digit_value c)
pair_bytes (c ∷ cs) (Some high) = option_and_then (λ d. option_map (λ bs. (high * 16 + d) ∷ bs) (pair_bytes cs None)) (digit_value c)

-- one to ten of them
abbrev pub few : Option (List ℕ) → Option (List ℕ)
few None = None
few (Some bs) = if nat_le 1 (length bs) && nat_le (length bs) 10 then Some bs else None

abbrev pub opcode_bytes : List ℕ → Option (List ℕ)
opcode_bytes text = few (pair_bytes text None)
