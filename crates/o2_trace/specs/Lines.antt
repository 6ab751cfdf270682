-- The line of a step.
use Rattle.std.specs.Prelude.{ℕ, ◌+◌, ◌-◌, ◌*◌, ◌%◌, ◌==◌, min, if◌then◌else◌, List, ◌++◌, length, take, replicate, codes}
use Rattle.std.specs.Fmt.{decimal}
use Rattle.o2_isa.specs.declared.rows.Decoded.{Decoded}
use Rattle.o2_isa.specs.declared.rows.Decoded.TheVariants.{One, Invalid, TooLong, Need}
use Rattle.o2_isa.specs.Reading.{decoded}
use Rattle.o2_text.specs.Text.{text_of}
use Rattle.o2_tool.specs.Text.{hex4, hex_text, shown_text}
use Rattle.o2_trace.specs.declared.step.Before.{Before}
use Rattle.o2_trace.specs.declared.waiter.Waiter.{Waiter}

-- what the bytes at CS:IP spell
abbrev pub at_ip : Before → Decoded
at_ip b = decoded (take (min b.count 10) b.bytes)

-- the IP behind the instruction at this one
unfoldable pub next_ip : ℕ → Decoded → ℕ
next_ip ip (One i n) = (ip + n) % 65536
next_ip ip Invalid = ip
next_ip ip TooLong = ip
next_ip ip Need = ip

-- the text of the instruction, or that there is none
unfoldable pub code_text : ℕ → Decoded → List ℕ
code_text ip (One i n) = shown_text (text_of i ((ip + n) % 65536))
code_text ip Invalid = codes "no instruction"
code_text ip TooLong = codes "no instruction"
code_text ip Need = codes "no instruction"

-- how many bytes are shown: those of the instruction, or all that were looked at
unfoldable pub shown_count : ℕ → Decoded → ℕ
shown_count known (One i n) = min known n
shown_count known Invalid = known
shown_count known TooLong = known
shown_count known Need = known

-- the blanks behind what takes some of a column
abbrev pub gap : ℕ → ℕ → List ℕ
gap width taken = shown_text (replicate (width - taken) 32)

-- process, CS:IP, and bytes in a column of twenty digits
abbrev pub front_text : Before → ℕ → List ℕ
front_text b count =
    decimal b.process ++ (codes " " ++ (hex4 b.cpu.cs ++ (codes ":" ++ (hex4 b.cpu.ip ++ (codes " "
    ++ (hex_text (take count b.bytes) ++ (gap 20 (2 * min count 10) ++ codes " ")))))))

-- the text, and behind it in a column what has changed
abbrev pub rest_text : List ℕ → List ℕ → List ℕ
rest_text text changed = if length changed == 0 then text else text ++ (gap 32 (min (length text) 32) ++ changed)

abbrev pub waiter_text : Waiter → List ℕ
waiter_text w =
    codes "process " ++ (decimal w.process ++ (codes " waits at " ++ (hex4 w.cs ++ (codes ":" ++ (hex4 w.ip ++ (codes " in " ++ shown_text w.call.now))))))

abbrev pub step_text : Before → List ℕ → List ℕ
step_text b changed =
    front_text b (shown_count (min b.count 10) (at_ip b)) ++ rest_text (code_text b.cpu.ip (at_ip b)) changed
