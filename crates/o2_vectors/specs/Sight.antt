-- What a processor sees of a state, and what a step makes of it.
use Rattle.std.specs.Prelude.{◌≡◌, ℕ, true, List, [], ◌∷◌, slice_index_or, ◌==◌, ◌+◌, take, drop, codes, Option, Some, None, if◌then◌else◌}
use Rattle.o2_desc.specs.Bits.{readable_code, writable_data}
use Rattle.o2_isa.specs.declared.cpu.Outcome.{Outcome}
use Rattle.o2_isa.specs.View.{Hold, bound_registers, simple_view}
use Rattle.o2_isa.specs.Steps.{State, state}
use Rattle.o2_isa.specs.Step.{Answers, stepped}
use Rattle.o2_isa.specs.declared.rows.Decoded.{Decoded}
use Rattle.o2_isa.specs.declared.rows.Decoded.TheVariants.{One}
use Rattle.o2_isa.specs.Reading.{decoded}
use Rattle.o2_text.specs.Text.{text_of}
use Rattle.o2_tool.specs.Text.{shown_text}
use Rattle.o2_bus.specs.declared.plain.Plain.{Plain}
use Rattle.o2_bus.specs.Plain.{held_in, shown_in, bytes_in}
use Rattle.o2_vectors.specs.declared.state.Snapshot.{Snapshot}

-- the indexes 1 to 4 of the local descriptor table hold code that can be read, and three times data that can be written
abbrev pub held_segments : ℕ → Option Hold
held_segments i =
    if i == 4 then Some (record { name = 3; rights = writable_data })
    else if i == 3 then Some (record { name = 2; rights = writable_data })
    else if i == 2 then Some (record { name = 1; rights = writable_data })
    else if i == 1 then Some (record { name = 0; rights = readable_code })
    else None

-- the bytes of the four segments
abbrev pub segments_of : Snapshot → List (List ℕ)
segments_of s = s.code ∷ (s.data ∷ (s.extra ∷ (s.stack ∷ [])))

-- the bytes of a number: none behind the fourth
abbrev pub bytes_at : List (List ℕ) → ℕ → List ℕ
bytes_at m n = slice_index_or m n []

-- what the processor sees
abbrev pub sight : Snapshot → State
sight s = state s.cpu (simple_view held_segments (λ n. true) (bytes_at (segments_of s)) (bound_registers held_segments s.cpu))

-- a step from one state comes to the other with this answer; where it doesn't complete, both are the same
abbrev pub Steps : Snapshot → Snapshot → Outcome → Type 0
Steps before after outcome = Answers outcome (sight after) (sight before) (stepped (sight before))

-- a memory in which process 1 holds the four segments
pub record IsMemory (p : Plain) (m : List (List ℕ)) : Type 0 where
  pub held : (i : ℕ) → held_in p 1 i ≡ held_segments i
  pub shown : (n : ℕ) → shown_in p n ≡ true
  pub bytes : (n : ℕ) → bytes_in p n ≡ bytes_at m n

-- the text of what bytes at an IP spell
abbrev pub spelling_text : ℕ → Decoded → List ℕ
spelling_text ip (One i n) = shown_text (text_of i (ip + n))
spelling_text ip _ = codes "no instruction"

abbrev pub name_text : ℕ → List ℕ → List ℕ
name_text ip code = spelling_text ip (decoded (take 10 (drop ip code)))

-- the bytes of what bytes spell, none where that is no instruction
abbrev pub spelling_bytes : List ℕ → Decoded → List ℕ
spelling_bytes front (One i n) = take n front
spelling_bytes front _ = []

abbrev pub instruction_bytes : ℕ → List ℕ → List ℕ
instruction_bytes ip code = spelling_bytes (take 10 (drop ip code)) (decoded (take 10 (drop ip code)))
