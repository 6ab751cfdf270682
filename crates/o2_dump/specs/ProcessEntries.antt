-- The processes in a core image: number, state, code, registers, and what each holds.
use Rattle.std.specs.Prelude.{ℕ, ◌+◌, ◌==◌, ◌&&◌, not, List, [], ◌∷◌, ◌++◌, nat_le, nat_lt, Result, Ok, if◌then◌else◌}
use Rattle.o2_ne.specs.Words.{byte_at, word_at, long_at}
use Rattle.o2_ne.specs.Checks.{Check, all_hold, ◌>>=◌}
use Rattle.o2_ne.specs.Steps.{steps}
use Rattle.o2_dump.specs.declared.fault.CoreFault.{CoreFault}
use Rattle.o2_dump.specs.declared.parts.Held.{Held}
use Rattle.o2_dump.specs.declared.parts.Process.{Process}
use Rattle.o2_dump.specs.declared.parts.State.{State}
use Rattle.o2_dump.specs.declared.parts.State.TheVariants.{Live, Exited, Trapped}
use Rattle.o2_dump.specs.FileFields.{whole, right, descriptor_at, registers_at}

-- what a process holds, as an entry of 18 bytes at place p: index, descriptor, number of the segment, number of holds
abbrev pub held_checks : List ℕ → ℕ → ℕ → ℕ → List (Check CoreFault)
held_checks file segments least p =
    whole file p 2
    ∷ right p (nat_le least (word_at file p))
    ∷ whole file (p + 2) 8
    ∷ right p (byte_at file (p + 8) == 0 && byte_at file (p + 9) == 0)
    ∷ whole file (p + 10) 4
    ∷ right p (nat_lt (long_at file (p + 10)) segments)
    ∷ whole file (p + 14) 4
    ∷ right p (not (long_at file (p + 14) == 0))
    ∷ []

abbrev pub held_at : List ℕ → ℕ → Held
held_at file p = record {
  index = word_at file p;
  descriptor = descriptor_at file (p + 2);
  segment = long_at file (p + 10);
  holds = long_at file (p + 14);
}

-- what a process holds so far, the least index that may come next, and the place of the next entry
pub record HeldSoFar : Type 0 where
  pub found : List Held
  pub least : ℕ
  pub place : ℕ

-- the next entry of a process
unfoldable pub held_step : List ℕ → ℕ → HeldSoFar → Result HeldSoFar CoreFault
held_step file segments s = do
  _ ← all_hold (held_checks file segments s.least s.place)
  Ok (record {
    found = s.found ++ held_at file s.place ∷ [];
    least = word_at file s.place + 1;
    place = s.place + 18;
  })

-- 38 bytes of a process at place p: number, state, code, fourteen registers, and how many entries follow
abbrev pub process_checks : List ℕ → ℕ → ℕ → List (Check CoreFault)
process_checks file least p =
    whole file p 2
    ∷ right p (nat_le least (word_at file p))
    ∷ whole file (p + 2) 2
    ∷ right p (nat_le (word_at file (p + 2)) 2)
    ∷ whole file (p + 4) 34
    ∷ []

abbrev pub state_of : ℕ → State
state_of n = if n == 0 then Live else (if n == 1 then Exited else Trapped)

abbrev pub process_at : List ℕ → ℕ → List Held → Process
process_at file p held = record {
  number = word_at file p;
  state = state_of (word_at file (p + 2));
  code = word_at file (p + 4);
  registers = registers_at file (p + 6);
  held = held;
}

-- the entries of the process at place p
abbrev pub held_of : List ℕ → ℕ → ℕ → Result HeldSoFar CoreFault
held_of file segments p =
    steps (held_step file segments) (long_at file (p + 34)) (record { found = []; least = 0; place = p + 38 })

-- the processes so far, the least number that may come next, and the place behind them
pub record ProcessesSoFar : Type 0 where
  pub found : List Process
  pub least : ℕ
  pub place : ℕ

-- the next process
unfoldable pub process_step : List ℕ → ℕ → ProcessesSoFar → Result ProcessesSoFar CoreFault
process_step file segments s = do
  _ ← all_hold (process_checks file s.least s.place)
  held ← held_of file segments s.place
  Ok (record {
    found = s.found ++ process_at file s.place held.found ∷ [];
    least = word_at file s.place + 1;
    place = held.place;
  })
