-- What the calls on a RAM semaphore do, by its number: four bytes, the low one first, that are 0 where it is clear.
use Rattle.std.specs.Prelude.{ℕ, ◌+◌, ◌*◌, List, not, ◌||◌, ◌==◌, if◌then◌else◌}
use Rattle.o2_world.specs.Heaps.{word}

-- a call answers 0 and leaves this number, waits, or answers an error; where it waits or has an error the number stays
pub data SemRuling : Type 0 where
  Becomes : ℕ → SemRuling
  Waiting : SemRuling
  Refuses : ℕ → SemRuling

-- the number of a semaphore by its bytes
abbrev pub number_in : List ℕ → ℕ
number_in bytes = word bytes 0 + 65536 * word bytes 2

-- a call that wants a clear semaphore, whose number it leaves as this one
abbrev pub wanting : ℕ → ℕ → ℕ → SemRuling
wanting word behind timeout =
    if not ((timeout == 0) || (timeout == 0xFFFF_FFFF)) then Refuses 87
    else if word == 0 then Becomes behind
    else if timeout == 0 then Refuses 121
    else Waiting

-- DosSemRequest of a process
abbrev pub requesting : ℕ → ℕ → ℕ → SemRuling
requesting word number timeout = wanting word number timeout

-- DosSemWait
abbrev pub waiting_for : ℕ → ℕ → SemRuling
waiting_for word timeout = wanting word word timeout
