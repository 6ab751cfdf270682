-- The calls on RAM semaphores by the numbers of their services: where each has its pointer, its ruling, and what it writes.
use Rattle.std.specs.Prelude.{ℕ, ◌==◌, ◌||◌, Bool, List, [], ◌∷◌, if◌then◌else◌}
use Rattle.o2_world.specs.declared.types.Slot.{Slot}
use Rattle.o2_world.specs.declared.types.Slot.TheVariants.{ToWords}
use Rattle.o2_world.specs.Calls.{long_bytes, timeout_in, wanted_slots}
use Rattle.o2_world.specs.SemRulings.{SemRuling, Becomes, requesting, waiting_for}

-- a call that wants a clear semaphore has a timeout behind its pointer
abbrev pub is_wanting : (service : ℕ) → Bool
is_wanting service = (service == 25) || (service == 27)

abbrev pub sem_slots : (service : ℕ) → List Slot
sem_slots service = if is_wanting service then wanted_slots else ToWords 2 ∷ []

-- where the words of the pointer begin
abbrev pub place_of : (service : ℕ) → ℕ
place_of service = if is_wanting service then 2 else 0

abbrev pub sem_ruling : (service : ℕ) → (ℕ → ℕ) → (number word : ℕ) → SemRuling
sem_ruling service a number word =
    if service == 25 then requesting word number (timeout_in a)
    else if service == 26 then Becomes 0
    else if service == 27 then waiting_for word (timeout_in a)
    else Becomes 0xFFFF

-- DosSemWait writes nothing
abbrev pub sem_parts : (service word : ℕ) → List (List ℕ)
sem_parts service word = if service == 27 then [] else long_bytes word ∷ []
