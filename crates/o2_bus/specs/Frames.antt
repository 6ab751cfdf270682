-- A plain memory as it is seen from outside, and what a call leaves of it.
use Rattle.std.specs.Prelude.{◌≡◌, ℕ, Bool, true, List, [], length, Option, None}
use Rattle.o2_isa.specs.View.{Hold}
use Rattle.o2_bus.specs.declared.plain.Plain.{Plain}
use Rattle.o2_bus.specs.Plain.{held_in, shown_in, bytes_in, count_in}

-- what all processes hold, which names are present, the bytes of each name, and how many names there are
pub record Memory : Type 0 where
  pub held : ℕ → ℕ → Option Hold
  pub shown : ℕ → Bool
  pub bytes : ℕ → List ℕ
  pub count : ℕ

abbrev pub memory : Plain → Memory
memory p = record { held = held_in p; shown = shown_in p; bytes = bytes_in p; count = count_in p }

-- no names, and nothing is held
abbrev pub no_memory : Memory
no_memory = record { held = λ p i. None; shown = λ n. true; bytes = λ n. []; count = 0 }

-- it is seen so
pub record IsSeenAs (p : Plain) (m : Memory) : Type 0 where
  pub held : (q i : ℕ) → held_in p q i ≡ m.held q i
  pub shown : (n : ℕ) → shown_in p n ≡ m.shown n
  pub bytes : (n : ℕ) → bytes_in p n ≡ m.bytes n
  pub count : count_in p ≡ m.count

-- what all processes hold, which names are present, how many bytes each has, and how many there are
pub record KeepsSegments (old new : Plain) : Type 0 where
  pub held : held_in new ≡ held_in old
  pub shown : (n : ℕ) → shown_in new n ≡ shown_in old n
  pub sizes : (n : ℕ) → length (bytes_in new n) ≡ length (bytes_in old n)
  pub count : count_in new ≡ count_in old
