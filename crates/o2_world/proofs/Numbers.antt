-- Processes by their numbers, against their places.
use Rattle.std.proofs.Common.{◌≡◌, ℕ, ◌-◌, ◌<◌, ◌==◌, Bool, true, false, List, Some, None, if◌then◌else◌, refl, arith, slice_set}
use Rattle.std.specs.Prelude.{slice_get}
use Rattle.o2_world.specs.World.{Process}
use Rattle.o2_world.specs.Holders.{process_at, with_process}
use Rattle.o2_world.specs.Changes.{at_place, at_number}
use Rattle.o2_world.proofs.MapLemmas.{if_no}

above_zero : (n : ℕ) → (n == 0) ≡ false → 0 < n
above_zero n e = grind arith

pub not_zero : (n : ℕ) → 0 < n → (n == 0) ≡ false
not_zero n h = grind arith

pub zero_is : (n : ℕ) → (n == 0) ≡ true → n ≡ 0
zero_is n e = grind arith

-- a number that has a process is not 0
record IsThereAt (ps : List Process) (n : ℕ) (p : Process) : Type 0 where
  some : 0 < n
  there : slice_get ps (n - 1) ≡ Some p

there_at : (ps : List Process) (n : ℕ) (p : Process) → process_at ps n ≡ Some p → IsThereAt ps n p
there_at ps n p e = go (n == 0) refl e
  where
    go : (b : Bool) → (n == 0) ≡ b → (if b then None else slice_get ps (n - 1)) ≡ Some p → IsThereAt ps n p
    go true is e = absurd (cc)
    go false is e = record { some = above_zero n is; there = e }

pub number_some : (ps : List Process) (n : ℕ) (p : Process) → process_at ps n ≡ Some p → 0 < n
number_some ps n p e = (there_at ps n p e).some

pub at_place_of : (ps : List Process) (n : ℕ) (p : Process) → process_at ps n ≡ Some p → slice_get ps (n - 1) ≡ Some p
at_place_of ps n p e = (there_at ps n p e).there

pub process_is : (ps : List Process) (n : ℕ) → 0 < n → process_at ps n ≡ slice_get ps (n - 1)
process_is ps n h = if_no (n == 0) None (slice_get ps (n - 1)) (not_zero n h)

pub with_is : (ps : List Process) (n : ℕ) (p : Process) → 0 < n → with_process ps n p ≡ slice_set ps (n - 1) p
with_is ps n p h = if_no (n == 0) ps (slice_set ps (n - 1) p) (not_zero n h)

pub changed_is : (n : ℕ) (f : Process → Process) (ps : List Process) → 0 < n → at_number n f ps ≡ at_place (n - 1) f ps
changed_is n f ps h = if_no (n == 0) ps (at_place (n - 1) f ps) (not_zero n h)
