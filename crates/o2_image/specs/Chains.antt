-- The places that records patch: one, or a chain in which each place holds the next, to one that holds FFFF.
use Rattle.std.specs.Prelude.{ℕ, zero, suc, ◌+◌, ◌==◌, ◌||◌, Bool, true, false, not, List, [], ◌∷◌, length, get_or, set, nat_le, Result, Ok, if◌then◌else◌}
use Rattle.o2_base.specs.declared.faults.ModuleFault.{ModuleFault}
use Rattle.o2_base.specs.declared.faults.ModuleFault.TheVariants.{BadChain}
use Rattle.o2_ne.specs.Words.{word_at}
use Rattle.o2_ne.specs.Checks.{Check, all_hold, or_fault, ◌>>=◌}
use Rattle.o2_ne.specs.Steps.{steps}

-- which bytes of a segment are patched
abbrev pub Marks : Type 0
Marks = List Bool

-- one of the n bytes from place p is patched
abbrev pub any_patched : Marks → ℕ → ℕ → Bool
any_patched marks p zero = false
any_patched marks p (suc n) = get_or marks p false || any_patched marks (p + 1) n

-- the n bytes from place p are patched now
abbrev pub patched : Marks → ℕ → ℕ → Marks
patched marks p zero = marks
patched marks p (suc n) = patched (set marks p true) (p + 1) n

-- a walk along a chain: what is patched, the next place, and whether the chain has ended
pub record Walk : Type 0 where
  pub marks : Marks
  pub next : ℕ
  pub ended : Bool

-- the place lies in the segment's bytes, and patches nothing twice
abbrev pub place_checks : ℕ → List ℕ → Marks → ℕ → ℕ → List (Check ModuleFault)
place_checks seg bytes marks p width =
    or_fault (nat_le (p + width) (length bytes)) (BadChain seg p)
    ∷ or_fault (not (any_patched marks p width)) (BadChain seg p)
    ∷ []

-- one place, and the marks after it
abbrev pub single : ℕ → List ℕ → ℕ → ℕ → Marks → Result Marks ModuleFault
single seg bytes width p marks = do
  _ ← all_hold (place_checks seg bytes marks p width)
  Ok (patched marks p width)

-- one place of a chain, and the next
unfoldable pub chain_step : ℕ → List ℕ → ℕ → Walk → Result Walk ModuleFault
chain_step seg bytes width w = if w.ended then Ok w else (do
  marks ← single seg bytes width w.next w.marks
  Ok (record { marks = marks; next = word_at bytes w.next; ended = word_at bytes w.next == 65535 }))

-- a chain from a place; it has at most 32,768 places, since each patches two bytes or more of 65,536
unfoldable pub chain : ℕ → List ℕ → ℕ → ℕ → Marks → Result Marks ModuleFault
chain seg bytes width p marks = do
  w ← steps (chain_step seg bytes width) 65536 (record { marks = marks; next = p; ended = false })
  Ok w.marks

-- the places of a chain, of which there are at most n: the first, and the word that the file holds at each
unfoldable pub places : List ℕ → ℕ → ℕ → List ℕ
places bytes zero p = []
places bytes (suc n) p = p ∷ (if word_at bytes p == 65535 then [] else places bytes n (word_at bytes p))
