-- The services of the module DOSCALLS.
use Rattle.std.specs.Prelude.{ℕ, ◌+◌, ◌-◌, ◌*◌, ◌==◌, nat_le, Bool, List, [], ◌∷◌, Option, None, codes, option_map, position, slice_get, if◌then◌else◌}
use Rattle.std.specs.List.{list_any}

-- a service: the name by which it is imported, its default ordinal, and how many words its arguments have
pub record ServiceRow : Type 0 where
  pub name : List ℕ
  pub ordinal : ℕ
  pub words : ℕ

abbrev pub row : List ℕ → ℕ → ℕ → ServiceRow
row name ordinal words = record { name = name; ordinal = ordinal; words = words }

-- the services by number, from 1
unfoldable pub services : List ServiceRow
services =
    row (codes "DosExit") 5 2 ∷  -- 1
    row (codes "DosGetPID") 94 2 ∷
    row (codes "DosRead") 137 6 ∷
    row (codes "DosWrite") 138 6 ∷
    row (codes "DosAllocSeg") 34 4 ∷  -- 5
    row (codes "DosReallocSeg") 38 2 ∷
    row (codes "DosFreeSeg") 39 1 ∷
    row (codes "DosSizeSeg") 126 3 ∷
    row (codes "DosLockSeg") 122 1 ∷
    row (codes "DosUnlockSeg") 123 1 ∷  -- 10
    row (codes "DosCreateCSAlias") 43 3 ∷
    row (codes "DosAllocShrSeg") 35 5 ∷
    row (codes "DosGetShrSeg") 36 4 ∷
    row (codes "DosGiveSeg") 37 4 ∷
    row (codes "DosGetSeg") 121 1 ∷  -- 15
    row (codes "DosAllocHuge") 40 6 ∷
    row (codes "DosReallocHuge") 42 3 ∷
    row (codes "DosGetHugeShift") 41 2 ∷
    row (codes "DosMemAvail") 127 2 ∷
    row (codes "DosSubSet") 146 3 ∷  -- 20
    row (codes "DosSubAlloc") 147 4 ∷
    row (codes "DosSubFree") 148 3 ∷
    row (codes "DosExecPgm") 144 12 ∷
    row (codes "DosCWait") 2 7 ∷
    row (codes "DosSemRequest") 140 4 ∷  -- 25
    row (codes "DosSemClear") 141 2 ∷
    row (codes "DosSemWait") 142 4 ∷
    row (codes "DosSemSet") 143 2 ∷
    row (codes "DosLoadModule") 44 7 ∷
    row (codes "DosGetProcAddr") 45 5 ∷  -- 30
    row (codes "DosFreeModule") 46 1 ∷
    []

-- the service of a number, from 1
abbrev pub row_at : ℕ → Option ServiceRow
row_at number = if nat_le 1 number then slice_get services (number - 1) else None

-- the number of the service with this default ordinal
abbrev pub service_by_ordinal : ℕ → Option ℕ
service_by_ordinal ordinal = option_map (λ i. i + 1) (position (λ s. s.ordinal == ordinal) services)

-- the services that the machine has: an import of another is refused, and its gate names nothing
abbrev pub built : List ℕ
built = 1 ∷ 2 ∷ 3 ∷ 4 ∷ 5 ∷ 6 ∷ 7 ∷ 8 ∷ 9 ∷ 10 ∷ 11 ∷ 12 ∷ 13 ∷ 14 ∷ 15 ∷ 16 ∷ 17 ∷ 18 ∷ 19 ∷ 20 ∷ 21 ∷ 22 ∷ 25 ∷ 26 ∷ 27 ∷ 28 ∷ []

abbrev pub is_built : ℕ → Bool
is_built number = list_any (λ s. s == number) built

-- the selector of a service's call gate, behind the sixteen first entries of the global descriptor table
abbrev pub gate_of : ℕ → ℕ
gate_of number = 8 * (16 + number) + 3
