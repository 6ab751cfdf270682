-- Targets of which many lead nowhere: a mark for each, and those that lead somewhere.
use Rattle.std.specs.Prelude.{◌≡◌, ℕ, ◌+◌, ◌-◌, ◌*◌, ◌/◌, ◌<◌, ◌≤◌, ◌==◌, List, get_or, length, if◌then◌else◌}
use Rattle.o2_ne.specs.Steps.{tabulate}
use Rattle.o2_image.specs.declared.packed.Packed.{Packed}
use Rattle.o2_image.specs.Images.{Target}

-- what a mark stands for: 0 for nowhere, another for one of the targets from `first` on, by its number from 1
abbrev pub placed : List Target → ℕ → ℕ → Target
placed some first mark = if mark == 0 then (0, 0) else get_or some (first + (mark - 1)) (0, 0)

-- target i, where the marks of each 128 count from one place
abbrev pub look : List ℕ → List ℕ → List Target → ℕ → Target
look marks firsts some i = placed some (get_or firsts (i / 128) 0) (get_or marks i 0)

abbrev pub unpacked_of : List ℕ → List ℕ → List Target → List Target
unpacked_of marks firsts some = tabulate (look marks firsts some) 0 (length marks)

-- the targets that are packed
abbrev pub unpacked : Packed → List Target
unpacked p = unpacked_of p.marks.items p.firsts.items p.some.items

-- where the marks of the last group count from
abbrev pub last_of : List ℕ → ℕ
last_of firsts = get_or firsts (length firsts - 1) 0

-- a mark for nowhere, or for one of these targets
abbrev pub IsThere : List Target → ℕ → ℕ → Type 0
IsThere some first mark = 0 < mark → first + (mark - 1) < length some

-- the first k targets have their marks
pub record Packs (ts : List Target) (k : ℕ) (marks firsts : List ℕ) (some : List Target) : Type 0 where
  pub count : length marks ≡ k
  pub begun : k ≤ 128 * length firsts
  pub last : 128 * length firsts ≤ k + 128
  pub low : last_of firsts ≤ length some
  pub room : length some + 128 * length firsts ≤ last_of firsts + k + 128
  pub there : (j : ℕ) → j < k → IsThere some (get_or firsts (j / 128) 0) (get_or marks j 0)
  pub same : (j : ℕ) → j < k → look marks firsts some j ≡ get_or ts j (0, 0)

abbrev pub IsPacked : List Target → ℕ → Packed → Type 0
IsPacked ts k p = Packs ts k p.marks.items p.firsts.items p.some.items
