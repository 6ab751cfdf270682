-- What the report tells of holds: the lines that came less those that went.
use Rattle.std.specs.Prelude.{◌≡◌, ℕ, ◌+◌, ◌-◌, ◌<◌, ◌≤◌, Bool, true, false, List, [], ◌∷◌, if◌then◌else◌, ◌==◌, ◌&&◌, Option, Some, None, length}
use Rattle.o2_world.specs.World.{World, Held, Line, Starts, HoldsBy, DropsBy, Calls, Exits, Ends, Traps}
use Rattle.o2_world.specs.Changes.{Change, Makes, Resizes, Locks, Marks, Holds, Drops, Finishes, Reserves, Frees, Names, with_change, moved_lines}
use Rattle.o2_world.specs.Calls.{Effect}
use Rattle.o2_world.specs.Sound.{held_in}
use Rattle.o2_base.specs.Selectors.{selector_of}

abbrev pub is_pair : (p s q t : ℕ) → Bool
is_pair p s q t = (p == q) && (s == t)

abbrev pub one_if : Bool → ℕ
one_if true = 1
one_if false = 0

-- how many lines `p hold s by ..` and `p drop s by ..`
abbrev pub comes : Line → (p s : ℕ) → ℕ
comes (Starts q name) p s = 0
comes (HoldsBy q t cause) p s = one_if (is_pair p s q t)
comes (DropsBy q t cause) p s = 0
comes (Calls q name args error values) p s = 0
comes (Exits q action code) p s = 0
comes (Ends q code) p s = 0
comes (Traps q vector t offset) p s = 0

abbrev pub goes : Line → (p s : ℕ) → ℕ
goes (Starts q name) p s = 0
goes (HoldsBy q t cause) p s = 0
goes (DropsBy q t cause) p s = one_if (is_pair p s q t)
goes (Calls q name args error values) p s = 0
goes (Exits q action code) p s = 0
goes (Ends q code) p s = 0
goes (Traps q vector t offset) p s = 0

abbrev pub came : List Line → (p s : ℕ) → ℕ
came [] p s = 0
came (l ∷ ls) p s = comes l p s + came ls p s

abbrev pub went : List Line → (p s : ℕ) → ℕ
went [] p s = 0
went (l ∷ ls) p s = goes l p s + went ls p s

abbrev pub tells_end : List Line → (p : ℕ) → Bool
tells_end [] p = false
tells_end (Starts q name ∷ ls) p = tells_end ls p
tells_end (HoldsBy q t cause ∷ ls) p = tells_end ls p
tells_end (DropsBy q t cause ∷ ls) p = tells_end ls p
tells_end (Calls q name args error values ∷ ls) p = tells_end ls p
tells_end (Exits q action code ∷ ls) p = tells_end ls p
tells_end (Ends q code ∷ ls) p = if p == q then true else tells_end ls p
tells_end (Traps q vector t offset ∷ ls) p = if p == q then true else tells_end ls p

-- by the report alone
abbrev pub reach : List Line → (p s : ℕ) → ℕ
reach ls p s = if tells_end ls p then 0 else came ls p s - went ls p s

abbrev pub holds_of : Option Held → ℕ
holds_of None = 0
holds_of (Some h) = h.holds

-- how often process p holds what is at an index
abbrev pub holds_at : World → (p i : ℕ) → ℕ
holds_at w p i = if p == 0 then 0 else holds_of (held_in w.processes (p - 1) i)

-- the process is there
abbrev pub IsThere : World → ℕ → Type 0
IsThere w p = (0 < p) × (p ≤ length w.processes)

-- a change that the lines can tell: its process is there, and no more is taken than is held
abbrev pub CanTell : World → Change → Type 0
CanTell w (Makes s) = Unit {0}
CanTell w (Resizes n size) = Unit {0}
CanTell w (Locks n count) = Unit {0}
CanTell w (Marks n discarded) = Unit {0}
CanTell w (Holds p i h) = IsThere w p
CanTell w (Drops p i count) = IsThere w p × (count ≤ holds_at w p i)
CanTell w (Finishes p state) = ⊥
CanTell w (Reserves r) = Unit {0}
CanTell w (Frees region first) = Unit {0}
CanTell w (Names text name) = Unit {0}

abbrev pub CanTellAll : World → List Change → Type 0
CanTellAll w [] = Unit {0}
CanTellAll w (c ∷ cs) = CanTell w c × CanTellAll (with_change w c) cs

-- the lines of an effect tell its changes: of those that came and went they have as many as the changes
pub record Tells (e : Effect) : Type 0 where
  pub cause : List ℕ
  pub came_by : (p s : ℕ) → came e.lines p s ≡ came (moved_lines cause e.changes) p s
  pub went_by : (p s : ℕ) → went e.lines p s ≡ went (moved_lines cause e.changes) p s

-- what is held is what the lines so far tell
pub record IsTold (w : World) : Type 0 where
  pub live : (q i : ℕ) → 0 < q → tells_end w.lines q ≡ false → holds_at w q i + went w.lines q (selector_of i) ≡ came w.lines q (selector_of i)
  pub ended : (q i : ℕ) → 0 < q → tells_end w.lines q ≡ true → holds_at w q i ≡ 0
