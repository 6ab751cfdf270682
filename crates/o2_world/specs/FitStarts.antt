-- What a start is like for the opening world to be sound.
use Rattle.std.specs.Prelude.{◌≡◌, ℕ, ◌+◌, ◌≤◌, ◌<◌, ◌==◌, Bool, true, false, List, ◌∷◌, ◌++◌, length, map, flat_map, Option, Some, None}
use Rattle.std.specs.List.{All, AllByRecursion, IsDistinct}
use Rattle.o2_isa.specs.View.{is_readable, is_writable}
use Rattle.o2_world.specs.Starts.{Loaded, LoadedSegment, Start, Holding, holdings, nth_loaded, is_common}

abbrev pub module_indexes : Loaded → List ℕ
module_indexes m = map (λ (x : LoadedSegment). x.index) m.segments

-- the indexes of all that a process holds, in the order of its selectors: its program's segments, its environment behind them,
-- and its libraries' segments
abbrev pub held_indexes : Start → List ℕ
held_indexes s = module_indexes s.program ++ (length s.program.segments + 1) ∷ flat_map module_indexes s.libraries

-- the start of a program, as linking makes it
pub record IsFit (s : Start) : Type 0 where
  -- segment n of the program has index n
  pub numbered : (n : ℕ) (x : LoadedSegment) → nth_loaded n s.program.segments ≡ Some x → x.index ≡ n
  -- no index stands for two segments
  pub distinct : IsDistinct (λ i j. i == j) (held_indexes s)
  -- automatic data, where there is any, is data or readable code
  pub automatic : (x : LoadedSegment) → nth_loaded s.program.auto_seg s.program.segments ≡ Some x → is_readable x.rights ≡ true

-- each start of a program is fit; one of a library is refused
abbrev pub AreFit : List Start → Type 0
AreFit starts = All (λ (s : Start). s.program.library ≡ false → IsFit s) starts

-- a segment by the place of its module and its number there: its access byte, its index, and whether one name serves all

abbrev pub segment_at : (ℕ → Loaded) → ℕ → ℕ → Option LoadedSegment
segment_at modules place number = nth_loaded number (modules place).segments

abbrev pub rights_or_none : Option LoadedSegment → ℕ
rights_or_none None = 0
rights_or_none (Some x) = x.rights

abbrev pub rights_at : (ℕ → Loaded) → ℕ → ℕ → ℕ
rights_at modules place number = rights_or_none (segment_at modules place number)

abbrev pub index_or_none : Option LoadedSegment → ℕ
index_or_none None = 0
index_or_none (Some x) = x.index

abbrev pub segment_index : (ℕ → Loaded) → ℕ → ℕ → ℕ
segment_index modules place number = index_or_none (segment_at modules place number)

abbrev pub common_or_none : Option LoadedSegment → Bool
common_or_none None = false
common_or_none (Some x) = is_common x

abbrev pub is_common_at : (ℕ → Loaded) → ℕ → ℕ → Bool
is_common_at modules place number = common_or_none (segment_at modules place number)

-- no shared index stands for two segments of these modules
abbrev pub ShareNoIndex : (ℕ → Loaded) → Type 0
ShareNoIndex modules = (p n q m : ℕ) → 4096 ≤ segment_index modules p n → segment_index modules p n ≡ segment_index modules q m
    → (p ≡ q) × (n ≡ m)

-- What a process holds under an index is the segment of these modules that has this index.
pub record IsOfModule (modules : ℕ → Loaded) (h : Holding) : Type 0 where
  pub index : segment_index modules h.place h.number ≡ h.index
  pub common : is_common_at modules h.place h.number ≡ h.common

-- A segment that a process holds from its start on has 1 to 65,536 bytes. Where it is common it is one of these modules, and so
-- it is under a shared index; what isn't common can be written.
pub record IsWhole (modules : ℕ → Loaded) (h : Holding) : Type 0 where
  pub some : 0 < length h.bytes
  pub most : length h.bytes ≤ 65536
  pub rights : h.common ≡ true → h.rights ≡ rights_at modules h.place h.number
  pub shared : 4096 ≤ h.index → IsOfModule modules h
  pub own : h.common ≡ false → is_writable h.rights ≡ true

abbrev pub IsOf : (ℕ → Loaded) → Start → Type 0
IsOf modules s = (pid : ℕ) → AllByRecursion (IsWhole modules) (holdings pid s)

-- each start is one over these modules
abbrev pub AreOf : (ℕ → Loaded) → List Start → Type 0
AreOf modules starts = All (IsOf modules) starts
