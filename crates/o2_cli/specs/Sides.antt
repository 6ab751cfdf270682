-- What is outside of a call, with what it tells before the call and behind it.
use Rattle.std.specs.Prelude.{◌≡◌, ℕ, Bool, List, Option}
use Rattle.o2_outer.specs.Inputs.{Past, left_as}
use Rattle.o2_outer.specs.Texts.{Rose}
use Rattle.o2_open.specs.Loads.{Contents}
use Rattle.o2_run.specs.Lined.{LastPutFailed}
use Rattle.o2_run.specs.Pieces.{Counts, counts}
use Rattle.o2_cli.specs.Top.{Possible}

-- the files: which contents they may have, which names they were asked for, and how often they have failed
pub record FileSides (F : Type 0) : Type 1 where
  pub may_hold : F → Possible
  pub asked : F → List (List ℕ)
  pub faults : F → ℕ
  pub old : F
  pub new : F

abbrev pub file_sides : {F : Type 0} → (old new : F) → (may_hold : F → Possible) → (asked : F → List (List ℕ)) → (faults : F → ℕ) → FileSides F
file_sides old new may_hold asked faults = record { may_hold = may_hold; asked = asked; faults = faults; old = old; new = new }

-- the input: what is left of it, where it tells that, what it has given, and how often it has failed
pub record InputSides (I : Type 0) : Type 0 where
  pub left : I → Option (List ℕ)
  pub past : I → Past
  pub faults : I → ℕ
  pub old : I
  pub new : I

abbrev pub input_sides : {I : Type 0} → (old new : I) → (left : I → Option (List ℕ)) → (past : I → Past) → (faults : I → ℕ) → InputSides I
input_sides old new left past faults = record { left = left; past = past; faults = faults; old = old; new = new }

-- what is left of it before the call, seen by what it tells or as this text, and behind the call
abbrev pub left_before : {I : Type 0} → InputSides I → Option (List ℕ) → Option (List ℕ)
left_before i text = left_as text (i.left i.old) (i.past i.old)

abbrev pub left_behind : {I : Type 0} → InputSides I → Option (List ℕ) → Option (List ℕ)
left_behind i text = left_as text (i.left i.new) (i.past i.new)

abbrev pub InputRose : {I : Type 0} → InputSides I → Type 0
InputRose i = Rose (i.faults i.old) (i.faults i.new)

-- a sink: the bytes that it has taken, where it tells them, the pieces that it was handed, and how often it has failed
pub record SinkSides (S : Type 0) : Type 0 where
  pub taken : S → Option (List ℕ)
  pub puts : S → ℕ
  pub faults : S → ℕ
  pub old : S
  pub new : S

abbrev pub sink_sides : {S : Type 0} → (old new : S) → (taken : S → Option (List ℕ)) → (puts : S → ℕ) → (faults : S → ℕ) → SinkSides S
sink_sides old new taken puts faults = record { taken = taken; puts = puts; faults = faults; old = old; new = new }

abbrev pub SinkRose : {S : Type 0} → SinkSides S → Type 0
SinkRose s = Rose (s.faults s.old) (s.faults s.new)

-- its last put failed
abbrev pub SinkFailedLast : {S : Type 0} → SinkSides S → Type 0
SinkFailedLast s = LastPutFailed s.puts s.faults s.old s.new

-- the pieces that console and report were handed before the call and behind it
abbrev pub both_puts : {C R : Type 0} → SinkSides C → SinkSides R → Counts
both_puts c r = counts (c.puts c.old) (c.puts c.new) (r.puts r.old) (r.puts r.new) 0

-- the swap device: its blocks, whether each read so far gave what its block held, and how often it has failed
pub record SwapSides (S : Type 0) : Type 0 where
  pub blocks : S → ℕ
  pub told : S → Bool
  pub faults : S → ℕ
  pub old : S
  pub new : S

abbrev pub swap_sides : {S : Type 0} → (old new : S) → (blocks : S → ℕ) → (told : S → Bool) → (faults : S → ℕ) → SwapSides S
swap_sides old new blocks told faults = record { blocks = blocks; told = told; faults = faults; old = old; new = new }

abbrev pub SwapRose : {S : Type 0} → SwapSides S → Type 0
SwapRose s = Rose (s.faults s.old) (s.faults s.new)

-- the input, both sinks and the device are as they were, whatever they tell
pub record AreSame {I C R S : Type 0} (i : InputSides I) (c : SinkSides C) (r : SinkSides R) (s : SwapSides S) : Type 0 where
  pub input : i.new ≡ i.old
  pub console : c.new ≡ c.old
  pub report : r.new ≡ r.old
  pub swap : s.new ≡ s.old
