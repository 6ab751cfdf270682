-- What calls put of a text, and what they leave of the device that they read.
use Rattle.std.specs.Prelude.{◌≡◌, ℕ, ◌≤◌, List, ◌++◌, Option, Bool, IsTrue}
use Rattle.o2_outer.specs.Texts.{Gains, GainsSome, IsPrefix, Rose}
use Rattle.o2_dumping.specs.declared.parts.Wrote.{Wrote}
use Rattle.o2_dumping.specs.declared.parts.Wrote.TheVariants.{Done, SinkFault, SwapFault}

-- the whole text was put, or at a fault a front of it
abbrev pub Writes : (old new : Option (List ℕ)) → (text : List ℕ) → Wrote → Type 0
Writes old new text Done = Gains old new text
Writes old new text SinkFault = GainsSome old new (λ front. IsPrefix front text)
Writes old new text SwapFault = GainsSome old new (λ front. IsPrefix front text)

-- a whole text was put but for a rest of it
pub record IsPutBut (old new : Option (List ℕ)) (whole rest : List ℕ) : Type 0 where
  pub so_far : List ℕ
  pub gains : Gains old new so_far
  pub splits : whole ≡ so_far ++ rest

-- a device was read alone: it keeps its blocks, and, where each read gave what its block held, what they hold
pub record IsRead (blocks after : ℕ) (told still : Bool) (block now : ℕ → List ℕ) : Type 0 where
  pub count : after ≡ blocks
  pub earlier : IsTrue still → IsTrue told
  pub same : IsTrue still → now ≡ block

-- a fault comes only where the count of what failed rose
abbrev pub Caused : (sink sink_after swap swap_after : ℕ) → Wrote → Type 0
Caused sink sink_after swap swap_after Done = Unit {0}
Caused sink sink_after swap swap_after SinkFault = Rose sink sink_after
Caused sink sink_after swap swap_after SwapFault = Rose swap swap_after

pub record HasCauses (sink sink_after swap swap_after : ℕ) (result : Wrote) : Type 0 where
  pub sinks : sink ≤ sink_after
  pub swaps : swap ≤ swap_after
  pub caused : Caused sink sink_after swap swap_after result
