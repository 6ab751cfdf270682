-- A store of which nothing is in swap blocks.
use Rattle.std.proofs.Common.{◌≡◌, ◌⊎◌, inl, inr, ℕ, ◌<◌, [], length, take, ap, sym, ◌∙◌, arith}
use Rattle.std.proofs.lemmas.Bool.{cases_eq, cases_lt}
use Rattle.std.proofs.Math.Seq.{take-nil}
use Rattle.o2_swapmap.specs.Piles.{Blocks, blocks_of, OnlyOf}
use Rattle.o2_store.specs.Loads.{live_load}
use Rattle.o2_store.specs.Shelf.{Shelf, IsShelf, SameTables}
use Rattle.o2_store.specs.Idle.{NoneTaken, IsIdle, Idles}
use Rattle.o2_store.proofs.Loads.{same_live_load}

-- a live number has no block
pub none_at : (s : Shelf) (key : ℕ) → IsShelf s → key < length s.entries → NoneTaken s.swap → blocks_of s.swap key ≡ []
none_at s key h l n = n.none key (omega (arith, l, h.swap_most))

-- who has none gives none
pub none_given : (m n : Blocks) (id keep : ℕ) → OnlyOf id m n → blocks_of n id ≡ take keep (blocks_of m id) → NoneTaken m → NoneTaken n
none_given m n id keep only kept before = record { none = λ k l. each k (omega (arith, l, only.most)) }
  where
    each : (k : ℕ) → k < m.most → blocks_of n k ≡ []
    each k l = elim (cases_eq k id) [
      | inl same ↦ ap (blocks_of n) same ∙ kept ∙ ap (take keep) (ap (blocks_of m) (sym same) ∙ before.none k l) ∙ take-nil keep
      | inr other ↦ only.others k other (λ e. absurd (omega (arith, l, e))) ∙ before.none k l
    ]

-- by whether so much fits
pub idle_or : {D : Type 0} (load : ℕ) (s t : Shelf) (x y : D) → Idles load s t x y → NoneTaken s.swap → IsIdle t x y ⊎ (s.places.size < load)
idle_or load s t x y h none = elim (cases_lt s.places.size load) [ inl short ↦ inr short | inr fits ↦ inl (h none fits) ]

-- a call that leaves segments their sizes, and another one
pub idle_then : {D : Type 0} (s t u : Shelf) (x y z : D) → SameTables s t → Idles (live_load s) s t x y → Idles (live_load t) t u y z → Idles (live_load s) s u x z
idle_then s t u x y z same first next none load =
    let a = first none load in
    let size = same.size in
    let loads = same_live_load s t same in
    let b = next a.none (omega (arith, load, size, loads)) in
    record { device = b.device ∙ a.device; none = b.none }
