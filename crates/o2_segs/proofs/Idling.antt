-- Calls that don't touch the swap device, or that are short of memory.
use Rattle.std.proofs.Common.{◌≡◌, Some, ap, ◌∙◌}
use Rattle.o2_regions.specs.declared.answer.Answer.{Answer}
use Rattle.o2_regions.specs.declared.answer.Roomed.{Roomed}
use Rattle.o2_regions.specs.declared.answer.Roomed.TheVariants.{Done, NoRoom, SwapFull, SwapFault}
use Rattle.o2_store.specs.declared.brought.Brought.{Brought}
use Rattle.o2_store.specs.declared.brought.Brought.TheVariants as brought
use Rattle.o2_segs.specs.Answers.{IsUnrefused, stop_of}
use Rattle.o2_segs.specs.Made.{IsStop}

-- a stop is no error
pub unrefused_stop : (r : Roomed) → IsStop r → IsUnrefused r
unrefused_stop (Done a) stop = absurd stop
unrefused_stop NoRoom stop = tt
unrefused_stop SwapFull stop = tt
unrefused_stop SwapFault stop = tt

-- the same, by what the store answered
pub unrefused_by : (a : Brought) (r : Roomed) → Some r ≡ stop_of a → IsUnrefused r
unrefused_by brought.Here r e = absurd (cc)
unrefused_by a (Done x) e = absurd (never a e)
  where
    never : (a : Brought) → Some (Done x) ≡ stop_of a → ⊥
    never brought.Here e = cc
    never brought.NoRoom e = cc
    never brought.SwapFull e = cc
    never brought.SwapFault e = cc
    never brought.Stale e = cc
unrefused_by a NoRoom e = tt
unrefused_by a SwapFull e = tt
unrefused_by a SwapFault e = tt

pub unrefused_done : (r : Roomed) (a : Answer) → r ≡ Done a → a.error ≡ 0 → IsUnrefused r
unrefused_done (Done x) a e none = ap (λ (y : Answer). y.error) (same x a e) ∙ none
  where
    same : (x a : Answer) → Done x ≡ Done a → x ≡ a
    same x a e = cc
unrefused_done NoRoom a e none = absurd (cc)
unrefused_done SwapFull a e none = absurd (cc)
unrefused_done SwapFault a e none = absurd (cc)
