use Rattle.std.proofs.Common.{◌≡◌, ◌≤◌, ℕ, Option, Some, None, length, arith}
use Rattle.std.specs.Prelude.{option_map}
use Rattle.o2_image.specs.ImageList.{HasSegmentOf, Resolution}
use Rattle.o2_image.specs.Parts.{Parts}
use Rattle.test_linking.proofs.limits.fill.Goals as goal

there : (o : Option Resolution) (m : Parts) (seg : ℕ) → Some m ≡ option_map (λ p. p.0) o → 1 ≤ seg → seg ≤ length m.segments → HasSegmentOf o seg
there None m seg h low high = absurd cc
there (Some r) m seg h low high = let is : m ≡ r.0 = cc in (low, rw (← is) high)

pub fill-requires : goal.fill-requires
fill-requires c = there _ _ _ c.in-Some.ensures (omega arith) (omega (arith, c.segment_count.ensures))
