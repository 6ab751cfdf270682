-- What the calls on huge allocations change keeps a world tidy.
use Rattle.std.proofs.Common.{ℕ, List, sym, subst}
use Rattle.o2_world.specs.Changes.{Change}
use Rattle.o2_world.specs.Known.{known_of}
use Rattle.o2_world.specs.Moves.{AreOfRuling, OfAllocation, OfNone, OfReallocation}
use Rattle.o2_world.specs.Run.{before}
use Rattle.o2_world.specs.World.{Process, Setting, World}
use Rattle.o2_stands.proofs.AsTidy.{IsAsTidy, Keeps, nothing_kept}
use Rattle.o2_stands.proofs.Granted.{when_allocated, when_resized}
use Rattle.o2_stands.proofs.RunAllocated.{allocated_keeps}
use Rattle.o2_stands.proofs.RunResized.{resized_keeps}

pub ruled_keeps : (s : Setting) (w v : World) (n : ℕ) (p : Process) → IsAsTidy w v n p → (cs : List Change) → AreOfRuling (before s w n p) cs → Keeps v cs
ruled_keeps s w v n p b cs (OfNone is) = subst (Keeps v) (sym is) (nothing_kept w v n p b)
ruled_keeps s w v n p b cs (OfAllocation segs part most flags is) =
    subst (Keeps v) (sym is)
    (when_allocated (known_of s w) n segs part (Keeps v) most flags (nothing_kept w v n p b) (λ first a. allocated_keeps s w v n p b segs part most flags first a))
ruled_keeps s w v n p b cs (OfReallocation segs part selector is) =
    subst (Keeps v) (sym is)
    (when_resized (known_of s w) n segs part (Keeps v) selector p.cpu (nothing_kept w v n p b) (λ h r. resized_keeps s w v n p b segs part h r))
