-- The places of processes behind changes.
use Rattle.std.proofs.Common.{◌≡◌, ℕ, zero, suc, ◌-◌, ◌<◌, ◌==◌, Bool, true, false, List, [], ◌∷◌, length, Some, if◌then◌else◌, ap, refl, arith}
use Rattle.std.specs.Prelude.{slice_get}
use Rattle.o2_world.specs.Map.{get, put}
use Rattle.o2_world.specs.World.{World, Process, Held}
use Rattle.o2_world.specs.Changes.{Holds, at_number, at_place, more, with_change}
use Rattle.o2_world.specs.Reach.{IsThere}

place_length : (k : ℕ) (f : Process → Process) (ps : List Process) → length (at_place k f ps) ≡ length ps
place_length k f [] = refl
place_length zero f (p ∷ ps) = refl
place_length (suc k) f (p ∷ ps) = ap suc (place_length k f ps)

pub number_length : (n : ℕ) (f : Process → Process) (ps : List Process) → length (at_number n f ps) ≡ length ps
number_length n f ps = go (n == 0)
  where
    go : (b : Bool) → length (if b then ps else at_place (n - 1) f ps) ≡ length ps
    go true = refl
    go false = place_length (n - 1) f ps

-- a place that has a process
pub below : (ps : List Process) (k : ℕ) (x : Process) → slice_get ps k ≡ Some x → k < length ps
below [] k x e = absurd (cc)
below (p ∷ ps) zero x e = omega arith
below (p ∷ ps) (suc k) x e = let h = below ps k x e in omega (arith, h)

pub there_behind : (w : World) (q n i : ℕ) (h : Held) → IsThere w n → IsThere (with_change w (Holds q i h)) n
there_behind w q n i h there =
    (there.0, let l = number_length q (λ (p : Process). record p { held = put i (more h (get p.held i)) p.held }) w.processes in let x = there.1 in omega (arith, l, x))
