-- In a sound world a shared selector names one segment for all who hold it.
use Rattle.std.proofs.Common.{◌≡◌, inl, inr, ℕ, suc, ◌-◌, ◌≤◌, ◌/◌, ◌==◌, Bool, true, false, Some, None, if◌then◌else◌, ap, sym, ◌∙◌, arith}
use Rattle.std.specs.Prelude.{is_some, slice_get}
use Rattle.std.proofs.lemmas.Bool.{false≢true}
use Rattle.o2_world.specs.Map.{get}
use Rattle.o2_world.specs.World.{World, Setting, Held}
use Rattle.o2_world.specs.Known.{held_at}
use Rattle.o2_world.specs.Sound.{held_in, held_of}
use Rattle.o2_world.specs.Tied.{AreOne, IsSound}
use Rattle.o2_world.specs.Run.{after}
use Rattle.o2_world.proofs.StepSound.{step_sound}
use Rattle.o2_world.proofs.StepTold.{along}
use Rattle.o2_ramsem_laws.specs.Told.{Place}
use Rattle.o2_ramsem_laws.specs.Kept.{IsSemaphore, NamesOne}
use Rattle.o2_ramsem_laws.specs.Shared.{IsHeldShared, IsShared}

-- a process by its number, and by its place
held_place : (w : World) (q i : ℕ) (h : Held) → held_at w.processes q i ≡ Some h → held_in w.processes (q - 1) i ≡ Some h
held_place w q i h e = go (q == 0) e
  where
    go : (t : Bool) → held_of (if t then None else slice_get w.processes (q - 1)) i ≡ Some h → held_of (slice_get w.processes (q - 1)) i ≡ Some h
    go true e = absurd (cc)
    go false e = e

names_one : (w : World) (place : Place) → IsSound w → 4096 ≤ place.selector / 8 → IsHeldShared w place → NamesOne w place
names_one w place sound high there q h e =
    by (sound.tied.one (q - 1) (there.holder - 1) (place.selector / 8) h there.hold high
    (held_place w q (place.selector / 8) h e) (held_place w there.holder (place.selector / 8) there.hold there.held))
  where
    by : AreOne w.names h there.hold → h.name ≡ place.name
    by (inl same) = same ∙ there.named
    by (inr own) = absurd (false≢true (sym (own.1.own there.segment (ap (get w.names) there.named ∙ there.lives)).1 ∙ there.shared))

pub shared_is : (s : Setting) (w : World) (place : Place) (first last : ℕ) → IsSound w → IsShared s w place first last → IsSemaphore s w place first last
shared_is s w place first last sound is = record {
  untold = is.untold;
  unheld = is.unheld;
  clear = is.clear;
  kept = λ k low high. record {
    one = names_one (after s w k) place (along {P = IsSound} s (step_sound s) w sound k) is.high (is.there k low (omega (arith, high)));
    lives = ap is_some (is.there (suc k) (omega (arith, low)) (omega (arith, high))).lives;
    word = is.word k low high;
    only = is.only k low high;
  };
}
