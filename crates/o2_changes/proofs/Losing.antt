-- A tidy world may lose a hold of a segment alone.
use Rattle.std.proofs.Common.{◌≡◌, ℕ, ◌<◌, ◌==◌, false, Option, Some, None, refl, sym, ap, ◌∙◌}
use Rattle.std.proofs.lemmas.Bool.{cond-false, false≢true}
use Rattle.o2_world.specs.Changes.{Drops, fewer, with_change}
use Rattle.o2_world.specs.Holders.{process_at}
use Rattle.o2_world.specs.Known.{held_at}
use Rattle.o2_world.specs.Rulings.{is_in_run}
use Rattle.o2_world.specs.Sound.{held_of}
use Rattle.o2_world.specs.World.{Held, Process, World}
use Rattle.o2_stands.specs.Stands.{IsTidy, is_by_load}
use Rattle.o2_stands.proofs.Reserved.{and_parts, stay_still, used_all}
use Rattle.o2_stands.proofs.Used.{IsUsedBy, used_by, used_found}
use Rattle.o2_changes.specs.Worlds.{LosesOne}
use Rattle.o2_changes.proofs.Settling.{Here, IsPair, Other, pair_is}
use Rattle.o2_stands.proofs.Puts.{held_put}

none_some : (h : Held) → ◌≡◌ {A = Option Held} None (Some h) → ⊥
none_some h e = cc

module _ (w : World) (n i : ℕ) (h : Held) (held : held_at w.processes n i ≡ Some h) (alone : is_in_run h ≡ false) where
  -- a member of a run is held still
  still : (x : Process) → process_at w.processes n ≡ Some x → (region first : ℕ) → IsUsedBy w.processes region first → IsUsedBy (with_change w (Drops n i 1)).processes region first
  still x at region first u = record { number = u.number; index = u.index; hold = u.hold; there = go (pair_is u.number u.index n i); runs = u.runs; own = u.own }
    where
      go : IsPair u.number u.index n i → held_at (with_change w (Drops n i 1)).processes u.number u.index ≡ Some u.hold
      go (Other apart e) = held_put w.processes n u.number i u.index (fewer 1) x at ∙ (cond-false _ (fewer 1 (held_at w.processes n i)) (held_at w.processes u.number u.index) e ∙ u.there)
      go (Here same also e) =
          let z : Some h ≡ Some u.hold = sym held ∙ (ap (λ (b : ℕ). held_at w.processes b i) (sym same) ∙ (ap (held_at w.processes u.number) (sym also) ∙ u.there)) in
          let y : h ≡ u.hold = cc in
          absurd (false≢true (sym alone ∙ (ap is_in_run y ∙ (and_parts (u.hold.first == first) (is_in_run u.hold) u.runs).1)))

  used_still : (o : Option Process) → process_at w.processes n ≡ o → (region first : ℕ) → IsUsedBy w.processes region first → IsUsedBy (with_change w (Drops n i 1)).processes region first
  used_still None at region first u = absurd (none_some h (sym (ap (λ (o : Option Process). held_of o i) at) ∙ held))
  used_still (Some x) at region first u = still x at region first u

pub loses_one : (w : World) (n i : ℕ) (h : Held) → 0 < n → IsTidy w.processes w.names w.reserved → held_at w.processes n i ≡ Some h → is_in_run h ≡ false → is_by_load h.cause ≡ false → LosesOne w n i
loses_one w n i h some tidy held alone called = record {
  named = tidy.used;
  free = tidy.free n i h held alone (λ high. called);
  reserved = used_all (with_change w (Drops n i 1)).processes w.reserved
      (stay_still w.processes (with_change w (Drops n i 1)).processes
      (λ r goes e. used_found (with_change w (Drops n i 1)).processes r (used_still w n i h held alone (process_at w.processes n) refl r.region r.first (used_by w.processes r goes e)))
      w.reserved tidy.stay);
}
