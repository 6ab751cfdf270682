-- What a process gets of what another holds is fit, and leaves all that lives held.
use Rattle.std.proofs.Common.{◌≡◌, inl, inr, ℕ, ◌-◌, ◌<◌, ◌==◌, true, List, [], ◌∷◌, ◌++◌, Option, Some, ap, sym, ◌∙◌, refl, arith, subst}
use Rattle.std.specs.Prelude.{is_some, slice_get, option_map}
use Rattle.std.proofs.lemmas.Bool.{false≢true}
use Rattle.o2_world.specs.Map.{get, put}
use Rattle.o2_world.specs.World.{World, Process, Segment, Held, ByCall, is_live}
use Rattle.o2_world.specs.Holders.{process_at}
use Rattle.o2_world.specs.Changes.{Change, Holds, more, with_change, with_changes}
use Rattle.o2_world.specs.Known.{Known}
use Rattle.o2_world.specs.Sound.{held_in}
use Rattle.o2_world.specs.SharedRulings.{each_more, one_more}
use Rattle.o2_world.specs.Tied.{AreFitChanges, AreOne, IsFitHold, IsSwept, IsTied}
use Rattle.o2_world.specs.Moves.{Each, IsAtLeast, IsShared}
use Rattle.o2_world.proofs.HoldsSwept.{kept_swept, still}
use Rattle.o2_world.proofs.MapLemmas.{if_yes}
use Rattle.o2_world.proofs.Numbers.{at_place_of, changed_is, number_some, process_is}
use Rattle.o2_world.proofs.Reached.{get-place}
use Rattle.o2_world.proofs.TiedChanges.{change_tied}

-- one hold of what another process holds
abbrev pub share : Held → Held
share h = record h { holds = 1; cause = ByCall }

-- a world in which a process still holds a shared segment that it held, as often at least
pub record Shares (u : World) (from i : ℕ) (h : Held) : Type 0 where
  held : Held
  there : held_in u.processes (from - 1) i ≡ Some held
  least : IsAtLeast h held
  segment : Segment
  named : get u.names h.name ≡ Some segment
  shared : segment.shared ≡ true

-- the changes are these holds
abbrev pub shares_of : (to : ℕ) → List (ℕ × Held) → List Change
shares_of to [] = []
shares_of to (s ∷ ss) = Holds to s.0 (share s.1) ∷ shares_of to ss

abbrev pub AllShares : World → ℕ → List (ℕ × Held) → Type 0
AllShares u from [] = Unit {0}
AllShares u from (s ∷ ss) = Shares u from s.0 s.1 × AllShares u from ss

-- a process that lives
abbrev pub LivesAs : World → ℕ → Process → Type 0
LivesAs u n x = (process_at u.processes n ≡ Some x) × (is_live x.state ≡ true)

same_process : (u : World) (n : ℕ) (x y : Process) → process_at u.processes n ≡ Some x → process_at u.processes n ≡ Some y → y ≡ x
same_process u n x y e f = let z : Some x ≡ Some y = sym e ∙ f in cc

one_fit : (u : World) (from to i : ℕ) (h : Held) (x : Process) → IsTied u → Shares u from i h → LivesAs u to x → IsFitHold u to i (share h)
one_fit u from to i h x tied shares live = record {
  lives = ap is_some shares.named;
  some = omega arith;
  clean = λ s there clean. ap (λ (r : ℕ). Rattle.o2_isa.specs.View.is_writable r) (sym shares.least.rights)
      ∙ tied.clean (from - 1) i shares.held s shares.there (ap (get u.names) shares.least.name ∙ there) clean;
  goes_on = λ y there. ap (λ (z : Process). is_live z.state) (same_process u to x y live.0 there) ∙ live.1;
  one = λ place k big there. both k (tied.one (from - 1) place i shares.held k big shares.there there);
}
  where
    both : (k : Held) → AreOne u.names shares.held k → AreOne u.names (share h) k
    both k (inl same) = inl (sym shares.least.name ∙ same)
    both k (inr own) =
        absurd (false≢true (sym (own.0.own shares.segment (ap (get u.names) shares.least.name ∙ shares.named)).1 ∙ shares.shared))

-- the process that gets it, behind it
live_behind : (u : World) (to i : ℕ) (h : Held) (x : Process) → LivesAs u to x → LivesAs (with_change u (Holds to i h)) to (record x { held = put i (more h (get x.held i)) x.held })
live_behind u to i h x live = (
  process_is (with_change u (Holds to i h)).processes to some
      ∙ ap (λ (ps : List Process). slice_get ps (to - 1)) (changed_is to f u.processes some)
      ∙ get-place (to - 1) (to - 1) f u.processes
      ∙ if_yes (to - 1 == to - 1) _ _ (same (to - 1))
      ∙ ap (option_map f) (at_place_of u.processes to x live.0),
  live.1,
)
  where
    same : (n : ℕ) → (n == n) ≡ true
    same n = grind arith

    some : 0 < to
    some = number_some u.processes to x live.0

    f : Process → Process
    f y = record y { held = put i (more h (get y.held i)) y.held }

pub least_of : (a b c : Held) → IsAtLeast a b → IsAtLeast b c → IsAtLeast a c
least_of a b c x y = record {
  name = y.name ∙ x.name;
  rights = y.rights ∙ x.rights;
  cause = y.cause ∙ x.cause;
  first = y.first ∙ x.first;
  reserved = y.reserved ∙ x.reserved;
  holds = let m = x.holds in let n = y.holds in omega (arith, m, n);
}

-- others that were shared are so behind it
shares_behind : (u : World) (to i : ℕ) (h : Held) (x : Process) (from j : ℕ) (k : Held) → process_at u.processes to ≡ Some x → Shares u from j k
    → Shares (with_change u (Holds to i h)) from j k
shares_behind u to i h x from j k at shares =
    let y = still u to i x h at (from - 1) j shares.held shares.there in
    record { held = y.0; there = y.1; least = least_of k shares.held y.0 shares.least y.2; segment = shares.segment; named = shares.named; shared = shares.shared }

all_behind : (u : World) (to i : ℕ) (h : Held) (x : Process) (from : ℕ) (ss : List (ℕ × Held)) → process_at u.processes to ≡ Some x → AllShares u from ss
    → AllShares (with_change u (Holds to i h)) from ss
all_behind u to i h x from [] at all = tt
all_behind u to i h x from (s ∷ ss) at all = (shares_behind u to i h x from s.0 s.1 at all.0, all_behind u to i h x from ss at all.1)

all_fit : (u : World) (from to : ℕ) (ss : List (ℕ × Held)) (x : Process) → IsTied u → AllShares u from ss → LivesAs u to x → AreFitChanges u (shares_of to ss)
all_fit u from to [] x tied all live = tt
all_fit u from to (s ∷ ss) x tied all live =
    let fit = one_fit u from to s.0 s.1 x tied all.0 live in (
      fit,
      all_fit (with_change u (Holds to s.0 (share s.1))) from to ss _ (change_tied u (Holds to s.0 (share s.1)) fit tied)
          (all_behind u to s.0 (share s.1) x from ss live.0 all.1) (live_behind u to s.0 (share s.1) x live),
    )

all_swept : (u : World) (to : ℕ) (ss : List (ℕ × Held)) (x : Process) → IsSwept u → LivesAs u to x → IsSwept (with_changes u (shares_of to ss))
unfolding with_changes
all_swept u to [] x swept live = swept
all_swept u to (s ∷ ss) x swept live =
    all_swept (with_change u (Holds to s.0 (share s.1))) to ss _ (kept_swept u to s.0 x (share s.1) live.0 swept) (live_behind u to s.0 (share s.1) x live)

-- What one process holds of each index.

abbrev pub held_each : (k : Known) (from : ℕ) (is : List ℕ) → Each (IsShared k from) is → List (ℕ × Held)
held_each k from [] shared = []
held_each k from (i ∷ is) shared = (i, shared.0.held) ∷ held_each k from is shared.1

pub changes_are : (k : Known) (from to : ℕ) (is : List ℕ) (shared : Each (IsShared k from) is) → each_more k from to is ≡ shares_of to (held_each k from is shared)
changes_are k from to [] shared = refl
changes_are k from to (i ∷ is) shared =
    ap (λ (o : Option Held). one_more to i o ++ each_more k from to is) shared.0.there
    ∙ ap (λ (cs : List Change). Holds to i (share shared.0.held) ∷ cs) (changes_are k from to is shared.1)

module _ (u : World) (k : Known) (from to : ℕ) (is : List ℕ) (x : Process) (shared : Each (IsShared k from) is) (all : AllShares u from (held_each k from is shared)) (live : LivesAs u to x) where
  pub share_fit : IsTied u → AreFitChanges u (each_more k from to is)
  share_fit tied = subst (AreFitChanges u) (sym (changes_are k from to is shared)) (all_fit u from to (held_each k from is shared) x tied all live)

  pub share_swept : IsSwept u → IsSwept (with_changes u (each_more k from to is))
  share_swept swept = subst (λ (cs : List Change). IsSwept (with_changes u cs)) (sym (changes_are k from to is shared)) (all_swept u to (held_each k from is shared) x swept live)

-- where the world has what is known
pub shares_known : (u : World) (k : Known) (from : ℕ) → ((i : ℕ) (s : IsShared k from i) → (held_in u.processes (from - 1) i ≡ Some s.held) × ((y : Segment) × (get u.names s.held.name ≡ Some y) × (y.shared ≡ true)))
    → (is : List ℕ) (shared : Each (IsShared k from) is) → AllShares u from (held_each k from is shared)
shares_known u k from has [] shared = tt
shares_known u k from has (i ∷ is) shared =
    let y = has i shared.0 in (
      record { held = shared.0.held; there = y.0; least = record { name = refl; rights = refl; cause = refl; first = refl; reserved = refl; holds = omega arith }; segment = y.1.0; named = y.1.1; shared = y.1.2 },
      shares_known u k from has is shared.1,
    )
