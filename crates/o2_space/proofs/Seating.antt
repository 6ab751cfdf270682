-- In a sound world no segment register of a process that goes on names a discarded segment, and so none in a machine that stands for it.
use Rattle.std.proofs.Common.{◌≡◌, ℕ, zero, suc, ◌-◌, if◌then◌else◌, ◌/◌, ◌==◌, ◌&&◌, ◌||◌, Bool, true, false, List, [], ◌∷◌, Option, Some, None, option_map, ap, sym, ◌∙◌, refl, subst}
use Rattle.std.specs.List.{list_any}
use Rattle.std.specs.Prelude.{slice_get}
use Rattle.std.proofs.lemmas.Bool.{eq-eqb, false≢true}
use Rattle.o2_isa.specs.View.{Hold, bound_in, bound_registers}
use Rattle.o2_regions.specs.declared.held.Held.{Held}
use Rattle.o2_segbus.specs.Bus.{held_under}
use Rattle.o2_segbus.specs.Seen.{hold_of, key_of}
use Rattle.o2_segbus.proofs.Holds.{bound_is, under_at}
use Rattle.o2_store.specs.Shelf.{entry}
use Rattle.o2_world.specs.Discards.{has_seated, is_of, is_seated, seats}
use Rattle.o2_world.specs.Holders.{process_at}
use Rattle.o2_world.specs.Map.{get}
use Rattle.o2_world.specs.Tied.{IsSound}
use Rattle.o2_world.specs.Views.{holds_in}
use Rattle.o2_world.specs.World.{Process, Segment, World, is_live}
use Rattle.o2_stands.specs.Parts.{Parts}
use Rattle.o2_stands.specs.Stands.{IsNamed, Stands}
use Rattle.o2_stands.proofs.Matching.{matched_by}
use Rattle.o2_stepping.specs.Seated.{HasWholeSeats}
use Rattle.o2_space.proofs.Wording.{holds_matched}

-- one that seats it is among them
one_seats : (q : ℕ) (ps : List Process) (k : ℕ) (x : Process) → slice_get ps k ≡ Some x → seats x q ≡ true → list_any (λ (p : Process). seats p q) ps ≡ true
one_seats q [] k x at is = absurd (cc)
one_seats q (p ∷ ps) zero x at is = (let same : p ≡ x = cc in ap (λ (b : Bool). b || list_any (λ (y : Process). seats y q) ps) (ap (λ (y : Process). seats y q) same ∙ is))
one_seats q (p ∷ ps) (suc k) x at is = go (seats p q) (one_seats q ps k x at is)
  where
    go : (b : Bool) → list_any (λ (y : Process). seats y q) ps ≡ true → (b || list_any (λ (y : Process). seats y q) ps) ≡ true
    go true e = refl
    go false e = e

pub seated_by : (q : ℕ) (ps : List Process) (n : ℕ) (x : Process) → process_at ps n ≡ Some x → seats x q ≡ true → is_seated ps q ≡ true
unfolding is_seated
seated_by q ps n x at is = go (n == 0) at
  where
    go : (b : Bool) → (if b then None else slice_get ps (n - 1)) ≡ Some x → list_any (λ (p : Process). seats p q) ps ≡ true
    go true e = absurd (cc)
    go false e = one_seats q ps (n - 1) x e is

module _ (p : Parts) (w : World) (x : Process) (pid : ℕ) (stands : Stands p w) (at : process_at w.processes pid ≡ Some x) (alive : is_live x.state ≡ true) (sound : IsSound w) where
  -- what a selector names there
  named_by : (z : ℕ) (h : Held) → held_under p.maps pid z ≡ Some h → is_of h.id.age (bound_in (holds_in x.held) z) ≡ true
  named_by z h e =
      ap (λ (f : ℕ → Option Hold). is_of h.id.age (bound_in f z)) (holds_matched p w pid x at (matched_by p w.processes w.names w.next_name w.reserved stands))
      ∙ ap (is_of h.id.age) (bound_is p.maps pid z ∙ ap (option_map (hold_of p.maps pid (z / 8))) e)
      ∙ eq-eqb h.id.age h.id.age refl

  whole_by : (h : Held) (z : ℕ) → held_under p.maps pid z ≡ Some h → has_seated (bound_registers (holds_in x.held) x.cpu) h.id.age ≡ true → (entry p.shelf h.id.key).attr.gone ≡ false
  whole_by h z e seated = go (get w.names h.id.age) refl (entry p.shelf h.id.key).attr.gone refl (subst (λ (o : Option ℕ). IsNamed p o (get w.names h.id.age)) key (stands.segments h.id.age))
    where
      key : key_of p.shelf h.id.age ≡ Some h.id.key
      key = stands.ready.named pid (z / 8) h (under_at p.maps pid z h e)

      there : is_seated w.processes h.id.age ≡ true
      there = seated_by h.id.age w.processes pid x at (ap (λ (b : Bool). b && has_seated (bound_registers (holds_in x.held) x.cpu) h.id.age) alive ∙ seated)

      go : (o : Option Segment) → get w.names h.id.age ≡ o → (b : Bool) → (entry p.shelf h.id.key).attr.gone ≡ b → IsNamed p (Some h.id.key) o → b ≡ false
      go o f false g is = refl
      go None f true g is = absurd is
      go (Some s) f true g is = absurd (false≢true (sym (sound.discarded.each h.id.age s f (is.discarded ∙ g)).may_be.unseated ∙ there))

  abbrev seats_here : ℕ → (z : ℕ) → Bool
  seats_here q z = is_of q (bound_in (holds_in x.held) z)

  seated_here : (q : ℕ) → ((seats_here q x.cpu.es || seats_here q x.cpu.cs) || (seats_here q x.cpu.ss || seats_here q x.cpu.ds)) ≡ true → has_seated (bound_registers (holds_in x.held) x.cpu) q ≡ true
  seated_here q e = e

  pub whole_seats : HasWholeSeats p.shelf p.maps pid x.cpu
  whole_seats = record {
    es = λ h e. whole_by h x.cpu.es e (seated_here h.id.age
        (first (seats_here h.id.age x.cpu.es) (seats_here h.id.age x.cpu.cs) (seats_here h.id.age x.cpu.ss) (seats_here h.id.age x.cpu.ds) (named_by x.cpu.es h e)));
    cs = λ h e. whole_by h x.cpu.cs e (seated_here h.id.age
        (second (seats_here h.id.age x.cpu.es) (seats_here h.id.age x.cpu.cs) (seats_here h.id.age x.cpu.ss) (seats_here h.id.age x.cpu.ds) (named_by x.cpu.cs h e)));
    ss = λ h e. whole_by h x.cpu.ss e (seated_here h.id.age
        (third (seats_here h.id.age x.cpu.es) (seats_here h.id.age x.cpu.cs) (seats_here h.id.age x.cpu.ss) (seats_here h.id.age x.cpu.ds) (named_by x.cpu.ss h e)));
    ds = λ h e. whole_by h x.cpu.ds e (seated_here h.id.age
        (fourth (seats_here h.id.age x.cpu.es) (seats_here h.id.age x.cpu.cs) (seats_here h.id.age x.cpu.ss) (seats_here h.id.age x.cpu.ds) (named_by x.cpu.ds h e)));
  }
    where
      first : (a b c d : Bool) → a ≡ true → ((a || b) || (c || d)) ≡ true
      first true b c d e = refl
      first false b c d e = absurd (false≢true e)

      second : (a b c d : Bool) → b ≡ true → ((a || b) || (c || d)) ≡ true
      second true b c d e = refl
      second false true c d e = refl
      second false false c d e = absurd (false≢true e)

      third : (a b c d : Bool) → c ≡ true → ((a || b) || (c || d)) ≡ true
      third true b c d e = refl
      third false true c d e = refl
      third false false true d e = refl
      third false false false d e = absurd (false≢true e)

      fourth : (a b c d : Bool) → d ≡ true → ((a || b) || (c || d)) ≡ true
      fourth true b c d e = refl
      fourth false true c d e = refl
      fourth false false true d e = refl
      fourth false false false true e = refl
      fourth false false false false e = absurd (false≢true e)
