-- The changes of a call that makes a segment, or holds one once more, are fit.
use Rattle.std.proofs.Common.{◌≡◌, ℕ, zero, suc, ◌<◌, ◌≤◌, ◌==◌, ◌%◌, ◌||◌, Bool, true, false, List, [], ◌∷◌, Option, Some, if◌then◌else◌, ap, sym, ◌∙◌, refl, arith, subst}
use Rattle.std.specs.Prelude.{is_some}
use Rattle.o2_conf.specs.Dispatch.{Dispatch}
use Rattle.o2_world.specs.Map.{get}
use Rattle.o2_world.specs.World.{World, Process, Segment, Held, is_live}
use Rattle.o2_world.specs.Holders.{process_at}
use Rattle.o2_world.specs.Views.{with_bytes}
use Rattle.o2_world.specs.Changes.{Makes, Holds, Names, with_change}
use Rattle.o2_world.specs.Known.{taken_in, holds_index}
use Rattle.o2_world.specs.Calls.{Effect}
use Rattle.o2_world.specs.Rulings.{full_size, made_segment, held_as_code, held_by_call}
use Rattle.o2_world.specs.Sound.{held_in}
use Rattle.o2_world.specs.Run.{worked, working}
use Rattle.o2_world.specs.Tied.{HasSize, IsFitHold, AreFitChanges, has_no_flags}
use Rattle.o2_world.proofs.Keeps.{bytes_there}
use Rattle.o2_world.proofs.MapLemmas.{if_yes}
use Rattle.o2_world.proofs.StepReach.{same_at, own_at}
use Rattle.o2_world.proofs.TiedChanges.{zeros_length}

above_zero : (n : ℕ) → (n == 0) ≡ false → 0 < n
above_zero n e = grind arith

below_all : (n : ℕ) → n % 65536 ≤ 65536
below_all n = omega arith

pub full_is : (size : ℕ) → (0 < full_size size) × (full_size size ≤ 65536)
full_is size = go (size % 65536 == 0) refl
  where
    go : (b : Bool) → (size % 65536 == 0) ≡ b → (0 < (if b then 65536 else size % 65536)) × ((if b then 65536 else size % 65536) ≤ 65536)
    go true is = (omega arith, omega arith)
    go false is = (above_zero (size % 65536) is, below_all size)

pub made_size : (size flags : ℕ) → HasSize (made_segment size flags)
made_size size flags = subst (λ n. (0 < n) × (n ≤ 65536)) (sym (zeros_length (full_size size))) (full_is size)

pub same : (n : ℕ) → (n == n) ≡ true
same n = grind arith

pub either_false : (a b : Bool) → (a || b) ≡ false → a ≡ false
either_false true b e = absurd (cc)
either_false false b e = refl

not_some : {X : Type 0} (o : Option X) (x : X) → o ≡ Some x → is_some o ≡ false → ⊥
not_some o x e f = cc

-- an index that nobody holds
pub nobody : (ps : List Process) (place i : ℕ) (h : Held) → holds_index ps i ≡ false → held_in ps place i ≡ Some h → ⊥
nobody [] place i h none e = cc
nobody (p ∷ ps) zero i h none e = not_some (get p.held i) h e (either_false (is_some (get p.held i)) (holds_index ps i) none)
nobody (p ∷ ps) (suc place) i h none e = nobody ps place i h (rest (is_some (get p.held i)) (holds_index ps i) none) e
  where
    rest : (a b : Bool) → (a || b) ≡ false → b ≡ false
    rest true b e = absurd (cc)
    rest false b e = e

-- A new segment that isn't clean, held at an index that is free.
module _ (w : World) (d : Dispatch) (p : Process) (e : Effect) (new : Segment) (i : ℕ) (at : process_at w.processes d.current ≡ Some p) (lives : is_live (working p e).state ≡ true)
    (dirty : new.clean ≡ false) (free : 4096 ≤ i → taken_in w 0 i ≡ false) where
  pub fit_hold : IsFitHold (with_change (worked w d p e) (Makes new)) d.current i (held_by_call w.next_name)
  fit_hold = record {
    lives = ap is_some (if_yes (w.next_name == w.next_name) (Some new) (get (with_bytes w.names e.bytes) w.next_name) (same w.next_name));
    some = omega arith;
    clean = λ s g c. absurd (not_clean s (sym (if_yes (w.next_name == w.next_name) (Some new) (get (with_bytes w.names e.bytes) w.next_name) (same w.next_name)) ∙ g) c);
    goes_on = λ x there. live_here x (sym (own_at w.processes d.current p (working p e) at) ∙ there);
    one = λ place k big there. absurd (nobody w.processes place i k (either_false (holds_index w.processes i) _ (free big)) (sym (same_at w.processes d.current p (working p e) place i at refl) ∙ there));
  }
    where
      not_clean : (s : Segment) → Some new ≡ Some s → s.clean ≡ true → ⊥
      not_clean s g c = let z : s ≡ new = cc in let y : false ≡ true = sym dirty ∙ sym (ap (λ (t : Segment). t.clean) z) ∙ c in cc

      live_here : (x : Process) → Some (working p e) ≡ Some x → is_live x.state ≡ true
      live_here x g = let z : x ≡ working p e = cc in ap (λ (y : Process). is_live y.state) z ∙ lives

  -- with a name, too
  pub named_fit : (name : List ℕ) → HasSize new → new.flags ≡ 0 → e.changes ≡ Makes new ∷ Holds d.current i (held_by_call w.next_name) ∷ Names name w.next_name ∷ []
      → AreFitChanges (worked w d p e) e.changes
  named_fit name sized flags is = subst (AreFitChanges (worked w d p e)) (sym is) (sized, (fit_hold, (no_flags, tt)))
    where
      equal : (n : ℕ) → (n == n) ≡ true
      equal n = grind arith

      no_flags : has_no_flags (if w.next_name == w.next_name then Some new else get (worked w d p e).names w.next_name) ≡ true
      no_flags = ap has_no_flags (if_yes (w.next_name == w.next_name) _ _ (equal w.next_name)) ∙ (ap (λ (n : ℕ). n == 0) flags)

pub alloc_fit : (w : World) (d : Dispatch) (p : Process) (e : Effect) (size flags i : ℕ) → process_at w.processes d.current ≡ Some p → is_live (working p e).state ≡ true
    → e.changes ≡ Makes (made_segment size flags) ∷ Holds d.current i (held_by_call w.next_name) ∷ [] → (4096 ≤ i → taken_in w 0 i ≡ false)
    → AreFitChanges (worked w d p e) e.changes
alloc_fit w d p e size flags i at lives is free =
    subst (AreFitChanges (worked w d p e)) (sym is) (made_size size flags, (fit_hold w d p e (made_segment size flags) i at lives refl free, tt))

-- One hold more of a segment that lives, as code, at an index that is free.
module _ (w : World) (d : Dispatch) (p : Process) (e : Effect) (name i : ℕ) (at : process_at w.processes d.current ≡ Some p) (lives : is_live (working p e).state ≡ true)
    (is : e.changes ≡ Holds d.current i (held_as_code name) ∷ []) (there : is_some (get w.names name) ≡ true) (free : 4096 ≤ i → taken_in w 0 i ≡ false) where
  fit_alias : IsFitHold (worked w d p e) d.current i (held_as_code name)
  fit_alias = record {
    lives = bytes_there w.names e.bytes name ∙ there;
    some = omega arith;
    clean = λ s g c. refl;
    goes_on = λ x found. goes_on x (sym (own_at w.processes d.current p (working p e) at) ∙ found);
    one = λ place k big found. absurd (nobody w.processes place i k (either_false (holds_index w.processes i) _ (free big)) (sym (same_at w.processes d.current p (working p e) place i at refl) ∙ found));
  }
    where
      goes_on : (x : Process) → Some (working p e) ≡ Some x → is_live x.state ≡ true
      goes_on x g = let z : x ≡ working p e = cc in ap (λ (y : Process). is_live y.state) z ∙ lives

  pub alias_fit : AreFitChanges (worked w d p e) e.changes
  alias_fit = subst (AreFitChanges (worked w d p e)) (sym is) (fit_alias, tt)
