-- What a process holds that is changed by its number.
use Rattle.std.proofs.Common.{◌≡◌, ◌⊎◌, inl, inr, ℕ, ◌-◌, ◌<◌, Bool, true, false, cond, List, Option, Some, None, refl, sym, ap, ◌∙◌, arith}
use Rattle.std.specs.Prelude.{option_map, slice_get, ◌==◌}
use Rattle.o2_world.specs.Changes.{at_number, at_place}
use Rattle.o2_world.specs.Holders.{process_at}
use Rattle.o2_world.specs.Known.{held_at}
use Rattle.o2_world.specs.Map.{get}
use Rattle.o2_world.specs.Sound.{held_of}
use Rattle.o2_world.specs.World.{Held, Process}
use Rattle.o2_world.proofs.Reached.{get-place}

no_hold : (h : Held) → ◌≡◌ {A = Option Held} None (Some h) → ⊥
no_hold h e = cc

pub record IsOf (ps : List Process) (k n i : ℕ) (f : Process → Process) (h : Held) : Type 0 where
  pub same : n ≡ k
  pub process : Process
  pub there : process_at ps n ≡ Some process
  pub is : get (f process).held i ≡ Some h

positive : (n : ℕ) → (n == 0) ≡ false → 0 < n
positive n e = grind arith

one_before : (n k : ℕ) → (n == k) ≡ true → n ≡ k
one_before n k e = grind arith

module _ (ps : List Process) (k n i : ℕ) (f : Process → Process) (h : Held) where
  at_place_there : (n == 0) ≡ false → (k == 0) ≡ false → (c : Bool) → (n - 1 == k - 1) ≡ c → (o : Option Process) → slice_get ps (n - 1) ≡ o → held_of (cond c (option_map f o) o) i ≡ Some h
      → (held_at ps n i ≡ Some h) ⊎ IsOf ps k n i f h
  at_place_there p q false r o s e = inl (ap (λ (c : Bool). held_of (cond c None (slice_get ps (n - 1))) i) p ∙ (ap (λ (z : Option Process). held_of z i) s ∙ e))
  at_place_there p q true r None s e = absurd (no_hold h e)
  at_place_there p q true r (Some y) s e =
      inr (record {
        same = (let a = positive n p in let b = positive k q in let x = one_before (n - 1) (k - 1) r in omega (arith, a, b, x));
        process = y;
        there = ap (λ (c : Bool). cond c None (slice_get ps (n - 1))) p ∙ s;
        is = e;
      })

  -- what is held behind was held before, or by the process that is changed
  pub from_number : held_at (at_number k f ps) n i ≡ Some h → (held_at ps n i ≡ Some h) ⊎ IsOf ps k n i f h
  from_number e = by (n == 0) refl (k == 0) refl e
    where
      by : (a : Bool) → (n == 0) ≡ a → (b : Bool) → (k == 0) ≡ b → held_of (cond a None (slice_get (cond b ps (at_place (k - 1) f ps)) (n - 1))) i ≡ Some h
          → (held_at ps n i ≡ Some h) ⊎ IsOf ps k n i f h
      by true p b q e = absurd (no_hold h e)
      by false p true q e = inl (ap (λ (c : Bool). held_of (cond c None (slice_get ps (n - 1))) i) p ∙ e)
      by false p false q e =
          at_place_there p q (n - 1 == k - 1) refl (slice_get ps (n - 1)) refl
          (sym (ap (λ (o : Option Process). held_of o i) (get-place (k - 1) (n - 1) f ps)) ∙ e)
