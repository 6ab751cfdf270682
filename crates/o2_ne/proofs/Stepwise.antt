-- A loop that reads by steps.
use Rattle.std.proofs.Common.{◌≡◌, ℕ, zero, suc, ◌-◌, ◌+◌, ◌≤◌, ◌<◌, Result, Ok, Err, refl, sym, ◌∙◌, arith}
use Rattle.o2_base.specs.declared.memory.Fail.{Fail}
use Rattle.o2_base.specs.declared.memory.Fail.TheVariants.{Bad, NoMemory}
use Rattle.o2_ne.specs.Steps.{steps, Fails}

module _ {S F : Type 0} where
  -- a step that passed leads to the same end
  pub goes_on : (f : S → Result S F) (count i : ℕ) (s after : S) (total : Result S F) → i < count → f s ≡ Ok after
      → steps f (count - i) s ≡ total → steps f (count - (i + 1)) after ≡ total
  unfolding steps
  goes_on f count i s after total lt h so_far =
      let k : count - i ≡ suc (count - (i + 1)) = omega arith in
      let one : steps f (count - i) s ≡ steps f (count - (i + 1)) after = rw (k, h) refl in
      sym one ∙ so_far

  -- a step that failed is the end
  pub fails_here : (e : Fail F) (f : S → Result S F) (count i : ℕ) (s : S) (total : Result S F) → i < count → Fails e (f s)
      → steps f (count - i) s ≡ total → Fails e total
  unfolding steps
  fails_here NoMemory f count i s total lt h so_far = tt
  fails_here (Bad x) f count i s total lt h so_far =
      let k : count - i ≡ suc (count - (i + 1)) = omega arith in
      let one : steps f (count - i) s ≡ Err x = rw (k, h) refl in
      sym so_far ∙ one

  -- no step is left
  pub is_done : (f : S → Result S F) (count i : ℕ) (s : S) (total : Result S F) → count ≤ i → steps f (count - i) s ≡ total → total ≡ Ok s
  unfolding steps
  is_done f count i s total le so_far =
      let k : count - i ≡ 0 = omega arith in
      let one : steps f (count - i) s ≡ Ok s = rw k refl in
      sym so_far ∙ one

  -- where a step changes nothing, no step does
  pub stays : (f : S → Result S F) (n : ℕ) (s : S) → f s ≡ Ok s → steps f n s ≡ Ok s
  unfolding steps
  stays f zero s h = refl
  stays f (suc n) s h = rw h (stays f n s h)
