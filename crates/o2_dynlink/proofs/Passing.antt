-- Items of which each gives something, where nothing that is given is kept.
use Rattle.std.proofs.Common.{◌≡◌, ℕ, ◌+◌, ◌<◌, ◌≤◌, List, [], ◌∷◌, ◌++◌, drop, get_or, length, Result, Ok, Err, refl, ap}
use Rattle.o2_base.specs.declared.memory.Fail.{Fail}
use Rattle.o2_base.specs.declared.memory.Fail.TheVariants.{Bad, NoMemory}
use Rattle.o2_ne.specs.Steps.{over, Fails}
use Rattle.o2_ne.proofs.Overwise.{fails_here, goes_on, is_done}
use Rattle.o2_image.specs.Images.{Target}
use Rattle.o2_dynlink.specs.Imports.{each, gather, passed}

module _ {Y F : Type 0} where
  gives : (r : Result Y F) → passed r ≡ Ok tt → (y : Y) × (r ≡ Ok y)
  gives (Ok y) h = (y, refl)
  gives (Err e) h = absurd cc

  pub unpassed : (e : Fail F) (r : Result Y F) → Fails e (passed r) → Fails e r
  unpassed NoMemory r h = tt
  unpassed (Bad d) (Ok y) h = absurd cc
  unpassed (Bad d) (Err e) h = let same : e ≡ d = cc in ap (λ (x : F). Err x) same

  pub passed_by : (e : Fail F) (r : Result Y F) → Fails e r → Fails e (passed r)
  passed_by NoMemory r h = tt
  passed_by (Bad d) r h = rw h refl

module _ {F : Type 0} (g : ℕ → Result (List Target) F) (order : List ℕ) where
  -- the items before one give something
  abbrev pub PassTo : ℕ → Type 0
  PassTo k = (found : List (List Target)) × (over (gather g) (drop k order) found ≡ each g order)

  pub none_yet : PassTo 0
  none_yet = ([], refl)

  pub one_more : (k : ℕ) → k < length order → passed (g (get_or order k 0)) ≡ Ok tt → PassTo k → PassTo (k + 1)
  one_more k lt h so_far = let y = gives (g (get_or order k 0)) h in more y.0 y.1
    where
      more : (y : List Target) → g (get_or order k 0) ≡ Ok y → PassTo (k + 1)
      more y is =
          let one : gather g (get_or order k 0) so_far.0 ≡ Ok (so_far.0 ++ y ∷ []) = rw is refl in
          (so_far.0 ++ y ∷ [], goes_on (gather g) order k 0 so_far.0 (so_far.0 ++ y ∷ []) (each g order) lt one so_far.1)

  -- one that gives nothing is the first
  pub stops : (e : Fail F) (k : ℕ) → k < length order → Fails e (passed (g (get_or order k 0))) → PassTo k → Fails e (passed (each g order))
  stops NoMemory k lt h so_far = tt
  stops (Bad d) k lt h so_far =
      let bad : g (get_or order k 0) ≡ Err d = unpassed (Bad d) (g (get_or order k 0)) h in
      passed_by (Bad d) (each g order) (fails_here (Bad d) (gather g) order k 0 so_far.0 (each g order) lt (rw bad refl) so_far.1)

  pub all_pass : (k : ℕ) → length order ≤ k → PassTo k → passed (each g order) ≡ Ok tt
  all_pass k le so_far = rw (is_done (gather g) order k so_far.0 (each g order) le so_far.1) refl
