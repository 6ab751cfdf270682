-- Lists of targets, of which there is one more each time.
use Rattle.std.proofs.Common.{◌≡◌, ℕ, ◌+◌, List, [], ◌∷◌, ◌++◌, Bool, true, false, if◌then◌else◌, Option, Some, None, get_or, length, Result, Ok, Err, refl, sym, ap, ◌∙◌, arith}
use Rattle.std.specs.Prelude.{IfSome}
use Rattle.std.proofs.Math.Seq.{get_or-append_seam}
use Rattle.std.proofs.lemmas.List.{get_or_append_left, length-append}
use Rattle.o2_ne.specs.Checks.{◌>>=◌}
use Rattle.o2_image.specs.Images.{Target}
use Rattle.o2_dynlink.specs.declared.gathering.Last.{Last}
use Rattle.o2_dynlink.specs.Imports.{gather}
use Rattle.o2_dynlink.specs.Memo.{IsKnown}

module _ {F : Type 0} (g : ℕ → Result (List Target) F) where
  step : (found after : List (List Target)) (r : Result (List Target) F) → (r >>= (λ y. Ok (found ++ y ∷ []))) ≡ Ok after → (y : List Target) × (r ≡ Ok y) × (after ≡ found ++ y ∷ [])
  step found after (Ok y) e = let is : found ++ y ∷ [] ≡ after = cc in (y, refl, sym is)
  step found after (Err d) e = absurd cc

  pub longer : (found after : List (List Target)) (seg k : ℕ) → length found ≡ k → gather g seg found ≡ Ok after → length after ≡ k + 1
  longer found after seg k count h =
      let one = step found after (g seg) h in
      ap length one.2 ∙ length-append found (one.0 ∷ []) ∙ omega (arith, count)

  -- what is known stays so
  still : (found : List (List Target)) (y : List Target) (last : Last) → IsKnown g found last → IsKnown g (found ++ y ∷ []) last
  still found y last known =
      let low = known.low in
      record {
        low = omega (arith, length-append found (y ∷ []), low);
        are = known.are ∙ ap (λ x. Ok x) (sym (get_or_append_left found (y ∷ []) [] last.index known.low));
      }

  all_still : (found : List (List Target)) (y : List Target) (last : Option Last) → IfSome last (IsKnown g found) → IfSome last (IsKnown g (found ++ y ∷ []))
  all_still found y None known = tt
  all_still found y (Some last) known = still found y last known

  -- and so is the list that was added
  newest : (found : List (List Target)) (y : List Target) (seg k : ℕ) → length found ≡ k → g seg ≡ Ok y → IsKnown g (found ++ y ∷ []) (record { index = k; seg = seg })
  newest found y seg k count is = record {
    low = omega (arith, length-append found (y ∷ []), count);
    are = is ∙ ap (λ x. Ok x) (sym (ap (λ i. get_or (found ++ y ∷ []) i []) (sym count) ∙ get_or-append_seam found y [] []));
  }

  either : (found : List (List Target)) (y : List Target) (seg k : ℕ) (last : Option Last) (more : Bool) → length found ≡ k → g seg ≡ Ok y → IfSome last (IsKnown g found)
      → IfSome (if more then Some (record { index = k; seg = seg }) else last) (IsKnown g (found ++ y ∷ []))
  either found y seg k last true count is known = newest found y seg k count is
  either found y seg k last false count is known = all_still found y last known

  pub known_after : (found after : List (List Target)) (seg k : ℕ) (last next : Option Last) (more : Bool) → length found ≡ k → gather g seg found ≡ Ok after → IfSome last (IsKnown g found)
      → next ≡ (if more then Some (record { index = k; seg = seg }) else last) → IfSome next (IsKnown g after)
  known_after found after seg k last next more count h known is =
      let one = step found after (g seg) h in
      rw (is, one.2) (either found one.0 seg k last more count one.1 known)
