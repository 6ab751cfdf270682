-- Records and lists of records taken in turn, each of which may fail.
use Rattle.std.proofs.Common.{◌≡◌, ℕ, ◌+◌, ◌<◌, List, [], Some, drop, get_or, length, ap, ◌∙◌, Result, Ok}
use Rattle.std.specs.List.{slice_get}
use Rattle.std.proofs.lemmas.Option.{get_or_from_slice_get, slice_get_within, slice_get-get_or}
use Rattle.o2_base.specs.declared.memory.Fail.{Fail}
use Rattle.o2_ne.specs.Steps.{Fails, over}
use Rattle.o2_ne.proofs.Overwise.{fails_here, goes_on}
use Rattle.o2_image.specs.Getters.{list_or_none, nth_list}
use Rattle.o2_dynlink.proofs.Items.{nth_next}

module _ {X S F : Type 0} where
  -- an item that is taken from the list
  pub item_goes_on : (f : X → S → Result S F) (xs : List X) (i : ℕ) (x : X) (s after : S) (total : Result S F) → i < length xs → x ≡ get_or xs i x
      → f x s ≡ Ok after → over f (drop i xs) s ≡ total → over f (drop (i + 1) xs) after ≡ total
  item_goes_on f xs i x s after total lt is h so_far = goes_on f xs i x s after total lt (rw (← is) h) so_far

  pub item_fails_here : (e : Fail F) (f : X → S → Result S F) (xs : List X) (i : ℕ) (x : X) (s : S) (total : Result S F) → i < length xs → x ≡ get_or xs i x
      → Fails e (f x s) → over f (drop i xs) s ≡ total → Fails e total
  item_fails_here e f xs i x s total lt is h so_far = fails_here e f xs i x s total lt (rw (← is) h) so_far

  pub row_goes_on : (f : X → S → Result S F) (xs : List X) (k : ℕ) (x : X) (s after : S) (total : Result S F) → slice_get xs k ≡ Some x
      → f x s ≡ Ok after → over f (drop k xs) s ≡ total → over f (drop (k + 1) xs) after ≡ total
  row_goes_on f xs k x s after total is h so_far =
      goes_on f xs k x s after total (slice_get_within xs k x is) (rw (get_or_from_slice_get xs k x x is) h) so_far

  pub row_fails_here : (e : Fail F) (f : X → S → Result S F) (xs : List X) (k : ℕ) (x : X) (s : S) (total : Result S F) → slice_get xs k ≡ Some x
      → Fails e (f x s) → over f (drop k xs) s ≡ total → Fails e total
  row_fails_here e f xs k x s total is h so_far =
      fails_here e f xs k x s total (slice_get_within xs k x is) (rw (get_or_from_slice_get xs k x x is) h) so_far

-- a list by its number from 1 is there
pub list_there : {X : Type 0} (xss : List (List X)) (k : ℕ) → k < length xss → slice_get xss k ≡ Some (nth_list xss (k + 1))
list_there {X} xss k lt =
    let there = slice_get-get_or xss k [] lt in
    let is : nth_list xss (k + 1) ≡ get_or xss k [] = ap list_or_none (nth_next xss k ∙ there) in
    rw is there
