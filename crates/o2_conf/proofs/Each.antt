-- A loop that reads the items of an array.
use Rattle.std.proofs.Common.{◌≡◌, ℕ, ◌+◌, ◌≤◌, ◌<◌, List, drop, length, get_or, Result, Ok, Err, refl, sym, ◌∙◌}
use Rattle.std.proofs.lemmas.List.{drop_all}
use Rattle.toml.specs.Data.{Data}
use Rattle.toml.specs.View.{items_view, view}
use Rattle.toml.proofs.Views.{items_view-drop}
use Rattle.toml.specs.declared.value.Value.{Value}
use Rattle.o2_base.specs.declared.memory.Fail.{Fail}
use Rattle.o2_base.specs.declared.memory.Fail.TheVariants.{Bad, NoMemory}
use Rattle.o2_conf.specs.Steps.{each, Fails}

module _ {S F : Type 0} where
  -- an item that passed leads to the same end
  pub goes_on : (f : Data → S → Result S F) (vs : List Value) (i : ℕ) (v : Value) (s after : S) (total : Result S F) → i < length vs → v ≡ get_or vs i v
      → f (view v) s ≡ Ok after → each f (items_view (drop i vs)) s ≡ total → each f (items_view (drop (i + 1) vs)) after ≡ total
  unfolding each
  goes_on f vs i v s after total lt here h so_far =
      let one : each f (items_view (drop i vs)) s ≡ each f (items_view (drop (i + 1) vs)) after = rw (items_view-drop vs i v lt, ← here, h) refl in
      sym one ∙ so_far

  -- an item that failed is the end
  pub fails_here : (e : Fail F) (f : Data → S → Result S F) (vs : List Value) (i : ℕ) (v : Value) (s : S) (total : Result S F) → i < length vs → v ≡ get_or vs i v
      → Fails e (f (view v) s) → each f (items_view (drop i vs)) s ≡ total → Fails e total
  unfolding each
  fails_here NoMemory f vs i v s total lt here h so_far = tt
  fails_here (Bad x) f vs i v s total lt here h so_far =
      let one : each f (items_view (drop i vs)) s ≡ Err x = rw (items_view-drop vs i v lt, ← here, h) refl in
      sym so_far ∙ one

  -- no item is left
  pub is_done : (f : Data → S → Result S F) (vs : List Value) (i : ℕ) (s : S) (total : Result S F) → length vs ≤ i
      → each f (items_view (drop i vs)) s ≡ total → total ≡ Ok s
  unfolding each
  is_done f vs i s total le so_far =
      let one : each f (items_view (drop i vs)) s ≡ Ok s = rw (drop_all i vs le) refl in
      sym so_far ∙ one

  -- an item that failed is the end, where memory plays no part
  pub err_here : (x : F) (f : Data → S → Result S F) (vs : List Value) (i : ℕ) (v : Value) (s : S) (total : Result S F) → i < length vs → v ≡ get_or vs i v
      → f (view v) s ≡ Err x → each f (items_view (drop i vs)) s ≡ total → total ≡ Err x
  err_here x f vs i v s total lt here h so_far = fails_here (Bad x) f vs i v s total lt here h so_far
