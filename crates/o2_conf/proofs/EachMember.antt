-- A loop that reads the members of a table.
use Rattle.std.proofs.Common.{◌≡◌, ℕ, List, [], ◌∷◌, Result, Ok, Err, refl, sym, ◌∙◌, String, string_bytes, Global}
use Rattle.toml.specs.Data.{Data}
use Rattle.toml.specs.View.{members_view, view}
use Rattle.toml.specs.declared.value.Value.{Value}
use Rattle.o2_base.specs.declared.memory.Fail.{Fail}
use Rattle.o2_base.specs.declared.memory.Fail.TheVariants.{Bad, NoMemory}
use Rattle.o2_conf.specs.Steps.{each_member, Fails}

module _ {S F : Type 0} where
  pub goes_on : (f : List ℕ → Data → S → Result S F) (es rest : List (String Global × Value)) (k : String Global) (v : Value) (s after : S) (total : Result S F) → es ≡ (k, v) ∷ rest
      → f (string_bytes k) (view v) s ≡ Ok after → each_member f (members_view es) s ≡ total → each_member f (members_view rest) after ≡ total
  unfolding each_member
  goes_on f es rest k v s after total here h so_far =
      let one : each_member f (members_view es) s ≡ each_member f (members_view rest) after = rw (here, h) refl in
      sym one ∙ so_far

  pub fails_here : (e : Fail F) (f : List ℕ → Data → S → Result S F) (es rest : List (String Global × Value)) (k : String Global) (v : Value) (s : S) (total : Result S F) → es ≡ (k, v) ∷ rest
      → Fails e (f (string_bytes k) (view v) s) → each_member f (members_view es) s ≡ total → Fails e total
  unfolding each_member
  fails_here NoMemory f es rest k v s total here h so_far = tt
  fails_here (Bad x) f es rest k v s total here h so_far =
      let one : each_member f (members_view es) s ≡ Err x = rw (here, h) refl in
      sym so_far ∙ one

  pub is_done : (f : List ℕ → Data → S → Result S F) (es : List (String Global × Value)) (s : S) (total : Result S F) → es ≡ [] → each_member f (members_view es) s ≡ total → total ≡ Ok s
  unfolding each_member
  is_done f es s total none so_far =
      let one : each_member f (members_view es) s ≡ Ok s = rw none refl in
      sym so_far ∙ one
