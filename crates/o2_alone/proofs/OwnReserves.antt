-- What is reserved of a process's own region, and what of it is left where nobody's runs go.
use Rattle.std.proofs.Common.{◌≡◌, refl, sym, ◌∙◌, ap, subst, ℕ, ◌+◌, ◌<◌, ◌==◌, ◌&&◌, ◌||◌, Bool, true, false, cond, List, [], ◌∷◌, arith}
use Rattle.std.specs.Prelude.{Option, Some, None, filter, nat_le, nat_lt, option_map}
use Rattle.std.specs.List.{list_any}
use Rattle.std.proofs.lemmas.Bool.{eqb-true, false≢true}
use mathlib.Core.Path.{fun_ext}
use Rattle.o2_world.specs.Map.{Map, get}
use Rattle.o2_world.specs.World.{Held, Process, Reserve}
use Rattle.o2_world.specs.Holders.{process_at}
use Rattle.o2_world.specs.Changes.{holds_run, is_used, own_run_held, run_held, runs_from, used}
use Rattle.o2_world.specs.Known.{reserves}
use Rattle.o2_world.specs.Tied.{AreUsed}
use Rattle.o2_world.proofs.HoldsSwept.{own_found}
use Rattle.o2_alone.specs.Renaming.{Renaming, renamed_held}
use Rattle.o2_alone.specs.Isolation.{own_reserves}

-- an index of the region is reserved by what is of the region
own_reserved : (number i : ℕ) (rs : List Reserve) → list_any (reserves number i) (own_reserves number rs) ≡ list_any (reserves number i) rs
own_reserved number i [] = refl
own_reserved number i (r ∷ rs) = go (r.region == number) refl (own_reserved number i rs)
  where
    go : (b : Bool) → (r.region == number) ≡ b → list_any (reserves number i) (own_reserves number rs) ≡ list_any (reserves number i) rs
        → list_any (reserves number i) (cond b (r ∷ own_reserves number rs) (own_reserves number rs)) ≡ (((r.region == number) && (nat_le r.first i && nat_lt i (r.first + r.count))) || list_any (reserves number i) rs)
    go true e rest = ap (λ (x : Bool). reserves number i r || x) rest
    go false e rest = rest ∙ ap (λ (x : Bool). (x && (nat_le r.first i && nat_lt i (r.first + r.count))) || list_any (reserves number i) rs) (sym e)

pub same_reserved : (number i : ℕ) (rs qs : List Reserve) → own_reserves number qs ≡ own_reserves number rs → list_any (reserves number i) qs ≡ list_any (reserves number i) rs
same_reserved number i rs qs same = sym (own_reserved number i qs) ∙ (ap (λ (xs : List Reserve). list_any (reserves number i) xs) same ∙ own_reserved number i rs)

-- Who holds a run, by index.

record IsUnder (first : ℕ) (held : Map Held) : Type 0 where
  index : ℕ
  hold : Held
  there : get held index ≡ Some hold
  runs : runs_from first (Some hold) ≡ true

at_index : (first i : ℕ) (held : Map Held) (o : Option Held) → get held i ≡ o → runs_from first o ≡ true → IsUnder first held
at_index first i held None at e = absurd (false≢true e)
at_index first i held (Some h) at e = record { index = i; hold = h; there = at; runs = e }

any_under : (first : ℕ) (held es : Map Held) → list_any (λ (e : ℕ × Held). runs_from first (get held e.0)) es ≡ true → IsUnder first held
any_under first held [] e = absurd (false≢true e)
any_under first held (x ∷ es) e = go (any_under first held es) (runs_from first (get held x.0)) refl e
  where
    go : (list_any (λ (y : ℕ × Held). runs_from first (get held y.0)) es ≡ true → IsUnder first held) → (b : Bool) → runs_from first (get held x.0) ≡ b
        → (b || list_any (λ (y : ℕ × Held). runs_from first (get held y.0)) es) ≡ true → IsUnder first held
    go later true is f = at_index first x.0 held (get held x.0) refl is
    go later false is f = later f

under : (first : ℕ) (held : Map Held) → holds_run held first ≡ true → IsUnder first held
unfolding holds_run
under first held e = any_under first held held e

-- twins hold the same runs
holds_same : (f : Renaming) (p q : Process) → ((i : ℕ) → get q.held i ≡ option_map (renamed_held f) (get p.held i)) → (first : ℕ) → holds_run q.held first ≡ holds_run p.held first
holds_same f p q same first = go (holds_run q.held first) refl (holds_run p.held first) refl
  where
    there : holds_run p.held first ≡ true → holds_run q.held first ≡ true
    there e =
        let u = under first p.held e in
        own_found first u.index (Some q) (renamed_held f u.hold) (same u.index ∙ ap (option_map (renamed_held f)) u.there) u.runs

    back_of : (i : ℕ) (h : Held) → runs_from first (Some h) ≡ true → (o : Option Held) → get p.held i ≡ o → option_map (renamed_held f) o ≡ Some h → holds_run p.held first ≡ true
    back_of i h runs None at e = cc
    back_of i h runs (Some g) at e =
        let is : renamed_held f g ≡ h = cc in
        own_found first i (Some p) g at (subst (λ (x : Held). runs_from first (Some x) ≡ true) (sym is) runs)

    back : holds_run q.held first ≡ true → holds_run p.held first ≡ true
    back e = (let u = under first q.held e in back_of u.index u.hold u.runs (get p.held u.index) refl (sym (same u.index) ∙ u.there))

    go : (a : Bool) → holds_run q.held first ≡ a → (b : Bool) → holds_run p.held first ≡ b → a ≡ b
    go true e true g = refl
    go false e false g = refl
    go true e false g = absurd (false≢true (sym g ∙ back e))
    go false e true g = absurd (false≢true (sym e ∙ there g))

-- What is left where what nobody holds goes.

abbrev runs_of : Process → Reserve → Bool
runs_of x r = holds_run x.held r.first

module _ (ps : List Process) (number : ℕ) (some : 0 < number) (x : Process) (at : process_at ps number ≡ Some x) where
  used_is : (r : Reserve) → (r.region == number) ≡ true → is_used ps r ≡ runs_of x r
  used_is r e =
      let region : r.region ≡ number = eqb-true r.region number e in
      let other : (r.region == 0) ≡ false = not_zero r.region number region some in
      ap (λ (b : Bool). cond b (r.stays || run_held ps r.first) (own_run_held (process_at ps r.region) r.first)) other
      ∙ (ap (λ (n : ℕ). own_run_held (process_at ps n) r.first) region ∙ ap (λ (o : Option Process). own_run_held o r.first) at)
    where
      not_zero : (a b : ℕ) → a ≡ b → 0 < b → (a == 0) ≡ false
      not_zero a b e l = grind arith

  own_used : (rs : List Reserve) → own_reserves number (used ps rs) ≡ filter (runs_of x) (own_reserves number rs)
  own_used [] = refl
  own_used (r ∷ rs) = go (r.region == number) refl (is_used ps r) refl (own_used rs)
    where
      go : (a : Bool) → (r.region == number) ≡ a → (c : Bool) → is_used ps r ≡ c → own_reserves number (used ps rs) ≡ filter (runs_of x) (own_reserves number rs)
          → own_reserves number (cond c (r ∷ used ps rs) (used ps rs)) ≡ filter (runs_of x) (cond a (r ∷ own_reserves number rs) (own_reserves number rs))
      go false e false u rest = rest
      go false e true u rest = ap (λ (b : Bool). cond b (r ∷ own_reserves number (used ps rs)) (own_reserves number (used ps rs))) e ∙ rest
      go true e false u rest = rest ∙ sym (ap (λ (b : Bool). cond b (r ∷ filter (runs_of x) (own_reserves number rs)) (filter (runs_of x) (own_reserves number rs))) (sym (used_is r e) ∙ u))
      go true e true u rest =
          ap (λ (b : Bool). cond b (r ∷ own_reserves number (used ps rs)) (own_reserves number (used ps rs))) e
          ∙ (ap (λ (xs : List Reserve). r ∷ xs) rest
          ∙ sym (ap (λ (b : Bool). cond b (r ∷ filter (runs_of x) (own_reserves number rs)) (filter (runs_of x) (own_reserves number rs))) (sym (used_is r e) ∙ u)))

  -- where each is used, all is left
  all_used : (rs : List Reserve) → AreUsed ps rs → filter (runs_of x) (own_reserves number rs) ≡ own_reserves number rs
  all_used [] all = refl
  all_used (r ∷ rs) all = go (r.region == number) refl (all_used rs all.1)
    where
      go : (a : Bool) → (r.region == number) ≡ a → filter (runs_of x) (own_reserves number rs) ≡ own_reserves number rs
          → filter (runs_of x) (cond a (r ∷ own_reserves number rs) (own_reserves number rs)) ≡ cond a (r ∷ own_reserves number rs) (own_reserves number rs)
      go false e rest = rest
      go true e rest =
          ap (λ (b : Bool). cond b (r ∷ filter (runs_of x) (own_reserves number rs)) (filter (runs_of x) (own_reserves number rs))) (sym (used_is r e) ∙ all.0)
          ∙ ap (λ (xs : List Reserve). r ∷ xs) rest

-- twins have the same left
pub twins_left : (f : Renaming) (number : ℕ) (ps qs : List Process) (p q : Process) (rs ss : List Reserve) → 0 < number → process_at ps number ≡ Some p → process_at qs number ≡ Some q
    → ((i : ℕ) → get q.held i ≡ option_map (renamed_held f) (get p.held i)) → own_reserves number ss ≡ own_reserves number rs → own_reserves number (used qs ss) ≡ own_reserves number (used ps rs)
twins_left f number ps qs p q rs ss some at at_too same left =
    own_used qs number some q at_too ss
    ∙ (ap (λ (g : Reserve → Bool). filter g (own_reserves number ss)) (fun_ext (λ (r : Reserve). holds_same f p q same r.first))
    ∙ (ap (filter (runs_of p)) left ∙ sym (own_used ps number some p at rs)))

-- where a process goes on as it is, all of its region stays
pub stays_left : (number : ℕ) (ps qs : List Process) (p : Process) (rs ss : List Reserve) → 0 < number → process_at ps number ≡ Some p → process_at qs number ≡ Some p
    → AreUsed ps rs → own_reserves number ss ≡ own_reserves number rs → own_reserves number (used qs ss) ≡ own_reserves number rs
stays_left number ps qs p rs ss some at at_too all left =
    own_used qs number some p at_too ss ∙ (ap (filter (runs_of p)) left ∙ all_used ps number some p at rs all)
