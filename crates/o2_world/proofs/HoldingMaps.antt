-- What a process holds after its start, by index.
use Rattle.std.proofs.Common.{◌≡◌, ℕ, zero, suc, ◌+◌, ◌-◌, Bool, true, false, cond, ◌==◌, List, [], ◌∷◌, ◌++◌, length, map, Option, Some, None, ap, sym, ◌∙◌, refl, arith, subst}
use Rattle.std.specs.Prelude.{slice_get, option_map, flat_map}
use Rattle.std.specs.List.{IsDistinct, AllByRecursion}
use Rattle.std.proofs.lemmas.Map.Keys.{IsDistinct-head, IsDistinct-tail}
use Rattle.o2_world.specs.Map.{Map, get}
use Rattle.o2_world.specs.World.{Held}
use Rattle.o2_world.specs.Opening.{held_by_load}
use Rattle.o2_world.specs.Starts.{Loaded, LoadedSegment, Start, Holding, Built, holding_of, module_holdings, environment_holding, library_holdings, holdings, nth_loaded, holds_as, name_in, with_holding, with_holdings}
use Rattle.o2_world.specs.FitStarts.{module_indexes, held_indexes, IsFit}
use Rattle.o2_world.proofs.Keeps.{some_is}

abbrev pub rights_of : Map Held → ℕ → Option ℕ
rights_of held i = option_map (λ (h : Held). h.rights) (get held i)

-- the rights of the first segment of an index
abbrev pub rights_in : List Holding → ℕ → Option ℕ
rights_in [] q = None
rights_in (h ∷ hs) q = cond (h.index == q) (Some h.rights) (rights_in hs q)

abbrev pub indexes_of : List Holding → List ℕ
indexes_of hs = map (λ (h : Holding). h.index) hs

abbrev pub AreApart : List ℕ → Type 0
AreApart is = IsDistinct (λ i j. i == j) is

-- One segment more.

pub record Adds (b : Built) (h : Holding) (c : Built) : Type 0 where
  pub name : ℕ
  pub held : c.held ≡ (h.index, held_by_load name h.rights) ∷ b.held

holds_adds : (b : Built) (h : Holding) (o : Option ℕ) → Adds b h (holds_as b h o)
holds_adds b h (Some name) = record { name = name; held = refl }
holds_adds b h None = record { name = b.next_name; held = refl }

pub adds : (b : Built) (h : Holding) → Adds b h (with_holding b h)
adds b h = holds_adds b h (cond h.common (name_in b.made h.place h.number) None)

rights_put : (t : Bool) (x : Held) (o : Option Held)
    → option_map (λ (h : Held). h.rights) (cond t (Some x) o) ≡ cond t (Some x.rights) (option_map (λ (h : Held). h.rights) o)
rights_put true x o = refl
rights_put false x o = refl

step_rights : (b : Built) (h : Holding) (q : ℕ) (t : Bool) → (h.index == q) ≡ t
    → rights_of (with_holding b h).held q ≡ cond t (Some h.rights) (rights_of b.held q)
step_rights b h q t is =
    let x = adds b h in
    ap (λ (m : Map Held). rights_of m q) x.held
    ∙ (rights_put (h.index == q) (held_by_load x.name h.rights) (get b.held q)
    ∙ ap (λ (u : Bool). cond u (Some h.rights) (rights_of b.held q)) is)

apart : (i j q : ℕ) → (i == j) ≡ false → (i == q) ≡ true → (j == q) ≡ false
apart i j q e f = grind arith

pub none_after : (hs : List Holding) (i q : ℕ) → AllByRecursion (λ j. (i == j) ≡ false) (indexes_of hs) → (i == q) ≡ true
    → rights_in hs q ≡ None
none_after [] i q all e = refl
none_after (h ∷ hs) i q all e = ap (λ (t : Bool). cond t (Some h.rights) (rights_in hs q)) (apart i h.index q all.0 e) ∙ none_after hs i q all.1 e

-- All segments of a process.

past_one : (b : Built) (h : Holding) (q : ℕ) (o p : Option ℕ) (t : Bool) → (h.index == q) ≡ t → cond t (Some h.rights) o ≡ None
    → (o ≡ None → p ≡ rights_of (with_holding b h).held q) → p ≡ rights_of b.held q
past_one b h q o p true is e below = cc
past_one b h q o p false is e below = below e ∙ step_rights b h q false is

past : (hs : List Holding) (b : Built) (q : ℕ) → rights_in hs q ≡ None → rights_of (with_holdings b hs).held q ≡ rights_of b.held q
past [] b q e = refl
past (h ∷ hs) b q e = past_one b h q (rights_in hs q) _ (h.index == q) refl e (past hs (with_holding b h) q)

found_one : (b : Built) (h : Holding) (q r : ℕ) (o p : Option ℕ) (t : Bool) → (h.index == q) ≡ t → cond t (Some h.rights) o ≡ Some r
    → ((h.index == q) ≡ true → p ≡ rights_of (with_holding b h).held q) → (o ≡ Some r → p ≡ Some r) → p ≡ Some r
found_one b h q r o p true is e same below = same is ∙ (step_rights b h q true is ∙ e)
found_one b h q r o p false is e same below = below e

found : (hs : List Holding) (b : Built) (q r : ℕ) → AreApart (indexes_of hs) → rights_in hs q ≡ Some r
    → rights_of (with_holdings b hs).held q ≡ Some r
found [] b q r d e = cc
found (h ∷ hs) b q r d e =
    found_one b h q r (rights_in hs q) _ (h.index == q) refl e
    (λ is. past hs (with_holding b h) q (none_after hs h.index q (IsDistinct-head (λ i j. i == j) h.index (indexes_of hs) d) is))
    (found hs (with_holding b h) q r (IsDistinct-tail (λ i j. i == j) h.index (indexes_of hs) d))

at_all : (P : ℕ → Type 0) (hs : List Holding) (k : ℕ) (h : Holding) → AllByRecursion P (indexes_of hs) → slice_get hs k ≡ Some h → P h.index
at_all P [] k h all e = absurd (cc)
at_all P (g ∷ hs) zero h all e = subst (λ (x : Holding). P x.index) (some_is g h (Some g) refl e) all.0
at_all P (g ∷ hs) (suc k) h all e = at_all P hs k h all.1 e

same_index : (n : ℕ) → (n == n) ≡ true
same_index n = grind arith

at_place : (hs : List Holding) (k : ℕ) (h : Holding) → AreApart (indexes_of hs) → slice_get hs k ≡ Some h
    → rights_in hs h.index ≡ Some h.rights
at_place [] k h d e = absurd (cc)
at_place (g ∷ hs) zero h d e =
    subst (λ (x : Holding). cond (g.index == x.index) (Some g.rights) (rights_in hs x.index) ≡ Some x.rights) (some_is g h (Some g) refl e)
    (ap (λ (t : Bool). cond t (Some g.rights) (rights_in hs g.index)) (same_index g.index))
at_place (g ∷ hs) (suc k) h d e =
    let other : (g.index == h.index) ≡ false = at_all (λ j. (g.index == j) ≡ false) hs k h (IsDistinct-head (λ i j. i == j) g.index (indexes_of hs) d) e in
    ap (λ (t : Bool). cond t (Some g.rights) (rights_in hs h.index)) other
    ∙ at_place hs k h (IsDistinct-tail (λ i j. i == j) g.index (indexes_of hs) d) e

-- The indexes are those of the start.

front_indexes : (m : Loaded) (n : ℕ) (ss : List LoadedSegment) (hs : List Holding)
    → indexes_of (module_holdings m n ss ++ hs) ≡ map (λ (x : LoadedSegment). x.index) ss ++ indexes_of hs
front_indexes m n [] hs = refl
front_indexes m n (s ∷ ss) hs = ap (λ (is : List ℕ). s.index ∷ is) (front_indexes m (n + 1) ss hs)

library_indexes : (ms : List Loaded) → indexes_of (library_holdings ms) ≡ flat_map module_indexes ms
library_indexes [] = refl
library_indexes (m ∷ ms) = front_indexes m 1 m.segments (library_holdings ms) ∙ ap (λ (is : List ℕ). module_indexes m ++ is) (library_indexes ms)

pub all_indexes : (pid : ℕ) (s : Start) → indexes_of (holdings pid s) ≡ held_indexes s
all_indexes pid s =
    front_indexes s.program 1 s.program.segments (environment_holding pid s ∷ library_holdings s.libraries)
    ∙ ap (λ (is : List ℕ). module_indexes s.program ++ (length s.program.segments + 1) ∷ is) (library_indexes s.libraries)

record IsAt (x : LoadedSegment) (hs : List Holding) (k : ℕ) : Type 0 where
  pub holding : Holding
  pub there : slice_get hs k ≡ Some holding
  pub index : holding.index ≡ x.index
  pub rights : holding.rights ≡ x.rights

in_program : (m : Loaded) (n : ℕ) (ss : List LoadedSegment) (hs : List Holding) (k : ℕ) (x : LoadedSegment) → slice_get ss k ≡ Some x
    → IsAt x (module_holdings m n ss ++ hs) k
in_program m n [] hs k x e = absurd (cc)
in_program m n (s ∷ ss) hs zero x e =
    let same = some_is s x (Some s) refl e in
    record { holding = holding_of m n s; there = refl; index = ap (λ (y : LoadedSegment). y.index) same; rights = ap (λ (y : LoadedSegment). y.rights) same }
in_program m n (s ∷ ss) hs (suc k) x e =
    let below = in_program m (n + 1) ss hs k x e in
    record { holding = below.holding; there = below.there; index = below.index; rights = below.rights }

nth_there : (n : ℕ) (ss : List LoadedSegment) (x : LoadedSegment) → nth_loaded n ss ≡ Some x → slice_get ss (n - 1) ≡ Some x
nth_there n ss x e = go (n == 0) e
  where
    go : (t : Bool) → cond t None (slice_get ss (n - 1)) ≡ Some x → slice_get ss (n - 1) ≡ Some x
    go true e = cc
    go false e = e

-- the process holds segment n of its program under index n
pub program_held : (b : Built) (pid : ℕ) (s : Start) → IsFit s → (n : ℕ) (x : LoadedSegment) → nth_loaded n s.program.segments ≡ Some x
    → rights_of (with_holdings b (holdings pid s)).held n ≡ Some x.rights
program_held b pid s fit n x e =
    let hs = holdings pid s in
    let y = in_program s.program 1 s.program.segments (environment_holding pid s ∷ library_holdings s.libraries) (n - 1) x (nth_there n s.program.segments x e) in
    let d : AreApart (indexes_of hs) = subst AreApart (sym (all_indexes pid s)) fit.distinct in
    let number : y.holding.index ≡ n = y.index ∙ fit.numbered n x e in
    found hs b n x.rights d
    (subst (λ (i : ℕ). rights_in hs i ≡ Some x.rights) number (at_place hs (n - 1) y.holding d y.there ∙ ap (λ (r : ℕ). Some r) y.rights))
