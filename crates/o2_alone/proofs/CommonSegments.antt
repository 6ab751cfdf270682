-- The names that processes get as they start: those of common segments are what the modules say, and no two are one.
use Rattle.std.proofs.Common.{◌≡◌, ◌⊎◌, inl, inr, refl, sym, ◌∙◌, ap, subst, ℕ, suc, ◌+◌, ◌-◌, ◌<◌, ◌==◌, ◌&&◌, Bool, true, false, cond, List, [], ◌∷◌, ◌++◌, arith}
use Rattle.std.specs.Prelude.{Option, Some, None, is_some, slice_get}
use Rattle.std.specs.List.{All, AllByRecursion}
use Rattle.std.proofs.lemmas.Bool.{eqb-true}
use Rattle.std.proofs.lemmas.List.Elements.{All-head, All-tail}
use Rattle.o2_world.specs.declared.types.Made.{Made}
use Rattle.o2_world.specs.Map.{Map, get}
use Rattle.o2_world.specs.World.{Segment}
use Rattle.o2_world.specs.Starts.{Loaded, LoadedSegment, Start, Holding, holding_of, module_holdings, environment_holding, library_holdings, holdings, nth_loaded, segment_of, name_in, made_with}
use Rattle.o2_world.proofs.Keeps.{some_is}
use Rattle.o2_alone.specs.Isolation.{IsOver}

-- Segments of modules.

abbrev no_segment : Segment
no_segment = record { bytes = []; clean = false; code = false; flags = 0; lock = 0; shared = false; discarded = false }

abbrev segment_or_none : Loaded → ℕ → Option LoadedSegment → Segment
segment_or_none m n None = no_segment
segment_or_none m n (Some x) = segment_of (holding_of m n x)

-- the segment of a number in a module, as a process that starts gets it
abbrev pub segment_by : (ℕ → Loaded) → (place number : ℕ) → Segment
segment_by modules place number = segment_or_none (modules place) number (nth_loaded number (modules place).segments)

-- a common segment is that of the modules
abbrev pub IsFrom : (ℕ → Loaded) → Holding → Type 0
IsFrom modules h = h.common ≡ true → segment_by modules h.place h.number ≡ segment_of h

abbrev pub AreFrom : (ℕ → Loaded) → List Holding → Type 0
AreFrom modules hs = AllByRecursion (IsFrom modules) hs

from_append : (modules : ℕ → Loaded) (xs ys : List Holding) → AreFrom modules xs → AreFrom modules ys → AreFrom modules (xs ++ ys)
from_append modules [] ys h k = k
from_append modules (x ∷ xs) ys h k = (h.0, from_append modules xs ys h.1 k)

module_from : (modules : ℕ → Loaded) (m : Loaded) (n : ℕ) (ss : List LoadedSegment) → modules m.place ≡ m
    → ((k : ℕ) (x : LoadedSegment) → slice_get ss k ≡ Some x → nth_loaded (n + k) m.segments ≡ Some x) → AreFrom modules (module_holdings m n ss)
module_from modules m n [] is there = tt
module_from modules m n (x ∷ ss) is there = (one, module_from modules m (n + 1) ss is (λ k y e. subst (λ (i : ℕ). nth_loaded i m.segments ≡ Some y) (one_on k) (there (suc k) y e)))
  where
    at_number : nth_loaded n m.segments ≡ Some x
    at_number = let same : n + 0 ≡ n = omega arith in subst (λ (i : ℕ). nth_loaded i m.segments ≡ Some x) same (there 0 x refl)

    one_on : (k : ℕ) → n + suc k ≡ n + 1 + k
    one_on k = omega arith

    one : IsFrom modules (holding_of m n x)
    one common = ap (λ (l : Loaded). segment_or_none l n (nth_loaded n l.segments)) is ∙ ap (segment_or_none m n) at_number

whole_module : (modules : ℕ → Loaded) (m : Loaded) → modules m.place ≡ m → AreFrom modules (module_holdings m 1 m.segments)
whole_module modules m is = module_from modules m 1 m.segments is (λ k x e. numbered k x e)
  where
    numbered : (k : ℕ) (x : LoadedSegment) → slice_get m.segments k ≡ Some x → nth_loaded (1 + k) m.segments ≡ Some x
    numbered k x e = go (1 + k == 0) (grind arith)
      where
        go : (b : Bool) → b ≡ false → cond b None (slice_get m.segments (1 + k - 1)) ≡ Some x
        go true is = absurd (cc)
        go false is = let same : k ≡ 1 + k - 1 = omega arith in subst (λ (i : ℕ). slice_get m.segments i ≡ Some x) same e

libraries_from : (modules : ℕ → Loaded) (ms : List Loaded) → All (λ (m : Loaded). modules m.place ≡ m) ms → AreFrom modules (library_holdings ms)
libraries_from modules [] over = tt
libraries_from modules (m ∷ ms) over =
    from_append modules (module_holdings m 1 m.segments) (library_holdings ms) (whole_module modules m (All-head (λ (m : Loaded). modules m.place ≡ m) m ms over))
    (libraries_from modules ms (All-tail (λ (m : Loaded). modules m.place ≡ m) m ms over))

pub holdings_from : (modules : ℕ → Loaded) (pid : ℕ) (s : Start) → IsOver modules s → AreFrom modules (holdings pid s)
holdings_from modules pid s over =
    from_append modules (module_holdings s.program 1 s.program.segments) (environment_holding pid s ∷ library_holdings s.libraries) (whole_module modules s.program over.program)
    ((λ common. absurd (cc)), libraries_from modules s.libraries over.libraries)

-- Names so far.

pub record AreKept (modules : ℕ → Loaded) (names : Map Segment) (next : ℕ) (made : List Made) : Type 0 where
  pub below : (q : ℕ) → is_some (get names q) ≡ true → q < next
  pub made_of : (place number name : ℕ) → name_in made place number ≡ Some name → get names name ≡ Some (segment_by modules place number)
  pub apart : (p n q m name : ℕ) → name_in made p n ≡ Some name → name_in made q m ≡ Some name → (p ≡ q) × (n ≡ m)

pub made_lives : (modules : ℕ → Loaded) (names : Map Segment) (next : ℕ) (made : List Made) → AreKept modules names next made → (place number name : ℕ) → name_in made place number ≡ Some name → name < next
made_lives modules names next made kept place number name e = kept.below name (ap (λ (o : Option Segment). is_some o) (kept.made_of place number name e))

both_true : (a c : Bool) → (a && c) ≡ true → (a ≡ true) × (c ≡ true)
both_true true c e = (refl, e)
both_true false c e = absurd (cc)

-- a name behind the others, of a common segment
pub record IsLast (m : Made) (place number name : ℕ) : Type 0 where
  pub place_is : m.place ≡ place
  pub number_is : m.number ≡ number
  pub name_is : m.name ≡ name

pub made_split : (ms : List Made) (m : Made) (place number name : ℕ) → name_in (ms ++ m ∷ []) place number ≡ Some name → (name_in ms place number ≡ Some name) ⊎ IsLast m place number name
made_split [] m place number name e = go ((m.place == place) && (m.number == number)) refl e
  where
    go : (t : Bool) → ((m.place == place) && (m.number == number)) ≡ t → cond t (Some m.name) None ≡ Some name → (◌≡◌ {A = Option ℕ} None (Some name)) ⊎ IsLast m place number name
    go true is e =
        let two = both_true (m.place == place) (m.number == number) is in
        inr (record { place_is = eqb-true m.place place two.0; number_is = eqb-true m.number number two.1; name_is = some_is m.name name (Some m.name) refl e })
    go false is e = cc
made_split (a ∷ ms) m place number name e = go ((a.place == place) && (a.number == number)) e (made_split ms m place number name)
  where
    go : (t : Bool) → cond t (Some a.name) (name_in (ms ++ m ∷ []) place number) ≡ Some name
        → (name_in (ms ++ m ∷ []) place number ≡ Some name → (name_in ms place number ≡ Some name) ⊎ IsLast m place number name)
        → (cond t (Some a.name) (name_in ms place number) ≡ Some name) ⊎ IsLast m place number name
    go true e below = inl e
    go false e below = below e

pub made_stays : (ms : List Made) (m : Made) (place number name : ℕ) → name_in ms place number ≡ Some name → name_in (ms ++ m ∷ []) place number ≡ Some name
made_stays [] m place number name e = absurd (cc)
made_stays (a ∷ ms) m place number name e = go ((a.place == place) && (a.number == number)) e (made_stays ms m place number name)
  where
    go : (t : Bool) → cond t (Some a.name) (name_in ms place number) ≡ Some name
        → (name_in ms place number ≡ Some name → name_in (ms ++ m ∷ []) place number ≡ Some name)
        → cond t (Some a.name) (name_in (ms ++ m ∷ []) place number) ≡ Some name
    go true e below = e
    go false e below = below e

pub made_comes : (ms : List Made) (m : Made) → name_in ms m.place m.number ≡ None → name_in (ms ++ m ∷ []) m.place m.number ≡ Some m.name
made_comes [] m e = ap (λ (t : Bool). cond t (Some m.name) None) (same_pair m.place m.number)
  where
    same_pair : (p n : ℕ) → ((p == p) && (n == n)) ≡ true
    same_pair p n = grind arith
made_comes (a ∷ ms) m e = go ((a.place == m.place) && (a.number == m.number)) e (made_comes ms m)
  where
    go : (t : Bool) → cond t (Some a.name) (name_in ms m.place m.number) ≡ None
        → (name_in ms m.place m.number ≡ None → name_in (ms ++ m ∷ []) m.place m.number ≡ Some m.name)
        → cond t (Some a.name) (name_in (ms ++ m ∷ []) m.place m.number) ≡ Some m.name
    go true e below = absurd (cc)
    go false e below = below e

-- the old names stay
pub old_name : (names : Map Segment) (n : ℕ) (g : Segment) (q : ℕ) → q < n → get ((n, g) ∷ names) q ≡ get names q
old_name names n g q low = ap (λ (t : Bool). cond t (Some g) (get names q)) (other q low)
  where
    other : (q : ℕ) → q < n → (n == q) ≡ false
    other q h = grind arith

pub new_name : (names : Map Segment) (n : ℕ) (g : Segment) → get ((n, g) ∷ names) n ≡ Some g
new_name names n g = ap (λ (t : Bool). cond t (Some g) (get names n)) (same n)
  where
    same : (n : ℕ) → (n == n) ≡ true
    same n = grind arith

pub below_next : (names : Map Segment) (n : ℕ) (g : Segment) → ((q : ℕ) → is_some (get names q) ≡ true → q < n) → (q : ℕ) → is_some (get ((n, g) ∷ names) q) ≡ true → q < n + 1
below_next names n g below q e = go (n == q) refl e
  where
    go : (t : Bool) → (n == q) ≡ t → is_some (cond t (Some g) (get names q)) ≡ true → q < n + 1
    go true is e = let same = eqb-true n q is in omega (arith, same)
    go false is e = let h = below q e in omega (arith, h)

module _ (modules : ℕ → Loaded) (names : Map Segment) (next : ℕ) (made : List Made) (h : Holding) (from : IsFrom modules h) (kept : AreKept modules names next made) where
  abbrev new : Made
  new = record { place = h.place; number = h.number; name = next }

  abbrev more : Map Segment
  more = (next, segment_of h) ∷ names

  old_made : (place number name : ℕ) → name_in made place number ≡ Some name → get more name ≡ Some (segment_by modules place number)
  old_made place number name e = old_name names next (segment_of h) name (made_lives modules names next made kept place number name e) ∙ kept.made_of place number name e

  last_made : h.common ≡ true → (place number name : ℕ) → IsLast new place number name → get more name ≡ Some (segment_by modules place number)
  last_made common place number name last =
      subst (λ (q : ℕ). get more q ≡ Some (segment_by modules place number)) last.name_is
      (new_name names next (segment_of h)
      ∙ (ap (λ (g : Segment). Some g) (sym (from common)) ∙ (ap (λ (p : ℕ). Some (segment_by modules p h.number)) last.place_is ∙ ap (λ (n : ℕ). Some (segment_by modules place n)) last.number_is)))

  past : (name : ℕ) → name < next → next ≡ name → ⊥
  past name low is = omega (arith, low, is)

  pub kept_named : AreKept modules more (next + 1) (made_with made h next)
  kept_named = record { below = below_next names next (segment_of h) kept.below; made_of = of; apart = apart }
    where
      of : (place number name : ℕ) → name_in (made_with made h next) place number ≡ Some name → get more name ≡ Some (segment_by modules place number)
      of place number name = go h.common refl
        where
          either : h.common ≡ true → (name_in made place number ≡ Some name) ⊎ IsLast new place number name → get more name ≡ Some (segment_by modules place number)
          either common (inl e) = old_made place number name e
          either common (inr last) = last_made common place number name last

          go : (t : Bool) → h.common ≡ t → name_in (cond t (made ++ new ∷ []) made) place number ≡ Some name → get more name ≡ Some (segment_by modules place number)
          go true common e = either common (made_split made new place number name e)
          go false common e = old_made place number name e

      apart : (p n q m name : ℕ) → name_in (made_with made h next) p n ≡ Some name → name_in (made_with made h next) q m ≡ Some name → (p ≡ q) × (n ≡ m)
      apart p n q m name = go h.common
        where
          either : (name_in made p n ≡ Some name) ⊎ IsLast new p n name → (name_in made q m ≡ Some name) ⊎ IsLast new q m name → (p ≡ q) × (n ≡ m)
          either (inl e) (inl f) = kept.apart p n q m name e f
          either (inl e) (inr last) = absurd (past name (made_lives modules names next made kept p n name e) last.name_is)
          either (inr last) (inl f) = absurd (past name (made_lives modules names next made kept q m name f) last.name_is)
          either (inr last) (inr also) = (sym last.place_is ∙ also.place_is, sym last.number_is ∙ also.number_is)

          go : (t : Bool) → name_in (cond t (made ++ new ∷ []) made) p n ≡ Some name → name_in (cond t (made ++ new ∷ []) made) q m ≡ Some name → (p ≡ q) × (n ≡ m)
          go true e f = either (made_split made new p n name e) (made_split made new q m name f)
          go false e f = kept.apart p n q m name e f
