-- The names of an opening: their sizes, their marks, and who may write them.
use Rattle.std.proofs.Common.{◌≡◌, ◌⊎◌, ℕ, ◌+◌, ◌<◌, ◌≤◌, Bool, true, false, cond, not, ◌==◌, ◌&&◌, List, [], ◌∷◌, ◌++◌, length, Option, Some, None, ap, sym, ◌∙◌, refl, arith, subst, inl, inr}
use Rattle.std.specs.Prelude.{is_some}
use Rattle.std.specs.List.{AllByRecursion}
use Rattle.o2_isa.specs.View.{is_writable, is_code}
use Rattle.o2_world.specs.declared.types.Made.{Made}
use Rattle.o2_world.specs.Map.{Map, get}
use Rattle.o2_world.specs.World.{Segment, Held, ByLoad}
use Rattle.o2_world.specs.Opening.{held_by_load}
use Rattle.o2_world.specs.Starts.{Loaded, Start, Holding, Built, holdings, nothing_built, segment_of, name_in, made_with, named, holds, holds_as, with_holding, with_holdings, with_started}
use Rattle.o2_world.specs.Sound.{held_in}
use Rattle.o2_world.specs.Tied.{HasSize, IsOwnData, AreOne}
use Rattle.o2_world.specs.FitStarts.{rights_at, segment_index, is_common_at, ShareNoIndex, IsWhole, IsOf}
use Rattle.o2_world.proofs.Keeps.{some_is}
use Rattle.o2_world.proofs.OpeningSound.{equal, behind, either_of, Keeps}

-- under a live name that it may write only where the name isn't clean
pub record IsGood (names : Map Segment) (h : Held) : Type 0 where
  pub lives : is_some (get names h.name) ≡ true
  pub cause : h.cause ≡ ByLoad
  pub clean : (s : Segment) → get names h.name ≡ Some s → s.clean ≡ true → is_writable h.rights ≡ false

-- the name of a common segment that has this access byte
record IsMade (names : Map Segment) (rights name : ℕ) : Type 0 where
  lives : is_some (get names name) ≡ true
  clean : (s : Segment) → get names name ≡ Some s → s.clean ≡ true → is_writable rights ≡ false

-- how a common segment's name, or own data, is under a shared index
abbrev pub IsUnder : (modules : ℕ → Loaded) → Map Segment → List Made → Held → (place number : ℕ) → Bool → Type 0
IsUnder modules names made h place number true = name_in made place number ≡ Some h.name
IsUnder modules names made h place number false = IsOwnData names h

-- what is held under a shared index is the segment of the modules that has this index
pub record IsAt (modules : ℕ → Loaded) (names : Map Segment) (made : List Made) (i : ℕ) (h : Held) : Type 0 where
  pub place : ℕ
  pub number : ℕ
  pub index : segment_index modules place number ≡ i
  pub under : IsUnder modules names made h place number (is_common_at modules place number)

-- so it is one name, but for own data
pub one_name : (modules : ℕ → Loaded) (names : Map Segment) (made : List Made) (i : ℕ) (h k : Held) → ShareNoIndex modules → 4096 ≤ i
    → IsAt modules names made i h → IsAt modules names made i k → AreOne names h k
one_name modules names made i h k apart big a b = go (is_common_at modules a.place a.number) a.under there
  where
    same : (a.place ≡ b.place) × (a.number ≡ b.number)
    same = apart a.place a.number b.place b.number (subst (λ (n : ℕ). 4096 ≤ n) (sym a.index) big) (a.index ∙ sym b.index)

    there : IsUnder modules names made k a.place a.number (is_common_at modules a.place a.number)
    there =
        subst (λ (q : ℕ). IsUnder modules names made k q a.number (is_common_at modules q a.number)) (sym same.0)
        (subst (λ (n : ℕ). IsUnder modules names made k b.place n (is_common_at modules b.place n)) (sym same.1) b.under)

    go : (c : Bool) → IsUnder modules names made h a.place a.number c → IsUnder modules names made k a.place a.number c → AreOne names h k
    go true x y = inl (some_is h.name k.name _ x y)
    go false x y = inr (x, y)

pub record Ties (modules : ℕ → Loaded) (b : Built) : Type 0 where
  pub below : (q : ℕ) → is_some (get b.names q) ≡ true → q < b.next_name
  pub sized : (q : ℕ) (s : Segment) → get b.names q ≡ Some s → HasSize s
  pub kept : (q : ℕ) (s : Segment) → get b.names q ≡ Some s → s.discarded ≡ false
  pub held : (place i : ℕ) (h : Held) → held_in b.processes place i ≡ Some h → IsGood b.names h
  pub so_far : (i : ℕ) (h : Held) → get b.held i ≡ Some h → IsGood b.names h
  made : (place number name : ℕ) → name_in b.made place number ≡ Some name → IsMade b.names (rights_at modules place number) name
  -- under the shared indexes
  pub at : (place i : ℕ) (h : Held) → 4096 ≤ i → held_in b.processes place i ≡ Some h → IsAt modules b.names b.made i h
  pub at_so_far : (i : ℕ) (h : Held) → 4096 ≤ i → get b.held i ≡ Some h → IsAt modules b.names b.made i h

-- One name more.

module _ (names : Map Segment) (n : ℕ) (g : Segment) (below : (q : ℕ) → is_some (get names q) ≡ true → q < n) where
  abbrev pub more : Map Segment
  more = (n, g) ∷ names

  new_is : get more n ≡ Some g
  new_is = ap (λ (t : Bool). cond t (Some g) (get names n)) (same n)
    where
      same : (n : ℕ) → (n == n) ≡ true
      same n = grind arith

  still : (q : ℕ) → is_some (get names q) ≡ true → get more q ≡ get names q
  still q e = ap (λ (t : Bool). cond t (Some g) (get names q)) (other q (below q e))
    where
      other : (q : ℕ) → q < n → (n == q) ≡ false
      other q h = grind arith

  was : (q : ℕ) (s : Segment) → get more q ≡ Some s → (get names q ≡ Some s) ⊎ ((n ≡ q) × (g ≡ s))
  was q s e = go (n == q) refl e
    where
      go : (t : Bool) → (n == q) ≡ t → cond t (Some g) (get names q) ≡ Some s → (get names q ≡ Some s) ⊎ ((n ≡ q) × (g ≡ s))
      go true is e = inr (equal n q is, some_is g s (Some g) refl e)
      go false is e = inl e

  still_lives : (q : ℕ) → is_some (get names q) ≡ true → is_some (get more q) ≡ true
  still_lives q e = ap is_some (still q e) ∙ e

  still_good : (h : Held) → IsGood names h → IsGood more h
  still_good h k = record { lives = still_lives h.name k.lives; cause = k.cause; clean = λ s e c. k.clean s (sym (still h.name k.lives) ∙ e) c }

  still_made : (rights name : ℕ) → IsMade names rights name → IsMade more rights name
  still_made rights name k = record { lives = still_lives name k.lives; clean = λ s e c. k.clean s (sym (still name k.lives) ∙ e) c }

  still_own : (h : Held) → is_some (get names h.name) ≡ true → IsOwnData names h → IsOwnData more h
  still_own h lives own = record { cause = own.cause; own = λ s e. own.own s (sym (still h.name lives) ∙ e) }

  lives_below : (q : ℕ) → is_some (get more q) ≡ true → q < n + 1
  lives_below q e = go (n == q) refl e
    where
      go : (t : Bool) → (n == q) ≡ t → is_some (cond t (Some g) (get names q)) ≡ true → q < n + 1
      go true is e = let same = equal n q is in omega (arith, same)
      go false is e = let h = below q e in omega (arith, h)

-- One segment more.

held_more : (names : Map Segment) (m : Map Held) (i : ℕ) (x : Held) → IsGood names x
    → ((j : ℕ) (h : Held) → get m j ≡ Some h → IsGood names h) → (j : ℕ) (h : Held) → get ((i, x) ∷ m) j ≡ Some h → IsGood names h
held_more names m i x good old j h e = go (i == j) e
  where
    go : (t : Bool) → cond t (Some x) (get m j) ≡ Some h → IsGood names h
    go true e = subst (IsGood names) (some_is x h (Some x) refl e) good
    go false e = old j h e

at_more : (modules : ℕ → Loaded) (names : Map Segment) (made : List Made) (m : Map Held) (i : ℕ) (x : Held)
    → (4096 ≤ i → IsAt modules names made i x)
    → ((j : ℕ) (h : Held) → 4096 ≤ j → get m j ≡ Some h → IsAt modules names made j h)
    → (j : ℕ) (h : Held) → 4096 ≤ j → get ((i, x) ∷ m) j ≡ Some h → IsAt modules names made j h
at_more modules names made m i x new old j h big e = go (i == j) refl e
  where
    go : (t : Bool) → (i == j) ≡ t → cond t (Some x) (get m j) ≡ Some h → IsAt modules names made j h
    go true is e =
        let same : i ≡ j = equal i j is in
        subst (IsAt modules names made j) (some_is x h (Some x) refl e)
        (subst (λ (n : ℕ). IsAt modules names made n x) same (new (subst (λ (n : ℕ). 4096 ≤ n) (sym same) big)))
    go false is e = old j h big e

-- the names of common segments, with one more behind them
name_stays : (ms : List Made) (m : Made) (place number name : ℕ) → name_in ms place number ≡ Some name
    → name_in (ms ++ m ∷ []) place number ≡ Some name
name_stays [] m place number name e = absurd (cc)
name_stays (a ∷ ms) m place number name e = go ((a.place == place) && (a.number == number)) e (name_stays ms m place number name)
  where
    go : (t : Bool) → cond t (Some a.name) (name_in ms place number) ≡ Some name
        → (name_in ms place number ≡ Some name → name_in (ms ++ m ∷ []) place number ≡ Some name)
        → cond t (Some a.name) (name_in (ms ++ m ∷ []) place number) ≡ Some name
    go true e below = e
    go false e below = below e

same_pair : (p n : ℕ) → ((p == p) && (n == n)) ≡ true
same_pair p n = grind arith

name_comes : (ms : List Made) (m : Made) → name_in ms m.place m.number ≡ None → name_in (ms ++ m ∷ []) m.place m.number ≡ Some m.name
name_comes [] m e = ap (λ (t : Bool). cond t (Some m.name) None) (same_pair m.place m.number)
name_comes (a ∷ ms) m e = go ((a.place == m.place) && (a.number == m.number)) e (name_comes ms m)
  where
    go : (t : Bool) → cond t (Some a.name) (name_in ms m.place m.number) ≡ None
        → (name_in ms m.place m.number ≡ None → name_in (ms ++ m ∷ []) m.place m.number ≡ Some m.name)
        → cond t (Some a.name) (name_in (ms ++ m ∷ []) m.place m.number) ≡ Some m.name
    go true e below = absurd (cc)
    go false e below = below e

not_writable : (b : Bool) → not b ≡ true → b ≡ false
not_writable true e = absurd (cc)
not_writable false e = refl

-- a segment that is written isn't clean
new_clean : (h : Holding) (s : Segment) → Some (segment_of h) ≡ Some s → s.clean ≡ true → is_writable h.rights ≡ false
new_clean h s e c = not_writable (is_writable h.rights) (ap (λ (x : Segment). x.clean) (some_is (segment_of h) s (Some (segment_of h)) refl e) ∙ c)

module _ (modules : ℕ → Loaded) (b : Built) (h : Holding) (whole : IsWhole modules h) (ties : Ties modules b) where
  abbrev g : Segment
  g = segment_of h

  abbrev names : Map Segment
  names = (b.next_name, g) ∷ b.names

  good_new : IsGood names (held_by_load b.next_name h.rights)
  good_new = record {
    lives = ap is_some (new_is b.names b.next_name g ties.below);
    cause = refl;
    clean = λ s e c. new_clean h s (sym (new_is b.names b.next_name g ties.below) ∙ e) c;
  }

  -- it is made where it is common
  made_new : (m : Made) → (place number name : ℕ) → h.common ≡ true → m.place ≡ h.place → m.number ≡ h.number → m.name ≡ b.next_name
      → name_in (m ∷ []) place number ≡ Some name → IsMade names (rights_at modules place number) name
  made_new m place number name common p n x e = go ((m.place == place) && (m.number == number)) refl e
    where
      both : (a c : Bool) → (a && c) ≡ true → (a ≡ true) × (c ≡ true)
      both true c e = (refl, e)
      both false c e = absurd (cc)

      go : (t : Bool) → ((m.place == place) && (m.number == number)) ≡ t → cond t (Some m.name) None ≡ Some name
          → IsMade names (rights_at modules place number) name
      go true is e =
          let two = both _ _ is in
          let at_place : h.place ≡ place = sym p ∙ equal m.place place two.0 in
          let at_number : h.number ≡ number = sym n ∙ equal m.number number two.1 in
          let named : b.next_name ≡ name = sym x ∙ some_is m.name name (Some m.name) refl e in
          let rights : h.rights ≡ rights_at modules place number = whole.rights common ∙ ap (λ (k : ℕ). rights_at modules k h.number) at_place ∙ ap (rights_at modules place) at_number in
          subst (λ (q : ℕ). IsMade names (rights_at modules place number) q) named
          (subst (λ (r : ℕ). IsMade names r b.next_name) rights
          (record { lives = ap is_some (new_is b.names b.next_name g ties.below); clean = λ s f c. new_clean h s (sym (new_is b.names b.next_name g ties.below) ∙ f) c }))
      go false is e = absurd (cc)

  made_after : (place number name : ℕ) → name_in (made_with b.made h b.next_name) place number ≡ Some name
      → IsMade names (rights_at modules place number) name
  made_after place number name e = go h.common refl e
    where
      new : Made
      new = record { place = h.place; number = h.number; name = b.next_name }

      old : name_in b.made place number ≡ Some name → IsMade names (rights_at modules place number) name
      old e = still_made b.names b.next_name g ties.below _ name (ties.made place number name e)

      last : (ms : List Made) → h.common ≡ true → name_in (ms ++ new ∷ []) place number ≡ Some name
          → (name_in ms place number ≡ Some name) ⊎ (name_in (new ∷ []) place number ≡ Some name)
      last [] common e = inr e
      last (a ∷ ms) common e = pick ((a.place == place) && (a.number == number)) e (last ms common)
        where
          pick : (t : Bool) → cond t (Some a.name) (name_in (ms ++ new ∷ []) place number) ≡ Some name
              → (name_in (ms ++ new ∷ []) place number ≡ Some name → (name_in ms place number ≡ Some name) ⊎ (name_in (new ∷ []) place number ≡ Some name))
              → (cond t (Some a.name) (name_in ms place number) ≡ Some name) ⊎ (name_in (new ∷ []) place number ≡ Some name)
          pick true e below = inl e
          pick false e below = below e

      go : (t : Bool) → h.common ≡ t → name_in (cond t (b.made ++ new ∷ []) b.made) place number ≡ Some name
          → IsMade names (rights_at modules place number) name
      go true common e = either_of (last b.made common e) old (made_new new place number name common refl refl refl)
      go false common e = old e

  abbrev new_made : List Made
  new_made = made_with b.made h b.next_name

  made_stays : (place number name : ℕ) → name_in b.made place number ≡ Some name → name_in new_made place number ≡ Some name
  made_stays place number name e = go h.common
    where
      go : (t : Bool) → name_in (cond t (b.made ++ record { place = h.place; number = h.number; name = b.next_name } ∷ []) b.made) place number ≡ Some name
      go true = name_stays b.made (record { place = h.place; number = h.number; name = b.next_name }) place number name e
      go false = e

  still_at : (i : ℕ) (x : Held) → is_some (get b.names x.name) ≡ true → IsAt modules b.names b.made i x → IsAt modules names new_made i x
  still_at i x lives a = record { place = a.place; number = a.number; index = a.index; under = go (is_common_at modules a.place a.number) a.under }
    where
      go : (c : Bool) → IsUnder modules b.names b.made x a.place a.number c → IsUnder modules names new_made x a.place a.number c
      go true e = made_stays a.place a.number x.name e
      go false own = still_own b.names b.next_name g ties.below x lives own

  new_at : (h.common ≡ true → name_in b.made h.place h.number ≡ None) → 4096 ≤ h.index
      → IsAt modules names new_made h.index (held_by_load b.next_name h.rights)
  new_at none big = record {
    place = h.place;
    number = h.number;
    index = (whole.shared big).index;
    under = subst (IsUnder modules names new_made (held_by_load b.next_name h.rights) h.place h.number) (sym (whole.shared big).common) (go h.common refl);
  }
    where
      new : Made
      new = record { place = h.place; number = h.number; name = b.next_name }

      go : (c : Bool) → h.common ≡ c → IsUnder modules names new_made (held_by_load b.next_name h.rights) h.place h.number c
      go true is = ap (λ (t : Bool). name_in (cond t (b.made ++ new ∷ []) b.made) h.place h.number) is ∙ name_comes b.made new (none is)
      go false is = record {
        cause = refl;
        own = λ s e.
            let same : g ≡ s = some_is g s (get names b.next_name) (new_is b.names b.next_name g ties.below) e in
            (ap (λ (x : Segment). x.clean) (sym same) ∙ ap not (whole.own is), ap (λ (x : Segment). x.shared) (sym same) ∙ ap (λ (t : Bool). t && not (is_code h.rights)) is);
      }

  named_ties : (h.common ≡ true → name_in b.made h.place h.number ≡ None) → Ties modules (holds (named b h) h b.next_name)
  named_ties none = record {
    below = lives_below b.names b.next_name g ties.below;
    sized = λ q s e. size q s (was b.names b.next_name g ties.below q s e);
    kept = λ q s e. keep q s (was b.names b.next_name g ties.below q s e);
    held = λ place i x e. still_good b.names b.next_name g ties.below x (ties.held place i x e);
    so_far = held_more names b.held h.index (held_by_load b.next_name h.rights) good_new (λ j x e. still_good b.names b.next_name g ties.below x (ties.so_far j x e));
    made = made_after;
    at = λ place i x big e. still_at i x (ties.held place i x e).lives (ties.at place i x big e);
    at_so_far = at_more modules names new_made b.held h.index (held_by_load b.next_name h.rights) (new_at none) (λ j x big e. still_at j x (ties.so_far j x e).lives (ties.at_so_far j x big e));
  }
    where
      size : (q : ℕ) (s : Segment) → (get b.names q ≡ Some s) ⊎ ((b.next_name ≡ q) × (segment_of h ≡ s)) → HasSize s
      size q s (inl e) = ties.sized q s e
      size q s (inr e) = subst HasSize e.1 (whole.some, whole.most)

      keep : (q : ℕ) (s : Segment) → (get b.names q ≡ Some s) ⊎ ((b.next_name ≡ q) × (segment_of h ≡ s)) → s.discarded ≡ false
      keep q s (inl e) = ties.kept q s e
      keep q s (inr e) = ap (λ (x : Segment). x.discarded) (sym e.1)

  shared_ties : (name : ℕ) → h.common ≡ true → name_in b.made h.place h.number ≡ Some name → Ties modules (holds b h name)
  shared_ties name common e =
      let m = ties.made h.place h.number name e in
      let good : IsGood b.names (held_by_load name h.rights) = record { lives = m.lives; cause = refl; clean = λ s f c. ap is_writable (whole.rights common) ∙ m.clean s f c } in
      record {
        below = ties.below;
        sized = ties.sized;
        kept = ties.kept;
        held = ties.held;
        so_far = held_more b.names b.held h.index (held_by_load name h.rights) good ties.so_far;
        made = ties.made;
        at = ties.at;
        at_so_far = at_more modules b.names b.made b.held h.index (held_by_load name h.rights) shared_at ties.at_so_far;
      }
    where
      shared_at : 4096 ≤ h.index → IsAt modules b.names b.made h.index (held_by_load name h.rights)
      shared_at big = record {
        place = h.place;
        number = h.number;
        index = (whole.shared big).index;
        under = subst (IsUnder modules b.names b.made (held_by_load name h.rights) h.place h.number) (sym ((whole.shared big).common ∙ common)) e;
      }

  holds_as_ties : (o : Option ℕ) → ((name : ℕ) → o ≡ Some name → (h.common ≡ true) × (name_in b.made h.place h.number ≡ Some name))
      → (o ≡ None → h.common ≡ true → name_in b.made h.place h.number ≡ None) → Ties modules (holds_as b h o)
  holds_as_ties (Some name) there none = let two = there name refl in shared_ties name two.0 two.1
  holds_as_ties None there none = named_ties (none refl)

  pub holding_ties : Ties modules (with_holding b h)
  holding_ties = holds_as_ties _ (λ name e. go name h.common refl e) (λ e common. ap (λ (t : Bool). cond t (name_in b.made h.place h.number) None) (sym common) ∙ e)
    where
      go : (name : ℕ) (t : Bool) → h.common ≡ t → cond t (name_in b.made h.place h.number) None ≡ Some name
          → (h.common ≡ true) × (name_in b.made h.place h.number ≡ Some name)
      go name true is e = (is, e)
      go name false is e = absurd (cc)

all_tie : (modules : ℕ → Loaded) (hs : List Holding) (b : Built) → AllByRecursion (IsWhole modules) hs → Ties modules b
    → Ties modules (with_holdings b hs)
all_tie modules [] b whole ties = ties
all_tie modules (h ∷ hs) b whole ties = all_tie modules hs (with_holding b h) whole.1 (holding_ties modules b h whole.0 ties)

-- A process has started.

started_ties : (modules : ℕ → Loaded) (pid : ℕ) (s : Start) (b : Built) → Ties modules b → Ties modules (with_started pid s b)
started_ties modules pid s b ties = record {
  below = ties.below;
  sized = ties.sized;
  kept = ties.kept;
  held = λ place i h e. either_of (behind b.processes _ place i h e) (ties.held place i h) (ties.so_far i h);
  so_far = λ i h e. absurd (cc);
  made = ties.made;
  at = λ place i h big e. either_of (behind b.processes _ place i h e) (ties.at place i h big) (ties.at_so_far i h big);
  at_so_far = λ i h big e. absurd (cc);
}

pub ties_kept : (modules : ℕ → Loaded) → Keeps (Ties modules) (IsOf modules)
ties_kept modules b s u is of ties = started_ties modules (length b.processes + 1) s _ (all_tie modules (holdings (length b.processes + 1) s) b (of (length b.processes + 1)) ties)

pub ties_first : (modules : ℕ → Loaded) → Ties modules nothing_built
ties_first modules = record {
  below = λ q e. absurd (cc);
  sized = λ q s e. absurd (cc);
  kept = λ q s e. absurd (cc);
  held = λ place i h e. absurd (cc);
  so_far = λ i h e. absurd (cc);
  made = λ place number name e. absurd (cc);
  at = λ place i h big e. absurd (cc);
  at_so_far = λ i h big e. absurd (cc);
}
