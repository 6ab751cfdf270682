-- What other sizes of a run's members come to.
use Rattle.std.proofs.Common.{◌≡◌, ◌⊎◌, inl, inr, ℕ, zero, suc, ◌+◌, ◌-◌, ◌<◌, ◌≤◌, ◌==◌, ◌||◌, Bool, true, false, List, [], ◌∷◌, ◌++◌, length, get_or, replicate, take}
use Rattle.std.proofs.Common.{Option, Some, None, refl, sym, ap, ◌∙◌, subst, arith, if◌then◌else◌}
use Rattle.std.specs.Prelude.{min, option_map}
use Rattle.std.proofs.lemmas.Bool.{eq-eqb, false≢true}
use Rattle.std.proofs.lemmas.List.{length-append, length-replicate, length-take}
use Rattle.o2_world.specs.Changes.{Change, Resizes, resized, with_change, with_changes}
use Rattle.o2_world.specs.HugeRulings.{resized_members, segments_of, sizes_of}
use Rattle.o2_world.specs.Known.{Known, Marks}
use Rattle.o2_world.specs.Map.{get}
use Rattle.o2_world.specs.Rulings.{full_size, indexes, made_segment}
use Rattle.o2_world.specs.SharedRulings.{marks_under}
use Rattle.o2_world.specs.World.{Held, Segment, World}
use Rattle.o2_world.proofs.MapLemmas.{get-map}
use Rattle.o2_world.proofs.RunsFit.{resized_are, resizes_of, resizes_same, size_one, sizes_each}
use Rattle.o2_stands.specs.Runs.{is_full, may_be_member}
use Rattle.o2_stands.specs.Tidies.{AreTidyChanges}
use Rattle.o2_stands.proofs.RunsKept.{flags_written}

number : (a b : ℕ) → (a == b) ≡ true → a ≡ b
number a b e = grind arith

turned : (a b : ℕ) → (a == b) ≡ (b == a)
turned a b = grind arith

-- Segments with other sizes, by name.

abbrev sized : List (ℕ × ℕ) → ℕ → Segment → Segment
sized [] q s = s
sized (r ∷ rs) q s = sized rs q (if q == r.0 then record s { bytes = resized r.1 s.bytes } else s)

resizes_names : (rs : List (ℕ × ℕ)) (u : World) (q : ℕ) → get (with_changes u (resizes_of rs)).names q ≡ option_map (sized rs q) (get u.names q)
unfolding with_changes
resizes_names [] u q = same (get u.names q)
  where
    same : (o : Option Segment) → o ≡ option_map (λ (s : Segment). s) o
    same None = refl
    same (Some s) = refl
resizes_names (r ∷ rs) u q =
    resizes_names rs (with_change u (Resizes r.0 r.1)) q
    ∙ (ap (λ (o : Option Segment). option_map (sized rs q) o) (get-map (λ (k : ℕ) (s : Segment). if k == r.0 then record s { bytes = resized r.1 s.bytes } else s) u.names q)
    ∙ twice (get u.names q))
  where
    twice : (o : Option Segment) → option_map (sized rs q) (option_map (λ (s : Segment). if q == r.0 then record s { bytes = resized r.1 s.bytes } else s) o) ≡ option_map (sized (r ∷ rs) q) o
    twice None = refl
    twice (Some s) = refl

sized_flags : (rs : List (ℕ × ℕ)) (q : ℕ) (s : Segment) → (sized rs q s).flags ≡ s.flags
sized_flags [] q s = refl
sized_flags (r ∷ rs) q s = sized_flags rs q (if q == r.0 then record s { bytes = resized r.1 s.bytes } else s) ∙ one (q == r.0)
  where
    one : (b : Bool) → (if b then record s { bytes = resized r.1 s.bytes } else s).flags ≡ s.flags
    one true = refl
    one false = refl

resized_length : (size : ℕ) (bs : List ℕ) → length (resized size bs) ≡ size
resized_length size bs =
    length-append (take size bs) (replicate (size - length bs) 0)
    ∙ (ap (λ (n : ℕ). n + length {A = ℕ} (replicate (size - length bs) 0)) (length-take size bs)
    ∙ (ap (λ (n : ℕ). min size (length bs) + n) (length-replicate (size - length bs) 0) ∙ whole size (length bs)))
  where
    whole : (a b : ℕ) → min a b + (a - b) ≡ a
    whole a b = omega arith

-- each size of a name is the full one
abbrev IsFullFor : ℕ → List (ℕ × ℕ) → Type 0
IsFullFor q [] = Unit {0}
IsFullFor q (r ∷ rs) = (r.0 ≡ q → r.1 ≡ 65536) × IsFullFor q rs

full_append : (q : ℕ) (xs ys : List (ℕ × ℕ)) → IsFullFor q xs → IsFullFor q ys → IsFullFor q (xs ++ ys)
full_append q [] ys a b = b
full_append q (x ∷ xs) ys a b = (a.0, full_append q xs ys a.1 b)

abbrev is_named : ℕ → List (ℕ × ℕ) → Bool
is_named q [] = false
is_named q (r ∷ rs) = (q == r.0) || is_named q rs

named_append : (q : ℕ) (xs ys : List (ℕ × ℕ)) → is_named q ys ≡ true → is_named q (xs ++ ys) ≡ true
named_append q [] ys e = e
named_append q (x ∷ xs) ys e = or_right (q == x.0) (is_named q (xs ++ ys)) (named_append q xs ys e)
  where
    or_right : (a b : Bool) → b ≡ true → (a || b) ≡ true
    or_right true b e = refl
    or_right false b e = e

full_sized : (rs : List (ℕ × ℕ)) (q : ℕ) (s : Segment) → IsFullFor q rs → ((length s.bytes == 65536) ≡ true) ⊎ (is_named q rs ≡ true) → (length (sized rs q s).bytes == 65536) ≡ true
full_sized [] q s full (inl e) = e
full_sized [] q s full (inr e) = absurd (false≢true e)
full_sized (r ∷ rs) q s full either = full_sized rs q (if q == r.0 then record s { bytes = resized r.1 s.bytes } else s) full.1 (go (q == r.0) refl either)
  where
    go : (b : Bool) → (q == r.0) ≡ b → ((length s.bytes == 65536) ≡ true) ⊎ ((b || is_named q rs) ≡ true)
        → ((length (if b then record s { bytes = resized r.1 s.bytes } else s).bytes == 65536) ≡ true) ⊎ (is_named q rs ≡ true)
    go true e f = inl (ap (λ (n : ℕ). n == 65536) (resized_length r.1 s.bytes) ∙ eq-eqb r.1 65536 (full.0 (sym (number q r.0 e))))
    go false e (inl f) = inl f
    go false e (inr f) = inr f

full_all : (rs : List (ℕ × ℕ)) (q : ℕ) (o : Option Segment) → IsFullFor q rs → (is_full o ≡ true) ⊎ (is_named q rs ≡ true) → is_full (option_map (sized rs q) o) ≡ true
full_all rs q None full either = refl
full_all rs q (Some s) full either = full_sized rs q s full either

-- The members of a run, at indexes in a row.
module _ (k : Known) (n : ℕ) where
  -- where all sizes of a name are 0 as words, each is the full one
  full_each : (c f : ℕ) (zs : List ℕ) (q : ℕ) → ((j : ℕ) (h : Held) → f ≤ j → j < f + c → j - f < length zs → k.held n j ≡ Some h → h.name ≡ q → get_or zs (j - f) 0 ≡ 0) → IsFullFor q (sizes_each k n (indexes f c) zs)
  full_each zero f zs q fit = tt
  full_each (suc c) f [] q fit = tt
  full_each (suc c) f (z ∷ zs) q fit =
      full_append q (size_one z (k.held n f) (marks_under k (k.held n f))) (sizes_each k n (indexes (f + 1) c) zs)
      (here (k.held n f) refl (marks_under k (k.held n f)))
      (full_each c (f + 1) zs q later)
    where
      zero_is : f - f ≡ 0
      zero_is = omega arith

      here : (o : Option Held) → k.held n f ≡ o → (m : Option Marks) → IsFullFor q (size_one z o m)
      here None e None = tt
      here None e (Some m) = tt
      here (Some h) e None = tt
      here (Some h) e (Some m) = go (m.size == full_size z)
        where
          full : z ≡ 0 → full_size z ≡ 65536
          full same = ap full_size same

          go : (b : Bool) → IsFullFor q (if b then [] else (h.name, full_size z) ∷ [])
          go true = tt
          go false = ((λ same. full (sym (ap (λ (t : ℕ). get_or (z ∷ zs) t 0) zero_is) ∙ fit f h (omega arith) (omega arith) (omega (arith, zero_is)) e same)), tt)

      later : (j : ℕ) (h : Held) → f + 1 ≤ j → j < f + 1 + c → j - (f + 1) < length zs → k.held n j ≡ Some h → h.name ≡ q → get_or zs (j - (f + 1)) 0 ≡ 0
      later j h low high less at named =
          let next : j - f ≡ suc (j - (f + 1)) = omega (arith, low) in
          sym (ap (λ (t : ℕ). get_or (z ∷ zs) t 0) next) ∙ fit j h (omega (arith, low)) (omega (arith, high)) (omega (arith, next, less)) at named

  -- one that is to be full and isn't gets a size
  named_each : (c f : ℕ) (zs : List ℕ) (j : ℕ) (h : Held) (m : Marks) → f ≤ j → j < f + c → j - f < length zs → k.held n j ≡ Some h → k.segment h.name ≡ Some m → (m.size == 65536) ≡ false → get_or zs (j - f) 0 ≡ 0
      → is_named h.name (sizes_each k n (indexes f c) zs) ≡ true
  named_each zero f zs j h m low high less at there small zeroed = absurd (omega (arith, low, high))
  named_each (suc c) f [] j h m low high less at there small zeroed = absurd (omega (arith, less))
  named_each (suc c) f (z ∷ zs) j h m low high less at there small zeroed =
      go (λ e. named_each c (f + 1) zs j h m (next_low e) (next_high e) (next_less e) at there small (next_zero e)) (f == j) refl
    where
      later : (f == j) ≡ false → f < j
      later e = grind arith

      next_low : (f == j) ≡ false → f + 1 ≤ j
      next_low e = (let l = later e in omega (arith, l))

      next_high : (f == j) ≡ false → j < f + 1 + c
      next_high e = omega (arith, high)

      next_is : (f == j) ≡ false → j - f ≡ suc (j - (f + 1))
      next_is e = (let l = later e in omega (arith, l))

      next_less : (f == j) ≡ false → j - (f + 1) < length zs
      next_less e = (let n = next_is e in omega (arith, less, n))

      next_zero : (f == j) ≡ false → get_or zs (j - (f + 1)) 0 ≡ 0
      next_zero e = sym (ap (λ (t : ℕ). get_or (z ∷ zs) t 0) (next_is e)) ∙ zeroed

      first_named : (rs : List (ℕ × ℕ)) → is_named h.name (((h.name, full_size z) ∷ []) ++ rs) ≡ true
      first_named rs = ap (λ (b : Bool). b || is_named h.name rs) (eq-eqb h.name h.name refl)

      one : (b : Bool) → b ≡ false → (rs : List (ℕ × ℕ)) → is_named h.name ((if b then [] else (h.name, full_size z) ∷ []) ++ rs) ≡ true
      one true e rs = absurd (false≢true (sym e))
      one false e rs = first_named rs

      here : (o : Option Held) → o ≡ Some h → (p : Option Marks) → p ≡ Some m → (rs : List (ℕ × ℕ)) → z ≡ 0 → is_named h.name (size_one z o p ++ rs) ≡ true
      here None e p g rs same = absurd (no_hold e)
        where
          no_hold : ◌≡◌ {A = Option Held} None (Some h) → ⊥
          no_hold e = cc
      here (Some x) e None g rs same = absurd (no_marks g)
        where
          no_marks : ◌≡◌ {A = Option Marks} None (Some m) → ⊥
          no_marks g = cc
      here (Some x) e (Some y) g rs same =
          let xh : x ≡ h = cc in
          let ym : y ≡ m = cc in
          subst (λ (w : Held). is_named h.name (size_one z (Some w) (Some y) ++ rs) ≡ true) (sym xh)
          (one (y.size == full_size z) (ap (λ (w : Marks). w.size == full_size z) ym ∙ (ap (λ (s : ℕ). m.size == full_size s) same ∙ small)) rs)

      go : ((f == j) ≡ false → is_named h.name (sizes_each k n (indexes (f + 1) c) zs) ≡ true) → (b : Bool) → (f == j) ≡ b
          → is_named h.name (size_one z (k.held n f) (marks_under k (k.held n f)) ++ sizes_each k n (indexes (f + 1) c) zs) ≡ true
      go rest true e =
          let same : f ≡ j = number f j e in
          let none : j - f ≡ 0 = omega (arith, same) in
          let at_f : k.held n f ≡ Some h = ap (k.held n) same ∙ at in
          here (k.held n f) at_f (marks_under k (k.held n f)) (ap (marks_under k) at_f ∙ there) (sizes_each k n (indexes (f + 1) c) zs) (sym (ap (λ (t : ℕ). get_or (z ∷ zs) t 0) none) ∙ zeroed)
      go rest false e = named_append h.name (size_one z (k.held n f) (marks_under k (k.held n f))) (sizes_each k n (indexes (f + 1) c) zs) (rest e)

  module _ (u : World) (is zs : List ℕ) where
    abbrev behind : World
    behind = with_changes u (resized_members k n is zs)

    pub sizes_processes : behind.processes ≡ u.processes
    sizes_processes = ap (λ (cs : List Change). (with_changes u cs).processes) (resized_are k n is zs) ∙ resizes_same u (sizes_each k n is zs)

    others_same : (rs : List (ℕ × ℕ)) (u : World) → ((with_changes u (resizes_of rs)).reserved ≡ u.reserved) × ((with_changes u (resizes_of rs)).next_name ≡ u.next_name)
    unfolding with_changes
    others_same [] u = (refl, refl)
    others_same (r ∷ rs) u = others_same rs (with_change u (Resizes r.0 r.1))

    pub sizes_reserved : behind.reserved ≡ u.reserved
    sizes_reserved = ap (λ (cs : List Change). (with_changes u cs).reserved) (resized_are k n is zs) ∙ (others_same (sizes_each k n is zs) u).0

    pub sizes_next : behind.next_name ≡ u.next_name
    sizes_next = ap (λ (cs : List Change). (with_changes u cs).next_name) (resized_are k n is zs) ∙ (others_same (sizes_each k n is zs) u).1

    names_are : (q : ℕ) → get behind.names q ≡ option_map (sized (sizes_each k n is zs) q) (get u.names q)
    names_are q = ap (λ (cs : List Change). get (with_changes u cs).names q) (resized_are k n is zs) ∙ resizes_names (sizes_each k n is zs) u q

    pub sizes_flags : (q j : ℕ) → may_be_member j (get u.names q) ≡ true → may_be_member j (get behind.names q) ≡ true
    sizes_flags q j e = flags_written (sized (sizes_each k n is zs) q) j (get u.names q) (names_are q) (sized_flags (sizes_each k n is zs) q) e

    tidy_all : (rs : List (ℕ × ℕ)) (u : World) (cs : List Change) → AreTidyChanges (with_changes u (resizes_of rs)) cs → AreTidyChanges u (resizes_of rs ++ cs)
    unfolding with_changes
    tidy_all [] u cs rest = rest
    tidy_all (r ∷ rs) u cs rest = (tt, tidy_all rs (with_change u (Resizes r.0 r.1)) cs rest)

    pub sizes_tidy : (cs : List Change) → AreTidyChanges behind cs → AreTidyChanges u (resized_members k n is zs ++ cs)
    sizes_tidy cs rest =
        subst (λ (xs : List Change). AreTidyChanges u (xs ++ cs)) (sym (resized_are k n is zs))
        (tidy_all (sizes_each k n is zs) u cs (subst (λ (xs : List Change). AreTidyChanges (with_changes u xs) cs) (resized_are k n is zs) rest))

    -- what comes to the full size is full, where nothing of that name gets another one
    full_behind : (q : ℕ) → IsFullFor q (sizes_each k n is zs) → (is_full (get u.names q) ≡ true) ⊎ (is_named q (sizes_each k n is zs) ≡ true) → is_full (get behind.names q) ≡ true
    full_behind q full either = ap is_full (names_are q) ∙ full_all (sizes_each k n is zs) q (get u.names q) full either

  -- where all sizes of a name are 0 as words, a full segment stays full
  pub full_stays : (u : World) (c f : ℕ) (zs : List ℕ) (q : ℕ) → ((j : ℕ) (h : Held) → f ≤ j → j < f + c → j - f < length zs → k.held n j ≡ Some h → h.name ≡ q → get_or zs (j - f) 0 ≡ 0)
      → is_full (get u.names q) ≡ true → is_full (get (with_changes u (resized_members k n (indexes f c) zs)).names q) ≡ true
  full_stays u c f zs q fit e = full_behind u (indexes f c) zs q (full_each c f zs q fit) (inl e)

  -- and a member of that size is full
  pub full_comes : (u : World) (c f : ℕ) (zs : List ℕ) (j : ℕ) (h : Held) (m : Marks)
      → ((i : ℕ) (x : Held) → f ≤ i → i < f + c → i - f < length zs → k.held n i ≡ Some x → x.name ≡ h.name → get_or zs (i - f) 0 ≡ 0)
      → f ≤ j → j < f + c → j - f < length zs → k.held n j ≡ Some h → k.segment h.name ≡ Some m → ((m.size == 65536) ≡ true → is_full (get u.names h.name) ≡ true)
      → is_full (get (with_changes u (resized_members k n (indexes f c) zs)).names h.name) ≡ true
  full_comes u c f zs j h m fit low high less at there before =
      full_behind u (indexes f c) zs h.name (full_each c f zs h.name fit) (go (m.size == 65536) refl)
    where
      go : (b : Bool) → (m.size == 65536) ≡ b → (is_full (get u.names h.name) ≡ true) ⊎ (is_named h.name (sizes_each k n (indexes f c) zs) ≡ true)
      go true e = inl (before e)
      go false e = inr (named_each c f zs j h m low high less at there e (fit j h low high less at refl))

-- Sizes as words: all but the last are 0.
pub zero_size : (segs part t : ℕ) → t + 1 < segments_of segs part → get_or (sizes_of segs part) t 0 ≡ 0
zero_size zero part t less = absurd (few (part == 0) less)
  where
    few : (b : Bool) → t + 1 < (if b then 0 else 0 + 1) → ⊥
    few true l = omega (arith, l)
    few false l = omega (arith, l)
zero_size (suc segs) part zero less = refl
zero_size (suc segs) part (suc t) less = zero_size segs part t (fewer (part == 0) less)
  where
    fewer : (b : Bool) → suc t + 1 < (if b then suc segs else suc segs + 1) → t + 1 < (if b then segs else segs + 1)
    fewer true l = omega (arith, l)
    fewer false l = omega (arith, l)

-- a segment of that size is full
pub made_full : (z flags : ℕ) → z ≡ 0 → is_full (Some (made_segment z flags)) ≡ true
made_full z flags e = ap (λ (n : ℕ). n == 65536) (length-replicate (full_size z) 0) ∙ eq-eqb (full_size z) 65536 (ap full_size e)
