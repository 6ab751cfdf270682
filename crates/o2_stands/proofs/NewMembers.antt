-- What new members of a run come to: segments with the next names, at indexes in a row, each held by the same processes, each so often.
use Rattle.std.proofs.Common.{◌≡◌, ◌≢◌, ℕ, zero, suc, ◌+◌, ◌-◌, ◌<◌, ◌≤◌, ◌==◌, ◌&&◌, ◌||◌, nat_le, nat_lt, not, Bool, true, false, List, [], ◌∷◌, ◌++◌, length, get_or}
use Rattle.std.proofs.Common.{Option, Some, None, is_some, refl, sym, ap, ◌∙◌, subst, arith, if◌then◌else◌}
use Rattle.std.specs.Prelude.{option_map}
use Rattle.std.proofs.lemmas.Bool.{eq-eqb, false≢true, ne_eqb}
use Rattle.std.proofs.lemmas.List.{append_assoc}
use Rattle.o2_world.specs.Changes.{Change, Holds, Makes, more, with_change, with_changes}
use Rattle.o2_world.specs.Holders.{process_at}
use Rattle.o2_world.specs.HugeRulings.{all_hold, held_in_run, new_members}
use Rattle.o2_world.specs.Known.{held_at}
use Rattle.o2_world.specs.Map.{Map, get}
use Rattle.o2_world.specs.Rulings.{indexes, made_segment}
use Rattle.o2_world.specs.World.{Held, Process, Reserve, Segment, World}
use Rattle.o2_world.specs.declared.types.State.{State}
use Rattle.o2_world.proofs.MapLemmas.{if_no}
use Rattle.o2_world.proofs.TiedWorld.{with_more}
use Rattle.o2_stands.specs.Stands.{region_at}
use Rattle.o2_stands.specs.Tidies.{AreTidyChanges, IsHeldRight, coming, is_or_will_be}
use Rattle.o2_stands.proofs.Puts.{held_put, number_kept, put_at}

number : (a b : ℕ) → (a == b) ≡ true → a ≡ b
number a b e = grind arith

turned : (a b : ℕ) → (a == b) ≡ (b == a)
turned a b = grind arith

or_right : (a b : Bool) → b ≡ true → (a || b) ≡ true
or_right true b e = refl
or_right false b e = e

-- a process is among those that are to hold them, and how often
abbrev pub is_holder : List (ℕ × ℕ) → ℕ → Bool
is_holder [] q = false
is_holder (p ∷ ps) q = (p.0 == q) || is_holder ps q

abbrev pub often_of : List (ℕ × ℕ) → ℕ → ℕ
often_of [] q = 0
often_of (p ∷ ps) q = if p.0 == q then p.1 else often_of ps q

-- no process stands twice
abbrev pub AreEachOnce : List (ℕ × ℕ) → Type 0
AreEachOnce [] = Unit {0}
AreEachOnce (p ∷ ps) = (is_holder ps p.0 ≡ false) × AreEachOnce ps

-- each is there
abbrev pub AreThere : List Process → List (ℕ × ℕ) → Type 0
AreThere qs [] = Unit {0}
AreThere qs (p ∷ ps) = (is_some (process_at qs p.0) ≡ true) × AreThere qs ps

the_process : (o : Option Process) → is_some o ≡ true → (x : Process) × (o ≡ Some x)
the_process None e = absurd (false≢true e)
the_process (Some x) e = (x, refl)

-- All holders of one member.
module _ (name first count i : ℕ) where
  abbrev mine : ℕ → Held
  mine holds = held_in_run name first count holds

  abbrev with_hold : World → ℕ × ℕ → World
  with_hold v p = with_change v (Holds p.0 i (mine p.1))

  there_kept : (v : World) (p : ℕ × ℕ) (ps : List (ℕ × ℕ)) → AreThere v.processes ps → AreThere (with_hold v p).processes ps
  there_kept v p [] there = tt
  there_kept v p (q ∷ ps) there = (kept, there_kept v p ps there.1)
    where
      is_mapped : (o : Option Process) → is_some (option_map (λ (x : Process). x.state) o) ≡ is_some o
      is_mapped None = refl
      is_mapped (Some x) = refl

      kept : is_some (process_at (with_hold v p).processes q.0) ≡ true
      kept =
          sym (is_mapped (process_at (with_hold v p).processes q.0))
          ∙ (ap (λ (o : Option State). is_some o) (number_kept (λ (x : Process). x.state) (put_at i (more (mine p.1))) (λ x. refl) p.0 q.0 v.processes)
          ∙ (is_mapped (process_at v.processes q.0) ∙ there.0))

  pub holds_there : (v : World) (ps qs : List (ℕ × ℕ)) → AreThere v.processes qs → AreThere (with_changes v (all_hold name first count i ps)).processes qs
  unfolding with_changes
  holds_there v [] qs there = there
  holds_there v (p ∷ ps) qs there = holds_there (with_hold v p) ps qs (there_kept v p qs there)

  pub holds_names : (v : World) (ps : List (ℕ × ℕ)) → (with_changes v (all_hold name first count i ps)).names ≡ v.names
  unfolding with_changes
  holds_names v [] = refl
  holds_names v (p ∷ ps) = holds_names (with_hold v p) ps

  pub holds_reserved : (v : World) (ps : List (ℕ × ℕ)) → (with_changes v (all_hold name first count i ps)).reserved ≡ v.reserved
  unfolding with_changes
  holds_reserved v [] = refl
  holds_reserved v (p ∷ ps) = holds_reserved (with_hold v p) ps

  pub holds_next : (v : World) (ps : List (ℕ × ℕ)) → (with_changes v (all_hold name first count i ps)).next_name ≡ v.next_name
  unfolding with_changes
  holds_next v [] = refl
  holds_next v (p ∷ ps) = holds_next (with_hold v p) ps

  pub holds_are : (ps : List (ℕ × ℕ)) (v : World) → AreThere v.processes ps → AreEachOnce ps → ((q : ℕ) → is_holder ps q ≡ true → held_at v.processes q i ≡ None) → (q j : ℕ)
      → held_at (with_changes v (all_hold name first count i ps)).processes q j ≡ (if is_holder ps q && (j == i) then Some (mine (often_of ps q)) else held_at v.processes q j)
  unfolding with_changes
  holds_are [] v there once none q j = refl
  holds_are (p ∷ ps) v there once none q j = holds_are ps (with_hold v p) (there_kept v p ps there.1) once.1 later q j ∙ go (q == p.0) refl (j == i) refl
    where
      x : (y : Process) × (process_at v.processes p.0 ≡ Some y)
      x = the_process (process_at v.processes p.0) there.0

      put : (a b : ℕ) → held_at (with_hold v p).processes a b ≡ (if (a == p.0) && (b == i) then more (mine p.1) (held_at v.processes p.0 i) else held_at v.processes a b)
      put a b = held_put v.processes p.0 a i b (more (mine p.1)) x.0 x.1

      apart : (a : ℕ) → is_holder ps a ≡ true → (a == p.0) ≡ false
      apart a e = by (a == p.0) refl
        where
          by : (b : Bool) → (a == p.0) ≡ b → (a == p.0) ≡ false
          by false f = f
          by true f = absurd (false≢true (sym once.0 ∙ (ap (is_holder ps) (sym (number a p.0 f)) ∙ e)))

      later : (a : ℕ) → is_holder ps a ≡ true → held_at (with_hold v p).processes a i ≡ None
      later a e = put a i ∙ (rw (apart a e) (none a (or_right (p.0 == a) (is_holder ps a) e)))

      own : held_at v.processes p.0 i ≡ None
      own = none p.0 (rw (eq-eqb p.0 p.0 refl) refl)

      go : (a : Bool) → (q == p.0) ≡ a → (b : Bool) → (j == i) ≡ b
          → (if is_holder ps q && (j == i) then Some (mine (often_of ps q)) else held_at (with_hold v p).processes q j)
          ≡ (if ((p.0 == q) || is_holder ps q) && (j == i) then Some (mine (if p.0 == q then p.1 else often_of ps q)) else held_at v.processes q j)
      go true a b f =
          let none_else : is_holder ps q ≡ false = ap (is_holder ps) (number q p.0 a) ∙ once.0 in
          rw (none_else, turned p.0 q ∙ a) (put q j ∙ rw (a, own) refl)
      go false a b f =
          let same : held_at (with_hold v p).processes q j ≡ held_at v.processes q j = put q j ∙ rw a refl in
          rw (turned p.0 q ∙ a) (ap (λ (o : Option Held). if is_holder ps q && (j == i) then Some (mine (often_of ps q)) else o) same)

  coming_holds : (ps : List (ℕ × ℕ)) (cs : List Change) → coming (all_hold name first count i ps ++ cs) ≡ coming cs
  coming_holds [] cs = refl
  coming_holds (p ∷ ps) cs = coming_holds ps cs

  hold_right : (count == 0) ≡ false → (reserved later : List Reserve) (q holds : ℕ) → is_or_will_be reserved later (region_at q i) first count ≡ true → IsHeldRight reserved later q i (mine holds)
  hold_right some reserved later q holds fit = record {
    load = λ high load. absurd (false≢true load);
    run = λ run. fit;
    free = λ alone other. absurd (false≢true (sym alone ∙ ap not some));
  }

  pub holds_tidy : (ps : List (ℕ × ℕ)) (v : World) (cs : List Change) → (count == 0) ≡ false → ((q : ℕ) → is_holder ps q ≡ true → is_or_will_be v.reserved (coming cs) (region_at q i) first count ≡ true)
      → AreTidyChanges (with_changes v (all_hold name first count i ps)) cs → AreTidyChanges v (all_hold name first count i ps ++ cs)
  unfolding with_changes
  holds_tidy [] v cs some fit rest = rest
  holds_tidy (p ∷ ps) v cs some fit rest = (
    (λ none. hold_right some v.reserved (coming (all_hold name first count i ps ++ cs)) p.0 p.1
        (subst (λ (rs : List Reserve). is_or_will_be v.reserved rs (region_at p.0 i) first count ≡ true) (sym (coming_holds ps cs)) (fit p.0 (rw (eq-eqb p.0 p.0 refl) refl)))),
    holds_tidy ps (with_hold v p) cs some (λ q e. fit q (or_right (p.0 == q) (is_holder ps q) e)) rest,
  )

-- New members.

-- so many, at indexes in a row
abbrev pub members_from : (name first count flags k : ℕ) → List (ℕ × ℕ) → (sizes : List ℕ) → List Change
members_from name first count flags k ps zs = new_members name first count flags ps (indexes k (length zs)) zs

-- as many as sizes, where there are more indexes
pub as_many : (zs : List ℕ) (name first count flags k extra : ℕ) (ps : List (ℕ × ℕ)) → new_members name first count flags ps (indexes k (length zs + extra)) zs ≡ members_from name first count flags k ps zs
as_many [] name first count flags k extra ps = none (indexes k (length {A = ℕ} [] + extra))
  where
    none : (is : List ℕ) → new_members name first count flags ps is [] ≡ []
    none [] = refl
    none (i ∷ is) = refl
as_many (z ∷ zs) name first count flags k extra ps =
    let e : suc (length zs) + extra ≡ suc (length zs + extra) = omega arith in
    ap (λ (c : ℕ). new_members name first count flags ps (indexes k c) (z ∷ zs)) e
    ∙ ap (λ (cs : List Change). Makes (made_segment z flags) ∷ all_hold name first count k ps ++ cs) (as_many zs (name + 1) first count flags (k + 1) extra ps)

module _ (first count flags : ℕ) (ps : List (ℕ × ℕ)) where
  abbrev made : World → ℕ → World
  made v z = with_change v (Makes (made_segment z flags))

  -- the world with the first one
  abbrev with_first : World → (name k z : ℕ) → World
  with_first v name k z = with_changes (made v z) (all_hold name first count k ps)

  -- and the others come behind it
  others_of : (v : World) (name k z : ℕ) (zs : List ℕ) → with_changes v (members_from name first count flags k ps (z ∷ zs)) ≡ with_changes (with_first v name k z) (members_from (name + 1) first count flags (k + 1) ps zs)
  unfolding with_changes
  others_of v name k z zs = with_more (made v z) (all_hold name first count k ps) (members_from (name + 1) first count flags (k + 1) ps zs)

  pub members_there : (zs : List ℕ) (v : World) (name k : ℕ) (qs : List (ℕ × ℕ)) → AreThere v.processes qs → AreThere (with_changes v (members_from name first count flags k ps zs)).processes qs
  unfolding with_changes
  members_there [] v name k qs there = there
  members_there (z ∷ zs) v name k qs there =
      subst (λ (u : World). AreThere u.processes qs) (sym (others_of v name k z zs))
      (members_there zs (with_first v name k z) (name + 1) (k + 1) qs (holds_there name first count k (made v z) ps qs there))

  pub members_reserved : (zs : List ℕ) (v : World) (name k : ℕ) → (with_changes v (members_from name first count flags k ps zs)).reserved ≡ v.reserved
  unfolding with_changes
  members_reserved [] v name k = refl
  members_reserved (z ∷ zs) v name k =
      ap (λ (u : World). u.reserved) (others_of v name k z zs)
      ∙ (members_reserved zs (with_first v name k z) (name + 1) (k + 1) ∙ holds_reserved name first count k (made v z) ps)

  pub coming_members : (zs : List ℕ) (name k : ℕ) (cs : List Change) → coming (members_from name first count flags k ps zs ++ cs) ≡ coming cs
  coming_members [] name k cs = refl
  coming_members (z ∷ zs) name k cs =
      ap coming (append_assoc (all_hold name first count k ps) (members_from (name + 1) first count flags (k + 1) ps zs) cs)
      ∙ (coming_holds name first count k ps (members_from (name + 1) first count flags (k + 1) ps zs ++ cs) ∙ coming_members zs (name + 1) (k + 1) cs)

  -- names that were stay
  pub names_kept : (zs : List ℕ) (v : World) (name k : ℕ) → v.next_name ≡ name → (q : ℕ) → q < name → get (with_changes v (members_from name first count flags k ps zs)).names q ≡ get v.names q
  unfolding with_changes
  names_kept [] v name k next q low = refl
  names_kept (z ∷ zs) v name k next q low =
      ap (λ (u : World). get u.names q) (others_of v name k z zs)
      ∙ (names_kept zs (with_first v name k z) (name + 1) (k + 1) (holds_next name first count k (made v z) ps ∙ ap (λ (n : ℕ). n + 1) next) q (omega (arith, low))
      ∙ (ap (λ (ns : Map Segment). get ns q) (holds_names name first count k (made v z) ps)
      ∙ if_no (v.next_name == q) (Some (made_segment z flags)) (get v.names q) (ne_eqb v.next_name q (λ e. absurd (omega (arith, e, next, low))))))

  -- and their names come from the next one on
  pub names_new : (zs : List ℕ) (v : World) (name k : ℕ) → v.next_name ≡ name → (j : ℕ) → j < length zs
      → get (with_changes v (members_from name first count flags k ps zs)).names (name + j) ≡ Some (made_segment (get_or zs j 0) flags)
  unfolding with_changes
  names_new [] v name k next j less = absurd (omega (arith, less))
  names_new (z ∷ zs) v name k next zero less =
      let same : name + 0 ≡ name = omega arith in
      ap (λ (n : ℕ). get (with_changes v (members_from name first count flags k ps (z ∷ zs))).names n) same
      ∙ (ap (λ (u : World). get u.names name) (others_of v name k z zs)
      ∙ (names_kept zs (with_first v name k z) (name + 1) (k + 1) (holds_next name first count k (made v z) ps ∙ ap (λ (n : ℕ). n + 1) next) name (omega arith)
      ∙ (ap (λ (ns : Map Segment). get ns name) (holds_names name first count k (made v z) ps)
      ∙ ap (λ (b : Bool). if b then Some (made_segment z flags) else get v.names name) (eq-eqb v.next_name name next))))
  names_new (z ∷ zs) v name k next (suc j) less =
      let same : name + suc j ≡ name + 1 + j = omega arith in
      ap (λ (n : ℕ). get (with_changes v (members_from name first count flags k ps (z ∷ zs))).names n) same
      ∙ (ap (λ (u : World). get u.names (name + 1 + j)) (others_of v name k z zs)
      ∙ names_new zs (with_first v name k z) (name + 1) (k + 1) (holds_next name first count k (made v z) ps ∙ ap (λ (n : ℕ). n + 1) next) j (omega (arith, less)))

  pub members_tidy : (zs : List ℕ) (v : World) (name k : ℕ) (cs : List Change) → (count == 0) ≡ false
      → ((q j : ℕ) → is_holder ps q ≡ true → k ≤ j → j < k + length zs → is_or_will_be v.reserved (coming cs) (region_at q j) first count ≡ true)
      → AreTidyChanges (with_changes v (members_from name first count flags k ps zs)) cs → AreTidyChanges v (members_from name first count flags k ps zs ++ cs)
  unfolding with_changes
  members_tidy [] v name k cs some fit rest = rest
  members_tidy (z ∷ zs) v name k cs some fit rest = (
    tt,
    subst (AreTidyChanges (made v z)) (sym (append_assoc (all_hold name first count k ps) (members_from (name + 1) first count flags (k + 1) ps zs) cs))
        (holds_tidy name first count k ps (made v z) (members_from (name + 1) first count flags (k + 1) ps zs ++ cs) some
        (λ q e. subst (λ (rs : List Reserve). is_or_will_be v.reserved rs (region_at q k) first count ≡ true) (sym (coming_members zs (name + 1) (k + 1) cs)) (fit q k e (omega arith) (omega arith)))
        (members_tidy zs (with_first v name k z) (name + 1) (k + 1) cs some
        (λ q j e low high. subst (λ (rs : List Reserve). is_or_will_be rs (coming cs) (region_at q j) first count ≡ true) (sym (holds_reserved name first count k (made v z) ps)) (fit q j e (omega (arith, low)) (omega (arith, high))))
        (subst (λ (u : World). AreTidyChanges u cs) (others_of v name k z zs) rest))),
  )

  -- what is held behind all
  pub members_are : (zs : List ℕ) (v : World) (name k : ℕ) → AreThere v.processes ps → AreEachOnce ps → ((q j : ℕ) → is_holder ps q ≡ true → k ≤ j → j < k + length zs → held_at v.processes q j ≡ None) → (q j : ℕ)
      → held_at (with_changes v (members_from name first count flags k ps zs)).processes q j
      ≡ (if is_holder ps q && (nat_le k j && nat_lt j (k + length zs)) then Some (held_in_run (name + (j - k)) first count (often_of ps q)) else held_at v.processes q j)
  unfolding with_changes
  members_are [] v name k there once none q j =
      sym (ap (λ (b : Bool). if is_holder ps q && b then Some (held_in_run (name + (j - k)) first count (often_of ps q)) else held_at v.processes q j) (empty k j)
      ∙ ap (λ (b : Bool). if b then Some (held_in_run (name + (j - k)) first count (often_of ps q)) else held_at v.processes q j) (no_and (is_holder ps q)))
    where
      empty : (k j : ℕ) → (nat_le k j && nat_lt j (k + 0)) ≡ false
      empty k j = grind arith

      no_and : (b : Bool) → (b && false) ≡ false
      no_and true = refl
      no_and false = refl
  members_are (z ∷ zs) v name k there once none q j =
      ap (λ (u : World). held_at u.processes q j) (others_of v name k z zs)
      ∙ (members_are zs (with_first v name k z) (name + 1) (k + 1) (holds_there name first count k (made v z) ps ps there) once later q j
      ∙ go (is_holder ps q) refl (j == k) refl)
    where
      here : (a b : ℕ) → held_at (with_first v name k z).processes a b ≡ (if is_holder ps a && (b == k) then Some (held_in_run name first count (often_of ps a)) else held_at v.processes a b)
      here a b = holds_are name first count k ps (made v z) there once (λ c e. none c k e (omega arith) (omega arith)) a b

      apart : (j k : ℕ) → k + 1 ≤ j → (j == k) ≡ false
      apart j k l = grind arith

      later : (a b : ℕ) → is_holder ps a ≡ true → k + 1 ≤ b → b < k + 1 + length zs → held_at (with_first v name k z).processes a b ≡ None
      later a b e low high = here a b ∙ (rw (e, apart b k low) (none a b e (omega (arith, low)) (omega (arith, high))))

      passed : (j k n : ℕ) → (j == k) ≡ true → (nat_le (k + 1) j && nat_lt j (k + 1 + n)) ≡ false
      passed j k n e = grind arith

      first_in : (j k n : ℕ) → (j == k) ≡ true → (nat_le k j && nat_lt j (k + suc n)) ≡ true
      first_in j k n e = grind arith

      same_test : (j k n : ℕ) → (j == k) ≡ false → (nat_le (k + 1) j && nat_lt j (k + 1 + n)) ≡ (nat_le k j && nat_lt j (k + suc n))
      same_test j k n e = grind arith

      first_name : (j k : ℕ) → (j == k) ≡ true → name ≡ name + (j - k)
      first_name j k e = (let a = number j k e in omega (arith, a))

      next_name : (j k : ℕ) → k < j → name + 1 + (j - (k + 1)) ≡ name + (j - k)
      next_name j k l = omega (arith, l)

      le_of : (a b : ℕ) → nat_le a b ≡ true → a ≤ b
      le_of a b e = grind arith

      go : (a : Bool) → is_holder ps q ≡ a → (b : Bool) → (j == k) ≡ b
          → (if is_holder ps q && (nat_le (k + 1) j && nat_lt j (k + 1 + length zs)) then Some (held_in_run (name + 1 + (j - (k + 1))) first count (often_of ps q)) else held_at (with_first v name k z).processes q j)
          ≡ (if is_holder ps q && (nat_le k j && nat_lt j (k + suc (length zs))) then Some (held_in_run (name + (j - k)) first count (often_of ps q)) else held_at v.processes q j)
      go false a b f =
          let same : held_at (with_first v name k z).processes q j ≡ held_at v.processes q j = here q j ∙ rw a refl in
          rw a same
      go true a true f =
          let same : held_at (with_first v name k z).processes q j ≡ Some (held_in_run name first count (often_of ps q)) = here q j ∙ (rw (a, f) refl) in
          rw (a, passed j k (length zs) f, first_in j k (length zs) f) (same ∙ ap (λ (n : ℕ). Some (held_in_run n first count (often_of ps q))) (first_name j k f))
      go true a false f = rest (nat_le k j && nat_lt j (k + suc (length zs))) refl
        where
          same : held_at (with_first v name k z).processes q j ≡ held_at v.processes q j
          same = here q j ∙ rw (a, f) refl

          parts : (c d : Bool) → (c && d) ≡ true → c ≡ true
          parts true d e = refl
          parts false d e = e

          rest : (c : Bool) → (nat_le k j && nat_lt j (k + suc (length zs))) ≡ c
              → (if is_holder ps q && (nat_le (k + 1) j && nat_lt j (k + 1 + length zs)) then Some (held_in_run (name + 1 + (j - (k + 1))) first count (often_of ps q)) else held_at (with_first v name k z).processes q j)
              ≡ (if is_holder ps q && (nat_le k j && nat_lt j (k + suc (length zs))) then Some (held_in_run (name + (j - k)) first count (often_of ps q)) else held_at v.processes q j)
          rest true t =
              let low = le_of k j (parts (nat_le k j) _ t) in
              let other : j ≢ k = λ e. false≢true (sym f ∙ eq-eqb j k e) in
              rw (a, same_test j k (length zs) f, t) (ap (λ (n : ℕ). Some (held_in_run n first count (often_of ps q))) (next_name j k (omega (arith, low, other))))
          rest false t = rw (a, same_test j k (length zs) f, t) same
