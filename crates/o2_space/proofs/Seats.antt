-- The segment registers behind a call on segments name nothing that they didn't name before it.
use Rattle.std.proofs.Common.{◌≡◌, ◌⊎◌, inl, inr, ℕ, ◌+◌, ◌-◌, ◌/◌, ◌&&◌, ◌||◌, Bool, true, false, cond, eqb, List, [], ◌∷◌, ◌++◌, map, Option, Some, None, option_map}
use Rattle.std.proofs.Common.{ap, sym, ◌∙◌, refl, subst, arith, if◌then◌else◌, append-nil, append_assoc}
use Rattle.std.specs.Prelude.{◌==◌, nat_lt, slice_get}
use Rattle.std.specs.List.{list_any}
use Rattle.std.proofs.lemmas.Bool.{eqb-true, false≢true}
use Rattle.o2_stands.proofs.Puts.{held_put, number_kept, put_at, with_map}
use Rattle.o2_isa.specs.declared.cpu.Cpu.{Cpu}
use Rattle.o2_isa.specs.Presence.{is_in}
use Rattle.o2_isa.specs.View.{bound_in, bound_registers, is_local, is_null}
use Rattle.o2_run.specs.Room.{name_in, seated}
use Rattle.o2_world.specs.CallParts.{Before}
use Rattle.o2_world.specs.Changes.{Change, Makes, Resizes, Locks, Marks, Holds, Drops, Finishes, Reserves, Frees, Names, at_number, at_place, fewer, more, swept, takes, with_all, with_change, with_changes}
use Rattle.o2_world.specs.Holders.{process_at}
use Rattle.o2_world.specs.HugeRulings.{all_dropped, all_hold, dropped_members, new_members, resized_members, resized_one, run_reserve}
use Rattle.o2_world.specs.Known.{Known, Marks as SegmentMarks, held_at}
use Rattle.o2_world.specs.Map.{get, put}
use Rattle.o2_world.specs.Moves.{AllMoves, Moves, NoneMoves, NoRun, OneAliased, OneLocked, OneMade, OneNamed, OneRemade, OneRun, OneSized, OwnMoves, RunMade, RunMoves, RunSized, SomeFreed, SomeShared}
use Rattle.o2_world.specs.Rulings.{full_size, held_as_code, held_by_call}
use Rattle.o2_world.specs.SharedRulings.{each_more, marks_under, one_more}
use Rattle.o2_world.specs.Sound.{HasGoodRegisters, NamesHeld, has_rights, held_of}
use Rattle.o2_world.specs.Views.{hold_of}
use Rattle.o2_world.specs.World.{ByCall, Held, Process, World}
use Rattle.o2_world.proofs.MapLemmas.{if_no, if_yes}
use Rattle.o2_world.proofs.Reached.{get-place, get-put}
use Rattle.o2_world.proofs.TiedWorld.{with_more}
use Rattle.o2_stepping.proofs.Named.{both_in, one_of, or_back, or_front}

-- What is held under an index goes on to have its name, as long as it is held.

pub record KeepsNames (old new : ℕ → Option Held) : Type 0 where
  pub each : (i : ℕ) (h k : Held) → old i ≡ Some h → new i ≡ Some k → k.name ≡ h.name

some_is : {a b : Held} → Some a ≡ Some b → a ≡ b
some_is e = cc

none_some : {h : Held} → None ≡ Some h → ⊥
none_some e = cc

same_names : (old new : ℕ → Option Held) → ((i : ℕ) → new i ≡ old i) → KeepsNames old new
same_names old new same = record { each = λ i h k was is. ap (λ (x : Held). x.name) (some_is (sym is ∙ (same i ∙ was))) }

right_true : (a b : Bool) → (a && b) ≡ true → b ≡ true
right_true true b e = e
right_true false b e = absurd (false≢true e)

more_name : (h a k : Held) (o : Option Held) → o ≡ Some a → more h o ≡ Some k → k.name ≡ a.name
more_name h a k None was is = absurd (none_some was)
more_name h a k (Some y) was is = ap (λ (x : Held). x.name) (sym (some_is is)) ∙ ap (λ (x : Held). x.name) (some_is was)

fewer_name : (count : ℕ) (k : Held) (o : Option Held) → fewer count o ≡ Some k → (h : Held) × (o ≡ Some h) × (k.name ≡ h.name)
fewer_name count k None is = absurd (none_some is)
fewer_name count k (Some y) is = (y, refl, go (nat_lt count y.holds) is)
  where
    go : (b : Bool) → cond b (Some (record y { holds = y.holds - count })) None ≡ Some k → k.name ≡ y.name
    go true f = ap (λ (x : Held). x.name) (sym (some_is f))
    go false f = absurd (none_some f)

module _ (ps : List Process) (n : ℕ) (x : Process) (at : process_at ps n ≡ Some x) where
  -- one hold more
  holds_names : (i : ℕ) (h : Held) → KeepsNames (held_at ps n) (held_at (at_number n (with_map (put_at i (more h))) ps) n)
  holds_names i h = record { each = λ j a k was is. go j a k was (eqb n n && eqb j i) refl (sym (held_put ps n n i j (more h) x at) ∙ is) }
    where
      go : (j : ℕ) (a k : Held) → held_at ps n j ≡ Some a → (b : Bool) → (eqb n n && eqb j i) ≡ b → cond b (more h (held_at ps n i)) (held_at ps n j) ≡ Some k → k.name ≡ a.name
      go j a k was true e is = more_name h a k (held_at ps n i) (ap (held_at ps n) (sym (eqb-true j i (right_true (eqb n n) (eqb j i) e))) ∙ was) is
      go j a k was false e is = ap (λ (y : Held). y.name) (some_is (sym is ∙ was))

  -- so many less
  drop_names : (count i j : ℕ) (k : Held) → held_at (at_number n (with_map (put_at i (fewer count))) ps) n j ≡ Some k → (h : Held) × (held_at ps n j ≡ Some h) × (k.name ≡ h.name)
  drop_names count i j k is = go (eqb n n && eqb j i) refl (sym (held_put ps n n i j (fewer count) x at) ∙ is)
    where
      go : (b : Bool) → (eqb n n && eqb j i) ≡ b → cond b (fewer count (held_at ps n i)) (held_at ps n j) ≡ Some k → (h : Held) × (held_at ps n j ≡ Some h) × (k.name ≡ h.name)
      go true e f =
          (let r = fewer_name count k (held_at ps n i) f in
          (r.0, ap (held_at ps n) (eqb-true j i (right_true (eqb n n) (eqb j i) e)) ∙ r.1, r.2))
      go false e f = (k, f, refl)

  -- it is still there, whatever a process holds
  still_there : (to i : ℕ) (g : Option Held → Option Held) → (z : Process) × (process_at (at_number to (with_map (put_at i g)) ps) n ≡ Some z)
  still_there to i g =
      some_process (process_at (at_number to (with_map (put_at i g)) ps) n) x.cpu
      (number_kept (λ (p : Process). p.cpu) (put_at i g) (λ p. refl) to n ps ∙ ap (option_map (λ (p : Process). p.cpu)) at)
    where
      some_process : (o : Option Process) (c : Cpu) → option_map (λ (p : Process). p.cpu) o ≡ Some c → (z : Process) × (o ≡ Some z)
      some_process None c e = absurd (cc)
      some_process (Some z) c e = (z, refl)

drops_names : (v : World) (n : ℕ) (x : Process) → process_at v.processes n ≡ Some x → (is : List ℕ) (j : ℕ) (k : Held)
    → held_at (with_changes v (map (λ (i : ℕ). Drops n i 1) is)).processes n j ≡ Some k → (h : Held) × (held_at v.processes n j ≡ Some h) × (k.name ≡ h.name)
unfolding with_changes
drops_names v n x at [] j k e = (k, e, refl)
drops_names v n x at (i ∷ is) j k e =
    let z = still_there v.processes n x at n i (fewer 1) in
    let r = drops_names (with_change v (Drops n i 1)) n z.0 z.1 is j k e in
    let s = drop_names v.processes n x at 1 i j r.0 r.1 in
    (s.0, s.1, r.2 ∙ s.2)

-- all holds of members of a run less
gone_names : (k : Known) (n : ℕ) (is : List ℕ) (v : World) (x : Process) → process_at v.processes n ≡ Some x → (j : ℕ) (y : Held)
    → held_at (with_changes v (dropped_members k n is)).processes n j ≡ Some y → (h : Held) × (held_at v.processes n j ≡ Some h) × (y.name ≡ h.name)
unfolding with_changes
gone_names k n [] v x at j y e = (y, e, refl)
gone_names k n (i ∷ is) v x at j y e = go (k.held n i) (λ u z there f. gone_names k n is u z there j y f) e
  where
    go : (o : Option Held)
        → ((u : World) (z : Process) → process_at u.processes n ≡ Some z → held_at (with_changes u (dropped_members k n is)).processes n j ≡ Some y → (h : Held) × (held_at u.processes n j ≡ Some h) × (y.name ≡ h.name))
        → held_at (with_changes v (all_dropped n i o ++ dropped_members k n is)).processes n j ≡ Some y → (h : Held) × (held_at v.processes n j ≡ Some h) × (y.name ≡ h.name)
    go None rest f = rest v x at f
    go (Some h) rest f =
        (let z = still_there v.processes n x at n i (fewer h.holds) in
        let r = rest (with_change v (Drops n i h.holds)) z.0 z.1 f in
        let s = drop_names v.processes n x at h.holds i j r.0 r.1 in
        (s.0, s.1, r.2 ∙ s.2))

-- What is held under an index goes on to be held, with its name, where a process holds more.

record StillNamed (old new : ℕ → Option Held) : Type 0 where
  each : (i : ℕ) (h : Held) → old i ≡ Some h → (k : Held) × (new i ≡ Some k) × (k.name ≡ h.name)

still_named : (old new : ℕ → Option Held) → StillNamed old new → KeepsNames old new
still_named old new still = record { each = λ i h k was is. (let r = still.each i h was in ap (λ (x : Held). x.name) (some_is (sym is ∙ r.1)) ∙ r.2) }

still_then : (old new last : ℕ → Option Held) → StillNamed old new → StillNamed new last → StillNamed old last
still_then old new last a b = record { each = λ i h was. (let r = a.each i h was in let s = b.each i r.0 r.1 in (s.0, s.1, s.2 ∙ r.2)) }

abbrev holds_more : ℕ → Held → Process → Process
holds_more i h p = record p { held = put i (more h (get p.held i)) p.held }

more_still : (i j : ℕ) (h a : Held) (p : Process) → get p.held j ≡ Some a → (k : Held) × (get (holds_more i h p).held j ≡ Some k) × (k.name ≡ a.name)
more_still i j h a p was = go (i == j) refl
  where
    number_is : (m n : ℕ) → (m == n) ≡ true → m ≡ n
    number_is m n e = grind arith

    more_of : (o : Option Held) → o ≡ Some a → (k : Held) × (more h o ≡ Some k) × (k.name ≡ a.name)
    more_of None e = absurd (none_some e)
    more_of (Some y) e = (record y { holds = y.holds + h.holds }, refl, ap (λ (x : Held). x.name) (some_is e))

    go : (b : Bool) → (i == j) ≡ b → (k : Held) × (get (holds_more i h p).held j ≡ Some k) × (k.name ≡ a.name)
    go true e =
        (let r = more_of (get p.held i) (ap (get p.held) (number_is i j e) ∙ was) in
        (r.0, get-put i j (more h (get p.held i)) p.held ∙ (if_yes (i == j) _ _ e ∙ r.1), r.2))
    go false e = (a, get-put i j (more h (get p.held i)) p.held ∙ (if_no (i == j) _ _ e ∙ was), refl)

-- of whichever process
gets_still : (ps : List Process) (n to i : ℕ) (h : Held) → StillNamed (held_at ps n) (held_at (at_number to (holds_more i h) ps) n)
gets_still ps n to i h = record { each = λ j a was. at (n == 0) (to == 0) j a was }
  where
    of : (o : Option Process) (c : Bool) (j : ℕ) (a : Held) → held_of o j ≡ Some a → (k : Held) × (held_of (cond c (option_map (holds_more i h) o) o) j ≡ Some k) × (k.name ≡ a.name)
    of None c j a was = absurd (none_some was)
    of (Some p) true j a was = more_still i j h a p was
    of (Some p) false j a was = (a, was, refl)

    at : (b c : Bool) (j : ℕ) (a : Held) → held_of (cond b None (slice_get ps (n - 1))) j ≡ Some a
        → (k : Held) × (held_of (cond b None (slice_get (cond c ps (at_place (to - 1) (holds_more i h) ps)) (n - 1))) j ≡ Some k) × (k.name ≡ a.name)
    at true c j a was = absurd (none_some was)
    at false true j a was = (a, was, refl)
    at false false j a was =
        (let r = of (slice_get ps (n - 1)) (n - 1 == to - 1) j a was in
        (r.0, ap (λ (o : Option Process). held_of o j) (get-place (to - 1) (n - 1) (holds_more i h) ps) ∙ r.1, r.2))

shares_still : (k : Known) (from to : ℕ) (is : List ℕ) (v : World) (n : ℕ) → StillNamed (held_at v.processes n) (held_at (with_changes v (each_more k from to is)).processes n)
unfolding with_changes
shares_still k from to [] v n = record { each = λ j a was. (a, was, refl) }
shares_still k from to (i ∷ is) v n = go (k.held from i) (λ u. shares_still k from to is u n)
  where
    go : (o : Option Held) → ((u : World) → StillNamed (held_at u.processes n) (held_at (with_changes u (each_more k from to is)).processes n))
        → StillNamed (held_at v.processes n) (held_at (with_changes v (one_more to i o ++ each_more k from to is)).processes n)
    go None rest = rest v
    go (Some h) rest =
        let one : Held = record h { holds = 1; cause = ByCall } in
        still_then (held_at v.processes n) (held_at (at_number to (holds_more i one) v.processes) n) _ (gets_still v.processes n to i one) (rest (with_change v (Holds to i one)))

-- changes by which nobody holds less
abbrev IsStill : Change → Type 0
IsStill (Makes s) = Unit {0}
IsStill (Resizes name size) = Unit {0}
IsStill (Locks name count) = Unit {0}
IsStill (Marks name discarded) = Unit {0}
IsStill (Holds p i h) = Unit {0}
IsStill (Drops p i count) = ⊥
IsStill (Finishes p state) = ⊥
IsStill (Reserves r) = Unit {0}
IsStill (Frees region first) = Unit {0}
IsStill (Names text name) = Unit {0}

abbrev AreStill : List Change → Type 0
AreStill [] = Unit {0}
AreStill (c ∷ cs) = IsStill c × AreStill cs

still_append : (xs ys : List Change) → AreStill xs → AreStill ys → AreStill (xs ++ ys)
still_append [] ys front back = back
still_append (x ∷ xs) ys front back = (front.0, still_append xs ys front.1 back)

-- what a process holds under them, and that it is there
record IsKeptBy (v w : World) (n : ℕ) : Type 0 where
  held : StillNamed (held_at v.processes n) (held_at w.processes n)
  there : (x : Process) → process_at v.processes n ≡ Some x → (z : Process) × (process_at w.processes n ≡ Some z)

same_kept : (v w : World) (n : ℕ) → w.processes ≡ v.processes → IsKeptBy v w n
same_kept v w n same = record {
  held = record { each = λ j a was. (a, ap (λ (ps : List Process). held_at ps n j) same ∙ was, refl) };
  there = λ x at. (x, ap (λ (ps : List Process). process_at ps n) same ∙ at);
}

one_kept : (v : World) (c : Change) (n : ℕ) → IsStill c → IsKeptBy v (with_change v c) n
one_kept v (Makes s) n is = same_kept v (with_change v (Makes s)) n refl
one_kept v (Resizes name size) n is = same_kept v (with_change v (Resizes name size)) n refl
one_kept v (Locks name count) n is = same_kept v (with_change v (Locks name count)) n refl
one_kept v (Marks name discarded) n is = same_kept v (with_change v (Marks name discarded)) n refl
one_kept v (Holds p i h) n is = record { held = gets_still v.processes n p i h; there = λ x at. still_there v.processes n x at p i (more h) }
one_kept v (Drops p i count) n is = absurd is
one_kept v (Finishes p state) n is = absurd is
one_kept v (Reserves r) n is = same_kept v (with_change v (Reserves r)) n refl
one_kept v (Frees region first) n is = same_kept v (with_change v (Frees region first)) n refl
one_kept v (Names text name) n is = same_kept v (with_change v (Names text name)) n refl

all_kept : (cs : List Change) (v : World) (n : ℕ) → AreStill cs → IsKeptBy v (with_changes v cs) n
unfolding with_changes
all_kept [] v n are = same_kept v v n refl
all_kept (c ∷ cs) v n are =
    let one = one_kept v c n are.0 in
    let rest = all_kept cs (with_change v c) n are.1 in
    record { held = still_then _ _ _ one.held rest.held; there = λ x at. (let z = one.there x at in rest.there z.0 z.1) }

-- the changes of runs that nobody holds less by

holds_still : (name first count i : ℕ) (ps : List (ℕ × ℕ)) → AreStill (all_hold name first count i ps)
holds_still name first count i [] = tt
holds_still name first count i (p ∷ ps) = (tt, holds_still name first count i ps)

members_still : (name first count flags : ℕ) (ps : List (ℕ × ℕ)) (is zs : List ℕ) → AreStill (new_members name first count flags ps is zs)
members_still name first count flags ps [] zs = tt
members_still name first count flags ps (i ∷ is) [] = tt
members_still name first count flags ps (i ∷ is) (z ∷ zs) =
    (tt, still_append (all_hold name first count i ps) (new_members (name + 1) first count flags ps is zs) (holds_still name first count i ps) (members_still (name + 1) first count flags ps is zs))

resize_still : (size : ℕ) (o : Option Held) (y : Option SegmentMarks) → AreStill (resized_one size o y)
resize_still size None None = tt
resize_still size None (Some y) = tt
resize_still size (Some h) None = tt
resize_still size (Some h) (Some y) = go (y.size == full_size size)
  where
    go : (t : Bool) → AreStill (if t then [] else Resizes h.name (full_size size) ∷ [])
    go true = tt
    go false = (tt, tt)

resizes_still : (k : Known) (n : ℕ) (is zs : List ℕ) → AreStill (resized_members k n is zs)
resizes_still k n [] zs = tt
resizes_still k n (i ∷ is) [] = tt
resizes_still k n (i ∷ is) (z ∷ zs) = still_append _ _ (resize_still z (k.held n i) (marks_under k (k.held n i))) (resizes_still k n is zs)

module _ (u : World) (b : Before) (x : Process) (at : process_at u.processes b.number ≡ Some x) where
  abbrev Kept : List Change → Type 0
  Kept cs = KeepsNames (held_at u.processes b.number) (held_at (with_all u cs).processes b.number)

  freed : (is : List ℕ) → Kept (map (λ (i : ℕ). Drops b.number i 1) is)
  freed is = go (list_any takes (map (λ (i : ℕ). Drops b.number i 1) is))
    where
      behind : KeepsNames (held_at u.processes b.number) (held_at (with_changes u (map (λ (i : ℕ). Drops b.number i 1) is)).processes b.number)
      behind = record {
        each = λ j h k was is_k.
            (let r = drops_names u b.number x at is j k is_k in
            r.2 ∙ ap (λ (y : Held). y.name) (some_is (sym r.1 ∙ was)));
      }

      go : (t : Bool) → KeepsNames (held_at u.processes b.number)
          (held_at (if t then swept (with_changes u (map (λ (i : ℕ). Drops b.number i 1) is)) else with_changes u (map (λ (i : ℕ). Drops b.number i 1) is)).processes b.number)
      go true = behind
      go false = behind

  -- behind the changes of a call
  names_kept : (cpu : Cpu) (cs : List Change) → Moves b cpu cs → Kept cs
  unfolding with_changes
  names_kept cpu cs (NoneMoves is) = subst Kept (sym is) (same_names _ _ (λ i. refl))
  names_kept cpu cs (OneMade size flags i free is) = subst Kept (sym is) (holds_names u.processes b.number x at i (held_by_call b.known.next))
  names_kept cpu cs (OneSized name size alone is) = subst Kept (sym is) (same_names _ _ (λ i. refl))
  names_kept cpu cs (OneRemade name size alone is) = subst Kept (sym is) (same_names _ _ (λ i. refl))
  names_kept cpu cs (OneLocked name count lockable is) = subst Kept (sym is) (same_names _ _ (λ i. refl))
  names_kept cpu cs (OneAliased index i h there alone free is) = subst Kept (sym is) (holds_names u.processes b.number x at i (held_as_code h.name))
  names_kept cpu cs (SomeFreed xs frees is) = subst Kept (sym is) (freed xs)

  shared : (k : Known) (from to : ℕ) (is : List ℕ) → Kept (each_more k from to is)
  shared k from to is = go (list_any takes (each_more k from to is))
    where
      behind : KeepsNames (held_at u.processes b.number) (held_at (with_changes u (each_more k from to is)).processes b.number)
      behind = still_named _ _ (shares_still k from to is u b.number)

      go : (t : Bool) → KeepsNames (held_at u.processes b.number)
          (held_at (if t then swept (with_changes u (each_more k from to is)) else with_changes u (each_more k from to is)).processes b.number)
      go true = behind
      go false = behind

  -- what nobody holds less by, and then members that go
  kept_by_run : (front : List Change) (gone : List ℕ) → AreStill front → Kept (front ++ dropped_members b.known b.number gone)
  kept_by_run front gone are = go (list_any takes (front ++ dropped_members b.known b.number gone))
    where
      mid : World
      mid = with_changes u front

      last : World
      last = with_changes u (front ++ dropped_members b.known b.number gone)

      kept : IsKeptBy u mid b.number
      kept = all_kept front u b.number are

      behind : KeepsNames (held_at u.processes b.number) (held_at last.processes b.number)
      behind = record {
        each = λ j h k was is.
            (let z = kept.there x at in
            let r = gone_names b.known b.number gone mid z.0 z.1 j k (ap (λ (w : World). held_at w.processes b.number j) (sym (with_more u front (dropped_members b.known b.number gone))) ∙ is) in
            let m = kept.held.each j h was in
            r.2 ∙ (ap (λ (y : Held). y.name) (some_is (sym r.1 ∙ m.1)) ∙ m.2));
      }

      go : (t : Bool) → KeepsNames (held_at u.processes b.number) (held_at (if t then swept last else last).processes b.number)
      go true = behind
      go false = behind

  runs_kept : (cpu : Cpu) (cs : List Change) → RunMoves b cpu cs → Kept cs
  unfolding with_changes
  runs_kept cpu cs (NoRun is) = subst Kept (sym is) (same_names _ _ (λ i. refl))
  runs_kept cpu cs (RunMade region first count flags i z is zs own some growth same) =
      let front = new_members b.known.next first count flags ((b.number, 1) ∷ []) (i ∷ is) (z ∷ zs) ++ Reserves (run_reserve region first count) ∷ [] in
      subst Kept (sym same)
      (subst Kept (append-nil front)
      (kept_by_run front []
      (still_append (new_members b.known.next first count flags ((b.number, 1) ∷ []) (i ∷ is) (z ∷ zs)) (Reserves (run_reserve region first count) ∷ [])
      (members_still b.known.next first count flags ((b.number, 1) ∷ []) (i ∷ is) (z ∷ zs)) (tt, tt))))
  runs_kept cpu cs (RunSized first count flags holds others kept sizes is zs gone growth cut same) =
      let sized = resized_members b.known b.number kept sizes in
      let new = new_members b.known.next first count flags ((b.number, holds) ∷ others) is zs in
      subst Kept (sym same)
      (subst Kept (append_assoc sized new (dropped_members b.known b.number gone))
      (kept_by_run (sized ++ new) gone (still_append sized new (resizes_still b.known b.number kept sizes) (members_still b.known.next first count flags ((b.number, holds) ∷ others) is zs))))

  pub all_names_kept : (cpu : Cpu) (cs : List Change) → AllMoves b cpu cs → Kept cs
  unfolding with_changes
  all_names_kept cpu cs (OwnMoves moves) = names_kept cpu cs moves
  all_names_kept cpu cs (OneNamed size i name free is) = subst Kept (sym is) (holds_names u.processes b.number x at i (held_by_call b.known.next))
  all_names_kept cpu cs (SomeShared from to xs shares is) = subst Kept (sym is) (shared b.known from to xs)
  all_names_kept cpu cs (OneRun moves ruled) = runs_kept cpu cs moves

-- What the registers name.

abbrev IsNullOrHeld : (ℕ → Option Held) → ℕ → Type 0
IsNullOrHeld held s = (is_null s ≡ true) ⊎ ((h : Held) × (held (s / 8) ≡ Some h))

-- a selector stays, or is cleared
abbrev Stays : ℕ → ℕ → Type 0
Stays s z = (z ≡ s) ⊎ (z ≡ 0)

pub record StaySelectors (c e : Cpu) : Type 0 where
  pub es : Stays c.es e.es
  pub cs : Stays c.cs e.cs
  pub ss : Stays c.ss e.ss
  pub ds : Stays c.ds e.ds

names_held : (p : Process) (ok : ℕ → Bool) (s : ℕ) → NamesHeld p ok s → IsNullOrHeld (get p.held) s
names_held p ok s named = inr (go (get p.held (s / 8)) named.1)
  where
    go : (o : Option Held) → has_rights ok o ≡ true → (h : Held) × (o ≡ Some h)
    go None e = absurd (false≢true e)
    go (Some h) e = (h, refl)

data_held : (p : Process) (ok : ℕ → Bool) (s : ℕ) → (is_null s ≡ true) ⊎ NamesHeld p ok s → IsNullOrHeld (get p.held) s
data_held p ok s (inl null) = inl null
data_held p ok s (inr named) = names_held p ok s named

module _ (old new : ℕ → Option Held) (keeps : KeepsNames old new) (q : ℕ) where
  abbrev Has : (ℕ → Option Held) → ℕ → Type 0
  Has held s = is_in q (name_in (bound_in (λ i. option_map hold_of (held i)) s)) ≡ true

  by_hold : (o m : Option Held) → ((h k : Held) → o ≡ Some h → m ≡ Some k → k.name ≡ h.name) → (h : Held) → o ≡ Some h
      → is_in q (name_in (option_map hold_of m)) ≡ true → is_in q (name_in (option_map hold_of o)) ≡ true
  by_hold None m f h at e = absurd (none_some at)
  by_hold (Some y) None f h at e = absurd (false≢true e)
  by_hold (Some y) (Some k) f h at e = subst (λ (name : ℕ). is_in q (name ∷ []) ≡ true) (f y k refl refl) e

  named_kept : (s z : ℕ) → IsNullOrHeld old s → Stays s z → Has new z → Has old s
  named_kept s z names (inr zero) e = absurd (false≢true (subst (λ (y : ℕ). Has new y) zero e))
  named_kept s z names (inl same) e = go (is_null s) refl (is_local s) (subst (λ (y : ℕ). Has new y) same e)
    where
      there : (is_null s ≡ false) → (h : Held) × (old (s / 8) ≡ Some h)
      there some = by names
        where
          by : IsNullOrHeld old s → (h : Held) × (old (s / 8) ≡ Some h)
          by (inl null) = absurd (false≢true (sym some ∙ null))
          by (inr held) = held

      go : (a : Bool) → is_null s ≡ a → (b : Bool) → is_in q (name_in (cond a None (cond b (option_map hold_of (new (s / 8))) None))) ≡ true
          → is_in q (name_in (cond a None (cond b (option_map hold_of (old (s / 8))) None))) ≡ true
      go true null b f = absurd (false≢true f)
      go false some false f = absurd (false≢true f)
      go false some true f = (let h = there some in by_hold (old (s / 8)) (new (s / 8)) (λ a k. keeps.each (s / 8) a k) h.0 h.1 f)

  both_kept : (xs ys vs ws : List ℕ) → (is_in q xs ≡ true → is_in q vs ≡ true) → (is_in q ys ≡ true → is_in q ws ≡ true) → is_in q (xs ++ ys) ≡ true → is_in q (vs ++ ws) ≡ true
  both_kept xs ys vs ws f g e = both_in q vs ws ∙ by (one_of (is_in q xs) (is_in q ys) (sym (both_in q xs ys) ∙ e))
    where
      by : (is_in q xs ≡ true) ⊎ (is_in q ys ≡ true) → (is_in q vs || is_in q ws) ≡ true
      by (inl h) = or_front (is_in q vs) (is_in q ws) (f h)
      by (inr h) = or_back (is_in q vs) (is_in q ws) (g h)

  abbrev at_selector : (ℕ → Option Held) → ℕ → List ℕ
  at_selector held s = name_in (bound_in (λ i. option_map hold_of (held i)) s)

  -- where those before it name what is held, or nothing
  pub seats_kept : (c e : Cpu) → IsNullOrHeld old c.es → IsNullOrHeld old c.cs → IsNullOrHeld old c.ss → IsNullOrHeld old c.ds → StaySelectors c e
      → is_in q (seated (bound_registers (λ i. option_map hold_of (new i)) e)) ≡ true → is_in q (seated (bound_registers (λ i. option_map hold_of (old i)) c)) ≡ true
  seats_kept c e es cs ss ds stay =
      both_kept (at_selector new e.es ++ at_selector new e.cs ++ at_selector new e.ss) (at_selector new e.ds) (at_selector old c.es ++ at_selector old c.cs ++ at_selector old c.ss) (at_selector old c.ds)
      (both_kept (at_selector new e.es ++ at_selector new e.cs) (at_selector new e.ss) (at_selector old c.es ++ at_selector old c.cs) (at_selector old c.ss)
      (both_kept (at_selector new e.es) (at_selector new e.cs) (at_selector old c.es) (at_selector old c.cs) (named_kept c.es e.es es stay.es) (named_kept c.cs e.cs cs stay.cs))
      (named_kept c.ss e.ss ss stay.ss))
      (named_kept c.ds e.ds ds stay.ds)

-- of a process with good registers
pub seats_of : (x : Process) (new : ℕ → Option Held) (e : Cpu) → HasGoodRegisters x → KeepsNames (get x.held) new → StaySelectors x.cpu e → (q : ℕ)
    → is_in q (seated (bound_registers (λ i. option_map hold_of (new i)) e)) ≡ true → is_in q (seated (bound_registers (λ i. option_map hold_of (get x.held i)) x.cpu)) ≡ true
seats_of x new e good keeps stay q =
    seats_kept (get x.held) new keeps q x.cpu e (data_held x _ x.cpu.es good.es) (names_held x _ x.cpu.cs good.cs) (names_held x _ x.cpu.ss good.ss) (data_held x _ x.cpu.ds good.ds) stay
