-- What a call on a huge allocation changes keeps a sound world sound: the changes are fit, and all that lives behind them is held.
use Rattle.std.proofs.Common.{◌≡◌, ◌≢◌, ◌⊎◌, inl, inr, ℕ, zero, suc, ◌+◌, ◌-◌, ◌/◌, ◌<◌, ◌≤◌, ◌==◌, ◌&&◌, ◌||◌, not, nat_le, Bool, true, false, List, [], ◌∷◌, ◌++◌}
use Rattle.std.proofs.Common.{length, Option, Some, None, if◌then◌else◌, ap, sym, ◌∙◌, refl, arith, subst}
use Rattle.std.specs.Prelude.{find, is_some, option_map, slice_get}
use Rattle.std.specs.List.{list_any}
use Rattle.std.proofs.lemmas.Bool.{false≢true}
use Rattle.o2_conf.specs.Dispatch.{Dispatch}
use Rattle.o2_isa.specs.declared.cpu.Cpu.{Cpu}
use Rattle.o2_isa.specs.View.{is_local, is_null, is_readable}
use Rattle.o2_world.specs.Map.{Map, get, put}
use Rattle.o2_world.specs.World.{World, Setting, Process, Segment, Held, is_live}
use Rattle.o2_world.specs.Holders.{process_at}
use Rattle.o2_world.specs.Changes.{Change, Drops, Holds, Makes, Reserves, Resizes, at_number, at_place, fewer, is_used, more, own_run_held, resized, runs_from, takes, with_change, with_changes}
use Rattle.o2_world.specs.Known.{Known, Marks, held_at, holds_index}
use Rattle.o2_world.specs.CallParts.{Before, Effect}
use Rattle.o2_world.specs.Rulings.{full_size, indexes, is_index, made_segment}
use Rattle.o2_world.specs.Run.{before, worked, working}
use Rattle.o2_world.specs.Sound.{held_in, held_of, HasGoodRegisters}
use Rattle.o2_world.specs.SharedRulings.{holder, marks_under, shared_from}
use Rattle.o2_world.specs.HugeRulings.{all_dropped, all_hold, dropped_members, held_in_run, is_unheld, names_one, new_members, resized_members, resized_one, run_reserve}
use Rattle.o2_world.specs.Tied.{AreFitChanges, IsSound, IsSwept, IsTied, IsUnnamed}
use Rattle.o2_world.specs.Moves.{AreHolders, Each, IsCut, IsGrowth, IsHolder, IsOpen, Maker, NoRun, RunMade, RunMoves, RunSized, Sharer}
use Rattle.o2_world.proofs.FitFrees.{data_other, each_among, is_among, local_of, none_at, other_index}
use Rattle.o2_world.proofs.FitRows.{either_false, full_is, nobody}
use Rattle.o2_world.proofs.FitRuns.{AllGoOn, GoesOn, IsLeft, IsVacant, first_held, members_fit, members_swept}
use Rattle.o2_world.proofs.HoldsSwept.{own_found, run_found_by}
use Rattle.o2_world.proofs.MapLemmas.{if_no, if_yes}
use Rattle.o2_world.proofs.MovesFit.{free_in, held_there, low_or_high, own, swept, tied}
use Rattle.o2_world.proofs.Numbers.{at_place_of, number_some, process_is}
use Rattle.o2_world.proofs.Reached.{get-place}
use Rattle.o2_world.proofs.StepReach.{same_at}
use Rattle.o2_world.proofs.TiedChanges.{lives_same}
use Rattle.o2_world.proofs.TiedWorld.{fit_more, with_more}

second_false : (a b : Bool) → (a || b) ≡ false → b ≡ false
second_false true b e = absurd (cc)
second_false false b e = e

-- an index that is found free has no holder among the processes

pub none_found : (f : ℕ → Bool) (from count n : ℕ) → is_some (find f (indexes from count)) ≡ false → from ≤ n → n < from + count → f n ≡ false
none_found f from zero n none low high = absurd (omega (arith, low, high))
none_found f from (suc count) n none low high =
    go (λ e l. none_found f (from + 1) count n e l (omega (arith, high))) (f from) refl none (from == n) refl
  where
    same_number : (n m : ℕ) → (n == m) ≡ true → n ≡ m
    same_number n m e = grind arith

    later : (n m : ℕ) → n ≤ m → (n == m) ≡ false → n + 1 ≤ m
    later n m l e = grind arith

    parts : (b : Bool) → is_some (if b then Some from else find f (indexes (from + 1) count)) ≡ false → (b ≡ false) × (is_some (find f (indexes (from + 1) count)) ≡ false)
    parts true e = absurd (cc)
    parts false e = (refl, e)

    go : (is_some (find f (indexes (from + 1) count)) ≡ false → from + 1 ≤ n → f n ≡ false) → (b : Bool) → f from ≡ b
        → is_some (if b then Some from else find f (indexes (from + 1) count)) ≡ false → (s : Bool) → (from == n) ≡ s → f n ≡ false
    go further b is e true at = ap f (sym (same_number from n at)) ∙ is ∙ (parts b e).0
    go further b is e false at = further (parts b e).1 (later from n low at)

no_zero : (n : ℕ) → 0 < n → (n == 0) ≡ true → ⊥
no_zero n h e = grind arith

-- a place behind the last process holds nothing
no_place : (ps : List Process) (place i : ℕ) → length ps ≤ place → held_in ps place i ≡ None
no_place [] place i far = refl
no_place (p ∷ ps) zero i far = absurd (omega (arith, far))
no_place (p ∷ ps) (suc place) i far = no_place ps place i (omega (arith, far))

-- Sizes and drops as lists.

abbrev pub resizes_of : List (ℕ × ℕ) → List Change
resizes_of [] = []
resizes_of (r ∷ rs) = Resizes r.0 r.1 ∷ resizes_of rs

abbrev AreSizes : List (ℕ × ℕ) → Type 0
AreSizes [] = Unit {0}
AreSizes (r ∷ rs) = ((0 < r.1) × (r.1 ≤ 65536)) × AreSizes rs

resizes_append : (xs ys : List (ℕ × ℕ)) → resizes_of (xs ++ ys) ≡ resizes_of xs ++ resizes_of ys
resizes_append [] ys = refl
resizes_append (x ∷ xs) ys = ap (λ (cs : List Change). Resizes x.0 x.1 ∷ cs) (resizes_append xs ys)

sizes_append : (xs ys : List (ℕ × ℕ)) → AreSizes xs → AreSizes ys → AreSizes (xs ++ ys)
sizes_append [] ys a b = b
sizes_append (x ∷ xs) ys a b = (a.0, sizes_append xs ys a.1 b)

abbrev pub size_one : ℕ → Option Held → Option Marks → List (ℕ × ℕ)
size_one size (Some h) (Some m) = if m.size == full_size size then [] else (h.name, full_size size) ∷ []
size_one size h m = []

size_one_is : (size : ℕ) (o : Option Held) (m : Option Marks) → resized_one size o m ≡ resizes_of (size_one size o m)
size_one_is size None None = refl
size_one_is size None (Some m) = refl
size_one_is size (Some h) None = refl
size_one_is size (Some h) (Some m) = go (m.size == full_size size)
  where
    go : (b : Bool) → (if b then [] else Resizes h.name (full_size size) ∷ []) ≡ resizes_of (if b then [] else (h.name, full_size size) ∷ [])
    go true = refl
    go false = refl

size_one_fits : (size : ℕ) (o : Option Held) (m : Option Marks) → AreSizes (size_one size o m)
size_one_fits size None None = tt
size_one_fits size None (Some m) = tt
size_one_fits size (Some h) None = tt
size_one_fits size (Some h) (Some m) = go (m.size == full_size size)
  where
    go : (b : Bool) → AreSizes (if b then [] else (h.name, full_size size) ∷ [])
    go true = tt
    go false = (full_is size, tt)

abbrev pub sizes_each : Known → ℕ → List ℕ → List ℕ → List (ℕ × ℕ)
sizes_each k n [] zs = []
sizes_each k n (i ∷ is) [] = []
sizes_each k n (i ∷ is) (z ∷ zs) = size_one z (k.held n i) (marks_under k (k.held n i)) ++ sizes_each k n is zs

pub resized_are : (k : Known) (n : ℕ) (is zs : List ℕ) → resized_members k n is zs ≡ resizes_of (sizes_each k n is zs)
resized_are k n [] zs = refl
resized_are k n (i ∷ is) [] = refl
resized_are k n (i ∷ is) (z ∷ zs) =
    ap (λ (cs : List Change). cs ++ resized_members k n is zs) (size_one_is z (k.held n i) (marks_under k (k.held n i)))
    ∙ ap (λ (cs : List Change). resizes_of (size_one z (k.held n i) (marks_under k (k.held n i))) ++ cs) (resized_are k n is zs)
    ∙ sym (resizes_append (size_one z (k.held n i) (marks_under k (k.held n i))) (sizes_each k n is zs))

sizes_fit : (k : Known) (n : ℕ) (is zs : List ℕ) → AreSizes (sizes_each k n is zs)
sizes_fit k n [] zs = tt
sizes_fit k n (i ∷ is) [] = tt
sizes_fit k n (i ∷ is) (z ∷ zs) =
    sizes_append (size_one z (k.held n i) (marks_under k (k.held n i))) (sizes_each k n is zs) (size_one_fits z (k.held n i) (marks_under k (k.held n i))) (sizes_fit k n is zs)

resizes_fit : (u : World) (rs : List (ℕ × ℕ)) → AreSizes rs → AreFitChanges u (resizes_of rs)
resizes_fit u [] sizes = tt
resizes_fit u (r ∷ rs) sizes = (sizes.0, resizes_fit (with_change u (Resizes r.0 r.1)) rs sizes.1)

pub resizes_same : (u : World) (rs : List (ℕ × ℕ)) → (with_changes u (resizes_of rs)).processes ≡ u.processes
unfolding with_changes
resizes_same u [] = refl
resizes_same u (r ∷ rs) = resizes_same (with_change u (Resizes r.0 r.1)) rs

pub resizes_next : (u : World) (rs : List (ℕ × ℕ)) → (with_changes u (resizes_of rs)).next_name ≡ u.next_name
unfolding with_changes
resizes_next u [] = refl
resizes_next u (r ∷ rs) = resizes_next (with_change u (Resizes r.0 r.1)) rs

resizes_swept : (u : World) (rs : List (ℕ × ℕ)) → IsSwept u → IsSwept (with_changes u (resizes_of rs))
unfolding with_changes
resizes_swept u [] swept = swept
resizes_swept u (r ∷ rs) swept =
    resizes_swept (with_change u (Resizes r.0 r.1)) rs
    (record { named = λ q x. swept.named q (sym (lives_same u.names r.0 q (λ (y : Segment). record y { bytes = resized r.1 y.bytes })) ∙ x); used = swept.used })

abbrev pub drops_of : ℕ → List (ℕ × ℕ) → List Change
drops_of n [] = []
drops_of n (g ∷ gs) = Drops n g.0 g.1 ∷ drops_of n gs

abbrev pub drop_one : ℕ → Option Held → List (ℕ × ℕ)
drop_one i None = []
drop_one i (Some h) = (i, h.holds) ∷ []

abbrev pub drops_each : Known → ℕ → List ℕ → List (ℕ × ℕ)
drops_each k n [] = []
drops_each k n (i ∷ is) = drop_one i (k.held n i) ++ drops_each k n is

drops_append : (n : ℕ) (xs ys : List (ℕ × ℕ)) → drops_of n (xs ++ ys) ≡ drops_of n xs ++ drops_of n ys
drops_append n [] ys = refl
drops_append n (x ∷ xs) ys = ap (λ (cs : List Change). Drops n x.0 x.1 ∷ cs) (drops_append n xs ys)

pub dropped_are : (k : Known) (n : ℕ) (is : List ℕ) → dropped_members k n is ≡ drops_of n (drops_each k n is)
dropped_are k n [] = refl
dropped_are k n (i ∷ is) =
    ap (λ (cs : List Change). all_dropped n i (k.held n i) ++ cs) (dropped_are k n is)
    ∙ ap (λ (cs : List Change). cs ++ drops_of n (drops_each k n is)) (one (k.held n i))
    ∙ sym (drops_append n (drop_one i (k.held n i)) (drops_each k n is))
  where
    one : (o : Option Held) → all_dropped n i o ≡ drops_of n (drop_one i o)
    one None = refl
    one (Some h) = refl

-- what holds of each index holds of each drop
abbrev EachDrop : (ℕ → Type 0) → List (ℕ × ℕ) → Type 0
EachDrop P [] = Unit {0}
EachDrop P (g ∷ gs) = P g.0 × EachDrop P gs

each_drop : (P : ℕ → Type 0) (k : Known) (n : ℕ) (is : List ℕ) → Each P is → EachDrop P (drops_each k n is)
each_drop P k n [] all = tt
each_drop P k n (i ∷ is) all = one (each_drop P k n is all.1) (k.held n i)
  where
    one : EachDrop P (drops_each k n is) → (o : Option Held) → EachDrop P (drop_one i o ++ drops_each k n is)
    one rest None = rest
    one rest (Some h) = (all.0, rest)

-- The registers of a process behind changes of what is held.

abbrev HasCpu : List Process → ℕ → Cpu → Type 0
HasCpu ps n c = (x : Process) → process_at ps n ≡ Some x → x.cpu ≡ c

number_cpu : (ps : List Process) (q n : ℕ) (f : Process → Process) (c : Cpu) → ((y : Process) → (f y).cpu ≡ y.cpu) → HasCpu ps n c → HasCpu (at_number q f ps) n c
number_cpu ps q n f c keeps has = go (q == 0)
  where
    place : (x : Process) → process_at (at_place (q - 1) f ps) n ≡ Some x → x.cpu ≡ c
    place x e =
        pick (n - 1 == q - 1) (slice_get ps (n - 1)) refl
        (sym (get-place (q - 1) (n - 1) f ps) ∙ sym (process_is (at_place (q - 1) f ps) n some) ∙ e)
      where
        some : 0 < n
        some = number_some (at_place (q - 1) f ps) n x e

        pick : (b : Bool) (o : Option Process) → slice_get ps (n - 1) ≡ o → (if b then option_map f (slice_get ps (n - 1)) else slice_get ps (n - 1)) ≡ Some x → x.cpu ≡ c
        pick true None at g = absurd (let z : option_map f None ≡ Some x = sym (ap (option_map f) at) ∙ g in cc)
        pick true (Some y) at g =
            let z : Some (f y) ≡ Some x = sym (ap (option_map f) at) ∙ g in
            let is : x ≡ f y = cc in
            ap (λ (p : Process). p.cpu) is ∙ keeps y ∙ has y (process_is ps n some ∙ at)
        pick false o at g = has x (process_is ps n some ∙ g)

    go : (b : Bool) → HasCpu (if b then ps else at_place (q - 1) f ps) n c
    go true = has
    go false = place

holds_cpu : (u : World) (name first count i n : ℕ) (c : Cpu) (ps : List (ℕ × ℕ)) → HasCpu u.processes n c → HasCpu (with_changes u (all_hold name first count i ps)).processes n c
unfolding with_changes
holds_cpu u name first count i n c [] has = has
holds_cpu u name first count i n c (p ∷ ps) has =
    let h : Held = held_in_run name first count p.1 in
    holds_cpu (with_change u (Holds p.0 i h)) name first count i n c ps
    (number_cpu u.processes p.0 n (λ (y : Process). record y { held = put i (more h (get y.held i)) y.held }) c (λ y. refl) has)

members_cpu : (u : World) (name first count flags n : ℕ) (c : Cpu) (ps : List (ℕ × ℕ)) (is zs : List ℕ) → HasCpu u.processes n c
    → HasCpu (with_changes u (new_members name first count flags ps is zs)).processes n c
unfolding with_changes
members_cpu u name first count flags n c ps [] zs has = has
members_cpu u name first count flags n c ps (i ∷ is) [] has = has
members_cpu u name first count flags n c ps (i ∷ is) (z ∷ zs) has =
    let made : World = with_change u (Makes (made_segment z flags)) in
    let v : World = with_changes made (all_hold name first count i ps) in
    subst (λ (w : World). HasCpu w.processes n c) (sym (with_more made (all_hold name first count i ps) (new_members (name + 1) first count flags ps is zs)))
    (members_cpu v (name + 1) first count flags n c ps is zs (holds_cpu made name first count i n c ps has))

cut_fit : (u : World) (n : ℕ) (c : Cpu) (gs : List (ℕ × ℕ)) → HasCpu u.processes n c → EachDrop (IsUnnamed c) gs → AreFitChanges u (drops_of n gs)
cut_fit u n c [] has unnamed = tt
cut_fit u n c (g ∷ gs) has unnamed = (
  (λ x there live. inr (subst (λ (y : Cpu). IsUnnamed y g.0) (sym (has x there)) unnamed.0)),
  cut_fit (with_change u (Drops n g.0 g.1)) n c gs
      (number_cpu u.processes n n (λ (y : Process). record y { held = put g.0 (fewer g.1 (get y.held g.0)) y.held }) c (λ y. refl) has) unnamed.1,
)

any_right : (f : Change → Bool) (xs ys : List Change) → list_any f ys ≡ true → list_any f (xs ++ ys) ≡ true
any_right f [] ys e = e
any_right f (x ∷ xs) ys e = go (f x) (any_right f xs ys e)
  where
    go : (b : Bool) → list_any f (xs ++ ys) ≡ true → (b || list_any f (xs ++ ys)) ≡ true
    go true g = refl
    go false g = g

module _ (s : Setting) (w : World) (d : Dispatch) (p : Process) (e : Effect) (at : process_at w.processes d.current ≡ Some p) (lives : is_live p.state ≡ true)
    (live_now : is_live (working p e).state ≡ true) (good_now : HasGoodRegisters (working p e))
    (sizes : (q : ℕ) (x : Segment) → get w.names q ≡ Some x → length (e.bytes q) ≡ length x.bytes) (sound : IsSound w) where
  abbrev b : Before
  b = before s w d.current p

  abbrev v : World
  v = worked w d p e

  here_own : process_at v.processes d.current ≡ Some (working p e)
  here_own = own s w d p e at lives live_now good_now sizes sound

  v_tied : IsTied v
  v_tied = tied s w d p e at lives live_now good_now sizes sound

  v_swept : IsSwept v
  v_swept = swept s w d p e at lives live_now good_now sizes sound

  -- who holds a new member lives
  holder_on : (q : ℕ × ℕ) → IsHolder b q → GoesOn v q
  holder_on q (Maker same one) = record { process = working p e; there = ap (process_at v.processes) same ∙ here_own; live = live_now; some = subst (λ (n : ℕ). 0 < n) (sym one) (omega arith) }
  holder_on q (Sharer index held there holds) =
      go (slice_get v.processes (q.0 - 1)) refl (held_there s w d p e at lives live_now good_now sizes sound q.0 index held there)
    where
      some : 0 < q.0
      some = go (q.0 == 0) refl there
        where
          positive : (n : ℕ) → (n == 0) ≡ false → 0 < n
          positive n e = grind arith

          go : (t : Bool) → (q.0 == 0) ≡ t → held_of (if t then None else slice_get w.processes (q.0 - 1)) index ≡ Some held → 0 < q.0
          go true is f = absurd (cc)
          go false is f = positive q.0 is

      live_by : (x : Process) → slice_get v.processes (q.0 - 1) ≡ Some x → get x.held index ≡ Some held → (t : Bool) → is_live x.state ≡ t → is_live x.state ≡ true
      live_by x found f true is = is
      live_by x found f false is =
          absurd (let none : None ≡ Some held = sym (ap (λ (m : Map Held). get m index) (v_tied.ended (q.0 - 1) x found is)) ∙ f in cc)

      go : (o : Option Process) → slice_get v.processes (q.0 - 1) ≡ o → held_in v.processes (q.0 - 1) index ≡ Some held → GoesOn v q
      go None found f = absurd (let none : None ≡ Some held = sym (ap (λ (o : Option Process). held_of o index) found) ∙ f in cc)
      go (Some x) found f =
          let g : get x.held index ≡ Some held = sym (ap (λ (o : Option Process). held_of o index) found) ∙ f in
          record {
            process = x;
            there = process_is v.processes q.0 some ∙ found;
            live = live_by x found g (is_live x.state) refl;
            some = subst (λ (n : ℕ). 0 < n) (sym holds) (v_tied.held (q.0 - 1) index held f).1;
          }

  pub holders_on : (qs : List (ℕ × ℕ)) → AreHolders b qs → AllGoOn v qs
  holders_on [] are = tt
  holders_on (q ∷ qs) are = (holder_on q are.0, holders_on qs are.1)

  -- an index that is open for new members: nobody holds it

  held_before : (place i : ℕ) → held_in v.processes place i ≡ held_in w.processes place i
  held_before place i = same_at w.processes d.current p (working p e) place i at refl

  no_holder : (i : ℕ) → is_some (holder b.known i) ≡ false → (place : ℕ) (k : Held) → held_in w.processes place i ≡ Some k → ⊥
  no_holder i none place k there = go (nat_le (length w.processes) place) refl
    where
      far : (n m : ℕ) → nat_le n m ≡ true → n ≤ m
      far n m e = grind arith

      near : (n m : ℕ) → nat_le n m ≡ false → m + 1 ≤ n
      near n m e = grind arith

      go : (t : Bool) → nat_le (length w.processes) place ≡ t → ⊥
      go true is = (let no : None ≡ Some k = sym (no_place w.processes place i (far (length w.processes) place is)) ∙ there in cc)
      go false is =
          let l = near (length w.processes) place is in
          let f : is_some (held_at w.processes (place + 1) i) ≡ false = none_found (λ (n : ℕ). is_some (b.known.held n i)) 1 (length w.processes) (place + 1) none (omega arith) (omega (arith, l)) in
          let number : place + 1 - 1 ≡ place = omega arith in
          let g : held_at w.processes (place + 1) i ≡ Some k = ap (λ (o : Option Process). held_of o i) (process_is w.processes (place + 1) (omega arith) ∙ ap (slice_get w.processes) number) ∙ there in
          false≢true (sym f ∙ ap is_some g)

  unheld_parts : (i : ℕ) → is_unheld b.known d.current i ≡ true → (4096 ≤ i → is_some (holder b.known i) ≡ false) × (i < 4096 → is_some (b.known.held d.current i) ≡ false)
  unheld_parts i e = go (nat_le shared_from i) refl e
    where
      high : (i : ℕ) → nat_le 4096 i ≡ true → 4096 ≤ i
      high i e = grind arith

      low : (i : ℕ) → nat_le 4096 i ≡ false → i < 4096
      low i e = grind arith

      not_true : (t : Bool) → not t ≡ true → t ≡ false
      not_true true e = absurd (cc)
      not_true false e = refl

      go : (t : Bool) → nat_le 4096 i ≡ t → (if t then not (is_some (holder b.known i)) else not (is_some (b.known.held d.current i))) ≡ true
          → (4096 ≤ i → is_some (holder b.known i) ≡ false) × (i < 4096 → is_some (b.known.held d.current i) ≡ false)
      go true is f = ((λ big. not_true _ f), (λ small. absurd (let big = high i is in omega (arith, big, small))))
      go false is f = ((λ big. absurd (let small = low i is in omega (arith, big, small))), (λ small. not_true _ f))

  open_vacant : (i : ℕ) → IsOpen b i → IsVacant v i
  open_vacant i (inl free) = λ big place k there. nobody w.processes place i k (either_false (holds_index w.processes i) _ (free.shared big)) (sym (held_before place i) ∙ there)
  open_vacant i (inr unheld) = λ big place k there. no_holder i ((unheld_parts i unheld).0 big) place k (sym (held_before place i) ∙ there)

  none_by : (o : Option Held) → is_some o ≡ false → o ≡ None
  none_by None e = refl
  none_by (Some h) e = absurd (cc)

  own_place : (i : ℕ) → held_in v.processes (d.current - 1) i ≡ get (working p e).held i
  own_place i = ap (λ (o : Option Process). held_of o i) (at_place_of v.processes d.current (working p e) here_own)

  open_left : (i : ℕ) → IsOpen b i → IsLeft d.current v i
  open_left i (inl free) = own_place i ∙ free_in s w d p e at lives live_now good_now sizes sound i free
  open_left i (inr unheld) =
      low_or_high (held_in v.processes (d.current - 1) i ≡ None) i
      (λ small. own_place i ∙ none_by (get p.held i) (sym (ap is_some (ap (λ (o : Option Process). held_of o i) at)) ∙ (unheld_parts i unheld).1 small))
      (λ big. by_place big (held_in v.processes (d.current - 1) i) refl)
    where
      by_place : 4096 ≤ i → (o : Option Held) → held_in v.processes (d.current - 1) i ≡ o → held_in v.processes (d.current - 1) i ≡ None
      by_place big None f = f
      by_place big (Some k) f = absurd (open_vacant i (inr unheld) big (d.current - 1) k f)

  each_open : {P : ℕ → Type 0} → ((i : ℕ) → IsOpen b i → P i) → (is : List ℕ) → Each (IsOpen b) is → Each P is
  each_open f [] all = tt
  each_open {P} f (i ∷ is) all = (f i all.0, each_open {P = P} f is all.1)

  -- The reserve of a new run.

  made_used : (u : World) (region first count i : ℕ) (y : Held) → (region ≡ d.current) ⊎ (region ≡ 0) → 0 < count
      → held_in u.processes (d.current - 1) i ≡ Some y → y.first ≡ first → y.reserved ≡ count → is_used u.processes (run_reserve region first count) ≡ true
  made_used u region first count i y which positive there same_first same_count = go (region == 0) refl
    where
      some : 0 < d.current
      some = number_some w.processes d.current p at

      equal : (n : ℕ) → (n == n) ≡ true
      equal n = grind arith

      above : (n : ℕ) → 0 < n → (n == 0) ≡ false
      above n h = grind arith

      runs : runs_from first (Some y) ≡ true
      runs = ap (λ (f : ℕ). (f == first) && not (y.reserved == 0)) same_first ∙ ap (λ (r : ℕ). (first == first) && not (r == 0)) same_count ∙ ap (λ (t : Bool). t && not (count == 0)) (equal first) ∙ ap not (above count positive)

      same_region : (region ≡ d.current) ⊎ (region ≡ 0) → (region == 0) ≡ false → region ≡ d.current
      same_region (inl same) is = same
      same_region (inr zeros) is = absurd (false≢true (sym is ∙ ap (λ (r : ℕ). r == 0) zeros))

      go : (t : Bool) → (region == 0) ≡ t → is_used u.processes (run_reserve region first count) ≡ true
      go true is = if_yes (region == 0) _ _ is ∙ run_found_by first (d.current - 1) i u.processes y there runs
      go false is =
          if_no (region == 0) _ _ is
          ∙ ap (λ (r : ℕ). own_run_held (process_at u.processes r) first) (same_region which is)
          ∙ own_found first i (process_at u.processes d.current) y (ap (λ (o : Option Process). held_of o i) (process_is u.processes d.current some) ∙ there) runs

  pub made_fit : (region first count flags i z : ℕ) (is zs : List ℕ) → IsGrowth b 1 [] (i ∷ is)
      → AreFitChanges v (new_members w.next_name first count flags ((d.current, 1) ∷ []) (i ∷ is) (z ∷ zs) ++ Reserves (run_reserve region first count) ∷ [])
  made_fit region first count flags i z is zs growth =
      fit_more v (new_members w.next_name first count flags ((d.current, 1) ∷ []) (i ∷ is) (z ∷ zs)) (Reserves (run_reserve region first count) ∷ [])
      (members_fit first count flags ((d.current, 1) ∷ []) v w.next_name (i ∷ is) (z ∷ zs) refl growth.apart (each_open {P = IsVacant v} open_vacant (i ∷ is) growth.free) (holders_on ((d.current, 1) ∷ []) growth.holders))
      (tt, tt)

  pub made_swept : (region first count flags i z : ℕ) (is zs : List ℕ) → (region ≡ d.current) ⊎ (region ≡ 0) → 0 < count → IsGrowth b 1 [] (i ∷ is)
      → IsSwept (with_changes v (new_members w.next_name first count flags ((d.current, 1) ∷ []) (i ∷ is) (z ∷ zs) ++ Reserves (run_reserve region first count) ∷ []))
  unfolding with_changes
  made_swept region first count flags i z is zs which positive growth =
      let ms : List Change = new_members w.next_name first count flags ((d.current, 1) ∷ []) (i ∷ is) (z ∷ zs) in
      let on = holders_on ((d.current, 1) ∷ []) growth.holders in
      let left = each_open {P = IsLeft d.current v} open_left (i ∷ is) growth.free in
      let behind = members_swept first count flags d.current 1 [] v w.next_name (i ∷ is) (z ∷ zs) refl growth.apart left on v_swept in
      let y = first_held first count flags d.current 1 [] v w.next_name i z is zs left.0 on in
      let used = made_used (with_changes v ms) region first count i y.0 which positive y.1 y.2 y.3 in
      subst IsSwept (sym (with_more v ms (Reserves (run_reserve region first count) ∷ [])))
      (record { named = behind.named; used = (used, behind.used) })

  -- The registers name no member that goes.

  good : HasGoodRegisters p
  good = sound.tied.registers (d.current - 1) p (at_place_of w.processes d.current p at) lives

  cut_unnamed : (is : List ℕ) → IsCut b e.cpu is → Each (IsUnnamed e.cpu) is
  cut_unnamed is cut = each_among (IsUnnamed e.cpu) is unnamed
    where
      data_behind : (sel i : ℕ) → is_among is i ≡ true → (is_null sel ≡ true) ⊎ (is_local sel ≡ true)
          → (let t = if names_one sel is then 0 else sel in (is_null t ≡ true) ⊎ (t / 8 ≢ i))
      data_behind sel i here fits = go (names_one sel is) refl
        where
          go : (t : Bool) → names_one sel is ≡ t → (let y = if t then 0 else sel in (is_null y ≡ true) ⊎ (y / 8 ≢ i))
          go true f = inl refl
          go false f = data_other sel i fits (none_at (is_index sel) is i f here)

      unnamed : (i : ℕ) → is_among is i ≡ true → IsUnnamed e.cpu i
      unnamed i here =
          let free = none_at (λ (j : ℕ). is_index p.cpu.cs j || is_index p.cpu.ss j) is i cut.unused here in
          record {
            cs = λ f. other_index p.cpu.cs i good.cs.0 (either_false (is_index p.cpu.cs i) (is_index p.cpu.ss i) free) (ap (λ (x : ℕ). x / 8) (sym cut.cs) ∙ f);
            ss = λ f. other_index p.cpu.ss i good.ss.0 (second_false (is_index p.cpu.cs i) (is_index p.cpu.ss i) free) (ap (λ (x : ℕ). x / 8) (sym cut.ss) ∙ f);
            ds = subst (λ (x : ℕ). (is_null x ≡ true) ⊎ (x / 8 ≢ i)) (sym cut.ds) (data_behind p.cpu.ds i here (local_of p is_readable p.cpu.ds good.ds));
            es = subst (λ (x : ℕ). (is_null x ≡ true) ⊎ (x / 8 ≢ i)) (sym cut.es) (data_behind p.cpu.es i here (local_of p is_readable p.cpu.es good.es));
          }

  own_cpu : HasCpu v.processes d.current e.cpu
  own_cpu x there = let z : Some (working p e) ≡ Some x = sym here_own ∙ there in let is : x ≡ working p e = cc in ap (λ (y : Process). y.cpu) is

  -- Members of a run that get other sizes, new ones, and those that go.
  module _ (first count flags holds : ℕ) (others : List (ℕ × ℕ)) (kept zs is sizes_new gone : List ℕ) (growth : IsGrowth b holds others is) where
    abbrev rs : List (ℕ × ℕ)
    rs = sizes_each b.known d.current kept zs

    abbrev gs : List (ℕ × ℕ)
    gs = drops_each b.known d.current gone

    abbrev ms : List Change
    ms = new_members w.next_name first count flags ((d.current, holds) ∷ others) is sizes_new

    abbrev u : World
    u = with_changes v (resizes_of rs)

    pub all_are : resized_members b.known d.current kept zs ++ (ms ++ dropped_members b.known d.current gone) ≡ resizes_of rs ++ (ms ++ drops_of d.current gs)
    all_are =
        ap (λ (cs : List Change). cs ++ (ms ++ dropped_members b.known d.current gone)) (resized_are b.known d.current kept zs)
        ∙ ap (λ (cs : List Change). resizes_of rs ++ (ms ++ cs)) (dropped_are b.known d.current gone)

    same_go_on : (qs : List (ℕ × ℕ)) → AllGoOn v qs → AllGoOn u qs
    same_go_on [] on = tt
    same_go_on (q ∷ qs) on =
        (record { process = on.0.process; there = ap (λ (ps : List Process). process_at ps q.0) (resizes_same v rs) ∙ on.0.there; live = on.0.live; some = on.0.some }, same_go_on qs on.1)

    pub on : AllGoOn u ((d.current, holds) ∷ others)
    on = same_go_on ((d.current, holds) ∷ others) (holders_on ((d.current, holds) ∷ others) growth.holders)

    vacant : Each (IsVacant u) is
    vacant = each_open {P = IsVacant u} (λ i free big place k there. open_vacant i free big place k (sym (ap (λ (ps : List Process). held_in ps place i) (resizes_same v rs)) ∙ there)) is growth.free

    left : Each (IsLeft d.current u) is
    left = each_open {P = IsLeft d.current u} (λ i free. ap (λ (ps : List Process). held_in ps (d.current - 1) i) (resizes_same v rs) ∙ open_left i free) is growth.free

    pub sized_fit : IsCut b e.cpu gone → AreFitChanges v (resized_members b.known d.current kept zs ++ (ms ++ dropped_members b.known d.current gone))
    sized_fit cut =
        subst (AreFitChanges v) (sym all_are)
        (fit_more v (resizes_of rs) (ms ++ drops_of d.current gs) (resizes_fit v rs (sizes_fit b.known d.current kept zs))
        (fit_more u ms (drops_of d.current gs)
        (members_fit first count flags ((d.current, holds) ∷ others) u w.next_name is sizes_new (resizes_next v rs) growth.apart vacant on)
        (cut_fit (with_changes u ms) d.current e.cpu gs
        (members_cpu u w.next_name first count flags d.current e.cpu ((d.current, holds) ∷ others) is sizes_new (subst (λ (ps : List Process). HasCpu ps d.current e.cpu) (sym (resizes_same v rs)) own_cpu))
        (each_drop (IsUnnamed e.cpu) b.known d.current gone (cut_unnamed gone cut)))))

    pub sized_swept : list_any takes (resized_members b.known d.current kept zs ++ (ms ++ dropped_members b.known d.current gone)) ≡ false
        → IsSwept (with_changes v (resized_members b.known d.current kept zs ++ (ms ++ dropped_members b.known d.current gone)))
    unfolding with_changes
    sized_swept none =
        subst (λ (cs : List Change). IsSwept (with_changes v cs)) (sym all_are)
        (go gs (sym (ap (list_any takes) all_are) ∙ none))
      where
        behind : IsSwept (with_changes u ms)
        behind = members_swept first count flags d.current holds others u w.next_name is sizes_new (resizes_next v rs) growth.apart left on (resizes_swept v rs v_swept)

        go : (hs : List (ℕ × ℕ)) → list_any takes (resizes_of rs ++ (ms ++ drops_of d.current hs)) ≡ false → IsSwept (with_changes v (resizes_of rs ++ (ms ++ drops_of d.current hs)))
        go [] f = subst IsSwept (sym (with_more v (resizes_of rs) (ms ++ []))) (subst IsSwept (sym (with_more u ms [])) behind)
        go (h ∷ hs) f = absurd (false≢true (sym f ∙ any_right takes (resizes_of rs) (ms ++ drops_of d.current (h ∷ hs)) (any_right takes ms (drops_of d.current (h ∷ hs)) refl)))

  pub run_moves_fit : RunMoves b e.cpu e.changes → AreFitChanges v e.changes
  run_moves_fit (NoRun is) = subst (AreFitChanges v) (sym is) tt
  run_moves_fit (RunMade region first count flags i z xs zs which positive growth is) = subst (AreFitChanges v) (sym is) (made_fit region first count flags i z xs zs growth)
  run_moves_fit (RunSized first count flags holds others kept sizes xs zs gone growth cut is) =
      subst (AreFitChanges v) (sym is) (sized_fit first count flags holds others kept sizes xs zs gone growth cut)

  abbrev SweptBy : List Change → Type 0
  SweptBy cs = list_any takes cs ≡ false → IsSwept (with_changes v cs)

  pub run_moves_swept : RunMoves b e.cpu e.changes → list_any takes e.changes ≡ false → IsSwept (with_changes v e.changes)
  unfolding with_changes
  run_moves_swept (NoRun is) = subst SweptBy (sym is) (λ _. v_swept)
  run_moves_swept (RunMade region first count flags i z xs zs which positive growth is) = subst SweptBy (sym is) (λ _. made_swept region first count flags i z xs zs which positive growth)
  run_moves_swept (RunSized first count flags holds others kept sizes xs zs gone growth cut is) =
      subst SweptBy (sym is) (λ none. sized_swept first count flags holds others kept sizes xs zs gone growth none)
