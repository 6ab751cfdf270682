-- What a step leaves of a world beside names, holds and reserved indexes: its texts, its input, its dispatch, and who lives.
use Rattle.std.proofs.Common.{◌≡◌, ℕ, zero, suc, ◌+◌, ◌-◌, ◌<◌, ◌≤◌, ◌==◌, Bool, true, false, List, [], ◌∷◌, ◌++◌, map, Option, Some, None, ap, sym, ◌∙◌, refl, subst, arith, slice_set, slice_index_or, if◌then◌else◌}
use Rattle.std.specs.List.{list_any}
use Rattle.o2_conf.specs.Dispatch.{Dispatch, lives}
use Rattle.o2_isa.specs.declared.cpu.Cpu.{Cpu}
use Rattle.o2_world.specs.declared.types.State.{State}
use Rattle.o2_world.specs.Calls.{Before, Effect}
use Rattle.o2_world.specs.Changes.{Change, Drops, Finishes, Frees, Holds, Locks, Makes, Marks, Names, Reserves, Resizes, at_number, at_place, swept, takes, with_all, with_change, with_changes}
use Rattle.o2_world.specs.HugeRulings.{all_dropped, all_hold, dropped_members, new_members, resized_members, resized_one, run_reserve}
use Rattle.o2_world.specs.Known.{Known, Marks as SegmentMarks}
use Rattle.o2_regions.specs.Maps.{Maps}
use Rattle.o2_segs.specs.Sharing.{AreHeldAtMost}
use Rattle.o2_shared.specs.Shares.{AreFew}
use Rattle.o2_world.specs.Moves.{AllMoves, Moves, NoRun, NoneMoves, OneAliased, OneLocked, OneMade, OneNamed, OneRemade, OneRun, OneSized, OwnMoves, RunMade, RunMoves, RunSized, SomeFreed, SomeShared}
use Rattle.o2_world.specs.Rulings.{full_size}
use Rattle.o2_world.specs.Run.{all_changes, changed, live_flags, worked, working}
use Rattle.o2_world.specs.SharedRulings.{each_more, marks_under, one_more}
use Rattle.o2_world.specs.World.{Held, Line, Process, World, is_live}
use Rattle.o2_world.proofs.Flags.{lives_some}
use Rattle.o2_world.proofs.Numbers.{with_is}

-- Texts, input and dispatch.

record Rest : Type 0 where
  console : List ℕ
  input : List ℕ
  lines : List Line
  dispatch : Dispatch

abbrev rest : World → Rest
rest w = record { console = w.console; input = w.input; lines = w.lines; dispatch = w.dispatch }

rest_change : (w : World) (c : Change) → rest (with_change w c) ≡ rest w
rest_change w (Makes s) = refl
rest_change w (Resizes n size) = refl
rest_change w (Locks n count) = refl
rest_change w (Marks n discarded) = refl
rest_change w (Holds p i h) = refl
rest_change w (Drops p i count) = refl
rest_change w (Finishes p state) = refl
rest_change w (Reserves r) = refl
rest_change w (Frees region first) = refl
rest_change w (Names text name) = refl

rest_changes : (w : World) (cs : List Change) → rest (with_changes w cs) ≡ rest w
unfolding with_changes
rest_changes w [] = refl
rest_changes w (c ∷ cs) = rest_changes (with_change w c) cs ∙ rest_change w c

rest_all : (w : World) (cs : List Change) → rest (with_all w cs) ≡ rest w
rest_all w cs = go (list_any takes cs)
  where
    go : (b : Bool) → rest (if b then swept (with_changes w cs) else with_changes w cs) ≡ rest w
    go true = rest_changes w cs
    go false = rest_changes w cs

module _ (w : World) (d : Dispatch) (p : Process) (e : Effect) where
  same_rest : rest (changed w d p e) ≡ rest (worked w d p e)
  unfolding changed
  same_rest = rest_all (worked w d p e) (all_changes d.current e)

  pub console_behind : (changed w d p e).console ≡ w.console ++ e.piece
  console_behind = ap (λ (r : Rest). r.console) same_rest

  pub input_behind : (changed w d p e).input ≡ e.input
  input_behind = ap (λ (r : Rest). r.input) same_rest

  pub lines_behind : (changed w d p e).lines ≡ w.lines ++ e.lines
  lines_behind = ap (λ (r : Rest). r.lines) same_rest

  pub dispatch_behind : (changed w d p e).dispatch ≡ (worked w d p e).dispatch
  dispatch_behind = ap (λ (r : Rest). r.dispatch) same_rest

-- Who lives.

same_place : (i : ℕ) (f : Process → Process) → ((x : Process) → is_live (f x).state ≡ is_live x.state) → (ps : List Process) → live_flags (at_place i f ps) ≡ live_flags ps
same_place i f same [] = refl
same_place zero f same (x ∷ ps) = ap (λ (b : Bool). b ∷ live_flags ps) (same x)
same_place (suc i) f same (x ∷ ps) = ap (λ (bs : List Bool). is_live x.state ∷ bs) (same_place i f same ps)

same_number : (n : ℕ) (f : Process → Process) → ((x : Process) → is_live (f x).state ≡ is_live x.state) → (ps : List Process) → live_flags (at_number n f ps) ≡ live_flags ps
same_number n f same ps = go (n == 0)
  where
    go : (b : Bool) → live_flags (if b then ps else at_place (n - 1) f ps) ≡ live_flags ps
    go true = refl
    go false = same_place (n - 1) f same ps

set_place : (i : ℕ) (f : Process → Process) (t : Bool) → ((x : Process) → is_live (f x).state ≡ t) → (ps : List Process) → live_flags (at_place i f ps) ≡ slice_set (live_flags ps) i t
set_place i f t is [] = refl
set_place zero f t is (x ∷ ps) = ap (λ (b : Bool). b ∷ live_flags ps) (is x)
set_place (suc i) f t is (x ∷ ps) = ap (λ (bs : List Bool). is_live x.state ∷ bs) (set_place i f t is ps)

set_number : (n : ℕ) (f : Process → Process) (t : Bool) → 0 < n → ((x : Process) → is_live (f x).state ≡ t) → (ps : List Process) → live_flags (at_number n f ps) ≡ slice_set (live_flags ps) (n - 1) t
set_number n f t some is ps = go (n == 0) refl
  where
    go : (b : Bool) → (n == 0) ≡ b → live_flags (if b then ps else at_place (n - 1) f ps) ≡ slice_set (live_flags ps) (n - 1) t
    go true e = absurd (let z : n ≡ 0 = grind arith in omega (arith, z, some))
    go false e = set_place (n - 1) f t is ps

-- a change that ends nobody
abbrev IsNoEnd : Change → Type 0
IsNoEnd (Makes s) = Unit {0}
IsNoEnd (Resizes n size) = Unit {0}
IsNoEnd (Locks n count) = Unit {0}
IsNoEnd (Marks n discarded) = Unit {0}
IsNoEnd (Holds p i h) = Unit {0}
IsNoEnd (Drops p i count) = Unit {0}
IsNoEnd (Finishes p state) = ⊥
IsNoEnd (Reserves r) = Unit {0}
IsNoEnd (Frees region first) = Unit {0}
IsNoEnd (Names text name) = Unit {0}

abbrev AreNoEnds : List Change → Type 0
AreNoEnds [] = Unit {0}
AreNoEnds (c ∷ cs) = IsNoEnd c × AreNoEnds cs

drops_end_none : (n : ℕ) (is : List ℕ) → AreNoEnds (map (λ (i : ℕ). Drops n i 1) is)
drops_end_none n [] = tt
drops_end_none n (i ∷ is) = (tt, drops_end_none n is)

moves_end_none : (b : Before) (cpu : Cpu) (cs : List Change) → Moves b cpu cs → AreNoEnds cs
moves_end_none b cpu cs (NoneMoves is) = subst AreNoEnds (sym is) tt
moves_end_none b cpu cs (OneMade size flags i free is) = subst AreNoEnds (sym is) (tt, (tt, tt))
moves_end_none b cpu cs (OneSized name size alone is) = subst AreNoEnds (sym is) (tt, tt)
moves_end_none b cpu cs (OneRemade name size alone is) = subst AreNoEnds (sym is) (tt, (tt, (tt, tt)))
moves_end_none b cpu cs (OneLocked name count lockable is) = subst AreNoEnds (sym is) (tt, tt)
moves_end_none b cpu cs (OneAliased index i h there alone free is) = subst AreNoEnds (sym is) (tt, tt)
moves_end_none b cpu cs (SomeFreed xs frees is) = subst AreNoEnds (sym is) (drops_end_none b.number xs)

one_end_none : (to i : ℕ) (o : Option Held) (cs : List Change) → AreNoEnds cs → AreNoEnds (one_more to i o ++ cs)
one_end_none to i None cs none = none
one_end_none to i (Some h) cs none = (tt, none)

shares_end_none : (k : Known) (from to : ℕ) (is : List ℕ) → AreNoEnds (each_more k from to is)
shares_end_none k from to [] = tt
shares_end_none k from to (i ∷ is) = one_end_none to i (k.held from i) (each_more k from to is) (shares_end_none k from to is)

append_end_none : (xs ys : List Change) → AreNoEnds xs → AreNoEnds ys → AreNoEnds (xs ++ ys)
append_end_none [] ys front back = back
append_end_none (x ∷ xs) ys front back = (front.0, append_end_none xs ys front.1 back)

holds_end_none : (name first count i : ℕ) (ps : List (ℕ × ℕ)) → AreNoEnds (all_hold name first count i ps)
holds_end_none name first count i [] = tt
holds_end_none name first count i (p ∷ ps) = (tt, holds_end_none name first count i ps)

members_end_none : (name first count flags : ℕ) (ps : List (ℕ × ℕ)) (is zs : List ℕ) → AreNoEnds (new_members name first count flags ps is zs)
members_end_none name first count flags ps [] zs = tt
members_end_none name first count flags ps (i ∷ is) [] = tt
members_end_none name first count flags ps (i ∷ is) (z ∷ zs) =
    (tt, append_end_none (all_hold name first count i ps) (new_members (name + 1) first count flags ps is zs) (holds_end_none name first count i ps) (members_end_none (name + 1) first count flags ps is zs))

resize_end_none : (size : ℕ) (o : Option Held) (x : Option SegmentMarks) → AreNoEnds (resized_one size o x)
resize_end_none size None None = tt
resize_end_none size None (Some x) = tt
resize_end_none size (Some h) None = tt
resize_end_none size (Some h) (Some x) = go (x.size == full_size size)
  where
    go : (t : Bool) → AreNoEnds (if t then [] else Resizes h.name (full_size size) ∷ [])
    go true = tt
    go false = (tt, tt)

resizes_end_none : (k : Known) (n : ℕ) (is zs : List ℕ) → AreNoEnds (resized_members k n is zs)
resizes_end_none k n [] zs = tt
resizes_end_none k n (i ∷ is) [] = tt
resizes_end_none k n (i ∷ is) (z ∷ zs) = append_end_none _ _ (resize_end_none z (k.held n i) (marks_under k (k.held n i))) (resizes_end_none k n is zs)

all_drop_end_none : (n i : ℕ) (o : Option Held) → AreNoEnds (all_dropped n i o)
all_drop_end_none n i None = tt
all_drop_end_none n i (Some h) = (tt, tt)

members_drop_end_none : (k : Known) (n : ℕ) (is : List ℕ) → AreNoEnds (dropped_members k n is)
members_drop_end_none k n [] = tt
members_drop_end_none k n (i ∷ is) = append_end_none _ _ (all_drop_end_none n i (k.held n i)) (members_drop_end_none k n is)

run_end_none : (b : Before) (cpu : Cpu) (cs : List Change) → RunMoves b cpu cs → AreNoEnds cs
run_end_none b cpu cs (NoRun is) = subst AreNoEnds (sym is) tt
run_end_none b cpu cs (RunMade region first count flags i z is zs own some growth same) =
    subst AreNoEnds (sym same)
    (append_end_none (new_members b.known.next first count flags ((b.number, 1) ∷ []) (i ∷ is) (z ∷ zs)) (Reserves (run_reserve region first count) ∷ [])
    (members_end_none b.known.next first count flags ((b.number, 1) ∷ []) (i ∷ is) (z ∷ zs)) (tt, tt))
run_end_none b cpu cs (RunSized first count flags holds others kept sizes is zs gone growth cut same) =
    subst AreNoEnds (sym same)
    (append_end_none _ _ (resizes_end_none b.known b.number kept sizes)
    (append_end_none _ _ (members_end_none b.known.next first count flags ((b.number, holds) ∷ others) is zs) (members_drop_end_none b.known b.number gone)))

all_end_none : (b : Before) (cpu : Cpu) (cs : List Change) → AllMoves b cpu cs → AreNoEnds cs
all_end_none b cpu cs (OwnMoves moves) = moves_end_none b cpu cs moves
all_end_none b cpu cs (OneNamed size i name free is) = subst AreNoEnds (sym is) (tt, (tt, (tt, tt)))
all_end_none b cpu cs (SomeShared from to xs shares is) = subst AreNoEnds (sym is) (shares_end_none b.known from to xs)
all_end_none b cpu cs (OneRun moves ruled) = run_end_none b cpu cs moves

one_lives : (w : World) (c : Change) → IsNoEnd c → live_flags (with_change w c).processes ≡ live_flags w.processes
one_lives w (Makes s) none = refl
one_lives w (Resizes n size) none = refl
one_lives w (Locks n count) none = refl
one_lives w (Marks n discarded) none = refl
one_lives w (Holds p i h) none = same_number p _ (λ x. refl) w.processes
one_lives w (Drops p i count) none = same_number p _ (λ x. refl) w.processes
one_lives w (Finishes p state) none = absurd none
one_lives w (Reserves r) none = refl
one_lives w (Frees region first) none = refl
one_lives w (Names text name) none = refl

each_lives : (w : World) (cs : List Change) → AreNoEnds cs → live_flags (with_changes w cs).processes ≡ live_flags w.processes
unfolding with_changes
each_lives w [] none = refl
each_lives w (c ∷ cs) none = each_lives (with_change w c) cs none.1 ∙ one_lives w c none.0

then_ends : (w : World) (cs : List Change) (n : ℕ) (state : State) → 0 < n → is_live state ≡ false → AreNoEnds cs
    → live_flags (with_changes w (cs ++ Finishes n state ∷ [])).processes ≡ slice_set (live_flags w.processes) (n - 1) false
unfolding with_changes
then_ends w [] n state some dead none = set_number n (λ (x : Process). record x { state = state; held = [] }) false some (λ x. dead) w.processes
then_ends w (c ∷ cs) n state some dead none = then_ends (with_change w c) cs n state some dead none.1 ∙ ap (λ (fs : List Bool). slice_set fs (n - 1) false) (one_lives w c none.0)

swept_lives : (w : World) (cs : List Change) → live_flags (with_all w cs).processes ≡ live_flags (with_changes w cs).processes
swept_lives w cs = go (list_any takes cs)
  where
    go : (b : Bool) → live_flags (if b then swept (with_changes w cs) else with_changes w cs).processes ≡ live_flags (with_changes w cs).processes
    go true = refl
    go false = refl

flags_set : (ps : List Process) (i : ℕ) (p : Process) → live_flags (slice_set ps i p) ≡ slice_set (live_flags ps) i (is_live p.state)
flags_set [] i p = refl
flags_set (q ∷ ps) zero p = refl
flags_set (q ∷ ps) (suc i) p = ap (λ (bs : List Bool). is_live q.state ∷ bs) (flags_set ps i p)

set_same : (flags : List Bool) (i : ℕ) → slice_index_or flags i false ≡ true → slice_set flags i true ≡ flags
set_same [] i e = refl
set_same (b ∷ bs) zero e = ap (λ (z : Bool). z ∷ bs) (sym e)
set_same (b ∷ bs) (suc i) e = ap (λ (z : List Bool). b ∷ z) (set_same bs i e)

-- who had lived, behind a step of a process that is live while the step lasts
module _ (w : World) (d : Dispatch) (p : Process) (e : Effect) (flags : List Bool) (same : live_flags w.processes ≡ flags) (there : lives flags d.current ≡ true) (live : is_live (working p e).state ≡ true) where
  some : 0 < d.current
  some = lives_some flags d.current there

  worked_lives : live_flags (worked w d p e).processes ≡ flags
  worked_lives =
      let here : slice_index_or flags (d.current - 1) false ≡ true = grind arith in
      ap live_flags (with_is w.processes d.current (working p e) some)
      ∙ (flags_set w.processes (d.current - 1) (working p e)
      ∙ (ap (λ (fs : List Bool). slice_set fs (d.current - 1) (is_live (working p e).state)) same
      ∙ (ap (slice_set flags (d.current - 1)) live ∙ set_same flags (d.current - 1) here)))

  pub flags_behind : (b : Before) → AllMoves b e.cpu e.changes → is_live e.state ≡ true → live_flags (changed w d p e).processes ≡ flags
  unfolding changed
  flags_behind b moves goes =
      swept_lives (worked w d p e) (all_changes d.current e)
      ∙ (ap (λ (cs : List Change). live_flags (with_changes (worked w d p e) cs).processes) (by_state (is_live e.state) goes)
      ∙ (each_lives (worked w d p e) e.changes (all_end_none b e.cpu e.changes moves) ∙ worked_lives))
    where
      by_state : (z : Bool) → z ≡ true → (if z then e.changes else e.changes ++ Finishes d.current e.state ∷ []) ≡ e.changes
      by_state true f = refl
      by_state false f = absurd (cc)

  pub flags_ended_behind : (b : Before) → AllMoves b e.cpu e.changes → is_live e.state ≡ false → live_flags (changed w d p e).processes ≡ slice_set flags (d.current - 1) false
  unfolding changed
  flags_ended_behind b moves dead =
      swept_lives (worked w d p e) (all_changes d.current e)
      ∙ (ap (λ (cs : List Change). live_flags (with_changes (worked w d p e) cs).processes) (by_state (is_live e.state) dead)
      ∙ (then_ends (worked w d p e) e.changes d.current e.state some dead (all_end_none b e.cpu e.changes moves)
      ∙ ap (λ (fs : List Bool). slice_set fs (d.current - 1) false) worked_lives))
    where
      by_state : (z : Bool) → z ≡ false → (if z then e.changes else e.changes ++ Finishes d.current e.state ∷ []) ≡ e.changes ++ Finishes d.current e.state ∷ []
      by_state true f = absurd (cc)
      by_state false f = refl

-- what no hold exceeds leaves room for one hold more of each
pub few_left : (m : Maps) (most : ℕ) → most ≤ 4294967290 → AreHeldAtMost m most → AreFew m
few_left m most few held = record { few = λ p i. (let h = held.each p i in omega (arith, h, few)) }
