-- What changes leave as it is: the dispatch, processes that get and lose nothing, and what is reserved for the whole run.
use Rattle.std.proofs.Common.{◌≡◌, ◌≢◌, ℕ, zero, suc, ◌+◌, ◌-◌, ◌<◌, ◌==◌, ◌||◌, Bool, true, false, List, [], ◌∷◌, ◌++◌, map, if◌then◌else◌, ap, sym, ◌∙◌, refl, arith, subst}
use Rattle.std.specs.Prelude.{slice_get}
use Rattle.std.specs.List.{list_any}
use Rattle.o2_isa.specs.declared.cpu.Cpu.{Cpu}
use Rattle.o2_world.specs.World.{World, Process, Reserve}
use Rattle.o2_world.specs.Changes.{Change, Makes, Resizes, Locks, Marks, Holds, Drops, Finishes, Reserves, Frees, Names, at_number, at_place, swept, takes, with_all, with_change, with_changes}
use Rattle.o2_world.specs.CallParts.{Before, Effect}
use Rattle.o2_world.specs.Run.{all_changes}
use Rattle.o2_world.specs.World.{is_live}
use Rattle.o2_world.specs.Moves.{AreOwn, Moves, NoneMoves, OneAliased, OneLocked, OneMade, OneRemade, OneSized, SomeFreed}

-- The dispatch, whatever changes.

one_dispatch : (w : World) (c : Change) → (with_change w c).dispatch ≡ w.dispatch
one_dispatch w (Makes s) = refl
one_dispatch w (Resizes n size) = refl
one_dispatch w (Locks n count) = refl
one_dispatch w (Marks n d) = refl
one_dispatch w (Holds p i h) = refl
one_dispatch w (Drops p i n) = refl
one_dispatch w (Finishes p state) = refl
one_dispatch w (Reserves r) = refl
one_dispatch w (Frees r first) = refl
one_dispatch w (Names text n) = refl

changes_dispatch : (w : World) (cs : List Change) → (with_changes w cs).dispatch ≡ w.dispatch
unfolding with_changes
changes_dispatch w [] = refl
changes_dispatch w (c ∷ cs) = changes_dispatch (with_change w c) cs ∙ one_dispatch w c

swept_dispatch : (b : Bool) (w : World) → (if b then swept w else w).dispatch ≡ w.dispatch
swept_dispatch true w = refl
swept_dispatch false w = refl

pub all_dispatch : (w : World) (cs : List Change) → (with_all w cs).dispatch ≡ w.dispatch
all_dispatch w cs = swept_dispatch (list_any takes cs) (with_changes w cs) ∙ changes_dispatch w cs

-- Processes that get and lose nothing.

place_other : (ps : List Process) (k place : ℕ) (f : Process → Process) → place ≢ k → slice_get (at_place k f ps) place ≡ slice_get ps place
place_other [] k place f other = refl
place_other (p ∷ ps) zero zero f other = absurd (other refl)
place_other (p ∷ ps) zero (suc place) f other = refl
place_other (p ∷ ps) (suc k) zero f other = refl
place_other (p ∷ ps) (suc k) (suc place) f other = place_other ps k place f (λ e. other (ap suc e))

number_other : (ps : List Process) (n place : ℕ) (f : Process → Process) → place + 1 ≢ n
    → slice_get (at_number n f ps) place ≡ slice_get ps place
number_other ps n place f other = go (n == 0) refl
  where
    past : (n == 0) ≡ false → place ≢ n - 1
    past is same = other (let some : 0 < n = grind arith in omega (arith, some, same))

    go : (b : Bool) → (n == 0) ≡ b → slice_get (if b then ps else at_place (n - 1) f ps) place ≡ slice_get ps place
    go true is = refl
    go false is = place_other ps (n - 1) place f (past is)

pub moved_other : (ps : List Process) (p n place : ℕ) (f : Process → Process) → p ≡ n → place + 1 ≢ n
    → slice_get (at_number p f ps) place ≡ slice_get ps place
moved_other ps p n place f own other = number_other ps p place f (λ e. other (e ∙ own))

-- a change that leaves the process at this place as it is
abbrev pub LeavesPlace : ℕ → Change → Type 0
LeavesPlace place (Makes s) = Unit {0}
LeavesPlace place (Resizes m size) = Unit {0}
LeavesPlace place (Locks m count) = Unit {0}
LeavesPlace place (Marks m d) = Unit {0}
LeavesPlace place (Holds p i h) = place + 1 ≢ p
LeavesPlace place (Drops p i count) = place + 1 ≢ p
LeavesPlace place (Finishes p state) = place + 1 ≢ p
LeavesPlace place (Reserves r) = Unit {0}
LeavesPlace place (Frees r first) = Unit {0}
LeavesPlace place (Names text m) = Unit {0}

abbrev pub LeavePlace : ℕ → List Change → Type 0
LeavePlace place [] = Unit {0}
LeavePlace place (c ∷ cs) = LeavesPlace place c × LeavePlace place cs

one_other : (w : World) (c : Change) (place : ℕ) → LeavesPlace place c → slice_get (with_change w c).processes place ≡ slice_get w.processes place
one_other w (Makes s) place leaves = refl
one_other w (Resizes m size) place leaves = refl
one_other w (Locks m count) place leaves = refl
one_other w (Marks m d) place leaves = refl
one_other w (Holds p i h) place leaves = number_other w.processes p place _ leaves
one_other w (Drops p i count) place leaves = number_other w.processes p place _ leaves
one_other w (Finishes p state) place leaves = number_other w.processes p place _ leaves
one_other w (Reserves r) place leaves = refl
one_other w (Frees r first) place leaves = refl
one_other w (Names text m) place leaves = refl

changes_other : (w : World) (cs : List Change) (place : ℕ) → LeavePlace place cs → slice_get (with_changes w cs).processes place ≡ slice_get w.processes place
unfolding with_changes
changes_other w [] place leave = refl
changes_other w (c ∷ cs) place leave = changes_other (with_change w c) cs place leave.1 ∙ one_other w c place leave.0

swept_other : (b : Bool) (w : World) (place : ℕ) → slice_get (if b then swept w else w).processes place ≡ slice_get w.processes place
swept_other true w place = refl
swept_other false w place = refl

pub all_other : (w : World) (cs : List Change) (place : ℕ) → LeavePlace place cs → slice_get (with_all w cs).processes place ≡ slice_get w.processes place
all_other w cs place leave = swept_other (list_any takes cs) (with_changes w cs) place ∙ changes_other w cs place leave

leave_more : (place : ℕ) (xs : List Change) (c : Change) → LeavePlace place xs → LeavesPlace place c → LeavePlace place (xs ++ c ∷ [])
leave_more place [] c leave one = (one, tt)
leave_more place (x ∷ xs) c leave one = (leave.0, leave_more place xs c leave.1 one)

-- with the end of the process behind them
pub all_leave : (place n : ℕ) (e : Effect) → LeavePlace place e.changes → place + 1 ≢ n → LeavePlace place (all_changes n e)
all_leave place n e leave other = go (is_live e.state)
  where
    go : (b : Bool) → LeavePlace place (if b then e.changes else e.changes ++ Finishes n e.state ∷ [])
    go true = leave
    go false = leave_more place e.changes (Finishes n e.state) leave other

-- Reserved indexes.

-- a change that frees no reserved index
abbrev pub LeavesReserves : Change → Type 0
LeavesReserves (Makes s) = Unit {0}
LeavesReserves (Resizes m size) = Unit {0}
LeavesReserves (Locks m count) = Unit {0}
LeavesReserves (Marks m d) = Unit {0}
LeavesReserves (Holds p i h) = Unit {0}
LeavesReserves (Drops p i count) = Unit {0}
LeavesReserves (Finishes p state) = Unit {0}
LeavesReserves (Reserves r) = Unit {0}
LeavesReserves (Frees r first) = ⊥
LeavesReserves (Names text m) = Unit {0}

abbrev pub LeaveReserves : List Change → Type 0
LeaveReserves [] = Unit {0}
LeaveReserves (c ∷ cs) = LeavesReserves c × LeaveReserves cs

-- one more in front
any_more : (b c : Bool) → c ≡ true → (b || c) ≡ true
any_more true c e = refl
any_more false c e = e

one_reserved : (P : Reserve → Bool) (w : World) (c : Change) → LeavesReserves c → list_any P w.reserved ≡ true → list_any P (with_change w c).reserved ≡ true
one_reserved P w (Makes s) leaves e = e
one_reserved P w (Resizes m size) leaves e = e
one_reserved P w (Locks m count) leaves e = e
one_reserved P w (Marks m d) leaves e = e
one_reserved P w (Holds p i h) leaves e = e
one_reserved P w (Drops p i count) leaves e = e
one_reserved P w (Finishes p state) leaves e = e
one_reserved P w (Reserves r) leaves e = any_more (P r) (list_any P w.reserved) e
one_reserved P w (Frees r first) leaves e = absurd leaves
one_reserved P w (Names text m) leaves e = e

pub changes_reserved : (P : Reserve → Bool) (w : World) (cs : List Change) → LeaveReserves cs → list_any P w.reserved ≡ true → list_any P (with_changes w cs).reserved ≡ true
unfolding with_changes
changes_reserved P w [] leave e = e
changes_reserved P w (c ∷ cs) leave e = changes_reserved P (with_change w c) cs leave.1 (one_reserved P w c leave.0 e)

reserves_more : (xs : List Change) (c : Change) → LeaveReserves xs → LeavesReserves c → LeaveReserves (xs ++ c ∷ [])
reserves_more [] c leave one = (one, tt)
reserves_more (x ∷ xs) c leave one = (leave.0, reserves_more xs c leave.1 one)

-- with the end of the process behind them
pub all_reserves : (n : ℕ) (e : Effect) → LeaveReserves e.changes → LeaveReserves (all_changes n e)
all_reserves n e leave = go (is_live e.state)
  where
    go : (b : Bool) → LeaveReserves (if b then e.changes else e.changes ++ Finishes n e.state ∷ [])
    go true = leave
    go false = reserves_more e.changes (Finishes n e.state) leave tt

-- The changes of a call are those of its process.

drops_own : (n : ℕ) (is : List ℕ) → AreOwn n (map (λ (i : ℕ). Drops n i 1) is)
drops_own n [] = tt
drops_own n (i ∷ is) = (refl, drops_own n is)

pub moves_own : (b : Before) (cpu : Cpu) (cs : List Change) → Moves b cpu cs → AreOwn b.number cs
moves_own b cpu cs (NoneMoves is) = subst (AreOwn b.number) (sym is) tt
moves_own b cpu cs (OneMade size flags i free is) = subst (AreOwn b.number) (sym is) (tt, (refl, tt))
moves_own b cpu cs (OneSized name size alone is) = subst (AreOwn b.number) (sym is) (tt, tt)
moves_own b cpu cs (OneRemade name size alone is) = subst (AreOwn b.number) (sym is) (tt, (tt, (tt, tt)))
moves_own b cpu cs (OneLocked name count lockable is) = subst (AreOwn b.number) (sym is) (tt, tt)
moves_own b cpu cs (OneAliased index i h there alone free is) = subst (AreOwn b.number) (sym is) (refl, tt)
moves_own b cpu cs (SomeFreed xs frees is) = subst (AreOwn b.number) (sym is) (drops_own b.number xs)
