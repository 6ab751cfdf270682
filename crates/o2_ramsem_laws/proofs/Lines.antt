-- Lines that tell of no call on a semaphore.
use Rattle.std.proofs.Common.{◌≡◌, refl, sym, ap, ◌∙◌, ℕ, zero, suc, ◌&&◌, not, nat_le, Bool, true, false, List, [], ◌∷◌, ◌++◌, replicate, if◌then◌else◌}
use Rattle.std.specs.Prelude.{codes, flat_map}
use Rattle.std.proofs.lemmas.List.{append-nil, append_assoc}
use Rattle.o2_base.specs.Selectors.{selector_of}
use Rattle.o2_world.specs.declared.types.Argument.{Argument}
use Rattle.o2_world.specs.declared.types.Argument.TheVariants.{Word, Long, Far}
use Rattle.o2_world.specs.Known.{same_text}
use Rattle.o2_world.specs.SemRulings.{SemRuling}
use Rattle.o2_world.specs.World.{Line, HoldsBy, DropsBy, Traps}
use Rattle.o2_world.specs.Changes.{Change, Makes, Resizes, Locks, Marks, Holds, Drops, Finishes, Reserves, Frees, Names, among, drop_lines_of, hold_lines_of, in_order, key_of, moved_lines}
use Rattle.o2_ramsem.specs.Calls.{SemCall}
use Rattle.o2_ramsem_laws.specs.Told.{Place, call_at, call_told, is_at, timeout_told, told, told_by}

pub told_append : (place : Place) (xs ys : List Line) → told place (xs ++ ys) ≡ told place xs ++ told place ys
told_append place [] ys = refl
told_append place (x ∷ xs) ys =
    ap (λ (ls : List (SemCall × SemRuling)). told_by place x ++ ls) (told_append place xs ys)
    ∙ sym (append_assoc (told_by place x) (told place xs) (told place ys))

-- the line of an exception behind lines tells nothing more
pub told_trapped : (place : Place) (ls : List Line) (p vector s o : ℕ) → told place (ls ++ Traps p vector s o ∷ []) ≡ told place ls
told_trapped place ls p vector s o = told_append place ls (Traps p vector s o ∷ []) ∙ append-nil (told place ls)

-- one line alone
pub told_one : (place : Place) (l : Line) → told place (l ∷ []) ≡ told_by place l
told_one place l = append-nil (told_by place l)

-- none of these lines tells a call on it
abbrev pub AreUntold : Place → List Line → Type 0
AreUntold place [] = Unit {0}
AreUntold place (l ∷ ls) = (told_by place l ≡ []) × AreUntold place ls

pub untold : (place : Place) (ls : List Line) → AreUntold place ls → told place ls ≡ []
untold place [] all = refl
untold place (l ∷ ls) all = ap (λ (xs : List (SemCall × SemRuling)). xs ++ told place ls) all.0 ∙ untold place ls all.1

pub untold_append : (place : Place) (xs ys : List Line) → AreUntold place xs → AreUntold place ys → AreUntold place (xs ++ ys)
untold_append place [] ys a b = b
untold_append place (x ∷ xs) ys a b = (a.0, untold_append place xs ys a.1 b)

untold_times : (place : Place) (n : ℕ) (l : Line) → told_by place l ≡ [] → AreUntold place (replicate n l)
untold_times place zero l none = tt
untold_times place (suc n) l none = (none, untold_times place n l none)

untold_either : (place : Place) (b : Bool) (xs ys : List Line) → AreUntold place xs → AreUntold place ys → AreUntold place (if b then xs else ys)
untold_either place true xs ys a b = a
untold_either place false xs ys a b = b

among_untold : (place : Place) (l : Line) (ls : List Line) → told_by place l ≡ [] → AreUntold place ls → AreUntold place (among l ls)
among_untold place l [] none all = (none, tt)
among_untold place l (x ∷ xs) none all =
    untold_either place (nat_le (key_of l) (key_of x)) (l ∷ x ∷ xs) (x ∷ among l xs) (none, all) (all.0, among_untold place l xs none all.1)

in_order_untold : (place : Place) (ls : List Line) → AreUntold place ls → AreUntold place (in_order ls)
in_order_untold place [] all = tt
in_order_untold place (l ∷ ls) all = among_untold place l (in_order ls) all.0 (in_order_untold place ls all.1)

holds_untold : (place : Place) (cause : List ℕ) (c : Change) → AreUntold place (hold_lines_of cause c)
holds_untold place cause (Makes g) = tt
holds_untold place cause (Resizes m size) = tt
holds_untold place cause (Locks m count) = tt
holds_untold place cause (Marks m d) = tt
holds_untold place cause (Holds p i h) = untold_times place h.holds (HoldsBy p (selector_of i) cause) refl
holds_untold place cause (Drops p i count) = tt
holds_untold place cause (Finishes p state) = tt
holds_untold place cause (Reserves r) = tt
holds_untold place cause (Frees r first) = tt
holds_untold place cause (Names text m) = tt

drops_untold : (place : Place) (cause : List ℕ) (c : Change) → AreUntold place (drop_lines_of cause c)
drops_untold place cause (Makes g) = tt
drops_untold place cause (Resizes m size) = tt
drops_untold place cause (Locks m count) = tt
drops_untold place cause (Marks m d) = tt
drops_untold place cause (Holds p i h) = tt
drops_untold place cause (Drops p i count) = untold_times place count (DropsBy p (selector_of i) cause) refl
drops_untold place cause (Finishes p state) = tt
drops_untold place cause (Reserves r) = tt
drops_untold place cause (Frees r first) = tt
drops_untold place cause (Names text m) = tt

all_holds_untold : (place : Place) (cause : List ℕ) (cs : List Change) → AreUntold place (flat_map (hold_lines_of cause) cs)
all_holds_untold place cause [] = tt
all_holds_untold place cause (c ∷ cs) =
    untold_append place (hold_lines_of cause c) (flat_map (hold_lines_of cause) cs) (holds_untold place cause c) (all_holds_untold place cause cs)

all_drops_untold : (place : Place) (cause : List ℕ) (cs : List Change) → AreUntold place (flat_map (drop_lines_of cause) cs)
all_drops_untold place cause [] = tt
all_drops_untold place cause (c ∷ cs) =
    untold_append place (drop_lines_of cause c) (flat_map (drop_lines_of cause) cs) (drops_untold place cause c) (all_drops_untold place cause cs)

-- the lines of holds that came and went
pub moved_untold : (place : Place) (cause : List ℕ) (cs : List Change) → AreUntold place (moved_lines cause cs)
unfolding moved_lines
moved_untold place cause cs =
    untold_append place (in_order (flat_map (hold_lines_of cause) cs)) (in_order (flat_map (drop_lines_of cause) cs))
    (in_order_untold place (flat_map (hold_lines_of cause) cs) (all_holds_untold place cause cs))
    (in_order_untold place (flat_map (drop_lines_of cause) cs) (all_drops_untold place cause cs))

pub none_moved : (cause : List ℕ) → moved_lines cause [] ≡ []
unfolding moved_lines
none_moved cause = refl

-- The line of another call.

-- the name of none of the four calls
abbrev pub is_other : List ℕ → Bool
is_other name =
    not (same_text name (codes "DosSemRequest"))
    && (not (same_text name (codes "DosSemClear")) && (not (same_text name (codes "DosSemWait")) && not (same_text name (codes "DosSemSet"))))

none_said : (a b c d : Bool) (w x y z : List (SemCall × SemRuling)) → (not a && (not b && (not c && not d))) ≡ true
    → (if a then w else if b then x else if c then y else if d then z else []) ≡ []
none_said true b c d w x y z e = absurd (cc)
none_said false true c d w x y z e = absurd (cc)
none_said false false true d w x y z e = absurd (cc)
none_said false false false true w x y z e = absurd (cc)
none_said false false false false w x y z e = refl

other_said : (p : ℕ) (name : List ℕ) (timeout error : ℕ) → is_other name ≡ true → call_told p name timeout error ≡ []
other_said p name timeout error is =
    none_said (same_text name (codes "DosSemRequest")) (same_text name (codes "DosSemClear")) (same_text name (codes "DosSemWait")) (same_text name (codes "DosSemSet")) _ _ _ _ is

either_none : (b : Bool) (xs : List (SemCall × SemRuling)) → xs ≡ [] → (if b then xs else []) ≡ []
either_none true xs e = e
either_none false xs e = refl

pub other_call : (place : Place) (p : ℕ) (name : List ℕ) (args : List Argument) (error : ℕ) → is_other name ≡ true → call_at place p name args error ≡ []
other_call place p name [] error is = refl
other_call place p name (Word n ∷ args) error is = refl
other_call place p name (Long high low ∷ args) error is = refl
other_call place p name (Far s o ∷ args) error is =
    either_none (is_at place s o) (call_told p name (timeout_told args) error) (other_said p name (timeout_told args) error is)

-- The line of a call with a pointer to the place, and of one with another pointer.

pub told_here : (place : Place) (p : ℕ) (name : List ℕ) (s o : ℕ) (args : List Argument) (error : ℕ) → is_at place s o ≡ true
    → call_at place p name (Far s o ∷ args) error ≡ call_told p name (timeout_told args) error
told_here place p name s o args error is = ap (λ (t : Bool). if t then call_told p name (timeout_told args) error else []) is

pub told_elsewhere : (place : Place) (p : ℕ) (name : List ℕ) (s o : ℕ) (args : List Argument) (error : ℕ) → is_at place s o ≡ false
    → call_at place p name (Far s o ∷ args) error ≡ []
told_elsewhere place p name s o args error is = ap (λ (t : Bool). if t then call_told p name (timeout_told args) error else []) is
