-- Reserved indexes as a list: what stays and what is of runs, and which of them have an index.
use Rattle.std.proofs.Common.{◌≡◌, inr, ℕ, Bool, true, false, cond, ◌||◌, List, [], ◌∷◌, refl, sym, ap, ◌∙◌}
use Rattle.std.specs.Prelude.{◌==◌, ◌&&◌, not, filter}
use Rattle.std.specs.List.{list_any}
use Rattle.std.proofs.lemmas.Bool.{false≢true}
use Rattle.o2_world.specs.Changes.{is_used, used}
use Rattle.o2_world.specs.Known.{reserves}
use Rattle.o2_world.specs.Tied.{AreUsed}
use Rattle.o2_world.specs.World.{Process, Reserve}
use Rattle.o2_stands.specs.Stands.{AllDisjoint, AllStay, IsDisjointFrom, is_placed, stays_or_is_held}

pub and_parts : (a b : Bool) → (a && b) ≡ true → (a ≡ true) × (b ≡ true)
and_parts true b e = (refl, e)
and_parts false b e = absurd (false≢true e)

pub both_true : (a b : Bool) → a ≡ true → b ≡ true → (a && b) ≡ true
both_true true b e f = f
both_true false b e f = absurd (false≢true e)

pub or_parts : (a b : Bool) → (a || b) ≡ false → (a ≡ false) × (b ≡ false)
or_parts true b e = absurd (false≢true (sym e))
or_parts false b e = (refl, e)

pub none_of_both : (a b : Bool) → a ≡ false → b ≡ false → (a || b) ≡ false
none_of_both true b e f = absurd (false≢true (sym e))
none_of_both false b e f = f

pub or_right : (a b : Bool) → b ≡ true → (a || b) ≡ true
or_right true b e = refl
or_right false b e = e

-- Tests on what is left of a list.

pub any_left_false : (f p : Reserve → Bool) (rs : List Reserve) → list_any f rs ≡ false → list_any f (filter p rs) ≡ false
any_left_false f p [] e = refl
any_left_false f p (r ∷ rs) e = go (p r) (any_left_false f p rs (or_parts (f r) (list_any f rs) e).1)
  where
    go : (b : Bool) → list_any f (filter p rs) ≡ false → list_any f (cond b (r ∷ filter p rs) (filter p rs)) ≡ false
    go true rest = none_of_both (f r) (list_any f (filter p rs)) (or_parts (f r) (list_any f rs) e).0 rest
    go false rest = rest

-- one that passes the test is left, where none of these is in the list
pub any_left : (f q p : Reserve → Bool) → ((r : Reserve) → f r ≡ true → q r ≡ false → p r ≡ true) → (rs : List Reserve) → list_any q rs ≡ false → list_any f rs ≡ true
    → list_any f (filter p rs) ≡ true
any_left f q p stays [] none e = absurd (false≢true e)
any_left f q p stays (r ∷ rs) none e = go (f r) refl e (p r) refl (any_left f q p stays rs parts.1)
  where
    parts : (q r ≡ false) × (list_any q rs ≡ false)
    parts = or_parts (q r) (list_any q rs) none

    go : (a : Bool) → f r ≡ a → (a || list_any f rs) ≡ true → (b : Bool) → p r ≡ b → (list_any f rs ≡ true → list_any f (filter p rs) ≡ true)
        → list_any f (cond b (r ∷ filter p rs) (filter p rs)) ≡ true
    go true is x true left rest = ap (λ (b : Bool). b || list_any f (filter p rs)) is
    go true is x false left rest = absurd (false≢true (sym left ∙ stays r is parts.0))
    go false is x true left rest = or_right (f r) (list_any f (filter p rs)) (rest x)
    go false is x false left rest = rest x

pub none_at_all : (rs : List Reserve) → list_any (λ (r : Reserve). false) rs ≡ false
none_at_all [] = refl
none_at_all (r ∷ rs) = none_at_all rs

-- Each stays, of shared indexes, or is of a run.

abbrev pub stays_or_runs : Reserve → Bool
stays_or_runs r = ((r.region == 0) && r.stays) || (not r.stays && is_placed r)

abbrev pub AllOfTwo : List Reserve → Type 0
AllOfTwo [] = Unit {0}
AllOfTwo (r ∷ rs) = (stays_or_runs r ≡ true) × AllOfTwo rs

pub two_of : (ps : List Process) (rs : List Reserve) → AllStay ps rs → AllOfTwo rs
two_of ps [] all = tt
two_of ps (r ∷ rs) all = (go ((r.region == 0) && r.stays) r.stays (is_placed r) (is_used ps r) all.0, two_of ps rs all.1)
  where
    go : (a s p u : Bool) → (a || (not s && (p && u))) ≡ true → (a || (not s && p)) ≡ true
    go true s p u e = refl
    go false true p u e = e
    go false false true u e = refl
    go false false false u e = e

pub stay_of : (ps : List Process) (rs : List Reserve) → AllOfTwo rs → AreUsed ps rs → AllStay ps rs
stay_of ps [] two used = tt
stay_of ps (r ∷ rs) two used = (go ((r.region == 0) && r.stays) r.stays (is_placed r) (is_used ps r) two.0 used.0, stay_of ps rs two.1 used.1)
  where
    go : (a s p u : Bool) → (a || (not s && p)) ≡ true → u ≡ true → (a || (not s && (p && u))) ≡ true
    go true s p u e f = refl
    go false true p u e f = e
    go false false true u e f = f
    go false false false u e f = e

pub two_left : (p : Reserve → Bool) (rs : List Reserve) → AllOfTwo rs → AllOfTwo (filter p rs)
two_left p [] two = tt
two_left p (r ∷ rs) two = go (p r) (two_left p rs two.1)
  where
    go : (b : Bool) → AllOfTwo (filter p rs) → AllOfTwo (cond b (r ∷ filter p rs) (filter p rs))
    go true rest = (two.0, rest)
    go false rest = rest

-- what stays is used
pub is_used_of : (ps : List Process) (r : Reserve) → stays_or_is_held ps r ≡ true → is_used ps r ≡ true
is_used_of ps r e = go ((r.region == 0) && r.stays) refl e
  where
    here : ((r.region == 0) && r.stays) ≡ true → is_used ps r ≡ true
    here is = (let x = and_parts (r.region == 0) r.stays is in rw (x.0, x.1) refl)

    go : (a : Bool) → ((r.region == 0) && r.stays) ≡ a → (a || (not r.stays && (is_placed r && is_used ps r))) ≡ true → is_used ps r ≡ true
    go true is f = here is
    go false is f = (and_parts (is_placed r) (is_used ps r) (and_parts (not r.stays) (is_placed r && is_used ps r) f).1).1

pub used_all : (ps : List Process) (rs : List Reserve) → AllStay ps rs → used ps rs ≡ rs
used_all ps [] all = refl
used_all ps (r ∷ rs) all =
    ap (λ (b : Bool). cond b (r ∷ filter (is_used ps) rs) (filter (is_used ps) rs)) (is_used_of ps r all.0) ∙ ap (λ (z : List Reserve). r ∷ z) (used_all ps rs all.1)

-- where all goes on to be held
pub stay_still : (ps qs : List Process) → ((r : Reserve) → r.stays ≡ false → is_used ps r ≡ true → is_used qs r ≡ true) → (rs : List Reserve) → AllStay ps rs → AllStay qs rs
stay_still ps qs still [] all = tt
stay_still ps qs still (r ∷ rs) all = (go ((r.region == 0) && r.stays) r.stays refl (is_placed r) all.0, stay_still ps qs still rs all.1)
  where
    go : (a s : Bool) → r.stays ≡ s → (p : Bool) → (a || (not s && (p && is_used ps r))) ≡ true → (a || (not s && (p && is_used qs r))) ≡ true
    go true s is p e = refl
    go false true is p e = e
    go false false is true e = still r is e
    go false false is false e = e

-- Indexes of two.

pub disjoint_left : (r : Reserve) (p : Reserve → Bool) (rs : List Reserve) → IsDisjointFrom r rs → IsDisjointFrom r (filter p rs)
disjoint_left r p [] from = tt
disjoint_left r p (q ∷ qs) from = go (p q) (disjoint_left r p qs from.1)
  where
    go : (b : Bool) → IsDisjointFrom r (filter p qs) → IsDisjointFrom r (cond b (q ∷ filter p qs) (filter p qs))
    go true rest = (from.0, rest)
    go false rest = rest

pub all_disjoint_left : (p : Reserve → Bool) (rs : List Reserve) → AllDisjoint rs → AllDisjoint (filter p rs)
all_disjoint_left p [] all = tt
all_disjoint_left p (r ∷ rs) all = go (p r) (all_disjoint_left p rs all.1)
  where
    go : (b : Bool) → AllDisjoint (filter p rs) → AllDisjoint (cond b (r ∷ filter p rs) (filter p rs))
    go true rest = (disjoint_left r p rs all.0, rest)
    go false rest = rest

-- none of its indexes is reserved
pub disjoint_new : (r : Reserve) (rs : List Reserve) → ((i : ℕ) → reserves r.region i r ≡ true → list_any (reserves r.region i) rs ≡ false) → IsDisjointFrom r rs
disjoint_new r [] new = tt
disjoint_new r (q ∷ qs) new =
    (inr (λ i here. (or_parts (reserves r.region i q) (list_any (reserves r.region i) qs) (new i here)).0), disjoint_new r qs (λ i here. (or_parts (reserves r.region i q) (list_any (reserves r.region i) qs) (new i here)).1))
