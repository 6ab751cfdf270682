-- What a call leaves of other processes: all that they are, and what they hold, as often at least.
use Rattle.std.proofs.Common.{◌≡◌, ◌≢◌, ℕ, ◌+◌, ◌-◌, ◌==◌, ◌||◌, Bool, true, false, List, [], ◌∷◌, ◌++◌, Option, Some, None, if◌then◌else◌, ap, sym, ◌∙◌, refl, arith, subst}
use Rattle.std.specs.Prelude.{slice_get, option_map}
use Rattle.std.specs.List.{list_any}
use Rattle.std.proofs.lemmas.Bool.{eq-eqb}
use Rattle.o2_conf.specs.Dispatch.{Dispatch}
use Rattle.o2_isa.specs.declared.cpu.Cpu.{Cpu}
use Rattle.o2_world.specs.Map.{get, put}
use Rattle.o2_world.specs.World.{World, Process, Held, is_live}
use Rattle.o2_world.specs.Changes.{Change, Makes, Resizes, Locks, Marks, Holds, Drops, Finishes, Reserves, Frees, Names, at_number, at_place, more, swept, takes, with_all, with_change, with_changes}
use Rattle.o2_world.specs.CallParts.{Before, Effect}
use Rattle.o2_world.specs.Run.{all_changes, changed, worked, working}
use Rattle.o2_world.specs.Giving.{gives}
use Rattle.o2_world.specs.Moves.{AllMoves, AllSpare, AreOwn, AreSpared, IsAtLeast, IsOwn, IsSpared, OneNamed, OneRun, OwnMoves, SomeShared, Spares}
use Rattle.o2_world.proofs.FitShares.{changes_are, held_each, least_of, shares_of}
use Rattle.o2_world.proofs.Keeps.{other_number}
use Rattle.o2_world.proofs.OwnChanges.{LeavePlace, LeaveReserves, LeavesPlace, LeavesReserves, moved_other, moves_own}
use Rattle.o2_world.proofs.Reached.{get-place, get-put}
use Rattle.o2_world.proofs.MapLemmas.{if_no, if_yes}
use Rattle.o2_world.proofs.RunParts.{AllBy, run_parts}

-- The rows.

own_spares : (n : ℕ) (c : Change) → IsOwn n c → Spares n c
own_spares n (Makes s) own = tt
own_spares n (Resizes m size) own = tt
own_spares n (Locks m count) own = tt
own_spares n (Marks m d) own = tt
own_spares n (Holds p i h) own = tt
own_spares n (Drops p i count) own = own
own_spares n (Finishes p state) own = own
own_spares n (Reserves r) own = tt
own_spares n (Frees r first) own = own
own_spares n (Names text m) own = tt

all_own_spare : (n : ℕ) (cs : List Change) → AreOwn n cs → AllSpare n cs
all_own_spare n [] own = tt
all_own_spare n (c ∷ cs) own = (own_spares n c own.0, all_own_spare n cs own.1)

shares_spare : (n to : ℕ) (ss : List (ℕ × Held)) → AllSpare n (shares_of to ss)
shares_spare n to [] = tt
shares_spare n to (s ∷ ss) = (tt, shares_spare n to ss)

spare_by : (n : ℕ) (cs : List Change) → AllBy (Spares n) cs → AllSpare n cs
spare_by n [] all = tt
spare_by n (c ∷ cs) all = (all.0, spare_by n cs all.1)

pub moves_spare : (b : Before) (cpu : Cpu) (cs : List Change) → AllMoves b cpu cs → AllSpare b.number cs
moves_spare b cpu cs (OwnMoves moves) = all_own_spare b.number cs (moves_own b cpu cs moves)
moves_spare b cpu cs (OneNamed size i name free is) = subst (AllSpare b.number) (sym is) (tt, (tt, (tt, tt)))
moves_spare b cpu cs (SomeShared from to xs shares is) =
    subst (AllSpare b.number) (sym (is ∙ changes_are b.known from to xs shares.shared)) (shares_spare b.number to (held_each b.known from xs shares.shared))
moves_spare b cpu cs (OneRun moves ruled) =
    spare_by b.number cs
    (run_parts b (Spares b.number) (record {
      makes = λ size flags. tt;
      resizes = λ m size. tt;
      holds = λ q i h holder. tt;
      drops = λ i count. refl;
      reserves = λ region first count which. tt;
    }) cpu cs moves)

-- What calls leave.

both_false : (a b : Bool) → (a || b) ≡ false → (a ≡ false) × (b ≡ false)
both_false true b e = absurd (cc)
both_false false b e = (refl, e)

-- a process to which they give nothing
spares_place : (n place : ℕ) (c : Change) → place + 1 ≢ n → Spares n c → gives (place + 1) c ≡ false → LeavesPlace place c
spares_place n place (Makes s) other own none = tt
spares_place n place (Resizes m size) other own none = tt
spares_place n place (Locks m count) other own none = tt
spares_place n place (Marks m d) other own none = tt
spares_place n place (Holds p i h) other own none = λ same. absurd (let no : true ≡ false = sym (eq-eqb p (place + 1) (sym same)) ∙ none in cc)
spares_place n place (Drops p i count) other own none = λ same. other (same ∙ own)
spares_place n place (Finishes p state) other own none = λ same. other (same ∙ own)
spares_place n place (Reserves r) other own none = tt
spares_place n place (Frees r first) other own none = tt
spares_place n place (Names text m) other own none = tt

pub spare_place : (n place : ℕ) (cs : List Change) → place + 1 ≢ n → AllSpare n cs → list_any (gives (place + 1)) cs ≡ false → LeavePlace place cs
spare_place n place [] other own none = tt
spare_place n place (c ∷ cs) other own none =
    let x = both_false (gives (place + 1) c) (list_any (gives (place + 1)) cs) none in
    (spares_place n place c other own.0 x.0, spare_place n place cs other own.1 x.1)

own_reserves : (n : ℕ) (c : Change) → IsOwn n c → LeavesReserves c
own_reserves n (Makes s) own = tt
own_reserves n (Resizes m size) own = tt
own_reserves n (Locks m count) own = tt
own_reserves n (Marks m d) own = tt
own_reserves n (Holds p i h) own = tt
own_reserves n (Drops p i count) own = tt
own_reserves n (Finishes p state) own = tt
own_reserves n (Reserves r) own = tt
own_reserves n (Frees r first) own = own
own_reserves n (Names text m) own = tt

all_own_reserves : (n : ℕ) (cs : List Change) → AreOwn n cs → LeaveReserves cs
all_own_reserves n [] own = tt
all_own_reserves n (c ∷ cs) own = (own_reserves n c own.0, all_own_reserves n cs own.1)

shares_reserve : (to : ℕ) (ss : List (ℕ × Held)) → LeaveReserves (shares_of to ss)
shares_reserve to [] = tt
shares_reserve to (s ∷ ss) = (tt, shares_reserve to ss)

reserve_by : (cs : List Change) → AllBy LeavesReserves cs → LeaveReserves cs
reserve_by [] all = tt
reserve_by (c ∷ cs) all = (all.0, reserve_by cs all.1)

-- all reserved indexes
pub moves_reserve : (b : Before) (cpu : Cpu) (cs : List Change) → AllMoves b cpu cs → LeaveReserves cs
moves_reserve b cpu cs (OwnMoves moves) = all_own_reserves b.number cs (moves_own b cpu cs moves)
moves_reserve b cpu cs (OneNamed size i name free is) = subst LeaveReserves (sym is) (tt, (tt, (tt, tt)))
moves_reserve b cpu cs (SomeShared from to xs shares is) =
    subst LeaveReserves (sym (is ∙ changes_are b.known from to xs shares.shared)) (shares_reserve to (held_each b.known from xs shares.shared))
moves_reserve b cpu cs (OneRun moves ruled) =
    reserve_by cs
    (run_parts b LeavesReserves (record {
      makes = λ size flags. tt;
      resizes = λ m size. tt;
      holds = λ q i h holder. tt;
      drops = λ i count. tt;
      reserves = λ region first count which. tt;
    }) cpu cs moves)

-- The world.

same_hold : (h : Held) → IsAtLeast h h
same_hold h = record { name = refl; rights = refl; cause = refl; first = refl; reserved = refl; holds = omega arith }

same_process : (x : Process) → IsSpared x x
same_process x = record { all_else = refl; held = λ i. record { goes_on = λ h e. (h, e, same_hold h) } }

pub same_spared : (o p : Option Process) → p ≡ o → AreSpared o p
same_spared None None e = tt
same_spared (Some x) (Some y) e = let z : y ≡ x = cc in subst (IsSpared x) (sym z) (same_process x)
same_spared None (Some y) e = absurd (let z : ◌≡◌ {A = Option Process} (Some y) None = e in cc)
same_spared (Some x) None e = absurd (let z : ◌≡◌ {A = Option Process} None (Some x) = e in cc)

process_then : (x y z : Process) → IsSpared x y → IsSpared y z → IsSpared x z
process_then x y z a b = record {
  all_else = b.all_else ∙ ap (λ (p : Process). record p { held = z.held }) a.all_else;
  held = λ i. record { goes_on = λ h e. let u = (a.held i).goes_on h e in let v = (b.held i).goes_on u.0 u.1 in (v.0, v.1, least_of h u.0 v.0 u.2 v.2) };
}

spared_then : (x y z : Option Process) → AreSpared x y → AreSpared y z → AreSpared x z
spared_then None None None a b = tt
spared_then (Some x) (Some y) (Some z) a b = process_then x y z a b
spared_then None None (Some z) a b = b
spared_then None (Some y) z a b = absurd a
spared_then (Some x) None z a b = absurd a
spared_then (Some x) (Some y) None a b = absurd b

-- a process that holds more
more_spared : (x : Process) (i : ℕ) (h : Held) → IsSpared x (record x { held = put i (more h (get x.held i)) x.held })
more_spared x i h = record { all_else = refl; held = λ j. record { goes_on = λ k e. go j k e (i == j) refl } }
  where
    same_index : (a b : ℕ) → (a == b) ≡ true → a ≡ b
    same_index a b e = grind arith

    go : (j : ℕ) (k : Held) → get x.held j ≡ Some k → (b : Bool) → (i == j) ≡ b
        → (y : Held) × (get (put i (more h (get x.held i)) x.held) j ≡ Some y) × IsAtLeast k y
    go j k e true is = (
      record k { holds = k.holds + h.holds },
      get-put i j (more h (get x.held i)) x.held ∙ if_yes (i == j) _ _ is ∙ ap (more h) (ap (get x.held) (same_index i j is) ∙ e),
      record { name = refl; rights = refl; cause = refl; first = refl; reserved = refl; holds = omega arith },
    )
    go j k e false is = (k, get-put i j (more h (get x.held i)) x.held ∙ if_no (i == j) _ _ is ∙ e, same_hold k)

mapped_spared : (f : Process → Process) → ((x : Process) → IsSpared x (f x)) → (o : Option Process) → AreSpared o (option_map f o)
mapped_spared f spares None = tt
mapped_spared f spares (Some x) = spares x

holds_spared : (ps : List Process) (p i place : ℕ) (h : Held)
    → AreSpared (slice_get ps place) (slice_get (at_number p (λ (x : Process). record x { held = put i (more h (get x.held i)) x.held }) ps) place)
holds_spared ps p i place h = go (p == 0)
  where
    f : Process → Process
    f x = record x { held = put i (more h (get x.held i)) x.held }

    here : (b : Bool) → AreSpared (slice_get ps place) (if b then option_map f (slice_get ps place) else slice_get ps place)
    here true = mapped_spared f (λ x. more_spared x i h) (slice_get ps place)
    here false = same_spared (slice_get ps place) (slice_get ps place) refl

    go : (b : Bool) → AreSpared (slice_get ps place) (slice_get (if b then ps else at_place (p - 1) f ps) place)
    go true = same_spared (slice_get ps place) (slice_get ps place) refl
    go false = subst (AreSpared (slice_get ps place)) (sym (get-place (p - 1) place f ps)) (here (place == p - 1))

moved_spared : (ps qs : List Process) (place : ℕ) → slice_get qs place ≡ slice_get ps place → AreSpared (slice_get ps place) (slice_get qs place)
moved_spared ps qs place e = same_spared (slice_get ps place) (slice_get qs place) e

one_spared : (w : World) (c : Change) (n place : ℕ) → Spares n c → place + 1 ≢ n
    → AreSpared (slice_get w.processes place) (slice_get (with_change w c).processes place)
one_spared w (Makes s) n place own other = moved_spared w.processes w.processes place refl
one_spared w (Resizes m size) n place own other = moved_spared w.processes w.processes place refl
one_spared w (Locks m count) n place own other = moved_spared w.processes w.processes place refl
one_spared w (Marks m d) n place own other = moved_spared w.processes w.processes place refl
one_spared w (Holds p i h) n place own other = holds_spared w.processes p i place h
one_spared w (Drops p i count) n place own other = moved_spared w.processes (with_change w (Drops p i count)).processes place (moved_other w.processes p n place _ own other)
one_spared w (Finishes p state) n place own other = moved_spared w.processes (with_change w (Finishes p state)).processes place (moved_other w.processes p n place _ own other)
one_spared w (Reserves r) n place own other = moved_spared w.processes w.processes place refl
one_spared w (Frees r first) n place own other = absurd own
one_spared w (Names text m) n place own other = moved_spared w.processes w.processes place refl

changes_spared : (w : World) (cs : List Change) (n place : ℕ) → AllSpare n cs → place + 1 ≢ n
    → AreSpared (slice_get w.processes place) (slice_get (with_changes w cs).processes place)
unfolding with_changes
changes_spared w [] n place own other = moved_spared w.processes w.processes place refl
changes_spared w (c ∷ cs) n place own other =
    spared_then (slice_get w.processes place) (slice_get (with_change w c).processes place) (slice_get (with_changes (with_change w c) cs).processes place)
    (one_spared w c n place own.0 other) (changes_spared (with_change w c) cs n place own.1 other)

all_spared : (w : World) (cs : List Change) (n place : ℕ) → AllSpare n cs → place + 1 ≢ n
    → AreSpared (slice_get w.processes place) (slice_get (with_all w cs).processes place)
all_spared w cs n place own other = go (list_any takes cs)
  where
    go : (b : Bool) → AreSpared (slice_get w.processes place) (slice_get (if b then swept (with_changes w cs) else with_changes w cs).processes place)
    go true = changes_spared w cs n place own other
    go false = changes_spared w cs n place own other

spare_more : (n : ℕ) (xs : List Change) (c : Change) → AllSpare n xs → Spares n c → AllSpare n (xs ++ c ∷ [])
spare_more n [] c own one = (one, tt)
spare_more n (x ∷ xs) c own one = (own.0, spare_more n xs c own.1 one)

all_spare : (n : ℕ) (e : Effect) → AllSpare n e.changes → AllSpare n (all_changes n e)
all_spare n e own = go (is_live e.state)
  where
    go : (b : Bool) → AllSpare n (if b then e.changes else e.changes ++ Finishes n e.state ∷ [])
    go true = own
    go false = spare_more n e.changes (Finishes n e.state) own refl

pub changed_spared : (w : World) (d : Dispatch) (p : Process) (e : Effect) → AllSpare d.current e.changes → (place : ℕ) → place + 1 ≢ d.current
    → AreSpared (slice_get w.processes place) (slice_get (changed w d p e).processes place)
unfolding changed
changed_spared w d p e own place other =
    spared_then (slice_get w.processes place) (slice_get (worked w d p e).processes place) (slice_get (with_all (worked w d p e) (all_changes d.current e)).processes place)
    (moved_spared w.processes (worked w d p e).processes place (other_number w.processes d.current (working p e) place other))
    (all_spared (worked w d p e) (all_changes d.current e) d.current place (all_spare d.current e own) other)
