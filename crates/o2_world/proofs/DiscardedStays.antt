-- What is discarded stays so behind changes of calls, until it is made anew.
use Rattle.std.proofs.Common.{◌≡◌, ℕ, zero, suc, ◌-◌, ◌==◌, ◌&&◌, Bool, true, false, List, [], ◌∷◌, ◌++◌, length, take, replicate, Option, Some, None, if◌then◌else◌, ap, sym, ◌∙◌, refl, arith, subst}
use Rattle.std.specs.Prelude.{option_map, slice_get}
use Rattle.std.specs.List.{list_any}
use Rattle.o2_isa.specs.View.{bound_registers}
use Rattle.o2_world.specs.declared.types.State.{State}
use Rattle.o2_world.specs.Map.{Map, at_key, get, put}
use Rattle.o2_world.specs.World.{World, Process, Segment, is_live}
use Rattle.o2_world.specs.Views.{holds_in}
use Rattle.o2_world.specs.Changes.{Change, Makes, Resizes, Locks, Marks, Holds, Drops, Finishes, Reserves, Frees, Names, at_number, fewer, marked, more, resized, swept, takes, with_all, with_change, with_changes}
use Rattle.o2_world.specs.Discards.{has_seated, is_seated, seats}
use Rattle.o2_world.specs.Sound.{HasGoodRegisters}
use Rattle.o2_world.specs.Tied.{AllSpareDiscarded, AreFitChanges, IsDiscarded, IsFitLock, IsTied, KeepsDiscarded, SparesDiscarded}
use Rattle.o2_world.proofs.MapLemmas.{get-at_key, if_no, if_yes}
use Rattle.o2_world.proofs.RunParts.{AllBy}
use Rattle.o2_world.proofs.Seats.{fewer_unseated, more_unseated, number_unseated, put_at}
use Rattle.o2_world.proofs.TiedChanges.{change_tied, zeros_length}
use Rattle.o2_world.proofs.TiedSteps.{kept_was}

-- Over other processes and the same segments.

pub seen_by : (ps qs : List Process) (names : Map Segment) → ((n : ℕ) → is_seated ps n ≡ false → is_seated qs n ≡ false) → KeepsDiscarded ps names → KeepsDiscarded qs names
seen_by ps qs names unseated k = record {
  each = λ q s e gone.
      let d = k.each q s e gone in
      let m = d.may_be in
      record { may_be = record { discardable = m.discardable; changes = m.changes; unlocked = m.unlocked; unseated = unseated q m.unseated }; zeros = d.zeros };
}

-- Over the same processes and fewer segments.

pub fewer_kept : (ps : List Process) (old new : Map Segment) → ((q : ℕ) (s : Segment) → get new q ≡ Some s → get old q ≡ Some s) → KeepsDiscarded ps old → KeepsDiscarded ps new
fewer_kept ps old new were k = record { each = λ q s e gone. k.each q s (were q s e) gone }

-- A change of one segment.

same_number : (n m : ℕ) → (n == m) ≡ true → n ≡ m
same_number n m e = grind arith

segment_keeps : (ps : List Process) (names : Map Segment) (n : ℕ) (f : Segment → Segment)
    → ((y : Segment) → get names n ≡ Some y → (f y).discarded ≡ true → IsDiscarded ps n (f y)) → KeepsDiscarded ps names → KeepsDiscarded ps (at_key n f names)
segment_keeps ps names n f here k = record { each = λ q s e gone. go q s (n == q) refl (get names n) refl (sym (get-at_key n q f names) ∙ e) gone }
  where
    go : (q : ℕ) (s : Segment) (b : Bool) → (n == q) ≡ b → (o : Option Segment) → get names n ≡ o
        → (if n == q then option_map f (get names n) else get names q) ≡ Some s → s.discarded ≡ true → IsDiscarded ps q s
    go q s true is None at e gone = absurd (let z : option_map f (get names n) ≡ Some s = sym (if_yes (n == q) _ _ is) ∙ e in cc)
    go q s true is (Some y) at e gone =
        let z : option_map f (get names n) ≡ Some s = sym (if_yes (n == q) _ _ is) ∙ e in
        let u : Some (f y) ≡ Some s = sym (ap (option_map f) at) ∙ z in
        let same : f y ≡ s = cc in
        subst (λ (m : ℕ). IsDiscarded ps m s) (same_number n q is)
        (subst (IsDiscarded ps n) same (here y at (ap (λ (x : Segment). x.discarded) same ∙ gone)))
    go q s false is o at e gone = k.each q s (sym (if_no (n == q) _ _ is) ∙ e) gone

none_less : (n : ℕ) → 0 - n ≡ 0
none_less n = omega arith

no_less : (k : ℕ) → suc k - 0 ≡ suc k
no_less k = omega arith

one_less : (k n : ℕ) → suc k - suc n ≡ k - n
one_less k n = omega arith

-- zeros that are cut or have zeros behind them
zeros_resized : (size m : ℕ) → resized size (replicate m 0) ≡ replicate {A = ℕ} size 0
zeros_resized zero m = ap (λ (n : ℕ). replicate {A = ℕ} n 0) (none_less (length (replicate {A = ℕ} m 0)))
zeros_resized (suc k) zero = ap (λ (n : ℕ). replicate {A = ℕ} n 0) (no_less k)
zeros_resized (suc k) (suc m) =
    ap (λ (n : ℕ). 0 ∷ (take k (replicate {A = ℕ} m 0) ++ replicate {A = ℕ} n 0)) (one_less k (length (replicate {A = ℕ} m 0)))
    ∙ ap (λ (bs : List ℕ). 0 ∷ bs) (zeros_resized k m)

resized_zeros : (size : ℕ) (bytes : List ℕ) → bytes ≡ replicate (length bytes) 0 → resized size bytes ≡ replicate (length (resized size bytes)) 0
resized_zeros size bytes zeros =
    let all : resized size bytes ≡ replicate {A = ℕ} size 0 = ap (resized size) zeros ∙ zeros_resized size (length bytes) in
    let count : length (resized size bytes) ≡ size = ap (λ (bs : List ℕ). length bs) all ∙ zeros_length size in
    all ∙ ap (λ (n : ℕ). replicate {A = ℕ} n 0) (sym count)

none_locked : (n : ℕ) → n ≡ 0 → (n == 0) ≡ true
none_locked n e = grind arith

resizes_keeps : (ps : List Process) (names : Map Segment) (n size : ℕ) → KeepsDiscarded ps names
    → KeepsDiscarded ps (at_key n (λ (s : Segment). record s { bytes = resized size s.bytes }) names)
resizes_keeps ps names n size k =
    segment_keeps ps names n (λ (s : Segment). record s { bytes = resized size s.bytes })
    (λ y there gone.
    let d = k.each n y there gone in
    let m = d.may_be in
    record { may_be = record { discardable = m.discardable; changes = m.changes; unlocked = m.unlocked; unseated = m.unseated }; zeros = resized_zeros size y.bytes d.zeros }) k

locks_keeps : (w : World) (n count : ℕ) → IsFitLock w n count → KeepsDiscarded w.processes w.names
    → KeepsDiscarded w.processes (at_key n (λ (s : Segment). record s { lock = count }) w.names)
locks_keeps w n count fit k =
    segment_keeps w.processes w.names n (λ (s : Segment). record s { lock = count })
    (λ y there gone.
    let d = k.each n y there gone in
    let m = d.may_be in
    record { may_be = record { discardable = m.discardable; changes = m.changes; unlocked = none_locked count (fit y there gone); unseated = m.unseated }; zeros = d.zeros }) k

makes_keeps : (w : World) (s : Segment) → s.discarded ≡ false → KeepsDiscarded w.processes w.names → KeepsDiscarded w.processes (put w.next_name (Some s) w.names)
makes_keeps w s whole k = record { each = λ q t e gone. go q t (w.next_name == q) refl e gone }
  where
    go : (q : ℕ) (t : Segment) (b : Bool) → (w.next_name == q) ≡ b → (if w.next_name == q then Some s else get w.names q) ≡ Some t → t.discarded ≡ true → IsDiscarded w.processes q t
    go q t true is e gone =
        absurd (let u : Some s ≡ Some t = sym (if_yes (w.next_name == q) (Some s) (get w.names q) is) ∙ e in
        let same : s ≡ t = cc in
        let no : false ≡ true = sym whole ∙ (ap (λ (x : Segment). x.discarded) same ∙ gone) in cc)
    go q t false is e gone = k.each q t (sym (if_no (w.next_name == q) (Some s) (get w.names q) is) ∙ e) gone

-- an end leaves a process without seats
ended_unseated : (x : Process) (state : State) (n : ℕ) → is_live state ≡ false → seats (record x { state = state; held = [] }) n ≡ false
ended_unseated x state n ends = ap (λ (b : Bool). b && has_seated (bound_registers (holds_in []) x.cpu) n) ends

-- One change, by its kind.
pub change_keeps : (w : World) (c : Change) → ((place : ℕ) (x : Process) → slice_get w.processes place ≡ Some x → is_live x.state ≡ true → HasGoodRegisters x)
    → SparesDiscarded w c → KeepsDiscarded w.processes w.names → (let v = with_change w c in KeepsDiscarded v.processes v.names)
change_keeps w (Makes s) good spares k = makes_keeps w s spares k
change_keeps w (Resizes n size) good spares k = resizes_keeps w.processes w.names n size k
change_keeps w (Locks n count) good spares k = locks_keeps w n count spares k
change_keeps w (Marks n true) good spares k = absurd spares
change_keeps w (Marks n false) good spares k = segment_keeps w.processes w.names n (marked false) (λ y there gone. absurd (cc)) k
change_keeps w (Holds p i h) good spares k =
    seen_by w.processes (at_number p (put_at (more h) i) w.processes) w.names
    (λ n e. number_unseated w.processes p (put_at (more h) i) n (λ place x at. more_unseated x h i n (good place x at)) e) k
change_keeps w (Drops p i count) good spares k =
    seen_by w.processes (at_number p (put_at (fewer count) i) w.processes) w.names
    (λ n e. number_unseated w.processes p (put_at (fewer count) i) n (λ place x at. fewer_unseated x count i n) e) k
change_keeps w (Finishes p state) good spares k =
    seen_by w.processes (at_number p (λ (x : Process). record x { state = state; held = [] }) w.processes) w.names
    (λ n e. number_unseated w.processes p (λ (x : Process). record x { state = state; held = [] }) n (λ place x at was. ended_unseated x state n spares) e) k
change_keeps w (Reserves r) good spares k = k
change_keeps w (Frees region first) good spares k = k
change_keeps w (Names text name) good spares k = k

changes_keep : (w : World) (cs : List Change) → AreFitChanges w cs → AllSpareDiscarded w cs → IsTied w → KeepsDiscarded w.processes w.names
    → (let v = with_changes w cs in KeepsDiscarded v.processes v.names)
unfolding with_changes
changes_keep w [] fit spare tied k = k
changes_keep w (c ∷ cs) fit spare tied k =
    changes_keep (with_change w c) cs fit.1 spare.1 (change_tied w c fit.0 tied) (change_keeps w c tied.registers spare.0 k)

-- All changes of a step, with the sweep behind them.
pub all_keep : (w : World) (cs : List Change) → AreFitChanges w cs → AllSpareDiscarded w cs → IsTied w → KeepsDiscarded w.processes w.names
    → (let v = with_all w cs in KeepsDiscarded v.processes v.names)
all_keep w cs fit spare tied k = go (list_any takes cs)
  where
    u : World
    u = with_changes w cs

    behind : KeepsDiscarded u.processes u.names
    behind = changes_keep w cs fit spare tied k

    go : (b : Bool) → (let v = if b then swept u else u in KeepsDiscarded v.processes v.names)
    go true = fewer_kept u.processes u.names _ (kept_was u.processes u.names) behind
    go false = behind

-- Changes that neither lock nor mark.
abbrev pub IsPlain : Change → Type 0
IsPlain (Makes s) = s.discarded ≡ false
IsPlain (Resizes n size) = Unit {0}
IsPlain (Locks n count) = ⊥
IsPlain (Marks n discarded) = ⊥
IsPlain (Holds p i h) = Unit {0}
IsPlain (Drops p i count) = Unit {0}
IsPlain (Finishes p state) = is_live state ≡ false
IsPlain (Reserves r) = Unit {0}
IsPlain (Frees region first) = Unit {0}
IsPlain (Names text name) = Unit {0}

plain_one : (w : World) (c : Change) → IsPlain c → SparesDiscarded w c
plain_one w (Makes s) is = is
plain_one w (Resizes n size) is = tt
plain_one w (Locks n count) is = absurd is
plain_one w (Marks n true) is = is
plain_one w (Marks n false) is = tt
plain_one w (Holds p i h) is = tt
plain_one w (Drops p i count) is = tt
plain_one w (Finishes p state) is = is
plain_one w (Reserves r) is = tt
plain_one w (Frees region first) is = tt
plain_one w (Names text name) is = tt

pub plain_spare : (w : World) (cs : List Change) → AllBy IsPlain cs → AllSpareDiscarded w cs
plain_spare w [] are = tt
plain_spare w (c ∷ cs) are = (plain_one w c are.0, plain_spare (with_change w c) cs are.1)

pub spare_more : (w : World) (xs ys : List Change) → AllSpareDiscarded w xs → AllSpareDiscarded (with_changes w xs) ys → AllSpareDiscarded w (xs ++ ys)
unfolding with_changes
spare_more w [] ys spare more = more
spare_more w (x ∷ xs) ys spare more = (spare.0, spare_more (with_change w x) xs ys spare.1 more)
