-- A step keeps the number of a semaphore what its lines tell.
use Rattle.std.proofs.Common.{◌≡◌, ◌≢◌, ℕ, ◌<◌, ◌/◌, Bool, true, false, List, [], ◌∷◌, ◌++◌, Option, Some, None, refl, sym, ap, subst, ◌∙◌, arith}
use Rattle.std.specs.Prelude.{is_some, option_map}
use Rattle.std.proofs.lemmas.List.{append-nil}
use Rattle.o2_conf.specs.Dispatch.{Dispatch}
use Rattle.o2_isa.specs.View.{Hold}
use Rattle.o2_world.specs.Map.{get}
use Rattle.o2_world.specs.World.{World, Setting, Process, Held}
use Rattle.o2_world.specs.Holders.{process_at}
use Rattle.o2_world.specs.Views.{hold_of}
use Rattle.o2_world.specs.Sound.{held_of}
use Rattle.o2_world.specs.Known.{held_at}
use Rattle.o2_world.specs.SemRulings.{SemRuling}
use Rattle.o2_world.specs.CallParts.{Effect}
use Rattle.o2_world.specs.Effect.{effect}
use Rattle.o2_world.specs.Run.{acted, before, changed, chosen_step, is_over, next_dispatch, ready, step}
use Rattle.o2_world.proofs.Words.{ready_stays, step_runs}
use Rattle.o2_world.proofs.MapLemmas.{if_yes}
use Rattle.o2_world.proofs.Numbers.{number_some}
use Rattle.o2_world.proofs.RunReach.{lines_are}
use Rattle.o2_world.proofs.StepSound.{next_process}
use Rattle.o2_ramsem.specs.Calls.{SemCall, number_behind, ruling_at}
use Rattle.o2_ramsem_laws.specs.Told.{Place, told}
use Rattle.o2_ramsem_laws.specs.Kept.{IsKept, IsUnheld, NamesOne, number_at, number_from}
use Rattle.o2_ramsem_laws.proofs.Sequences.{IsPlayed, played_more}
use Rattle.o2_ramsem_laws.proofs.Lines.{told_append}
use Rattle.o2_ramsem_laws.proofs.Rows.{Tells, TellsNone, TellsOne, effect_tells}
use Rattle.o2_ramsem_laws.proofs.Behind.{bytes_behind}

-- What the process holds that makes the step.

not_zero : (n : ℕ) → 0 < n → n ≢ 0
not_zero n some e = omega (arith, some, e)

-- what a process holds under an index, as the processor sees it and as the world has it
held_as : (o : Option Held) (h : Hold) → option_map hold_of o ≡ Some h → (g : Held) × (o ≡ Some g) × (g.name ≡ h.name)
held_as None h e = absurd (cc)
held_as (Some g) h e = let same : hold_of g ≡ h = cc in (g, refl, ap (λ (x : Hold). x.name) same)

own_hold : (w : World) (n : ℕ) (p : Process) (i : ℕ) → process_at w.processes n ≡ Some p → held_at w.processes n i ≡ get p.held i
own_hold w n p i at = ap (λ (o : Option Process). held_of o i) at

pub names_own : (s : Setting) (w : World) (n : ℕ) (p : Process) (place : Place) → process_at w.processes n ≡ Some p → NamesOne w place
    → (h : Hold) → (before s w n p).view.held (place.selector / 8) ≡ Some h → h.name ≡ place.name
names_own s w n p place at one h e =
    let x = held_as (get p.held (place.selector / 8)) h e in
    sym x.2 ∙ one n x.0 (own_hold w n p (place.selector / 8) at ∙ x.1)

none_own : (s : Setting) (w : World) (n : ℕ) (p : Process) (place : Place) → process_at w.processes n ≡ Some p → IsUnheld w place
    → (before s w n p).view.held (place.selector / 8) ≡ None
none_own s w n p place at none = ap (option_map hold_of) (sym (own_hold w n p (place.selector / 8) at) ∙ none n)

none_some : (o : Option Hold) → o ≡ None → is_some o ≡ true → ⊥
none_some None e f = cc
none_some (Some h) e f = cc

-- Lines and number behind an effect.

lines_behind : (w v : World) (d : Dispatch) (p : Process) (e : Effect) (place : Place) → v ≡ changed w d p e → told place v.lines ≡ told place w.lines ++ told place e.lines
lines_behind w v d p e place is =
    ap (λ (x : World). told place x.lines) is ∙ ap (told place) (lines_are w d p e) ∙ told_append place w.lines e.lines

told_none : (w v : World) (d : Dispatch) (p : Process) (e : Effect) (place : Place) → v ≡ changed w d p e → told place e.lines ≡ [] → told place v.lines ≡ told place w.lines
told_none w v d p e place is none =
    lines_behind w v d p e place is
    ∙ ap (λ (ls : List (SemCall × SemRuling)). told place w.lines ++ ls) none
    ∙ append-nil (told place w.lines)

pub played_as : (n m : ℕ) (ls ms : List (SemCall × SemRuling)) → n ≡ m → ls ≡ ms → IsPlayed m ms → IsPlayed n ls
played_as n m ls ms same are played =
    subst (λ (k : ℕ). IsPlayed k ls) (sym same) (subst (IsPlayed m) (sym are) played)

acted_played : (s : Setting) (w v : World) (d : Dispatch) (p : Process) (place : Place) → v ≡ changed w d p (effect (before s w d.current p))
    → is_some (get v.names place.name) ≡ true
    → (told place v.lines ≡ told place w.lines → number_at v place ≡ number_at w place)
    → Tells place (before s w d.current p) (effect (before s w d.current p))
    → IsPlayed (number_at w place) (told place w.lines) → IsPlayed (number_at v place) (told place v.lines)
acted_played s w v d p place is lives only (TellsNone none) played =
    let same = told_none w v d p (effect (before s w d.current p)) place is none in
    played_as (number_at v place) (number_at w place) (told place v.lines) (told place w.lines) (only same) same played
acted_played s w v d p place is lives only (TellsOne c call) played =
    let e : Effect = effect (before s w d.current p) in
    let n : ℕ = number_at w place in
    let there = ap (λ (x : World). is_some (get x.names place.name)) (sym is) ∙ lives in
    let number =
    ap (λ (x : World). number_at x place) is
    ∙ ap (λ (bytes : List ℕ). number_from bytes place.offset) (bytes_behind w d p e place.name call.changes there)
    ∙ call.number in
    let lines = lines_behind w v d p e place is ∙ ap (λ (ls : List (SemCall × SemRuling)). told place w.lines ++ ls) call.tells in
    played_as (number_at v place) (number_behind n (ruling_at n c)) (told place v.lines) (told place w.lines ++ (c, ruling_at n c) ∷ []) number lines
    (played_more n (told place w.lines) c played call.numbered)

acted_untold : (s : Setting) (w v : World) (d : Dispatch) (p : Process) (place : Place) → v ≡ changed w d p (effect (before s w d.current p))
    → (before s w d.current p).view.held (place.selector / 8) ≡ None
    → Tells place (before s w d.current p) (effect (before s w d.current p)) → told place w.lines ≡ [] → told place v.lines ≡ []
acted_untold s w v d p place is unheld (TellsNone none) before_it = told_none w v d p (effect (before s w d.current p)) place is none ∙ before_it
acted_untold s w v d p place is unheld (TellsOne c call) before_it = absurd (none_some _ unheld call.held)

-- A step.

-- what a selector names, by the processes alone
abbrev pub IsOne : List Process → Place → Type 0
IsOne ps place = (q : ℕ) (h : Held) → held_at ps q (place.selector / 8) ≡ Some h → h.name ≡ place.name

-- behind the words that come before it
step_is : (s : Setting) (w : World) (p : Process) → is_over w ≡ false → (let v = ready w in let d = next_dispatch s v in process_at v.processes d.current ≡ Some p
    → step s w ≡ changed v d p (effect (before s v d.current p)))
step_is s w p runs at = let v = ready w in step_runs s w runs ∙ ap (acted s v (next_dispatch s v)) at

step_over : (s : Setting) (w : World) → is_over w ≡ true → step s w ≡ w
unfolding step
step_over s w over = if_yes (is_over w) w (chosen_step s (ready w)) over

pub step_played : (s : Setting) (w : World) (place : Place) → IsKept s w place → IsPlayed (number_at w place) (told place w.lines)
    → IsPlayed (number_at (step s w) place) (told place (step s w).lines)
step_played s w place kept played = go (is_over w) refl
  where
    go : (t : Bool) → is_over w ≡ t → IsPlayed (number_at (step s w) place) (told place (step s w).lines)
    go true over = subst (λ (v : World). IsPlayed (number_at v place) (told place v.lines)) (sym (step_over s w over)) played
    go false runs =
        let v = ready w in
        let behind = ready_stays w in
        let here = next_process s v (behind.over ∙ runs) in
        let d : Dispatch = next_dispatch s v in
        let lines = ap (told place) behind.lines in
        acted_played s v (step s w) d here.0 place (step_is s w here.0 runs here.1) kept.lives (λ same. kept.only (same ∙ lines) ∙ sym kept.word)
        (effect_tells place (before s v d.current here.0) (not_zero d.current (number_some v.processes d.current here.0 here.1))
        (names_own s v d.current here.0 place here.1 (subst (λ (ps : List Process). IsOne ps place) (sym behind.processes) kept.one)))
        (played_as (number_at v place) (number_at w place) (told place v.lines) (told place w.lines) kept.word lines played)

-- where nobody holds the selector, no line of a call on it comes
pub step_untold : (s : Setting) (w : World) (place : Place) → IsUnheld w place → told place w.lines ≡ [] → told place (step s w).lines ≡ []
step_untold s w place none before_it = go (is_over w) refl
  where
    go : (t : Bool) → is_over w ≡ t → told place (step s w).lines ≡ []
    go true over = ap (λ (v : World). told place v.lines) (step_over s w over) ∙ before_it
    go false runs =
        let v = ready w in
        let behind = ready_stays w in
        let here = next_process s v (behind.over ∙ runs) in
        let d : Dispatch = next_dispatch s v in
        let unheld = none_own s v d.current here.0 place here.1 (subst (λ (ps : List Process). (q : ℕ) → held_at ps q (place.selector / 8) ≡ None) (sym behind.processes) none) in
        acted_untold s v (step s w) d here.0 place (step_is s w here.0 runs here.1) unheld
        (effect_tells place (before s v d.current here.0) (not_zero d.current (number_some v.processes d.current here.0 here.1))
        (λ h e. absurd (none_some _ unheld (ap is_some e))))
        (ap (told place) behind.lines ∙ before_it)
