-- Where a process keeps to itself, its run among others is its run alone, from worlds in which it is alike.
use Rattle.std.proofs.Common.{◌≡◌, ◌≢◌, refl, sym, ◌∙◌, ap, subst, ℕ, zero, suc, ◌+◌, ◌-◌, ◌<◌, ◌≤◌, ◌==◌, ◌&&◌, ◌||◌, Bool, true, false, cond, List, [], ◌∷◌, ◌++◌, length, arith}
use Rattle.std.specs.Prelude.{Option, Some, None, option_map, slice_get, not, nat_lt}
use Rattle.std.specs.List.{list_any}
use Rattle.std.proofs.lemmas.Bool.{eq-eqb, eqb-true}
use Rattle.o2_conf.specs.declared.script.Word.{Word}
use Rattle.o2_conf.specs.declared.script.Word.TheVariants.{Slice, Discard}
use Rattle.o2_conf.specs.Dispatch.{Dispatch, counted, dispatched, goes_on as goes_further, live_script, lives, started, words_before}
use Rattle.o2_isa.specs.declared.cpu.Cpu.{Cpu}
use Rattle.o2_world.specs.declared.types.State.{State}
use Rattle.o2_world.specs.declared.types.State.TheVariants.{Live}
use Rattle.o2_world.specs.Map.{get}
use Rattle.o2_world.specs.World.{World, Setting, Process, Segment, Held, Line, is_live}
use Rattle.o2_world.specs.Holders.{process_at}
use Rattle.o2_world.specs.Sound.{held_of}
use Rattle.o2_world.specs.Views.{segment_bytes}
use Rattle.o2_world.specs.Known.{held_at, lives_at}
use Rattle.o2_world.specs.CallParts.{Before, Effect}
use Rattle.o2_world.specs.Effect.{effect}
use Rattle.o2_world.specs.Moves.{AreSpared}
use Rattle.o2_world.specs.Run.{acted, after, all_changes, any_lives, before, changed, chosen_step, is_over, live_flags, next_dispatch, ready, step, words_coming, worked}
use Rattle.o2_world.proofs.Budget.{not_over}
use Rattle.o2_world.proofs.Words.{ready_at_once, step_runs}
use Rattle.o2_world.proofs.Keeps.{over_stays, some_is}
use Rattle.o2_world.proofs.MapLemmas.{if_no, if_yes}
use Rattle.o2_world.proofs.Numbers.{number_some, at_place_of}
use Rattle.o2_world.proofs.OwnChanges.{all_dispatch}
use Rattle.o2_world.proofs.StepSound.{next_process, step_sound}
use Rattle.o2_world.proofs.Staying.{step_spared}
use Rattle.o2_alone.specs.Renaming.{Renaming, call_of, renamed_held, IsRenamedEffect}
use Rattle.o2_alone.specs.Events.{Event, chosen_before, event_by, event_list, event_of, events, events_of, next_before, own_steps}
use Rattle.o2_alone.specs.Keeping.{HasRoom, IsApart, IsQuiet, IsUngiven, KeepsToItself}
use Rattle.o2_alone.specs.Isolation.{AreFixed, AreLoadsApart, BeginsAlike, IsAlone, IsIsolated, IsLike, IsSame, held_bytes, nameless}
use Rattle.o2_alone.proofs.Alikes.{IsFurther, asked_alike, go_further, same_before}
use Rattle.o2_alone.proofs.OtherSteps.{fixed_step, other_step}
use Rattle.o2_alone.proofs.OwnNames.{RunsMayChange, quiet_unshared}
use Rattle.o2_alone.proofs.LoadsApart.{apart_step, runs_may}
use Rattle.o2_alone.proofs.OwnSteps.{own_step}
use Rattle.o2_alone.proofs.RenamedSteps.{effect_renamed}

-- Whose step is next.

started_budget : (quantum : ℕ) (flags : List Bool) (d : Dispatch) (ws : List Word) → (started quantum flags d ws).budget ≡ d.budget
started_budget quantum flags d [] = refl
started_budget quantum flags d (Slice process count ∷ ws) = refl
started_budget quantum flags d (Discard ∷ ws) = refl

dispatched_budget : (quantum : ℕ) (flags : List Bool) (d : Dispatch) → (dispatched quantum flags d).budget ≡ d.budget
dispatched_budget quantum flags d = go (nat_lt 0 d.left && lives flags d.current)
  where
    go : (b : Bool) → (cond b d (started quantum flags d (live_script flags d.script))).budget ≡ d.budget
    go true = refl
    go false = started_budget quantum flags d (live_script flags d.script)

no_script : (quantum : ℕ) (flags : List Bool) (d : Dispatch) → d.script ≡ [] → (dispatched quantum flags d).script ≡ []
no_script quantum flags d none = go (nat_lt 0 d.left && lives flags d.current)
  where
    go : (b : Bool) → (cond b d (started quantum flags d (live_script flags d.script))).script ≡ []
    go true = none
    go false = ap (λ (ws : List Word). (started quantum flags d (live_script flags ws)).script) none

-- the step of the process that is chosen
pub step_is : (s : Setting) (w : World) (p : Process) → is_over w ≡ false → words_coming w ≡ 0 → process_at w.processes (next_dispatch s w).current ≡ Some p
    → step s w ≡ changed w (next_dispatch s w) p (effect (before s w (next_dispatch s w).current p))
step_is s w p runs wordless at = step_runs s w runs ∙ (ap (chosen_step s) (ready_at_once w wordless) ∙ ap (acted s w (next_dispatch s w)) at)

next_is : (s : Setting) (w : World) (p : Process) → is_over w ≡ false → words_coming w ≡ 0 → process_at w.processes (next_dispatch s w).current ≡ Some p
    → next_before s w ≡ Some (before s w (next_dispatch s w).current p)
next_is s w p runs wordless at =
    if_no (is_over w) None (chosen_before s (ready w) (next_dispatch s w)) runs
    ∙ (ap (λ (v : World). chosen_before s v (next_dispatch s w)) (ready_at_once w wordless)) ∙ ap (option_map (before s w (next_dispatch s w).current)) at

step_dispatch : (s : Setting) (w : World) (p : Process) → is_over w ≡ false → words_coming w ≡ 0 → process_at w.processes (next_dispatch s w).current ≡ Some p
    → (step s w).dispatch ≡ counted (next_dispatch s w)
unfolding changed
step_dispatch s w p runs wordless at =
    ap (λ (v : World). v.dispatch) (step_is s w p runs wordless at)
    ∙ (let d = next_dispatch s w in let e = effect (before s w d.current p) in all_dispatch (worked w d p e) (all_changes d.current e))

step_budget : (s : Setting) (w : World) (p : Process) → is_over w ≡ false → words_coming w ≡ 0 → process_at w.processes (next_dispatch s w).current ≡ Some p
    → (step s w).dispatch.budget ≡ w.dispatch.budget - 1
step_budget s w p runs wordless at =
    ap (λ (d : Dispatch). d.budget) (step_dispatch s w p runs wordless at) ∙ ap (λ (n : ℕ). n - 1) (dispatched_budget s.quantum (live_flags w.processes) w.dispatch)

-- The run of one alone.

flag_at : (ps : List Process) (place : ℕ) (p : Process) → slice_get ps place ≡ Some p → is_live p.state ≡ true → list_any (λ (b : Bool). b) (live_flags ps) ≡ true
flag_at [] place p at is = cc
flag_at (x ∷ ps) zero p at is = ap (λ (b : Bool). b || list_any (λ (b : Bool). b) (live_flags ps)) (ap (λ (x : Process). is_live x.state) (some_is x p (Some x) refl at) ∙ is)
flag_at (x ∷ ps) (suc place) p at is = or_right (is_live x.state) (list_any (λ (b : Bool). b) (live_flags ps)) (flag_at ps place p at is)
  where
    or_right : (a b : Bool) → b ≡ true → (a || b) ≡ true
    or_right true b e = refl
    or_right false b e = e

goes_on : (b : Bool) (n : ℕ) → b ≡ true → 0 < n → (not b || (n == 0)) ≡ false
goes_on true n e some = grind arith
goes_on false n e some = absurd (cc)

record NextAlone (s : Setting) (number : ℕ) (u : World) (q : Process) : Type 0 where
  runs : is_over u ≡ false
  current : (next_dispatch s u).current ≡ number

next_alone : (s : Setting) (number : ℕ) (u : World) (q : Process) → IsAlone number u → process_at u.processes number ≡ Some q → q.state ≡ Live → 0 < u.dispatch.budget → NextAlone s number u q
next_alone s number u q alone at live some = record { runs = runs; current = by_test (c.current == number) refl }
  where
    c : Dispatch
    c = next_dispatch s u

    runs : is_over u ≡ false
    runs = goes_on (any_lives u.processes) u.dispatch.budget (flag_at u.processes (number - 1) q (at_place_of u.processes number q at) (ap is_live live)) some

    by_test : (b : Bool) → (c.current == number) ≡ b → c.current ≡ number
    by_test true is = eqb-true c.current number is
    by_test false is =
        let here = next_process s u runs in
        let at_place = at_place_of u.processes c.current here.0 here.1 in
        let above = number_some u.processes c.current here.0 here.1 in
        let past : c.current - 1 + 1 ≡ c.current = omega (arith, above) in
        let dead = alone.others (c.current - 1) (λ same. absurd (let no : true ≡ false = sym (eq-eqb c.current number (sym past ∙ same)) ∙ is in cc)) in
        absurd (let no : true ≡ false = sym (ap is_live here.2) ∙ (sym (ap lives_at at_place) ∙ dead) in cc)

-- no word comes in a run without a script
no_words : (number : ℕ) (u : World) → IsAlone number u → words_coming u ≡ 0
no_words number u alone =
    ap (λ (ws : List Word). cond (is_over u) 0 (cond (goes_further (live_flags u.processes) u.dispatch) 0 (words_before (live_flags u.processes) ws))) alone.script
    ∙ none (is_over u) (goes_further (live_flags u.processes) u.dispatch)
  where
    none : (a b : Bool) → ◌≡◌ {A = ℕ} (cond a 0 (cond b 0 0)) 0
    none true b = refl
    none false true = refl
    none false false = refl

-- a process that is as it was but for what it holds lives where it lived
lives_spared : (o p : Option Process) → AreSpared o p → lives_at p ≡ lives_at o
lives_spared None None spared = refl
lives_spared None (Some y) spared = absurd spared
lives_spared (Some x) None spared = absurd spared
lives_spared (Some x) (Some y) spared = ap (λ (z : Process). is_live z.state) spared.all_else

still_alone : (s : Setting) (number : ℕ) (u : World) (q : Process) → is_over u ≡ false → words_coming u ≡ 0 → process_at u.processes (next_dispatch s u).current ≡ Some q → (next_dispatch s u).current ≡ number
    → IsAlone number u → IsAlone number (step s u)
still_alone s number u q runs wordless at current alone = record {
  script = ap (λ (d : Dispatch). d.script) (step_dispatch s u q runs wordless at) ∙ no_script s.quantum (live_flags u.processes) u.dispatch alone.script;
  others = λ (place : ℕ) other.
      lives_spared (slice_get u.processes place) (slice_get (step s u).processes place) (step_spared s u place (λ same. other (same ∙ current)))
      ∙ alone.others place other;
}

-- Events.

same_event : (f : Renaming) (b o : Before) (e x : Effect) → o.number ≡ b.number → IsRenamedEffect f b o e x → event_by o.number x ≡ event_by b.number e
same_event f b o e x number same =
    ap (λ (n : ℕ). made n x.cpu x.state x.piece x.lines) number
    ∙ (ap (λ (c : Cpu). made b.number c x.state x.piece x.lines) same.cpu
    ∙ (ap (λ (z : State). made b.number e.cpu z x.piece x.lines) same.state
    ∙ (ap (λ (bs : List ℕ). made b.number e.cpu e.state bs x.lines) same.piece
    ∙ ap (λ (ls : List Line). made b.number e.cpu e.state e.piece ls) same.lines)))
  where
    made : ℕ → Cpu → State → List ℕ → List Line → Event
    made n c z bs ls = record { process = n; cpu = c; state = z; piece = bs; lines = ls }

events_append : (number : ℕ) (xs ys : List Event) → events_of number (xs ++ ys) ≡ events_of number xs ++ events_of number ys
events_append number [] ys = refl
events_append number (x ∷ xs) ys = go (x.process == number) (events_append number xs ys)
  where
    go : (b : Bool) → events_of number (xs ++ ys) ≡ events_of number xs ++ events_of number ys → cond b (x ∷ events_of number (xs ++ ys)) (events_of number (xs ++ ys)) ≡ cond b (x ∷ events_of number xs) (events_of number xs) ++ events_of number ys
    go true rest = ap (λ (es : List Event). x ∷ es) rest
    go false rest = rest

only_own : (number : ℕ) (x : Event) → x.process ≡ number → events_of number (x ∷ []) ≡ x ∷ []
only_own number x is = if_yes (x.process == number) (x ∷ []) [] (eq-eqb x.process number is)

not_own : (number : ℕ) (x : Event) → (x.process == number) ≡ false → events_of number (x ∷ []) ≡ []
not_own number x is = if_no (x.process == number) (x ∷ []) [] is

-- A step.

pub data Moved (s : Setting) (number : ℕ) (v u : World) : Type 0 where
  -- it isn't the process's
  Stays : events_of number (event_list (next_before s v)) ≡ [] → BeginsAlike number (step s v) u → Moved s number v u
  -- it is, and the next one of its run alone is the same
  Goes : (x : Event) → events_of number (event_list (next_before s v)) ≡ x ∷ [] → event_list (next_before s u) ≡ x ∷ [] → BeginsAlike number (step s v) (step s u) → Moved s number v u

module _ (s : Setting) (number : ℕ) (v u : World) (alike : BeginsAlike number v u) (wordless : words_coming v ≡ 0) (apart : IsApart v number) (ungiven : IsUngiven s v number) (quiet : IsQuiet s v number) (room : HasRoom s v number)
    (room_alone : (x : Event) → events_of number (event_list (next_before s v)) ≡ x ∷ [] → HasRoom s u number) where
  abbrev d : Dispatch
  d = next_dispatch s v

  abbrev c : Dispatch
  c = next_dispatch s u

  abbrev far : IsFurther number v u
  far = go_further alike.names number v u alike.like alike.sound.tied alike.sound_alone.tied

  abbrev p : Process
  p = far.like.process

  abbrev q : Process
  q = far.like.twin

  may : (n : ℕ) (r : Process) → RunsMayChange (before s v n r)
  may n r = runs_may s v n r alike.loads

  other_moves : is_over v ≡ false → (r : Process) → process_at v.processes d.current ≡ Some r → (d.current == number) ≡ false → Moved s number v u
  other_moves runs r at other =
      Stays (ap (λ (o : Option Before). events_of number (event_list o)) (next_is s v r runs wordless at) ∙ not_own number (event_of (before s v d.current r)) other) (record {
        names = alike.names;
        like = subst (λ (z : World). IsLike alike.names number z u) (sym (step_is s v r runs wordless at))
            (other_step s v alike.sound.tied alike.fixed d r at (may d.current r) alike.names number u alike.sound_alone.tied alike.like alike.sound.swept.used apart away (ungiven (before s v d.current r) (next_is s v r runs wordless at) away));
        sound = step_sound s v alike.sound;
        sound_alone = alike.sound_alone;
        fixed = subst (λ (z : World). AreFixed z.names) (sym (step_is s v r runs wordless at)) (fixed_step s v d r (may d.current r) alike.fixed);
        loads = subst AreLoadsApart (sym (step_is s v r runs wordless at)) (apart_step s v d r at alike.sound.tied alike.loads);
        is_alone = alike.is_alone;
        budget = let less = step_budget s v r runs wordless at in let most = alike.budget in omega (arith, less, most);
      })
    where
      away : d.current ≢ number
      away same = absurd (let no : true ≡ false = sym (eq-eqb d.current number same) ∙ other in cc)

  own_moves : is_over v ≡ false → p.state ≡ Live → d.current ≡ number → Moved s number v u
  own_moves runs live current = Goes (event_of one) one_event two_event begins
    where
      some : 0 < v.dispatch.budget
      some = (not_over (any_lives v.processes) v.dispatch.budget runs).1

      none : words_coming u ≡ 0
      none = no_words number u alike.is_alone

      next : NextAlone s number u q
      next = next_alone s number u q alike.is_alone far.like.there_too (far.like.state ∙ live) (let most = alike.budget in omega (arith, most, some))

      at : process_at v.processes d.current ≡ Some p
      at = ap (λ (n : ℕ). process_at v.processes n) current ∙ far.like.there

      at_alone : process_at u.processes c.current ≡ Some q
      at_alone = ap (λ (n : ℕ). process_at u.processes n) next.current ∙ far.like.there_too

      one : Before
      one = before s v number p

      two : Before
      two = before s u number q

      next_one : next_before s v ≡ Some one
      next_one = next_is s v p runs wordless at ∙ ap (λ (n : ℕ). Some (before s v n p)) current

      next_two : next_before s u ≡ Some two
      next_two = next_is s u q next.runs none at_alone ∙ ap (λ (n : ℕ). Some (before s u n q)) next.current

      one_event : events_of number (event_list (next_before s v)) ≡ event_of one ∷ []
      one_event = ap (λ (o : Option Before). events_of number (event_list o)) next_one ∙ only_own number (event_of one) refl

      g : Renaming
      g = far.names

      numbered : (j : ℕ) → u.next_name + j ≡ g (v.next_name + j)
      numbered j = (let is = far.range.fresh (v.next_name + j) (omega arith) in omega (arith, is))

      renamed : IsRenamedEffect g one two (effect one) (effect two)
      renamed =
          let same = same_before s g number v u far.like far.next in
          effect_renamed g one two same (asked_alike g one two same numbered (quiet one next_one refl) (room one next_one refl) (room_alone (event_of one) one_event two next_two refl))

      two_event : event_list (next_before s u) ≡ event_of one ∷ []
      two_event = ap event_list next_two ∙ ap (λ (x : Event). x ∷ []) (same_event g one two (effect one) (effect two) refl renamed)

      begins : BeginsAlike number (step s v) (step s u)
      begins = record {
        names = g;
        like = subst (λ (z : World). IsLike g number z (step s u)) (sym (step_is s v p runs wordless at))
            (subst (λ (z : World). IsLike g number (changed v d p (effect (before s v d.current p))) z) (sym (step_is s u q next.runs none at_alone))
            (own_step s number v u far alike.sound.tied alike.sound_alone.tied d c current next.current renamed (quiet_unshared one (call_of one) (quiet one next_one refl)) (may number p)));
        sound = step_sound s v alike.sound;
        sound_alone = step_sound s u alike.sound_alone;
        fixed = subst (λ (z : World). AreFixed z.names) (sym (step_is s v p runs wordless at)) (fixed_step s v d p (may d.current p) alike.fixed);
        loads = subst AreLoadsApart (sym (step_is s v p runs wordless at)) (apart_step s v d p at alike.sound.tied alike.loads);
        is_alone = still_alone s number u q next.runs none at_alone next.current alike.is_alone;
        budget = let less = step_budget s v p runs wordless at in let few = step_budget s u q next.runs none at_alone in let most = alike.budget in omega (arith, less, few, most);
      }

  pub moves : Moved s number v u
  moves = by_end (is_over v) refl
    where
      by_number : is_over v ≡ false → (b : Bool) → (d.current == number) ≡ b → Moved s number v u
      by_number runs true is =
          let here = next_process s v runs in
          let current = eqb-true d.current number is in
          let same = some_is here.0 p (process_at v.processes number) (ap (λ (n : ℕ). process_at v.processes n) (sym current) ∙ here.1) far.like.there in
          own_moves runs (ap (λ (x : Process). x.state) (sym same) ∙ here.2) current
      by_number runs false is = let here = next_process s v runs in other_moves runs here.0 here.1 is

      by_end : (b : Bool) → is_over v ≡ b → Moved s number v u
      by_end true over =
          Stays (ap (λ (o : Option Before). events_of number (event_list o)) (if_yes (is_over v) None (chosen_before s (ready v) d) over))
          (subst (λ (z : World). BeginsAlike number z u) (sym (over_stays s v over)) alike)
      by_end false runs = by_number runs (d.current == number) refl

-- The run.

record Follows (s : Setting) (w alone : World) (number k : ℕ) : Type 0 where
  same_events : events_of number (events s w k) ≡ events s alone (own_steps s w number k)
  begins : BeginsAlike number (after s w k) (after s alone (own_steps s w number k))

events_next : (s : Setting) (w : World) (number k : ℕ) → events_of number (events s w (suc k)) ≡ events_of number (events s w k) ++ events_of number (event_list (next_before s (after s w k)))
unfolding events
events_next s w number k = events_append number (events s w k) (event_list (next_before s (after s w k)))

events_alone : (s : Setting) (w : World) (k : ℕ) → events s w (suc k) ≡ events s w k ++ event_list (next_before s (after s w k))
unfolding events
events_alone s w k = refl

one_more : (xs : List Event) (x : Event) → length (xs ++ x ∷ []) ≡ suc (length xs)
one_more [] x = refl
one_more (y ∷ xs) x = ap suc (one_more xs x)

none_more : (xs : List Event) → xs ++ [] ≡ xs
none_more [] = refl
none_more (x ∷ xs) = ap (λ (ys : List Event). x ∷ ys) (none_more xs)

module _ (s : Setting) (w alone : World) (number : ℕ) (alike : BeginsAlike number w alone) where
  abbrev own : ℕ → ℕ
  own k = own_steps s w number k

  count_next : (k : ℕ) (es : List Event) → events_of number (event_list (next_before s (after s w k))) ≡ es → own (suc k) ≡ length (events_of number (events s w k) ++ es)
  count_next k es is = ap (λ (xs : List Event). length xs) (events_next s w number k ∙ ap (λ (xs : List Event). events_of number (events s w k) ++ xs) is)

  shorter : (k : ℕ) → own k ≤ own (suc k) → KeepsToItself s w alone number (suc k) → KeepsToItself s w alone number k
  shorter k few keeps = record {
    wordless = λ j low. keeps.wordless j (omega (arith, low));
    apart = λ j low. keeps.apart j (omega (arith, low));
    ungiven = λ j low. keeps.ungiven j (omega (arith, low));
    quiet = λ j low. keeps.quiet j (omega (arith, low));
    room = λ j low. keeps.room j (omega (arith, low));
    room_alone = λ j low. keeps.room_alone j (omega (arith, low, few));
  }

  never_fewer : (k : ℕ) → own k ≤ own (suc k)
  never_fewer k =
      let more = count_next k (events_of number (event_list (next_before s (after s w k)))) refl in
      let sum = length_append (events_of number (events s w k)) (events_of number (event_list (next_before s (after s w k)))) in
      omega (arith, more, sum)
    where
      length_append : (xs ys : List Event) → length (xs ++ ys) ≡ length xs + length ys
      length_append [] ys = omega arith
      length_append (x ∷ xs) ys = let ih = length_append xs ys in omega (arith, ih)

  next_follows : (k : ℕ) → Follows s w alone number k → Moved s number (after s w k) (after s alone (own k)) → Follows s w alone number (suc k)
  next_follows k so_far (Stays none begins) =
      let is : own (suc k) ≡ own k = count_next k [] none ∙ ap (λ (xs : List Event). length xs) (none_more (events_of number (events s w k))) in
      record {
        same_events = events_next s w number k ∙ (ap (λ (xs : List Event). events_of number (events s w k) ++ xs) none
            ∙ (none_more (events_of number (events s w k)) ∙ (so_far.same_events ∙ ap (λ (n : ℕ). events s alone n) (sym is))));
        begins = subst (λ (n : ℕ). BeginsAlike number (after s w (suc k)) (after s alone n)) (sym is) begins;
      }
  next_follows k so_far (Goes x one two begins) =
      let is : own (suc k) ≡ suc (own k) = count_next k (x ∷ []) one ∙ one_more (events_of number (events s w k)) x in
      record {
        same_events = events_next s w number k ∙ (ap (λ (xs : List Event). events_of number (events s w k) ++ xs) one
            ∙ (ap (λ (xs : List Event). xs ++ x ∷ []) so_far.same_events
            ∙ (ap (λ (xs : List Event). events s alone (own k) ++ xs) (sym two) ∙ (sym (events_alone s alone (own k)) ∙ ap (λ (n : ℕ). events s alone n) (sym is)))));
        begins = subst (λ (n : ℕ). BeginsAlike number (after s w (suc k)) (after s alone n)) (sym is) begins;
      }

  first_follows : Follows s w alone number 0
  unfolding events
  first_follows = record { same_events = refl; begins = alike }

  follows : (k : ℕ) → KeepsToItself s w alone number k → Follows s w alone number k
  follows zero keeps = first_follows
  follows (suc k) keeps =
      let so_far = follows k (shorter k (never_fewer k) keeps) in
      next_follows k so_far
      (moves s number (after s w k) (after s alone (own k)) so_far.begins (keeps.wordless k (omega arith)) (keeps.apart k (omega arith)) (keeps.ungiven k (omega arith)) (keeps.quiet k (omega arith)) (keeps.room k (omega arith))
      (λ x one. keeps.room_alone (own k) (let more = count_next k (x ∷ []) one ∙ one_more (events_of number (events s w k)) x in omega (arith, more))))

-- what is alike is the same but for the numbers of names
same_of : (f : Renaming) (number : ℕ) (w a : World) → IsLike f number w a → IsSame w a number
same_of f number w a like = record {
  cpu = ap (option_map (λ (p : Process). p.cpu)) like.there ∙ (ap Some (sym like.cpu) ∙ sym (ap (option_map (λ (p : Process). p.cpu)) like.there_too));
  state = ap (option_map (λ (p : Process). p.state)) like.there ∙ (ap Some (sym like.state) ∙ sym (ap (option_map (λ (p : Process). p.state)) like.there_too));
  held = λ (i : ℕ). ap nameless (here i) ∙ (no_name (get like.process.held i) ∙ ap nameless (sym (there i)));
  bytes = λ (i : ℕ). ap (held_bytes w.names) (here i) ∙ (by_hold (get like.process.held i) (like.segment i) ∙ ap (held_bytes a.names) (sym (there i)));
}
  where
    here : (i : ℕ) → held_at w.processes number i ≡ get like.process.held i
    here i = ap (λ (o : Option Process). held_of o i) like.there

    there : (i : ℕ) → held_at a.processes number i ≡ option_map (renamed_held f) (get like.process.held i)
    there i = ap (λ (o : Option Process). held_of o i) like.there_too ∙ like.held i

    no_name : (o : Option Held) → nameless o ≡ nameless (option_map (renamed_held f) o)
    no_name None = refl
    no_name (Some h) = refl

    by_hold : (o : Option Held) → ((h : Held) → o ≡ Some h → get a.names (f h.name) ≡ get w.names h.name) → held_bytes w.names o ≡ held_bytes a.names (option_map (renamed_held f) o)
    by_hold None same = refl
    by_hold (Some h) same = ap (λ (o : Option Segment). segment_bytes o) (sym (same h refl))

pub is_isolated : (s : Setting) (w alone : World) (number : ℕ) → BeginsAlike number w alone → (k : ℕ) → KeepsToItself s w alone number k → IsIsolated s w alone number k
is_isolated s w alone number alike k keeps =
    let f = follows s w alone number alike k keeps in
    record { same_events = f.same_events; same = same_of f.begins.names number (after s w k) (after s alone (own_steps s w number k)) f.begins.like }
