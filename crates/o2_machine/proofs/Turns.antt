-- What a turn does to the world that the machine stands for.
use Rattle.std.proofs.Common.{◌≡◌, ℕ, ◌+◌, ◌-◌, ◌<◌, nat_lt, ◌⊎◌, Bool, true, false, not, List, [], ◌∷◌, ◌++◌, Option, Some, ap, sym, ◌∙◌, refl, inl, inr, ◌==◌, if◌then◌else◌, subst, slice_set, length, length-append, arith}
use Rattle.std.specs.Prelude.{codes, Ok}
use Rattle.std.specs.List.{list_any}
use Rattle.std.proofs.lemmas.Grind.{flat_map-append}
use Rattle.o2_outer.specs.Texts.{Gains, GainsSome, IsPrefix, Continues}
use Rattle.o2_outer.proofs.TextLemmas.{continues_by, continues_in_part, gains_some}
use Rattle.o2_world.specs.World.{Line, World, Setting, Process, is_live}
use Rattle.o2_conf.specs.Dispatch.{Dispatch, counted, lives, words_ahead}
use Rattle.o2_world.specs.declared.types.State.TheVariants.{Live}
use Rattle.o2_world.specs.Holders.{process_at}
use Rattle.o2_world.specs.Calls.{Effect}
use Rattle.o2_world.specs.Effect.{effect, AsksInput}
use Rattle.o2_world.specs.Text.{lines_text, line_text}
use Rattle.o2_world.specs.Tied.{IsSound}
use Rattle.o2_world.proofs.StepMoves.{effect_moves}
use Rattle.o2_world.proofs.StepSound.{step_sound}
use Rattle.o2_world.proofs.StepTold.{step_told}
use Rattle.o2_world.specs.Reach.{IsTold}
use Rattle.o2_world.specs.Run.{before, changed, step, is_over, IsReadNext, any_lives, live_flags, console, last_line, next_dispatch, with_word, words_coming, working}
use Rattle.o2_world.proofs.Words.{ready_at_once, step_at_once}
use Rattle.o2_world.proofs.Flags.{live_process}
use Rattle.o2_run.specs.Room.{Fits}
use Rattle.o2_run.specs.Turn.{StepsOn, StepsInPart, IsStopped, IsClosed, IsClosedInPart, Turns, Caused, LineIs, OnGoing}
use Rattle.o2_run.specs.Pieces.{counts, told_counts, AtLine, FailedHands, FailsIn, FaultPart, Hands, puts_of, step_puts}
use Rattle.o2_stepping.specs.Pieces.{LatePart}
use Rattle.o2_run.specs.Stops.{StopFits, StopsFor, stop_line}
use Rattle.o2_run.specs.declared.steps.Stop.{Stop}
use Rattle.o2_run.specs.declared.steps.Stop.TheVariants.{Input, NoRoom, SwapFull, SwapFault}
use Rattle.o2_run.specs.declared.steps.Turn.{Turn}
use Rattle.o2_run.specs.declared.steps.Turn.TheVariants as turn
use Rattle.o2_sched.specs.Schedule.{PicksLive, Schedule, has_word, next_of, pick_of}
use Rattle.o2_sched.specs.declared.sched.Pick.{Pick}
use Rattle.o2_sched.specs.declared.sched.Pick.TheVariants.{Step, Discard, AllEnded, BudgetSpent}
use Rattle.o2_stepping.specs.Ran.{TakesText}
use Rattle.o2_stands.specs.Stands.{IsSetTo, IsTidy, Stands}
use Rattle.o2_stands.proofs.Matching.{stood_by}
use Rattle.o2_stands.proofs.TidySteps.{step_tidy}
use Rattle.o2_calls.specs.SharedActs.{AreSpelled}
use Rattle.o2_space.specs.Acts.{ActsAll, ActsInPart, ActsFault, SpellsBehind, Stays}
use Rattle.o2_space.specs.Begins.{Begins, HasTurn}
use Rattle.o2_space.specs.Nexts.{FaultSays}
use Rattle.o2_space.specs.Parts.{parts_in}
use Rattle.o2_space.specs.Stands.{MatchesAfter}
use Rattle.o2_space.specs.declared.space.Space.{Space}
use Rattle.o2_machine.specs.Steppeds.{stepped_sched}
use Rattle.o2_stepping.specs.declared.one_step.Ran.{Ran}
use Rattle.o2_run.specs.declared.fault.Fault.{Fault}
use Rattle.o2_run.specs.declared.fault.Fault.TheVariants.{Sink, Stopped}
use Rattle.o2_run.specs.Faults.{CauseOf, turn_of}
use Rattle.o2_stepping.specs.Tallies.{IsTally}
use Rattle.o2_machine.specs.StandsFor.{StandsFor}
use Rattle.o2_stepping.specs.declared.tally.Tally.{Tally}
use Rattle.o2_machine.specs.declared.machine.Machine.{Machine}
use Rattle.o2_machine.proofs.Behinds.{console_behind, dispatch_behind, flags_behind, flags_ended_behind, input_behind, lines_behind}

abbrev pub any_of : Schedule → Bool
any_of s = list_any (λ (x : Bool). x) s.flags

-- what a machine has counted of a step that left this space and put so much
pub record HasCounted (m n : Machine) (left : Space) (tally : Tally) : Type 0 where
  pub space : n.space ≡ left
  pub avail : left.services.avail ≡ m.space.services.avail
  pub budget : n.budget ≡ m.budget
  pub bytes : n.console_bytes ≡ m.console_bytes + tally.bytes
  pub lines : n.lines ≡ m.lines + tally.lines

-- nothing has changed but the space
pub record IsSame (m n : Machine) : Type 0 where
  pub sched : n.sched ≡ m.sched
  pub avail : n.space.services.avail ≡ m.space.services.avail
  pub budget : n.budget ≡ m.budget
  pub bytes : n.console_bytes ≡ m.console_bytes
  pub lines : n.lines ≡ m.lines

-- what the schedule picks
record IsPicked (s : Schedule) (n : ℕ) : Type 0 where
  any : any_of s ≡ true
  some : (s.dispatch.budget == 0) ≡ false
  wordless : has_word s ≡ false
  number : (next_of s).current ≡ n

-- by whether any lives, whether no budget is left, and whether a word comes
abbrev by_tests : (any none word : Bool) → ℕ → Pick
by_tests any none word a = if not any then AllEnded else (if none then BudgetSpent else (if word then Discard else Step a))

by_parts : (any none word : Bool) (a b : ℕ) → by_tests any none word a ≡ Step b → (any ≡ true) × ((none ≡ false) × ((word ≡ false) × (a ≡ b)))
by_parts true true word a b e = absurd (cc)
by_parts true false true a b e = absurd (cc)
by_parts true false false a b e = (refl, (refl, (refl, cc)))
by_parts false none word a b e = absurd (cc)

picked : (s : Schedule) (n : ℕ) → pick_of s ≡ Step n → IsPicked s n
picked s n e =
    let four = by_parts (any_of s) (s.dispatch.budget == 0) (has_word s) (next_of s).current n e in
    record { any = four.0; some = four.1.0; wordless = four.1.1.0; number = four.1.1.1 }

by_ended : (any none word : Bool) (a : ℕ) → by_tests any none word a ≡ AllEnded → any ≡ false
by_ended true true word a e = absurd (cc)
by_ended true false true a e = absurd (cc)
by_ended true false false a e = absurd (cc)
by_ended false none word a e = refl

pub none_left : (s : Schedule) → pick_of s ≡ AllEnded → any_of s ≡ false
none_left s e = by_ended (any_of s) (s.dispatch.budget == 0) (has_word s) (next_of s).current e

by_spent : (any none word : Bool) (a : ℕ) → by_tests any none word a ≡ BudgetSpent → (any ≡ true) × (none ≡ true)
by_spent true true word a e = (refl, refl)
by_spent true false true a e = absurd (cc)
by_spent true false false a e = absurd (cc)
by_spent false none word a e = absurd (cc)

pub all_spent : (s : Schedule) → pick_of s ≡ BudgetSpent → (any_of s ≡ true) × ((s.dispatch.budget == 0) ≡ true)
all_spent s e = by_spent (any_of s) (s.dispatch.budget == 0) (has_word s) (next_of s).current e

by_word : (any none word : Bool) (a : ℕ) → by_tests any none word a ≡ Discard → (any ≡ true) × ((none ≡ false) × (word ≡ true))
by_word true true word a e = absurd (cc)
by_word true false true a e = (refl, (refl, refl))
by_word true false false a e = absurd (cc)
by_word false none word a e = absurd (cc)

pub word_comes : (s : Schedule) → pick_of s ≡ Discard → (any_of s ≡ true) × (((s.dispatch.budget == 0) ≡ false) × (has_word s ≡ true))
word_comes s e = by_word (any_of s) (s.dispatch.budget == 0) (has_word s) (next_of s).current e

-- a process that is picked lives
pub live_of : (flags : List Bool) (p : Pick) (n : ℕ) → p ≡ Step n → PicksLive flags p → lives flags n ≡ true
live_of flags p n is live = subst (PicksLive flags) is live

pub any_is : (m : Machine) (w : World) (b : Bool) → live_flags w.processes ≡ m.sched.flags → any_of m.sched ≡ b → any_lives w.processes ≡ b
any_is m w b flags e = ap (λ (x : List Bool). list_any (λ (y : Bool). y) x) flags ∙ e

-- a run that goes on, and the words of its dispatch
pub not_over : (m : Machine) (device : ℕ) (block : ℕ → List ℕ) (s : Setting) (w : World) → StandsFor m device block s w → any_of m.sched ≡ true → (m.sched.dispatch.budget == 0) ≡ false → is_over w ≡ false
not_over m device block s w stands any some = rw (any_is m w true stands.flags any, stands.dispatch, some) refl

coming_is : (m : Machine) (device : ℕ) (block : ℕ → List ℕ) (s : Setting) (w : World) → StandsFor m device block s w → is_over w ≡ false → words_coming w ≡ words_ahead m.sched.flags m.sched.dispatch
coming_is m device block s w stands runs =
    ap (λ (b : Bool). if b then 0 else words_ahead (live_flags w.processes) w.dispatch) runs
    ∙ (ap (λ (f : List Bool). words_ahead f w.dispatch) stands.flags ∙ ap (words_ahead m.sched.flags) stands.dispatch)

none_of : (n : ℕ) → nat_lt 0 n ≡ false → n ≡ 0
none_of n e = grind arith

some_of : (n : ℕ) → nat_lt 0 n ≡ true → 0 < n
some_of n e = grind arith

pub no_word : (m : Machine) (device : ℕ) (block : ℕ → List ℕ) (s : Setting) (w : World) → StandsFor m device block s w → any_of m.sched ≡ true → (m.sched.dispatch.budget == 0) ≡ false → has_word m.sched ≡ false
    → words_coming w ≡ 0
no_word m device block s w stands any some none =
    coming_is m device block s w stands (not_over m device block s w stands any some) ∙ none_of (words_ahead m.sched.flags m.sched.dispatch) none

pub some_word : (m : Machine) (device : ℕ) (block : ℕ → List ℕ) (s : Setting) (w : World) → StandsFor m device block s w → any_of m.sched ≡ true → (m.sched.dispatch.budget == 0) ≡ false → has_word m.sched ≡ true
    → 0 < words_coming w
some_word m device block s w stands any some word =
    subst (λ (n : ℕ). 0 < n) (sym (coming_is m device block s w stands (not_over m device block s w stands any some))) (some_of (words_ahead m.sched.flags m.sched.dispatch) word)

module _ (m : Machine) (device : ℕ) (block : ℕ → List ℕ) (s : Setting) (w : World) (p : Process) (c d r q : Option (List ℕ))
    (stands : StandsFor m device block s w) (any : any_of m.sched ≡ true) (some : (m.sched.dispatch.budget == 0) ≡ false) (at : process_at w.processes (next_of m.sched).current ≡ Some p) (wordless : words_coming w ≡ 0) where
  abbrev pub made : Effect
  made = effect (before s w (next_of m.sched).current p)

  next_is : next_dispatch s w ≡ next_of m.sched
  next_is = rw (stands.flags, stands.dispatch, stands.quantum) refl

  runs : is_over w ≡ false
  runs = rw (any_is m w true stands.flags any, stands.dispatch, some) refl

  abbrev behind : World
  behind = changed w (next_of m.sched) p made

  step_is : step s w ≡ behind
  step_is = step_at_once s w runs wordless ∙ rw (next_is, at) refl

  console_of : console (step s w) ≡ console w ++ made.piece
  console_of = ap console step_is ∙ console_behind w (next_of m.sched) p made

  input_of : (step s w).input ≡ made.input
  input_of = ap (λ (v : World). v.input) step_is ∙ input_behind w (next_of m.sched) p made

  lines_of : lines_text (step s w).lines ≡ lines_text w.lines ++ lines_text made.lines
  lines_of =
      ap (λ (v : World). lines_text v.lines) step_is
      ∙ (ap (λ (l : List Line). lines_text l) (lines_behind w (next_of m.sched) p made) ∙ flat_map-append line_text w.lines made.lines)

  -- over what the device is behind the step
  stands_next : (n : Machine) (count : ℕ) (holds : ℕ → List ℕ) (left : Space) (tally : Tally)
      → MatchesAfter w (next_of m.sched).current p made (parts_in left count holds) → IsSetTo (parts_in left count holds) s → AreSpelled left.store left.names behind
      → n.sched.dispatch ≡ counted (next_of m.sched) → n.sched.quantum ≡ m.sched.quantum → live_flags behind.processes ≡ n.sched.flags
      → IsTally made tally → HasCounted m n left tally → StandsFor n count holds s (step s w)
  stands_next n count holds left tally matches set spells dispatch quantum flags puts counts = subst (λ (v : World). StandsFor n count holds s v) (sym step_is) (record {
    space =
        subst (λ (z : Space). Stands (parts_in z count holds) behind) (sym counts.space)
        (stood_by (parts_in left count holds) behind.processes behind.names behind.next_name behind.reserved (matches (next_of m.sched) refl)
        (subst (λ (v : World). IsTidy v.processes v.names v.reserved) step_is (step_tidy s w stands.sound stands.space.tidy)));
    sound = subst (λ (v : World). IsSound v) step_is (step_sound s w stands.sound);
    told = subst (λ (v : World). IsTold v) step_is (step_told s w stands.sound stands.told);
    set = subst (λ (z : Space). IsSetTo (parts_in z count holds) s) (sym counts.space) set;
    flags = flags;
    dispatch = dispatch_behind w (next_of m.sched) p made ∙ sym dispatch;
    quantum = stands.quantum ∙ sym quantum;
    known = record { avail = stands.known.avail ∙ sym (ap (λ (z : Space). z.services.avail) counts.space ∙ counts.avail) };
    spells = subst (λ (z : Space). AreSpelled z.store z.names behind) (sym counts.space) spells;
    budget = stands.budget ∙ sym counts.budget;
    console = ap (λ (l : List ℕ). length l) (console_behind w (next_of m.sched) p made) ∙ length-append w.console made.piece ∙ omega (arith, stands.console, puts.bytes, counts.bytes);
    lines = ap (λ (l : List Line). length l) (lines_behind w (next_of m.sched) p made) ∙ length-append w.lines made.lines ∙ omega (arith, stands.lines, puts.lines, counts.lines);
  })

  pub steps_in_part : (f : World → Type 0) (j : Option (List ℕ)) → Fits true s w → j ≡ Some made.input → f w ⊎ f (step s w) → GainsSome c d (λ front. IsPrefix front made.piece) → GainsSome r q (λ front. IsPrefix front (lines_text made.lines))
      → (q ≡ r) ⊎ Gains c d made.piece → StepsInPart f true s w j c d r q
  steps_in_part f j room left now to_console to_report in_order = record {
    runs = runs;
    room = room;
    input = left ∙ ap Some (sym input_of);
    stands = now;
    to_console = rw console_of (continues_in_part made.piece (console w) c d to_console);
    to_report = rw lines_of (continues_in_part (lines_text made.lines) (lines_text w.lines) r q to_report);
    in_order = in_order_of in_order;
  } where
    in_order_of : (q ≡ r) ⊎ Gains c d made.piece → (q ≡ r) ⊎ Continues c d (console w) (console (step s w))
    in_order_of (inl same) = inl same
    in_order_of (inr whole) = inr (rw console_of (continues_by made.piece (console w) c d whole))

  pub steps_on : (f : World → Type 0) (i : Option (List ℕ)) → Fits true s w → i ≡ Some made.input → f (step s w) → Gains c d made.piece → Gains r q (lines_text made.lines) → StepsOn f true s w i c d r q
  steps_on f i room left now to_console to_report = record {
    runs = runs;
    room = room;
    input = left ∙ ap Some (sym input_of);
    stands = now;
    to_console = rw console_of (continues_by made.piece (console w) c d to_console);
    to_report = rw lines_of (continues_by (lines_text made.lines) (lines_text w.lines) r q to_report);
  }

  -- The puts.

  bytes_of : length (step s w).console ≡ length w.console + length made.piece
  bytes_of = ap length console_of ∙ length-append w.console made.piece

  lines_length : length (step s w).lines ≡ length w.lines + length made.lines
  lines_length =
      ap (λ (v : World). length v.lines) step_is
      ∙ (ap (λ (l : List Line). length l) (lines_behind w (next_of m.sched) p made) ∙ length-append w.lines made.lines)

  put_is : (bytes : ℕ) → length made.piece ≡ bytes → bytes ≡ length (step s w).console - length w.console
  put_is bytes is = omega (arith, is, bytes_of)

  module _ (a b x y : ℕ) (told now : Option (List ℕ)) where
    pub step_hands : (bytes lines : ℕ) → length made.piece ≡ bytes → length made.lines ≡ lines → Hands (counts a b x y 0) (puts_of bytes) lines
        → Hands (told_counts a b x y (length w.lines) told now) (step_puts w (step s w)) (length (step s w).lines)
    step_hands bytes lines piece_is lines_is h = record {
      to_console = h.to_console ∙ ap (λ (n : ℕ). a + puts_of n) (put_is bytes piece_is);
      to_report = omega (arith, h.to_report, lines_is, lines_length);
    }

    adds : (step s w).lines ≡ w.lines ++ made.lines
    adds = ap (λ (v : World). v.lines) step_is ∙ lines_behind w (next_of m.sched) p made

    pub part_hands : FailsIn (length made.piece) made.lines a b told now x y → FailedHands s w (told_counts a b x y (length w.lines) told now)
    part_hands h = record {
      in_step = λ on. record { lines = made.lines; adds = adds; fails = subst (λ (n : ℕ). FailsIn n made.lines a b told now x y) (put_is (length made.piece) refl) h };
      at_end = λ over. let never : true ≡ false = sym over ∙ runs in absurd (cc);
    }

-- for the same world, over what the device is behind a turn that did no step
pub same_space : (n m : Machine) (device count : ℕ) (block holds : ℕ → List ℕ) (s : Setting) (w : World) → StandsFor m device block s w → IsSame m n
    → Stands (parts_in n.space count holds) w → IsSetTo (parts_in n.space count holds) s → AreSpelled n.space.store n.space.names w → StandsFor n count holds s w
same_space n m device count block holds s w stands same space set spells = record {
  space = space;
  sound = stands.sound;
  told = stands.told;
  set = set;
  flags = stands.flags ∙ ap (λ (z : Schedule). z.flags) (sym same.sched);
  dispatch = stands.dispatch ∙ ap (λ (z : Schedule). z.dispatch) (sym same.sched);
  quantum = stands.quantum ∙ ap (λ (z : Schedule). z.quantum) (sym same.sched);
  known = record { avail = stands.known.avail ∙ sym same.avail };
  spells = spells;
  budget = stands.budget ∙ sym same.budget;
  console = stands.console ∙ sym same.bytes;
  lines = stands.lines ∙ sym same.lines;
}

-- from where a step of a process begins
module _ {m : Machine} {device : ℕ} {block : ℕ → List ℕ} {s : Setting} {w : World} (stands : StandsFor m device block s w) where
  pub begins_here : {number : ℕ} {p : Process} {left : Option (List ℕ)} → process_at w.processes number ≡ Some p → left ≡ Some w.input → Begins m.space device block s w number p left
  begins_here at left = record { here = record { stands = stands.space; process = at }; input = left; known = stands.known }

  pub turn_here : {number : ℕ} → pick_of m.sched ≡ Step number → (next_dispatch s w).current ≡ number → HasTurn m.space device block s w number
  turn_here {number} pick chosen =
      let is = picked m.sched number pick in
      record { agrees = record { set = stands.set; spelled = stands.spells }; sound = stands.sound; turn = chosen; wordless = no_word m device block s w stands is.any is.some is.wordless }

module _ (m : Machine) (device : ℕ) (block : ℕ → List ℕ) (s : Setting) (w : World) (number : ℕ) (c d r q : Option (List ℕ))
    (stands : StandsFor m device block s w) (pick : pick_of m.sched ≡ Step number) (live : lives m.sched.flags number ≡ true) where
  abbrev pub k : ℕ
  k = (next_of m.sched).current

  is : IsPicked m.sched number
  is = picked m.sched number pick

  found_at : (p : Process) × (process_at w.processes k ≡ Some p) × (p.state ≡ Live)
  found_at = live_process w.processes m.sched.flags k stands.flags (ap (lives m.sched.flags) is.number ∙ live)

  abbrev here : Process
  here = found_at.0

  here_is : process_at w.processes k ≡ Some here
  here_is = found_at.1

  -- before which no word comes
  pub none_comes : words_coming w ≡ 0
  none_comes = no_word m device block s w stands is.any is.some is.wordless

  -- the next step is this process's
  current_is : (next_dispatch s w).current ≡ number
  current_is = ap (λ (z : Dispatch). z.current) (next_is m device block s w here c d r q stands is.any is.some here_is none_comes) ∙ is.number

  -- what is said of the process of this number is so of it
  at_k : (P : ℕ → Process → Type 0) → ((p : Process) → process_at w.processes number ≡ Some p → P number p) → P k here
  at_k P did = subst (λ (z : ℕ). (p : Process) → process_at w.processes z ≡ Some p → P z p) (sym is.number) did here here_is

  -- what follows of whichever process is next is so
  pub of_next : (X : Type 0) → (is_over w ≡ false → (next_dispatch s w).current ≡ number → (p : Process) → process_at w.processes number ≡ Some p → X) → X
  of_next X did = at_k (λ z p. X) (did (runs m device block s w here c d r q stands is.any is.some here_is none_comes) current_is)

  -- over what the device is behind it
  module _ (n : Machine) (count : ℕ) (holds : ℕ → List ℕ) where
    abbrev stands_now : World → Type 0
    stands_now = StandsFor n count holds s

    pub faulted : (i j : Option (List ℕ)) → IsSame m n → IsSetTo (parts_in n.space count holds) s
        → ((next_dispatch s w).current ≡ number → (p : Process) → process_at w.processes number ≡ Some p → ActsInPart w (effect (before s w number p)) p.cpu (parts_in n.space count holds) i j c d r q)
        → ((next_dispatch s w).current ≡ number → (p : Process) → process_at w.processes number ≡ Some p → Fits true s w)
        → ((next_dispatch s w).current ≡ number → (p : Process) → process_at w.processes number ≡ Some p → AreSpelled n.space.store n.space.names w)
        → StepsInPart stands_now true s w j c d r q
    faulted i j same set did room spelt =
        let all = at_k (λ z p. ActsInPart w (effect (before s w z p)) p.cpu (parts_in n.space count holds) i j c d r q) (did current_is) in
        steps_in_part m device block s w here c d r q stands is.any is.some here_is none_comes stands_now j (at_k (λ z p. Fits true s w) (room current_is))
        all.input (inl (same_space n m device count block holds s w stands same all.stands set (at_k (λ z p. AreSpelled n.space.store n.space.names w) (spelt current_is)))) all.to_console all.to_report all.in_order

    module _ (i : Option (List ℕ)) (left : Space) (ran : Ran) (counts : HasCounted m n left ran.tally) (set : IsSetTo (parts_in left count holds) s)
        (did : (next_dispatch s w).current ≡ number → (p : Process) → process_at w.processes number ≡ Some p → ActsAll w number p (effect (before s w number p)) ran (parts_in left count holds) i c d r q)
        (room : (next_dispatch s w).current ≡ number → (p : Process) → process_at w.processes number ≡ Some p → Fits true s w)
        (spelt : (next_dispatch s w).current ≡ number → (p : Process) → process_at w.processes number ≡ Some p → SpellsBehind (before s w number p) w p left.store left.names (Ok ran))
        (sched : n.sched ≡ stepped_sched m.sched number (is_live ran.state)) where
      abbrev e : Effect
      e = effect (before s w k here)

      all : ActsAll w k here e ran (parts_in left count holds) i c d r q
      all = at_k (λ z p. ActsAll w z p (effect (before s w z p)) ran (parts_in left count holds) i c d r q) (did current_is)

      -- it lives as long as the step lasts
      lasts : is_live (working here e).state ≡ true
      lasts = go (is_live e.state) refl
        where
          go : (b : Bool) → is_live e.state ≡ b → is_live (if b then e.state else here.state) ≡ true
          go true f = f
          go false f = ap is_live found_at.2

      flags_next : (goes_on : Bool) → is_live e.state ≡ goes_on → live_flags (changed w (next_of m.sched) here e).processes ≡ (stepped_sched m.sched number goes_on).flags
      flags_next true goes =
          flags_behind w (next_of m.sched) here e m.sched.flags stands.flags (ap (lives m.sched.flags) is.number ∙ live) lasts (before s w k here) (effect_moves (before s w k here)) goes
      flags_next false ends =
          flags_ended_behind w (next_of m.sched) here e m.sched.flags stands.flags (ap (lives m.sched.flags) is.number ∙ live) lasts (before s w k here) (effect_moves (before s w k here)) ends
          ∙ ap (λ (z : ℕ). slice_set m.sched.flags (z - 1) false) is.number

      fits : Fits true s w
      fits = at_k (λ z p. Fits true s w) (room current_is)

      -- the machine stands for the world after the step
      now : stands_now (step s w)
      now = stands_next m device block s w here c d r q stands is.any is.some here_is none_comes n count holds left ran.tally all.matches set
          (at_k (λ z p. SpellsBehind (before s w z p) w p left.store left.names (Ok ran)) (spelt current_is) (next_of m.sched) refl)
          (ap (λ (z : Schedule). z.dispatch) sched) (ap (λ (z : Schedule). z.quantum) sched)
          (flags_next (is_live ran.state) (ap is_live all.state) ∙ sym (ap (λ (z : Schedule). z.flags) sched)) all.puts counts

      pub went : ran.whole ≡ true → StepsOn stands_now true s w i c d r q
      went whole = steps_on m device block s w here c d r q stands is.any is.some here_is none_comes stands_now i fits all.input now all.to_console
          (subst (λ (z : Bool). TakesText z r q (lines_text e.lines)) whole all.to_report)

      pub late : ran.whole ≡ false → StepsInPart stands_now true s w i c d r q
      late part = steps_in_part m device block s w here c d r q stands is.any is.some here_is none_comes stands_now i fits all.input (inr now) (gains_some _ c d all.to_console)
          (subst (λ (z : Bool). TakesText z r q (lines_text e.lines)) part all.to_report) (inr all.to_console)

    -- no step is done: the machine stands for the world before it, and there is a cause in that world
    halts : (why : Stop) (put : Bool) (i j s_of : Option (List ℕ)) → StopsFor device s w why → StopFits true s w why → IsSame m n → i ≡ Some w.input → IsSetTo (parts_in n.space count holds) s
        → Stays w (parts_in n.space count holds) i j c d r s_of → AreSpelled n.space.store n.space.names w → GainsSome s_of q (λ front. IsPrefix front (stop_line why)) → (put ≡ true → Gains s_of q (stop_line why))
        → IsStopped stands_now true device s w why put j c d r q
    halts why put i j s_of cause fit same left set all spells front whole = record {
      runs = runs m device block s w here c d r q stands is.any is.some here_is none_comes;
      cause = cause;
      fits = fit;
      stands = same_space n m device count block holds s w stands same all.stands set spells;
      input = all.input ∙ left;
      to_console = all.to_console;
      to_report = continues_in_part (stop_line why) (lines_text w.lines) r q (subst (λ (z : Option (List ℕ)). GainsSome z q (λ front. IsPrefix front (stop_line why))) all.to_report front);
      whole = λ e. continues_by (stop_line why) (lines_text w.lines) r q (subst (λ (z : Option (List ℕ)). Gains z q (stop_line why)) all.to_report (whole e));
    }

    -- at an input fault the next step is one that asks the input
    reads : AsksInput (before s w k here) → IsReadNext s w
    reads asks =
        let next = next_is m device block s w here c d r q stands is.any is.some here_is none_comes in
        record {
          process = here;
          there = ap (λ (z : Dispatch). process_at w.processes z.current) next ∙ here_is;
          reads = subst (λ (v : World). AsksInput (before s v (next_dispatch s w).current here)) (sym (ready_at_once w none_comes)) (subst (λ (z : Dispatch). AsksInput (before s w z.current here)) (sym next) asks);
        }

    -- whatever stop a step answers
    pub stopped_by : (why : Stop) (put : Bool) (i j s_of : Option (List ℕ)) → IsSame m n → i ≡ Some w.input → IsSetTo (parts_in n.space count holds) s
        → ((next_dispatch s w).current ≡ number → (p : Process) → process_at w.processes number ≡ Some p → ActsFault (before s w number p) w (parts_in n.space count holds) i j c d r s_of (Stopped why))
        → ((next_dispatch s w).current ≡ number → (p : Process) → process_at w.processes number ≡ Some p → FaultSays device s w (Stopped why))
        → ((next_dispatch s w).current ≡ number → (p : Process) → process_at w.processes number ≡ Some p → AreSpelled n.space.store n.space.names w)
        → GainsSome s_of q (λ front. IsPrefix front (stop_line why)) → (put ≡ true → Gains s_of q (stop_line why)) → Turns stands_now true device s w put j c d r q (turn_of why)
    stopped_by Input put i j s_of same left set did says spelt front whole =
        let all = at_k (λ z p. ActsFault (before s w z p) w (parts_in n.space count holds) i j c d r s_of (Stopped Input)) (did current_is) in
        (none_comes, halts Input put i j s_of (reads all.cause) (at_k (λ z p. FaultSays device s w (Stopped Input)) (says current_is)) same left set all.still (at_k (λ z p. AreSpelled n.space.store n.space.names w) (spelt current_is)) front whole)
    stopped_by NoRoom put i j s_of same left set did says spelt front whole = (
      none_comes,
      halts NoRoom put i j s_of (at_k (λ z p. FaultSays device s w (Stopped NoRoom)) (says current_is)) tt same left set
          (at_k (λ z p. ActsFault (before s w z p) w (parts_in n.space count holds) i j c d r s_of (Stopped NoRoom)) (did current_is)) (at_k (λ z p. AreSpelled n.space.store n.space.names w) (spelt current_is)) front whole,
    )
    stopped_by SwapFull put i j s_of same left set did says spelt front whole = (
      none_comes,
      halts SwapFull put i j s_of (at_k (λ z p. FaultSays device s w (Stopped SwapFull)) (says current_is)) tt same left set
          (at_k (λ z p. ActsFault (before s w z p) w (parts_in n.space count holds) i j c d r s_of (Stopped SwapFull)) (did current_is)) (at_k (λ z p. AreSpelled n.space.store n.space.names w) (spelt current_is)) front whole,
    )
    stopped_by SwapFault put i j s_of same left set did says spelt front whole = (
      none_comes,
      halts SwapFault put i j s_of tt tt same left set
          (at_k (λ z p. ActsFault (before s w z p) w (parts_in n.space count holds) i j c d r s_of (Stopped SwapFault)) (did current_is)) (at_k (λ z p. AreSpelled n.space.store n.space.names w) (spelt current_is)) front whole,
    )

  -- The puts of a step that is done, whole or not, and of one in which a sink failed.
  module _ (a b x y : ℕ) (told now : Option (List ℕ)) where
    pub failed_puts : ((next_dispatch s w).current ≡ number → (p : Process) → process_at w.processes number ≡ Some p
        → FaultPart (effect (before s w number p)) (told_counts a b x y 0 told now) Sink) → FailedHands s w (told_counts a b x y (length w.lines) told now)
    failed_puts did =
        part_hands m device block s w here c d r q stands is.any is.some here_is none_comes a b x y told now
        (at_k (λ z p. FaultPart (effect (before s w z p)) (told_counts a b x y 0 told now) Sink) (did current_is))

    pub late_puts : ((next_dispatch s w).current ≡ number → (p : Process) → process_at w.processes number ≡ Some p
        → LatePart false (effect (before s w number p)) (told_counts a b x y 0 told now)) → FailedHands s w (told_counts a b x y (length w.lines) told now)
    late_puts did =
        let late = at_k (λ z p. LatePart false (effect (before s w z p)) (told_counts a b x y 0 told now)) (did current_is) in
        part_hands m device block s w here c d r q stands is.any is.some here_is none_comes a b x y told now (AtLine late.0 late.1)

    module _ (tally : Tally) (did : (next_dispatch s w).current ≡ number → (p : Process) → process_at w.processes number ≡ Some p → IsTally (effect (before s w number p)) tally) where
      so : IsTally (effect (before s w k here)) tally
      so = at_k (λ z p. IsTally (effect (before s w z p)) tally) (did current_is)

      pub went_puts : Hands (counts a b x y 0) (puts_of tally.bytes) tally.lines → Hands (told_counts a b x y (length w.lines) told now) (step_puts w (step s w)) (length (step s w).lines)
      went_puts hands = step_hands m device block s w here c d r q stands is.any is.some here_is none_comes a b x y told now tally.bytes tally.lines so.bytes so.lines hands

-- what caused a step to stop
pub caused_stop : (sink other input full device : Type 0) (f : Fault) (why : Stop) → f ≡ Stopped why → CauseOf sink input full device f → Caused other input (Unit {0}) (turn_of why)
caused_stop sink other input full device f why is h = by_stop why (subst (λ (z : Fault). CauseOf sink input full device z) is h)
  where
    by_stop : (why : Stop) → CauseOf sink input full device (Stopped why) → Caused other input (Unit {0}) (turn_of why)
    by_stop Input h = h
    by_stop NoRoom h = tt
    by_stop SwapFull h = tt
    by_stop SwapFault h = tt

-- the device failed where a turn says so
pub failed_stop : (f : Fault) (why : Stop) → f ≡ Stopped why → turn_of why ≡ turn.SwapFault → f ≡ Stopped SwapFault
failed_stop f Input is h = absurd (cc)
failed_stop f NoRoom is h = absurd (cc)
failed_stop f SwapFull is h = absurd (cc)
failed_stop f SwapFault is h = is

pub caused_device : (sink input device : Type 0) (t : Turn) → Caused sink input (Unit {0}) t → (t ≡ turn.SwapFault → device) → Caused sink input device t
caused_device sink input device turn.Ran h failed = h
caused_device sink input device turn.Discarded h failed = h
caused_device sink input device turn.AllEnded h failed = h
caused_device sink input device turn.BudgetSpent h failed = h
caused_device sink input device turn.InputFault h failed = h
caused_device sink input device turn.SinkFault h failed = h
caused_device sink input device turn.NoRoom h failed = h
caused_device sink input device turn.SwapFull h failed = h
caused_device sink input device turn.SwapFault h failed = failed refl

pub line_of_stop : (put : Bool) (fault : Type 0) (why : Stop) → (put ≡ false → fault) → LineIs put fault (turn_of why)
line_of_stop put fault Input h = h
line_of_stop put fault NoRoom h = h
line_of_stop put fault SwapFull h = h
line_of_stop put fault SwapFault h = h

pub left_at_stop : (P : Type 0) (why : Stop) → OnGoing (turn_of why) P
left_at_stop P Input = tt
left_at_stop P NoRoom = tt
left_at_stop P SwapFull = tt
left_at_stop P SwapFault = tt

-- the last line, whole or in part
module _ (m n : Machine) (device : ℕ) (block : ℕ → List ℕ) (s : Setting) (w : World) (i c r q : Option (List ℕ))
    (stands : StandsFor m device block s w) (same : IsSame m n) (space : n.space ≡ m.space) (left : i ≡ Some w.input) where
  abbrev stands_still : World → Type 0
  stands_still = StandsFor n device block s

  stays : stands_still w
  stays = same_space n m device device block block s w stands same
      (subst (λ (z : Space). Stands (parts_in z device block) w) (sym space) stands.space) (subst (λ (z : Space). IsSetTo (parts_in z device block) s) (sym space) stands.set)
      (subst (λ (z : Space). AreSpelled z.store z.names w) (sym space) stands.spells)

  closed : (lives : Bool) (text : List ℕ) → any_lives w.processes ≡ lives → is_over w ≡ true → last_line w ≡ text → Gains r q text → IsClosed stands_still w lives i c c r q
  closed lives text by over last g = record { over = over; by = by; stands = stays; input = left; to_console = refl; to_report = rw last (continues_by text (lines_text w.lines) r q g) }

  closed_in_part : (text : List ℕ) → is_over w ≡ true → last_line w ≡ text → GainsSome r q (λ front. IsPrefix front text) → IsClosedInPart stands_still w i c c r q
  closed_in_part text over last g = record { over = over; stands = stays; input = left; to_console = refl; to_report = rw last (continues_in_part text (lines_text w.lines) r q g) }

  none_lives : pick_of m.sched ≡ AllEnded → any_lives w.processes ≡ false
  none_lives pick = any_is m w false stands.flags (none_left m.sched pick)

  pub closes_ended : pick_of m.sched ≡ AllEnded → Gains r q (codes "all ended" ++ 10 ∷ []) → IsClosed stands_still w false i c c r q
  closes_ended pick g = closed false _ (none_lives pick) (rw (none_lives pick) refl) (rw (none_lives pick) refl) g

  pub ended_in_part : pick_of m.sched ≡ AllEnded → GainsSome r q (λ front. IsPrefix front (codes "all ended" ++ 10 ∷ [])) → IsClosedInPart stands_still w i c c r q
  ended_in_part pick g = closed_in_part _ (rw (none_lives pick) refl) (rw (none_lives pick) refl) g

  some_lives : pick_of m.sched ≡ BudgetSpent → (any_lives w.processes ≡ true) × ((w.dispatch.budget == 0) ≡ true)
  some_lives pick =
      let both = all_spent m.sched pick in
      (any_is m w true stands.flags both.0, ap (λ (d : Dispatch). d.budget == 0) stands.dispatch ∙ both.1)

  pub closes_spent : pick_of m.sched ≡ BudgetSpent → Gains r q (codes "budget spent" ++ 10 ∷ []) → IsClosed stands_still w true i c c r q
  closes_spent pick g = let both = some_lives pick in closed true _ both.0 (rw (both.0, both.1) refl) (rw (both.0, both.1) refl) g

  pub spent_in_part : pick_of m.sched ≡ BudgetSpent → GainsSome r q (λ front. IsPrefix front (codes "budget spent" ++ 10 ∷ [])) → IsClosedInPart stands_still w i c c r q
  spent_in_part pick g = let both = some_lives pick in closed_in_part _ (rw (both.0, both.1) refl) (rw (both.0, both.1) refl) g

-- what a machine stands for doesn't depend on the answer that it keeps
stop_moves : (f g : World → Type 0) → ((w : World) → f w → g w)
    → (swaps : Bool) (blocks : ℕ) (s : Setting) (w : World) (put : Bool) (i c d r q : Option (List ℕ)) (why : Stop)
    → IsStopped f swaps blocks s w why put i c d r q → IsStopped g swaps blocks s w why put i c d r q
stop_moves f g h swaps blocks s w put i c d r q why x = record { runs = x.runs; cause = x.cause; fits = x.fits; stands = h w x.stands; input = x.input; to_console = x.to_console; to_report = x.to_report; whole = x.whole }

turns_move : (f g : World → Type 0) → ((w : World) → f w → g w) → (swaps : Bool) (blocks : ℕ) (s : Setting) (w : World) (put : Bool) (i c d r q : Option (List ℕ)) (t : Turn) → Turns f swaps blocks s w put i c d r q t → Turns g swaps blocks s w put i c d r q t
turns_move f g h swaps blocks s w put i c d r q turn.Ran x = (x.0, record { runs = x.1.runs; room = x.1.room; input = x.1.input; stands = h (step s w) x.1.stands; to_console = x.1.to_console; to_report = x.1.to_report })
turns_move f g h swaps blocks s w put i c d r q turn.Discarded x = record { next = x.next; input = x.input; stands = h (with_word w) x.stands; to_console = x.to_console; to_report = x.to_report }
turns_move f g h swaps blocks s w put i c d r q turn.AllEnded x = record { over = x.over; by = x.by; stands = h w x.stands; input = x.input; to_console = x.to_console; to_report = x.to_report }
turns_move f g h swaps blocks s w put i c d r q turn.BudgetSpent x = record { over = x.over; by = x.by; stands = h w x.stands; input = x.input; to_console = x.to_console; to_report = x.to_report }
turns_move f g h swaps blocks s w put i c d r q turn.InputFault x = (x.0, stop_moves f g h swaps blocks s w put i c d r q Input x.1)
turns_move f g h swaps blocks s w put i c d r q turn.NoRoom x = (x.0, stop_moves f g h swaps blocks s w put i c d r q NoRoom x.1)
turns_move f g h swaps blocks s w put i c d r q turn.SwapFull x = (x.0, stop_moves f g h swaps blocks s w put i c d r q SwapFull x.1)
turns_move f g h swaps blocks s w put i c d r q turn.SwapFault x = (x.0, stop_moves f g h swaps blocks s w put i c d r q SwapFault x.1)
turns_move f g h swaps blocks s w put i c d r q turn.SinkFault (inl x) =
    inl (x.0, record { runs = x.1.runs; room = x.1.room; input = x.1.input; stands = either x.1.stands; to_console = x.1.to_console; to_report = x.1.to_report; in_order = x.1.in_order }) where
      either : f w ⊎ f (step s w) → g w ⊎ g (step s w)
      either (inl y) = inl (h w y)
      either (inr y) = inr (h (step s w) y)
turns_move f g h swaps blocks s w put i c d r q turn.SinkFault (inr x) = inr (record { over = x.over; stands = h w x.stands; input = x.input; to_console = x.to_console; to_report = x.to_report })

-- the same, for the answer as it is given
pub turns_answered : (f g : World → Type 0) → ((w : World) → f w → g w)
    → (swaps : Bool) (blocks : ℕ) (s : Setting) (w : World) (put : Bool) (i c d r q : Option (List ℕ)) (t u : Turn) → u ≡ t
    → Turns f swaps blocks s w put i c d r q t → Turns g swaps blocks s w put i c d r q u
turns_answered f g h swaps blocks s w put i c d r q t u same x = subst (λ (z : Turn). Turns g swaps blocks s w put i c d r q z) (sym same) (turns_move f g h swaps blocks s w put i c d r q t x)

pub caused_answered : (sink input device : Type 0) (t u : Turn) → u ≡ t → Caused sink input device t → Caused sink input device u
caused_answered sink input device t u same h = subst (λ (z : Turn). Caused sink input device z) (sym same) h
