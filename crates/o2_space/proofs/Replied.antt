-- A call on segments that is made and told, as the step of its process: with exception 1 behind it, or without.
use Rattle.std.proofs.Common.{◌≡◌, ℕ, ◌==◌, Bool, true, false, cond, if◌then◌else◌, List, [], ◌∷◌, ◌++◌, length, Option, Some, None, option_map, ap, sym, ◌∙◌, refl, subst, arith, append-nil}
use Rattle.std.proofs.lemmas.Bool.{false≢true}
use Rattle.std.specs.List.{list_any}
use Rattle.o2_conf.specs.Dispatch.{Dispatch, counted}
use Rattle.o2_outer.proofs.TextLemmas.{gains_none}
use Rattle.o2_isa.specs.declared.cpu.Cpu.{Cpu}
use Rattle.o2_regions.specs.declared.answer.Answer.{Answer}
use Rattle.o2_world.specs.declared.types.State.{State}
use Rattle.o2_world.specs.declared.types.State.TheVariants.{Live, Trapped}
use Rattle.o2_world.specs.Calls.{Before, Effect}
use Rattle.o2_world.specs.Changes.{Change, Drops, Finishes, Frees, Holds, Locks, Makes, Marks, Names, Reserves, Resizes, moved_lines, swept, takes, with_all, with_change, with_changes}
use Rattle.o2_world.specs.Effect.{effect, has_trap_flag, single_stepped}
use Rattle.o2_world.specs.Holders.{process_at, with_process}
use Rattle.o2_world.specs.Known.{known_of}
use Rattle.o2_world.specs.Run.{all_changes, before, changed, next_dispatch, worked, working}
use Rattle.o2_world.specs.Text.{lines_text}
use Rattle.o2_world.specs.Tied.{IsSound}
use Rattle.o2_world.specs.World.{Line, Process, Setting, Traps, World, is_live}
use Rattle.o2_world.proofs.Flags.{live_is}
use Rattle.o2_world.proofs.StepSound.{IsOrderly, effect_orderly}
use Rattle.o2_gate.specs.declared.arguments.Arguments.{Arguments}
use Rattle.o2_gate.specs.Targets.{asked}
use Rattle.o2_gate.specs.declared.moves.Block.{Block}
use Rattle.o2_gate.specs.MovedLines.{all_lines}
use Rattle.o2_gate.specs.Replies.{call_line, lines_of}
use Rattle.o2_gate.specs.Targets.{name_of}
use Rattle.o2_shared.specs.declared.names.Name.{Name}
use Rattle.o2_store.specs.Shelf.{Shelf}
use Rattle.o2_calls.specs.Acts.{ruling_of}
use Rattle.o2_calls.specs.SharedActs.{AreSpelled}
use Rattle.o2_calls.specs.Tellings.{replied_by}
use Rattle.o2_calls.proofs.Replies.{asked_is}
use Rattle.o2_stands.specs.Moves.{with_running}
use Rattle.o2_stands.specs.Parts.{Parts, Running, running_of}
use Rattle.o2_stands.specs.Stands.{IsTidy, Matches, StandsIn}
use Rattle.o2_stands.proofs.Matching.{stood_by}
use Rattle.o2_stands.proofs.TidySteps.{acted_tidy}
use Rattle.o2_run.specs.Pieces.{FailsInLine}
use Rattle.o2_stepping.specs.Ran.{TakesText}
use Rattle.o2_stepping.specs.Replied.{state_behind, trap_lines}
use Rattle.o2_stepping.specs.declared.one_step.Ran.{Ran}
use Rattle.o2_stepping.proofs.Leaving.{with_flag, without_flag}
use Rattle.o2_space.specs.Acts.{ActsAll}
use Rattle.o2_space.specs.Calls.{IsCalled}
use Rattle.o2_space.specs.Stands.{StandsCommitted}
use Rattle.o2_space.proofs.Afters.{orderly_before, trapped_after}

-- what is put of a call, and what state it leaves
pub record IsTold (pid : ℕ) (registers : Cpu) (a : Arguments) (error value : ℕ) (moves : List Block) (report_old report_new : Option (List ℕ)) (ran : Ran) : Type 0 where
  pub state : ran.state ≡ state_behind registers
  pub bytes : ran.tally.bytes ≡ 0
  pub lines : ran.tally.lines ≡ length (lines_of a pid error value moves ++ trap_lines pid registers)
  pub report : TakesText ran.whole report_old report_new (lines_text (lines_of a pid error value moves ++ trap_lines pid registers))

flag_clear : (c : Cpu) (z : State) → z ≡ state_behind c → is_live z ≡ true → has_trap_flag c.flags ≡ false
flag_clear c z e live = go (has_trap_flag c.flags) refl
  where
    go : (t : Bool) → has_trap_flag c.flags ≡ t → t ≡ false
    go true f = absurd (false≢true (sym (ap is_live (e ∙ ap (λ (t : Bool). if t then Trapped 1 else Live) f)) ∙ live))
    go false f = refl

flag_set : (c : Cpu) (z : State) → z ≡ state_behind c → is_live z ≡ false → has_trap_flag c.flags ≡ true
flag_set c z e dead = go (has_trap_flag c.flags) refl
  where
    go : (t : Bool) → has_trap_flag c.flags ≡ t → t ≡ true
    go true f = refl
    go false f = absurd (false≢true (sym dead ∙ ap is_live (e ∙ ap (λ (t : Bool). if t then Trapped 1 else Live) f)))

pub dead_state_is : (c : Cpu) (z : State) → z ≡ state_behind c → is_live z ≡ false → z ≡ Trapped 1
dead_state_is c z e dead = e ∙ ap (λ (t : Bool). if t then Trapped 1 else Live) (flag_set c z e dead)

pub some_running : (o : Option Process) (r : Running) → option_map running_of o ≡ Some r → (y : Process) × (o ≡ Some y) × (running_of y ≡ r)
some_running None r e = absurd (cc)
some_running (Some y) r e = (y, refl, some_is e)
  where
    some_is : {a b : Running} → Some a ≡ Some b → a ≡ b
    some_is f = cc

pub equal_self : (n : ℕ) → (n == n) ≡ true
equal_self n = grind arith

module _ (s : Setting) (w : World) (x : Process) (pid : ℕ) (a : Arguments) (next : ℕ) (cpu : Cpu) (p : Parts) (answer : Answer) (called : IsCalled s w pid x a next cpu p answer)
    (moves : List Block) (moved : all_lines (name_of a) moves ≡ moved_lines (name_of a) (ruling_of a.request (known_of s w) pid x.cpu).changes) (registers : Cpu) (same : registers ≡ x.cpu)
    (eff : let b = before s w pid x in effect b ≡ single_stepped b (asked a b next)) (r q i c : Option (List ℕ)) (ran : Ran) (told : IsTold pid registers a answer.error answer.value moves r q ran)
    (input : i ≡ Some w.input) where
  abbrev b : Before
  b = before s w pid x

  abbrev e : Effect
  e = replied_by a b next

  abbrev lines : List Line
  lines = lines_of a pid answer.error answer.value moves

  effect_is : effect b ≡ single_stepped b e
  effect_is = eff ∙ ap (single_stepped b) (asked_is b next a)

  same_lines : lines ≡ e.lines
  same_lines =
      ap (λ (n : ℕ). lines_of a pid n answer.value moves) called.answers.error
      ∙ (ap (λ (n : ℕ). lines_of a pid (ruling_of a.request (known_of s w) pid x.cpu).error n moves) called.answers.value
      ∙ ap (λ (ls : List Line). call_line a pid (ruling_of a.request (known_of s w) pid x.cpu).error (ruling_of a.request (known_of s w) pid x.cpu).value ∷ ls) moved)

  -- without exception 1

  clear : is_live ran.state ≡ true → has_trap_flag b.cpu.flags ≡ false
  clear live = ap (λ (z : Cpu). has_trap_flag z.flags) (sym same) ∙ flag_clear registers ran.state told.state live

  live_effect : is_live ran.state ≡ true → effect b ≡ e
  live_effect live = effect_is ∙ without_flag b e (clear live)

  no_trap : is_live ran.state ≡ true → lines ++ trap_lines pid registers ≡ e.lines
  no_trap live = rw (flag_clear registers ran.state told.state live) (append-nil lines ∙ same_lines)

  pub acts_live : is_live ran.state ≡ true → (z : Parts) → z ≡ with_running p pid (record { cpu = cpu; state = Live }) → ActsAll w pid x (effect b) ran z i c c r q
  acts_live live z put =
      subst (λ (f : Effect). ActsAll w pid x f ran z i c c r q) (sym (live_effect live)) (record {
        state = sym (live_is ran.state live);
        puts = record { bytes = sym told.bytes; lines = sym (told.lines ∙ ap (λ (l : List Line). length l) (no_trap live)) };
        matches = λ d current. subst (λ (y : Parts). Matches y (changed w d x e)) (sym put) (called.matches d current);
        input = input;
        to_console = gains_none c;
        to_report = subst (λ (l : List Line). TakesText ran.whole r q (lines_text l)) (no_trap live) told.report;
      })

  -- with it

  marked : is_live ran.state ≡ false → has_trap_flag b.cpu.flags ≡ true
  marked dead = ap (λ (z : Cpu). has_trap_flag z.flags) (sym same) ∙ flag_set registers ran.state told.state dead

  abbrev trapped_lines : List Line
  trapped_lines = e.lines ++ Traps b.number 1 b.cpu.cs b.cpu.ip ∷ []

  abbrev trapped_effect : Effect
  trapped_effect = record e { state = Trapped 1; lines = trapped_lines }

  dead_effect : is_live ran.state ≡ false → effect b ≡ trapped_effect
  dead_effect dead = effect_is ∙ with_flag b e (marked dead) refl refl

  dead_state : is_live ran.state ≡ false → ran.state ≡ Trapped 1
  dead_state dead = dead_state_is registers ran.state told.state dead

  with_trap : is_live ran.state ≡ false → lines ++ trap_lines pid registers ≡ trapped_lines
  with_trap dead =
      rw (flag_set registers ran.state told.state dead)
      (ap (λ (l : List Line). l ++ Traps pid 1 registers.cs registers.ip ∷ []) same_lines ∙ ap (λ (z : Cpu). e.lines ++ Traps pid 1 z.cs z.ip ∷ []) same)

  pub acts_trapped : is_live ran.state ≡ false → (z : Parts) → ((d : Dispatch) → d.current ≡ pid → Matches z (changed w d x trapped_effect)) → ActsAll w pid x (effect b) ran z i c c r q
  acts_trapped dead z matches =
      subst (λ (f : Effect). ActsAll w pid x f ran z i c c r q) (sym (dead_effect dead)) (record {
        state = sym (dead_state dead);
        puts = record { bytes = sym told.bytes; lines = sym (told.lines ∙ ap (λ (l : List Line). length l) (with_trap dead)) };
        matches = matches;
        input = input;
        to_console = gains_none c;
        to_report = subst (λ (l : List Line). TakesText ran.whole r q (lines_text l)) (with_trap dead) told.report;
      })

  -- which line failed
  pub late_live : is_live ran.state ≡ true → (before now : ℕ) → FailsInLine (lines ++ trap_lines pid registers) r q before now → FailsInLine (effect b).lines r q before now
  late_live live before now h =
      subst (λ (f : Effect). FailsInLine f.lines r q before now) (sym (live_effect live)) (subst (λ (l : List Line). FailsInLine l r q before now) (no_trap live) h)

  pub none_live : is_live ran.state ≡ true → length (effect b).piece ≡ 0
  none_live live = ap (λ (f : Effect). length f.piece) (live_effect live)

  pub late_trapped : is_live ran.state ≡ false → (before now : ℕ) → FailsInLine (lines ++ trap_lines pid registers) r q before now → FailsInLine (effect b).lines r q before now
  late_trapped dead before now h =
      subst (λ (f : Effect). FailsInLine f.lines r q before now) (sym (dead_effect dead)) (subst (λ (l : List Line). FailsInLine l r q before now) (with_trap dead) h)

  pub none_trapped : is_live ran.state ≡ false → length (effect b).piece ≡ 0
  none_trapped dead = ap (λ (f : Effect). length f.piece) (dead_effect dead)

  -- the names that are kept, where they are those behind the call

  pub spells_live : is_live ran.state ≡ true → (t : Shelf) (names : List (Option Name)) → ((d : Dispatch) → d.current ≡ pid → AreSpelled t names (changed w d x e))
      → (d : Dispatch) → d.current ≡ pid → AreSpelled t names (changed w d x (effect b))
  spells_live live t names all d current = subst (λ (f : Effect). AreSpelled t names (changed w d x f)) (sym (live_effect live)) (all d current)

  pub spells_trapped : is_live ran.state ≡ false → (z : Parts) (names : List (Option Name))
      → (((d : Dispatch) → d.current ≡ pid → Matches z (changed w d x trapped_effect)) → (d : Dispatch) → d.current ≡ pid → AreSpelled z.shelf names (changed w d x trapped_effect))
      → ((d : Dispatch) → d.current ≡ pid → Matches z (changed w d x (effect b))) → (d : Dispatch) → d.current ≡ pid → AreSpelled z.shelf names (changed w d x (effect b))
  spells_trapped dead z names by matches =
      subst (λ (f : Effect). (d : Dispatch) → d.current ≡ pid → AreSpelled z.shelf names (changed w d x f)) (sym (dead_effect dead))
      (by (subst (λ (f : Effect). (d : Dispatch) → d.current ≡ pid → Matches z (changed w d x f)) (dead_effect dead) matches))

-- Whose turn was next doesn't matter.

module _ (z : Dispatch) where
  dispatch_change : (v : World) (c : Change) → with_change (record v { dispatch = z }) c ≡ record (with_change v c) { dispatch = z }
  dispatch_change v (Makes s) = refl
  dispatch_change v (Resizes n size) = refl
  dispatch_change v (Locks n count) = refl
  dispatch_change v (Marks n discarded) = refl
  dispatch_change v (Holds p i h) = refl
  dispatch_change v (Drops p i count) = refl
  dispatch_change v (Finishes p state) = refl
  dispatch_change v (Reserves r) = refl
  dispatch_change v (Frees region first) = refl
  dispatch_change v (Names text name) = refl

  dispatch_changes : (v : World) (cs : List Change) → with_changes (record v { dispatch = z }) cs ≡ record (with_changes v cs) { dispatch = z }
  unfolding with_changes
  dispatch_changes v [] = refl
  dispatch_changes v (c ∷ cs) = ap (λ (u : World). with_changes u cs) (dispatch_change v c) ∙ dispatch_changes (with_change v c) cs

  dispatch_all : (v : World) (cs : List Change) → with_all (record v { dispatch = z }) cs ≡ record (with_all v cs) { dispatch = z }
  dispatch_all v cs = go (list_any takes cs)
    where
      go : (b : Bool) → (if b then swept (with_changes (record v { dispatch = z }) cs) else with_changes (record v { dispatch = z }) cs)
          ≡ record (if b then swept (with_changes v cs) else with_changes v cs) { dispatch = z }
      go true = ap swept (dispatch_changes v cs)
      go false = dispatch_changes v cs

matches_by : (p : Parts) (w : World) (d k : Dispatch) (x : Process) (e : Effect) → d.current ≡ k.current → Matches p (changed w k x e) → Matches p (changed w d x e)
unfolding changed
matches_by p w d k x e same m =
    subst (λ (n : ℕ). Matches p (with_all (record (worked w d x e) { processes = with_process w.processes n (working x e) }) (all_changes n e))) (sym same)
    (subst (λ (v : World). Matches p v) (sym (dispatch_all (counted d) (worked w k x e) (all_changes k.current e))) m)

-- Where exception 1 ends the process: it goes from the world that the call leaves, which is tidy.

abbrev ThenTrapped : Setting → World → Process → Arguments → (next : ℕ) → Cpu → Parts → Answer → Parts → (pid : ℕ) → Type 0
ThenTrapped s w x a next cpu p answer z pid =
    let b = before s w pid x in
    let e = replied_by a b next in
    let r : Running = record { cpu = cpu; state = Live } in
    IsCalled s w pid x a next cpu p answer → process_at w.processes pid ≡ Some x → IsOrderly b (single_stepped b e)
    → ((v : World) (y : Process) → StandsIn (with_running p pid r) v.processes v.names v.next_name v.reserved → process_at v.processes pid ≡ Some y → is_live y.state ≡ true
    → StandsCommitted v.processes v.names v.next_name v.reserved pid y (record { cpu = cpu; state = Trapped 1 }) z)
    → (k : Dispatch) → k.current ≡ pid → Matches z (changed w k x (record e { state = Trapped 1; lines = e.lines ++ Traps b.number 1 b.cpu.cs b.cpu.ip ∷ [] }))

module _ (s : Setting) (w : World) (x : Process) (a : Arguments) (next : ℕ) (cpu : Cpu) (p : Parts) (answer : Answer) (z : Parts) (live : is_live x.state ≡ true) (sound : IsSound w) (tidy_now : IsTidy w.processes w.names w.reserved) where
  abbrev d : Dispatch
  d = next_dispatch s w

  at_current : ThenTrapped s w x a next cpu p answer z d.current
  at_current called at orderly commits k current =
      let b = before s w d.current x in
      let e = replied_by a b next in
      let u : World = changed w d x e in
      let r : Running = record { cpu = cpu; state = Live } in
      let now = live_is x.state live in
      let matches = called.matches d refl in
      let tidy = acted_tidy s w x at now sound e (orderly_before b e orderly) tidy_now in
      let standing = stood_by (with_running p d.current r) u.processes u.names u.next_name u.reserved matches tidy in
      let found = some_running (process_at u.processes d.current) r (matches.processes d.current ∙ ap (λ (c : Bool). cond c (Some r) (p.running d.current)) (equal_self d.current)) in
      let y : Process = found.0 in
      let committed = commits u y standing found.1 (ap (λ (q : Running). is_live q.state) found.2) in
      let there = ap (λ (q : Running). q.cpu) found.2 in
      matches_by z w k d x (record e { state = Trapped 1; lines = e.lines ++ Traps b.number 1 b.cpu.cs b.cpu.ip ∷ [] }) current
      (trapped_after z w d x e (e.lines ++ Traps b.number 1 b.cpu.cs b.cpu.ip ∷ []) now refl y found.1
      (subst (λ (c : Cpu). StandsCommitted u.processes u.names u.next_name u.reserved d.current y (record { cpu = c; state = Trapped 1 }) z) (sym there) committed))

  pub then_trapped : (pid : ℕ) → d.current ≡ pid → ThenTrapped s w x a next cpu p answer z pid
  then_trapped pid chosen = subst (ThenTrapped s w x a next cpu p answer z) chosen at_current

-- a step that is a call is orderly, whatever its effect is told by
pub orderly_call : (b : Before) (a : Arguments) (next : ℕ) → effect b ≡ single_stepped b (asked a b next) → IsOrderly b (single_stepped b (replied_by a b next))
orderly_call b a next eff = subst (λ (e : Effect). IsOrderly b e) (eff ∙ ap (single_stepped b) (asked_is b next a)) (effect_orderly b)
