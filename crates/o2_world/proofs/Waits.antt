-- A step that waits.
use Rattle.std.proofs.Common.{◌≡◌, ℕ, zero, suc, ◌+◌, ◌-◌, ◌<◌, ◌≤◌, Bool, true, false, not, cond, if◌then◌else◌, ◌&&◌, ◌||◌, ◌==◌, nat_lt, List, [], ◌∷◌, ◌++◌, Option, Some, None, ap, sym, ◌∙◌, refl, arith, subst, slice_set}
use Rattle.std.specs.Prelude.{Result, Ok, Err, is_some, slice_get, option_map}
use Rattle.std.proofs.lemmas.List.{append-nil}
use mathlib.Core.Path.{fun_ext}
use Rattle.o2_conf.specs.Dispatch.{Dispatch, counted, dispatched, lives}
use Rattle.o2_conf.proofs.Choice.{chosen_lives}
use Rattle.o2_isa.specs.declared.cpu.Stop.{Stop}
use Rattle.o2_isa.specs.declared.cpu.Stop.TheVariants as stop
use Rattle.o2_isa.specs.Steps.{State as Machine, state}
use Rattle.o2_isa.specs.Step.{stepped}
use Rattle.o2_world.specs.declared.types.State.{State}
use Rattle.o2_world.specs.declared.types.State.TheVariants.{Live}
use Rattle.o2_world.specs.Map.{Map, get}
use Rattle.o2_world.specs.World.{World, Setting, Process, Segment, is_live}
use Rattle.o2_world.specs.Holders.{process_at, with_process}
use Rattle.o2_world.specs.Views.{bytes_in, holds_in, is_discarded, segment_bytes, view_over, with_bytes}
use Rattle.o2_world.specs.Known.{known_of, live_below, marks_of}
use Rattle.o2_world.specs.CallParts.{Before, Effect, waiting}
use Rattle.o2_world.specs.Outcomes.{CallRow, Does, Fails, Waits, Leaves, Outcome, come_out}
use Rattle.o2_world.specs.Calls.{row_of, served_by}
use Rattle.o2_world.specs.Effect.{answered, effect, has_trap_flag, single_stepped}
use Rattle.o2_world.specs.Changes.{with_changes}
use Rattle.o2_world.specs.Run.{acted, after, any_lives, before, changed, chosen_step, is_over, live_flags, next_dispatch, ready, step, words_coming}
use Rattle.o2_world.specs.Waits.{IsButDispatch, spent}
use Rattle.o2_world.proofs.Budget.{not_over}
use Rattle.o2_world.proofs.Keeps.{some_is}
use Rattle.o2_world.proofs.MapLemmas.{get-map, if_yes}
use Rattle.o2_world.proofs.Numbers.{at_place_of, number_some, with_is}
use Rattle.o2_world.proofs.Serving.{by_row}
use Rattle.o2_world.proofs.StepSound.{next_process}
use Rattle.o2_world.proofs.Words.{next_ready, none_within, ready_at_once, ready_stays, step_runs}

-- What a step is that waits.

come_waits : (r : CallRow) (b : Before) (next : ℕ) (a : ℕ → ℕ) (o : Outcome) → (come_out r b next a o).waits ≡ true → come_out r b next a o ≡ waiting b
come_waits r b next a (Fails error values) e = absurd (cc)
come_waits r b next a (Does d) e = absurd (cc)
come_waits r b next a Waits e = refl
come_waits r b next a (Leaves action code) e = absurd (cc)

served_waits : (o : Option CallRow) (b : Before) (next : ℕ) → (served_by o b next).waits ≡ true → served_by o b next ≡ waiting b
served_waits o b next =
    by_row (λ (e : Effect). e.waits ≡ true → e ≡ waiting b) b next (λ e. absurd (cc)) (λ e. absurd (cc)) (λ r a good. come_waits r b next a (r.outcome b a)) o

answered_waits : (b : Before) (r : Result Machine Stop) → (answered b r).waits ≡ true → answered b r ≡ waiting b
answered_waits b (Ok s) e = absurd (cc)
answered_waits b (Err (stop.Trap vector code)) e = absurd (cc)
answered_waits b (Err (stop.Gate service next)) e = served_waits (row_of service) b next e
answered_waits b (Err (stop.Miss s)) e = absurd (cc)

-- exception 1 comes behind no step that waits
either_waits : (t l n : Bool) (e f g : Effect) → f.waits ≡ g.waits → (n ≡ not g.waits) → (cond (t && (l && n)) f g).waits ≡ true → (g ≡ e) → cond (t && (l && n)) f g ≡ e
either_waits true true true e f g same is waits h = absurd (cc)
either_waits true true false e f g same is waits h = h
either_waits true false n e f g same is waits h = h
either_waits false l n e f g same is waits h = h

still_waits : (t : Bool) (f g : Effect) → f.waits ≡ g.waits → (cond t f g).waits ≡ true → g.waits ≡ true
still_waits true f g same waits = sym same ∙ waits
still_waits false f g same waits = waits

single_waits : (b : Before) (e : Effect) → (e.waits ≡ true → e ≡ waiting b) → (single_stepped b e).waits ≡ true → single_stepped b e ≡ waiting b
single_waits b e is waits =
    either_waits (has_trap_flag b.cpu.flags) (is_live e.state) (not e.waits) (waiting b) _ e refl refl waits (is (still_waits (has_trap_flag b.cpu.flags && (is_live e.state && not e.waits)) _ e refl waits))

pub effect_waits : (b : Before) → (effect b).waits ≡ true → effect b ≡ waiting b
unfolding effect
effect_waits b waits = single_waits b (answered b (stepped (state b.cpu b.view))) (answered_waits b (stepped (state b.cpu b.view))) waits

-- What it leaves.

same_bytes : (o : Option Segment) → option_map (λ (s : Segment). record s { bytes = segment_bytes o }) o ≡ o
same_bytes None = refl
same_bytes (Some s) = refl

same_names : (names : Map Segment) → get (with_bytes names (bytes_in names)) ≡ get names
same_names names = fun_ext (λ q. get-map (λ (n : ℕ) (s : Segment). record s { bytes = bytes_in names n }) names q ∙ same_bytes (get names q))

set_there : {X : Type 0} (xs : List X) (i : ℕ) (x : X) → slice_get xs i ≡ Some x → slice_set xs i x ≡ xs
set_there [] i x e = refl
set_there (y ∷ ys) zero x e = ap (λ z. z ∷ ys) (let same : y ≡ x = cc in sym same)
set_there (y ∷ ys) (suc i) x e = ap (λ zs. y ∷ zs) (set_there ys i x e)

same_process : (ps : List Process) (n : ℕ) (p : Process) → process_at ps n ≡ Some p → p.state ≡ Live → with_process ps n (record p { state = Live }) ≡ ps
same_process ps n p at live =
    ap (λ (z : State). with_process ps n (record p { state = z })) (sym live) ∙ with_is ps n p (number_some ps n p at) ∙ set_there ps (n - 1) p (at_place_of ps n p at)

waiting_leaves : (s : Setting) (w : World) (d : Dispatch) (p : Process) → process_at w.processes d.current ≡ Some p → p.state ≡ Live
    → IsButDispatch w (counted d) (changed w d p (waiting (before s w d.current p)))
unfolding changed with_changes
waiting_leaves s w d p at live = record {
  names = same_names w.names;
  others =
      ap (λ (ps : List Process). record w {
        names = with_bytes w.names (bytes_in w.names);
        processes = ps;
        dispatch = counted d;
        console = w.console ++ [];
        lines = w.lines ++ [];
      })
      (same_process w.processes d.current p at live)
      ∙ ap (λ (bs : List ℕ). record w { names = with_bytes w.names (bytes_in w.names); dispatch = counted d; console = bs; lines = w.lines ++ [] }) (append-nil w.console)
      ∙ ap (λ (ls : List Rattle.o2_world.specs.World.Line). record w { names = with_bytes w.names (bytes_in w.names); dispatch = counted d; lines = ls }) (append-nil w.lines);
}

pub wait_leaves : (s : Setting) (w : World) (d : Dispatch) (p : Process) → process_at w.processes d.current ≡ Some p → p.state ≡ Live
    → (let b = before s w d.current p in (effect b).waits ≡ true → IsButDispatch w (counted d) (changed w d p (effect b)))
wait_leaves s w d p at live waits =
    subst (λ (e : Effect). IsButDispatch w (counted d) (changed w d p e)) (sym (effect_waits (before s w d.current p) waits)) (waiting_leaves s w d p at live)

-- of the next step

chosen_waits : (s : Setting) (w : World) (p : Process) → is_over w ≡ false → (let d = next_dispatch s w in process_at w.processes d.current ≡ Some p
    → (effect (before s w d.current p)).waits ≡ true → IsButDispatch w (counted d) (chosen_step s w))
chosen_waits s w p runs at waits =
    let d = next_dispatch s w in
    let here = next_process s w runs in
    let same : here.0 ≡ p = some_is here.0 p (process_at w.processes d.current) here.1 at in
    let live : p.state ≡ Live = ap (λ (x : Process). x.state) (sym same) ∙ here.2 in
    subst (λ (o : Option Process). IsButDispatch w (counted d) (acted s w d o)) (sym at) (wait_leaves s w d p at live waits)

pub ready_at : (w : World) (n : ℕ) (p : Process) → process_at w.processes n ≡ Some p → process_at (ready w).processes n ≡ Some p
ready_at w n p at = ap (λ (ps : List Process). process_at ps n) (ready_stays w).processes ∙ at

pub step_waits : (s : Setting) (w : World) (p : Process) → is_over w ≡ false → (let d = next_dispatch s w in process_at w.processes d.current ≡ Some p
    → (effect (before s (ready w) d.current p)).waits ≡ true → IsButDispatch (ready w) (counted d) (step s w))
step_waits s w p runs at waits =
    let v = ready w in
    let same = next_ready s w in
    subst (IsButDispatch v (counted (next_dispatch s w))) (sym (step_runs s w runs))
    (subst (λ (d : Dispatch). IsButDispatch v (counted d) (chosen_step s v)) same
    (chosen_waits s v p ((ready_stays w).over ∙ runs)
    (ap (λ (d : Dispatch). process_at v.processes d.current) same ∙ ready_at w (next_dispatch s w).current p at)
    (ap (λ (d : Dispatch). (effect (before s v d.current p)).waits) same ∙ waits)))

-- What the same process starts from then.

live_same : (names others : Map Segment) (n : ℕ) → get names ≡ get others → live_below names n ≡ live_below others n
unfolding live_below
live_same names others zero e = refl
live_same names others (suc n) e = by (is_some (get names n)) (is_some (get others n)) (ap (λ (g : ℕ → Option Segment). is_some (g n)) e) (live_same names others n e)
  where
    by : (a b : Bool) → a ≡ b → live_below names n ≡ live_below others n
        → (if a then live_below names n + 1 else live_below names n) ≡ (if b then live_below others n + 1 else live_below others n)
    by true true e h = ap (λ (m : ℕ). m + 1) h
    by true false e h = absurd (cc)
    by false true e h = absurd (cc)
    by false false e h = h

seen : Setting → World → ℕ → Process → (ℕ → Option Segment) → ℕ → Before
seen s w n p g count = record {
  number = n;
  cpu = p.cpu;
  view = view_over (holds_in p.held) (λ k. segment_bytes (g k)) (λ k. is_discarded (g k)) p.cpu;
  known = record (known_of s w) { segment = λ k. option_map marks_of (g k); count = count };
  input = w.input;
}

pub same_before : (s : Setting) (w v : World) (d : Dispatch) (n : ℕ) (p : Process) → IsButDispatch w d v → before s v n p ≡ before s w n p
unfolding seen
same_before s w v d n p is =
    ap (λ (x : World). before s x n p) is.others
    ∙ ap (λ (g : ℕ → Option Segment). seen s w n p g (live_below v.names w.next_name)) is.names
    ∙ ap (λ (m : ℕ). seen s w n p (get w.names) m) (live_same v.names w.names w.next_name is.names)

pub same_there : (w v : World) (d : Dispatch) (n : ℕ) → IsButDispatch w d v → process_at v.processes n ≡ process_at w.processes n
same_there w v d n is = ap (λ (x : World). process_at x.processes n) is.others

turn_stays : (quantum : ℕ) (flags : List Bool) (d : Dispatch) → 0 < d.left → lives flags d.current ≡ true → dispatched quantum flags d ≡ d
turn_stays quantum flags d more here =
    let some : nat_lt 0 d.left ≡ true = grind arith in
    if_yes (nat_lt 0 d.left && lives flags d.current) d _ (rw (some, here) refl)

chosen_here : (s : Setting) (w : World) (n : ℕ) → is_over w ≡ false → n ≡ (next_dispatch s w).current → lives (live_flags w.processes) n ≡ true
chosen_here s w n runs same =
    let some = not_over (any_lives w.processes) w.dispatch.budget runs in
    let flags = live_flags w.processes in
    ap (lives flags) same ∙ chosen_lives s.quantum flags w.dispatch some.0

flags_there : (w v : World) (d : Dispatch) → IsButDispatch w d v → (n : ℕ) → lives (live_flags v.processes) n ≡ lives (live_flags w.processes) n
flags_there w v d is n = ap (λ (x : World). lives (live_flags x.processes) n) is.others

-- the one that is chosen lives, and goes on as long as its slice or turn has steps left
goes_on : (s : Setting) (w v : World) (e : Dispatch) → is_over w ≡ false → (let d = next_dispatch s w in IsButDispatch w e v → e.current ≡ d.current → 0 < e.left → next_dispatch s v ≡ e)
goes_on s w v e runs is same more =
    let flags = live_flags w.processes in
    let here = chosen_here s w e.current runs same in
    ap (λ (x : World). next_dispatch s x) is.others ∙ turn_stays s.quantum flags e more here

pub same_turn : (s : Setting) (w v : World) → is_over w ≡ false → (let d = next_dispatch s w in IsButDispatch (ready w) (counted d) v → 1 < d.left → next_dispatch s v ≡ counted d)
same_turn s w v runs is more =
    let d = next_dispatch s w in
    goes_on s (ready w) v (counted d) ((ready_stays w).over ∙ runs) is (ap (λ (e : Dispatch). e.current) (sym (next_ready s w))) (omega (arith, more))

-- The rest of the slice or turn.

then_is : (w v u : World) (d e : Dispatch) → IsButDispatch w d v → IsButDispatch v e u → IsButDispatch w e u
then_is w v u d e first second = record {
  names = second.names ∙ first.names;
  others = second.others ∙ ap (λ (x : World). record x { names = u.names; dispatch = e }) first.others;
}

step_from : (s : Setting) (w : World) (p : Process) (d : Dispatch) → is_over w ≡ false → words_coming w ≡ 0 → next_dispatch s w ≡ d
    → process_at w.processes d.current ≡ Some p → (effect (before s w d.current p)).waits ≡ true → IsButDispatch w (counted d) (step s w)
step_from s w p d runs wordless is at waits =
    subst (IsButDispatch w (counted d)) (sym (step_runs s w runs ∙ ap (chosen_step s) (ready_at_once w wordless)))
    (subst (λ (e : Dispatch). IsButDispatch w (counted e) (chosen_step s w)) is
    (chosen_waits s w p runs (subst (λ (e : Dispatch). process_at w.processes e.current ≡ Some p) (sym is) at)
    (subst (λ (e : Dispatch). (effect (before s w e.current p)).waits ≡ true) (sym is) waits)))

still_runs : (w v : World) (e : Dispatch) → is_over w ≡ false → IsButDispatch w e v → 0 < e.budget → is_over v ≡ false
still_runs w v e runs is more =
    let some = not_over (any_lives w.processes) w.dispatch.budget runs in
    let left : (e.budget == 0) ≡ false = grind arith in
    ap (λ (x : World). is_over x) is.others ∙ ap (λ (b : Bool). not b || (e.budget == 0)) some.0 ∙ left

one_more : (k n : ℕ) → n - suc k - 1 ≡ n - suc (suc k)
one_more k n = omega arith

pub waits_through : (s : Setting) (w : World) (p : Process) → is_over w ≡ false → (let d = next_dispatch s w in process_at w.processes d.current ≡ Some p
    → (effect (before s (ready w) d.current p)).waits ≡ true → (k : ℕ) → 0 < k → k ≤ d.left → k ≤ d.budget → IsButDispatch (ready w) (spent k d) (after s w k))
waits_through s w p runs at waits zero some few within = absurd (omega (arith, some))
waits_through s w p runs at waits (suc zero) some few within = step_waits s w p runs at waits
waits_through s w p runs at waits (suc (suc k)) some few within =
    let d = next_dispatch s w in
    let u = ready w in
    let runs_there = (ready_stays w).over ∙ runs in
    let v = after s w (suc k) in
    let e = spent (suc k) d in
    let h = waits_through s w p runs at waits (suc k) (omega arith) (omega (arith, few)) (omega (arith, within)) in
    let same : e.current ≡ (next_dispatch s u).current = ap (λ (x : Dispatch). x.current) (sym (next_ready s w)) in
    let more : 0 < e.left = omega (arith, few) in
    let next = step_from s v p e (still_runs u v e runs_there h (omega (arith, within)))
    (none_within v e (ap (λ (x : World). x.dispatch) h.others) more (flags_there u v e h e.current ∙ chosen_here s u e.current runs_there same))
    (goes_on s u v e runs_there h same more)
    (same_there u v e d.current h ∙ ready_at w d.current p at) (ap (λ (b : Before). (effect b).waits) (same_before s u v e d.current p h) ∙ waits) in
    subst (λ (x : Dispatch). IsButDispatch u x (step s v))
    (ap (λ (n : ℕ). record d { left = n; budget = d.budget - suc k - 1 }) (one_more k d.left) ∙ ap (λ (n : ℕ). record d { left = d.left - suc (suc k); budget = n }) (one_more k d.budget))
    (then_is u v (step s v) e (counted e) h next)
