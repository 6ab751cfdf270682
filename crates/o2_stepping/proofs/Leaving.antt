-- What a step leaves, from what its instruction or its call did.
use Rattle.std.proofs.Common.{◌≡◌, ℕ, ◌+◌, List, [], ◌∷◌, ◌++◌, length, Option, Some, Bool, true, false, not, ◌&&◌, ap, sym, ◌∙◌, refl, subst, length-append}
use Rattle.std.specs.Prelude.{Result, if◌then◌else◌}
use Rattle.std.proofs.lemmas.Grind.{flat_map-append}
use Rattle.o2_outer.specs.declared.sink.Put.TheVariants as put
use Rattle.o2_outer.specs.Texts.{Gains, GainsSome, IsPrefix}
use Rattle.o2_outer.proofs.TextLemmas.{gains_none, puts_more, puts_front}
use Rattle.o2_isa.specs.declared.cpu.Cpu.{Cpu}
use Rattle.o2_isa.specs.declared.cpu.Stop.{Stop}
use Rattle.o2_isa.specs.Steps.{State as Machine, state}
use Rattle.o2_isa.specs.Step.{stepped}
use Rattle.o2_isa.specs.View.{View, Filling, whole}
use Rattle.o2_world.specs.declared.types.State.TheVariants.{Live, Trapped}
use Rattle.o2_world.specs.World.{Line, Traps, is_live}
use Rattle.o2_world.specs.CallParts.{waiting}
use Rattle.o2_world.specs.Calls.{Before, Effect}
use Rattle.o2_world.specs.Effect.{effect, answered, single_stepped, has_trap_flag}
use Rattle.o2_world.specs.Text.{lines_text, line_text}
use Rattle.o2_gate.specs.Called.{IsMade}
use Rattle.o2_stepping.specs.declared.tally.Tally.{Tally}
use Rattle.o2_stepping.specs.Ran.{IsDone, IsInPart, IsStill}
use Rattle.o2_world.specs.declared.types.State.{State}

-- what a call has made, as a step that is done
pub done_by : (f : Filling) (e : Effect) (ends : State) (tally : Tally) (cpu : Cpu) (new : View) (j c d r q : Option (List ℕ))
    → IsMade f e ends tally.bytes tally.lines cpu new j c d r q → IsDone e (record { state = ends; tally = tally; whole = true }) cpu (whole f new).bytes j c d r q
done_by f e ends tally cpu new j c d r q made = record {
  state = made.state;
  ends = λ late. absurd (cc);
  puts = record { bytes = made.piece; lines = made.lines };
  changes = made.changes;
  cpu = made.cpu;
  bytes = made.bytes;
  input = made.input;
  to_console = made.to_console;
  to_report = made.to_report;
}

-- the effect, by what the instruction came to
pub effect_by : (b : Before) (r : Result Machine Stop) → stepped (state b.cpu b.view) ≡ r → effect b ≡ single_stepped b (answered b r)
unfolding effect
effect_by b r e = ap (λ (x : Result Machine Stop). single_stepped b (answered b x)) e

-- with the trap flag, and without
pub with_flag : (b : Before) (e : Effect) → has_trap_flag b.cpu.flags ≡ true → e.state ≡ Live → e.waits ≡ false
    → single_stepped b e ≡ record e { state = Trapped 1; lines = e.lines ++ Traps b.number 1 b.cpu.cs b.cpu.ip ∷ [] }
with_flag b e flag live goes_on = rw (flag, live, goes_on) refl

pub without_flag : (b : Before) (e : Effect) → has_trap_flag b.cpu.flags ≡ false → single_stepped b e ≡ e
without_flag b e flag = rw flag refl

not_live : (b c d : Bool) (e f : Effect) → c ≡ false → (if b && (c && d) then f else e) ≡ e
not_live true c d e f h = rw h refl
not_live false c d e f h = refl

pub ended_stays : (b : Before) (e : Effect) → is_live e.state ≡ false → single_stepped b e ≡ e
ended_stays b e dead = not_live (has_trap_flag b.cpu.flags) (is_live e.state) (not e.waits) e _ dead

-- a step that waits doesn't look at the trap flag
pub wait_stays : (b : Before) → single_stepped b (waiting b) ≡ waiting b
wait_stays b = go (has_trap_flag b.cpu.flags)
  where
    go : (c : Bool) → (if c && false then record (waiting b) { state = Trapped 1; lines = Traps b.number 1 b.cpu.cs b.cpu.ip ∷ [] } else waiting b) ≡ waiting b
    go true = refl
    go false = refl

-- it has put nothing, and has no line
pub waited : (b : Before) (e : Effect) → e ≡ single_stepped b (waiting b) → (cpu : Cpu) (old after : ℕ → List ℕ) (i j c d r q : Option (List ℕ))
    → ((n : ℕ) → old n ≡ b.view.bytes n) → i ≡ Some b.input → IsStill cpu b.cpu old after i j c d r q
    → IsDone e (record { state = Live; tally = record { bytes = 0; lines = 0 }; whole = true }) cpu after j c d r q
waited b e is cpu old after i j c d r q same left still =
    subst (λ (x : Effect). IsDone x (record { state = Live; tally = record { bytes = 0; lines = 0 }; whole = true }) cpu after j c d r q) (sym (is ∙ wait_stays b)) (record {
      state = refl;
      ends = λ late. absurd (cc);
      puts = record { bytes = refl; lines = refl };
      changes = refl;
      cpu = still.cpu;
      bytes = λ n. still.bytes n ∙ same n;
      input = still.input ∙ left;
      to_console = subst (λ (x : Option (List ℕ)). Gains c x []) (sym still.to_console) (gains_none c);
      to_report = subst (λ (x : Option (List ℕ)). Gains r x []) (sym still.to_report) (gains_none r);
    })

more_lines : (e : Effect) (l : Line) → lines_text (e.lines ++ l ∷ []) ≡ lines_text e.lines ++ lines_text (l ∷ [])
more_lines e l = flat_map-append line_text e.lines (l ∷ [])

module _ (f : Filling) (b : Before) (e : Effect) (tally more : Tally) (cpu : Cpu) (new : View) (j c d r s q : Option (List ℕ)) (same : more.bytes ≡ tally.bytes) (one_more : more.lines ≡ tally.lines + 1) where
  lines_more : length e.lines ≡ tally.lines → length (e.lines ++ Traps b.number 1 b.cpu.cs b.cpu.ip ∷ []) ≡ more.lines
  lines_more has = length-append e.lines (Traps b.number 1 b.cpu.cs b.cpu.ip ∷ []) ∙ ap (λ (n : ℕ). n + 1) has ∙ sym one_more

  -- the exception behind a step, with its line whole or in part
  pub made_with_trap : has_trap_flag b.cpu.flags ≡ true → e.changes ≡ [] → IsMade f e Live tally.bytes tally.lines cpu new j c d r s
      → Gains s q (lines_text (Traps b.number 1 b.cpu.cs b.cpu.ip ∷ []))
      → IsDone (single_stepped b e) (record { state = Trapped 1; tally = more; whole = true }) cpu (whole f new).bytes j c d r q
  made_with_trap flag quiet made took =
      subst (λ (x : Effect). IsDone x (record { state = Trapped 1; tally = more; whole = true }) cpu (whole f new).bytes j c d r q) (sym (with_flag b e flag made.state made.waits)) (record {
        state = refl;
        ends = λ late. absurd (cc);
        puts = record { bytes = made.piece ∙ sym same; lines = lines_more made.lines };
        changes = quiet;
        cpu = made.cpu;
        bytes = made.bytes;
        input = made.input;
        to_console = made.to_console;
        to_report = rw (more_lines e (Traps b.number 1 b.cpu.cs b.cpu.ip)) (puts_more _ _ r s q put.Done made.to_report took);
      })

  pub late_with_trap : has_trap_flag b.cpu.flags ≡ true → e.changes ≡ [] → IsMade f e Live tally.bytes tally.lines cpu new j c d r s → GainsSome s q (λ front. IsPrefix front (lines_text (Traps b.number 1 b.cpu.cs b.cpu.ip ∷ [])))
      → IsDone (single_stepped b e) (record { state = Trapped 1; tally = more; whole = false }) cpu (whole f new).bytes j c d r q
  late_with_trap flag quiet made took =
      subst (λ (x : Effect). IsDone x (record { state = Trapped 1; tally = more; whole = false }) cpu (whole f new).bytes j c d r q) (sym (with_flag b e flag made.state made.waits)) (record {
        state = refl;
        ends = λ late. refl;
        puts = record { bytes = made.piece ∙ sym same; lines = lines_more made.lines };
        changes = quiet;
        cpu = made.cpu;
        bytes = made.bytes;
        input = made.input;
        to_console = made.to_console;
        to_report = rw (more_lines e (Traps b.number 1 b.cpu.cs b.cpu.ip)) (puts_more _ _ r s q put.Failed made.to_report took);
      })

-- a fault in a call is a fault in the step, whatever line would follow
in_part_more : (b : Before) (e : Effect) (flag live : Bool) (cpu before : Cpu) (old new : ℕ → List ℕ) (i j c d r q : Option (List ℕ)) → IsInPart e cpu before old new i j c d r q
    → IsInPart (if flag && live then record e { state = Trapped 1; lines = e.lines ++ Traps b.number 1 b.cpu.cs b.cpu.ip ∷ [] } else e) cpu before old new i j c d r q
in_part_more b e true true cpu before old new i j c d r q part = record {
  cpu = part.cpu;
  bytes = part.bytes;
  input = part.input;
  to_console = part.to_console;
  to_report = rw (more_lines e (Traps b.number 1 b.cpu.cs b.cpu.ip)) (puts_front _ _ r q part.to_report);
  in_order = part.in_order;
  selectors = part.selectors;
  changes = part.changes;
}
in_part_more b e true false cpu before old new i j c d r q part = part
in_part_more b e false live cpu before old new i j c d r q part = part

pub in_part : (b : Before) (e : Effect) (cpu before : Cpu) (old new : ℕ → List ℕ) (i j c d r q : Option (List ℕ)) → IsInPart e cpu before old new i j c d r q → IsInPart (single_stepped b e) cpu before old new i j c d r q
in_part b e cpu before old new i j c d r q part = in_part_more b e (has_trap_flag b.cpu.flags) (is_live e.state && not e.waits) cpu before old new i j c d r q part
