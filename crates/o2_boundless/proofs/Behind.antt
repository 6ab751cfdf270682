-- What a call does, as an effect, leaves the world of that effect.
use Rattle.std.proofs.Common.{◌≡◌, ℕ, Bool, not, ◌&&◌, ◌++◌, drop, List, [], ◌∷◌, Option, Some, Result, Ok, Err, ap, ◌∙◌}
use Rattle.std.specs.Prelude.{if◌then◌else◌}
use Rattle.std.specs.Result.{IfOk}
use Rattle.o2_isa.specs.declared.cpu.Cpu.{Cpu}
use Rattle.o2_world.specs.declared.types.State.{State}
use Rattle.o2_world.specs.World.{Process, is_live}
use Rattle.o2_world.specs.Changes.{Change, Finishes, with_all}
use Rattle.o2_world.specs.CallParts.{Effect}
use Rattle.o2_world.specs.Outcomes.{CallRow}
use Rattle.o2_world.specs.Views.{bytes_in, holds_in}
use Rattle.o2_world.specs.Text.{lines_text}
use Rattle.o2_world_parts.specs.declared.effect.Effect as code
use Rattle.o2_boundless.specs.Shown.{Shown, before_call}
use Rattle.o2_world_parts.specs.Effects.{IsEffect, written, worked_slowly}
use Rattle.o2_world_parts.specs.Edits.{changes_of}
use Rattle.o2_boundless.specs.Worked.{with_state, with_parts, with_worker, with_input, with_console, with_report, worked_from, worked_by}
use Rattle.o2_boundless.specs.Called.{effect_by, behind_effect, behind_by, answer_of, answer_by}

same_worked : (v : Shown) (n : ℕ) (p : Process) (c d : Cpu) (s t : State) (f g : ℕ → List ℕ) (i j k l m o : List ℕ) → c ≡ d → s ≡ t → f ≡ g → i ≡ j → k ≡ l → m ≡ o
    → worked_from v n p c s f i k m ≡ worked_from v n p d t g j l o
same_worked v n p c d s t f g i j k l m o a b e h q r =
    ap (λ c. worked_from v n p c s f i k m) a
    ∙ (ap (λ s. worked_from v n p d s f i k m) b
    ∙ (ap (λ f. worked_from v n p d t f i k m) e
    ∙ (ap (λ i. worked_from v n p d t g i k m) h
    ∙ (ap (λ k. worked_from v n p d t g j k m) q
    ∙ ap (λ m. worked_from v n p d t g j l m) r))))

pub worked_is : (v : Shown) (n : ℕ) (p : Process) (x : code.Effect) (e : Effect) → IsEffect (before_call v n p) x e
    → worked_by v n p x ≡ record v { world = worked_slowly v.world n p e; report = v.report ++ lines_text e.lines }
worked_is v n p x e o = same_worked v n p x.cpu e.cpu x.state e.state (written (holds_in p.held) x.targets.items x.parts.items (bytes_in v.world.names)) e.bytes _ e.input x.piece.items e.piece x.lines.items (lines_text e.lines) o.cpu o.state o.bytes o.input o.piece o.lines

pub worked_parts : (v a b d e w : Shown) (n : ℕ) (p q : Process) (x : code.Effect) → a ≡ v → b ≡ with_parts p.held x.targets.items x.parts.items a → q ≡ with_state p x.cpu x.state → d ≡ with_worker n q b
    → e ≡ with_input (drop x.read d.world.input) d → (f : Shown) → f ≡ with_console (e.world.console ++ x.piece.items) e → w ≡ with_report (f.report ++ x.lines.items) f → w ≡ worked_by v n p x
worked_parts v a b d e w n p q x ha hb hq hd he f hf hw =
    let B : Shown → Shown = with_parts p.held x.targets.items x.parts.items in
    let D : Shown → Shown = with_worker n (with_state p x.cpu x.state) in
    let E : Shown → Shown = λ s. with_input (drop x.read s.world.input) s in
    let F : Shown → Shown = λ s. with_console (s.world.console ++ x.piece.items) s in
    let W : Shown → Shown = λ s. with_report (s.report ++ x.lines.items) s in
    let kb : b ≡ B v = hb ∙ ap B ha in
    let kd : d ≡ D (B v) = hd ∙ (ap (λ r. with_worker n r b) hq ∙ ap D kb) in
    let ke : e ≡ E (D (B v)) = he ∙ ap E kd in
    let kf : f ≡ F (E (D (B v))) = hf ∙ ap F ke in
    hw ∙ ap W kf

changes_by : ℕ → State → List Change → List Change
changes_by n s cs = if is_live s then cs else cs ++ Finishes n s ∷ []

after_by : Shown → List Change → Shown
after_by w cs = record w { world = with_all w.world cs }

pub behind_is : (v : Shown) (n : ℕ) (p : Process) (x : code.Effect) (e : Effect) (w u : Shown) (cs : List Change) → IsEffect (before_call v n p) x e → w ≡ worked_by v n p x
    → cs ≡ (if is_live x.state then changes_of x.edits.items else changes_of x.edits.items ++ Finishes n x.state ∷ [])
    → u ≡ record w { world = with_all w.world cs } → u ≡ behind_effect v n p e
unfolding changes_by after_by
behind_is v n p x e w u cs o f g h =
    h
    ∙ (ap (λ w. after_by w cs) (f ∙ worked_is v n p x e o)
    ∙ ap (λ cs. after_by (record v { world = worked_slowly v.world n p e; report = v.report ++ lines_text e.lines }) cs)
    (g ∙ (ap (λ s. changes_by n s (changes_of x.edits.items)) o.state ∙ ap (changes_by n e.state) o.changes)))

-- where all changes are made
pub behind_ok : {T E : Type 0} (r : Result T E) (v : Shown) (n : ℕ) (p : Process) (x : code.Effect) (w u : Shown) (cs ds : List Change) → w ≡ worked_by v n p x
    → cs ≡ (if is_live x.state then changes_of x.edits.items else changes_of x.edits.items ++ Finishes n x.state ∷ []) → ds ≡ cs
    → IfOk r (λ t. u ≡ record w { world = with_all w.world ds }) → IfOk r (λ t. (e : Effect) → IsEffect (before_call v n p) x e → u ≡ behind_effect v n p e)
unfolding after_by
behind_ok {T} {E} (Err f) v n p x w u cs ds a b d h = tt
behind_ok {T} {E} (Ok t) v n p x w u cs ds a b d h = λ e o. behind_is v n p x e w u cs o a b (h ∙ ap (after_by w) d)

pub answer_is : (x : code.Effect) (v : Shown) (n : ℕ) (p : Process) (e : Effect) → IsEffect (before_call v n p) x e → (if is_live x.state && not x.waits then x.cpu.ax else 0) ≡ answer_of e
answer_is x v n p e o =
    ap (λ s. if is_live s && not x.waits then x.cpu.ax else 0) o.state
    ∙ (ap (λ (w : Bool). if is_live e.state && not w then x.cpu.ax else 0) o.waits
    ∙ ap (λ c. if is_live e.state && not e.waits then c.ax else 0) o.cpu)

-- a call of a process that there is

pub call_ok : {T E : Type 0} (g : Result T E) (f : T → Shown) (v : Shown) (n : ℕ) (args : List ℕ) (o : Option Process) (row : Option CallRow) (p : Process) → Some p ≡ o
    → IfOk g (λ t. f t ≡ behind_effect v n p (effect_by v n p row args)) → IfOk g (λ t. f t ≡ behind_by v n args row o)
call_ok {T} {E} (Err x) f v n args o row p e i = tt
call_ok {T} {E} (Ok t) f v n args o row p e i = i ∙ ap (behind_by v n args row) e

pub error_ok : {T E : Type 0} (g : Result T E) (f : T → ℕ) (v : Shown) (n : ℕ) (args : List ℕ) (o : Option Process) (row : Option CallRow) (p : Process) → Some p ≡ o
    → IfOk g (λ t. f t ≡ answer_of (effect_by v n p row args)) → IfOk g (λ t. f t ≡ answer_by v n args row o)
error_ok {T} {E} (Err x) f v n args o row p e i = tt
error_ok {T} {E} (Ok t) f v n args o row p e i = i ∙ ap (answer_by v n args row) e

pub ruleset answered = answer_is
