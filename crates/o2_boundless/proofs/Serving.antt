-- A call by its row, from what its parts say.
use Rattle.std.proofs.Common.{◌≡◌, ℕ, true, false, List, [], ◌∷◌, ◌++◌, Result, Ok, Err, Option, Some, None, replicate, zero, suc, get_or, refl, ap, sym, subst, ◌∙◌}
use Rattle.std.specs.Result.{IfOk}
use Rattle.std.specs.Prelude.{slice_index}
use Rattle.std.specs.List.{list_all}
use mathlib.Core.Path.{fun_ext}
use Rattle.o2_base.specs.declared.memory.NoMemory.{NoMemory}
use Rattle.o2_isa.specs.declared.cpu.Cpu.{Cpu}
use Rattle.o2_world.specs.declared.types.Argument.{Argument}
use Rattle.o2_world.specs.declared.types.Slot.{Slot}
use Rattle.o2_world.specs.declared.types.State.TheVariants.{Live}
use Rattle.o2_world.specs.World.{Calls, Line}
use Rattle.o2_world.specs.CallParts.{Before, Effect, returned, trapped, waiting}
use Rattle.o2_world.specs.Calls.{row_of}
use Rattle.o2_world.specs.Changes.{moved_lines}
use Rattle.o2_world.specs.Outcomes.{CallRow, Done, Outcome, Does, Fails, Waits, Leaves, by_ruling, come_out, gone_indexes}
use Rattle.o2_world.specs.HugeRulings.{without}
use Rattle.o2_world.specs.Rulings.{Ruling}
use Rattle.o2_world.specs.Slots.{are_good, pointers_in, put_all, shown_in, targets_in, words_in}
use Rattle.o2_world_parts.specs.declared.changing.Edit.{Edit}
use Rattle.o2_world_parts.specs.declared.effect.Effect as code
use Rattle.o2_world_parts.specs.declared.effect.Done as code_done
use Rattle.o2_boundless.specs.declared.outcome.Outcome as code_outcome
use Rattle.o2_boundless.specs.declared.rows.Row.{Row}
use Rattle.o2_world_parts.specs.Layouts.{from_top}
use Rattle.o2_boundless.specs.Called.{worded_by, words_by}
use Rattle.o2_world_parts.specs.Edits.{changes_of}
use Rattle.o2_world_parts.specs.Effects.{IsEffect, came_back, left_by}
use Rattle.o2_world_parts.specs.Layouts.{done_of, good_by, placed}
use Rattle.o2_boundless.specs.Outcomes.{outcome_by, outcome_of, row_by, shape_by, slots_by}
use Rattle.o2_world_parts.proofs.Placed.{good_is}
use Rattle.o2_world_parts.proofs.Writing.{put_nothing}

-- what is told of every start with these registers
pub here : (b : Before) (r : Result code.Effect NoMemory) (c : Cpu) (f : Before → Effect) → b.cpu ≡ c
    → IfOk r (λ x. (a : Before) → a.number ≡ b.number → a.cpu ≡ c → IsEffect a x (f a)) → IfOk r (λ x. IsEffect b x (f b))
here b (Err e) c f q h = tt
here b (Ok x) c f q h = h b refl q

-- the same effect, said otherwise
pub said : (b : Before) (r : Result code.Effect NoMemory) (e f : Effect) → e ≡ f → IfOk r (λ x. IsEffect b x e) → IfOk r (λ x. IsEffect b x f)
said b r e f q h =
    let P : Effect → Type 0 = λ g. IfOk r (λ x. IsEffect b x g) in
    subst P q h

-- zeros behind the words change none

zero_at : (n i : ℕ) → get_or (replicate n zero) i zero ≡ zero
zero_at zero i = refl
zero_at (suc n) zero = refl
zero_at (suc n) (suc i) = zero_at n i

pad_at : (words : List ℕ) (n i : ℕ) → get_or (words ++ replicate n 0) i 0 ≡ get_or words i 0
pad_at [] n i = zero_at n i
pad_at (a ∷ words) n zero = refl
pad_at (a ∷ words) n (suc i) = pad_at words n i

pub padded_is : (all words : List ℕ) → all ≡ words ++ replicate 6 0 → slice_index all ≡ slice_index words
padded_is all words e = ap slice_index e ∙ fun_ext (pad_at words 6)

-- name and slots of the row of the code

abbrev name_in : Option (List ℕ × List Slot) → List ℕ
name_in None = []
name_in (Some s) = s.0

abbrev slots_in : Option (List ℕ × List Slot) → List Slot
slots_in None = []
slots_in (Some s) = s.1

pub slots_are : (o : Option CallRow) (name : List ℕ) (slots : List Slot) → shape_by o ≡ Some (name, slots) → slots ≡ slots_by o
slots_are None name slots e = cc
slots_are (Some r) name slots e = sym (ap slots_in e)

-- with a bad pointer
pub bad_is : (o : Option CallRow) (b : Before) (next : ℕ) (name : List ℕ) (slots : List Slot) (a : ℕ → ℕ) → shape_by o ≡ Some (name, slots) → list_all (good_by b.view a) (placed slots) ≡ false
    → trapped b 13 ≡ worded_by o b next a
bad_is None b next name slots a e h = refl
bad_is (Some r) b next name slots a e h =
    let bad : are_good b.view (pointers_in r.slots b.view a) ≡ false = ap (λ (ss : List Slot). are_good b.view (pointers_in ss b.view a)) (ap slots_in e) ∙ (sym (good_is b.view a slots) ∙ h) in
    rw bad refl

named : List ℕ → List Slot → CallRow
named name slots = record { name = name; slots = slots; outcome = λ b a. Fails 0 [] }

come_named : (r : CallRow) (b : Before) (next : ℕ) (a : ℕ → ℕ) (o : Outcome) → come_out (named r.name r.slots) b next a o ≡ come_out r b next a o
unfolding named
come_named r b next a (Fails error values) = refl
come_named r b next a (Does d) = refl
come_named r b next a Waits = refl
come_named r b next a (Leaves action code) = refl

-- with good ones
pub good_as : (o : Option CallRow) (b : Before) (next : ℕ) (row : Row) (a : ℕ → ℕ) (out : Outcome) → shape_by o ≡ Some (row.name.now, row.slots.now) → list_all (good_by b.view a) (placed row.slots.now) ≡ true
    → out ≡ outcome_by o b a → come_out (row_by row) b next a out ≡ worded_by o b next a
unfolding named
good_as None b next row a out e h q = cc
good_as (Some r) b next row a out e h q =
    let good : are_good b.view (pointers_in r.slots b.view a) ≡ true = ap (λ (ss : List Slot). are_good b.view (pointers_in ss b.view a)) (ap slots_in e) ∙ (sym (good_is b.view a row.slots.now) ∙ h) in
    let same : come_out (row_by row) b next a out ≡ come_out r b next a (r.outcome b a) =
    ap (λ (n : List ℕ). come_out (named n row.slots.now) b next a out) (sym (ap name_in e))
    ∙ (ap (λ (ss : List Slot). come_out (named r.name ss) b next a out) (sym (ap slots_in e))
    ∙ (come_named r b next a out ∙ ap (come_out r b next a) q)) in
    rw good same

-- an error: nothing is written and nothing changes
abbrev pub nothing : Before → List Argument → Done
nothing b values = record { values = values; parts = []; changes = []; input = b.input; piece = [] }

pub nothing_is : (b : Before) (values : List Argument) (parts : List (List ℕ)) (es : List Edit) (piece : List ℕ) → parts ≡ [] → es ≡ [] → piece ≡ []
    → ◌≡◌ {A = Done} (record { values = values; parts = parts; changes = changes_of es; input = b.input; piece = piece }) (nothing b values)
nothing_is b values parts es piece p e q =
    let D : List (List ℕ) → List Edit → List ℕ → Done = λ ps ds cs. record { values = values; parts = ps; changes = changes_of ds; input = b.input; piece = cs } in
    ap (λ ps. D ps es piece) p ∙ (ap (λ ds. D [] ds piece) e ∙ ap (λ cs. D [] [] cs) q)

no_lines : (name : List ℕ) → moved_lines name [] ≡ []
unfolding moved_lines
no_lines name = refl

failed_by : Before → Cpu → (ℕ → List ℕ) → List Line → Effect
failed_by b cpu bytes lines = record { cpu = cpu; state = Live; bytes = bytes; changes = []; input = b.input; piece = []; lines = lines; waits = false }

pub fails_is : (r : CallRow) (b : Before) (next : ℕ) (a : ℕ → ℕ) (cpu : Cpu) (words error : ℕ) (values : List Argument) → cpu ≡ returned b.cpu next words error → words ≡ (words_in r.slots)
    → came_back b cpu r.name r.slots a error (nothing b values) ≡ come_out r b next a (Fails error values)
unfolding failed_by
fails_is r b next a cpu words error values c w =
    let line : Line = Calls b.number r.name (shown_in r.slots a) error values in
    ap (λ (k : Cpu). failed_by b k (put_all b.view.held (targets_in r.slots a) [] b.view.bytes) (line ∷ moved_lines r.name [])) (c ∙ ap (λ (n : ℕ). returned b.cpu next n error) w)
    ∙ (ap (λ (m : ℕ → List ℕ). failed_by b (returned b.cpu next (words_in r.slots) error) m (line ∷ moved_lines r.name [])) (put_nothing b.view.held (targets_in r.slots a) b.view.bytes)
    ∙ ap (λ (ls : List Line). failed_by b (returned b.cpu next (words_in r.slots) error) b.view.bytes (line ∷ ls)) (no_lines r.name))

-- A call that comes out so, from what is said of how it comes back.

abbrev ComesBack : Before → (n : ℕ) → code.Effect → Cpu → (name : List ℕ) → List (Slot × ℕ) → (ℕ → ℕ) → (error : ℕ) → code_done.Done → Type 0
ComesBack b n x cpu name ps a error d = (c : Before) (slots : List Slot) → c.number ≡ n → ps ≡ placed slots → IsEffect c x (came_back c cpu name slots a error (done_of c.input d))

pub out_fails : (row : Row) (b : Before) (r : Result code.Effect NoMemory) (c after : Cpu) (words error : ℕ) (a : ℕ → ℕ) (ps : List (Slot × ℕ)) (d : code_done.Done) (o : Outcome) (values : List Argument)
    → b.cpu ≡ c → after ≡ returned c c.ip words error → words ≡ words_in row.slots.now → ps ≡ placed row.slots.now → done_of b.input d ≡ nothing b values → o ≡ Fails error values
    → IfOk r (λ x. ComesBack b b.number x after row.name.now ps a error d) → IfOk r (λ x. IsEffect b x (come_out (row_by row) b b.cpu.ip a o))
out_fails row b (Err e) c after words error a ps d o values i f w p n q h = tt
out_fails row b (Ok x) c after words error a ps d o values i f w p n q h =
    let P : Effect → Type 0 = λ e. IsEffect b x e in
    subst P
    (ap (came_back b after row.name.now row.slots.now a error) n
    ∙ (fails_is (row_by row) b b.cpu.ip a after words error values (f ∙ ap (λ (k : Cpu). returned k k.ip words error) (sym i)) w
    ∙ ap (come_out (row_by row) b b.cpu.ip a) (sym q)))
    (h b row.slots.now refl p)

pub out_does : (row : Row) (b : Before) (r : Result code.Effect NoMemory) (c back after : Cpu) (words : ℕ) (a : ℕ → ℕ) (ps : List (Slot × ℕ)) (d : code_done.Done) (o : Outcome)
    → b.cpu ≡ c → back ≡ returned c c.ip words 0 → after ≡ without back (gone_indexes b.known (changes_of d.edits.items)) → words ≡ words_in row.slots.now → ps ≡ placed row.slots.now → o ≡ Does (done_of b.input d)
    → IfOk r (λ x. ComesBack b b.number x after row.name.now ps a 0 d) → IfOk r (λ x. IsEffect b x (come_out (row_by row) b b.cpu.ip a o))
out_does row b (Err e) c back after words a ps d o i f g w p q h = tt
out_does row b (Ok x) c back after words a ps d o i f g w p q h =
    let P : Effect → Type 0 = λ e. IsEffect b x e in
    let gone : List ℕ = gone_indexes b.known (changes_of d.edits.items) in
    subst P
    (ap (λ (k : Cpu). came_back b k row.name.now row.slots.now a 0 (done_of b.input d))
    (g ∙ ap (λ (k : Cpu). without k gone) (f ∙ (ap (λ (k : Cpu). returned k k.ip words 0) (sym i) ∙ ap (λ (n : ℕ). returned b.cpu b.cpu.ip n 0) w)))
    ∙ ap (come_out (row_by row) b b.cpu.ip a) (sym q))
    (h b row.slots.now refl p)

pub out_leaves : (row : Row) (b : Before) (r : Result code.Effect NoMemory) (c : Cpu) (a : ℕ → ℕ) (action exit : ℕ) (o : Outcome) → b.cpu ≡ c → o ≡ Leaves action exit
    → IfOk r (λ x. (d : Before) → d.number ≡ b.number → d.cpu ≡ c → IsEffect d x (left_by d action exit)) → IfOk r (λ x. IsEffect b x (come_out (row_by row) b b.cpu.ip a o))
out_leaves row b r c a action exit o i q h =
    said b r (left_by b action exit) (come_out (row_by row) b b.cpu.ip a o) (ap (come_out (row_by row) b b.cpu.ip a) (sym q)) (here b r c (λ (d : Before). left_by d action exit) i h)

pub out_waits : (row : Row) (b : Before) (x : code.Effect) (c : Cpu) (a : ℕ → ℕ) (o : Outcome) → b.cpu ≡ c → o ≡ Waits
    → ((d : Before) → d.cpu ≡ c → IsEffect d x (waiting d)) → IsEffect b x (come_out (row_by row) b b.cpu.ip a o)
out_waits row b x c a o i q h =
    let P : Effect → Type 0 = λ e. IsEffect b x e in
    subst P (ap (come_out (row_by row) b b.cpu.ip a) (sym q)) (h b i)

-- The call of a service, from what is said of a certain one.

pub of_service : (service k : ℕ) (b : Before) (a : ℕ → ℕ) (r : Result code_outcome.Outcome NoMemory) (o : Outcome) → service ≡ k → o ≡ outcome_by (row_of k) b a
    → IfOk r (λ x. outcome_of b.input x ≡ o) → IfOk r (λ x. outcome_of b.input x ≡ outcome_by (row_of service) b a)
of_service service k b a (Err e) o s q h = tt
of_service service k b a (Ok x) o s q h = h ∙ (q ∙ ap (λ (n : ℕ). outcome_by (row_of n) b a) (sym s))

pub by_service : (service k : ℕ) (slots : List Slot) (b : Before) (a : ℕ → ℕ) (r : Result code_outcome.Outcome NoMemory) (u : Ruling) → service ≡ k → slots ≡ slots_by (row_of service)
    → by_ruling (slots_by (row_of k)) b u ≡ outcome_by (row_of k) b a → IfOk r (λ x. outcome_of b.input x ≡ by_ruling slots b u) → IfOk r (λ x. outcome_of b.input x ≡ outcome_by (row_of service) b a)
by_service service k slots b a r u s t q h =
    of_service service k b a r (by_ruling slots b u) s (ap (λ (ss : List Slot). by_ruling ss b u) (t ∙ ap (λ (n : ℕ). slots_by (row_of n)) s) ∙ q) h

-- a number without a row
pub none_is : (o : Option CallRow) (b : Before) (next : ℕ) (a : ℕ → ℕ) → shape_by o ≡ None → trapped b 13 ≡ worded_by o b next a
none_is None b next a e = refl
none_is (Some r) b next a e = cc

pub args_are : (o : Option CallRow) (name : List ℕ) (slots : List Slot) (words : ℕ) (args all : List ℕ) → shape_by o ≡ Some (name, slots) → words ≡ words_in slots → all ≡ from_top words args ++ replicate 6 0
    → slice_index all ≡ slice_index (from_top (words_by o) args)
args_are None name slots words args all e w h = cc
args_are (Some r) name slots words args all e w h =
    padded_is all (from_top words args) h
    ∙ ap (λ (n : ℕ). slice_index (from_top n args)) (w ∙ ap words_in (sym (ap slots_in e)))
