-- The lines of linked modules, one after the other, and what `check` shows and refuses by what it opened.
use Rattle.std.proofs.Common.{◌≡◌, ℕ, zero, suc, ◌+◌, List, [], ◌∷◌, ◌++◌, take, map, Option, Some, None, option_map, ap, sym, ◌∙◌, refl, subst, arith, append-nil, add-one}
use Rattle.std.proofs.lemmas.List.{append_assoc}
use Rattle.std.specs.Prelude.{Err, Ok, String, slice_get}
use Rattle.std.specs.declared.alloc.Global.{Global}
use Rattle.o2_words.specs.declared.words.Verb.{Verb}
use Rattle.o2_words.specs.declared.words.Verb.TheVariants.{Exe, Run, Check, Dump, Bench}
use Rattle.o2_words.specs.Words.{IsCommandFor, verb_text}
use Rattle.o2_words.proofs.Verbs.{one_command}
use Rattle.o2_image.specs.Getters.{nth}
use Rattle.o2_image.specs.ImageList.{ImageList, Resolution}
use Rattle.o2_image.specs.Parts.{Parts}
use Rattle.o2_dynlink.specs.Outcome.{modules_of}
use Rattle.o2_open.specs.declared.session.Session.{Session}
use Rattle.o2_open.specs.declared.fault.OpenFault.{OpenFault}
use Rattle.o2_open.specs.declared.fault.OpenFault.TheVariants as open_fault
use Rattle.o2_open.specs.Loads.{Contents, Fails, Refuses as OpenRefuses, loaded}
use Rattle.o2_run.specs.Pieces.{Counts}
use Rattle.o2_cli.specs.declared.status.Status.{Status}
use Rattle.o2_cli.specs.declared.status.Status.TheVariants as status
use Rattle.o2_cli.specs.Top.{Possible, IsBench, IsCheck, IsFirst, Refuses, Shows, OnFileFault, OnInputFault, OnSwapFault, OnTried}
use Rattle.o2_cli.specs.Statuses.{status_by}
use Rattle.o2_cli.specs.Checks.{module_line, with_line, module_lines, IsUnstarted, ShowsLines, Checks, ChecksFile}
use Rattle.o2_cli.proofs.Runs.{load_started}

with_line_behind : (shim : Option (List ℕ)) (front text : List ℕ) (o : Option Parts) → with_line shim (front ++ text) o ≡ front ++ with_line shim text o
with_line_behind shim front text None = refl
with_line_behind shim front text (Some m) = append_assoc front text (module_line shim m)

line_more : (shim : Option (List ℕ)) (ms : List Resolution) (k : ℕ) → module_lines shim (take (suc k) (map (λ (m : Resolution). m.0) ms)) ≡ with_line shim (module_lines shim (take k (map (λ (m : Resolution). m.0) ms))) (option_map (λ (m : Resolution). m.0) (slice_get ms k))
line_more shim [] zero = refl
line_more shim [] (suc k) = refl
line_more shim (x ∷ ms) zero = append-nil (module_line shim x.0)
line_more shim (x ∷ ms) (suc k) =
    ap (λ (t : List ℕ). module_line shim x.0 ++ t) (line_more shim ms k)
    ∙ sym (with_line_behind shim (module_line shim x.0) (module_lines shim (take k (map (λ (m : Resolution). m.0) ms))) (option_map (λ (m : Resolution). m.0) (slice_get ms k)))

nth_next : (ms : List Resolution) (k : ℕ) → nth ms (k + 1) ≡ slice_get ms k
nth_next ms k = grind arith

-- one place more
pub lines_next : (shim : Option (List ℕ)) (images : ImageList) (k : ℕ) (text new : List ℕ) → text ≡ module_lines shim (take k (modules_of images)) → new ≡ with_line shim text (option_map (λ (m : Resolution). m.0) (nth images.modules (k + 1)))
    → new ≡ module_lines shim (take (k + 1) (modules_of images))
lines_next shim images k text new before is =
    is
    ∙ ap (λ (t : List ℕ). with_line shim t (option_map (λ (m : Resolution). m.0) (nth images.modules (k + 1)))) before
    ∙ ap (λ (o : Option Resolution). with_line shim (module_lines shim (take k (modules_of images))) (option_map (λ (m : Resolution). m.0) o)) (nth_next images.modules k)
    ∙ sym (line_more shim images.modules k)
    ∙ ap (λ (j : ℕ). module_lines shim (take j (modules_of images))) (sym (add-one k))

-- Words are one command.

abbrev first_word : List (List ℕ) → List ℕ
first_word [] = []
first_word (w ∷ ws) = w

abbrev second_word : List (List ℕ) → List ℕ
second_word [] = []
second_word (w ∷ ws) = first_word ws

-- the first letters tell verbs apart
abbrev first_letter : List ℕ → ℕ
first_letter [] = 0
first_letter (x ∷ xs) = x

is_check : (v : Verb) → verb_text v ≡ verb_text Check → v ≡ Check
is_check Check e = refl
is_check v e = let letter : first_letter (verb_text v) ≡ 99 = ap first_letter e in absurd (omega (arith, letter))

module _ (words : List (String Global)) (v w : Verb) (name other : List ℕ) (one : IsCommandFor words v name) (two : IsCommandFor words w other) where
  pub name_is : name ≡ other
  name_is = ap second_word (sym one.two ∙ two.two)

  pub verb_is : v ≡ w
  verb_is = one_command words v w name other one two

-- the verb of a bench
pub bench_is : (words : List (String Global)) (v : Verb) (name : List ℕ) → IsCommandFor words v name → IsBench words → (n : ℕ) × (v ≡ Bench n)
bench_is words v name command bench = (bench.0, verb_is words v (Bench bench.0) name bench.1 command bench.2)

-- a command of another verb is no check
pub no_check : (words : List (String Global)) (v : Verb) (name : List ℕ) → IsCommandFor words v name → ((v ≡ Check) → ⊥) → IsCheck words → ⊥
no_check words v name command starts check = starts (is_check v (ap first_word (sym command.two ∙ check.1.two)))

-- what keeps a command from opening anything is its first refusal
first_fault : (verb : Verb) (contents : Contents) (name input : List ℕ) (f : OpenFault) → loaded verb contents name ≡ Err f → IsFirst verb contents name input f
first_fault Exe contents name input f e = ap (load_started input) e
first_fault Run contents name input f e = ap (load_started input) e
first_fault Check contents name input f e = e
first_fault Dump contents name input f e = ap (load_started input) e
first_fault (Bench count) contents name input f e = ap (load_started input) e

module _ (words : List (String Global)) (may : Possible) (verb : Verb) (name : List ℕ) (command : IsCommandFor words verb name) where
  refused_by : (f : OpenFault) → ((contents : Contents) → may contents → Fails f (loaded verb contents name)) → Refuses words may (status_by f)
  refused_by (open_fault.NoFile n) h = record { verb = verb; name = name; command = command; refused = λ contents input is. first_fault verb contents name input _ (h contents is) }
  refused_by (open_fault.BadMachine f) h = record { verb = verb; name = name; command = command; refused = λ contents input is. first_fault verb contents name input _ (h contents is) }
  refused_by (open_fault.BadModule n f) h = record { verb = verb; name = name; command = command; refused = λ contents input is. first_fault verb contents name input _ (h contents is) }
  refused_by open_fault.FileFault h = (verb, name, command)
  refused_by open_fault.NoMemory h = (verb, name, command)

  pub refused_open : (f : OpenFault) (answer : Status) → answer ≡ status_by f → ((contents : Contents) → may contents → Fails f (loaded verb contents name)) → Refuses words may answer
  refused_open f answer is h = subst (λ (a : Status). Refuses words may a) (sym is) (refused_by f h)

  -- a check refuses nothing of what it opened
  pub refused_lines : (s : Session) (c d : Option (List ℕ)) (answer : Status) → ShowsLines s c d answer → Refuses words may answer
  refused_lines s c d status.Fine t = (verb, name, command)
  refused_lines s c d status.SinkFault t = (verb, name, command)
  refused_lines s c d status.NoMemory t = (verb, name, command)
  refused_lines s c d status.BadWords t = absurd t
  refused_lines s c d (status.NoFile n) t = absurd t
  refused_lines s c d (status.BadMachine f) t = absurd t
  refused_lines s c d (status.BadModule n f) t = absurd t
  refused_lines s c d status.FileFault t = absurd t
  refused_lines s c d status.InputFault t = absurd t
  refused_lines s c d status.NoRoom t = absurd t
  refused_lines s c d status.SwapFull t = absurd t
  refused_lines s c d status.SwapFault t = absurd t

-- where nothing opens, the console is as it was
quiet_by : (name : List ℕ) (may : Possible) (c : Option (List ℕ)) (f : OpenFault) → ChecksFile name may c c (status_by f)
quiet_by name may c (open_fault.NoFile n) = refl
quiet_by name may c (open_fault.BadMachine f) = refl
quiet_by name may c (open_fault.BadModule n f) = refl
quiet_by name may c open_fault.FileFault = refl
quiet_by name may c open_fault.NoMemory = refl

pub quiet : (words : List (String Global)) (may : Possible) (c : Option (List ℕ)) (f : OpenFault) (answer : Status) → answer ≡ status_by f → Checks words may c c answer
quiet words may c f answer is = λ name command. subst (λ (a : Status). ChecksFile name may c c a) (sym is) (quiet_by name may c f)

-- what a check shows of a session
module _ (words : List (String Global)) (may : Possible) (name : List ℕ) (command : IsCommandFor words Check name) (s : Session) (c d : Option (List ℕ)) where
  pub texts_of_check : (blocks : ℕ) (i r : Option (List ℕ)) (e : Type 0) (puts : Counts) (answer : Status) → ShowsLines s c d answer → Shows words may blocks i i c d r r e puts answer
  texts_of_check blocks i r e puts status.Fine t = λ runs. absurd (runs (name, command))
  texts_of_check blocks i r e puts status.SinkFault t = λ runs. absurd (runs (name, command))
  texts_of_check blocks i r e puts status.NoMemory t = record { input = refl; console = t; report = refl }
  texts_of_check blocks i r e puts status.BadWords t = absurd t
  texts_of_check blocks i r e puts (status.NoFile n) t = absurd t
  texts_of_check blocks i r e puts (status.BadMachine f) t = absurd t
  texts_of_check blocks i r e puts (status.BadModule n f) t = absurd t
  texts_of_check blocks i r e puts status.FileFault t = absurd t
  texts_of_check blocks i r e puts status.InputFault t = absurd t
  texts_of_check blocks i r e puts status.NoRoom t = absurd t
  texts_of_check blocks i r e puts status.SwapFull t = absurd t
  texts_of_check blocks i r e puts status.SwapFault t = absurd t

  file_shown : (loads : (contents : Contents) → may contents → loaded Check contents name ≡ Ok s) (answer : Status) → ShowsLines s c d answer → ChecksFile name may c d answer
  file_shown loads status.Fine t = λ contents is. record { session = s; links = loads contents is; shows = t }
  file_shown loads status.SinkFault t = λ contents is. record { session = s; links = loads contents is; shows = t }
  file_shown loads status.NoMemory t = t
  file_shown loads status.BadWords t = absurd t
  file_shown loads (status.NoFile n) t = absurd t
  file_shown loads (status.BadMachine f) t = absurd t
  file_shown loads (status.BadModule n f) t = absurd t
  file_shown loads status.FileFault t = absurd t
  file_shown loads status.InputFault t = absurd t
  file_shown loads status.NoRoom t = absurd t
  file_shown loads status.SwapFull t = absurd t
  file_shown loads status.SwapFault t = absurd t

  pub lines_of_check : (loads : (contents : Contents) → may contents → loaded Check contents name ≡ Ok s) (answer : Status) → ShowsLines s c d answer → Checks words may c d answer
  lines_of_check loads answer t = λ other too. subst (λ (n : List ℕ). ChecksFile n may c d answer) (name_is words Check Check name other command too) (file_shown loads answer t)

-- a check has a fault of a sink alone
pub check_faults : (s : Session) (c d : Option (List ℕ)) (P Q R : Type 0) (answer : Status) → ShowsLines s c d answer → (OnFileFault answer P × OnInputFault answer Q) × OnSwapFault answer R
check_faults s c d P Q R status.Fine t = ((tt, tt), tt)
check_faults s c d P Q R status.SinkFault t = ((tt, tt), tt)
check_faults s c d P Q R status.NoMemory t = ((tt, tt), tt)
check_faults s c d P Q R status.BadWords t = absurd t
check_faults s c d P Q R (status.NoFile n) t = absurd t
check_faults s c d P Q R (status.BadMachine f) t = absurd t
check_faults s c d P Q R (status.BadModule n f) t = absurd t
check_faults s c d P Q R status.FileFault t = absurd t
check_faults s c d P Q R status.InputFault t = absurd t
check_faults s c d P Q R status.NoRoom t = absurd t
check_faults s c d P Q R status.SwapFull t = absurd t
check_faults s c d P Q R status.SwapFault t = absurd t

-- what keeps a command from opening puts nothing
untried_by : (P : Type 0) (f : OpenFault) → OnTried (status_by f) P
untried_by P (open_fault.NoFile n) = tt
untried_by P (open_fault.BadMachine f) = tt
untried_by P (open_fault.BadModule n f) = tt
untried_by P open_fault.FileFault = tt
untried_by P open_fault.NoMemory = tt

pub untried : (P : Type 0) (f : OpenFault) (answer : Status) → answer ≡ status_by f → OnTried answer P
untried P f answer is = subst (λ (a : Status). OnTried a P) (sym is) (untried_by P f)

-- what keeps a command from opening is no refusal of a start
unstarted_by : (before now : ℕ) (f : OpenFault) → OpenRefuses before now f → IsUnstarted (status_by f)
unstarted_by before now (open_fault.NoFile n) h = tt
unstarted_by before now (open_fault.BadMachine f) h = tt
unstarted_by before now (open_fault.BadModule n f) h = h
unstarted_by before now open_fault.FileFault h = tt
unstarted_by before now open_fault.NoMemory h = tt

pub unstarted : (before now : ℕ) (f : OpenFault) (answer : Status) → answer ≡ status_by f → OpenRefuses before now f → IsUnstarted answer
unstarted before now f answer is h = subst IsUnstarted (sym is) (unstarted_by before now f h)
