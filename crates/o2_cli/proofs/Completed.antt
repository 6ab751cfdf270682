-- What keeps a command from being done: a refusal, a fault, or a step that hasn't what it needs.
use Rattle.std.proofs.Common.{inl, inr, ◌≡◌, ◌≤◌, ◌<◌, ℕ, Bool, true, false, cond, arith, List, [], ◌∷◌, length, map, Option, Some, None, subst, sym, refl}
use Rattle.std.proofs.lemmas.List.Sums.{sum_by-cons}
use Rattle.std.specs.Prelude.{Ok, Err, Result, String, filter, max, sum}
use Rattle.std.specs.declared.alloc.Global.{Global}
use Rattle.o2_words.specs.declared.words.Verb.{Verb}
use Rattle.o2_words.specs.declared.words.Verb.TheVariants.{Exe, Run, Check, Dump, Bench}
use Rattle.o2_words.specs.Words.{IsCommandFor}
use Rattle.o2_conf.specs.Dispatch.{Dispatch}
use Rattle.o2_world.specs.Map.{Map, get}
use Rattle.o2_world.specs.World.{World, Setting, Segment, Process}
use Rattle.o2_world.specs.Holders.{process_at}
use Rattle.o2_world.specs.Run.{IsBelowLast, after, before, next_dispatch, ready}
use Rattle.o2_run.specs.Room.{room, live_load, room_next, load_next, room_between, load_between, of_both, behind, kept_size, larger, need, needs, rounded, size_of}
use Rattle.o2_run.specs.Stops.{IsSwapFull, StopsFor}
use Rattle.o2_run.specs.declared.steps.Stop.{Stop}
use Rattle.o2_run.specs.declared.steps.Stop.TheVariants.{NoRoom, SwapFull}
use Rattle.o2_outer.specs.Texts.{Rose}
use Rattle.o2_run.specs.Pieces.{Counts, counts}
use Rattle.o2_open.specs.declared.session.Session.{Session}
use Rattle.o2_open.specs.declared.fault.OpenFault.{OpenFault}
use Rattle.o2_open.specs.declared.fault.OpenFault.TheVariants as open_fault
use Rattle.o2_open.specs.Loads.{Contents, Fails, Refuses as OpenRefuses, loaded}
use Rattle.o2_cli.specs.declared.status.Status.{Status}
use Rattle.o2_cli.specs.declared.status.Status.TheVariants as status
use Rattle.o2_cli.specs.Top.{IsCheck, IsFirst, IsRefused, Opened, Opens, Refuses, Shows, Possible, opened, OnFileFault, OnInputFault, OnSinkFault, OnSwapFault}
use Rattle.o2_cli.specs.Ends.{HasStop}
use Rattle.o2_cli.specs.DumpTexts.{IsForRoom}
use Rattle.o2_cli.specs.Checks.{Checks}
use Rattle.o2_cli.specs.Done.{HasAmple, Completes, CompletesCheck}
use Rattle.o2_cli.specs.Statuses.{status_by}
use Rattle.o2_cli.proofs.Checked.{name_is, refused_open, verb_is}
use Rattle.o2_cli.proofs.Runs.{untouched}

-- What is needed or locked is a part of what lives.

part_le : (f g : ℕ → ℕ) (c : ℕ → Bool) → ((n : ℕ) → f n ≤ g n) → (xs : List ℕ) → sum (map f (filter c xs)) ≤ sum (map g xs)
part_le f g c less [] = omega arith
part_le f g c less (x ∷ xs) = go (c x) (part_le f g c less xs)
  where
    go : (b : Bool) → sum (map f (filter c xs)) ≤ sum (map g xs) → sum (map f (cond b (x ∷ filter c xs) (filter c xs))) ≤ sum (map g (x ∷ xs))
    go false rest = (let whole = sum_by-cons (λ (n : ℕ). n) (g x) (map g xs) in omega (arith, whole, rest))
    go true rest =
        (let some = sum_by-cons (λ (n : ℕ). n) (f x) (map f (filter c xs)) in
        let whole = sum_by-cons (λ (n : ℕ). n) (g x) (map g xs) in
        let one = less x in
        omega (arith, some, whole, one, rest))

-- what is discarded is kept by none, and lives with its size
kept_le : (o : Option Segment) → kept_size o ≤ size_of o
kept_le None = omega arith
kept_le (Some s) = go s.discarded
  where
    go : (b : Bool) → cond b 0 (length s.bytes) ≤ length s.bytes
    go true = omega arith
    go false = omega arith

max_le : (x y z : ℕ) → x ≤ y → max x z ≤ max y z
max_le x y z less = grind arith

rounded_le : (x y : ℕ) → x ≤ y → rounded x ≤ rounded y
rounded_le x y less = omega (arith, less)

needs_le : (old new : Map Segment) (n : ℕ) → needs old new n ≤ larger old new n
needs_le old new n = rounded_le _ _ (max_le (kept_size (get old n)) (size_of (get old n)) (size_of (get new n)) (kept_le (get old n)))

between_le : (old new : Map Segment) (all : List ℕ) → room_between old new all ≤ load_between old new
between_le old new all = part_le (needs old new) (larger old new) _ (needs_le old new) (of_both old new)

next_le : (s : Setting) (w : World) (d : Dispatch) (o : Option Process) → room_next s w d o ≤ load_next s w d o
next_le s w d None = omega arith
next_le s w d (Some p) =
    let next = behind w d p (before s w d.current p) in
    between_le w.names next.names (need (before s w d.current p) next.names (process_at next.processes d.current))

rooms_live : (s : Setting) (w : World) → room s w ≤ live_load s w
unfolding room live_load
rooms_live s w = let v = ready w in next_le s v (next_dispatch s v) (process_at v.processes (next_dispatch s v).current)

pub no_stop_for_room : (blocks : ℕ) (s : Setting) (w : World) → HasAmple blocks s w → s.memory < room s w → ⊥
no_stop_for_room blocks s w (inl live) above = let part = rooms_live s w in absurd (omega (arith, live, part, above))
no_stop_for_room blocks s w (inr fits) above = absurd (omega (arith, fits.0, above))

pub no_full_swap : (blocks : ℕ) (s : Setting) (w : World) → HasAmple blocks s w → IsSwapFull blocks s w → ⊥
no_full_swap blocks s w (inl live) full = absurd (omega (arith, live, full.memory))
no_full_swap blocks s w (inr fits) full = absurd (omega (arith, fits.1, full.swap))

-- where a command's run stops, and why
pub stopped_at : (verb : Verb) (blocks : ℕ) (o : Opened) (why : Stop) → IsForRoom why → (j c d r q : Option (List ℕ)) (e : Type 0) (n : Counts) → HasStop verb blocks o why j c d r q e n
    → (k : ℕ) × IsBelowLast o.setting o.world k × StopsFor blocks o.setting (after o.setting o.world k) why
stopped_at Exe blocks o why room j c d r q e n t = (t.steps, t.below, t.cause)
stopped_at Run blocks o why room j c d r q e n t = (t.steps, t.below, t.cause)
stopped_at Check blocks o why room j c d r q e n t = absurd t
stopped_at Dump blocks o NoRoom room j c d r q e n t = (t.run.steps, t.run.below, t.run.cause)
stopped_at Dump blocks o SwapFull room j c d r q e n t = (t.run.steps, t.run.below, t.run.cause)
stopped_at Dump blocks o why room j c d r q e n t = absurd room
stopped_at (Bench count) blocks o why room j c d r q e n t = (t.run.steps, t.run.below, t.run.cause)

-- What opens isn't refused.

opens_or : (verb : Verb) (contents : Contents) (name text : List ℕ) (f : OpenFault) (o : Opened) → ((verb ≡ Check) → ⊥)
    → opened verb contents name text ≡ Ok o → IsFirst verb contents name text f → ⊥
opens_or Exe contents name text f o runs ok err = absurd (cc)
opens_or Run contents name text f o runs ok err = absurd (cc)
opens_or Check contents name text f o runs ok err = runs refl
opens_or Dump contents name text f o runs ok err = absurd (cc)
opens_or (Bench count) contents name text f o runs ok err = absurd (cc)

links_or : (contents : Contents) (name : List ℕ) (f : OpenFault) (s : Session) → loaded Check contents name ≡ Ok s → loaded Check contents name ≡ Err f → ⊥
links_or contents name f s ok err = absurd (cc)

pub same_start : (r : Result Opened OpenFault) (a b : Opened) → r ≡ Ok a → r ≡ Ok b → a ≡ b
same_start r a b x y = cc

module _ (words : List (String Global)) (may : Possible) (contents : Contents) (is : may contents) where
  -- a refusal is one of this command
  refused_as : (verb : Verb) (name text : List ℕ) (f : OpenFault) → IsCommandFor words verb name → IsRefused words may f → IsFirst verb contents name text f
  refused_as verb name text f command r =
      subst (λ (v : Verb). IsFirst v contents name text f) (verb_is words r.verb verb r.name name r.command command)
      (subst (λ (n : List ℕ). IsFirst r.verb contents n text f) (name_is words r.verb verb r.name name r.command command) (r.refused contents text is))

  unrefused : (text : List ℕ) (P : Verb → Opened → Type 0) (f : OpenFault) → IsRefused words may f → (IsCheck words → ⊥) → Opens words contents text P → ⊥
  unrefused text P f r runs o =
      opens_or o.verb contents o.name text f o.start
      (λ check. runs (o.name, subst (λ (v : Verb). IsCommandFor words v o.name) check o.command))
      o.opens (refused_as o.verb o.name text f o.command r)

  unrefused_check : (name : List ℕ) (s : Session) (f : OpenFault) → IsRefused words may f → IsCommandFor words Check name → loaded Check contents name ≡ Ok s → ⊥
  unrefused_check name s f r command links = links_or contents name f s links (refused_as Check name [] f command r)

  -- what a command opens is one setting and one world
  one_start : (text : List ℕ) (P Q : Verb → Opened → Type 0) (a : Opens words contents text P) (b : Opens words contents text Q) → a.start ≡ b.start
  one_start text P Q a b =
      same_start (opened b.verb contents b.name text) a.start b.start
      (subst (λ (v : Verb). opened v contents b.name text ≡ Ok a.start) (verb_is words a.verb b.verb a.name b.name a.command b.command)
      (subst (λ (n : List ℕ). opened a.verb contents n text ≡ Ok a.start) (name_is words a.verb b.verb a.name b.name a.command b.command) a.opens)) b.opens

  pub unstopped : (text : List ℕ) (P Q : Verb → Opened → Type 0) → Opens words contents text P → Opens words contents text Q → ((v : Verb) (o : Opened) → P v o → Q v o → ⊥) → ⊥
  unstopped text P Q a b clash =
      clash b.verb b.start (subst (λ (v : Verb). P v b.start) (verb_is words a.verb b.verb a.name b.name a.command b.command) (subst (λ (o : Opened). P a.verb o) (one_start text P Q a b) a.runs)) b.runs

module _ (words : List (String Global)) (may : Possible) (files input sink device : Type 0) where
  pub completes : (blocks : ℕ) (i j c d r q : Option (List ℕ)) (e : Type 0) (n : Counts) (answer : Status)
      → Refuses words may answer → Shows words may blocks i j c d r q e n answer
      → OnFileFault answer files → OnInputFault answer input → OnSinkFault answer sink → OnSwapFault answer device
      → Completes words may blocks i files input sink device answer
  completes blocks i j c d r q e n status.Fine refuses shows f g h k = λ runs contents text is left o nf ni ns nd. tt
  completes blocks i j c d r q e n status.NoMemory refuses shows f g h k = λ runs contents text is left o nf ni ns nd. tt
  completes blocks i j c d r q e n status.BadWords refuses shows f g h k = λ runs contents text is left o nf ni ns nd. refuses (o.verb, o.name, o.command)
  completes blocks i j c d r q e n (status.NoFile name) refuses shows f g h k = λ runs contents text is left o nf ni ns nd. unrefused words may contents is text _ _ refuses runs o
  completes blocks i j c d r q e n (status.BadMachine fault) refuses shows f g h k = λ runs contents text is left o nf ni ns nd. unrefused words may contents is text _ _ refuses runs o
  completes blocks i j c d r q e n (status.BadModule name fault) refuses shows f g h k = λ runs contents text is left o nf ni ns nd. unrefused words may contents is text _ _ refuses runs o
  completes blocks i j c d r q e n status.FileFault refuses shows f g h k = λ runs contents text is left o nf ni ns nd. nf f
  completes blocks i j c d r q e n status.InputFault refuses shows f g h k = λ runs contents text is left o nf ni ns nd. ni g
  completes blocks i j c d r q e n status.SinkFault refuses shows f g h k = λ runs contents text is left o nf ni ns nd. ns h
  completes blocks i j c d r q e n status.SwapFault refuses shows f g h k = λ runs contents text is left o nf ni ns nd. nd k
  completes blocks i j c d r q e n status.NoRoom refuses shows f g h k = λ runs contents text is left o nf ni ns nd.
      unstopped words may contents is text _ _ (shows runs contents text is left) o
      (λ verb start stops ample. let at = stopped_at verb blocks start NoRoom tt j c d r q e n stops in no_stop_for_room blocks start.setting (after start.setting start.world at.0) (ample at.0 at.1) at.2)
  completes blocks i j c d r q e n status.SwapFull refuses shows f g h k = λ runs contents text is left o nf ni ns nd.
      unstopped words may contents is text _ _ (shows runs contents text is left) o
      (λ verb start stops ample. let at = stopped_at verb blocks start SwapFull tt j c d r q e n stops in no_full_swap blocks start.setting (after start.setting start.world at.0) (ample at.0 at.1) at.2)

  pub check_completes : (c d : Option (List ℕ)) (answer : Status) → Refuses words may answer → Checks words may c d answer
      → OnFileFault answer files → OnSinkFault answer sink → CompletesCheck words may files sink answer
  check_completes c d status.Fine refuses checks f h = λ contents name s is command links nf ns. tt
  check_completes c d status.NoMemory refuses checks f h = λ contents name s is command links nf ns. tt
  check_completes c d status.BadWords refuses checks f h = λ contents name s is command links nf ns. refuses (Check, name, command)
  check_completes c d (status.NoFile n) refuses checks f h = λ contents name s is command links nf ns. unrefused_check words may contents is name s _ refuses command links
  check_completes c d (status.BadMachine fault) refuses checks f h = λ contents name s is command links nf ns. unrefused_check words may contents is name s _ refuses command links
  check_completes c d (status.BadModule n fault) refuses checks f h = λ contents name s is command links nf ns. unrefused_check words may contents is name s _ refuses command links
  check_completes c d status.FileFault refuses checks f h = λ contents name s is command links nf ns. nf f
  check_completes c d status.SinkFault refuses checks f h = λ contents name s is command links nf ns. ns h
  check_completes c d status.InputFault refuses checks f h = λ contents name s is command links nf ns. checks name command
  check_completes c d status.NoRoom refuses checks f h = λ contents name s is command links nf ns. checks name command
  check_completes c d status.SwapFull refuses checks f h = λ contents name s is command links nf ns. checks name command
  check_completes c d status.SwapFault refuses checks f h = λ contents name s is command links nf ns. checks name command

-- what keeps a command from opening has a fault of the files for its cause, if any
module _ (P : Type 0) where
  no_input : (f : OpenFault) → OnInputFault (status_by f) P
  no_input (open_fault.NoFile n) = tt
  no_input (open_fault.BadMachine f) = tt
  no_input (open_fault.BadModule n f) = tt
  no_input open_fault.FileFault = tt
  no_input open_fault.NoMemory = tt

  no_sink : (f : OpenFault) → OnSinkFault (status_by f) P
  no_sink (open_fault.NoFile n) = tt
  no_sink (open_fault.BadMachine f) = tt
  no_sink (open_fault.BadModule n f) = tt
  no_sink open_fault.FileFault = tt
  no_sink open_fault.NoMemory = tt

  no_swap : (f : OpenFault) → OnSwapFault (status_by f) P
  no_swap (open_fault.NoFile n) = tt
  no_swap (open_fault.BadMachine f) = tt
  no_swap (open_fault.BadModule n f) = tt
  no_swap open_fault.FileFault = tt
  no_swap open_fault.NoMemory = tt

files_rose : (before now : ℕ) (f : OpenFault) → OpenRefuses before now f → OnFileFault (status_by f) (Rose before now)
files_rose before now (open_fault.NoFile n) h = tt
files_rose before now (open_fault.BadMachine f) h = tt
files_rose before now (open_fault.BadModule n f) h = tt
files_rose before now open_fault.FileFault h = h
files_rose before now open_fault.NoMemory h = tt

module _ (before now : ℕ) (f : OpenFault) (answer : Status) (is : answer ≡ status_by f) where
  pub open_file_fault : OpenRefuses before now f → OnFileFault answer (Rose before now)
  open_file_fault h = subst (λ (a : Status). OnFileFault a (Rose before now)) (sym is) (files_rose before now f h)

  pub open_input_fault : (P : Type 0) → OnInputFault answer P
  open_input_fault P = subst (λ (a : Status). OnInputFault a P) (sym is) (no_input P f)

  pub open_sink_fault : (P : Type 0) → OnSinkFault answer P
  open_sink_fault P = subst (λ (a : Status). OnSinkFault a P) (sym is) (no_sink P f)

  pub open_swap_fault : (P : Type 0) → OnSwapFault answer P
  open_swap_fault P = subst (λ (a : Status). OnSwapFault a P) (sym is) (no_swap P f)

pub open_completes : (words : List (String Global)) (may : Possible) (before now : ℕ) (input sink device : Type 0) (blocks : ℕ) (i : Option (List ℕ)) (verb : Verb) (name : List ℕ) → IsCommandFor words verb name
    → (f : OpenFault) (answer : Status) → answer ≡ status_by f → ((contents : Contents) → may contents → Fails f (loaded verb contents name)) → OpenRefuses before now f
    → Completes words may blocks i (Rose before now) input sink device answer
open_completes words may before now input sink device blocks i verb name command f answer is fails refuses =
    subst (λ (a : Status). Completes words may blocks i (Rose before now) input sink device a) (sym is)
    (completes words may (Rose before now) input sink device blocks i i None None None None (Unit {0}) (counts 0 0 0 0 0) (status_by f)
    (refused_open words may verb name command f (status_by f) refl fails)
    (untouched words may blocks i None None (Unit {0}) (counts 0 0 0 0 0) f (status_by f) refl)
    (files_rose before now f refuses) (no_input input f) (no_sink sink f) (no_swap device f))
