-- All that a process holds, and the start that a linked module gives.
use Rattle.std.proofs.Common.{◌≡◌, ℕ, zero, suc, Bool, true, false, not, ◌<◌, ◌+◌, ◌-◌, List, [], ◌∷◌, ◌++◌, length, Option, Some, None, if◌then◌else◌, ◌==◌, ◌&&◌, ap, sym, ◌∙◌, refl, arith, subst, nat_lt, append_assoc, ◌≤◌}
use Rattle.std.specs.Prelude.{slice_get, map, option_map, Result, Ok, Err}
use Rattle.std.specs.Result.{IsErr, IsErrAnd}
use Rattle.std.proofs.lemmas.Bool.Decides.{nat_tests}
use Rattle.o2_base.specs.declared.memory.Fail.TheVariants.{NoMemory, Bad}
use Rattle.o2_isa.specs.declared.cpu.Cpu.{Cpu}
use Rattle.o2_base.specs.declared.faults.ModuleFault.{ModuleFault}
use Rattle.o2_base.specs.declared.faults.ModuleFault.TheVariants.{NoStack, NoEntry, NoSegment}
use Rattle.o2_isa.specs.View.{is_code}
use Rattle.o2_conf.specs.declared.process.Process.{Process}
use Rattle.o2_conf.specs.Environments.{environment_bytes}
use Rattle.o2_ne.proofs.Tabulated.{length-tabulate}
use Rattle.o2_ne_segs.specs.declared.segment.Segment.{Segment}
use Rattle.o2_ne_segs.specs.SegmentTable.{nth_segment}
use Rattle.o2_image.specs.Getters.{nth, nth_list, is_library}
use Rattle.o2_image.specs.ImageList.{ImageList, Resolution, image_front, module_front}
use Rattle.o2_image.specs.Images.{Target, image_in}
use Rattle.o2_image.specs.Parts.{Parts}
use Rattle.o2_dynlink.specs.Outcome.{LinkedParts}
use Rattle.o2_world.specs.Starts.{Built, Loaded, LoadedSegment, Holding, Start, holdings, module_holdings, library_holdings, with_holdings, nth_loaded, is_stack, is_entry, start_check, first_cpu, image_size, cpu_by, started_as, within_names, where_checked, with_started}
use Rattle.o2_base.specs.declared.memory.Fail.{Fail}
use Rattle.o2_load.specs.Holds.{Names, Stage, IsHolding, IsOver, ComesTo, Adds, AddsAll}
use Rattle.o2_load.specs.Started.{StartsAs}
use Rattle.o2_load.proofs.Steps.{adds_then, adds_refused}
use Rattle.o2_load.specs.Loads.{loaded, loaded_at, loaded_module, loaded_segment, loaded_segments, segment_holdings, environment_of, start_of, program_place, is_stack_segment, is_entry_segment, stack_of, parts_check, parts_cpu, size_in, rights_of}

pub loaded_by : (images : ImageList) (place : ℕ) (o : Option Resolution) (m : Parts) → option_map (λ (p : Resolution). p.0) o ≡ Some m → loaded_at images place o ≡ loaded_module images place m
loaded_by images place None m e = cc
loaded_by images place (Some p) m e = let same : p.0 ≡ m = cc in ap (loaded_module images place) same

-- the program of a start
pub program_is : (l : LinkedParts) (pid place : ℕ) (m : Parts) (p : Process) → place ≡ program_place l pid → option_map (λ (p : Resolution). p.0) (nth l.images.modules place) ≡ Some m
    → (start_of l pid p).program ≡ loaded_module l.images place m
program_is l pid place m p e f = ap (loaded l.images) (sym e) ∙ loaded_by l.images place (nth l.images.modules place) m f

loaded_length : (images : ImageList) (place : ℕ) (m : Parts) (n : ℕ) (ss : List Segment) → length (loaded_segments images place m n ss) ≡ length ss
loaded_length images place m n [] = refl
loaded_length images place m n (s ∷ ss) = ap suc (loaded_length images place m (n + 1) ss)

-- holdings of a module, an environment and libraries
parts_of_start : ℕ → Loaded → ℕ → List ℕ → List Loaded → List Holding
parts_of_start pid m count bytes ms = module_holdings m 1 m.segments ++ environment_of pid count bytes ∷ library_holdings ms

pub holdings_are : (l : LinkedParts) (pid place : ℕ) (m : Parts) (p : Process) (bytes libraries : List ℕ) → place ≡ program_place l pid → option_map (λ (p : Resolution). p.0) (nth l.images.modules place) ≡ Some m
    → bytes ≡ environment_bytes p → libraries ≡ nth_list l.libraries pid
    → holdings pid (start_of l pid p) ≡ segment_holdings l.images place m ++ environment_of pid (length m.segments) bytes ∷ library_holdings (map (loaded l.images) libraries)
unfolding parts_of_start
holdings_are l pid place m p bytes libraries e f g h =
    ap (λ (x : Loaded). parts_of_start pid x (length x.segments) (environment_bytes p) (map (loaded l.images) (nth_list l.libraries pid))) (program_is l pid place m p e f)
    ∙ ap (λ (n : ℕ). parts_of_start pid (loaded_module l.images place m) n (environment_bytes p) (map (loaded l.images) (nth_list l.libraries pid))) (loaded_length l.images place m 1 m.segments)
    ∙ ap (λ (z : List ℕ). parts_of_start pid (loaded_module l.images place m) (length m.segments) z (map (loaded l.images) (nth_list l.libraries pid))) (sym g)
    ∙ ap (λ (z : List ℕ). parts_of_start pid (loaded_module l.images place m) (length m.segments) bytes (map (loaded l.images) z)) (sym h)

-- all that a process holds, step by step, to a refusal or to the end
pub parts_then : (n0 n1 n2 n3 : Names) (a e l z : Stage) (pid : ℕ) (xs : List Holding) (h : Holding) (ys zs : List Holding) (r : Result (Unit {0}) (Fail ModuleFault)) → zs ≡ xs ++ h ∷ ys
    → AddsAll n0 a n1 e pid xs (Ok tt) → Adds n1 e n2 l pid h (Ok tt) → AddsAll n2 l n3 z pid ys r → AddsAll n0 a n3 z pid zs r
parts_then n0 n1 n2 n3 a e l z pid xs h ys zs r same first next last =
    adds_then n0 n2 n3 a l z pid (xs ++ h ∷ []) ys zs r (same ∙ sym (append_assoc xs (h ∷ []) ys))
    (adds_then n0 n1 n2 a e l pid xs (h ∷ []) (xs ++ h ∷ []) (Ok tt) refl first next) last

pub middle_refused : (n0 n1 n2 n3 : Names) (a e l z : Stage) (pid : ℕ) (xs : List Holding) (h : Holding) (ys zs : List Holding) (f : Fail ModuleFault) → zs ≡ xs ++ h ∷ ys
    → AddsAll n0 a n1 e pid xs (Ok tt) → Adds n1 e n2 l pid h (Err f) → AddsAll n0 a n3 z pid zs (Err f)
middle_refused n0 n1 n2 n3 a e l z pid xs h ys zs f same first next =
    adds_refused n0 n3 n3 a z z pid (xs ++ h ∷ []) ys zs f (same ∙ sym (append_assoc xs (h ∷ []) ys))
    (adds_then n0 n1 n3 a e z pid xs (h ∷ []) (xs ++ h ∷ []) (Err f) refl first next)

-- The checks and the registers by the segments of the table.

at_place : (images : ImageList) (place : ℕ) (m : Parts) (j : ℕ) (ss : List Segment) (k n : ℕ) → n ≡ j + k → slice_get (loaded_segments images place m j ss) k ≡ option_map (loaded_segment images place m n) (slice_get ss k)
at_place images place m j [] k n e = refl
at_place images place m j (s ∷ ss) zero n e = let same : j ≡ n = omega (arith, e) in ap (λ (i : ℕ). Some (loaded_segment images place m i s)) same
at_place images place m j (s ∷ ss) (suc k) n e = at_place images place m (j + 1) ss k n (omega (arith, e))

nth_by : (b : Bool) (images : ImageList) (place : ℕ) (m : Parts) (n : ℕ) (ss : List Segment) → (n == 0) ≡ b
    → (if b then None else slice_get (loaded_segments images place m 1 ss) (n - 1)) ≡ option_map (loaded_segment images place m n) (if b then None else slice_get ss (n - 1))
nth_by true images place m n ss e = refl
nth_by false images place m n ss e = let some : 0 < n = grind arith in at_place images place m 1 ss (n - 1) n (omega (arith, some))

pub nth_is : (images : ImageList) (place : ℕ) (m : Parts) (n : ℕ) (ss : List Segment) → nth_loaded n (loaded_segments images place m 1 ss) ≡ option_map (loaded_segment images place m n) (nth_segment n ss)
nth_is images place m n ss = nth_by (n == 0) images place m n ss refl

stack_same : (images : ImageList) (place : ℕ) (m : Parts) (n : ℕ) (o : Option Segment) → is_stack (option_map (loaded_segment images place m n) o) ≡ is_stack_segment o
stack_same images place m n None = refl
stack_same images place m n (Some s) = refl

in_length : (m : Parts) (ts : List (List Target)) (n size : ℕ) (o : Option Segment) → length (image_in m ts n o size) ≡ size
in_length m ts n size None = length-tabulate _ 0 size
in_length m ts n size (Some s) = length-tabulate _ 0 size

module_length : (o : Option Resolution) (n size : ℕ) → length (module_front o n size) ≡ size
module_length None n size = length-tabulate _ 0 size
module_length (Some p) n size = in_length p.0 p.1 n size (nth_segment n p.0.segments)

either_length : (b : Bool) (xs ys : List ℕ) (size : ℕ) → length xs ≡ size → length ys ≡ size → length (if b then xs else ys) ≡ size
either_length true xs ys size e f = e
either_length false xs ys size e f = f

pub front_length : (images : ImageList) (place n size : ℕ) → length (image_front images place n size) ≡ size
front_length images place n size = either_length (place == 0) _ _ size (length-tabulate _ 0 size) (module_length (nth images.modules place) n size)

entry_same : (images : ImageList) (place : ℕ) (m : Parts) (n ip : ℕ) (o : Option Segment) → is_entry ip (option_map (loaded_segment images place m n) o) ≡ is_entry_segment ip o
entry_same images place m n ip None = refl
entry_same images place m n ip (Some s) = ap (λ (z : ℕ). is_code (rights_of s.kind) && nat_lt ip z) (front_length images place n s.size)

check_by : Bool → Bool → Result (Unit {0}) ModuleFault
check_by a b = if not a then Err NoStack else (if b then Ok tt else Err NoEntry)

pub checks_same : (images : ImageList) (place : ℕ) (m : Parts) → start_check (loaded_module images place m) ≡ parts_check m
unfolding check_by
checks_same images place m =
    ap (λ (o : Option LoadedSegment). check_by (is_stack o) (not (is_library m) && is_entry m.head.ip (nth_loaded m.head.cs (loaded_segments images place m 1 m.segments)))) (nth_is images place m (stack_of m) m.segments)
    ∙ ap (λ (a : Bool). check_by a (not (is_library m) && is_entry m.head.ip (nth_loaded m.head.cs (loaded_segments images place m 1 m.segments)))) (stack_same images place m (stack_of m) (nth_segment (stack_of m) m.segments))
    ∙ ap (λ (o : Option LoadedSegment). check_by (is_stack_segment (nth_segment (stack_of m) m.segments)) (not (is_library m) && is_entry m.head.ip o)) (nth_is images place m m.head.cs m.segments)
    ∙ ap (λ (b : Bool). check_by (is_stack_segment (nth_segment (stack_of m) m.segments)) (not (is_library m) && b)) (entry_same images place m m.head.cs m.head.ip (nth_segment m.head.cs m.segments))

size_same : (images : ImageList) (place : ℕ) (m : Parts) (n : ℕ) (o : Option Segment) → option_map image_size (option_map (loaded_segment images place m n) o) ≡ option_map size_in o
size_same images place m n None = refl
size_same images place m n (Some s) = ap Some (front_length images place n s.size)

pub cpu_same : (images : ImageList) (place : ℕ) (m : Parts) (s : Start) → s.program ≡ loaded_module images place m → first_cpu s ≡ parts_cpu images place m s.command
cpu_same images place m s e =
    ap (λ (x : Loaded). cpu_by x (length x.segments) (option_map image_size (nth_loaded x.auto_seg x.segments)) s.command) e
    ∙ ap (λ (n : ℕ). cpu_by (loaded_module images place m) n (option_map image_size (nth_loaded m.head.auto_seg (loaded_segments images place m 1 m.segments))) s.command) (loaded_length images place m 1 m.segments)
    ∙ ap (λ (o : Option LoadedSegment). cpu_by (loaded_module images place m) (length m.segments) (option_map image_size o) s.command) (nth_is images place m m.head.auto_seg m.segments)
    ∙ ap (λ (o : Option ℕ). cpu_by (loaded_module images place m) (length m.segments) o s.command) (size_same images place m m.head.auto_seg (nth_segment m.head.auto_seg m.segments))

-- The answers of a start.

module _ (images : ImageList) (place most pid : ℕ) (m : Parts) (s : Start) (b : Built) (is : s.program ≡ loaded_module images place m) where
  check_is : (r : Result (Unit {0}) ModuleFault) → parts_check m ≡ r → start_check s.program ≡ r
  check_is r e = ap start_check is ∙ checks_same images place m ∙ e

  pub refused : (fault : ModuleFault) → parts_check m ≡ Err fault → started_as most pid s b ≡ Err (pid, fault)
  refused fault e = ap (λ (r : Result (Unit {0}) ModuleFault). where_checked pid r (within_names most pid s (with_holdings b (holdings pid s)))) (check_is (Err fault) e)

  either_start : Built → Bool → Result Built (ℕ × ModuleFault)
  either_start x z = if z then Err (pid, NoSegment) else Ok x

  pub within_by : (c : Bool) → nat_lt most (with_holdings b (holdings pid s)).next_name ≡ c → parts_check m ≡ Ok tt
      → started_as most pid s b ≡ (if c then Err (pid, NoSegment) else Ok (with_started pid s (with_holdings b (holdings pid s))))
  unfolding either_start
  within_by c e f =
      ap (λ (r : Result (Unit {0}) ModuleFault). where_checked pid r (within_names most pid s (with_holdings b (holdings pid s)))) (check_is (Ok tt) f)
      ∙ ap (either_start (with_started pid s (with_holdings b (holdings pid s)))) e

  -- too many names are refused
  pub over_refused : (fault : ModuleFault) → parts_check m ≡ Ok tt → IsOver fault most (with_holdings b (holdings pid s)) → started_as most pid s b ≡ Err (pid, fault)
  over_refused fault checked over =
      let less = over.over in
      let is_over : nat_lt most (with_holdings b (holdings pid s)).next_name ≡ true = grind (arith, nat_tests) in
      within_by true is_over checked ∙ ap (λ (f : ModuleFault). Err (pid, f)) (sym over.fault)

  -- and no more than there may be are not
  pub fits_started : (names : Names) (x : Stage) → parts_check m ≡ Ok tt → IsHolding names x most pid (with_holdings b (holdings pid s))
      → started_as most pid s b ≡ Ok (with_started pid s (with_holdings b (holdings pid s)))
  fits_started names x checked is =
      let a = is.fits in
      let c = is.count in
      let d = is.most in
      let le : (with_holdings b (holdings pid s)).next_name ≤ most = omega (arith, a, c, d) in
      let fits : nat_lt most (with_holdings b (holdings pid s)).next_name ≡ false = grind (arith, nat_tests) in
      within_by false fits checked

  -- what a refusal or want of memory comes to
  pub refused_as : (names : Names) (x : Stage) (e : Fail ModuleFault) (result : Result Cpu (Fail ModuleFault)) → IsErr result → IsErrAnd result (λ f. f ≡ e) → parts_check m ≡ Ok tt
      → ComesTo {X = Unit {0}} names x most pid (with_holdings b (holdings pid s)) (Err e) → StartsAs names x most pid s b result
  refused_as names x e (Ok cpu) is same checked comes = absurd (cc)
  refused_as names x e (Err NoMemory) is same checked comes = tt
  refused_as names x (Bad fault) (Err (Bad f)) is same checked comes =
      let equal : fault ≡ f = cc in
      over_refused f checked (subst (λ (g : ModuleFault). IsOver g most (with_holdings b (holdings pid s))) equal comes)
  refused_as names x NoMemory (Err (Bad f)) is same checked comes = absurd (cc)
