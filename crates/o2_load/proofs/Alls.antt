-- All processes, one after the other.
use Rattle.std.proofs.Common.{◌≡◌, ℕ, zero, suc, ◌<◌, ◌≤◌, ◌+◌, add-one, List, [], ◌∷◌, length, drop, get_or, refl, sym, ◌∙◌, ap, arith}
use Rattle.std.specs.Prelude.{fold, map, slice_get, Result, Ok, Err}
use Rattle.std.specs.Result.{IsErr, IsErrAnd}
use Rattle.std.proofs.Math.Seq.{drop-cons}
use Rattle.o2_base.specs.declared.faults.ModuleFault.{ModuleFault}
use Rattle.o2_base.specs.declared.memory.Fail.{Fail}
use Rattle.o2_base.specs.declared.memory.Fail.TheVariants.{NoMemory, Bad}
use Rattle.o2_conf.specs.declared.process.Process.{Process}
use Rattle.o2_conf.specs.Environments.{environment_bytes}
use Rattle.o2_dynlink.specs.Outcome.{LinkedParts}
use Rattle.o2_image.specs.Getters.{nth, nth_list, list_or_none}
use Rattle.o2_world.specs.Starts.{Built, Start, nothing_built, next_started, all_started}
use Rattle.o2_load.specs.declared.progress.Progress.{Progress}
use Rattle.o2_load.specs.declared.starting.StartFault.{StartFault}
use Rattle.o2_load.specs.Memory.{Memory}
use Rattle.o2_load.specs.Holds.{Names}
use Rattle.o2_load.specs.Loads.{start_of, starts_of}
use Rattle.o2_load.specs.Progresses.{Course, HasCome, ComesOn, ComesAll, course}

-- those that have started, with the rest still to start from number `pid` on, come to what all come to
abbrev pub SoFar : Names → Course → LinkedParts → ℕ → ℕ → List Process → List Process → Type 0
SoFar names x l most pid rest all =
    (b : Built) × ((fold (next_started most) (Ok b) (starts_of l pid rest) ≡ fold (next_started most) (Ok nothing_built) (starts_of l 1 all)) × HasCome names x l most b)

-- a refusal stays
stuck : (most : ℕ) (f : ℕ × ModuleFault) (starts : List Start) → fold (next_started most) (Err f) starts ≡ Err f
stuck most f [] = refl
stuck most f (s ∷ ss) = stuck most f ss

pub so_far_first : (names : Names) (x : Course) (l : LinkedParts) (most : ℕ) (all : List Process) → HasCome names x l most nothing_built → SoFar names x l most 1 all all
so_far_first names x l most all is = (nothing_built, (refl, is))

pub so_far_next : (before after : Names) (old new : Course) (l : LinkedParts) (most n pid : ℕ) (p : Process) (rest all : List Process) → pid ≡ n → SoFar before old l most n (p ∷ rest) all
    → ((most : ℕ) (b : Built) → HasCome before old l most b → ComesOn after new l most (next_started most (Ok b) (start_of l pid p)) (Ok tt)) → SoFar after new l most (n + 1) rest all
so_far_next before after old new l most n pid p rest all number so next =
    let done = next most so.0 so.1.1 in
    (done.0, (ap (λ r. fold (next_started most) r (starts_of l (n + 1) rest)) (sym done.1.0 ∙ ap (λ (i : ℕ). next_started most (Ok so.0) (start_of l i p)) number) ∙ so.1.0, done.1.1))

module _ {S : Type 0} (seen : S → Memory) (named : S → Names) (l : LinkedParts) (most : ℕ) where
  -- the first that is refused decides
  pub refused_all : (before after : Names) (old new : Course) (n pid : ℕ) (p : Process) (rest all : List Process) (r : Fail StartFault) → pid ≡ n → SoFar before old l most n (p ∷ rest) all
      → ((most : ℕ) (b : Built) → HasCome before old l most b → ComesOn after new l most (next_started most (Ok b) (start_of l pid p)) (Err r))
      → (result : Result (Progress S) (Fail StartFault)) → IsErr result → IsErrAnd result (λ e. e ≡ r) → ComesAll seen named l most (all_started most (starts_of l 1 all)) result
  unfolding all_started
  refused_all before after old new n pid p rest all r number so next (Ok m) err same = absurd (cc)
  refused_all before after old new n pid p rest all r number so next (Err NoMemory) err same = tt
  refused_all before after old new n pid p rest all NoMemory number so next (Err (Bad f)) err same = absurd (cc)
  refused_all before after old new n pid p rest all (Bad f) number so next (Err (Bad g)) err same =
      let equal : f ≡ g = cc in
      sym so.1.0
      ∙ ap (λ r. fold (next_started most) r (starts_of l (n + 1) rest)) (ap (λ (i : ℕ). next_started most (Ok so.0) (start_of l i p)) (sym number) ∙ next most so.0 so.1.1)
      ∙ stuck most (f.pid, f.fault) (starts_of l (n + 1) rest) ∙ ap (λ (h : StartFault). Err (h.pid, h.fault)) equal

  pub so_far_all : (m : Progress S) (pid : ℕ) (all : List Process) → SoFar (named m.build.segments) (course (seen m.build.segments) m) l most pid [] all
      → ComesAll seen named l most (all_started most (starts_of l 1 all)) (Ok m)
  unfolding all_started
  so_far_all m pid all so = (so.0, (sym so.1.0, so.1.1))

nth_next : (xss : List (List ℕ)) (k : ℕ) → nth xss (k + 1) ≡ slice_get xss k
nth_next xss k = grind arith

-- the environment of one of the processes
pub environment_at : (ps : List Process) (es : List (List ℕ)) (k pid : ℕ) (p : Process) → es ≡ map environment_bytes ps → pid ≡ k + 1 → k < length ps → p ≡ get_or ps k p → environment_bytes p ≡ nth_list es pid
environment_at ps es k pid p e number low is =
    go ps k low is ∙ ap list_or_none (sym (nth_next (map environment_bytes ps) k)) ∙ ap (λ (xs : List (List ℕ)). nth_list xs (k + 1)) (sym e) ∙ ap (nth_list es) (sym number)
  where
    go : (ps : List Process) (k : ℕ) → k < length ps → p ≡ get_or ps k p → environment_bytes p ≡ list_or_none (slice_get (map environment_bytes ps) k)
    go [] k low is = absurd (omega (arith, low))
    go (q ∷ ps) zero low is = ap environment_bytes is
    go (q ∷ ps) (suc k) low is = go ps k (omega (arith, low)) is

-- the processes from one on
pub rest_at : (ps : List Process) (k : ℕ) (p : Process) → k < length ps → p ≡ get_or ps k p → drop k ps ≡ p ∷ drop (k + 1) ps
rest_at ps k p low is = rw (drop-cons ps k p low, ← is, add-one) refl

pub none_left : (ps : List Process) (k : ℕ) → length ps ≤ k → drop k ps ≡ []
none_left [] zero h = refl
none_left [] (suc k) h = refl
none_left (p ∷ ps) zero h = absurd (omega (arith, h))
none_left (p ∷ ps) (suc k) h = none_left ps k (omega (arith, h))
