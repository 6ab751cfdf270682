-- One process more.
use Rattle.std.proofs.Common.{◌≡◌, ◌≢◌, ℕ, zero, suc, ◌≤◌, ◌+◌, List, [], ◌∷◌, ◌++◌, length, Option, Some, None, if◌then◌else◌, ap, sym, ◌∙◌, refl, arith, subst, length-append, append-nil, append_assoc}
use Rattle.std.specs.Prelude.{slice_get, Result, Ok, Err}
use Rattle.std.specs.Result.{IsErr, IsErrAnd}
use Rattle.o2_base.specs.declared.faults.ModuleFault.{ModuleFault}
use Rattle.o2_base.specs.declared.memory.Fail.{Fail}
use Rattle.o2_base.specs.declared.memory.Fail.TheVariants.{NoMemory, Bad}
use Rattle.o2_isa.specs.declared.cpu.Cpu.{Cpu}
use Rattle.o2_dynlink.specs.Outcome.{LinkedParts}
use Rattle.o2_world.specs.Map.{Map, get}
use Rattle.o2_world.specs.World.{Process, Line, Held}
use Rattle.o2_world.specs.Opening.{start_lines}
use Rattle.o2_world.specs.Starts.{Built, nothing_built, Start, Holding, first_cpu, first_process, holdings, holds_as, name_in, with_holding, with_holdings, with_started, started_as, next_started}
use Rattle.o2_load.specs.Memory.{Memory, OthersStay}
use Rattle.o2_load.specs.Holds.{Names, Stage, IsHolding}
use Rattle.o2_load.specs.Started.{StartsAs}
use Rattle.o2_load.specs.Beginnings.{lines_from, program_name}
use Rattle.o2_load.specs.Progresses.{IsStarted, IsStartedAt, Course, HasCome, ComesAs, IsEmpty}

-- holding changes no process that has started
same_as : (b : Built) (h : Holding) (o : Option ℕ) → (holds_as b h o).processes ≡ b.processes
same_as b h None = refl
same_as b h (Some name) = refl

pub same_processes : (hs : List Holding) (b : Built) → (with_holdings b hs).processes ≡ b.processes
same_processes [] b = refl
same_processes (h ∷ hs) b = same_processes hs (with_holding b h) ∙ same_as b h (if h.common then name_in b.made h.place h.number else None)

lines_as : (b : Built) (h : Holding) (o : Option ℕ) → (holds_as b h o).lines ≡ b.lines
lines_as b h None = refl
lines_as b h (Some name) = refl

same_lines : (hs : List Holding) (b : Built) → (with_holdings b hs).lines ≡ b.lines
same_lines [] b = refl
same_lines (h ∷ hs) b = same_lines hs (with_holding b h) ∙ lines_as b h (if h.common then name_in b.made h.place h.number else None)

-- the lines of one start more
lines_more : (l : LinkedParts) (n k : ℕ) (xss : List (List ℕ)) (xs : List ℕ) → k ≡ n + length xss → lines_from l n (xss ++ xs ∷ []) ≡ lines_from l n xss ++ start_lines k (program_name l k) xs
lines_more l n k [] xs e = append-nil (start_lines n (program_name l n) xs) ∙ ap (λ (i : ℕ). start_lines i (program_name l i) xs) (let same : n ≡ k = omega (arith, e) in same)
lines_more l n k (ys ∷ xss) xs e =
    ap (λ (z : List Line). start_lines n (program_name l n) ys ++ z) (lines_more l (n + 1) k xss xs (omega (arith, e)))
    ∙ sym (append_assoc (start_lines n (program_name l n) ys) (lines_from l (n + 1) xss) (start_lines k (program_name l k) xs))

past_end : (o : Option Cpu) (holds : ℕ → Option Held) (u : Option Process) → o ≡ None → IsStartedAt o holds u → (j : ℕ) → None ≡ holds j
past_end None holds None e is = is
past_end None holds (Some p) e is = absurd is
past_end (Some c) holds u e is = absurd (cc)

none_past : {X : Type 0} (xs : List X) (i : ℕ) → length xs ≤ i → slice_get xs i ≡ None
none_past [] i h = refl
none_past (x ∷ xs) zero h = absurd (omega (arith, h))
none_past (x ∷ xs) (suc i) h = none_past xs i (omega (arith, h))

-- what the next process starts from
pub ready_for : (names : Names) (x : Course) (l : LinkedParts) (b : Built) (most pid : ℕ) → pid ≡ length x.cpus + 1 → HasCome names x l most b → IsHolding names x.at most pid b
ready_for names x l b most pid e is = record {
  count = is.count;
  most = is.most;
  fits = is.fits;
  named = is.named;
  made = is.made;
  selectors = is.ready ∙ sym is.fresh;
  held = λ i.
      ap (λ (h : Map Held). get h i) is.idle
      ∙ past_end (slice_get x.cpus (length x.cpus)) (x.at.memory.held (length x.cpus + 1)) _ (none_past x.cpus (length x.cpus) (omega arith)) (is.places (length x.cpus)) i
      ∙ ap (λ (n : ℕ). x.at.memory.held n i) (sym e);
}

-- the places before, at and behind a new one
placed : (cs : List Cpu) (ps : List Process) (c : Cpu) (p : Process) (old new : ℕ → ℕ → Option Held) → length ps ≡ length cs → IsStarted c (new (length cs)) p
    → ((n : ℕ) → n ≢ length cs → (j : ℕ) → new n j ≡ old n j) → ((i : ℕ) → IsStartedAt (slice_get cs i) (old i) (slice_get ps i))
    → (i : ℕ) → IsStartedAt (slice_get (cs ++ c ∷ []) i) (new i) (slice_get (ps ++ p ∷ []) i)
placed [] [] c p old new same first stays each zero = first
placed [] [] c p old new same first stays each (suc i) = λ j. each (suc i) j ∙ sym (stays (suc i) (λ e. absurd (omega (arith, e))) j)
placed [] (q ∷ ps) c p old new same first stays each i = absurd (omega (arith, same))
placed (d ∷ cs) [] c p old new same first stays each i = absurd (omega (arith, same))
placed (d ∷ cs) (q ∷ ps) c p old new same first stays each zero =
    let was : IsStarted d (old 0) q = each 0 in
    record { cpu = was.cpu; state = was.state; held = λ j. was.held j ∙ sym (stays 0 (λ e. absurd (omega (arith, e))) j) }
placed (d ∷ cs) (q ∷ ps) c p old new same first stays each (suc i) =
    placed cs ps c p (λ n. old (suc n)) (λ n. new (suc n)) (omega (arith, same)) first (λ n other j. stays (suc n) (λ e. other (omega (arith, e))) j) (λ n. each (suc n)) i

module _ (before after : Names) (x new : Course) (y : Stage) (l : LinkedParts) (s : Start) (b : Built) (most pid : ℕ) (c : Cpu) (e : pid ≡ length x.cpus + 1) (is : HasCome before x l most b)
    (others : OthersStay x.at.memory y.memory pid) (holds : IsHolding after y most pid (with_holdings b (holdings pid s))) (first : c ≡ first_cpu s)
    (memory : new.at.memory ≡ y.memory) (made : new.at.made ≡ y.made) (fresh : new.at.selectors ≡ []) (cpus : new.cpus ≡ x.cpus ++ c ∷ [])
    (rows : new.starts ≡ x.starts ++ y.selectors ∷ []) (name : s.program.name ≡ program_name l pid) where
  pub done : Built
  done = with_started pid s (with_holdings b (holdings pid s))

  place_is : (i : ℕ) → IsStartedAt (slice_get (x.cpus ++ c ∷ []) i) (y.memory.held (i + 1)) (slice_get (b.processes ++ first_process s (with_holdings b (holdings pid s)).held ∷ []) i)
  place_is =
      placed x.cpus b.processes c (first_process s (with_holdings b (holdings pid s)).held) (λ n. x.at.memory.held (n + 1)) (λ n. y.memory.held (n + 1)) is.same
      (record { cpu = sym first; state = refl; held = λ j. holds.held j ∙ ap (λ (n : ℕ). y.memory.held n j) e })
      (λ n other j. others.others (n + 1) j (λ same. other (omega (arith, same, e)))) is.places

  pub begun : HasCome after new l most done
  unfolding done
  begun = record {
    count = ap (λ (m : Memory). m.count) memory ∙ holds.count;
    most = ap (λ (m : Memory). m.most) memory ∙ holds.most;
    fits = subst (λ (m : Memory). m.count ≤ m.most) (sym memory) holds.fits;
    named = holds.named;
    made = holds.made ∙ sym made;
    none = λ j. is.none j ∙ sym (others.others 0 j (λ same. absurd (omega (arith, same, e)))) ∙ ap (λ (m : Memory). m.held 0 j) (sym memory);
    places = λ i.
        subst (λ (cs : List Cpu). IsStartedAt (slice_get cs i) (new.at.memory.held (i + 1)) (slice_get done.processes i)) (sym cpus)
        (subst (λ (m : Memory). IsStartedAt (slice_get (x.cpus ++ c ∷ []) i) (m.held (i + 1)) (slice_get done.processes i)) (sym memory)
        (subst (λ (ps : List Process). IsStartedAt (slice_get (x.cpus ++ c ∷ []) i) (y.memory.held (i + 1)) (slice_get (ps ++ first_process s (with_holdings b (holdings pid s)).held ∷ []) i))
        (sym (same_processes (holdings pid s) b)) (place_is i)));
    idle = refl;
    ready = refl;
    fresh = fresh;
    same =
        let old = ap (λ (ps : List Process). length ps) (same_processes (holdings pid s) b) in
        let one = length-append (with_holdings b (holdings pid s)).processes (first_process s (with_holdings b (holdings pid s)).held ∷ []) in
        let two = length-append x.cpus (c ∷ []) in
        let all = ap (λ (cs : List Cpu). length cs) cpus in
        omega (arith, old, one, two, all, is.same);
    rows =
        let two = length-append x.cpus (c ∷ []) in
        let all = ap (λ (cs : List Cpu). length cs) cpus in
        let three = length-append x.starts (y.selectors ∷ []) in
        let four = ap (λ (xs : List (List ℕ)). length xs) rows in
        omega (arith, two, all, three, four, is.rows);
    lines =
        ap (λ (z : List Line). z ++ start_lines pid s.program.name (with_holdings b (holdings pid s)).selectors) (same_lines (holdings pid s) b ∙ is.lines)
        ∙ ap (λ (z : List ℕ). lines_from l 1 x.starts ++ start_lines pid z (with_holdings b (holdings pid s)).selectors) name
        ∙ ap (λ (z : List ℕ). lines_from l 1 x.starts ++ start_lines pid (program_name l pid) z) holds.selectors
        ∙ sym (lines_more l 1 pid x.starts y.selectors (omega (arith, e, is.rows)))
        ∙ ap (lines_from l 1) (sym rows);
  }

  pub next_is : started_as most pid s b ≡ Ok (with_started pid s (with_holdings b (holdings pid s))) → next_started most (Ok b) s ≡ Ok done
  unfolding done
  next_is starts = ap (λ (n : ℕ). started_as most n s b) (omega (arith, e, is.same)) ∙ starts

  -- one process more
  pub begins : started_as most pid s b ≡ Ok (with_started pid s (with_holdings b (holdings pid s))) → ComesAs after new l most (next_started most (Ok b) s) pid (Ok tt)
  begins starts = (done, (next_is starts, begun))

-- a refusal
pub refused_next : (names after last : Names) (x new : Course) (y : Stage) (l : LinkedParts) (s : Start) (b : Built) (pid most : ℕ) (r : Fail ModuleFault) (result : Result (Unit {0}) (Fail ModuleFault))
    → IsErr result → IsErrAnd result (λ f. f ≡ r) → pid ≡ length x.cpus + 1 → HasCome names x l most b
    → StartsAs after y most pid s b (Err r) → ComesAs last new l most (next_started most (Ok b) s) pid result
refused_next names after last x new y l s b pid most r (Ok done) err same e is starts = absurd (cc)
refused_next names after last x new y l s b pid most r (Err NoMemory) err same e is starts = tt
refused_next names after last x new y l s b pid most NoMemory (Err (Bad fault)) err same e is starts = absurd (cc)
refused_next names after last x new y l s b pid most (Bad f) (Err (Bad fault)) err same e is starts =
    let equal : f ≡ fault = cc in
    ap (λ (n : ℕ). started_as most n s b) (omega (arith, e, is.same)) ∙ starts ∙ ap (λ (g : ModuleFault). Err (pid, g)) equal

-- no process has started
pub nothing_begun : (names : Names) (x : Course) (l : LinkedParts) → IsEmpty names x.at.memory → x.at.made ≡ [] → x.at.selectors ≡ [] → x.cpus ≡ [] → x.starts ≡ []
    → HasCome names x l x.at.memory.most nothing_built
nothing_begun names x l empty made selectors cpus starts = record {
  count = empty.count;
  most = refl;
  fits = let c = empty.count in omega (arith, c);
  named = empty.named;
  made = sym made;
  none = λ j. sym (empty.held 0 j);
  places = λ i. subst (λ (cs : List Cpu). IsStartedAt (slice_get cs i) (x.at.memory.held (i + 1)) None) (sym cpus) (λ j. sym (empty.held (i + 1) j));
  idle = refl;
  ready = refl;
  fresh = selectors;
  same = ap (λ (cs : List Cpu). length cs) (sym cpus);
  rows = ap length starts ∙ ap (λ (cs : List Cpu). length cs) (sym cpus);
  lines = ap (lines_from l 1) (sym starts);
}
