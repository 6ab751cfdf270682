-- The lines of the starts tell what is held before the first step.
use Rattle.std.proofs.Common.{◌≡◌, ℕ, zero, suc, ◌+◌, ◌-◌, ◌<◌, Bool, true, false, cond, ◌==◌, ◌&&◌, ◌||◌, List, [], ◌∷◌, ◌++◌, length, if◌then◌else◌, Option, Some, None, ap, sym, ◌∙◌, refl, arith}
use Rattle.std.proofs.lemmas.Map.Keys.{IsDistinct-tail}
use Rattle.o2_world.specs.Map.{Map, get}
use Rattle.o2_world.specs.World.{Process, Held, Line}
use Rattle.o2_base.specs.Selectors.{selector_of}
use Rattle.o2_world.specs.Opening.{held_by_load, hold_lines, start_lines}
use Rattle.o2_world.specs.Starts.{Start, Holding, Built, holdings, first_process, nothing_built, name_in, holds_as, with_holding, with_holdings, with_started}
use Rattle.o2_world.specs.Sound.{held_in}
use Rattle.o2_world.specs.Reach.{is_pair, one_if, came, went, tells_end, holds_of}
use Rattle.o2_world.proofs.HoldingMaps.{indexes_of, AreApart}
use Rattle.o2_world.proofs.OpeningSound.{AreFree, free_head, free_tail, free_at_first, apart, IsFitProgram, Keeps}
use Rattle.o2_world.proofs.Reached.{came_append, went_append, selector_is}
use Rattle.o2_world.proofs.RunReach.{end_append}

-- Lines of holds alone.

holds_come : (p q : ℕ) (xs ys : List ℕ) (s : ℕ)
    → came (hold_lines p (xs ++ ys)) q s ≡ came (hold_lines p xs) q s + came (hold_lines p ys) q s
holds_come p q [] ys s = omega arith
holds_come p q (x ∷ xs) ys s = let ih = holds_come p q xs ys s in omega (arith, ih)

none_go : (p q : ℕ) (xs : List ℕ) (s : ℕ) → went (hold_lines p xs) q s ≡ 0
none_go p q [] s = refl
none_go p q (x ∷ xs) s = let ih = none_go p q xs s in omega (arith, ih)

no_end : (p q : ℕ) (xs : List ℕ) → tells_end (hold_lines p xs) q ≡ false
no_end p q [] = refl
no_end p q (x ∷ xs) = no_end p q xs

other_pair : (q p s t : ℕ) → (q == p) ≡ false → one_if (is_pair q s p t) ≡ 0
other_pair q p s t e = ap (λ (b : Bool). one_if (b && (s == t))) e

none_come : (p q : ℕ) (xs : List ℕ) (s : ℕ) → (q == p) ≡ false → came (hold_lines p xs) q s ≡ 0
none_come p q [] s other = refl
none_come p q (x ∷ xs) s other = let a = other_pair q p s x other in let ih = none_come p q xs s other in omega (arith, a, ih)

-- What the process that starts holds so far.

pub record TellsSoFar (b : Built) (p : ℕ) : Type 0 where
  pub told : (i : ℕ) → holds_of (get b.held i) ≡ came (hold_lines p b.selectors) p (selector_of i)

-- what a segment more adds
record Grows (b c : Built) (index : ℕ) : Type 0 where
  hold : Held
  once : hold.holds ≡ 1
  held : c.held ≡ (index, hold) ∷ b.held
  selectors : c.selectors ≡ b.selectors ++ selector_of index ∷ []
  processes : c.processes ≡ b.processes
  lines : c.lines ≡ b.lines

grows_as : (b : Built) (h : Holding) (o : Option ℕ) → Grows b (holds_as b h o) h.index
grows_as b h (Some name) = record { hold = held_by_load name h.rights; once = refl; held = refl; selectors = refl; processes = refl; lines = refl }
grows_as b h None = record { hold = held_by_load b.next_name h.rights; once = refl; held = refl; selectors = refl; processes = refl; lines = refl }

grows : (b : Built) (h : Holding) → Grows b (with_holding b h) h.index
grows b h = grows_as b h (cond h.common (name_in b.made h.place h.number) None)

same_index : (i j : ℕ) → (j == i) ≡ true → j ≡ i
same_index i j e = grind arith

one_pair : (p s t : ℕ) (b : Bool) → (s == t) ≡ b → one_if (is_pair p s p t) ≡ one_if b
one_pair p s t b e = ap (λ (x : Bool). one_if (x && (s == t))) (same p) ∙ ap one_if e
  where
    same : (p : ℕ) → (p == p) ≡ true
    same p = grind arith

one_more : (m : Map Held) (j i : ℕ) (x : Held) (b : Bool) → (j == i) ≡ b → x.holds ≡ 1 → get m j ≡ None
    → holds_of (cond b (Some x) (get m i)) ≡ holds_of (get m i) + one_if b
one_more m j i x true is once free =
    let none : holds_of (get m i) ≡ 0 = ap (λ (k : ℕ). holds_of (get m k)) (sym (same_index i j is)) ∙ ap holds_of free in
    omega (arith, once, none)
one_more m j i x false is once free = omega arith

holding_tells : (b : Built) (p : ℕ) (h : Holding) → get b.held h.index ≡ None → TellsSoFar b p → TellsSoFar (with_holding b h) p
holding_tells b p h free tells = record { told = told }
  where
    g : Grows b (with_holding b h) h.index
    g = grows b h

    told : (i : ℕ) → holds_of (get (with_holding b h).held i) ≡ came (hold_lines p (with_holding b h).selectors) p (selector_of i)
    told i =
        let a = ap (λ (m : Map Held). holds_of (get m i)) g.held ∙ one_more b.held h.index i g.hold (h.index == i) refl g.once free in
        let c = ap (λ (xs : List ℕ). came (hold_lines p xs) p (selector_of i)) g.selectors ∙ holds_come p p b.selectors (selector_of h.index ∷ []) (selector_of i) in
        let d : came (hold_lines p (selector_of h.index ∷ [])) p (selector_of i) ≡ one_if (h.index == i) = (let e = one_pair p (selector_of i) (selector_of h.index) (h.index == i) (selector_is i h.index) in omega (arith, e)) in
        let t = tells.told i in
        omega (arith, a, c, d, t)

all_tell : (hs : List Holding) (b : Built) (p : ℕ) → AreApart (indexes_of hs) → AreFree b.held hs → TellsSoFar b p
    → TellsSoFar (with_holdings b hs) p
all_tell [] b p d free tells = tells
all_tell (h ∷ hs) b p d free tells =
    all_tell hs (with_holding b h) p (IsDistinct-tail (λ i j. i == j) h.index (indexes_of hs) d) (free_tail b h hs d free) (holding_tells b p h (free_head b h hs free) tells)

-- no process and no line comes with a segment
same_processes : (hs : List Holding) (b : Built) → (with_holdings b hs).processes ≡ b.processes
same_processes [] b = refl
same_processes (h ∷ hs) b = same_processes hs (with_holding b h) ∙ (grows b h).processes

same_lines : (hs : List Holding) (b : Built) → (with_holdings b hs).lines ≡ b.lines
same_lines [] b = refl
same_lines (h ∷ hs) b = same_lines hs (with_holding b h) ∙ (grows b h).lines

-- All that have started.

pub record ToldBetween (b : Built) : Type 0 where
  pub told : (q i : ℕ) → 0 < q → holds_of (held_in b.processes (q - 1) i) ≡ came b.lines q (selector_of i)
  pub none_went : (q s : ℕ) → went b.lines q s ≡ 0
  pub none_ended : (q : ℕ) → tells_end b.lines q ≡ false
  pub nothing : b.held ≡ []
  pub ready : b.selectors ≡ []

held_behind : (ps : List Process) (p : Process) (j i : ℕ)
    → held_in (ps ++ p ∷ []) j i ≡ (if j == length ps then get p.held i else held_in ps j i)
held_behind [] p zero i = refl
held_behind [] p (suc j) i = rw (suc_zero j) refl
  where
    suc_zero : (j : ℕ) → (suc j == 0) ≡ false
    suc_zero j = grind arith
held_behind (a ∷ ps) p zero i = rw (zero_suc (length ps)) refl
  where
    zero_suc : (k : ℕ) → (0 == suc k) ≡ false
    zero_suc k = grind arith
held_behind (a ∷ ps) p (suc j) i = rw (suc_suc j (length ps)) (held_behind ps p j i)
  where
    suc_suc : (j k : ℕ) → (suc j == suc k) ≡ (j == k)
    suc_suc j k = grind arith

past_end : (ps : List Process) (i : ℕ) → held_in ps (length ps) i ≡ None
past_end [] i = refl
past_end (p ∷ ps) i = past_end ps i

by_number : (q n : ℕ) → 0 < q → (q - 1 == n) ≡ (q == n + 1)
by_number q n some = grind arith

module _ (b c : Built) (s : Start) (told : ToldBetween b) (so_far : TellsSoFar c (length b.processes + 1)) (processes : c.processes ≡ b.processes) (lines : c.lines ≡ b.lines) where
  abbrev pid : ℕ
  pid = length b.processes + 1

  started_told : (q i : ℕ) → 0 < q
      → holds_of (held_in (with_started pid s c).processes (q - 1) i) ≡ came (with_started pid s c).lines q (selector_of i)
  started_told q i some = go (q == pid) refl
    where
      new : Process
      new = first_process s c.held

      here : holds_of (held_in (with_started pid s c).processes (q - 1) i) ≡ (if q == pid then holds_of (get c.held i) else holds_of (held_in b.processes (q - 1) i))
      here =
          ap (λ (ps : List Process). holds_of (held_in (ps ++ new ∷ []) (q - 1) i)) processes
          ∙ ap holds_of (held_behind b.processes new (q - 1) i)
          ∙ pick (q - 1 == length b.processes) (q == pid) (by_number q (length b.processes) some)
        where
          pick : (a t : Bool) → a ≡ t
              → holds_of (if a then get c.held i else held_in b.processes (q - 1) i) ≡ (if t then holds_of (get c.held i) else holds_of (held_in b.processes (q - 1) i))
          pick true true e = refl
          pick true false e = absurd (cc)
          pick false true e = absurd (cc)
          pick false false e = refl

      lines_of : came (with_started pid s c).lines q (selector_of i) ≡ came b.lines q (selector_of i) + came (hold_lines pid c.selectors) q (selector_of i)
      lines_of =
          let a = came_append c.lines (start_lines pid s.program.name c.selectors) q (selector_of i) in
          let n = ap (λ (ls : List Line). came ls q (selector_of i)) lines in
          omega (arith, a, n)

      go : (t : Bool) → (q == pid) ≡ t
          → holds_of (held_in (with_started pid s c).processes (q - 1) i) ≡ came (with_started pid s c).lines q (selector_of i)
      go true is =
          let same : q ≡ pid = same_index pid q is in
          let a = here ∙ ap (λ (t : Bool). if t then holds_of (get c.held i) else holds_of (held_in b.processes (q - 1) i)) is in
          let n = so_far.told i in
          let before : came b.lines q (selector_of i) ≡ 0 = sym (told.told q i some) ∙ ap (λ (k : ℕ). holds_of (held_in b.processes k i)) (omega (arith, same)) ∙ ap holds_of (past_end b.processes i) in
          let m = ap (λ (k : ℕ). came (hold_lines pid c.selectors) k (selector_of i)) same in
          let l = lines_of in
          omega (arith, a, n, before, m, l)
      go false is =
          let a = here ∙ ap (λ (t : Bool). if t then holds_of (get c.held i) else holds_of (held_in b.processes (q - 1) i)) is in
          let n = none_come pid q c.selectors (selector_of i) is in
          let o = told.told q i some in
          let l = lines_of in
          omega (arith, a, n, o, l)

  pub started_between : ToldBetween (with_started pid s c)
  started_between = record {
    told = started_told;
    none_went = λ q t.
        let a = went_append c.lines (start_lines pid s.program.name c.selectors) q t in
        let n = ap (λ (ls : List Line). went ls q t) lines in
        let o = told.none_went q t in
        let g = none_go pid q c.selectors t in
        omega (arith, a, n, o, g);
    none_ended = λ q. end_append c.lines (start_lines pid s.program.name c.selectors) q ∙ neither _ _ (ap (λ (ls : List Line). tells_end ls q) lines ∙ told.none_ended q) (no_end pid q c.selectors);
    nothing = refl;
    ready = refl;
  }
    where
      neither : (a t : Bool) → a ≡ false → t ≡ false → (a || t) ≡ false
      neither true t e f = absurd (cc)
      neither false t e f = f

pub told_kept : Keeps ToldBetween IsFitProgram
told_kept b s u is fit told =
    let pid : ℕ = length b.processes + 1 in
    let hs = holdings pid s in
    let first : TellsSoFar b pid = record { told = λ i. ap (λ (m : Map Held). holds_of (get m i)) told.nothing ∙ sym (ap (λ (xs : List ℕ). came (hold_lines pid xs) pid (selector_of i)) told.ready) } in
    started_between b (with_holdings b hs) s told (all_tell hs b pid (apart pid s u is fit) (free_at_first b.held hs told.nothing) first) (same_processes hs b) (same_lines hs b)

pub told_first : ToldBetween nothing_built
told_first = record { told = λ q i some. refl; none_went = λ q s. refl; none_ended = λ q. refl; nothing = refl; ready = refl }
