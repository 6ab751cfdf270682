-- The lines of a run are plain: those of its opening, and step by step.
use Rattle.std.proofs.Common.{◌≡◌, ◌⊎◌, inl, inr, refl, sym, ap, subst, ◌∙◌, ℕ, zero, suc, ◌+◌, ◌-◌, ◌^◌, ◌<◌, ◌==◌, Bool, true, false, List, [], ◌∷◌, length, length-append, arith, if◌then◌else◌, Option, Some, None, slice_set}
use Rattle.std.specs.Prelude.{Ok}
use Rattle.std.specs.List.{All, list_any}
use Rattle.o2_conf.specs.Dispatch.{Dispatch}
use Rattle.o2_conf.specs.declared.script.Word.{Word}
use Rattle.o2_world.specs.World.{World, Setting, Process, Held}
use Rattle.o2_world.specs.Holders.{process_at, with_process}
use Rattle.o2_world.specs.Map.{get, put}
use Rattle.o2_world.specs.Sound.{held_of}
use Rattle.o2_world.specs.Changes.{Change, Makes, Resizes, Locks, Marks, Holds, Drops, Finishes, Reserves, Frees, Names, fewer, more, swept, takes, with_change, with_changes}
use Rattle.o2_world.specs.Known.{lives_at}
use Rattle.o2_world.specs.CallParts.{Before, Effect}
use Rattle.o2_world.specs.Effect.{effect}
use Rattle.o2_world.specs.Run.{acted, after, all_changes, before, changed, chosen_step, is_over, next_dispatch, ready, step, with_word, worked, working}
use Rattle.o2_world.specs.Moves.{AllMoves, AreOwn, IsHolder, IsOwn, Maker, OneNamed, OneRun, OwnMoves, Sharer, SomeShared}
use Rattle.o2_world.specs.Opening.{hold_lines, start_lines}
use Rattle.o2_world.specs.Starts.{Built, Holding, Start, all_started, first_process, holdings, holds_as, name_in, nothing_built, opening_of, with_holding, with_holdings, with_started}
use Rattle.o2_world.proofs.FitShares.{changes_are, held_each, shares_of}
use Rattle.o2_world.proofs.Numbers.{at_place_of, number_some}
use Rattle.o2_world.proofs.OpeningSound.{Keeps, all_so_far, opened}
use Rattle.o2_world.proofs.OwnChanges.{moves_own}
use Rattle.o2_world.proofs.RunParts.{AllBy, run_parts}
use Rattle.o2_world.proofs.RunReach.{lines_are}
use Rattle.o2_world.proofs.StepMoves.{effect_moves}
use Rattle.o2_world.proofs.StepSound.{next_process}
use Rattle.o2_world.proofs.StepTold.{along}
use Rattle.o2_world.proofs.Words.{ready_keeps, ready_stays}
use Rattle.o2_world.proofs.Telling.{below, number_length}
use Rattle.o2_read_report.specs.Plain.{ArePlain, IsPlainStart, has}
use Rattle.o2_read_report.proofs.PlainLines.{IsNumbered, effect_plain, plain_append}

-- No step makes or ends the place of a process.

put_length : (k : ℕ) (x : Process) (qs : List Process) → length (slice_set qs k x) ≡ length qs
put_length k x [] = refl
put_length zero x (q ∷ qs) = refl
put_length (suc k) x (q ∷ qs) = ap suc (put_length k x qs)

set_length : (ps : List Process) (n : ℕ) (x : Process) → length (with_process ps n x) ≡ length ps
set_length ps n x = go (n == 0)
  where
    go : (b : Bool) → length (if b then ps else slice_set ps (n - 1) x) ≡ length ps
    go true = refl
    go false = put_length (n - 1) x ps

one_length : (w : World) (c : Change) → length (with_change w c).processes ≡ length w.processes
one_length w (Makes g) = refl
one_length w (Resizes m size) = refl
one_length w (Locks m count) = refl
one_length w (Marks m d) = refl
one_length w (Holds p i h) = number_length p (λ (x : Process). record x { held = put i (more h (get x.held i)) x.held }) w.processes
one_length w (Drops p i count) = number_length p (λ (x : Process). record x { held = put i (fewer count (get x.held i)) x.held }) w.processes
one_length w (Finishes p state) = number_length p (λ (x : Process). record x { state = state; held = [] }) w.processes
one_length w (Reserves r) = refl
one_length w (Frees r first) = refl
one_length w (Names text m) = refl

all_length : (w : World) (cs : List Change) → length (with_changes w cs).processes ≡ length w.processes
unfolding with_changes
all_length w [] = refl
all_length w (c ∷ cs) = all_length (with_change w c) cs ∙ one_length w c

swept_length : (b : Bool) (w : World) → length (if b then swept w else w).processes ≡ length w.processes
swept_length true w = refl
swept_length false w = refl

changed_length : (w : World) (d : Dispatch) (p : Process) (e : Effect) → length (changed w d p e).processes ≡ length w.processes
unfolding changed
changed_length w d p e =
    swept_length (list_any takes (all_changes d.current e)) (with_changes (worked w d p e) (all_changes d.current e))
    ∙ all_length (worked w d p e) (all_changes d.current e) ∙ set_length w.processes d.current (working p e)

-- The changes of a step touch processes that there are.

own_numbered : (n : ℕ) (c : Change) → n < 10 ^ 64 → IsOwn n c → IsNumbered c
own_numbered n (Makes g) small own = tt
own_numbered n (Resizes m size) small own = tt
own_numbered n (Locks m count) small own = tt
own_numbered n (Marks m d) small own = tt
own_numbered n (Holds p i h) small own = subst (λ (k : ℕ). k < 10 ^ 64) (sym own) small
own_numbered n (Drops p i count) small own = subst (λ (k : ℕ). k < 10 ^ 64) (sym own) small
own_numbered n (Finishes p state) small own = tt
own_numbered n (Reserves r) small own = tt
own_numbered n (Frees r first) small own = tt
own_numbered n (Names text m) small own = tt

all_own_numbered : (n : ℕ) (cs : List Change) → n < 10 ^ 64 → AreOwn n cs → AllBy IsNumbered cs
all_own_numbered n [] small own = tt
all_own_numbered n (c ∷ cs) small own = (own_numbered n c small own.0, all_own_numbered n cs small own.1)

shares_numbered : (to : ℕ) (ss : List (ℕ × Held)) → to < 10 ^ 64 → AllBy IsNumbered (shares_of to ss)
shares_numbered to [] small = tt
shares_numbered to (s ∷ ss) small = (small, shares_numbered to ss small)

-- over plain variables
within : (n m k : ℕ) → 0 < n → n - 1 < m → m < k → n < k
within n m k some under small = omega arith

module _ (s : Setting) (w : World) (p : Process) (d : Dispatch) (at : process_at w.processes d.current ≡ Some p) (few : length w.processes < 10 ^ 64) where
  abbrev b : Before
  b = before s w d.current p

  abbrev e : Effect
  e = effect b

  at_most : (n : ℕ) (x : Process) → process_at w.processes n ≡ Some x → n < 10 ^ 64
  at_most n x there =
      within n (length w.processes) (10 ^ 64) (number_some w.processes n x there) (below w.processes (n - 1) x (at_place_of w.processes n x there)) few

  small : d.current < 10 ^ 64
  small = at_most d.current p at

  -- who gets what another holds, and who holds something, is there
  sharer_numbered : (to : ℕ) → (to ≡ b.number) ⊎ (b.known.lives to ≡ true) → to < 10 ^ 64
  sharer_numbered to (inl same) = subst (λ (k : ℕ). k < 10 ^ 64) (sym same) small
  sharer_numbered to (inr so) = go (process_at w.processes to) refl so
    where
      go : (o : Option Process) → process_at w.processes to ≡ o → lives_at o ≡ true → to < 10 ^ 64
      go None f g = absurd (cc)
      go (Some x) f g = at_most to x f

  holder_numbered : (q : ℕ × ℕ) → IsHolder b q → q.0 < 10 ^ 64
  holder_numbered q (Maker same one) = subst (λ (k : ℕ). k < 10 ^ 64) (sym same) small
  holder_numbered q (Sharer index held there holds) = go (process_at w.processes q.0) refl there
    where
      go : (o : Option Process) → process_at w.processes q.0 ≡ o → held_of o index ≡ Some held → q.0 < 10 ^ 64
      go None f g = absurd (cc)
      go (Some x) f g = at_most q.0 x f

  all_numbered : AllMoves b e.cpu e.changes → AllBy IsNumbered e.changes
  all_numbered (OwnMoves moves) = all_own_numbered d.current e.changes small (moves_own b e.cpu e.changes moves)
  all_numbered (OneNamed size i name free is) = subst (AllBy IsNumbered) (sym is) (tt, (small, (tt, tt)))
  all_numbered (SomeShared from to xs shares is) =
      subst (AllBy IsNumbered) (sym (is ∙ changes_are b.known from to xs shares.shared))
      (shares_numbered to (held_each b.known from xs shares.shared) (sharer_numbered to shares.lives))
  all_numbered (OneRun moves ruled) =
      run_parts b IsNumbered (record {
        makes = λ size flags. tt;
        resizes = λ m size. tt;
        holds = λ q i h holder. holder_numbered q holder;
        drops = λ i count. small;
        reserves = λ region first count which. tt;
      }) e.cpu e.changes moves

  pub acted_plain : ArePlain w.lines → ArePlain (acted s w d (Some p)).lines
  acted_plain plain =
      subst ArePlain (sym (lines_are w d p e)) (plain_append w.lines e.lines plain (effect_plain b small (all_numbered (effect_moves b))))

-- a world whose lines are plain, and that has few processes
pub record HasPlain (w : World) : Type 0 where
  pub few : length w.processes < 10 ^ 64
  pub lines : ArePlain w.lines

chosen_plain : (s : Setting) (w : World) → is_over w ≡ false → HasPlain w → HasPlain (chosen_step s w)
chosen_plain s w runs plain =
    let d = next_dispatch s w in
    let here = next_process s w runs in
    subst (λ (o : Option Process). HasPlain (acted s w d o)) (sym here.1) (record {
      few = subst (λ (k : ℕ). k < 10 ^ 64) (sym (changed_length w d here.0 (effect (before s w d.current here.0)))) plain.few;
      lines = acted_plain s w here.0 d here.1 plain.few plain.lines;
    })

word_plain : (w : World) → HasPlain w → HasPlain (with_word w)
word_plain w plain = record { few = plain.few; lines = plain.lines }

pub step_plain : (s : Setting) (w : World) → HasPlain w → HasPlain (step s w)
unfolding step
step_plain s w plain = go (is_over w) refl
  where
    go : (b : Bool) → is_over w ≡ b → HasPlain (if b then w else chosen_step s (ready w))
    go true over = plain
    go false runs = chosen_plain s (ready w) ((ready_stays w).over ∙ runs) (ready_keeps {P = HasPlain} word_plain w plain)

pub along_plain : (s : Setting) (w : World) → HasPlain w → (k : ℕ) → HasPlain (after s w k)
along_plain s w plain k = along {P = HasPlain} s (step_plain s) w plain k

-- The opening.

one_processes : (b : Built) (h : Holding) (o : Option ℕ) → (holds_as b h o).processes ≡ b.processes
one_processes b h (Some name) = refl
one_processes b h None = refl

one_lines : (b : Built) (h : Holding) (o : Option ℕ) → (holds_as b h o).lines ≡ b.lines
one_lines b h (Some name) = refl
one_lines b h None = refl

all_processes : (hs : List Holding) (b : Built) → (with_holdings b hs).processes ≡ b.processes
all_processes [] b = refl
all_processes (h ∷ hs) b = all_processes hs (with_holding b h) ∙ one_processes b h (if h.common then name_in b.made h.place h.number else None)

all_lines : (hs : List Holding) (b : Built) → (with_holdings b hs).lines ≡ b.lines
all_lines [] b = refl
all_lines (h ∷ hs) b = all_lines hs (with_holding b h) ∙ one_lines b h (if h.common then name_in b.made h.place h.number else None)

holds_plain : (p : ℕ) (selectors : List ℕ) → p < 10 ^ 64 → ArePlain (hold_lines p selectors)
holds_plain p [] few = tt
holds_plain p (s ∷ selectors) few = (record { process = few; names = refl }, holds_plain p selectors few)

start_plain : (p : ℕ) (name selectors : List ℕ) → p < 10 ^ 64 → has 10 name ≡ false → ArePlain (start_lines p name selectors)
start_plain p name selectors small free = (record { process = small; names = free }, holds_plain p selectors small)

-- what has started so far has plain lines, where it is few processes
abbrev IsPlainBuilt : Built → Type 0
IsPlainBuilt b = length b.processes < 10 ^ 64 → ArePlain b.lines

-- over plain variables
fewer_by_one : (n m k : ℕ) → n ≡ m + 1 → n < k → m < k
fewer_by_one n m k e small = omega arith

same_small : (n m k : ℕ) → n ≡ m → n < k → m < k
same_small n m k e small = omega arith

started_plain : Keeps IsPlainBuilt IsPlainStart
started_plain b s u is free plain few =
    let pid : ℕ = length b.processes + 1 in
    let hs = holdings pid s in
    let c = with_holdings b hs in
    let one : length (with_started pid s c).processes ≡ pid =
    length-append c.processes (first_process s c.held ∷ []) ∙ ap (λ (ps : List Process). length ps + 1) (all_processes hs b) in
    plain_append c.lines (start_lines pid s.program.name c.selectors)
    (subst ArePlain (sym (all_lines hs b)) (plain (fewer_by_one _ (length b.processes) (10 ^ 64) one few)))
    (start_plain pid s.program.name c.selectors (same_small _ pid (10 ^ 64) one few) free)

pub opening_plain : (s : Setting) (reserved : List (ℕ × ℕ)) (script : List Word) (input : List ℕ) (starts : List Start) (w : World)
    → All IsPlainStart starts → opening_of s reserved script input starts ≡ Ok w → length w.processes < 10 ^ 64 → ArePlain w.lines
unfolding all_started
opening_plain s reserved script input starts w free e =
    opened (λ (x : World). length x.processes < 10 ^ 64 → ArePlain x.lines) IsPlainBuilt reserved script s.budget input (all_started s.segments starts) w (λ b plain. plain)
    (all_so_far IsPlainBuilt IsPlainStart s.segments starts (Ok nothing_built) started_plain free (λ few. tt)) e

pub run_plain : (s : Setting) (reserved : List (ℕ × ℕ)) (script : List Word) (input : List ℕ) (starts : List Start) (w : World)
    → All IsPlainStart starts → opening_of s reserved script input starts ≡ Ok w → length w.processes < 10 ^ 64 → (k : ℕ) → ArePlain (after s w k).lines
run_plain s reserved script input starts w free e few k =
    (along_plain s w (record { few = few; lines = opening_plain s reserved script input starts w free e few }) k).lines
