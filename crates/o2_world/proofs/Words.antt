-- The words `discard` that come before a step: what they leave, and that the same step comes behind them.
use Rattle.std.proofs.Common.{◌≡◌, ℕ, zero, suc, ◌+◌, ◌<◌, ◌≤◌, ◌&&◌, Bool, true, false, cond, nat_lt, ap, sym, ◌∙◌, refl, arith}
use Rattle.o2_conf.specs.Dispatch.{Dispatch, goes_on, is_word_next, lives, word_taken, words_ahead, words_before}
use Rattle.o2_conf.proofs.Words.{dispatched_so, words_fewer}
use Rattle.o2_world.specs.World.{World, Setting}
use Rattle.o2_world.specs.Run.{chosen_step, is_over, live_flags, next_dispatch, ready, step, with_word, words_coming, words_done}
use Rattle.o2_world.proofs.MapLemmas.{if_no}

-- a run that isn't over takes the step that is chosen
pub step_runs : (s : Setting) (w : World) → is_over w ≡ false → step s w ≡ chosen_step s (ready w)
unfolding step
step_runs s w runs = if_no (is_over w) w (chosen_step s (ready w)) runs

some : (n : ℕ) → 0 < n → nat_lt 0 n ≡ true
some n h = grind arith

none : (A : Type 0) → 0 < 0 → A
none A h = absurd (omega (arith, h))

-- where a word comes, the dispatch has it next
word_is_next : (b : Bool) (n : ℕ) → 0 < cond b 0 n → nat_lt 0 n ≡ true
word_is_next true n h = none _ h
word_is_next false n h = some n h

pub word_next : (w : World) → 0 < words_coming w → is_word_next (live_flags w.processes) w.dispatch ≡ true
word_next w h = word_is_next (is_over w) (words_ahead (live_flags w.processes) w.dispatch) h

-- behind it there is one word less
one_less : (b : Bool) (n m : ℕ) → (nat_lt 0 n ≡ true → m + 1 ≡ n) → 0 < cond b 0 n → cond b 0 m + 1 ≡ cond b 0 n
one_less true n m less h = none _ h
one_less false n m less h = less (some n h)

pub one_word_less : (w : World) → 0 < words_coming w → words_coming (with_word w) + 1 ≡ words_coming w
one_word_less w h =
    let flags = live_flags w.processes in
    one_less (is_over w) (words_ahead flags w.dispatch) (words_ahead flags (word_taken flags w.dispatch)) (words_fewer flags w.dispatch) h

pub words_less : (n : ℕ) (w : World) → n ≤ words_coming w → words_coming (words_done n w) + n ≡ words_coming w
words_less zero w few = omega arith
words_less (suc n) w few =
    let here : 0 < words_coming w = omega (arith, few) in
    let one = one_word_less w here in
    let rest = words_less n (with_word w) (omega (arith, few, one)) in
    omega (arith, one, rest)

-- words behind words
pub done_more : (m n : ℕ) (w : World) → words_done (m + n) w ≡ words_done n (words_done m w)
done_more zero n w = let same : 0 + n ≡ n = omega arith in ap (λ (k : ℕ). words_done k w) same
done_more (suc m) n w = let same : suc m + n ≡ suc (m + n) = omega arith in ap (λ (k : ℕ). words_done k w) same ∙ done_more m n (with_word w)

pub ready_behind : (n : ℕ) (w : World) → n ≤ words_coming w → ready (words_done n w) ≡ ready w
unfolding ready
ready_behind n w few =
    let less = words_less n w few in
    let same : n + words_coming (words_done n w) ≡ words_coming w = omega (arith, less) in
    sym (done_more n (words_coming (words_done n w)) w) ∙ ap (λ (k : ℕ). words_done k w) same

-- where none comes, the step is done at once
pub ready_at_once : (w : World) → words_coming w ≡ 0 → ready w ≡ w
unfolding ready
ready_at_once w wordless = ap (λ (k : ℕ). words_done k w) wordless

pub step_at_once : (s : Setting) (w : World) → is_over w ≡ false → words_coming w ≡ 0 → step s w ≡ chosen_step s w
step_at_once s w runs wordless = step_runs s w runs ∙ ap (chosen_step s) (ready_at_once w wordless)

pub none_over : (w : World) → is_over w ≡ true → words_coming w ≡ 0
none_over w over = ap (λ (b : Bool). cond b 0 (words_ahead (live_flags w.processes) w.dispatch)) over

-- none comes while a slice or turn goes on
pub none_within : (w : World) (d : Dispatch) → w.dispatch ≡ d → 0 < d.left → lives (live_flags w.processes) d.current ≡ true → words_coming w ≡ 0
none_within w d is more here = by (is_over w) (goes_on (live_flags w.processes) w.dispatch) going
  where
    both : (a b : Bool) → a ≡ true → b ≡ true → (a && b) ≡ true
    both true b e f = f
    both false b e f = absurd (cc)

    going : goes_on (live_flags w.processes) w.dispatch ≡ true
    going = ap (goes_on (live_flags w.processes)) is ∙ both (nat_lt 0 d.left) _ (some d.left more) here

    by : (a b : Bool) → b ≡ true → cond a 0 (cond b 0 (words_before (live_flags w.processes) w.dispatch.script)) ≡ 0
    by true b e = refl
    by false true e = refl
    by false false e = absurd (cc)

-- Words change no process, no text and no input, and take no budget.
pub record StaysBehind (w v : World) : Type 0 where
  pub processes : v.processes ≡ w.processes
  pub next_name : v.next_name ≡ w.next_name
  pub reserved : v.reserved ≡ w.reserved
  pub texts : v.texts ≡ w.texts
  pub input : v.input ≡ w.input
  pub console : v.console ≡ w.console
  pub lines : v.lines ≡ w.lines
  pub budget : v.dispatch.budget ≡ w.dispatch.budget
  pub over : is_over v ≡ is_over w

same_behind : (w : World) → StaysBehind w w
same_behind w = record { processes = refl; next_name = refl; reserved = refl; texts = refl; input = refl; console = refl; lines = refl; budget = refl; over = refl }

pub stays_behind : (n : ℕ) (w : World) → StaysBehind w (words_done n w)
stays_behind zero w = same_behind w
stays_behind (suc n) w =
    let h = stays_behind n (with_word w) in
    record { processes = h.processes; next_name = h.next_name; reserved = h.reserved; texts = h.texts; input = h.input; console = h.console; lines = h.lines; budget = h.budget; over = h.over }

pub ready_stays : (w : World) → StaysBehind w (ready w)
unfolding ready
ready_stays w = stays_behind (words_coming w) w

-- what each word keeps holds behind all of them
pub along_words : {P : World → Type 0} → ((w : World) → P w → P (with_word w)) → (n : ℕ) (w : World) → P w → P (words_done n w)
along_words keeps zero w h = h
along_words {P} keeps (suc n) w h = along_words {P = P} keeps n (with_word w) (keeps w h)

pub ready_keeps : {P : World → Type 0} → ((w : World) → P w → P (with_word w)) → (w : World) → P w → P (ready w)
unfolding ready
ready_keeps {P} keeps w h = along_words {P = P} keeps (words_coming w) w h

-- The same step comes behind them.

pub next_behind : (s : Setting) (n : ℕ) (w : World) → n ≤ words_coming w → next_dispatch s (words_done n w) ≡ next_dispatch s w
next_behind s zero w few = refl
next_behind s (suc n) w few =
    let here : 0 < words_coming w = omega (arith, few) in
    let one = one_word_less w here in
    next_behind s n (with_word w) (omega (arith, few, one)) ∙ dispatched_so s.quantum (live_flags w.processes) w.dispatch (word_next w here)

pub next_ready : (s : Setting) (w : World) → next_dispatch s (ready w) ≡ next_dispatch s w
unfolding ready
next_ready s w = next_behind s (words_coming w) w (omega arith)

pub step_behind : (s : Setting) (n : ℕ) (w : World) → n ≤ words_coming w → step s (words_done n w) ≡ step s w
step_behind s n w few = go (is_over w) refl
  where
    go : (b : Bool) → is_over w ≡ b → step s (words_done n w) ≡ step s w
    go true over = let no_words = none_over w over in let no_word : n ≡ 0 = omega (arith, few, no_words) in ap (λ (k : ℕ). step s (words_done k w)) no_word
    go false runs =
        step_runs s (words_done n w) ((stays_behind n w).over ∙ runs) ∙ (ap (chosen_step s) (ready_behind n w few) ∙ sym (step_runs s w runs))
