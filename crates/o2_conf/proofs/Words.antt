-- A word `discard` leaves whose step is next.
use Rattle.std.proofs.Common.{◌≡◌, ℕ, ◌+◌, ◌<◌, ◌≤◌, Bool, true, false, List, [], ◌∷◌, length, ap, ◌∙◌, refl, arith, cond, nat_lt}
use Rattle.o2_conf.specs.declared.script.Word.{Word}
use Rattle.o2_conf.specs.declared.script.Word.TheVariants.{Slice, Discard}
use Rattle.o2_conf.specs.Dispatch.{Dispatch, lives, goes_on, is_due, live_script, started, dispatched, words_before, behind_word, words_ahead, is_word_next, word_taken}

some : (n : ℕ) → nat_lt 0 n ≡ true → 0 < n
some n e = grind arith

none : (A : Type 0) → 0 < 0 → A
none A h = absurd (omega (arith, h))

-- the words that start slices are the same behind it
one_passed : (flags : List Bool) (b : Bool) (word : Word) (ws : List Word) (n : ℕ) → (0 < n → live_script flags (behind_word flags ws) ≡ live_script flags ws)
    → 0 < cond b 0 n → live_script flags (cond b (word ∷ ws) (behind_word flags ws)) ≡ cond b (word ∷ ws) (live_script flags ws)
one_passed flags true word ws n rest h = none _ h
one_passed flags false word ws n rest h = rest h

passed : (flags : List Bool) (ws : List Word) → 0 < words_before flags ws → live_script flags (behind_word flags ws) ≡ live_script flags ws
passed flags [] h = none _ h
passed flags (Discard ∷ ws) h = refl
passed flags (Slice process count ∷ ws) h = one_passed flags (lives flags process) (Slice process count) ws (words_before flags ws) (passed flags ws) h

-- and one word less is left
one_fewer : (flags : List Bool) (b : Bool) (word : Word) (ws : List Word) (n : ℕ) → (0 < n → words_before flags (behind_word flags ws) + 1 ≡ n)
    → 0 < cond b 0 n → words_before flags (cond b (word ∷ ws) (behind_word flags ws)) + 1 ≡ cond b 0 n
one_fewer flags true word ws n rest h = none _ h
one_fewer flags false word ws n rest h = rest h

fewer : (flags : List Bool) (ws : List Word) → 0 < words_before flags ws → words_before flags (behind_word flags ws) + 1 ≡ words_before flags ws
fewer flags [] h = none _ h
fewer flags (Discard ∷ ws) h = refl
fewer flags (Slice process count ∷ ws) h = one_fewer flags (lives flags process) (Slice process count) ws (words_before flags ws) (fewer flags ws) h

one_shorter : (flags : List Bool) (b : Bool) (word : Word) (ws : List Word) (n : ℕ) → (0 < n → length (behind_word flags ws) < length ws)
    → 0 < cond b 0 n → length (cond b (word ∷ ws) (behind_word flags ws)) < length ws + 1
one_shorter flags true word ws n rest h = none _ h
one_shorter flags false word ws n rest h = let less = rest h in omega (arith, less)

shorter : (flags : List Bool) (ws : List Word) → 0 < words_before flags ws → length (behind_word flags ws) < length ws
shorter flags [] h = none _ h
shorter flags (Discard ∷ ws) h = omega arith
shorter flags (Slice process count ∷ ws) h =
    let less = one_shorter flags (lives flags process) (Slice process count) ws (words_before flags ws) (shorter flags ws) h in omega (arith, less)

-- a dispatch that starts a slice or turn doesn't go by the script before it
started_so : (quantum : ℕ) (flags : List Bool) (d : Dispatch) (rest ws : List Word) → started quantum flags (record d { script = rest }) ws ≡ started quantum flags d ws
started_so quantum flags d rest [] = refl
started_so quantum flags d rest (Slice process count ∷ ws) = refl
started_so quantum flags d rest (Discard ∷ ws) = refl

one_dispatched : (b : Bool) (n : ℕ) (d e f g : Dispatch) → (0 < n → f ≡ g) → 0 < cond b 0 n → cond b e f ≡ cond b d g
one_dispatched true n d e f g same h = none _ h
one_dispatched false n d e f g same h = same h

pub dispatched_so : (quantum : ℕ) (flags : List Bool) (d : Dispatch) → is_word_next flags d ≡ true → dispatched quantum flags (word_taken flags d) ≡ dispatched quantum flags d
dispatched_so quantum flags d next =
    one_dispatched (goes_on flags d) (words_before flags d.script) d (word_taken flags d) _ _
    (λ h. ap (started quantum flags (word_taken flags d)) (passed flags d.script h) ∙ started_so quantum flags d (behind_word flags d.script) (live_script flags d.script))
    (some (words_ahead flags d) next)

one_less : (b : Bool) (n m : ℕ) → (0 < n → m + 1 ≡ n) → 0 < cond b 0 n → cond b 0 m + 1 ≡ cond b 0 n
one_less true n m less h = none _ h
one_less false n m less h = less h

pub words_fewer : (flags : List Bool) (d : Dispatch) → is_word_next flags d ≡ true → words_ahead flags (word_taken flags d) + 1 ≡ words_ahead flags d
words_fewer flags d next =
    one_less (goes_on flags d) (words_before flags d.script) (words_before flags (behind_word flags d.script)) (fewer flags d.script) (some (words_ahead flags d) next)

one_short : (b : Bool) (n : ℕ) (A : Type 0) → (0 < n → A) → 0 < cond b 0 n → A
one_short true n A f h = none _ h
one_short false n A f h = f h

pub script_shorter : (flags : List Bool) (d : Dispatch) → is_word_next flags d ≡ true → length (word_taken flags d).script < length d.script
script_shorter flags d next = one_short (goes_on flags d) (words_before flags d.script) _ (shorter flags d.script) (some (words_ahead flags d) next)

-- no dispatch makes the script longer
one_no_longer : (b : Bool) (word : Word) (ws rest : List Word) → length rest ≤ length ws → length (cond b (word ∷ ws) rest) ≤ length (word ∷ ws)
one_no_longer true word ws rest h = omega arith
one_no_longer false word ws rest h = omega (arith, h)

no_longer : (flags : List Bool) (ws : List Word) → length (live_script flags ws) ≤ length ws
no_longer flags [] = omega arith
no_longer flags (w ∷ ws) = one_no_longer (is_due flags w) w ws (live_script flags ws) (no_longer flags ws)

started_no_longer : (quantum : ℕ) (flags : List Bool) (d : Dispatch) (ws : List Word) → length (started quantum flags d ws).script ≤ length ws
started_no_longer quantum flags d [] = omega arith
started_no_longer quantum flags d (Slice process count ∷ ws) = omega arith
started_no_longer quantum flags d (Discard ∷ ws) = omega arith

either_no_longer : (b : Bool) (d e : Dispatch) (n : ℕ) → length d.script ≤ n → length e.script ≤ n → length (cond b d e).script ≤ n
either_no_longer true d e n h k = h
either_no_longer false d e n h k = k

pub dispatched_no_longer : (quantum : ℕ) (flags : List Bool) (d : Dispatch) → length (dispatched quantum flags d).script ≤ length d.script
dispatched_no_longer quantum flags d =
    let short = no_longer flags d.script in
    let begins = started_no_longer quantum flags d (live_script flags d.script) in
    either_no_longer (goes_on flags d) d _ (length d.script) (omega arith) (omega (arith, short, begins))
