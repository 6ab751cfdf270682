use Rattle.std.proofs.Common.{◌≡◌, ℕ, ◌+◌, ◌<◌, ◌≤◌, List, [], ◌∷◌, ◌++◌, length, drop, get_or, ap, sym, ◌∙◌, append_assoc, append-nil, rules}
use Rattle.std.proofs.Output.{has_written_append, has_written_of_eq}
use Rattle.std.proofs.lemmas.List.{at_drop_more, at_drop_all}
use Rattle.os2core.specs.Columns.{letter, letters}
use Rattle.os2core.proofs.printable.LettersDisplay.fmt.Goals as goal

-- the letters of what is left are that of the next byte and those behind it
next_letter : (bs done all : List ℕ) (n : ℕ) → n < length bs → done ++ letters (drop n bs) ≡ all → (done ++ (letter (get_or bs n 0) ∷ [])) ++ letters (drop (n + 1) bs) ≡ all
next_letter bs done all n h e = append_assoc done (letter (get_or bs n 0) ∷ []) (letters (drop (n + 1) bs)) ∙ ap (λ (t : List ℕ). done ++ t) (sym (at_drop_more letters bs n 0 h)) ∙ e

-- at the end nothing is left
last_letter : (bs done all : List ℕ) (n : ℕ) → length bs ≤ n → done ++ letters (drop n bs) ≡ all → done ≡ all
last_letter bs done all n h e = sym (append-nil done) ∙ ap (λ (t : List ℕ). done ++ t) (sym (at_drop_all letters bs n h)) ∙ e

pub loop-byte-preserved : goal.loop-byte-preserved
loop-byte-preserved g c = λ plain.
    let so_far = c.loop-byte.invariant plain in
    (_, has_written_append _ _ _ _ _ _ so_far.1 (search rules), next_letter _ so_far.0 _ c.loop-byte.byte-index (search rules) so_far.2)

pub returns-clause-writes : goal.returns-clause-writes
returns-clause-writes g c = λ plain _.
    let so_far = c.loop-byte.invariant plain in
    has_written_of_eq _ _ _ _ _ (last_letter _ so_far.0 _ c.loop-byte.byte-index (search rules) so_far.2) so_far.1
