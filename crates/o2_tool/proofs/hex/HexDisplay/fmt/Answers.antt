use Rattle.std.proofs.Common.{◌≡◌, ℕ, ◌+◌, ◌<◌, ◌≤◌, List, ◌++◌, length, drop, get_or, ap, sym, ◌∙◌, append_assoc, append-nil, rules}
use Rattle.std.proofs.Output.{has_written_append, has_written_of_eq}
use Rattle.std.proofs.lemmas.List.{at_drop_more, at_drop_all}
use Rattle.o2_tool.specs.Text.{pair_text, hex_text}
use Rattle.o2_tool.proofs.hex.HexDisplay.fmt.Goals as goal

-- the text of what is left is that of the next byte and of what is left behind it
next_text : (bs done all : List ℕ) (n : ℕ) → n < length bs → done ++ hex_text (drop n bs) ≡ all → (done ++ pair_text (get_or bs n 0)) ++ hex_text (drop (n + 1) bs) ≡ all
next_text bs done all n h e = append_assoc done (pair_text (get_or bs n 0)) (hex_text (drop (n + 1) bs)) ∙ ap (λ (t : List ℕ). done ++ t) (sym (at_drop_more hex_text bs n 0 h)) ∙ e

-- at the end nothing is left
last_text : (bs done all : List ℕ) (n : ℕ) → length bs ≤ n → done ++ hex_text (drop n bs) ≡ all → done ≡ all
last_text bs done all n h e = sym (append-nil done) ∙ ap (λ (t : List ℕ). done ++ t) (sym (at_drop_all hex_text bs n h)) ∙ e

pub loop-byte-preserved : goal.loop-byte-preserved
loop-byte-preserved g c = λ plain.
    let so_far = c.loop-byte.invariant plain in
    (_, has_written_append _ _ _ _ _ _ so_far.1 (search rules), next_text _ so_far.0 _ c.loop-byte.byte-index (search rules) so_far.2)

pub returns-clause-writes : goal.returns-clause-writes
returns-clause-writes g c = λ plain _.
    let so_far = c.loop-byte.invariant plain in
    has_written_of_eq _ _ _ _ _ (last_text _ so_far.0 _ c.loop-byte.byte-index (search rules) so_far.2) so_far.1
