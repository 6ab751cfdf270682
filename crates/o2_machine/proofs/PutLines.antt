-- Lines that are put one behind another, each by a put of its own.
use Rattle.std.proofs.Common.{◌≡◌, ℕ, ◌+◌, List, [], ◌∷◌, ◌++◌, length, Option, Some, ap, sym, ◌∙◌, append_assoc, append-nil, length-append, arith}
use Rattle.std.proofs.lemmas.Grind.{flat_map-append}
use Rattle.o2_outer.specs.declared.sink.Put.{Put}
use Rattle.o2_outer.specs.declared.sink.Put.TheVariants as put
use Rattle.o2_outer.specs.Texts.{Gains, GainsSome, IsPrefix}
use Rattle.o2_outer.proofs.TextLemmas.{puts_front}
use Rattle.o2_world.specs.World.{Line}
use Rattle.o2_world.specs.Text.{line_text, lines_text}
use Rattle.o2_machine.specs.PutLines.{PutsLines}
use Rattle.o2_run.specs.Pieces.{FailsInLine}
use Rattle.o2_run.proofs.FailedLines.{fails_behind, fails_first}

-- behind lines that were put whole
pub lines_behind : (done lines : List Line) (r m q : Option (List ℕ)) (before mid now : ℕ) (p : Put) → PutsLines done r m before mid put.Done
    → PutsLines lines m q mid now p → PutsLines (done ++ lines) r q before now p
lines_behind done lines r m q before mid now put.Done g h =
    let all : lines_text done ++ lines_text lines ≡ lines_text (done ++ lines) = sym (flat_map-append line_text done lines) in (
      λ t is. h.0 (t ++ lines_text done) (g.0 t is) ∙ ap Some (append_assoc t (lines_text done) (lines_text lines) ∙ ap (λ (z : List ℕ). t ++ z) all),
      (let long = length-append done lines in omega (arith, long, g.1, h.1)),
    )
lines_behind done lines r m q before mid now put.Failed g h = fails_behind done lines r m q before mid now g.0 g.1 h

-- the put of one line
pub line_whole : (l : Line) (r q : Option (List ℕ)) (before now : ℕ) → Gains r q (line_text l) → now ≡ before + 1 → PutsLines (l ∷ []) r q before now put.Done
line_whole l r q before now g one = (λ t is. g t is ∙ ap (λ (z : List ℕ). Some (t ++ z)) (sym (append-nil (line_text l))), one)

-- one that failed, in front of others
pub line_failed : (l : Line) (rest : List Line) (r q : Option (List ℕ)) (before now : ℕ) → GainsSome r q (λ front. IsPrefix front (line_text l)) → now ≡ before + 1
    → FailsInLine (l ∷ rest) r q before now
line_failed l rest r q before now g one = fails_first l rest r q before now (puts_front (line_text l) [] r q g) one

-- a front of all lines
pub fails_front : (lines : List Line) (r q : Option (List ℕ)) (before now : ℕ) → FailsInLine lines r q before now → GainsSome r q (λ front. IsPrefix front (lines_text lines))
fails_front lines r q before now f = λ t is.
    let h = f.to_report t is in
    let high : List ℕ = lines_text (f.whole ++ f.failed ∷ []) in
    let rest : List ℕ = lines_text f.rest in
    let all : lines_text lines ≡ high ++ rest =
    ap lines_text (f.splits ∙ sym (append_assoc f.whole (f.failed ∷ []) f.rest))
    ∙ flat_map-append line_text (f.whole ++ f.failed ∷ []) f.rest in
    (h.0, h.1, (h.2.1.0 ++ rest, all ∙ ap (λ (z : List ℕ). z ++ rest) h.2.1.1 ∙ append_assoc h.0 h.2.1.0 rest))
