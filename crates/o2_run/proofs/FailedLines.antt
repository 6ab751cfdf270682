-- Which line failed, where lines are put one behind another.
use Rattle.std.proofs.Common.{◌≡◌, ℕ, ◌+◌, List, [], ◌∷◌, ◌++◌, length, Option, Some, ap, sym, ◌∙◌, refl, append_assoc, length-append, arith}
use Rattle.std.proofs.lemmas.Grind.{flat_map-append}
use Rattle.o2_outer.specs.Texts.{Gains, GainsBetween, GainsSome, IsPrefix}
use Rattle.o2_world.specs.World.{Line}
use Rattle.o2_world.specs.Text.{line_text, lines_text}
use Rattle.o2_run.specs.Pieces.{FailsInLine}

-- behind these lines
pub between_behind : (done whole : List Line) (failed : Line) (r m q : Option (List ℕ)) → Gains r m (lines_text done)
    → GainsBetween m q (lines_text whole) (lines_text (whole ++ failed ∷ [])) → GainsBetween r q (lines_text (done ++ whole)) (lines_text ((done ++ whole) ++ failed ∷ []))
between_behind done whole failed r m q put between = λ t is.
    let d : List ℕ = lines_text done in
    let h = between (t ++ d) (put t is) in
    let low : d ++ h.0 ≡ lines_text (done ++ whole) ++ h.2.0.0 =
    ap (λ (z : List ℕ). d ++ z) h.2.0.1
    ∙ (sym (append_assoc d (lines_text whole) h.2.0.0)
    ∙ ap (λ (z : List ℕ). z ++ h.2.0.0) (sym (flat_map-append line_text done whole))) in
    let high : lines_text ((done ++ whole) ++ failed ∷ []) ≡ (d ++ h.0) ++ h.2.1.0 =
    ap lines_text (append_assoc done whole (failed ∷ []))
    ∙ (flat_map-append line_text done (whole ++ failed ∷ [])
    ∙ (ap (λ (z : List ℕ). d ++ z) h.2.1.1
    ∙ sym (append_assoc d h.0 h.2.1.0))) in
    (d ++ h.0, h.1 ∙ ap Some (append_assoc t d h.0), ((h.2.0.0, low), (h.2.1.0, high)))

-- a front of the first line
pub first_between : (l : Line) (r q : Option (List ℕ)) → GainsSome r q (λ front. IsPrefix front (lines_text (l ∷ []))) → GainsBetween r q (lines_text []) (lines_text ([] ++ l ∷ []))
first_between l r q front = λ t is. let h = front t is in (h.0, h.1, ((h.0, refl), h.2))

-- the first line failed
pub fails_first : (l : Line) (rest : List Line) (r q : Option (List ℕ)) (before now : ℕ) → GainsSome r q (λ front. IsPrefix front (lines_text (l ∷ []))) → now ≡ before + 1
    → FailsInLine (l ∷ rest) r q before now
fails_first l rest r q before now front one = record {
  whole = [];
  failed = l;
  rest = rest;
  splits = refl;
  to_report = first_between l r q front;
  puts = omega (arith, one);
}

-- the only line failed
pub fails_only : (lines : List Line) (r q : Option (List ℕ)) (before now : ℕ) → length lines ≡ 1 → GainsSome r q (λ front. IsPrefix front (lines_text lines)) → now ≡ before + 1
    → FailsInLine lines r q before now
fails_only [] r q before now one front puts = absurd (omega (arith, one))
fails_only (l ∷ []) r q before now one front puts = fails_first l [] r q before now front puts
fails_only (l ∷ k ∷ ls) r q before now one front puts = absurd (omega (arith, one))

-- one failed behind lines that were put whole
pub fails_behind : (done lines : List Line) (r m q : Option (List ℕ)) (before mid now : ℕ) → Gains r m (lines_text done) → mid ≡ before + length done
    → FailsInLine lines m q mid now → FailsInLine (done ++ lines) r q before now
fails_behind done lines r m q before mid now put count f = record {
  whole = done ++ f.whole;
  failed = f.failed;
  rest = f.rest;
  splits = ap (λ (ls : List Line). done ++ ls) f.splits ∙ sym (append_assoc done f.whole (f.failed ∷ f.rest));
  to_report = between_behind done f.whole f.failed r m q put f.to_report;
  puts = (let long = length-append done f.whole in let puts = f.puts in omega (arith, count, puts, long));
}

-- and in front of others
pub fails_before : (lines more : List Line) (r q : Option (List ℕ)) (before now : ℕ) → FailsInLine lines r q before now → FailsInLine (lines ++ more) r q before now
fails_before lines more r q before now f = record {
  whole = f.whole;
  failed = f.failed;
  rest = f.rest ++ more;
  splits = ap (λ (ls : List Line). ls ++ more) f.splits ∙ append_assoc f.whole (f.failed ∷ f.rest) more;
  to_report = f.to_report;
  puts = f.puts;
}
