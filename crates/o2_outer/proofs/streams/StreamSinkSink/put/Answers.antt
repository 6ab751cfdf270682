-- The writes took a front of the piece.
use Rattle.std.proofs.Common.{ℕ, List, [], ◌++◌, Option, Some, take, drop, sym, ap, ◌∙◌, unwrap_or}
use Rattle.std.proofs.lemmas.List.{take-append-drop}
use Rattle.o2_outer.proofs.streams.StreamSinkSink.put.Goals as goal

pub returns-else-written-piece-clause-takes : goal.returns-else-written-piece-clause-takes
returns-else-written-piece-clause-takes g c =
    let n : ℕ = c.write_on-written.result in
    let piece : List ℕ = c.args.piece.now in
    λ t e. (take n piece, ap Some (c.note.ensures.0 ∙ ap (λ (o : Option (List ℕ)). unwrap_or o [] ++ take n piece) e), (drop n piece, sym (take-append-drop n piece)))

pub returns-else-written-piece-clause-sends : goal.returns-else-written-piece-clause-sends
returns-else-written-piece-clause-sends g c =
    let n : ℕ = c.write_on-written.result in
    let piece : List ℕ = c.args.piece.now in
    record {
      front = take n piece;
      is_front = (drop n piece, sym (take-append-drop n piece));
      whole = λ e. absurd (cc);
      taken = c.note.ensures.0;
      stream = c.write_on-written.ensures.gains;
    }
