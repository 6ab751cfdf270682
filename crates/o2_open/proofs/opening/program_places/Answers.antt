use Rattle.std.proofs.Common.{◌<◌, ◌∙◌, ◌++◌, ◌∷◌, [], ℕ, List, Option, ap, sym, arith, take, length}
use Rattle.std.specs.Prelude.{unwrap_or}
use Rattle.std.proofs.lemmas.List.{take_more}
use Rattle.std.proofs.lemmas.Option.{unwrap_or-slice_get}
use Rattle.o2_dynlink.proofs.Items.{nth_next}
use Rattle.o2_open.proofs.opening.program_places.Goals as goal

pub loop-k-preserved : goal.loop-k-preserved
loop-k-preserved c =
    let xs = c.args.linked.now.programs in
    let k = c.loop-k.k in
    let below : k < length xs = omega (arith, c.loop-k.auto.k-end, c.loop-k-test.true, c.process_count-k-end.ensures.programs) in
    let value = c.unwrap_or-place.ensures ∙ ap (λ (o : Option ℕ). unwrap_or o 0) (c.program.ensures.value ∙ nth_next xs k) ∙ unwrap_or-slice_get xs k 0 in
    record {
      so_far = c.in_ok-push.ensures.items
          ∙ ap (λ (ys : List ℕ). ys ++ c.unwrap_or-place.result ∷ []) c.loop-k.invariant.so_far
          ∙ ap (λ (y : ℕ). take k xs ++ y ∷ []) value
          ∙ sym (take_more xs k 0 below);
    }
