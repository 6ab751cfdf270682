use Rattle.std.proofs.Common.{ℕ, List, replicate, ◌++◌, ◌∷◌, [], ◌∙◌, ap, arith}
use Rattle.std.proofs.lemmas.List.{replicate-append-replicate}
use Rattle.o2_outer.proofs.blocks.zero_blocks.Goals as goal

pub loop-preserved : goal.loop-preserved
loop-preserved c =
    let block : List ℕ = replicate 512 0 in
    record {
      within = omega arith;
      zeros = c.in_ok-push.ensures.items ∙ ap (λ xs. xs ++ block ∷ []) c.loop.invariant.zeros ∙ replicate-append-replicate c.loop.counter 1 block;
    }
