use Rattle.std.proofs.Common.{◌∙◌, ap, arith}
use Rattle.std.proofs.lemmas.Grind.{common_steps}
use Rattle.o2_outer.specs.Planned.{fails_next}
use Rattle.o2_outer.proofs.Booleans.{two_answers}
use Rattle.o2_outer.proofs.Inputs.{adds_front}
use Rattle.o2_outer.proofs.mem_source.MemSourceSource.take.Goals as goal

pub returns-clause-fails : goal.returns-clause-fails
returns-clause-fails c = λ planned. two_answers _ _ (c.fails_now.ensures.planned ∙ ap (λ xs. fails_next c.args.self.now.calls xs) c.deref.ensures.value ∙ planned) c.if-fails_now.false

pub returns-clause-adds : goal.returns-clause-adds
returns-clause-adds c =
    let s = c.args.self.now in
    adds_front s.at c.min-count.result s.bytes _ s.within (grind (arith, common_steps)) (grind (arith, common_steps))
