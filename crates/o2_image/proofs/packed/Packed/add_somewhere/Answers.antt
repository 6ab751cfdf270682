use Rattle.std.proofs.Common.{◌++◌, ◌∷◌, [], ℕ, ap, ◌∙◌}
use Rattle.o2_image.proofs.Packing.{somewhere}
use Rattle.o2_image.proofs.packed.Packed.add_somewhere.Goals as goal

pub returns : goal.returns
returns c =
    somewhere _ _ _ _ _ c.requires.packed c.requires.room _ _ c.args.target
    (c.in_ok-push-2.ensures.items ∙ ap (λ (n : ℕ). c.args.self.now.marks.items ++ n ∷ []) c.next_mark-mark.ensures) c.in_ok-push.ensures.items c.requires.at
