use Rattle.std.proofs.Common.{◌≡◌, arith, length, ◌∙◌}
use Rattle.o2_image.proofs.Packing.{all_packed}
use Rattle.o2_image.proofs.packed.pack.Goals as goal

pub returns : goal.returns
returns c =
    let end : c.loop-k.k ≡ length c.args.targets.now = omega (arith, c.loop-k.invariant.within) in
    c.shrink.ensures ∙ all_packed _ _ _ _ _ c.loop-k.invariant.packed end
