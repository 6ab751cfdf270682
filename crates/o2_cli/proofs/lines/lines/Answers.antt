use Rattle.std.proofs.Common.{◌≡◌, ◌+◌, option_map, subst}
use Rattle.o2_image.specs.Getters.{nth}
use Rattle.o2_image.specs.ImageList.{ImageList, Resolution}
use Rattle.o2_cli.specs.Checks.{with_line}
use Rattle.o2_cli.proofs.Checked.{lines_next}
use Rattle.o2_cli.proofs.lines.lines.Goals as goal

pub loop-k-preserved : goal.loop-k-preserved
loop-k-preserved c = record {
  so_far = lines_next c.args.shim.now c.args.linked.now.images c.loop-k.k c.loop-k.text.items c.add_module.new.text.items c.loop-k.invariant.so_far
      (subst (λ (z : ImageList). c.add_module.new.text.items ≡ with_line c.args.shim.now c.loop-k.text.items (option_map (λ (m : Resolution). m.0) (nth z.modules (c.loop-k.k + 1)))) c.images-images.ensures.value c.in_ok-add_module.ensures);
}
