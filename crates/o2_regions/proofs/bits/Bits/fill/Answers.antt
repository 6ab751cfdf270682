use Rattle.std.proofs.Common.{◌≡◌, ◌+◌, ◌-◌, length, arith, ap, Bool, List, ◌∙◌, ℕ}
use Rattle.o2_regions.specs.Maps.{fill}
use Rattle.o2_regions.proofs.Writes.{length-fill, fill_step, fill-none}
use Rattle.o2_regions.proofs.bits.Bits.fill.Goals as goal

pub set-requires : goal.set-requires
set-requires c =
    let n = c.loop-i.i - c.args.from in
    let h : c.args.from + n ≡ c.loop-i.i = omega arith in
    omega (arith, ap (λ (l : List Bool). length l) (c.loop-i.invariant n h), length-fill c.args.self.now c.args.from n c.args.mark (omega arith))

pub loop-i-preserved : goal.loop-i-preserved
loop-i-preserved c = fill_step c.args.self.now _ _ c.args.from c.loop-i.i c.args.mark (omega arith) (omega arith) c.loop-i.invariant c.set.ensures

pub loop-i-init : goal.loop-i-init
loop-i-init c = λ n e.
    let zero_long : 0 ≡ n = omega arith in
    fill-none c.args.self.now c.args.from c.args.mark ∙ ap (λ (p : ℕ). fill c.args.self.now c.args.from p c.args.mark) zero_long
