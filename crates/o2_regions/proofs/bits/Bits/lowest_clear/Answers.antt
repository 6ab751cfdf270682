use Rattle.std.proofs.Common.{length, arith, ◌∙◌, ap, ℕ, List}
use Rattle.o2_regions.proofs.Bitwise.{length-marks}
use Rattle.o2_regions.proofs.WordScans.{chosen-marks}
use Rattle.o2_regions.proofs.bits.Bits.lowest_clear.Goals as goal

pub scan_clear-requires-clause-within : goal.scan_clear-requires-clause-within
scan_clear-requires-clause-within c =
    let ws = c.self.inside.words.items in
    omega (arith, length-marks ws, (rw (← c.self.view_is) at c.requires.within), ap (λ (v : List ℕ). length v) c.deref.ensures.value)

pub scan_clear-requires-clause-few : goal.scan_clear-requires-clause-few
scan_clear-requires-clause-few c =
    let ws = c.self.inside.words.items in
    omega (arith, length-marks ws, (rw (← c.self.view_is) at c.requires.few), ap (λ (v : List ℕ). length v) c.deref.ensures.value)

pub returns : goal.returns
returns c =
    let ws = c.self.inside.words.items in
    rw (← c.self.view_is) ((rw c.deref.ensures.value at c.scan_clear.ensures) ∙ chosen-marks ws c.args.base c.args.low c.args.end c.args.count)
