use Rattle.std.proofs.Common.{◌≡◌, ℕ, arith, subst, sym}
use Rattle.o2_ends.specs.LetsGo.{FreesShared}
use Rattle.o2_ends.proofs.Dropping.{below_more, below_none, held_stretch, is_below, no_stretch, stretch_freed}
use Rattle.o2_ends.proofs.drops.release_stretch.Goals as goal

pub returns-then-end-from : goal.returns-then-end-from
returns-then-end-from c = no_stretch c.args.regions.now c.args.held c.max-from.result c.end_of_run-end.result c.max-from.ensures c.end_of_run-end.ensures.end c.if-end-from.true

pub returns-then-is_shared_held : goal.returns-then-is_shared_held
returns-then-is_shared_held c = held_stretch c.args.regions.now c.args.held (sym c.if-is_shared_held.ensures)

pub loop-index-init : goal.loop-index-init
loop-index-init c = below_none c.args.regions.now c.max-from.result

pub loop-index-preserved : goal.loop-index-preserved
loop-index-preserved c = below_more c.args.regions.now c.loop-index.regions c.release_shared.new.regions c.max-from.result c.loop-index.index c.loop-index.auto.index c.loop-index.invariant c.release_shared.ensures

pub returns : goal.returns
returns c =
    let m = c.args.regions.now in
    let n = c.loop-index.regions in
    let last : c.loop-index.index ≡ c.end_of_run-end.result = omega arith in
    stretch_freed m n c.args.held c.max-from.result c.end_of_run-end.result c.max-from.ensures c.end_of_run-end.ensures.end (sym c.if-is_shared_held.ensures)
    (subst (λ (k : ℕ). FreesShared m n (λ j. is_below m c.max-from.result k j)) last c.loop-index.invariant)
