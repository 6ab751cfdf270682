use Rattle.std.proofs.Common.{◌&&◌, ◌==◌, subst, sym}
use Rattle.o2_regions.specs.Maps.{Maps}
use Rattle.o2_ends.specs.LetsGo.{FreesShared, is_left}
use Rattle.o2_ends.proofs.Dropping.{freed_shared, held_shared, loaded_shared}
use Rattle.o2_ends.proofs.drops.release_shared.Goals as goal

pub returns-then-is_loaded : goal.returns-then-is_loaded
returns-then-is_loaded c = loaded_shared c.args.regions.now c.args.index c.args.cause (sym c.if-is_loaded.ensures)

pub returns-then-is_shared_held : goal.returns-then-is_shared_held
returns-then-is_shared_held c = held_shared c.args.regions.now c.args.index c.args.cause (sym c.if-is_shared_held.ensures)

pub returns : goal.returns
returns c =
    let m = c.args.regions.now in
    subst (λ (n : Maps). FreesShared m n (λ j. (j == c.args.index) && is_left m c.args.index c.args.cause)) (sym c.release.ensures)
    (freed_shared m c.args.index c.args.cause c.law.ensures c.requires.high c.requires.index (sym c.if-is_loaded.ensures) (sym c.if-is_shared_held.ensures))
