use Rattle.std.proofs.Common.{sym}
use Rattle.o2_ends.proofs.Dropping.{alone_goes, own_stays, run_goes, run_stays}
use Rattle.o2_ends.proofs.drops.release_held.Goals as goal

pub returns-then-index-lt-SHARED : goal.returns-then-index-lt-SHARED
returns-then-index-lt-SHARED c = own_stays c.args.regions.now c.args.pid c.args.index c.args.held c.if-index-lt-SHARED.true

pub returns-then-held-eq0 : goal.returns-then-held-eq0
returns-then-held-eq0 c = alone_goes c.args.regions.now c.release_shared.new.regions c.args.pid c.args.index c.args.held c.if-index-lt-SHARED.false c.if-held-eq0.true c.release_shared.ensures

pub returns-then-is_last_member : goal.returns-then-is_last_member
returns-then-is_last_member c =
    run_goes c.args.regions.now c.release_stretch.new.regions c.args.pid c.args.index c.args.held c.if-index-lt-SHARED.false c.if-held-eq0.false (sym c.if-is_last_member.ensures) c.release_stretch.ensures

pub returns-else-is_last_member : goal.returns-else-is_last_member
returns-else-is_last_member c = run_stays c.args.regions.now c.args.pid c.args.index c.args.held c.if-index-lt-SHARED.false c.if-held-eq0.false (sym c.if-is_last_member.ensures)
