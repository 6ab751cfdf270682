use Rattle.std.proofs.Common.{ℕ, ap, ◌∙◌, false, subst, sym}
use Rattle.o2_regions.specs.declared.held.Region.{Region}
use Rattle.o2_regions.specs.Maps.{with_reserved}
use Rattle.o2_changes.specs.Holding.{FreesIndex}
use Rattle.o2_changes.proofs.Freeing.{frees_index, held_stays, region_end, region_there, zero_stays}
use Rattle.o2_changes.proofs.dropping.free_index.Goals as goal

pub returns-then-index-eq0-clause-frees : goal.returns-then-index-eq0-clause-frees
returns-then-index-eq0-clause-frees c = subst (λ (i : ℕ). FreesIndex c.args.regions.now c.args.regions.now c.args.pid i) (sym c.if-index-eq0.true) (zero_stays c.args.regions.now c.args.pid)

pub returns-then-is_index_held-clause-frees : goal.returns-then-is_index_held-clause-frees
returns-then-is_index_held-clause-frees c = held_stays c.args.regions.now c.args.pid c.args.index (sym c.if-is_index_held.ensures)

pub returns-clause-frees : goal.returns-clause-frees
returns-clause-frees c =
    let m = c.args.regions.now in
    frees_index m c.release.new.self c.args.pid c.args.index c.law.ensures (region_there m c.args.pid c.args.index c.requires.process) (region_end c.args.pid c.args.index c.requires.index)
    (c.release.ensures ∙ ap (λ (g : Region). with_reserved m g c.args.index 1 false) c.region_of.ensures)
