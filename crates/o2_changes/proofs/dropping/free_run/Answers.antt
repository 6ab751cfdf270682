use Rattle.std.proofs.Common.{◌≡◌, ℕ, ◌∙◌, ap, arith, refl, subst, sym}
use Rattle.o2_regions.specs.Maps.{Maps}
use Rattle.o2_changes.proofs.FreeingRuns.{FreesBelow, below_more, below_none, below_run, held_run, no_run}
use Rattle.o2_changes.proofs.dropping.free_run.Goals as goal

pub returns-then-end-first-clause-frees : goal.returns-then-end-first-clause-frees
returns-then-end-first-clause-frees c = no_run c.args.regions.now c.args.pid c.args.first c.args.end c.if-end-first.true

pub returns-then-is_index_held-clause-frees : goal.returns-then-is_index_held-clause-frees
returns-then-is_index_held-clause-frees c = held_run c.args.regions.now c.args.pid c.args.first c.args.end (sym c.if-is_index_held.ensures)

pub loop-index-init : goal.loop-index-init
loop-index-init c = record {
  frees = below_none c.args.regions.now c.args.pid c.args.first c.args.first (omega arith);
  tables = refl;
  order = c.requires.order;
}

pub loop-index-preserved : goal.loop-index-preserved
loop-index-preserved c =
    let l = c.args.regions.now in
    let m = c.loop-index.regions in
    let n = c.free_index.new.regions in
    let i = c.loop-index.invariant in
    record {
      frees = below_more l m n c.args.pid c.args.first c.loop-index.index c.loop-index.auto.index i.tables c.free_index.ensures.tables i.frees c.free_index.ensures.frees;
      tables = c.free_index.ensures.tables ∙ ap (λ (x : Maps). record x { reserved = n.reserved }) i.tables;
      order = c.free_index.ensures.order;
    }

pub returns-clause-frees : goal.returns-clause-frees
returns-clause-frees c =
    let l = c.args.regions.now in
    let n = c.loop-index.regions in
    let i = c.loop-index.invariant in
    let last : c.loop-index.index ≡ c.args.end = omega arith in
    below_run l n c.args.pid c.args.first c.args.end i.tables (sym c.if-is_index_held.ensures) (subst (λ (k : ℕ). FreesBelow l n c.args.pid c.args.first k) last i.frees)
