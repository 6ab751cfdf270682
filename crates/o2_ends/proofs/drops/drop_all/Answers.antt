use Rattle.std.proofs.Common.{◌≡◌, ◌+◌, arith, subst, sym}
use Rattle.o2_regions.specs.Maps.{Maps}
use Rattle.o2_ends.specs.Drops.{Drops}
use Rattle.o2_ends.proofs.Dropping.{all_of_it, drops_more}
use Rattle.o2_ends.proofs.drops.drop_all.Goals as goal

pub loop-hold-preserved : goal.loop-hold-preserved
loop-hold-preserved c =
    let i = c.loop-hold.invariant in
    let p = i.process in
    let d = c.drop_one.ensures in
    record {
      process = (p.0, (let a = p.1 in let b = d.processes in omega (arith, a, b)));
      drops = λ was e.
          (let h : was.holds ≡ c.args.holds = all_of_it _ was c.args.holds c.requires.all e in
          let l = c.loop-hold-test.true in
          subst (λ (m : Maps). Drops c.args.regions.now m c.args.pid c.args.index was (c.loop-hold._hold + 1)) (sym d.dropped)
          (drops_more c.args.regions.now c.loop-hold.regions c.args.pid c.args.index was c.loop-hold._hold c.law-in-loop-hold.ensures i.process c.requires.index (omega (arith, l, h)) (i.drops was e)));
    }
