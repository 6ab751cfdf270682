use Rattle.std.proofs.Common.{arith, ap, ◌∙◌}
use Rattle.o2_place.specs.Layout.{len_of}
use Rattle.o2_compact.proofs.Steps.{moved_away}
use Rattle.o2_compact.proofs.move_away.Goals as goal

pub returns-clause-opens : goal.returns-clause-opens
returns-clause-opens c =
    let w = c.take.ensures.was ∙ c.requires.placed in
    let u = ap len_of w in
    moved_away c.args.phys.now c.slide.new.self c.args.places.now c.take.new.self c.put.new.self c.args.old c.args.to c.args.len 0 c.slide.ensures.slid c.take.ensures.taken c.put.ensures.put
    c.requires.placed c.requires.longer (c.law.ensures.end c.args.to c.args.len c.requires.free) c.requires.memory c.law.ensures.within (λ k b n. c.law.ensures.free c.args.to c.args.len k b n c.requires.free)
    (omega (arith, c.take.ensures.used, u)) c.put.ensures.used (rw w at c.take.ensures.count) c.put.ensures.count c.take.ensures.order c.put.ensures.order
