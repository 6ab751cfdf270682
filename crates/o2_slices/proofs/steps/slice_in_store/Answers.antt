use Rattle.std.proofs.Common.{refl, inl}
use Rattle.o2_stepping.proofs.Here.{may_step}
use Rattle.o2_slices.proofs.steps.slice_in_store.Goals as goal

pub slice_here-requires-clause-ready : goal.slice_here-requires-clause-ready
slice_here-requires-clause-ready c =
    let r = c.requires in
    may_step c.args.store.now c.args.regions.now c.args.pid r.named r.settled c.args.cpu.now r.process (c.are_seated.ensures c.if-not-are_seated.false)

pub returns-then-not-are_seated-clause-sliced : goal.returns-then-not-are_seated-clause-sliced
returns-then-not-are_seated-clause-sliced c = record { last = _; steps = refl; behind = inl refl }
