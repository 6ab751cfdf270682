use Rattle.std.proofs.Common.{ℕ, sym, subst}
use Rattle.o2_machine.specs.GoesOver.{GoesOver}
use Rattle.os2trace.proofs.follow.turned.Goals as goal

pub taken_turn-requires : goal.taken_turn-requires
taken_turn-requires c = record {
  going = subst (λ (n : ℕ). GoesOver c.args.machine.now.space c.args.machine.now.sched n) (sym c.empty.ensures.blocks) c.requires.going;
}
