use Rattle.o2_sched.proofs.sched.Sched.has_word.Goals as goal

pub returns : goal.returns
returns c = rw (← c.self.view_is) (rw c.deref.ensures.value at (rw c.deref-2.ensures.value at (c.to_discard.ensures.next c.self.inside.budget)))
