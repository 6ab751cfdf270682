use Rattle.std.proofs.Common.{◌≡◌, ◌<◌, true, ap, ◌∙◌}
use Rattle.o2_conf.specs.Dispatch.{Dispatch}
use Rattle.o2_sched.specs.Places.{place_dispatch}
use Rattle.o2_sched.specs.Schedule.{Schedule, has_word}
use Rattle.o2_sched.proofs.Work.{positive}
use Rattle.o2_sched.proofs.sched.Sched.take_word.Goals as goal

pub returns : goal.returns
returns c =
    let s : Schedule = record { dispatch = place_dispatch c.self.inside.script.items c.self.inside.place c.self.inside.budget; flags = c.self.inside.flags.items; quantum = c.self.inside.quantum } in
    let word : has_word s ≡ true = rw (← c.self.view_is) at c.requires in
    let next = rw c.deref.ensures.value at (rw c.deref-2.ensures.value at (c.to_discard-words.ensures.next c.self.inside.budget)) in
    let some : 0 < c.to_discard-words.result = positive c.to_discard-words.result (next ∙ word) in
    let taken = rw c.deref.ensures.value at (rw c.deref-2.ensures.value at (c.to_discard-words.ensures.taken some c.self.inside.budget)) in
    rw (← c.self.view_is) (ap (λ (d : Dispatch). record s { dispatch = d }) taken)
