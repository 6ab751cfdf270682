use Rattle.std.proofs.Common.{arith, ◌≡◌, Bool, true, ap, ◌∙◌}
use Rattle.std.specs.List.{list_any}
use Rattle.o2_conf.specs.Dispatch.{Dispatch, lives}
use Rattle.o2_sched.specs.Places.{place_dispatch}
use Rattle.o2_conf.proofs.Choice.{chosen_lives}
use Rattle.o2_sched.proofs.sched.Sched.coming.Goals as goal

pub returns-clause-live : goal.returns-clause-live
returns-clause-live c =
    let flags = c.self.inside.flags.items in
    let any : list_any (λ (b : Bool). b) flags ≡ true = grind (arith, c.self.invariant.any) in
    let chosen = rw c.deref-2.ensures.value at (c.advanced-place.ensures.dispatch 0) in
    rw (← c.self.view_is) (ap (λ (d : Dispatch). lives flags d.current) chosen ∙ chosen_lives c.self.inside.quantum flags (place_dispatch c.deref.result.now c.self.inside.place 0) any)
