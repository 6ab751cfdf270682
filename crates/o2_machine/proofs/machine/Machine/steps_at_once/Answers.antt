use Rattle.std.proofs.Common.{◌≤◌, ap, sym, ◌∙◌, refl, subst, arith, Bool, List}
use Rattle.o2_conf.proofs.Choice.{lives_within}
use Rattle.o2_conf.specs.Dispatch.{lives}
use Rattle.o2_regions.specs.Lives.{lives as is_marked}
use Rattle.o2_sched.specs.Schedule.{Schedule, next_of, work_left}
use Rattle.o2_sched.proofs.Work.{taken_less}
use Rattle.o2_segs.proofs.Sharing.{few_more}
use Rattle.o2_space.proofs.Framing.{set_kept}
use Rattle.o2_store.specs.Idle.{NoneTaken}
use Rattle.o2_swapmap.specs.Piles.{Blocks}
use Rattle.o2_machine.proofs.Marks.{some_number}
use Rattle.o2_machine.proofs.Slicing.{budget_left, chosen_is, is_ahead, none_coming, none_done, runs_on, some_steps, turn_left}
use Rattle.o2_machine.proofs.machine.Machine.steps_at_once.Goals as goal

pub slice_of-done-requires-clause-some : goal.slice_of-done-requires-clause-some
slice_of-done-requires-clause-some c =
    let ahead = is_ahead c.args.self.now.sched c.args.most c.requires.most c.requires.some in
    subst (λ n. 1 ≤ n) (sym c.requires.process) (some_number c.args.self.now.sched.flags (next_of c.args.self.now.sched).current ahead.live)

pub slice_of-done-requires-clause-there : goal.slice_of-done-requires-clause-there
slice_of-done-requires-clause-there c =
    (let ahead = is_ahead c.args.self.now.sched c.args.most c.requires.most c.requires.some in
    let within = (lives_within c.args.self.now.sched.flags (next_of c.args.self.now.sched).current ahead.live).1 in
    let same = c.args.self.now.same in
    let is = c.requires.process in
    omega (arith, within, same, is))

pub slice_of-done-requires-clause-live : goal.slice_of-done-requires-clause-live
slice_of-done-requires-clause-live c =
    let ahead = is_ahead c.args.self.now.sched c.args.most c.requires.most c.requires.some in
    ap (is_marked c.args.self.now.space.ends) c.requires.process ∙ (c.requires.device.over.marked (next_of c.args.self.now.sched).current ∙ ahead.live)

pub slice_of-done-requires-clause-together : goal.slice_of-done-requires-clause-together
slice_of-done-requires-clause-together c = record { blocks = c.requires.device.blocks; over = c.requires.device.over.together }

pub take-requires-clause-turn : goal.take-requires-clause-turn
take-requires-clause-turn c =
    (let ahead = is_ahead c.args.self.now.sched c.args.most c.requires.most c.requires.some in
    let turn = ahead.turn in
    let within = c.slice_of-done.ensures.within in
    omega (arith, turn, within))

pub take-requires-clause-budget : goal.take-requires-clause-budget
take-requires-clause-budget c =
    (let ahead = is_ahead c.args.self.now.sched c.args.most c.requires.most c.requires.some in
    let budget = ahead.budget in
    let within = c.slice_of-done.ensures.within in
    omega (arith, budget, within))

pub returns-then-done-gt0-clause-steps : goal.returns-then-done-gt0-clause-steps
returns-then-done-gt0-clause-steps c = λ device block s w stands.
    let m = c.args.self.now in
    let ahead = is_ahead m.sched c.args.most c.requires.most c.requires.some in
    let e = c.slice_of-done.ensures in
    let later = e.later device block s w stands.space stands.set (runs_on m device block s w c.args.most stands ahead c.requires.some)
    (none_coming m device block s w c.args.most stands ahead c.requires.some)
    (chosen_is m device block s w c.args.most stands ahead c.requires.some ∙ sym c.requires.process)
    (turn_left m device block s w c.args.most stands ahead c.requires.some) (budget_left m device block s w c.args.most stands ahead c.requires.some) in
    some_steps m device block s w c.args.most stands ahead c.requires.some _ c.slice_of-done.new.space c.slice_of-done.result later (set_kept m.space c.slice_of-done.new.space device device block block e.keeps refl s stands.set) e.keeps.avail e.names e.tables refl refl refl refl
    (omega (arith, c.if-done-gt0.true)) c.take.ensures.taken

pub returns-else-done-gt0-clause-steps : goal.returns-else-done-gt0-clause-steps
returns-else-done-gt0-clause-steps c = λ device block s w stands.
    let m = c.args.self.now in
    let ahead = is_ahead m.sched c.args.most c.requires.most c.requires.some in
    let e = c.slice_of-done.ensures in
    let later = e.later device block s w stands.space stands.set (runs_on m device block s w c.args.most stands ahead c.requires.some)
    (none_coming m device block s w c.args.most stands ahead c.requires.some)
    (chosen_is m device block s w c.args.most stands ahead c.requires.some ∙ sym c.requires.process)
    (turn_left m device block s w c.args.most stands ahead c.requires.some) (budget_left m device block s w c.args.most stands ahead c.requires.some) in
    none_done m device block s w c.args.most stands ahead c.requires.some _ c.slice_of-done.new.space c.slice_of-done.result later (set_kept m.space c.slice_of-done.new.space device device block block e.keeps refl s stands.set) e.keeps.avail e.names e.tables refl refl refl refl
    (omega (arith, c.if-done-gt0.false)) refl

pub returns-then-done-gt0-clause-device : goal.returns-then-done-gt0-clause-device
returns-then-done-gt0-clause-device c = λ blocks goes. record {
  together = c.slice_of-done.ensures.together blocks goes.together;
  marked = λ n.
      ap (λ (ends : List Bool). is_marked ends n) c.slice_of-done.ensures.ends
      ∙ (goes.marked n ∙ ap (λ (z : Schedule). lives z.flags n) (sym c.take.ensures.taken));
  few = (let f = goes.few in let b = c.take.ensures.left in let m = c.slice_of-done.ensures.adds.made in omega (arith, f, b, m));
  budget = (let f = goes.budget in let b = c.take.ensures.left in omega (arith, f, b));
  held = few_more _ _ _ (let b = c.take.ensures.left in omega (arith, b)) (c.slice_of-done.ensures.adds.held _ goes.held);
}

pub returns-else-done-gt0-clause-device : goal.returns-else-done-gt0-clause-device
returns-else-done-gt0-clause-device c = λ blocks goes. record {
  together = c.slice_of-done.ensures.together blocks goes.together;
  marked = λ n. ap (λ (ends : List Bool). is_marked ends n) c.slice_of-done.ensures.ends ∙ goes.marked n;
  few = (let f = goes.few in let m = c.slice_of-done.ensures.adds.made in omega (arith, f, m));
  budget = goes.budget;
  held = c.slice_of-done.ensures.adds.held _ goes.held;
}

pub returns-then-done-gt0-clause-idle : goal.returns-then-done-gt0-clause-idle
returns-then-done-gt0-clause-idle c = λ none. subst (λ (m : Blocks). NoneTaken m) (sym c.slice_of-done.ensures.blocks) none

pub returns-else-done-gt0-clause-idle : goal.returns-else-done-gt0-clause-idle
returns-else-done-gt0-clause-idle c = λ none. subst (λ (m : Blocks). NoneTaken m) (sym c.slice_of-done.ensures.blocks) none

pub returns-then-done-gt0-clause-left : goal.returns-then-done-gt0-clause-left
returns-then-done-gt0-clause-left c =
    (let ahead = is_ahead c.args.self.now.sched c.args.most c.requires.most c.requires.some in
    let budget = ahead.budget in
    let within = c.slice_of-done.ensures.within in
    let same = ap work_left c.take.ensures.taken in
    let less = taken_less c.args.self.now.sched c.slice_of-done.result (omega (arith, budget, within)) in
    omega (arith, same, less))

pub returns-else-done-gt0-clause-left : goal.returns-else-done-gt0-clause-left
returns-else-done-gt0-clause-left c = (let none = c.if-done-gt0.false in omega (arith, none))
