use Rattle.std.proofs.Common.{◌≡◌, ap, refl, sym, ◌∙◌, arith, Bool, List}
use Rattle.o2_conf.specs.Dispatch.{lives}
use Rattle.o2_regions.specs.Lives.{lives as is_marked}
use Rattle.o2_sched.specs.Schedule.{Schedule, behind_pick, work_left}
use Rattle.o2_sched.specs.declared.sched.Pick.TheVariants.{Discard}
use Rattle.o2_sched.proofs.Work.{word_less}
use Rattle.o2_segs.proofs.Sharing.{few_more}
use Rattle.o2_machine.proofs.Turns.{some_word, word_comes}
use Rattle.o2_machine.proofs.Wordings.{stands_behind, together_here}
use Rattle.o2_machine.proofs.machine.Machine.discard.Goals as goal

pub discard_all-requires : goal.discard_all-requires
discard_all-requires c = record { together = together_here c.args.self.now.space c.requires.device.blocks c.requires.device.over.together }

pub returns-clause-stands : goal.returns-clause-stands
returns-clause-stands c = λ device block s w stands.
    let m = c.args.self.now in
    let word = word_comes m.sched c.requires.pick in
    let e = c.discard_all.ensures in (
      some_word m device block s w stands word.0 word.1.0 word.1.1,
      stands_behind m _ device block s w stands (e.stands device block w stands.space) (e.spells w stands.spells) e.keeps
          (c.next.ensures.behind ∙ ap (behind_pick m.sched) (c.next.ensures.pick ∙ c.requires.pick)) refl refl refl,
    )

pub returns-clause-device : goal.returns-clause-device
returns-clause-device c = λ blocks goes.
    let m = c.args.self.now in
    let e = c.discard_all.ensures in
    let behind : c.next.new.self ≡ behind_pick m.sched Discard = c.next.ensures.behind ∙ ap (behind_pick m.sched) (c.next.ensures.pick ∙ c.requires.pick) in
    let budget = ap (λ (z : Schedule). z.dispatch.budget) behind in
    record {
      together = e.together blocks goes.together;
      marked = λ n. ap (λ (ends : List Bool). is_marked ends n) e.ends ∙ (goes.marked n ∙ ap (λ (z : Schedule). lives z.flags n) (sym behind));
      few = (let f = goes.few in let made = e.adds.made in omega (arith, f, budget, made));
      budget = (let f = goes.budget in omega (arith, f, budget));
      held = few_more _ _ _ (omega (arith, budget)) (e.adds.held _ goes.held);
    }

pub returns-clause-left : goal.returns-clause-left
returns-clause-left c =
    (let m = c.args.self.now in
    let behind : c.next.new.self ≡ behind_pick m.sched Discard = c.next.ensures.behind ∙ ap (behind_pick m.sched) (c.next.ensures.pick ∙ c.requires.pick) in
    let same = ap work_left behind in
    let less = word_less m.sched (word_comes m.sched c.requires.pick).1.1 in
    omega (arith, same, less))

pub returns-clause-idle : goal.returns-clause-idle
returns-clause-idle c = c.discard_all.ensures.unused
