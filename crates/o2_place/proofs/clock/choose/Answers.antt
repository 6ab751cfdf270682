use Rattle.std.proofs.Common.{inl, arith}
use Rattle.o2_place.proofs.MarkLemmas.{passed_round, chosen_passed, kept_early, kept_round, some_weaker, none_weaker}
use Rattle.o2_place.proofs.clock.choose.Goals as goal

pub returns-clause-some : goal.returns-clause-some
returns-clause-some c =
    let all = passed_round c.args.marks.now.items c.sweep.new.marks.items c.sweep-2.new.marks.items c.args.ring.now c.args.keep.now
    c.args.hand c.args.end c.in_default.ensures.none c.in_default-sweep.ensures.none c.sweep-2.ensures.unmarks
    (λ j l. c.sweep.ensures.rest j (omega (arith, c.requires.hand, c.requires.end)) (inl l)) in
    some_weaker c.first_outside-2.result (λ p s. chosen_passed c.args.marks.now.items c.sweep-2.new.marks.items c.args.ring.now
    c.args.keep.now c.args.hand c.args.end p (omega (arith, s.1, c.requires.hand)) s.2 all
    (kept_early c.args.ring.now c.args.keep.now c.args.hand c.args.end p s.1 c.in_default-first_outside.ensures.none s.3))
    c.first_outside-2.ensures.some

pub returns-clause-none : goal.returns-clause-none
returns-clause-none c = none_weaker c.first_outside-2.result (λ k. kept_round c.args.ring.now c.args.keep.now c.args.hand c.args.end c.in_default-first_outside.ensures.none k) c.first_outside-2.ensures.none
