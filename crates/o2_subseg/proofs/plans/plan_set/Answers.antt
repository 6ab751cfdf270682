use Rattle.std.proofs.Common.{◌≤◌, length, arith, rules}
use Rattle.std.proofs.lemmas.Bool.Decides.{nat_tests}
use Rattle.std.proofs.lemmas.Grind.{common_steps}
use Rattle.o2_subseg.proofs.Planned.{plan_fresh, plan_grown, plan_outside, refused_plan, set_flags}
use Rattle.o2_subseg.proofs.plans.plan_set.Goals as goal
use Rattle.o2_subseg.proofs.plans.plan_set.Goals.{then-area-lt-LEAST_SIZE-via-then-area-lt-LEAST_SIZE, then-area-lt-LEAST_SIZE-via-else-area-lt-LEAST_SIZE+then-area-bytes}

pub returns-then-flags-gt1 : goal.returns-then-flags-gt1
returns-then-flags-gt1 c =
    refused_plan _ _ _ 314 c.refused.ensures.error c.refused.ensures.value c.refused.ensures.count
    (set_flags c.args.bytes.now c.args.flags c.args.size (omega arith))

pub returns-then-area-lt-LEAST_SIZE : goal.returns-then-area-lt-LEAST_SIZE
returns-then-area-lt-LEAST_SIZE c =
    plan_outside _ c.args.bytes.now c.args.flags c.args.size c.area-area.result c.area-area.ensures.is (omega arith)
    (λ a b. elim c.then-area-lt-LEAST_SIZE.branch [
      | then-area-lt-LEAST_SIZE-via-then-area-lt-LEAST_SIZE w ↦ absurd (omega (arith, a))
      | then-area-lt-LEAST_SIZE-via-else-area-lt-LEAST_SIZE+then-area-bytes w ↦ absurd (omega (arith, b))
    ])
    (search rules) (search rules) (search rules)

pub returns-then-flags-eq1 : goal.returns-then-flags-eq1
returns-then-flags-eq1 c =
    let low : 12 ≤ c.area-area.result = first_of (search rules, grind (arith, common_steps), grind (arith, nat_tests)) in
    let fits : c.area-area.result ≤ length c.args.bytes.now = first_of (search rules, grind (arith, common_steps), grind (arith, nat_tests)) in
    plan_fresh _ c.args.bytes.now c.args.flags c.args.size c.area-area.result c.area-area.ensures.is (omega arith) low fits
    c.fresh.ensures.error c.fresh.ensures.value c.fresh.ensures.count c.fresh.ensures.words

pub returns-else-flags-eq1 : goal.returns-else-flags-eq1
returns-else-flags-eq1 c =
    let low : 12 ≤ c.area-area.result = first_of (search rules, grind (arith, common_steps), grind (arith, nat_tests)) in
    let fits : c.area-area.result ≤ length c.args.bytes.now = first_of (search rules, grind (arith, common_steps), grind (arith, nat_tests)) in
    plan_grown _ c.args.bytes.now c.args.flags c.args.size c.area-area.result c.area-area.ensures.is (omega arith) c.if-flags-eq1.false low fits c.grow.ensures
