use Rattle.std.proofs.Common.{ℕ, sym, subst}
use Rattle.o2_subseg.specs.Plans.{Plans}
use Rattle.o2_gate.specs.Given.{word_in}
use Rattle.o2_gate.specs.Heaps.{ruling_by}
use Rattle.o2_gate.proofs.heap.plan_for.Goals as goal

pub returns-in-20 : goal.returns-in-20
returns-in-20 c = subst (λ (k : ℕ). Plans c.plan_set.result (ruling_by k (word_in c.args.words.now) c.args.bytes.now) c.args.bytes.now) (sym c.in-20.is) c.plan_set.ensures

pub returns-in-21 : goal.returns-in-21
returns-in-21 c = subst (λ (k : ℕ). Plans c.plan_alloc.result (ruling_by k (word_in c.args.words.now) c.args.bytes.now) c.args.bytes.now) (sym c.in-21.is) c.plan_alloc.ensures

pub returns-in-22 : goal.returns-in-22
returns-in-22 c = subst (λ (k : ℕ). Plans c.plan_free.result (ruling_by k (word_in c.args.words.now) c.args.bytes.now) c.args.bytes.now) (sym c.in-22.is) c.plan_free.ensures
