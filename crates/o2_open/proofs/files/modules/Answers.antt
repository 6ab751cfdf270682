use Rattle.std.proofs.Common.{◌≡◌, ◌∙◌, ◌+◌, ◌++◌, ◌∷◌, [], ℕ, List, arith, ap, length, length-append, subst}
use Rattle.std.specs.Prelude.{Ok}
use Rattle.o2_open.specs.Loads.{module_in}
use Rattle.o2_open.proofs.Asking.{asked_more}
use Rattle.o2_open.proofs.Stepping.{one_more}
use Rattle.o2_open.proofs.files.modules.Goals as goal

pub loop-name-preserved : goal.loop-name-preserved
loop-name-preserved g c = record {
  earlier = λ contents h. c.loop-name.invariant.earlier contents (c.in_ok-one.ensures.earlier contents h);
  count = omega (arith, c.loop-name.invariant.count, c.in_ok-one.ensures.count);
  so_far = λ contents h. one_more contents c.args.names.now c.loop-name.name-index c.name-item.result c.in_ok-one.one
      c.loop-name.modules.items c.add.new.modules.items _ c.loop-name-test.true
      (subst (λ (z : List ℕ). module_in contents z ≡ Ok c.in_ok-one.one) c.name-item.is (c.in_ok-one.ensures.exact contents h))
      c.in_ok-add.ensures.added (c.loop-name.invariant.so_far contents (c.in_ok-one.ensures.earlier contents h));
  asked = asked_more c.args.names.now _ _ _ c.loop-name.name-index c.name-item.result c.loop-name-test.true c.loop-name.invariant.asked
      (c.in_ok-one.ensures.asks ∙ ap (λ (z : List ℕ). g.F.Files.asked c.loop-name.files ++ z ∷ []) c.name-item.is);
  many = ap length c.in_ok-add.ensures.added ∙ length-append c.loop-name.modules.items _ ∙ ap (λ n. n + 1) c.loop-name.invariant.many;
}

pub returns-in_err-one-clause-asks : goal.returns-in_err-one-clause-asks
returns-in_err-one-clause-asks g c = record {
  count = c.loop-name.name-index + 1;
  asked = asked_more c.args.names.now _ _ _ c.loop-name.name-index c.name-item.result c.loop-name-test.true c.loop-name.invariant.asked
      (c.in_err-one.ensures.asks ∙ ap (λ (z : List ℕ). g.F.Files.asked c.loop-name.files ++ z ∷ []) c.name-item.is);
}

pub returns-in_err-add-clause-asks : goal.returns-in_err-add-clause-asks
returns-in_err-add-clause-asks g c = record {
  count = c.loop-name.name-index + 1;
  asked = asked_more c.args.names.now _ _ _ c.loop-name.name-index c.name-item.result c.loop-name-test.true c.loop-name.invariant.asked
      (c.in_ok-one.ensures.asks ∙ ap (λ (z : List ℕ). g.F.Files.asked c.loop-name.files ++ z ∷ []) c.name-item.is);
}

pub returns-clause-asks : goal.returns-clause-asks
returns-clause-asks g c = record { count = c.loop-name.name-index; asked = c.loop-name.invariant.asked }
