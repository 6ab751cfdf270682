use Rattle.std.proofs.Common.{◌≡◌, List, ℕ, map, sym, subst}
use Rattle.o2_conf.specs.Environments.{environment_bytes}
use Rattle.o2_dynlink.specs.Outcome.{AllFit, IsConsistent}
use Rattle.o2_dynlink.proofs.Consistent.{bases_are, consistent, fitting_belong, outcome_is}
use Rattle.o2_dynlink.proofs.checks.assemble.Goals as goal

pub new-images-requires : goal.new-images-requires
new-images-requires c = rw c.in_ok-pairs_of.ensures (fitting_belong c.args.modules.items c.args.targets.items c.requires.fitting)

pub new-requires-clause-consistent : goal.new-requires-clause-consistent
new-requires-clause-consistent c =
    let environments : c.in_ok-environments.environments.items ≡ map environment_bytes c.args.conf.now.process = rw c.as_slice-3.ensures at c.in_ok-environments.ensures in
    let libraries = rw (c.as_slice.ensures.value, c.as_slice-2.ensures.value) at c.in_ok-libraries.ensures in
    let is = outcome_is c.args.modules.items c.args.conf.now c.args.targets.items c.args.programs.items c.new-images.result c.in_ok-pairs_of.field-0.items
    c.in_ok-environments.environments.items _ c.new-images.ensures c.in_ok-pairs_of.ensures environments libraries in
    subst IsConsistent (sym is)
    (consistent c.args.modules.items c.args.conf.now c.args.targets.items c.args.programs.items c.requires.few c.requires.fitting
    (subst (λ (bs : List ℕ). AllFit c.args.modules.items bs) c.requires.bases c.requires.fit) c.requires.count c.requires.exist)

pub new-requires-clause-bases : goal.new-requires-clause-bases
new-requires-clause-bases c = bases_are c.args.modules.items c.args.targets.items _ _ _ _ c.new-images.ensures c.in_ok-pairs_of.ensures c.requires.fitting c.requires.bases
