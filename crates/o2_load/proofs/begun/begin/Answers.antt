use Rattle.std.proofs.Common.{◌∙◌, ap, sym, ℕ, List}
use Rattle.o2_conf.specs.declared.process.Process.{Process}
use Rattle.o2_world.specs.Starts.{all_started}
use Rattle.o2_load.specs.Loads.{starts_of}
use Rattle.o2_load.proofs.Vectored.{begun_by}
use Rattle.o2_load.proofs.begun.begin.Goals as goal

pub returns-clause-begins : goal.returns-clause-begins
returns-clause-begins c =
    let come = c.in_ok-progress.ensures.comes in (
      come.0,
      (
        ap (λ (n : ℕ). all_started n (starts_of c.args.linked.now 1 c.args.conf.now.process)) (sym c.in_ok-vectors.ensures.most)
            ∙ ap (λ (ps : List Process). all_started c.in_ok-vectors.vectors.most (starts_of c.args.linked.now 1 ps)) (sym c.as_slice.ensures) ∙ come.1.0,
        begun_by c.in_ok-progress.progress c.over_vectors.result c.args.linked.now come.0 c.in_ok-vectors.vectors.most c.over_vectors.ensures.plain c.over_vectors.ensures.cpus c.over_vectors.ensures.starts c.in_ok-progress.ensures.whole come.1.1,
      ),
    )
