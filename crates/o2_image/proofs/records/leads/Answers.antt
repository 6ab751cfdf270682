use Rattle.std.proofs.Common.{◌≡◌, true, refl, rules}
use Rattle.o2_image.specs.Targets.{leads}
use Rattle.o2_image.proofs.KnownSteps.{one_more}
use Rattle.o2_image.proofs.records.leads.Goals as goal

pub returns-clause-known : goal.returns-clause-known
returns-clause-known c =
    let here : leads c.args.scope.now.file.now c.args.scope.now.head.now c.args.scope.now.entries.now c.args.reloc.now ≡ true = search rules in
    one_more _ _ _ c.args.known.now _ c.args.at c.requires.known (rw c.requires.row at here) refl
