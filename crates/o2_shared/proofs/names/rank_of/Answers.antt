use Rattle.std.proofs.Common.{◌≡◌, Some, None}
use Rattle.std.proofs.lemmas.List.{get_or_default}
use Rattle.o2_shared.specs.NameOrder.{name_at}
use Rattle.o2_shared.proofs.Ordered.{rank_nowhere, rank_there}
use Rattle.o2_shared.proofs.names.rank_of.Goals as goal

pub returns-in-Ok-clause-some : goal.returns-in-Ok-clause-some
returns-in-Ok-clause-some c =
    let d = get_or_default c.args.names.now c.args.place c.index-names-place.result None c.requires.within in
    let e : name_at c.args.names.now c.args.place ≡ Some c.in-Some.name = cc in
    (c.in-Ok.ensures.within, rank_there c.args.names.now c.args.order.now c.requires.ordered c.args.place c.in-Ok.at c.in-Some.name e c.in-Ok.ensures)

pub returns-in-Err-clause-none : goal.returns-in-Err-clause-none
returns-in-Err-clause-none c =
    let d = get_or_default c.args.names.now c.args.place c.index-names-place.result None c.requires.within in
    let e : name_at c.args.names.now c.args.place ≡ Some c.in-Some.name = cc in
    absurd (rank_nowhere c.args.names.now c.args.order.now c.requires.ordered c.args.place c.in-Err.field-0 c.in-Some.name e c.in-Err.ensures)
