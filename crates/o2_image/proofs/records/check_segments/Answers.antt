use Rattle.std.proofs.Common.{◌≡◌, false, length, replicate, ◌∙◌, rules}
use Rattle.o2_image.proofs.KnownSteps.{none_known}
use Rattle.o2_image.proofs.records.check_segments.Goals as goal

pub check_all-requires-clause-known : goal.check_all-requires-clause-known
check_all-requires-clause-known c =
    let none : c.in_ok-known.known.items ≡ replicate (length c.args.scope.now.file.now) false = search rules in
    none_known _ _ _ _ _ (c.as_mut_slice.ensures.value ∙ none)
