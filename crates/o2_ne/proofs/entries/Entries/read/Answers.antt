use Rattle.std.proofs.Common.{refl}
use Rattle.o2_ne.proofs.EntryLaws.{entries_stand}
use Rattle.o2_ne.proofs.entries.Entries.read.Goals as goal

pub returns-clause-stand : goal.returns-clause-stand
returns-clause-stand c =
    entries_stand c.args.file.now c.args.head.now.segments _ _ _ _ refl
    (rw (c.from.ensures, c.from-2.ensures, c.new.ensures.items) at c.in_ok-bundles.ensures.exact)
