use Rattle.std.proofs.Common.{◌≡◌, ◌+◌, rules}
use Rattle.o2_dump.specs.SegmentEntries.{rounded}
use Rattle.o2_dump.proofs.Ranges.{noted_as}
use Rattle.o2_dump.proofs.found.note_range.Goals as goal

pub returns-in_ok-insert-in-Memory : goal.returns-in_ok-insert-in-Memory
returns-in_ok-insert-in-Memory c =
    let same : c.from-base.result ≡ c.in-Memory.base = search rules in
    let top : c.from-base.result + c.rounded.result ≡ c.from-base.result + rounded c.args.entry.now.size = search rules in
    λ found are fits. noted_as found c.args.ranges.now c.insert.new.self c.args.entry.now c.in-Memory.base c.from-base.result _ c.in-Memory.is c.requires.long same top c.in_ok-insert-in-Memory.ensures.updates are fits
