use Rattle.std.proofs.Common.{◌∙◌, arith}
use Rattle.o2_calls.proofs.NotedMaps.{grown_outside, grown_shared}
use Rattle.o2_calls.proofs.noting.note_grown.Goals as goal

pub returns-then-end-gt8192 : goal.returns-then-end-gt8192
returns-then-end-gt8192 c = c.requires.none ∙ grown_outside c.args.regions.now c.args.pid c.args.first c.args.there c.args.wanted c.args.holds c.requires.more (omega arith)

pub returns-else-first-lt-SHARED : goal.returns-else-first-lt-SHARED
returns-else-first-lt-SHARED c = c.note_shares.ensures ∙ grown_shared c.args.regions.now c.args.pid c.args.first c.args.there c.args.wanted c.args.holds (omega arith) c.requires.more (omega arith)
