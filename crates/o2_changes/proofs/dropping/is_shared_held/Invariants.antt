use Rattle.std.proofs.Common.{◌≡◌, false}
use Rattle.o2_regions.specs.Maps.{some_holds}
use Rattle.o2_changes.proofs.dropping.is_shared_held.Given as goal

-- no process before holds it
abbrev pub invariant-loop-before : goal.invariant-loop-before
invariant-loop-before l = some_holds l.regions l.index l.before ≡ false
