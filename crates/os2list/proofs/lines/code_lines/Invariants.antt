use Rattle.std.proofs.Common.{◌≤◌, ◌-◌, length}
use Rattle.os2list.specs.Listing.{Shows}
use Rattle.os2list.proofs.lines.code_lines.Given as goal

abbrev pub invariant-listing : goal.invariant-listing
invariant-listing l = Shows l.bytes 0 l.lines.items l.next × (l.next ≤ length l.bytes)

abbrev pub decreases-listing : goal.decreases-listing
decreases-listing l = length l.bytes - l.next
