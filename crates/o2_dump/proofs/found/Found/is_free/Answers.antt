use Rattle.std.proofs.Common.{◌≡◌, ℕ, ◌+◌, sym, subst, rules, None}
use Rattle.o2_dump.specs.SegmentEntries.{rounded}
use Rattle.o2_dump.specs.FoundIndex.{IsLastBelow}
use Rattle.o2_dump.proofs.Ranges.{free_as, free_alone}
use Rattle.o2_dump.proofs.found.Found.is_free.Goals as goal

pub returns-in-Some : goal.returns-in-Some
returns-in-Some c =
    let same : c.from-in-Some.result ≡ c.args.base = search rules in
    let top : c.from.result + c.rounded.result ≡ c.args.base + rounded c.args.size = search rules in
    rw (← c.self.view_is, same) (free_as _ c.self.inside.ranges c.args.base c.args.size c.in-Some.end _ c.self.invariant.by_base top c.in-Some.ensures)

pub returns-in-None : goal.returns-in-None
returns-in-None c =
    let top : c.from.result + c.rounded.result ≡ c.args.base + rounded c.args.size = search rules in
    rw (← c.self.view_is) (sym (free_alone _ c.self.inside.ranges c.args.base c.args.size c.self.invariant.by_base (subst (λ (t : ℕ). IsLastBelow c.self.inside.ranges t None) top c.in-None.ensures)))
