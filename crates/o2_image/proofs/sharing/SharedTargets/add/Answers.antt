use Rattle.std.proofs.Common.{◌≡◌, length, rules}
use Rattle.o2_image.proofs.PartLists.{added}
use Rattle.o2_image.proofs.sharing.SharedTargets.add.Goals as goal

pub returns : goal.returns
returns c =
    let from : c.len.result ≡ length c.self.inside.targets.items = search rules in
    let count : c.len-2.result ≡ length c.args.targets.items = search rules in
    rw (← c.self.view_is)
    (added c.self.inside.targets.items c.args.targets.items _ c.self.inside.parts.items _ (record { from = c.len.result; count = c.len-2.result }) c.self.invariant
    c.in_ok-append.ensures.items c.in_ok-push.ensures.items from count)
