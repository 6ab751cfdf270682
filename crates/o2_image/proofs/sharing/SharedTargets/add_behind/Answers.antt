use Rattle.std.proofs.Common.{◌≡◌, ◌+◌, ◌-◌, ◌<◌, ◌≤◌, get_or, length, arith, rules}
use Rattle.std.proofs.lemmas.List.{length-map}
use Rattle.o2_image.specs.Alike.{part_of}
use Rattle.o2_image.proofs.PartLists.{added_behind}
use Rattle.o2_image.proofs.sharing.SharedTargets.add_behind.Goals as goal

pub returns : goal.returns
returns c =
    let p = c.index-part.result.now in
    let many = length-map c.self.inside.parts.items (part_of c.self.inside.targets.items) in
    let there = rw (← c.self.view_is) at c.requires.earlier in
    let low : c.args.earlier < length c.self.inside.parts.items = omega (arith, many, there) in
    let is : p ≡ get_or c.self.inside.parts.items c.args.earlier p = search rules in
    let end : p.from + p.count ≡ length c.self.inside.targets.items = search rules in
    let le : c.args.skip ≤ p.count = omega (arith, c.if-part-skip.false, c.from-skip.ensures) in
    let count : p.count - c.from-skip.result + c.len-2.result ≡ p.count - c.args.skip + length c.args.targets.items = search rules in
    rw (← c.self.view_is)
    (added_behind c.self.inside.targets.items c.args.targets.items _ c.self.inside.parts.items _ c.args.earlier c.args.skip p (record { from = p.from + c.from-skip.result; count = p.count - c.from-skip.result + c.len-2.result }) c.self.invariant
    low is end le (omega (arith, c.from-skip.ensures)) count c.in_ok-append.ensures.items c.in_ok-push.ensures.items)
