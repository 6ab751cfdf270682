use Rattle.std.proofs.Common.{◌≡◌, ◌+◌, ◌<◌, [], get_or, length, sym, ap, ◌∙◌, arith, rules}
use Rattle.std.proofs.lemmas.List.{length-map}
use Rattle.o2_image.specs.declared.sharing.Part.{Part}
use Rattle.o2_image.specs.Alike.{part_of, parts_of}
use Rattle.o2_image.proofs.PartLists.{added_within, part_length}
use Rattle.o2_image.proofs.sharing.SharedTargets.add_within.Goals as goal

pub returns : goal.returns
returns c =
    let p = c.index-part.result.now in
    let many = length-map c.self.inside.parts.items (part_of c.self.inside.targets.items) in
    let there = rw (← c.self.view_is) at c.requires.earlier in
    let low : c.args.earlier < length c.self.inside.parts.items = omega (arith, many, there) in
    let is : p ≡ get_or c.self.inside.parts.items c.args.earlier p = search rules in
    let len : length (get_or (parts_of c.self.inside.targets.items c.self.inside.parts.items) c.args.earlier []) ≡ p.count =
    part_length c.self.inside.targets.items c.self.inside.parts.items c.args.earlier p c.self.invariant low ∙ ap (λ (q : Part). q.count) (sym is) in
    let within = rw (← c.self.view_is) at c.requires.within in
    rw (← c.self.view_is)
    (added_within c.self.inside.targets.items c.self.inside.parts.items _ c.args.earlier c.args.skip c.args.count p (record { from = p.from + c.from-2.result; count = c.from-3.result })
    low is c.from-3.ensures (omega (arith, len, within, c.from-3.ensures)) (omega (arith, c.from-2.ensures)) c.in_ok-push.ensures.items)
