use Rattle.std.proofs.Common.{◌≡◌, ◌∙◌, ap, refl, rules, ◌*◌, ◌+◌, replicate, None}
use Rattle.o2_regions.specs.Maps.{Maps, held_at, is_reserved}
use Rattle.o2_regions.proofs.Keeps.{made_held, made_reserved}
use Rattle.o2_regions.proofs.Wholes.{AreWhole-made, all_made, is_nothing}
use Rattle.o2_regions.proofs.regions.Regions.new.Goals as goal

pub invariant_of-result : goal.invariant_of-result
invariant_of-result c =
    let n = c.args.processes in
    let e : c.in_ok-held.held.items ≡ replicate ((n + 1) * 8192) None = search rules in
    AreWhole-made n c.in_ok-held.held.items c.in_ok-reserved.reserved c.in_ok-tables.tables c.in_ok-marks.marks c.in_ok-next.next.items c.in_ok-prev.prev.items
    c.requires.some c.requires.most e c.in_ok-reserved.ensures c.in_ok-tables.ensures c.in_ok-marks.ensures
    c.in_ok-next.ensures.long c.in_ok-next.ensures.own c.in_ok-prev.ensures.long c.in_ok-prev.ensures.own

pub returns : goal.returns
returns c =
    let n = c.args.processes in
    let h : c.in_ok-held.held.items ≡ replicate ((n + 1) * 8192) None = search rules in
    let e = all_made n c.in_ok-held.held.items c.in_ok-reserved.reserved c.in_ok-tables.tables h c.in_ok-reserved.ensures c.in_ok-tables.ensures in
    record {
      nothing = e ∙ is_nothing n;
      processes = refl;
      unheld = λ q j. ap (λ (m : Maps). held_at m q j) e ∙ made_held n q j;
      unreserved = λ g j. ap (λ (m : Maps). is_reserved m g j) e ∙ made_reserved n g j;
    }
