use Rattle.std.proofs.Common.{ap, ◌∙◌, true}
use Rattle.o2_regions.specs.declared.held.Region.{Region}
use Rattle.o2_regions.specs.Maps.{with_reserved}
use Rattle.o2_changes.specs.Holding.{TakesIndex}
use Rattle.o2_changes.proofs.Freeing.{grants_reserved, none_same, not_held, region_there, takes_index}
use Rattle.o2_changes.proofs.Matching.{holds_match}
use Rattle.o2_changes.proofs.Guarding.{granted_guards}
use Rattle.o2_changes.proofs.KeepingHolds.{new_holds}
use Rattle.o2_changes.proofs.holding.hold_new.Goals as goal

pub returns-clause-taken : goal.returns-clause-taken
returns-clause-taken c =
    let l = c.args.regions.now in
    takes_index l c.reserve.new.self c.hold_more.new.regions c.args.pid c.args.index c.law.ensures c.law-2.ensures (region_there l c.args.pid c.args.index c.requires.process) (c.requires.free.1)
    (c.reserve.ensures.exact ∙ ap (λ (g : Region). with_reserved l g c.args.index 1 true) c.region_of.ensures) c.hold_more.ensures.reserved

pub returns-clause-matches : goal.returns-clause-matches
returns-clause-matches c =
    let l = c.args.regions.now in
    let n = c.hold_more.new.regions in
    let t : TakesIndex l n c.args.pid c.args.index =
    takes_index l c.reserve.new.self n c.args.pid c.args.index c.law.ensures c.law-2.ensures (region_there l c.args.pid c.args.index c.requires.process) (c.requires.free.1)
    (c.reserve.ensures.exact ∙ ap (λ (g : Region). with_reserved l g c.args.index 1 true) c.region_of.ensures) c.hold_more.ensures.reserved in
    record {
      world = holds_match c.args.store.now l n c.args.pid c.args.index c.args.access c.args.held
          (grants_reserved l c.reserve.new.self n c.args.pid c.args.index c.args.held c.args.access (c.reserve.ensures.exact ∙ ap (λ (g : Region). with_reserved l g c.args.index 1 true) c.region_of.ensures) c.hold_more.ensures.grants)
          c.requires.some (none_same (not_held l c.args.pid c.args.index c.requires.process c.requires.free) c.args.held) c.law.ensures c.law-2.ensures c.requires.process t c.hold_more.ensures.order;
    }

pub returns-clause-guards : goal.returns-clause-guards
returns-clause-guards c = λ guard was.
    (let l = c.args.regions.now in
    granted_guards c.args.store.now l c.hold_more.new.regions c.args.pid c.args.index c.args.access c.args.held
    (grants_reserved l c.reserve.new.self c.hold_more.new.regions c.args.pid c.args.index c.args.held c.args.access (c.reserve.ensures.exact ∙ ap (λ (g : Region). with_reserved l g c.args.index 1 true) c.region_of.ensures) c.hold_more.ensures.grants)
    (none_same (not_held l c.args.pid c.args.index c.requires.process c.requires.free) c.args.held) guard was)

pub returns-clause-holds : goal.returns-clause-holds
returns-clause-holds c =
    let l = c.args.regions.now in
    new_holds l c.hold_more.new.regions c.args.pid c.args.index c.args.access c.args.held
    (grants_reserved l c.reserve.new.self c.hold_more.new.regions c.args.pid c.args.index c.args.held c.args.access (c.reserve.ensures.exact ∙ ap (λ (g : Region). with_reserved l g c.args.index 1 true) c.region_of.ensures) c.hold_more.ensures.grants)
    (not_held l c.args.pid c.args.index c.requires.process c.requires.free)
