use Rattle.std.proofs.Common.{◌-◌, ◌∙◌, ap, refl, subst}
use Rattle.o2_regions.specs.Maps.{Maps}
use Rattle.o2_regions.specs.Described.{Describes as Tells}
use Rattle.o2_regions.proofs.AfterCalls.{granted-reserved}
use Rattle.o2_store.specs.Shelf.{base_of, entry, entry_of, place_of}
use Rattle.o2_changes.specs.Holding.{Grants}
use Rattle.o2_changes.specs.Order.{IsInOrder}
use Rattle.o2_changes.proofs.Freeing.{still_taken}
use Rattle.o2_changes.proofs.Granting.{grants, in_order}
use Rattle.o2_changes.proofs.Matching.{holds_match}
use Rattle.o2_changes.proofs.Guarding.{granted_guards}
use Rattle.o2_changes.proofs.holding.hold_more.Goals as goal

pub returns-clause-grants : goal.returns-clause-grants
returns-clause-grants c =
    let s = c.args.store.now in
    let m = c.args.regions.now in
    let n = c.settle_one.new.regions in
    let h = c.args.held in
    let b = base_of (entry_of s h.id) (place_of s h.id.key) in
    grants s m c.args.pid c.args.index c.args.access h c.law-2.ensures c.requires.process c.requires.index c.requires.some c.requires.same c.requires.order n b ((entry s h.id.key).size - 1)
    (subst (λ (x : Maps). Tells x n h.id b ((entry s h.id.key).size - 1)) c.grant.ensures.granted (c.settle_one.ensures b refl))

pub returns-clause-order : goal.returns-clause-order
returns-clause-order c =
    let s = c.args.store.now in
    let m = c.args.regions.now in
    let n = c.settle_one.new.regions in
    let h = c.args.held in
    let b = base_of (entry_of s h.id) (place_of s h.id.key) in
    in_order s m c.args.pid c.args.index c.args.access h c.law-2.ensures c.requires.process c.requires.index c.requires.some c.requires.same c.requires.order c.law.ensures.shelf c.requires.live n b
    (subst (λ (x : Maps). Tells x n h.id b ((entry s h.id.key).size - 1)) c.grant.ensures.granted (c.settle_one.ensures b refl)) refl

pub returns-clause-matches : goal.returns-clause-matches
returns-clause-matches c =
    let s = c.args.store.now in
    let m = c.args.regions.now in
    let n = c.settle_one.new.regions in
    let h = c.args.held in
    let b = base_of (entry_of s h.id) (place_of s h.id.key) in
    let t = subst (λ (x : Maps). Tells x n h.id b ((entry s h.id.key).size - 1)) c.grant.ensures.granted (c.settle_one.ensures b refl) in
    let g : Grants m n c.args.pid c.args.index h c.args.access =
    grants s m c.args.pid c.args.index c.args.access h c.law-2.ensures c.requires.process c.requires.index c.requires.some c.requires.same c.requires.order n b ((entry s h.id.key).size - 1) t in
    let o : IsInOrder s n =
    in_order s m c.args.pid c.args.index c.args.access h c.law-2.ensures c.requires.process c.requires.index c.requires.some c.requires.same c.requires.order c.law.ensures.shelf c.requires.live n b t refl in
    record {
      world = holds_match s m n c.args.pid c.args.index c.args.access h g c.requires.some c.requires.same c.law-2.ensures c.law-3.ensures c.requires.process
          (still_taken m n c.args.pid c.args.index c.law-2.ensures c.law-3.ensures c.requires.reserved (ap (λ (x : Maps). x.reserved) t.rest ∙ granted-reserved m c.args.pid c.args.index c.args.access h)) o;
    }

pub returns-clause-guards : goal.returns-clause-guards
returns-clause-guards c = λ guard was.
    (let s = c.args.store.now in
    let m = c.args.regions.now in
    let n = c.settle_one.new.regions in
    let h = c.args.held in
    let b = base_of (entry_of s h.id) (place_of s h.id.key) in
    let g : Grants m n c.args.pid c.args.index h c.args.access =
    grants s m c.args.pid c.args.index c.args.access h c.law-2.ensures c.requires.process c.requires.index c.requires.some c.requires.same c.requires.order n b ((entry s h.id.key).size - 1)
    (subst (λ (x : Maps). Tells x n h.id b ((entry s h.id.key).size - 1)) c.grant.ensures.granted (c.settle_one.ensures b refl)) in
    granted_guards s m n c.args.pid c.args.index c.args.access h g c.requires.same guard was)
