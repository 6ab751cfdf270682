use Rattle.std.proofs.Common.{refl}
use Rattle.o2_changes.specs.Holding.{Remains}
use Rattle.o2_changes.proofs.Freeing.{swept_order}
use Rattle.o2_store.specs.Pictures.{HasPicture}
use Rattle.o2_changes.proofs.DropsStand.{removed_clean, removed_pictures}
use Rattle.o2_changes.proofs.Guarding.{removed_guards}
use Rattle.o2_changes.proofs.KeepingHolds.{removed_places}
use Rattle.o2_changes.proofs.Framing.{order_refl}
use Rattle.o2_changes.proofs.dropping.sweep.Goals as goal

pub returns-else-is_unheld-clause-sweeps : goal.returns-else-is_unheld-clause-sweeps
returns-else-is_unheld-clause-sweeps c = (let x = c.if-is_unheld.ensures.some refl in Remains x.0 x.1.0 x.1.1 refl)

pub returns-then-is_unheld-clause-places : goal.returns-then-is_unheld-clause-places
returns-then-is_unheld-clause-places c = removed_places c.args.store.now c.remove.new.self c.args.id c.requires.live (c.remove.ensures.removed (c.remove.ensures.live.1 c.requires.live))

pub returns-else-is_unheld-clause-places : goal.returns-else-is_unheld-clause-places
returns-else-is_unheld-clause-places c = λ k some. refl

pub returns-then-is_unheld-clause-goes_on : goal.returns-then-is_unheld-clause-goes_on
returns-then-is_unheld-clause-goes_on c =
    let s = c.args.store.now in
    let t = c.remove.new.self in
    let m = c.args.regions.now in
    let id = c.args.id in
    let removed = c.remove.ensures.removed (c.remove.ensures.live.1 c.requires.live) in
    let nobody = c.if-is_unheld.ensures.none refl in
    record {
      order = swept_order s t m id c.requires.live nobody removed c.requires.order;
      guards = removed_guards s t m id c.requires.live nobody removed c.requires.order;
      clean = λ pic was. removed_clean s t id.key pic c.law.ensures.shelf removed was;
      pictures = λ images was. removed_pictures s t id.key (HasPicture images) removed was;
      map = c.remove.ensures.map;
      unused = c.remove.ensures.unused;
    }

pub returns-else-is_unheld-clause-goes_on : goal.returns-else-is_unheld-clause-goes_on
returns-else-is_unheld-clause-goes_on c = order_refl c.args.store.now c.args.regions.now c.requires.order
