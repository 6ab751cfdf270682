use Rattle.o2_service.proofs.Placing.{held_same}
use Rattle.o2_changes.proofs.Matching.{move_matches}
use Rattle.o2_changes.proofs.Segmenting.{told_order}
use Rattle.o2_store.specs.Pictures.{HasPicture}
use Rattle.o2_changes.proofs.Guarding.{moved_guards, moved_pictures}
use Rattle.o2_changes.proofs.segments.bring_in.Goals as goal

pub bring-requires-clause-held : goal.bring-requires-clause-held
bring-requires-clause-held g c = c.requires.order.held

pub bring-requires-clause-settled : goal.bring-requires-clause-settled
bring-requires-clause-settled g c = c.requires.order.settled

pub returns-clause-maps : goal.returns-clause-maps
returns-clause-maps g c = c.bring.ensures.follows.maps

pub returns-clause-matches : goal.returns-clause-matches
returns-clause-matches g c =
    let s = c.args.store.now in
    let t = c.bring.new.store in
    let m = c.args.regions.now in
    record {
      world = move_matches s t m c.bring.new.regions c.args.images.now _ _ _ c.bring.ensures.keeps c.bring.ensures.follows.maps c.bring.ensures.clean
          (told_order t m c.bring.new.regions (held_same s t m c.requires.order.held c.bring.ensures.keeps.tables) c.requires.order.tables c.bring.ensures.follows.settled c.bring.ensures.follows.maps) c.bring.ensures.map;
    }

pub returns-clause-goes_on : goal.returns-clause-goes_on
returns-clause-goes_on g c =
    let s = c.args.store.now in
    let t = c.bring.new.store in
    let m = c.args.regions.now in
    let n = c.bring.new.regions in
    let e = c.bring.ensures in
    record {
      order = told_order t m n (held_same s t m c.requires.order.held e.keeps.tables) c.requires.order.tables e.follows.settled e.follows.maps;
      guards = moved_guards s t m n e.keeps.tables e.follows.maps;
      clean = e.clean;
      pictures = λ list. moved_pictures s t (HasPicture list) e.keeps.tables;
      map = e.map;
    }
