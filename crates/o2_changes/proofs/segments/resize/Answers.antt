use Rattle.o2_changes.proofs.Matching.{move_matches, size_matches}
use Rattle.o2_changes.proofs.Segmenting.{resized_held, told_order}
use Rattle.o2_store.specs.Pictures.{HasPicture}
use Rattle.o2_changes.proofs.Guarding.{resized_guards_by, resized_pictures_by}
use Rattle.o2_changes.proofs.segments.resize.Goals as goal

pub settle-requires-clause-held : goal.settle-requires-clause-held
settle-requires-clause-held g c =
    resized_held c.args.store.now c.resize-answer.new.self c.args.regions.now _ _ _ _ _ _ c.resize-answer.result c.resize-answer.ensures.resized c.resize-answer.ensures.keeps c.requires.order.held

pub returns-clause-matches : goal.returns-clause-matches
returns-clause-matches g c = λ here. record {
  world = size_matches c.args.store.now c.resize-answer.new.self c.args.regions.now c.settle.new.regions c.args.images.now _ _ _ c.args.id c.args.size c.requires.live (c.resize-answer.ensures.resized here) c.settle.ensures.maps c.resize-answer.ensures.clean
      (told_order c.resize-answer.new.self c.args.regions.now c.settle.new.regions
      (resized_held c.args.store.now c.resize-answer.new.self c.args.regions.now _ _ _ _ _ _ c.resize-answer.result c.resize-answer.ensures.resized c.resize-answer.ensures.keeps c.requires.order.held)
      c.requires.order.tables c.settle.ensures.settled c.settle.ensures.maps) c.resize-answer.ensures.map;
}

pub returns-clause-stays : goal.returns-clause-stays
returns-clause-stays g c = λ other. record {
  world = move_matches c.args.store.now c.resize-answer.new.self c.args.regions.now c.settle.new.regions c.args.images.now _ _ _ (c.resize-answer.ensures.keeps other) c.settle.ensures.maps c.resize-answer.ensures.clean
      (told_order c.resize-answer.new.self c.args.regions.now c.settle.new.regions
      (resized_held c.args.store.now c.resize-answer.new.self c.args.regions.now _ _ _ _ _ _ c.resize-answer.result c.resize-answer.ensures.resized c.resize-answer.ensures.keeps c.requires.order.held)
      c.requires.order.tables c.settle.ensures.settled c.settle.ensures.maps) c.resize-answer.ensures.map;
}

pub returns-clause-goes_on : goal.returns-clause-goes_on
returns-clause-goes_on g c =
    let s = c.args.store.now in
    let t = c.resize-answer.new.self in
    let m = c.args.regions.now in
    let n = c.settle.new.regions in
    let e = c.resize-answer.ensures in
    record {
      order = told_order t m n (resized_held s t m _ _ _ _ _ _ c.resize-answer.result e.resized e.keeps c.requires.order.held) c.requires.order.tables c.settle.ensures.settled c.settle.ensures.maps;
      guards = resized_guards_by s t _ c.args.images.now _ _ _ _ c.resize-answer.result e.resized e.keeps m n c.settle.ensures.maps;
      clean = e.clean;
      pictures = λ list. resized_pictures_by s t _ c.args.images.now _ _ _ _ c.resize-answer.result e.resized e.keeps (HasPicture list);
      map = e.map;
    }
