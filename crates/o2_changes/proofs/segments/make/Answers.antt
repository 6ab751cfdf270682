use Rattle.std.proofs.Common.{refl, ap, subst, sym}
use Rattle.o2_store.specs.Pictures.{HasPicture}
use Rattle.o2_changes.proofs.Matching.{some_clean, some_live, some_made, some_newest, some_pictures, some_unheld}
use Rattle.o2_changes.proofs.Segmenting.{made_still}
use Rattle.o2_changes.proofs.Guarding.{some_guards, some_swap}
use Rattle.o2_swapmap.specs.Piles.{all_of}
use Rattle.o2_store.specs.Idle.{NoneTaken}
use Rattle.o2_changes.proofs.segments.make.Goals as goal

pub returns-clause-matches : goal.returns-clause-matches
returns-clause-matches c =
    some_made c.args.store.now c.add_zero.new.self c.args.regions.now c.add_zero.result c.args.size c.args.flags c.args.shared c.law.ensures.shelf c.add_zero.ensures.added
    (made_still c.args.store.now c.add_zero.new.self c.args.regions.now c.add_zero.result _ c.add_zero.ensures.none c.add_zero.ensures.added c.requires.order) c.add_zero.ensures.zeros c.add_zero.ensures.others

pub returns-clause-unheld : goal.returns-clause-unheld
returns-clause-unheld c = some_unheld c.args.store.now c.add_zero.new.self c.args.regions.now c.add_zero.result _ c.add_zero.ensures.added c.requires.order

pub returns-clause-live : goal.returns-clause-live
returns-clause-live c = some_live c.args.store.now c.add_zero.new.self c.add_zero.result _ refl c.add_zero.ensures.added

pub returns-clause-newest : goal.returns-clause-newest
returns-clause-newest c = some_newest c.args.store.now c.add_zero.new.self c.add_zero.result _ c.law.ensures.shelf c.add_zero.ensures.added

pub returns-clause-goes_on : goal.returns-clause-goes_on
returns-clause-goes_on c =
    let s = c.args.store.now in
    let t = c.add_zero.new.self in
    let m = c.args.regions.now in
    let e = c.add_zero.ensures in
    let swap = some_swap s t c.add_zero.result _ _ e.none e.added in
    record {
      order = made_still s t m c.add_zero.result _ e.none e.added c.requires.order;
      guards = some_guards s t m c.add_zero.result _ _ c.law.ensures.shelf refl e.none e.added c.requires.order;
      clean = some_clean s t c.add_zero.result _ _ c.law.ensures.shelf refl e.none e.added;
      pictures = λ images. some_pictures s t c.add_zero.result _ _ c.law.ensures.shelf refl refl e.none e.added (HasPicture images);
      map = ap all_of swap;
      unused = λ none. subst NoneTaken (sym swap) none;
    }
