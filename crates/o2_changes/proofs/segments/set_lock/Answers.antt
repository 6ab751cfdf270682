use Rattle.std.proofs.Common.{◌∙◌, ap, refl, sym, subst}
use Rattle.o2_entries.specs.declared.Attr.{Attr}
use Rattle.o2_entries.specs.Tables.{slot_at}
use Rattle.o2_store.specs.Shelf.{entry_of, Shelf}
use Rattle.o2_changes.specs.Order.{IsInOrder}
use Rattle.o2_changes.specs.Segments.{SetsLock}
use Rattle.o2_store.specs.Pictures.{HasPicture}
use Rattle.o2_changes.proofs.Guarding.{locked_guards, locked_swap}
use Rattle.o2_changes.proofs.LocksStand.{locked_clean, locked_pictures}
use Rattle.o2_changes.proofs.Matching.{lock_matches}
use Rattle.o2_changes.proofs.Segmenting.{attr_there, locked_order, sets_lock}
use Rattle.o2_store.specs.Idle.{NoneTaken}
use Rattle.o2_changes.proofs.segments.set_lock.Goals as goal

pub set_attr-requires-clause-whole : goal.set_attr-requires-clause-whole
set_attr-requires-clause-whole c =
    let s = c.args.store.now in
    let id = c.args.id in
    ap (λ (a : Attr). a.gone) (attr_there (entry_of s id) c.in-Some.attr (sym c.in-Some.ensures) id.age (slot_at s.entries id.key) refl) ∙ c.requires.whole

pub returns-in-Some : goal.returns-in-Some
returns-in-Some c =
    let s = c.args.store.now in
    let id = c.args.id in
    let attr = c.in-Some.attr in
    let t = c.set_attr.new.self in
    let l : SetsLock s t id c.args.lock = sets_lock s c.set_attr.new.self id (record attr { lock = c.args.lock }) c.requires.live (c.set_attr.ensures.set (c.set_attr.ensures.live.1 c.requires.live)) c.set_attr.ensures.bytes c.args.lock
    (ap (λ (a : Attr). record a { lock = c.args.lock }) (attr_there (entry_of s id) attr (sym c.in-Some.ensures) id.age (slot_at s.entries id.key) refl)) in
    let o : IsInOrder t c.args.regions.now = locked_order s t c.args.regions.now id c.args.lock l c.requires.order in
    record {
      sets = l;
      goes_on = record {
        order = o;
        guards = locked_guards s t c.args.regions.now id c.args.lock c.requires.live l;
        clean = λ pic was. locked_clean s t id c.args.lock c.requires.live l pic was;
        pictures = λ images was. locked_pictures s t id c.args.lock c.requires.live l (HasPicture images) was;
        map = locked_swap s t id c.args.lock l;
        unused = λ none. subst NoneTaken (sym (ap (λ (x : Shelf). x.swap) l.shelf)) none;
      };
      matches = record { world = lock_matches s t c.args.regions.now id c.args.lock c.requires.live l o };
    }
