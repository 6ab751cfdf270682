use Rattle.std.proofs.Common.{ap, false, refl, sym, subst}
use Rattle.o2_entries.specs.declared.Attr.{Attr}
use Rattle.o2_entries.specs.Tables.{slot_at}
use Rattle.o2_service.proofs.Placing.{only_refl}
use Rattle.o2_store.specs.Idle.{NoneTaken}
use Rattle.o2_store.specs.Pictures.{HasPicture}
use Rattle.o2_store.specs.Shelf.{Shelf, entry_of, place_of}
use Rattle.o2_store.proofs.Tables.{locked_at}
use Rattle.o2_changes.specs.Segments.{Revives}
use Rattle.o2_changes.proofs.Marking.{altered_guards, altered_order, altered_pictures, locked_there, revive_matches, revived_clean, revives_one, sets_mark}
use Rattle.o2_changes.proofs.Segmenting.{attr_there}
use Rattle.o2_changes.proofs.segments.revive.Goals as goal

pub set_attr-requires-clause-lock : goal.set_attr-requires-clause-lock
set_attr-requires-clause-lock c = λ l live.
    (let s = c.args.store.now in
    let id = c.args.id in
    locked_there id.age (slot_at s.entries id.key) (place_of s id.key) c.in-Some.attr (locked_at s id.key c.law.ensures.shelf)
    (attr_there (entry_of s id) c.in-Some.attr (sym c.in-Some.ensures) id.age (slot_at s.entries id.key) refl) l)

pub returns-in-Some : goal.returns-in-Some
returns-in-Some c =
    let s = c.args.store.now in
    let id = c.args.id in
    let attr = c.in-Some.attr in
    let t = c.set_attr.new.self in
    let m = c.args.regions.now in
    let live = c.requires.live in
    let r : Revives s t id = sets_mark s t id (record attr { gone = false }) live (c.set_attr.ensures.set (c.set_attr.ensures.live.1 live)) c.set_attr.ensures.bytes
    (ap (λ (a : Attr). record a { gone = false }) (attr_there (entry_of s id) attr (sym c.in-Some.ensures) id.age (slot_at s.entries id.key) refl)) in
    let a = revives_one s t id r in
    let o = altered_order s t id live a m (λ k. ap (λ (x : Shelf). place_of x k) r.shelf) c.requires.order in
    record {
      revives = r;
      goes_on = record {
        order = o;
        guards = altered_guards s t id live a m m (only_refl m);
        clean = revived_clean s t id live r;
        pictures = λ images. altered_pictures s t id live a (HasPicture images);
        map = a.map;
        unused = λ none. subst NoneTaken (sym (ap (λ (x : Shelf). x.swap) r.shelf)) none;
      };
      matches = record { world = revive_matches s t m id live r o };
    }
