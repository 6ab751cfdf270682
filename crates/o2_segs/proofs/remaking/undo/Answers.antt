use Rattle.std.proofs.Common.{◌≡◌, ◌∙◌, ap, refl, subst, sym, true}
use Rattle.o2_entries.specs.declared.Attr.{Attr}
use Rattle.o2_entries.specs.Tables.{slot_at}
use Rattle.o2_place.specs.Layout.{Layout, find_in}
use Rattle.o2_store.specs.Pictures.{picture}
use Rattle.o2_store.specs.Shelf.{IsDiscardable, entry}
use Rattle.o2_service.proofs.Placing.{only_trans}
use Rattle.o2_world.specs.Changes.{Resizes, with_change}
use Rattle.o2_changes.proofs.Framing.{order_trans}
use Rattle.o2_changes.proofs.Marking.{discards_one, no_images, none_there, sized_live}
use Rattle.o2_segs.proofs.Limits.{limits_sized, limits_then}
use Rattle.o2_segs.proofs.Discarded.{limits_discarded}
use Rattle.o2_segs.proofs.Sharing.{aged_there}
use Rattle.o2_segs.proofs.remaking.undo.Goals as goal

pub discard-requires : goal.discard-requires
discard-requires c =
    let s = c.args.store.now in
    let t = c.resize_out.new.store in
    let id = c.args.id in
    let e = c.resize_out.ensures in
    let z = e.resizes true (picture no_images) none_there in
    record {
      live = sized_live s t id c.args.size z c.requires.live;
      kind = subst IsDiscardable (sym z.here.attr) c.requires.kind;
      order = e.goes_on.order;
    }

pub returns : goal.returns
returns c =
    let s = c.args.store.now in
    let t = c.resize_out.new.store in
    let u = c.discard.new.store in
    let m = c.args.regions.now in
    let n = c.resize_out.new.regions in
    let o = c.discard.new.regions in
    let id = c.args.id in
    let size = c.args.size in
    let e = c.resize_out.ensures in
    let d = c.discard.ensures in
    let z = e.resizes true (picture no_images) none_there in
    let live = sized_live s t id size z c.requires.live in
    let a = discards_one t u id live d.discards d.goes_on.map in
    let slot = aged_there id.age (slot_at t.entries id.key) live in
    record {
      places = λ k other. d.discards.places k other ∙ ap (λ (x : Layout). find_in x.ranges k) e.places;
      maps = only_trans m n o e.maps d.maps;
      goes_on = order_trans s t u m n o e.goes_on d.goes_on;
      limits = limits_then s t u m n o 0 0 (limits_sized true (picture no_images) s t none_there none_there m n id.key size z e.maps)
          (limits_discarded t u n o id c.law.ensures.shelf c.law-2.ensures.shelf slot a.live a.age a.count d.discards d.maps);
      matches = record {
        world = λ p w es em q. d.matches.world (record p { shelf = t; maps = n }) (with_change w (Resizes id.age size)) refl refl (e.matches.world p w es em q);
      };
    }
