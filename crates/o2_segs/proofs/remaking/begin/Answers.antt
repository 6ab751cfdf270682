use Rattle.std.proofs.Common.{◌≡◌, ◌∙◌, ap, arith, refl, subst, sym, ℕ, true, false, is_some, Option}
use Rattle.o2_entries.specs.declared.Attr.{Attr}
use Rattle.o2_entries.specs.declared.Entry.{Entry}
use Rattle.o2_entries.specs.Tables.{slot_at}
use Rattle.o2_place.specs.Layout.{Layout, find_in}
use Rattle.o2_store.specs.Pictures.{picture}
use Rattle.o2_store.specs.Shelf.{SameEntry, Shelf, entry, entry_or, place_of}
use Rattle.o2_world.specs.Changes.{Marks, with_change}
use Rattle.o2_changes.proofs.Framing.{order_trans}
use Rattle.o2_changes.proofs.Marking.{altered_live, no_images, none_there, revives_one, sized_live}
use Rattle.o2_segs.proofs.Limits.{limits_sized, limits_then}
use Rattle.o2_segs.proofs.Discarded.{gone_is, limits_revived, no_image}
use Rattle.o2_segs.proofs.remaking.begin.Goals as goal

pub resize_out-requires : goal.resize_out-requires
resize_out-requires c =
    let s = c.args.store.now in
    let t = c.revive.new.store in
    let id = c.args.id in
    let r = c.revive.ensures.revives in
    record {
      live = altered_live s t id c.requires.live (revives_one s t id r) id c.requires.live;
      out = ap (λ (x : Shelf). place_of x id.key) r.shelf ∙ (gone_is s id.key c.law.ensures.shelf c.requires.gone).out;
      sizes = c.requires.sizes;
      order = c.revive.ensures.goes_on.order;
    }

pub returns : goal.returns
returns c =
    let s = c.args.store.now in
    let t = c.revive.new.store in
    let u = c.resize_out.new.store in
    let m = c.args.regions.now in
    let n = c.resize_out.new.regions in
    let id = c.args.id in
    let size = c.args.size in
    let r = c.revive.ensures.revives in
    let e = c.resize_out.ensures in
    let z = e.resizes true (picture no_images) none_there in
    let gone = gone_is s id.key c.law.ensures.shelf c.requires.gone in
    let there = ap entry_or r.here in
    let live = altered_live s t id c.requires.live (revives_one s t id r) id c.requires.live in
    let was : (entry t id.key).kept ≡ 0 = ap (λ (x : Entry). x.kept) there ∙ gone.kept in
    record {
      remade = record {
        count = z.count ∙ r.count;
        places = e.places ∙ ap (λ (x : Shelf). x.places) r.shelf;
        live = z.here.live ∙ ap is_some r.here;
        age = z.here.age ∙ ap (λ (x : Entry). x.age) there;
        sized = z.here.sized;
        attr = z.here.attr ∙ ap (λ (x : Entry). x.attr) there;
        image = no_image (entry u id.key).image (entry t id.key).image z.here.image (ap (λ (x : Entry). x.image) there ∙ gone.image);
        kept = (let l = e.kept in omega (arith, l, was));
        others = λ k d. subst (λ (o : Option Entry). SameEntry o (slot_at u.entries k)) (r.others k d) (z.same k d);
      };
      live = sized_live t u id size z live;
      out = ap (λ (x : Layout). find_in x.ranges id.key) e.places ∙ (ap (λ (x : Shelf). place_of x id.key) r.shelf ∙ gone.out);
      maps = e.maps;
      goes_on = order_trans s t u m m n c.revive.ensures.goes_on e.goes_on;
      limits = limits_then s t u m m n 0 0 (limits_revived s t m id c.requires.live r) (limits_sized true (picture no_images) t u none_there none_there m n id.key size z e.maps);
      matches = record {
        world = λ p w es em q. e.matches.world (record p { shelf = t; maps = m }) (with_change w (Marks id.age false)) refl refl (c.revive.ensures.matches.world p w es em q);
      };
    }
