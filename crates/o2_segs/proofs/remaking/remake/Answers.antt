use Rattle.std.proofs.Common.{◌≡◌, ◌∙◌, ◌≤◌, ◌<◌, ap, arith, inl, inr, refl, subst, sym, is_some, IsSome, Option, Some, None, ℕ, true, false}
use Rattle.std.proofs.lemmas.Bool.{cases_eq}
use Rattle.o2_entries.specs.declared.Attr.{Attr}
use Rattle.o2_entries.specs.declared.Entry.{Entry}
use Rattle.o2_entries.specs.Tables.{slot_at}
use Rattle.o2_place.specs.Layout.{Layout, find_in}
use Rattle.o2_service.proofs.Among.{live_same}
use Rattle.o2_service.proofs.Placing.{only_trans}
use Rattle.o2_store.specs.Idle.{NoneTaken}
use Rattle.o2_store.specs.Loads.{live_load}
use Rattle.o2_store.specs.Needs.{all_wanted, named_in}
use Rattle.o2_store.specs.Pictures.{picture}
use Rattle.o2_store.specs.Shelf.{Shelf, entry, entry_or, place_of}
use Rattle.o2_store.proofs.Framing.{device_for}
use Rattle.o2_store.proofs.Loads.{full_load_but, same_load_but}
use Rattle.o2_stands.specs.Moves.{moved}
use Rattle.o2_world.specs.Changes.{Locks, Marks, Resizes, with_change}
use Rattle.o2_world.specs.Rulings.{grants, resizes_with}
use Rattle.o2_changes.proofs.Framing.{backed_then, for_then, then_for}
use Rattle.o2_segs.proofs.Limits.{limits_locked, limits_moved, limits_then}
use Rattle.o2_segs.proofs.Discarded.{back_as, but_less, gone_is, kind_again, remade_answers, remade_done, remade_live, remade_named, remade_swap, remade_wanted}
use Rattle.o2_segs.proofs.Resizing.{stopped_matches}
use Rattle.o2_segs.proofs.Sharing.{aged_there, alive_tables}
use Rattle.o2_segs.proofs.Stops.{not_here, room_never, room_stops, stop_answers, stop_fault, stop_full, stop_room, was_here}
use Rattle.o2_segs.proofs.remaking.remake.Goals as goal

pub bring_in-requires : goal.bring_in-requires
bring_in-requires g c =
    let s = c.args.store.now in
    let t = c.begin.new.store in
    let b = c.begin.ensures in
    record {
      live = b.live;
      whole = ap (λ (a : Attr). a.gone) b.remade.attr;
      order = b.goes_on.order;
      pictures = b.goes_on.pictures c.args.images.now c.requires.pictures;
      backed = backed_then s t c.args.regions.now c.begin.new.regions c.args.images.now _ b.goes_on c.requires.backed;
    }

pub undo-requires : goal.undo-requires
undo-requires g c =
    let s = c.args.store.now in
    let t = c.begin.new.store in
    let u = c.bring_in.new.store in
    let id = c.args.id in
    let b = c.begin.ensures in
    let q = c.bring_in.ensures in
    record {
      live = live_same t u id q.keeps.tables b.live;
      out = q.out (not_here c.bring_in.result c.in-Some.stop c.in-Some.ensures) b.out;
      kind = kind_again (entry s id.key).attr (entry u id.key).attr (gone_is s id.key c.law.ensures.shelf c.requires.gone).kind ((q.keeps.tables.same id.key).attr ∙ b.remade.attr);
      sizes = c.size_of-old.ensures.sizes;
      order = q.goes_on.order;
    }

pub set_lock-requires : goal.set_lock-requires
set_lock-requires g c =
    let t = c.begin.new.store in
    let u = c.bring_in.new.store in
    let id = c.args.id in
    let q = c.bring_in.ensures in
    record {
      live = live_same t u id q.keeps.tables c.begin.ensures.live;
      present = λ l. q.here (was_here c.bring_in.result c.in-None.ensures q.never);
      whole = ap (λ (a : Attr). a.gone) ((q.keeps.tables.same id.key).attr ∙ c.begin.ensures.remade.attr);
      order = q.goes_on.order;
    }

pub returns-in-Some : goal.returns-in-Some
returns-in-Some g c =
    let S = g.S.SwapDevice in
    let s = c.args.store.now in
    let t = c.begin.new.store in
    let u = c.bring_in.new.store in
    let v = c.undo.new.store in
    let l = c.args.regions.now in
    let m = c.begin.new.regions in
    let n = c.bring_in.new.regions in
    let o = c.undo.new.regions in
    let id = c.args.id in
    let size = c.args.size in
    let keep = c.args.keep.now in
    let b = c.begin.ensures in
    let q = c.bring_in.ensures in
    let d = c.undo.ensures in
    let slot = aged_there id.age (slot_at s.entries id.key) c.requires.live in
    let wanted = remade_wanted s t id.key size b.remade slot keep in
    let whole : t.places.size ≡ s.places.size = ap (λ (x : Layout). x.size) b.remade.places in
    record {
      answer = λ cs. stop_answers (grants 0 cs) c.bring_in.result c.in-Some.stop refl c.in-Some.ensures;
      matches = λ p w es em ei eb tells before.
          stopped_matches p w v o (S.block c.bring_in.new.swap) (grants 0 (resizes_with id.age size true)) c.bring_in.result c.in-Some.stop c.in-Some.ensures
          (back_as p (moved p v o (S.block c.bring_in.new.swap)) s w id size c.size_of-old.result es c.law.ensures.shelf c.requires.live c.requires.gone c.size_of-old.ensures.size before
          (d.matches.world (moved p u n (S.block c.bring_in.new.swap)) (with_change (with_change w (Marks id.age false)) (Resizes id.age size)) refl refl
          (q.matches.world (record p { shelf = t; maps = m }) (with_change (with_change w (Marks id.age false)) (Resizes id.age size)) refl refl ei eb tells
          (b.matches.world p w es em before))));
      maps = only_trans l m o b.maps (only_trans m n o q.maps d.maps);
      limits = limits_then s t v l m o 0 0 b.limits (limits_then t u v m n o 0 0 (limits_moved t u m n q.keeps.tables q.maps) d.limits);
      goes_on = then_for c.args.images.now s t v l m o b.goes_on c.requires.backed.clean (for_then c.args.images.now t u v m n o q.goes_on d.goes_on);
      device = device_for _ _ _ _ _ _ _ (λ e. stop_fault c.bring_in.result c.in-Some.stop c.in-Some.ensures e) q.device;
      kept = λ k named there. elim (cases_eq k id.key) [
        | inl same ↦ absurd (let out : place_of s k ≡ None = ap (place_of s) same ∙ (gone_is s id.key c.law.ensures.shelf c.requires.gone).out in let f : false ≡ true = sym (ap is_some out) ∙ there in cc)
        | inr other ↦
            ap is_some (d.places k other)
            ∙ q.kept k (remade_named s t id.key size b.remade slot keep k ∙ named) (ap (λ (x : Layout). is_some (find_in x.ranges k)) b.remade.places ∙ there)
      ];
      no_room = λ e. (let lacks = q.no_room (stop_room c.bring_in.result c.in-Some.stop c.in-Some.ensures e) in omega (arith, lacks, wanted, whole));
      always_no_room = λ lacks. room_stops c.bring_in.result c.in-Some.stop c.in-Some.ensures (q.always_no_room b.out (omega (arith, lacks, wanted, whole)));
      loads = λ e.
          (let full = stop_full c.bring_in.result c.in-Some.stop c.in-Some.ensures e in
          let stuck = q.stuck full in
          let more = full_load_but u id.key c.law-in-Some.ensures.shelf c.law-in-Some.ensures.blocks stuck.full stuck.out
          (ap (λ (x : Option Entry). (entry_or x).image) stuck.same ∙ b.remade.image) (ap (λ (x : Option Entry). (entry_or x).kept) stuck.same ∙ b.remade.kept) in
          let same = same_load_but t u id.key q.keeps.tables in
          let there = remade_swap s t id.key size b.remade slot in
          let less = but_less s id.key in
          let live = remade_live s t id.key size b.remade slot in
          let load = (q.loads full).1 in
          (omega (arith, more, same, there, less, q.goes_on.map, b.goes_on.map), omega (arith, load, live, whole)));
      idle = λ none load.
          (let live = remade_live s t id.key size b.remade slot in
          let i = q.idle (b.goes_on.unused none) (omega (arith, live, load, whole)) in
          record { device = i.device; none = d.goes_on.unused i.none });
    }

pub returns-in-None : goal.returns-in-None
returns-in-None g c =
    let S = g.S.SwapDevice in
    let s = c.args.store.now in
    let t = c.begin.new.store in
    let u = c.bring_in.new.store in
    let v = c.set_lock.new.store in
    let l = c.args.regions.now in
    let m = c.begin.new.regions in
    let n = c.bring_in.new.regions in
    let id = c.args.id in
    let size = c.args.size in
    let keep = c.args.keep.now in
    let b = c.begin.ensures in
    let q = c.bring_in.ensures in
    let d = c.set_lock.ensures in
    let slot = aged_there id.age (slot_at s.entries id.key) c.requires.live in
    let wanted = remade_wanted s t id.key size b.remade slot keep in
    let whole : t.places.size ≡ s.places.size = ap (λ (x : Layout). x.size) b.remade.places in
    record {
      answer = λ cs. remade_answers cs c.done.result c.done.ensures;
      matches = λ p w es em ei eb tells before.
          remade_done (moved p v n (S.block c.bring_in.new.swap)) w id size c.done.result c.done.ensures
          (d.matches.world (moved p u n (S.block c.bring_in.new.swap)) (with_change (with_change w (Marks id.age false)) (Resizes id.age size)) refl refl
          (q.matches.world (record p { shelf = t; maps = m }) (with_change (with_change w (Marks id.age false)) (Resizes id.age size)) refl refl ei eb tells
          (b.matches.world p w es em before)));
      maps = only_trans l m n b.maps q.maps;
      limits = limits_then s t v l m n 0 0 b.limits
          (limits_then t u v m n n 0 0 (limits_moved t u m n q.keeps.tables q.maps) (limits_locked u v n id 1 (alive_tables t u q.keeps.tables id b.live) d.sets));
      goes_on = then_for c.args.images.now s t v l m n b.goes_on c.requires.backed.clean (for_then c.args.images.now t u v m n n q.goes_on d.goes_on);
      device = device_for _ _ _ _ _ _ _ (λ e. absurd (cc)) q.device;
      kept = λ k named there.
          subst (λ (o : Option (ℕ × ℕ)). IsSome o) (sym (ap (λ (x : Shelf). place_of x k) d.sets.shelf))
          (q.kept k (remade_named s t id.key size b.remade slot keep k ∙ named) (ap (λ (x : Layout). is_some (find_in x.ranges k)) b.remade.places ∙ there));
      no_room = λ e. absurd (cc);
      always_no_room = λ lacks. absurd (room_never c.bring_in.result c.in-None.ensures (q.always_no_room b.out (omega (arith, lacks, wanted, whole))));
      loads = λ e. absurd (cc);
      idle = λ none load.
          (let live = remade_live s t id.key size b.remade slot in
          let i = q.idle (b.goes_on.unused none) (omega (arith, live, load, whole)) in
          record { device = i.device; none = subst NoneTaken (sym (ap (λ (x : Shelf). x.swap) d.sets.shelf)) i.none });
    }
