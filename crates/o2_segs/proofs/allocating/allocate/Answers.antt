use Rattle.std.proofs.Common.{◌≡◌, arith, inl, inr, Option, Some, None, ap, refl, sym, ◌∙◌, subst}
use Rattle.std.proofs.lemmas.Bool.{false≢true}
use Rattle.o2_regions.specs.declared.answer.Roomed.{Roomed}
use Rattle.o2_regions.specs.declared.answer.Roomed.TheVariants.{NoRoom}
use Rattle.o2_regions.specs.Maps.{region_of}
use Rattle.o2_store.specs.Shelf.{Shelf}
use Rattle.o2_store.proofs.Loads.{added_load}
use Rattle.o2_changes.specs.Worlds.{new_segment}
use Rattle.o2_changes.proofs.KeepingHolds.{holds_trans, told_holds}
use Rattle.o2_world.specs.Changes.{Makes, with_change}
use Rattle.o2_stands.specs.Knows.{known_in}
use Rattle.o2_stands.specs.Moves.{moved}
use Rattle.o2_segs.specs.Limits.{KeepsLimits, made_in}
use Rattle.o2_segs.specs.Made.{allocation_to}
use Rattle.o2_segs.proofs.Making.{added_entry, added_map, added_out, added_place, done_answers_any, made_locked_by, made_matches, made_plain_by, moved_made, named_apart, named_behind, new_adds, new_name, no_stop, refusal_answers_any, run_same, stop_answers_any, stop_leaves, to_full, to_some}
use Rattle.o2_segs.proofs.Resizing.{refusal_moved}
use Rattle.o2_segs.proofs.Stops.{denied, error_none, stop_is}
use Rattle.o2_entries.specs.declared.Entry.{Entry}
use Rattle.o2_segs.proofs.Sharing.{unheld_told}
use Rattle.o2_segs.proofs.Limits.{entries_added, entries_behind, entries_same, limits_added, limits_more, limits_same, limits_then, limits_undone}
use Rattle.o2_store.specs.Idle.{NoneTaken}
use Rattle.o2_store.proofs.Idling.{idle_or}
use Rattle.o2_segs.proofs.Idling.{unrefused_stop, unrefused_done}
use Rattle.o2_store.proofs.Framing.{device_for}
use Rattle.o2_changes.proofs.Framing.{for_order, for_then, order_trans, then_for}
use Rattle.o2_segs.proofs.allocating.allocate.Goals as goal

pub returns-then-not-is_locked-clause-answer : goal.returns-then-not-is_locked-clause-answer
returns-then-not-is_locked-clause-answer g c = λ p o es.
    (let adds = c.in-Some.ensures.added in
    done_answers_any _ _ _ c.hold_made.result (to_some p o c.args.store.now c.make.new.store c.in-Some.id _ c.args.pid c.args.size c.args.flags c.args.index es adds) c.hold_made.ensures.answer)

pub returns-then-not-is_locked-clause-matches : goal.returns-then-not-is_locked-clause-matches
returns-then-not-is_locked-clause-matches g c = λ p o w x es em ei eb tells at absent q.
    (let id = c.in-Some.id in
    let t = c.make.new.store in
    let adds = c.in-Some.ensures.added in
    let name = new_name p w c.args.store.now t id _ es adds q.made in
    let sg = new_segment c.full_size.result c.args.flags c.is_shared.result in
    made_matches p w x t c.args.regions.now c.hold_made.new.regions (g.S.SwapDevice.block c.args.swap.now) id sg c.args.pid c.args.size c.args.flags c.args.index p.shelf.made
    (allocation_to (known_in p o) c.args.pid c.args.size c.args.flags (Some c.args.index)) c.hold_made.result (to_some p o c.args.store.now t id _ c.args.pid c.args.size c.args.flags c.args.index es adds) c.hold_made.ensures.answer
    name.0 name.1 (made_plain_by c.args.size c.args.flags c.full_size.result c.is_shared.result c.full_size.ensures.size c.is_shared.ensures (sym c.if-not-is_locked.ensures))
    c.in-Some.ensures.live c.hold_made.ensures.matches at
    (moved_made p (with_change w (Makes sg)) t c.args.regions.now (g.S.SwapDevice.block c.args.swap.now) em eb (c.in-Some.ensures.matches.world p w es em q)))

pub returns-in-Some-lock_new-clause-answer : goal.returns-in-Some-lock_new-clause-answer
returns-in-Some-lock_new-clause-answer g c = λ p o es.
    (let adds = c.in-Some.ensures.added in
    stop_answers_any _ c.in-Some-lock_new.stop (c.in-Some-lock_new.ensures.without c.in-Some-lock_new.stop refl).0 (error_none (to_some p o c.args.store.now c.make.new.store c.in-Some.id _ c.args.pid c.args.size c.args.flags c.args.index es adds)))

pub returns-in-Some-lock_new-clause-matches : goal.returns-in-Some-lock_new-clause-matches
returns-in-Some-lock_new-clause-matches g c = λ p o w x es em ei eb tells at absent q.
    (let id = c.in-Some.id in
    let t = c.make.new.store in
    let adds = c.in-Some.ensures.added in
    let name = new_name p w c.args.store.now t id _ es adds q.made in
    let sg = new_segment c.full_size.result c.args.flags c.is_shared.result in
    let block = g.S.SwapDevice.block c.lock_new.new.swap in
    stop_leaves (moved p c.lock_new.new.store c.lock_new.new.regions block) w (allocation_to (known_in p o) c.args.pid c.args.size c.args.flags (Some c.args.index)) c.in-Some-lock_new.stop
    (c.in-Some-lock_new.ensures.without c.in-Some-lock_new.stop refl).0
    ((c.in-Some-lock_new.ensures.without c.in-Some-lock_new.stop refl).1.world (record p { shelf = t }) w sg refl em ei eb tells name.1 absent (c.in-Some.ensures.matches.world p w es em q)))

pub returns-in-None-lock_new-clause-answer : goal.returns-in-None-lock_new-clause-answer
returns-in-None-lock_new-clause-answer g c = λ p o es.
    (let adds = c.in-Some.ensures.added in
    done_answers_any _ _ _ c.hold_made-in-None-lock_new.result (to_some p o c.args.store.now c.make.new.store c.in-Some.id _ c.args.pid c.args.size c.args.flags c.args.index es adds) c.hold_made-in-None-lock_new.ensures.answer)

pub returns-in-None-lock_new-clause-matches : goal.returns-in-None-lock_new-clause-matches
returns-in-None-lock_new-clause-matches g c = λ p o w x es em ei eb tells at absent q.
    (let id = c.in-Some.id in
    let t = c.make.new.store in
    let adds = c.in-Some.ensures.added in
    let name = new_name p w c.args.store.now t id _ es adds q.made in
    let sg = new_segment c.full_size.result c.args.flags c.is_shared.result in
    let block = g.S.SwapDevice.block c.lock_new.new.swap in
    made_matches p w x c.lock_new.new.store c.lock_new.new.regions c.hold_made-in-None-lock_new.new.regions block id (record sg { lock = 1 }) c.args.pid c.args.size c.args.flags c.args.index p.shelf.made
    (allocation_to (known_in p o) c.args.pid c.args.size c.args.flags (Some c.args.index)) c.hold_made-in-None-lock_new.result (to_some p o c.args.store.now t id _ c.args.pid c.args.size c.args.flags c.args.index es adds) c.hold_made-in-None-lock_new.ensures.answer
    name.0 name.1 (made_locked_by c.args.size c.args.flags c.full_size.result c.is_shared.result c.full_size.ensures.size c.is_shared.ensures (sym c.if-not-is_locked.ensures))
    (c.in-None-lock_new.ensures.live refl) c.hold_made-in-None-lock_new.ensures.matches at
    ((c.in-None-lock_new.ensures.locked refl).world (record p { shelf = t }) w sg refl em ei eb tells name.1 (c.in-Some.ensures.matches.world p w es em q)))

pub returns-in-None-clause-answer : goal.returns-in-None-clause-answer
returns-in-None-clause-answer g c = λ p o es.
    (let none = c.in-None.ensures.none in
    refusal_answers_any _ 8 c.refusal.result (to_full p o c.args.store.now c.args.pid c.args.size c.args.flags c.args.index es none.0) c.refusal.ensures)

pub returns-in-None-clause-matches : goal.returns-in-None-clause-matches
returns-in-None-clause-matches g c = λ p o w x es em ei eb tells at absent q.
    (let none = c.in-None.ensures.none in
    refusal_moved p c.make.new.store c.args.regions.now (g.S.SwapDevice.block c.args.swap.now) w _ 8 (es ∙ sym none.1) em eb (to_full p o c.args.store.now c.args.pid c.args.size c.args.flags c.args.index es none.0) q)

pub hold_made-requires-in-None-lock_new-clause-free : goal.hold_made-requires-in-None-lock_new-clause-free
hold_made-requires-in-None-lock_new-clause-free g c = run_same c.args.regions.now c.lock_new.new.regions (region_of c.args.pid c.args.index) c.args.index c.lock_new.ensures.maps c.requires.free

pub returns-then-not-is_locked-clause-stops : goal.returns-then-not-is_locked-clause-stops
returns-then-not-is_locked-clause-stops g c = λ stop. no_stop c.hold_made.result _ _ c.hold_made.ensures.answer stop

pub returns-in-Some-lock_new-clause-stops : goal.returns-in-Some-lock_new-clause-stops
returns-in-Some-lock_new-clause-stops g c = λ stop. sym c.if-not-is_locked.ensures

pub returns-in-None-lock_new-clause-stops : goal.returns-in-None-lock_new-clause-stops
returns-in-None-lock_new-clause-stops g c = λ stop. no_stop c.hold_made-in-None-lock_new.result _ _ c.hold_made-in-None-lock_new.ensures.answer stop

pub returns-in-None-clause-stops : goal.returns-in-None-clause-stops
returns-in-None-clause-stops g c = λ stop. absurd stop

pub returns-then-not-is_locked-clause-kept : goal.returns-then-not-is_locked-clause-kept
returns-then-not-is_locked-clause-kept g c = λ k named here. added_place c.args.store.now c.make.new.store c.in-Some.id _ k c.in-Some.ensures.added here

pub returns-in-Some-lock_new-clause-kept : goal.returns-in-Some-lock_new-clause-kept
returns-in-Some-lock_new-clause-kept g c = λ k named here.
    (let s = c.args.store.now in
    let t = c.make.new.store in
    let apart = named_apart s t c.in-Some.id _ c.args.keep.now k c.in-Some.ensures.added named in
    c.lock_new.ensures.kept k apart (named_behind s t c.in-Some.id _ c.args.keep.now k c.in-Some.ensures.added apart named) (added_place s t c.in-Some.id _ k c.in-Some.ensures.added here))

pub returns-in-None-lock_new-clause-kept : goal.returns-in-None-lock_new-clause-kept
returns-in-None-lock_new-clause-kept g c = λ k named here.
    (let s = c.args.store.now in
    let t = c.make.new.store in
    let apart = named_apart s t c.in-Some.id _ c.args.keep.now k c.in-Some.ensures.added named in
    c.lock_new.ensures.kept k apart (named_behind s t c.in-Some.id _ c.args.keep.now k c.in-Some.ensures.added apart named) (added_place s t c.in-Some.id _ k c.in-Some.ensures.added here))

pub hold_made-requires-in-None-lock_new-clause-plain : goal.hold_made-requires-in-None-lock_new-clause-plain
hold_made-requires-in-None-lock_new-clause-plain g c =
    c.in-None-lock_new.ensures.plain refl ∙ ap (λ (x : Entry). x.attr.clean) (added_entry c.args.store.now c.make.new.store c.in-Some.id _ c.in-Some.ensures.added)

pub hold_made-requires-clause-plain : goal.hold_made-requires-clause-plain
hold_made-requires-clause-plain g c = ap (λ (x : Entry). x.attr.clean) (added_entry c.args.store.now c.make.new.store c.in-Some.id _ c.in-Some.ensures.added)

pub returns-in-Some-lock_new-clause-no_room : goal.returns-in-Some-lock_new-clause-no_room
returns-in-Some-lock_new-clause-no_room g c = λ e. record {
  store = c.make.new.store;
  id = c.in-Some.id;
  adds = new_adds c.args.store.now c.make.new.store c.in-Some.id c.args.size c.args.flags c.full_size.result c.is_shared.result c.full_size.ensures.size c.is_shared.ensures c.in-Some.ensures.added;
  holds = c.in-Some-lock_new.ensures.no_room c.in-Some-lock_new.stop refl e;
}

pub returns-in-Some-lock_new-clause-loads : goal.returns-in-Some-lock_new-clause-loads
returns-in-Some-lock_new-clause-loads g c = λ e.
    (let s = c.args.store.now in
    let t = c.make.new.store in
    let adds = c.in-Some.ensures.added in
    let full = c.in-Some-lock_new.ensures.loads c.in-Some-lock_new.stop refl e in
    let m = added_map s t c.in-Some.id _ adds in
    let l = added_load s t c.in-Some.id _ adds in (
      omega (arith, full.0, m, l),
      record {
        store = t;
        id = c.in-Some.id;
        adds = new_adds s t c.in-Some.id c.args.size c.args.flags c.full_size.result c.is_shared.result c.full_size.ensures.size c.is_shared.ensures adds;
        holds = full.1;
      },
    ))

pub lock_new-requires-clause-bare : goal.lock_new-requires-clause-bare
lock_new-requires-clause-bare g c =
    let e = added_entry c.args.store.now c.make.new.store c.in-Some.id _ c.in-Some.ensures.added in
    (ap (λ (x : Entry). x.image) e, ap (λ (x : Entry). x.kept) e)

pub lock_new-requires-clause-whole : goal.lock_new-requires-clause-whole
lock_new-requires-clause-whole g c =
    let e = added_entry c.args.store.now c.make.new.store c.in-Some.id _ c.in-Some.ensures.added in
    ap (λ (x : Entry). x.attr.gone) e

pub returns-in-Some-lock_new-clause-holds : goal.returns-in-Some-lock_new-clause-holds
returns-in-Some-lock_new-clause-holds g c = told_holds c.args.regions.now c.lock_new.new.regions c.lock_new.ensures.maps

pub returns-in-None-lock_new-clause-holds : goal.returns-in-None-lock_new-clause-holds
returns-in-None-lock_new-clause-holds g c =
    holds_trans c.args.regions.now c.lock_new.new.regions c.hold_made-in-None-lock_new.new.regions (told_holds c.args.regions.now c.lock_new.new.regions c.lock_new.ensures.maps) c.hold_made-in-None-lock_new.ensures.holds

pub returns-then-not-is_locked-clause-limits : goal.returns-then-not-is_locked-clause-limits
returns-then-not-is_locked-clause-limits g c =
    subst (λ (r : Roomed). KeepsLimits c.args.store.now c.args.regions.now c.make.new.store c.hold_made.new.regions (made_in r)) (sym c.hold_made.ensures.answer)
    (limits_then c.args.store.now c.make.new.store c.make.new.store c.args.regions.now c.args.regions.now c.hold_made.new.regions 1 0 (limits_added c.args.store.now c.make.new.store c.args.regions.now c.in-Some.id _ refl c.in-Some.ensures.added) c.hold_made.ensures.limits)

pub returns-in-Some-lock_new-clause-limits : goal.returns-in-Some-lock_new-clause-limits
returns-in-Some-lock_new-clause-limits g c =
    let s = c.args.store.now in
    let t = c.make.new.store in
    let adds = c.in-Some.ensures.added in
    limits_undone s t c.lock_new.new.store c.args.regions.now c.args.regions.now c.lock_new.new.regions c.in-Some-lock_new.stop (c.in-Some-lock_new.ensures.without c.in-Some-lock_new.stop refl).0
    (ap (λ (x : Shelf). x.made) adds.shelf) (limits_added s t c.args.regions.now c.in-Some.id _ refl adds) (c.in-Some-lock_new.ensures.undone refl)

pub returns-in-None-lock_new-clause-limits : goal.returns-in-None-lock_new-clause-limits
returns-in-None-lock_new-clause-limits g c =
    subst (λ (r : Roomed). KeepsLimits c.args.store.now c.args.regions.now c.lock_new.new.store c.hold_made-in-None-lock_new.new.regions (made_in r)) (sym c.hold_made-in-None-lock_new.ensures.answer)
    (limits_then c.args.store.now c.make.new.store c.lock_new.new.store c.args.regions.now c.args.regions.now c.hold_made-in-None-lock_new.new.regions 1 0 (limits_added c.args.store.now c.make.new.store c.args.regions.now c.in-Some.id _ refl c.in-Some.ensures.added)
    (limits_then c.make.new.store c.lock_new.new.store c.lock_new.new.store c.args.regions.now c.lock_new.new.regions c.hold_made-in-None-lock_new.new.regions 0 0 (c.in-None-lock_new.ensures.limits refl) c.hold_made-in-None-lock_new.ensures.limits))

pub returns-in-None-clause-limits : goal.returns-in-None-clause-limits
returns-in-None-clause-limits g c = limits_more c.args.store.now c.make.new.store c.args.regions.now c.args.regions.now 0 1 (limits_same c.args.store.now c.make.new.store c.args.regions.now c.args.regions.now c.in-None.ensures.none.1 refl)

pub returns-then-not-is_locked-clause-entries : goal.returns-then-not-is_locked-clause-entries
returns-then-not-is_locked-clause-entries g c = entries_added c.args.store.now c.make.new.store c.in-Some.id _ c.in-Some.ensures.added

pub returns-in-Some-lock_new-clause-entries : goal.returns-in-Some-lock_new-clause-entries
returns-in-Some-lock_new-clause-entries g c = entries_behind c.args.store.now c.make.new.store c.lock_new.new.store c.in-Some.id _ c.in-Some.ensures.added c.lock_new.ensures.entries

pub returns-in-None-lock_new-clause-entries : goal.returns-in-None-lock_new-clause-entries
returns-in-None-lock_new-clause-entries g c = entries_behind c.args.store.now c.make.new.store c.lock_new.new.store c.in-Some.id _ c.in-Some.ensures.added c.lock_new.ensures.entries

pub returns-in-None-clause-entries : goal.returns-in-None-clause-entries
returns-in-None-clause-entries g c = entries_same c.args.store.now c.make.new.store c.in-None.ensures.none.1

pub hold_made-requires-in-None-lock_new-clause-unheld : goal.hold_made-requires-in-None-lock_new-clause-unheld
hold_made-requires-in-None-lock_new-clause-unheld g c = unheld_told c.args.regions.now c.lock_new.new.regions c.in-Some.id c.lock_new.ensures.maps c.in-Some.ensures.unheld

pub returns-then-not-is_locked-clause-idle : goal.returns-then-not-is_locked-clause-idle
returns-then-not-is_locked-clause-idle g c = λ none. inl (record { device = refl; none = subst NoneTaken (sym (ap (λ (x : Shelf). x.swap) c.in-Some.ensures.added.shelf)) none })

pub returns-in-None-clause-idle : goal.returns-in-None-clause-idle
returns-in-None-clause-idle g c = λ none. inl (record { device = refl; none = subst (λ (x : Shelf). NoneTaken x.swap) (sym c.in-None.ensures.none.1) none })

pub returns-in-Some-lock_new-clause-idle : goal.returns-in-Some-lock_new-clause-idle
returns-in-Some-lock_new-clause-idle g c = λ none.
    (let s = c.args.store.now in
    let t = c.make.new.store in
    let adds = c.in-Some.ensures.added in
    elim (idle_or _ t c.lock_new.new.store _ _ c.lock_new.ensures.idle (subst NoneTaken (sym (ap (λ (x : Shelf). x.swap) adds.shelf)) none)) [
      | inl i ↦ inl i
      | inr more ↦ inr (record {
        unrefused = unrefused_stop c.in-Some-lock_new.stop (c.in-Some-lock_new.ensures.without c.in-Some-lock_new.stop refl).0;
        locked = sym c.if-not-is_locked.ensures;
        short = record {
          store = t;
          id = c.in-Some.id;
          adds = new_adds s t c.in-Some.id c.args.size c.args.flags c.full_size.result c.is_shared.result c.full_size.ensures.size c.is_shared.ensures adds;
          holds = more;
        };
      })
    ])

pub returns-in-None-lock_new-clause-idle : goal.returns-in-None-lock_new-clause-idle
returns-in-None-lock_new-clause-idle g c = λ none.
    (let s = c.args.store.now in
    let t = c.make.new.store in
    let adds = c.in-Some.ensures.added in
    elim (idle_or _ t c.lock_new.new.store _ _ c.lock_new.ensures.idle (subst NoneTaken (sym (ap (λ (x : Shelf). x.swap) adds.shelf)) none)) [
      | inl i ↦ inl i
      | inr more ↦ inr (record {
        unrefused = unrefused_done c.hold_made-in-None-lock_new.result _ c.hold_made-in-None-lock_new.ensures.answer refl;
        locked = sym c.if-not-is_locked.ensures;
        short = record {
          store = t;
          id = c.in-Some.id;
          adds = new_adds s t c.in-Some.id c.args.size c.args.flags c.full_size.result c.is_shared.result c.full_size.ensures.size c.is_shared.ensures adds;
          holds = more;
        };
      })
    ])

pub returns-then-not-is_locked-clause-goes_on : goal.returns-then-not-is_locked-clause-goes_on
returns-then-not-is_locked-clause-goes_on g c = for_order c.args.images.now c.args.store.now c.make.new.store c.args.regions.now
    c.hold_made.new.regions (order_trans c.args.store.now c.make.new.store c.make.new.store c.args.regions.now c.args.regions.now
    c.hold_made.new.regions c.make.ensures.goes_on c.hold_made.ensures.goes_on) c.requires.backed.clean

pub returns-in-Some-lock_new-clause-goes_on : goal.returns-in-Some-lock_new-clause-goes_on
returns-in-Some-lock_new-clause-goes_on g c = then_for c.args.images.now c.args.store.now c.make.new.store c.lock_new.new.store c.args.regions.now c.args.regions.now c.lock_new.new.regions c.make.ensures.goes_on c.requires.backed.clean c.lock_new.ensures.goes_on

pub returns-in-None-lock_new-clause-goes_on : goal.returns-in-None-lock_new-clause-goes_on
returns-in-None-lock_new-clause-goes_on g c =
    let images = c.args.images.now in
    let s = c.args.store.now in
    let u = c.lock_new.new.store in
    let m = c.args.regions.now in
    let n = c.lock_new.new.regions in
    let o = c.hold_made-in-None-lock_new.new.regions in
    for_then images s u u m n o (then_for images s c.make.new.store u m m n c.make.ensures.goes_on c.requires.backed.clean c.lock_new.ensures.goes_on) c.hold_made-in-None-lock_new.ensures.goes_on

pub returns-in-None-clause-goes_on : goal.returns-in-None-clause-goes_on
returns-in-None-clause-goes_on g c = for_order c.args.images.now c.args.store.now c.make.new.store c.args.regions.now c.args.regions.now c.make.ensures.goes_on c.requires.backed.clean

pub returns-in-Some-lock_new-clause-device : goal.returns-in-Some-lock_new-clause-device
returns-in-Some-lock_new-clause-device g c = device_for _ _ _ _ _ _ _ (λ e. ap Some e) c.in-Some-lock_new.ensures.device

pub returns-in-None-lock_new-clause-device : goal.returns-in-None-lock_new-clause-device
returns-in-None-lock_new-clause-device g c = device_for _ _ _ _ _ _ _ (λ e. absurd (let a = c.hold_made-in-None-lock_new.ensures.answer in cc)) c.lock_new.ensures.device

pub returns-then-not-is_locked-clause-always_no_room : goal.returns-then-not-is_locked-clause-always_no_room
returns-then-not-is_locked-clause-always_no_room g c = λ u b w. absurd (false≢true (c.if-not-is_locked.ensures ∙ b))

pub returns-in-Some-lock_new-clause-always_no_room : goal.returns-in-Some-lock_new-clause-always_no_room
returns-in-Some-lock_new-clause-always_no_room g c = λ u b w.
    (let s = c.args.store.now in
    let t = c.make.new.store in
    let id = c.in-Some.id in
    let adds = c.in-Some.ensures.added in
    let lacks = w.each t id (new_adds s t id c.args.size c.args.flags c.full_size.result c.is_shared.result c.full_size.ensures.size c.is_shared.ensures adds) in
    stop_is c.in-Some-lock_new.stop NoRoom (c.in-Some-lock_new.ensures.always_no_room (added_out s t id _ c.law.ensures.shelf adds) lacks))

pub returns-in-None-lock_new-clause-always_no_room : goal.returns-in-None-lock_new-clause-always_no_room
returns-in-None-lock_new-clause-always_no_room g c = λ u b w.
    absurd (let s = c.args.store.now in
    let t = c.make.new.store in
    let id = c.in-Some.id in
    let adds = c.in-Some.ensures.added in
    let lacks = w.each t id (new_adds s t id c.args.size c.args.flags c.full_size.result c.is_shared.result c.full_size.ensures.size c.is_shared.ensures adds) in
    let z : ◌≡◌ {A = Option Roomed} None (Some NoRoom) = c.in-None-lock_new.ensures.always_no_room (added_out s t id _ c.law.ensures.shelf adds) lacks in
    cc)

pub returns-in-None-clause-always_no_room : goal.returns-in-None-clause-always_no_room
returns-in-None-clause-always_no_room g c = λ u b w. absurd (denied c.refusal.result 8 c.refusal.ensures (omega arith) u)
