use Rattle.std.proofs.Common.{◌≡◌, ◌<◌, ℕ, List, [], ◌∷◌, Some, inl, inr, ap, refl, subst, sym, ◌∙◌}
use Rattle.o2_regions.specs.Maps.{held_at}
use Rattle.o2_store.proofs.Idling.{idle_or}
use Rattle.o2_segs.proofs.Limits.{limits_moved, limits_refl, limits_sized}
use Rattle.o2_segs.proofs.Stops.{not_here, room_never, room_stops, stop_fault, stop_full, stop_room, was_here}
use Rattle.o2_store.specs.Sizes.{all_wanted_at}
use Rattle.o2_world.specs.Changes.{Change, Resizes}
use Rattle.o2_huge.proofs.Firsts.{none_first}
use Rattle.o2_huge.specs.Growth.{sized_there}
use Rattle.o2_huge.specs.Resized.{MatchesSized}
use Rattle.o2_huge.proofs.Following.{never_stops}
use Rattle.o2_huge.proofs.Sizing.{first_sized, is_sized, none_matches, not_sized, rest_moved, rest_same, rest_sized, same_stop, size_matches, stop_is}
use Rattle.o2_store.proofs.Framing.{device_for}
use Rattle.o2_changes.proofs.Framing.{for_refl}
use Rattle.o2_huge.proofs.reallocating.resize_member.Goals as goal

pub returns-then-has_size-clause-matches : goal.returns-then-has_size-clause-matches
returns-then-has_size-clause-matches g c = λ e.
    subst (MatchesSized _ _ _ _ _ _ _ _) (sym (ap (sized_there c.args.store.now c.args.size) (sym c.in-Some.ensures.held) ∙ not_sized c.args.store.now c.args.size c.full_size-bytes.result c.in-Some.held c.full_size-bytes.ensures.size (sym c.if-has_size.ensures)))
    (none_matches _ _ _ _ _)

pub returns-then-has_size-clause-rest : goal.returns-then-has_size-clause-rest
returns-then-has_size-clause-rest g c = rest_same c.args.store.now

pub returns-in-Some-stop_of-clause-stays : goal.returns-in-Some-stop_of-clause-stays
returns-in-Some-stop_of-clause-stays g c = λ some. c.resize.ensures.stays (not_here c.resize.result c.in-Some-stop_of.stop c.in-Some-stop_of.ensures)

pub returns-in-Some-stop_of-clause-stop : goal.returns-in-Some-stop_of-clause-stop
returns-in-Some-stop_of-clause-stop g c = stop_is c.resize.result c.in-Some-stop_of.stop c.in-Some-stop_of.ensures

pub returns-in-Some-stop_of-clause-rest : goal.returns-in-Some-stop_of-clause-rest
returns-in-Some-stop_of-clause-rest g c = rest_moved c.args.store.now c.resize.new.store (c.resize.ensures.keeps (not_here c.resize.result c.in-Some-stop_of.stop c.in-Some-stop_of.ensures)).tables

pub returns-in-Some-stop_of-clause-load : goal.returns-in-Some-stop_of-clause-load
returns-in-Some-stop_of-clause-load g c = λ e. (c.resize.ensures.loads (stop_full c.resize.result c.in-Some-stop_of.stop c.in-Some-stop_of.ensures (same_stop _ _ e))).0

pub returns-in-None-stop_of-clause-matches : goal.returns-in-None-stop_of-clause-matches
returns-in-None-stop_of-clause-matches g c = λ e.
    subst (MatchesSized _ _ _ _ _ _ _ _)
    (sym (ap (sized_there c.args.store.now c.args.size) (sym c.in-Some.ensures.held) ∙ is_sized c.args.store.now c.args.size c.full_size-bytes.result c.in-Some.held c.full_size-bytes.ensures.size (sym c.if-has_size.ensures)))
    (size_matches _ _ _ _ _ _ _ _ _ _ (c.resize.ensures.matches (was_here c.resize.result c.in-None-stop_of.ensures c.resize.ensures.never)))

pub returns-in-None-stop_of-clause-rest : goal.returns-in-None-stop_of-clause-rest
returns-in-None-stop_of-clause-rest g c = rest_sized _ _ c.args.store.now c.resize.new.store _ _ _ _ (c.resize.ensures.resized (was_here c.resize.result c.in-None-stop_of.ensures c.resize.ensures.never))

pub returns-in-None-clause-matches : goal.returns-in-None-clause-matches
returns-in-None-clause-matches g c = λ e.
    subst (MatchesSized _ _ _ _ _ _ _ _) (sym (ap (sized_there c.args.store.now c.args.size) (sym c.in-None.ensures.held))) (none_matches _ _ _ _ _)

pub returns-in-None-clause-rest : goal.returns-in-None-clause-rest
returns-in-None-clause-rest g c = rest_same c.args.store.now

pub returns-then-has_size-clause-limits : goal.returns-then-has_size-clause-limits
returns-then-has_size-clause-limits g c = limits_refl c.args.store.now c.args.regions.now

pub returns-in-None-clause-limits : goal.returns-in-None-clause-limits
returns-in-None-clause-limits g c = limits_refl c.args.store.now c.args.regions.now

pub returns-in-Some-stop_of-clause-limits : goal.returns-in-Some-stop_of-clause-limits
returns-in-Some-stop_of-clause-limits g c = limits_moved c.args.store.now c.resize.new.store c.args.regions.now c.resize.new.regions (c.resize.ensures.keeps (not_here c.resize.result c.in-Some-stop_of.stop c.in-Some-stop_of.ensures)).tables c.resize.ensures.maps

pub returns-in-None-stop_of-clause-limits : goal.returns-in-None-stop_of-clause-limits
returns-in-None-stop_of-clause-limits g c = limits_sized _ _ c.args.store.now c.resize.new.store _ _ c.args.regions.now c.resize.new.regions _ _ (c.resize.ensures.resized (was_here c.resize.result c.in-None-stop_of.ensures c.resize.ensures.never)) c.resize.ensures.maps

pub returns-then-has_size-clause-goes_on : goal.returns-then-has_size-clause-goes_on
returns-then-has_size-clause-goes_on g c = for_refl c.args.images.now c.args.store.now c.args.regions.now c.requires.order c.requires.backed.clean

pub returns-in-None-clause-goes_on : goal.returns-in-None-clause-goes_on
returns-in-None-clause-goes_on g c = for_refl c.args.images.now c.args.store.now c.args.regions.now c.requires.order c.requires.backed.clean

pub returns-in-Some-stop_of-clause-device : goal.returns-in-Some-stop_of-clause-device
returns-in-Some-stop_of-clause-device g c = device_for _ _ _ _ _ _ _ (λ e. stop_fault c.resize.result c.in-Some-stop_of.stop c.in-Some-stop_of.ensures (same_stop _ _ e)) c.resize.ensures.device

pub returns-in-None-stop_of-clause-device : goal.returns-in-None-stop_of-clause-device
returns-in-None-stop_of-clause-device g c = device_for _ _ _ _ _ _ _ (λ e. absurd (cc)) c.resize.ensures.device

pub returns-then-has_size-clause-stops : goal.returns-then-has_size-clause-stops
returns-then-has_size-clause-stops g c = never_stops _ _ _ _ _ _ (λ e. absurd (cc)) (λ e. absurd (cc)) (λ none. record { device = refl; none = none })

pub returns-in-None-clause-stops : goal.returns-in-None-clause-stops
returns-in-None-clause-stops g c = never_stops _ _ _ _ _ _ (λ e. absurd (cc)) (λ e. absurd (cc)) (λ none. record { device = refl; none = none })

pub returns-in-Some-stop_of-clause-stops : goal.returns-in-Some-stop_of-clause-stops
returns-in-Some-stop_of-clause-stops g c =
    let s = c.args.store.now in
    let h = c.in-Some.held in
    let bytes = c.full_size-bytes.result in
    let there : sized_there s c.args.size (held_at c.args.regions.now c.args.pid c.args.index) ≡ Resizes h.id.age bytes ∷ [] =
    ap (sized_there s c.args.size) (sym c.in-Some.ensures.held) ∙ is_sized s c.args.size bytes h c.full_size-bytes.ensures.size (sym c.if-has_size.ensures) in
    let live = c.requires.order.held.live c.args.pid c.args.index h (sym c.in-Some.ensures.held) in
    let stop = c.in-Some-stop_of.stop in
    record {
      no_room = λ e. (let lacks = c.resize.ensures.no_room (stop_room c.resize.result stop c.in-Some-stop_of.ensures (same_stop _ _ e)) in first_sized s h.id bytes _ _ live there (lacks.1, lacks.2));
      all_load = λ e. first_sized s h.id bytes _ _ live there (c.resize.ensures.loads (stop_full c.resize.result stop c.in-Some-stop_of.ensures (same_stop _ _ e))).1;
      idle = λ none. elim (idle_or _ s c.resize.new.store _ _ c.resize.ensures.idle none) [ inl i ↦ inl i | inr more ↦ inr (first_sized s h.id bytes _ _ live there more) ];
    }

pub returns-in-None-stop_of-clause-stops : goal.returns-in-None-stop_of-clause-stops
returns-in-None-stop_of-clause-stops g c =
    let s = c.args.store.now in
    let h = c.in-Some.held in
    let bytes = c.full_size-bytes.result in
    let there : sized_there s c.args.size (held_at c.args.regions.now c.args.pid c.args.index) ≡ Resizes h.id.age bytes ∷ [] =
    ap (sized_there s c.args.size) (sym c.in-Some.ensures.held) ∙ is_sized s c.args.size bytes h c.full_size-bytes.ensures.size (sym c.if-has_size.ensures) in
    let live = c.requires.order.held.live c.args.pid c.args.index h (sym c.in-Some.ensures.held) in
    record {
      no_room = λ e. absurd (cc);
      all_load = λ e. absurd (cc);
      idle = λ none. elim (idle_or _ s c.resize.new.store _ _ c.resize.ensures.idle none) [ inl i ↦ inl i | inr more ↦ inr (first_sized s h.id bytes _ _ live there more) ];
    }

pub returns-then-has_size-clause-always_no_room : goal.returns-then-has_size-clause-always_no_room
returns-then-has_size-clause-always_no_room g c = λ x.
    absurd (none_first c.args.store.now _ _ (ap (sized_there c.args.store.now c.args.size) (sym c.in-Some.ensures.held) ∙ not_sized c.args.store.now c.args.size c.full_size-bytes.result c.in-Some.held c.full_size-bytes.ensures.size (sym c.if-has_size.ensures)) x)

pub returns-in-None-clause-always_no_room : goal.returns-in-None-clause-always_no_room
returns-in-None-clause-always_no_room g c = λ x. absurd (none_first c.args.store.now _ _ (ap (sized_there c.args.store.now c.args.size) (sym c.in-None.ensures.held)) x)

pub returns-in-Some-stop_of-clause-always_no_room : goal.returns-in-Some-stop_of-clause-always_no_room
returns-in-Some-stop_of-clause-always_no_room g c = λ x.
    let s = c.args.store.now in
    let h = c.in-Some.held in
    let bytes = c.full_size-bytes.result in
    let there : sized_there s c.args.size (held_at c.args.regions.now c.args.pid c.args.index) ≡ Resizes h.id.age bytes ∷ [] =
    ap (sized_there s c.args.size) (sym c.in-Some.ensures.held) ∙ is_sized s c.args.size bytes h c.full_size-bytes.ensures.size (sym c.if-has_size.ensures) in
    let live = c.requires.order.held.live c.args.pid c.args.index h (sym c.in-Some.ensures.held) in
    let z : Resizes h.id.age bytes ∷ [] ≡ Resizes x.name x.size ∷ x.rest = sym there ∙ x.change in
    let age : h.id.age ≡ x.name = cc in
    let same : bytes ≡ x.size = cc in
    let y = x.each h.id live age in
    let lacks = c.resize.ensures.always_no_room y.0 y.1 (subst (λ (n : ℕ). s.places.size < all_wanted_at s h.id.key c.args.keep.now n) (sym same) y.2) in
    ap Some (room_stops c.resize.result c.in-Some-stop_of.stop c.in-Some-stop_of.ensures lacks)

pub returns-in-None-stop_of-clause-always_no_room : goal.returns-in-None-stop_of-clause-always_no_room
returns-in-None-stop_of-clause-always_no_room g c = λ x.
    let s = c.args.store.now in
    let h = c.in-Some.held in
    let bytes = c.full_size-bytes.result in
    let there : sized_there s c.args.size (held_at c.args.regions.now c.args.pid c.args.index) ≡ Resizes h.id.age bytes ∷ [] =
    ap (sized_there s c.args.size) (sym c.in-Some.ensures.held) ∙ is_sized s c.args.size bytes h c.full_size-bytes.ensures.size (sym c.if-has_size.ensures) in
    let live = c.requires.order.held.live c.args.pid c.args.index h (sym c.in-Some.ensures.held) in
    let z : Resizes h.id.age bytes ∷ [] ≡ Resizes x.name x.size ∷ x.rest = sym there ∙ x.change in
    let age : h.id.age ≡ x.name = cc in
    let same : bytes ≡ x.size = cc in
    let y = x.each h.id live age in
    let lacks = c.resize.ensures.always_no_room y.0 y.1 (subst (λ (n : ℕ). s.places.size < all_wanted_at s h.id.key c.args.keep.now n) (sym same) y.2) in
    absurd (room_never c.resize.result c.in-None-stop_of.ensures lacks)
