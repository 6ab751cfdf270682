use Rattle.std.proofs.Common.{◌≡◌, ◌<◌, inl, inr, refl, ℕ, ◌/◌, [], Option, IfSome, true, false, ap, subst, sym, ◌∙◌, IsSome, arith}
use Rattle.o2_changes.proofs.KeepingHolds.{told_holds}
use Rattle.o2_stands.specs.Knows.{known_in}
use Rattle.o2_segs.proofs.Resizing.{keeps, realloc_done, realloc_fixed, realloc_kept, realloc_none, refusal_moved, sized_matches, stopped_matches}
use Rattle.o2_segs.proofs.Rows.{done_answers, refusal_answers}
use Rattle.o2_segs.proofs.Stops.{denied, error_none, not_here, room_never, room_stops, stop_answers, stop_full, stop_room, was_here, stop_fault}
use Rattle.o2_regions.specs.declared.answer.Roomed.TheVariants.{Done, NoRoom}
use Rattle.o2_regions.specs.declared.held.Held.{Held}
use Rattle.o2_store.specs.Loads.{live_load_at}
use Rattle.o2_store.specs.Shelf.{place_of}
use Rattle.o2_store.specs.Sizes.{all_wanted_at, stays}
use Rattle.o2_segs.specs.Answers.{AnswersRoomed, changes_roomed}
use Rattle.o2_segs.specs.Remade.{wants_room}
use Rattle.o2_segs.proofs.Discarded.{gone_wanted, room_wanted, unrefused_any, wanted_room}
use Rattle.o2_segs.proofs.Selecting.{under_held}
use Rattle.o2_stands.specs.Moves.{moved}
use Rattle.o2_stands.specs.Stands.{Matches}
use Rattle.o2_world.specs.Changes.{with_all}
use Rattle.o2_world.specs.Rulings.{Ruling, full_size, grants, reallocation, resizes_with}
use Rattle.o2_segs.proofs.Limits.{limits_moved, limits_refl, limits_sized}
use Rattle.o2_store.proofs.Idling.{idle_or}
use Rattle.o2_segs.proofs.Idling.{unrefused_by}
use Rattle.o2_regions.specs.declared.answer.Answer.{Answer}
use Rattle.o2_store.proofs.Framing.{device_for}
use Rattle.o2_changes.proofs.Framing.{for_refl}
use Rattle.o2_segs.proofs.reallocating.realloc_seg.Goals as goal

pub returns-then-is_fixed-clause-answer : goal.returns-then-is_fixed-clause-answer
returns-then-is_fixed-clause-answer g c = λ p o es em. refusal_answers _ 5 c.refusal.result (realloc_fixed p o c.args.regions.now c.args.pid c.args.size c.args.sel c.in-Some.held em (sym c.in-Some.ensures) (sym c.if-is_fixed.ensures)) c.refusal.ensures

pub returns-then-is_fixed-clause-matches : goal.returns-then-is_fixed-clause-matches
returns-then-is_fixed-clause-matches g c = λ p o w es em ei eb tells q. refusal_moved p c.args.store.now c.args.regions.now _ w _ 5 es em eb (realloc_fixed p o c.args.regions.now c.args.pid c.args.size c.args.sel c.in-Some.held em (sym c.in-Some.ensures) (sym c.if-is_fixed.ensures)) q

pub returns-then-keeps_its_size-clause-answer : goal.returns-then-keeps_its_size-clause-answer
returns-then-keeps_its_size-clause-answer g c = λ p o es em. refusal_answers _ 5 c.refusal-then-keeps_its_size.result
    (realloc_kept p o c.args.store.now c.args.regions.now c.args.pid c.args.size c.args.sel c.in-Some.held es em c.requires.caller.named
    (sym c.in-Some.ensures) (sym c.if-is_fixed.ensures)
    (ap (keeps c.args.store.now c.in-Some.held.id.key) (sym c.full_size-bytes.ensures.size) ∙ sym c.if-keeps_its_size.ensures))
    c.refusal-then-keeps_its_size.ensures

pub returns-then-keeps_its_size-clause-matches : goal.returns-then-keeps_its_size-clause-matches
returns-then-keeps_its_size-clause-matches g c = λ p o w es em ei eb tells q. refusal_moved p c.args.store.now c.args.regions.now _ w _ 5 es
    em eb (realloc_kept p o c.args.store.now c.args.regions.now c.args.pid c.args.size c.args.sel c.in-Some.held es em
    c.requires.caller.named (sym c.in-Some.ensures) (sym c.if-is_fixed.ensures)
    (ap (keeps c.args.store.now c.in-Some.held.id.key) (sym c.full_size-bytes.ensures.size) ∙ sym c.if-keeps_its_size.ensures)) q

pub returns-in-Some-stop_of-clause-answer : goal.returns-in-Some-stop_of-clause-answer
returns-in-Some-stop_of-clause-answer g c = λ p o es em. stop_answers _ c.resize.result c.in-Some-stop_of.stop
    (error_none (realloc_done p o c.args.store.now c.args.regions.now c.args.pid c.args.size c.args.sel c.in-Some.held es em
    c.requires.caller.named (sym c.in-Some.ensures) (sym c.if-is_fixed.ensures)
    (ap (keeps c.args.store.now c.in-Some.held.id.key) (sym c.full_size-bytes.ensures.size) ∙ sym c.if-keeps_its_size.ensures) false (sym c.if-is_discarded.ensures)))
    c.in-Some-stop_of.ensures

pub returns-in-Some-stop_of-clause-matches : goal.returns-in-Some-stop_of-clause-matches
returns-in-Some-stop_of-clause-matches g c = λ p o w es em ei eb tells q.
    stopped_matches p w c.resize.new.store c.resize.new.regions _ (reallocation (known_in p o) c.args.pid c.args.size c.args.sel)
    c.resize.result c.in-Some-stop_of.stop c.in-Some-stop_of.ensures
    ((c.resize.ensures.stays (not_here c.resize.result c.in-Some-stop_of.stop c.in-Some-stop_of.ensures)).world p w es em ei eb tells q)

pub returns-in-None-stop_of-clause-answer : goal.returns-in-None-stop_of-clause-answer
returns-in-None-stop_of-clause-answer g c = λ p o es em. done_answers _ _ 0 c.done.result
    (realloc_done p o c.args.store.now c.args.regions.now c.args.pid c.args.size c.args.sel c.in-Some.held es em c.requires.caller.named
    (sym c.in-Some.ensures) (sym c.if-is_fixed.ensures)
    (ap (keeps c.args.store.now c.in-Some.held.id.key) (sym c.full_size-bytes.ensures.size) ∙ sym c.if-keeps_its_size.ensures) false (sym c.if-is_discarded.ensures))
    c.done.ensures

pub returns-in-None-stop_of-clause-matches : goal.returns-in-None-stop_of-clause-matches
returns-in-None-stop_of-clause-matches g c = λ p o w es em ei eb tells q.
    sized_matches p w c.resize.new.store c.resize.new.regions _ c.in-Some.held.id _ _ _
    (realloc_done p o c.args.store.now c.args.regions.now c.args.pid c.args.size c.args.sel c.in-Some.held es em c.requires.caller.named
    (sym c.in-Some.ensures) (sym c.if-is_fixed.ensures)
    (ap (keeps c.args.store.now c.in-Some.held.id.key) (sym c.full_size-bytes.ensures.size) ∙ sym c.if-keeps_its_size.ensures) false (sym c.if-is_discarded.ensures))
    c.full_size-bytes.ensures.size
    ((c.resize.ensures.matches (was_here c.resize.result c.in-None-stop_of.ensures c.resize.ensures.never)).world p w es em ei eb tells q)

pub returns-in-None-clause-answer : goal.returns-in-None-clause-answer
returns-in-None-clause-answer g c = λ p o es em. refusal_answers _ 5 c.refusal-in-None.result (realloc_none p o c.args.regions.now c.args.pid c.args.size c.args.sel em (sym c.in-None.ensures)) c.refusal-in-None.ensures

pub returns-in-None-clause-matches : goal.returns-in-None-clause-matches
returns-in-None-clause-matches g c = λ p o w es em ei eb tells q. refusal_moved p c.args.store.now c.args.regions.now _ w _ 5 es em eb (realloc_none p o c.args.regions.now c.args.pid c.args.size c.args.sel em (sym c.in-None.ensures)) q

pub returns-in-Some-stop_of-clause-no_room : goal.returns-in-Some-stop_of-clause-no_room
returns-in-Some-stop_of-clause-no_room g c = λ e.
    (let s = c.args.store.now in
    let lacks = c.resize.ensures.no_room (stop_room c.resize.result c.in-Some-stop_of.stop c.in-Some-stop_of.ensures e) in
    subst (λ (y : Option Held). IfSome y (λ h. (wants_room s h.id.key c.args.keep.now ≡ true) × (s.places.size < all_wanted_at s h.id.key c.args.keep.now (full_size c.args.size)))) c.in-Some.ensures
    (room_wanted s c.in-Some.held.id.key c.args.keep.now lacks.0 lacks.1, subst (λ (n : ℕ). s.places.size < all_wanted_at s c.in-Some.held.id.key c.args.keep.now n) c.full_size-bytes.ensures.size lacks.2))

pub returns-in-Some-stop_of-clause-all_load : goal.returns-in-Some-stop_of-clause-all_load
returns-in-Some-stop_of-clause-all_load g c = λ e.
    (let s = c.args.store.now in
    subst (λ (y : Option Held). IfSome y (λ h. s.places.size < live_load_at s h.id.key (full_size c.args.size))) c.in-Some.ensures
    (subst (λ (n : ℕ). s.places.size < live_load_at s c.in-Some.held.id.key n) c.full_size-bytes.ensures.size (c.resize.ensures.loads (stop_full c.resize.result c.in-Some-stop_of.stop c.in-Some-stop_of.ensures e)).1))

pub returns-then-is_fixed-clause-limits : goal.returns-then-is_fixed-clause-limits
returns-then-is_fixed-clause-limits g c = limits_refl c.args.store.now c.args.regions.now

pub returns-then-keeps_its_size-clause-limits : goal.returns-then-keeps_its_size-clause-limits
returns-then-keeps_its_size-clause-limits g c = limits_refl c.args.store.now c.args.regions.now

pub returns-in-Some-stop_of-clause-limits : goal.returns-in-Some-stop_of-clause-limits
returns-in-Some-stop_of-clause-limits g c =
    limits_moved c.args.store.now c.resize.new.store c.args.regions.now c.resize.new.regions (c.resize.ensures.keeps (not_here c.resize.result c.in-Some-stop_of.stop c.in-Some-stop_of.ensures)).tables c.resize.ensures.maps

pub returns-in-None-stop_of-clause-limits : goal.returns-in-None-stop_of-clause-limits
returns-in-None-stop_of-clause-limits g c =
    limits_sized _ _ c.args.store.now c.resize.new.store _ _ c.args.regions.now c.resize.new.regions _ _ (c.resize.ensures.resized (was_here c.resize.result c.in-None-stop_of.ensures c.resize.ensures.never)) c.resize.ensures.maps

pub returns-in-None-clause-limits : goal.returns-in-None-clause-limits
returns-in-None-clause-limits g c = limits_refl c.args.store.now c.args.regions.now

pub returns-in-Some-stop_of-clause-holds : goal.returns-in-Some-stop_of-clause-holds
returns-in-Some-stop_of-clause-holds g c = told_holds c.args.regions.now c.resize.new.regions c.resize.ensures.maps

pub returns-in-None-stop_of-clause-holds : goal.returns-in-None-stop_of-clause-holds
returns-in-None-stop_of-clause-holds g c = told_holds c.args.regions.now c.resize.new.regions c.resize.ensures.maps

pub returns-then-is_fixed-clause-idle : goal.returns-then-is_fixed-clause-idle
returns-then-is_fixed-clause-idle g c = λ none. inl (record { device = refl; none = none })

pub returns-then-keeps_its_size-clause-idle : goal.returns-then-keeps_its_size-clause-idle
returns-then-keeps_its_size-clause-idle g c = λ none. inl (record { device = refl; none = none })

pub returns-in-None-clause-idle : goal.returns-in-None-clause-idle
returns-in-None-clause-idle g c = λ none. inl (record { device = refl; none = none })

pub returns-in-Some-stop_of-clause-idle : goal.returns-in-Some-stop_of-clause-idle
returns-in-Some-stop_of-clause-idle g c = λ none.
    (let s = c.args.store.now in
    elim (idle_or _ s c.resize.new.store _ _ c.resize.ensures.idle none) [
      | inl i ↦ inl i
      | inr more ↦ inr (
        unrefused_by c.resize.result c.in-Some-stop_of.stop c.in-Some-stop_of.ensures,
        subst (λ (y : Option Held). IfSome y (λ h. s.places.size < live_load_at s h.id.key (full_size c.args.size))) c.in-Some.ensures
            (subst (λ (n : ℕ). s.places.size < live_load_at s c.in-Some.held.id.key n) c.full_size-bytes.ensures.size more),
      )
    ])

pub returns-in-None-stop_of-clause-idle : goal.returns-in-None-stop_of-clause-idle
returns-in-None-stop_of-clause-idle g c = λ none.
    (let s = c.args.store.now in
    elim (idle_or _ s c.resize.new.store _ _ c.resize.ensures.idle none) [
      | inl i ↦ inl i
      | inr more ↦ inr (
        ap (λ (x : Answer). x.error) c.done.ensures,
        subst (λ (y : Option Held). IfSome y (λ h. s.places.size < live_load_at s h.id.key (full_size c.args.size))) c.in-Some.ensures
            (subst (λ (n : ℕ). s.places.size < live_load_at s c.in-Some.held.id.key n) c.full_size-bytes.ensures.size more),
      )
    ])

pub returns-then-is_fixed-clause-goes_on : goal.returns-then-is_fixed-clause-goes_on
returns-then-is_fixed-clause-goes_on g c = for_refl c.args.images.now c.args.store.now c.args.regions.now c.requires.caller.order c.requires.backed.clean

pub returns-then-keeps_its_size-clause-goes_on : goal.returns-then-keeps_its_size-clause-goes_on
returns-then-keeps_its_size-clause-goes_on g c = for_refl c.args.images.now c.args.store.now c.args.regions.now c.requires.caller.order c.requires.backed.clean

pub returns-in-None-clause-goes_on : goal.returns-in-None-clause-goes_on
returns-in-None-clause-goes_on g c = for_refl c.args.images.now c.args.store.now c.args.regions.now c.requires.caller.order c.requires.backed.clean

pub returns-in-Some-stop_of-clause-device : goal.returns-in-Some-stop_of-clause-device
returns-in-Some-stop_of-clause-device g c = device_for _ _ _ _ _ _ _ (λ e. stop_fault c.resize.result c.in-Some-stop_of.stop c.in-Some-stop_of.ensures e) c.resize.ensures.device

pub returns-in-None-stop_of-clause-device : goal.returns-in-None-stop_of-clause-device
returns-in-None-stop_of-clause-device g c = device_for _ _ _ _ _ _ _ (λ e. absurd (cc)) c.resize.ensures.device

pub returns-then-is_fixed-clause-always_no_room : goal.returns-then-is_fixed-clause-always_no_room
returns-then-is_fixed-clause-always_no_room g c = λ u. absurd (denied c.refusal.result 5 c.refusal.ensures (omega arith) u)

pub returns-then-keeps_its_size-clause-always_no_room : goal.returns-then-keeps_its_size-clause-always_no_room
returns-then-keeps_its_size-clause-always_no_room g c = λ u. absurd (denied c.refusal-then-keeps_its_size.result 5 c.refusal-then-keeps_its_size.ensures (omega arith) u)

pub returns-in-Some-stop_of-clause-always_no_room : goal.returns-in-Some-stop_of-clause-always_no_room
returns-in-Some-stop_of-clause-always_no_room g c = λ u.
    (let s = c.args.store.now in
    let keep = c.args.keep.now in
    subst (λ (y : Option Held). IfSome y (λ h. wants_room s h.id.key keep ≡ true → s.places.size < all_wanted_at s h.id.key keep (full_size c.args.size) → c.in-Some-stop_of.stop ≡ NoRoom))
    c.in-Some.ensures
    (λ wants l. (let both = wanted_room s c.in-Some.held.id.key keep (sym c.if-is_discarded.ensures) wants in
    room_stops c.resize.result c.in-Some-stop_of.stop c.in-Some-stop_of.ensures
    (c.resize.ensures.always_no_room both.0 both.1 (subst (λ (n : ℕ). s.places.size < all_wanted_at s c.in-Some.held.id.key keep n) (sym c.full_size-bytes.ensures.size) l)))))

pub returns-in-None-stop_of-clause-always_no_room : goal.returns-in-None-stop_of-clause-always_no_room
returns-in-None-stop_of-clause-always_no_room g c = λ u.
    (let s = c.args.store.now in
    let keep = c.args.keep.now in
    subst (λ (y : Option Held). IfSome y (λ h. wants_room s h.id.key keep ≡ true → s.places.size < all_wanted_at s h.id.key keep (full_size c.args.size) → Done c.done.result ≡ NoRoom))
    c.in-Some.ensures
    (λ wants l. (let both = wanted_room s c.in-Some.held.id.key keep (sym c.if-is_discarded.ensures) wants in
    absurd (room_never c.resize.result c.in-None-stop_of.ensures
    (c.resize.ensures.always_no_room both.0 both.1 (subst (λ (n : ℕ). s.places.size < all_wanted_at s c.in-Some.held.id.key keep n) (sym c.full_size-bytes.ensures.size) l))))))

pub returns-in-None-clause-always_no_room : goal.returns-in-None-clause-always_no_room
returns-in-None-clause-always_no_room g c = λ u. absurd (denied c.refusal-in-None.result 5 c.refusal-in-None.ensures (omega arith) u)

-- A discarded segment is made anew.

pub remake-requires : goal.remake-requires
remake-requires g c =
    let id = c.in-Some.held.id in
    record {
      live = c.requires.caller.order.held.live c.args.pid (c.args.sel / 8) c.in-Some.held (under_held c.args.regions.now c.args.pid c.args.sel c.in-Some.held (sym c.in-Some.ensures)).1;
      gone = sym c.if-is_discarded.ensures;
      sizes = (c.full_size-bytes.ensures.some, c.full_size-bytes.ensures.most);
      order = c.requires.caller.order;
      pictures = c.requires.pictures;
      backed = c.requires.backed;
    }

pub returns-then-is_discarded : goal.returns-then-is_discarded
returns-then-is_discarded g c =
    let s = c.args.store.now in
    let m = c.args.regions.now in
    let keep = c.args.keep.now in
    let id = c.in-Some.held.id in
    let full = c.full_size-bytes.ensures.size in
    let r = c.remake.ensures in
    let gone = sym c.if-is_discarded.ensures in
    let kept = ap (keeps s id.key) (sym full) ∙ sym c.if-keeps_its_size.ensures in
    record {
      answer = λ p o es em.
          subst (λ (x : Ruling). AnswersRoomed x c.remake.result) (sym (realloc_done p o s m c.args.pid c.args.size c.args.sel c.in-Some.held es em c.requires.caller.named (sym c.in-Some.ensures) (sym c.if-is_fixed.ensures) kept true gone))
          (r.answer (resizes_with id.age (full_size c.args.size) true));
      matches = λ p o w es em ei eb tells q.
          subst (λ (x : Ruling). Matches (moved p c.remake.new.store c.remake.new.regions (g.S.SwapDevice.block c.remake.new.swap)) (with_all w (changes_roomed x c.remake.result)))
          (sym (realloc_done p o s m c.args.pid c.args.size c.args.sel c.in-Some.held es em c.requires.caller.named (sym c.in-Some.ensures) (sym c.if-is_fixed.ensures) kept true gone))
          (subst (λ (n : ℕ). Matches (moved p c.remake.new.store c.remake.new.regions (g.S.SwapDevice.block c.remake.new.swap)) (with_all w (changes_roomed (grants 0 (resizes_with id.age n true)) c.remake.result))) full
          (r.matches p w es em ei eb tells q));
      holds = told_holds m c.remake.new.regions r.maps;
      limits = r.limits;
      goes_on = r.goes_on;
      device = r.device;
      kept = r.kept;
      no_room = λ e.
          subst (λ (y : Option Held). IfSome y (λ h. (wants_room s h.id.key keep ≡ true) × (s.places.size < all_wanted_at s h.id.key keep (full_size c.args.size)))) c.in-Some.ensures
          (gone_wanted s id.key keep gone, subst (λ (n : ℕ). s.places.size < all_wanted_at s id.key keep n) full (r.no_room e));
      always_no_room = λ u.
          subst (λ (y : Option Held). IfSome y (λ h. wants_room s h.id.key keep ≡ true → s.places.size < all_wanted_at s h.id.key keep (full_size c.args.size) → c.remake.result ≡ NoRoom)) c.in-Some.ensures
          (λ wants l. r.always_no_room (subst (λ (n : ℕ). s.places.size < all_wanted_at s id.key keep n) (sym full) l));
      all_load = λ e.
          subst (λ (y : Option Held). IfSome y (λ h. s.places.size < live_load_at s h.id.key (full_size c.args.size))) c.in-Some.ensures
          (subst (λ (n : ℕ). s.places.size < live_load_at s id.key n) full (r.loads e).1);
      load = λ e. (r.loads e).0;
      idle = λ none.
          elim (idle_or _ s c.remake.new.store _ _ r.idle none) [
            | inl i ↦ inl i
            | inr more ↦ inr (
              unrefused_any c.remake.result (r.answer []),
              subst (λ (y : Option Held). IfSome y (λ h. s.places.size < live_load_at s h.id.key (full_size c.args.size))) c.in-Some.ensures
                  (subst (λ (n : ℕ). s.places.size < live_load_at s id.key n) full more),
            )
          ];
    }
