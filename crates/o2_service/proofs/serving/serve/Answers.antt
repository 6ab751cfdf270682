use Rattle.std.proofs.Common.{◌≤◌, ◌∙◌, ap, refl, sym, subst, is_some}
use Rattle.o2_swapmap.specs.Piles.{all_of}
use Rattle.std.proofs.lemmas.Bool.{false≢true}
use Rattle.o2_store.specs.Idle.{NoneTaken}
use Rattle.o2_store.specs.Loads.{live_load}
use Rattle.o2_store.specs.Pictures.{picture, HasPicture}
use Rattle.o2_store.specs.Shelf.{Shelf, HasAll}
use Rattle.o2_store.proofs.Departing.{leave_same, leave_still}
use Rattle.o2_service.specs.Needs.{AreServed}
use Rattle.o2_service.proofs.Fitting.{all_present}
use Rattle.o2_service.proofs.Clocks.{clean_marked, held_learned, keeps_marked, live_marked, locked_marked, needed_marked, only_bits, only_marked, settled_learned, stays_marked, whole_marked}
use Rattle.o2_service.proofs.Placing.{only_trans}
use Rattle.o2_service.proofs.Reading.{asks_marked, needs_nothing}
use Rattle.o2_service.proofs.serving.serve.Goals as goal

pub bring_all-requires : goal.bring_all-requires
bring_all-requires g c =
    let s = c.args.store.now in
    let t = c.learn.new.store in
    let l = c.learn.ensures.learned in
    record {
      live = live_marked s t c.args.need.now l.rest c.requires.live;
      whole = whole_marked s t c.args.need.now l.rest c.requires.whole;
      fits = needed_marked s t c.args.need.now l.rest (c.is_room.ensures.room c.if-not-is_room.false);
      held = held_learned s t c.args.regions.now c.learn.new.regions l c.requires.held;
      settled = settled_learned s t c.args.regions.now c.learn.new.regions l c.requires.settled;
      pictures = subst (λ (z : Shelf). HasAll (HasPicture c.args.images.now) z) (sym l.rest) c.requires.pictures;
      backed = record {
        clean = clean_marked s t (picture c.args.images.now) l.rest c.requires.backed.clean;
        device = subst (λ (z : Shelf). all_of z.swap ≤ g.S.SwapDevice.blocks c.args.swap.now) (sym l.rest) c.requires.backed.device;
      };
    }

pub returns-clause-held : goal.returns-clause-held
returns-clause-held g c = c.bring_all.ensures.follows.held

pub returns-clause-settled : goal.returns-clause-settled
returns-clause-settled g c = c.bring_all.ensures.follows.settled

pub returns-clause-maps : goal.returns-clause-maps
returns-clause-maps g c =
    only_trans c.args.regions.now c.learn.new.regions c.bring_all.new.regions (only_bits c.args.regions.now c.learn.new.regions c.learn.ensures.learned.bits) c.bring_all.ensures.follows.maps

pub returns-clause-keeps : goal.returns-clause-keeps
returns-clause-keeps g c =
    let S = g.S.SwapDevice in
    keeps_marked (S.told c.bring_all.new.swap) (picture c.args.images.now) c.args.store.now c.learn.new.store c.bring_all.new.store (S.block c.args.swap.now) (S.block c.bring_all.new.swap)
    c.learn.ensures.learned.rest c.bring_all.ensures.keeps

pub returns-clause-stays : goal.returns-clause-stays
returns-clause-stays g c = stays_marked c.args.store.now c.learn.new.store c.bring_all.new.store c.args.need.now c.learn.ensures.learned.rest c.bring_all.ensures.stays

pub returns-clause-only : goal.returns-clause-only
returns-clause-only g c = only_marked c.args.store.now c.learn.new.store c.bring_all.new.store c.args.need.now c.learn.ensures.learned.rest c.bring_all.ensures.only

pub returns-clause-locked : goal.returns-clause-locked
returns-clause-locked g c = locked_marked c.args.store.now c.learn.new.store c.bring_all.new.store c.learn.ensures.learned.rest c.bring_all.ensures.locked

pub returns-clause-clear : goal.returns-clause-clear
returns-clause-clear g c = λ k n o r. c.bring_all.ensures.follows.unused c.learn.ensures.clear

pub returns-then-are_here-clause-clear : goal.returns-then-are_here-clause-clear
returns-then-are_here-clause-clear g c = λ k n o r.
    absurd (false≢true (sym (ap is_some o) ∙ all_present c.args.store.now c.args.need.now k (rw c.pairs.ensures.pairs at (c.are_here.ensures.here c.if-are_here.true)) n))

pub returns-clause-idle : goal.returns-clause-idle
returns-clause-idle g c = λ none load.
    (let e = c.learn.ensures.learned.rest in
    c.bring_all.ensures.idle (subst (λ (z : Shelf). NoneTaken z.swap) (sym e) none) (subst (λ (z : Shelf). live_load z ≤ z.places.size) (sym e) load))

pub returns-then-are_here-clause-leave : goal.returns-then-are_here-clause-leave
returns-then-are_here-clause-leave g c = λ r. leave_still c.args.store.now c.args.store.now 0 refl

pub returns-clause-leave : goal.returns-clause-leave
returns-clause-leave g c = λ r.
    (let e = c.learn.ensures.learned.rest in
    leave_same c.args.store.now c.learn.new.store c.bring_all.new.store 0 (ap (λ (z : Shelf). z.places) e) (ap (λ (z : Shelf). z.entries) e) (c.bring_all.ensures.leave r))

pub returns-then-are_here-clause-same : goal.returns-then-are_here-clause-same
returns-then-are_here-clause-same g c = λ a. (refl, refl, refl, refl)

pub returns-then-not-is_room-clause-same : goal.returns-then-not-is_room-clause-same
returns-then-not-is_room-clause-same g c = λ a.
    absurd (let missing : AreServed c.args.store.now c.args.need.now → ⊥ = rw c.pairs.ensures.pairs at (c.are_here.ensures.missing c.if-are_here.false) in missing a)

pub returns-clause-same : goal.returns-clause-same
returns-clause-same g c = λ a.
    absurd (let missing : AreServed c.args.store.now c.args.need.now → ⊥ = rw c.pairs.ensures.pairs at (c.are_here.ensures.missing c.if-are_here.false) in missing a)

pub returns-clause-asks : goal.returns-clause-asks
returns-clause-asks g c = asks_marked c.args.store.now c.learn.new.store c.args.need.now _ _ c.learn.ensures.learned.rest c.bring_all.ensures.asks

pub returns-then-are_here-clause-asks : goal.returns-then-are_here-clause-asks
returns-then-are_here-clause-asks g c = needs_nothing _ _ _ _ refl

pub returns-then-not-is_room-clause-asks : goal.returns-then-not-is_room-clause-asks
returns-then-not-is_room-clause-asks g c = needs_nothing _ _ _ _ refl
