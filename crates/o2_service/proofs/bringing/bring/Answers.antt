use Rattle.std.proofs.Common.{◌≡◌, ◌≢◌, ◌<◌, ◌≤◌, ◌∙◌, ap, arith, ℕ, length, None, IsSome, refl, subst, sym, true, false}
use Rattle.o2_entries.specs.Tables.{slot_at}
use Rattle.o2_swapmap.specs.Piles.{all_of, blocks_of}
use Rattle.o2_store.specs.Idle.{NoneTaken}
use Rattle.o2_store.specs.Loads.{live_load, swap_load}
use Rattle.o2_store.specs.Needs.{all_wanted, named_in}
use Rattle.o2_store.specs.Pictures.{picture, HasPicture}
use Rattle.o2_store.specs.Shelf.{Shelf, HasAll, entry, entry_of, place_of}
use Rattle.o2_store.proofs.Asking.{asks_behind, asks_nothing}
use Rattle.o2_store.proofs.Departing.{leave_same, leave_still, slide_keys}
use Rattle.o2_store.proofs.Keeping.{keeps_refl, keys_clean, keys_keep}
use Rattle.o2_store.proofs.Leaving.{some_not_none}
use Rattle.o2_service.proofs.Movings.{base_none, follows_keys, follows_refl, held_keys, none_based, settled_keys}
use Rattle.o2_service.proofs.Turns.{leave_unkeyed, nobody_leaves}
use Rattle.o2_service.proofs.bringing.bring.Goals as goal

pub returns-then-is_some-clause-follows : goal.returns-then-is_some-clause-follows
returns-then-is_some-clause-follows g c = follows_refl c.args.store.now c.args.regions.now c.requires.held c.requires.settled

pub returns-then-not-fits : goal.returns-then-not-fits
returns-then-not-fits g c =
    let S = g.S.SwapDevice in
    let s = c.args.store.now in
    let t = c.fits.new.self in
    let e = c.fits.ensures.shelf in
    let pic = picture c.args.images.now in
    let a = S.block c.args.swap.now in
    record {
      keeps = keys_keep (S.told c.args.swap.now) pic s t t a a e (keeps_refl (S.told c.args.swap.now) pic t a);
      clean = keys_clean pic s t e c.requires.backed.clean;
      device = record { blocks = refl; told = λ w. w; faults = omega arith; cause = λ r. absurd cc };
      map = ap (λ (z : Shelf). all_of z.swap) e;
      follows = follows_keys s t c.args.regions.now e c.requires.held c.requires.settled;
      kept = λ k n i. subst (λ (z : Shelf). IsSome (place_of z k)) (sym e) i;
      none = λ k d n. ap (λ (z : Shelf). place_of z k) e ∙ n;
      turns = nobody_leaves c.args.id.key c.args.keep.now _ s t (λ k. ap (λ (z : Shelf). place_of z k) e);
      leave = leave_still s t _ (ap (λ (z : Shelf). z.places) e);
      slide = λ start k f d i. ap (λ (z : Shelf). place_of z k) e;
      piles = λ k l n. ap (λ (z : Shelf). blocks_of z.swap k) e;
      asks = λ n. asks_nothing _ _ _ _ _ refl (λ r. absurd cc);
      unasked = λ i. refl;
      here = λ r. absurd cc;
      out = λ r n. ap (λ (z : Shelf). place_of z c.args.id.key) e ∙ n;
      no_room = λ r. c.fits.ensures.none c.if-not-fits.true;
      absent = λ r. base_none (entry_of s c.args.id) (place_of s c.args.id.key) c.requires.live (rw c.base.ensures at (sym c.is_some.ensures ∙ c.if-is_some.false));
      always_no_room = λ n l. refl;
      loads = λ r. absurd cc;
      stuck = λ r. absurd cc;
      idle = λ none load. record { device = refl; none = subst (λ (z : Shelf). NoneTaken z.swap) (sym e) none };
      never = λ r. cc;
    }

pub bring_in-requires : goal.bring_in-requires
bring_in-requires g c =
    let s = c.args.store.now in
    let t = c.fits.new.self in
    let e = c.fits.ensures.shelf in
    let n = base_none (entry_of s c.args.id) (place_of s c.args.id.key) c.requires.live (rw c.base.ensures at (sym c.is_some.ensures ∙ c.if-is_some.false)) in
    record {
      live = subst (λ (z : Shelf). IsSome (entry_of z c.args.id)) (sym e) c.requires.live;
      whole = subst (λ (z : Shelf). (entry z c.args.id.key).attr.gone ≡ false) (sym e) c.requires.whole;
      out = ap (λ (z : Shelf). place_of z c.args.id.key) e ∙ n;
      fits = subst (λ (z : Shelf). all_wanted z c.args.id.key c.args.keep.now ≤ z.places.size) (sym e) (c.fits.ensures.fits c.if-not-fits.false);
      held = held_keys s t c.args.regions.now e c.requires.held;
      settled = settled_keys s t c.args.regions.now e c.requires.settled;
      pictures = subst (λ (z : Shelf). HasAll (HasPicture c.args.images.now) z) (sym e) c.requires.pictures;
      backed = record {
        clean = keys_clean (picture c.args.images.now) s t e c.requires.backed.clean;
        device = subst (λ (z : Shelf). all_of z.swap ≤ g.S.SwapDevice.blocks c.args.swap.now) (sym e) c.requires.backed.device;
      };
    }

pub returns : goal.returns
returns g c =
    let S = g.S.SwapDevice in
    let s = c.args.store.now in
    let t = c.fits.new.self in
    let u = c.bring_in.new.store in
    let e = c.fits.ensures.shelf in
    let q = c.bring_in.ensures in
    record {
      keeps = keys_keep (S.told c.bring_in.new.swap) (picture c.args.images.now) s t u (S.block c.args.swap.now) (S.block c.bring_in.new.swap) e q.keeps;
      clean = q.clean;
      device = q.device;
      map = q.map ∙ ap (λ (z : Shelf). all_of z.swap) e;
      follows = q.follows;
      kept = subst (λ (z : Shelf). (k : ℕ) → named_in z.entries c.args.keep.now k ≡ true → IsSome (place_of z k) → IsSome (place_of u k)) e q.kept;
      none = subst (λ (z : Shelf). (k : ℕ) → k ≢ c.args.id.key → place_of z k ≡ None → place_of u k ≡ None) e q.none;
      turns = leave_unkeyed s t u c.args.id.key c.args.keep.now e q.turns;
      leave = leave_same s t u _ (ap (λ (z : Shelf). z.places) e) (ap (λ (z : Shelf). z.entries) e) q.leave;
      slide = slide_keys s t u c.args.id.key e q.slide;
      piles = subst (λ (z : Shelf). (k : ℕ) → k < length z.entries → place_of z k ≡ None → blocks_of u.swap k ≡ blocks_of z.swap k) e q.piles;
      asks = λ n. asks_behind _ _ _ _ _ _ _ _ (ap (λ (z : Shelf). blocks_of z.swap c.args.id.key) e) refl (λ r. r) q.asks;
      unasked = λ i. absurd (some_not_none (place_of s c.args.id.key) i (base_none (entry_of s c.args.id) (place_of s c.args.id.key) c.requires.live (rw c.base.ensures at (sym c.is_some.ensures ∙ c.if-is_some.false))));
      here = q.here;
      out = λ r n. q.out r;
      no_room = λ r. absurd (q.never.0 r);
      absent = λ r. absurd (q.never.0 r);
      always_no_room = λ n l. absurd (let room = c.fits.ensures.fits c.if-not-fits.false in omega (arith, room, l));
      loads = λ r. subst (λ (z : Shelf). (all_of z.swap < swap_load z) × (z.places.size < live_load z)) e (q.loads r);
      stuck = λ r. let k = q.stuck r in record { full = k.full; out = k.out; same = k.same ∙ ap (λ (z : Shelf). slot_at z.entries c.args.id.key) e };
      idle = λ none load. q.idle (subst (λ (z : Shelf). NoneTaken z.swap) (sym e) none) (subst (λ (z : Shelf). live_load z ≤ z.places.size) (sym e) load);
      never = q.never.1;
    }

pub returns-then-is_some-clause-leave : goal.returns-then-is_some-clause-leave
returns-then-is_some-clause-leave g c = leave_still c.args.store.now c.args.store.now _ refl

pub returns-then-is_some-clause-slide : goal.returns-then-is_some-clause-slide
returns-then-is_some-clause-slide g c = λ start k f d i. refl

pub returns-then-is_some-clause-always_no_room : goal.returns-then-is_some-clause-always_no_room
returns-then-is_some-clause-always_no_room g c = λ n l.
    absurd (none_based (entry_of c.args.store.now c.args.id) (place_of c.args.store.now c.args.id.key) n (rw c.base.ensures at (sym c.is_some.ensures ∙ c.if-is_some.true)))

pub returns-then-is_some-clause-asks : goal.returns-then-is_some-clause-asks
returns-then-is_some-clause-asks g c = λ n.
    absurd (none_based (entry_of c.args.store.now c.args.id) (place_of c.args.store.now c.args.id.key) n (rw c.base.ensures at (sym c.is_some.ensures ∙ c.if-is_some.true)))

pub returns-then-is_some-clause-turns : goal.returns-then-is_some-clause-turns
returns-then-is_some-clause-turns g c = nobody_leaves c.args.id.key c.args.keep.now _ c.args.store.now c.args.store.now (λ k. refl)
