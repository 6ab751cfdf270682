use Rattle.std.proofs.Common.{◌≡◌, ℕ, ◌-◌, ap, arith, sym, subst, ◌∙◌}
use Rattle.o2_store.specs.Pictures.{HasPicture}
use Rattle.o2_store.specs.Shelf.{Shelf, Removes}
use Rattle.o2_stands.specs.Stands.{Matches}
use Rattle.o2_changes.proofs.DropsStand.{removed_clean, removed_pictures}
use Rattle.o2_changes.proofs.Freeing.{swept_order}
use Rattle.o2_changes.proofs.Guarding.{removed_guards}
use Rattle.o2_changes.proofs.MakesStand.{gone_newest, made_clean_any, unmade_age, unmade_guards, unmade_order}
use Rattle.o2_changes.proofs.Matching.{unmake_matches}
use Rattle.o2_changes.specs.Frames.{KeepsOrder}
use Rattle.o2_changes.proofs.segments.unmake.Goals as goal

pub unmake-requires-clause-some : goal.unmake-requires-clause-some
unmake-requires-clause-some c =
    let r = c.remove.ensures.removed (c.remove.ensures.live.1 c.requires.live) in
    let m : c.remove.new.self.made ≡ c.args.store.now.made = ap (λ (x : Shelf). x.made) r.shelf in
    let l = c.requires.newest.last in
    omega (arith, m, l)

pub unmake-requires-clause-gone : goal.unmake-requires-clause-gone
unmake-requires-clause-gone c =
    gone_newest c.args.store.now c.remove.new.self c.args.id c.requires.live c.requires.newest (c.remove.ensures.removed (c.remove.ensures.live.1 c.requires.live))

pub returns-clause-removed : goal.returns-clause-removed
returns-clause-removed c =
    let r = c.remove.ensures.removed (c.remove.ensures.live.1 c.requires.live) in
    subst (λ (x : Shelf). Removes c.args.store.now (record x { made = c.args.store.now.made }) c.args.id.key) (sym c.unmake.ensures)
    (subst (λ (k : ℕ). Removes c.args.store.now (record c.remove.new.self { made = k }) c.args.id.key) (ap (λ (x : Shelf). x.made) r.shelf) r)

pub returns-clause-made : goal.returns-clause-made
returns-clause-made c =
    unmade_age c.args.store.now c.remove.new.self c.unmake.new.self c.args.id c.requires.newest (c.remove.ensures.removed (c.remove.ensures.live.1 c.requires.live)) c.unmake.ensures

pub returns-clause-matches : goal.returns-clause-matches
returns-clause-matches c =
    let s = c.args.store.now in
    let r = c.remove.new.self in
    let removed = c.remove.ensures.removed (c.remove.ensures.live.1 c.requires.live) in
    let age : r.made - 1 ≡ c.args.id.age = ap (λ (x : Shelf). x.made) (sym c.unmake.ensures) ∙ unmade_age s r c.unmake.new.self c.args.id c.requires.newest removed c.unmake.ensures in
    record {
      world = λ p w sg es em older absent q.
          subst (λ (x : Shelf). Matches (record p { shelf = x }) w) (sym c.unmake.ensures)
          (subst (λ (k : ℕ). Matches (record p { shelf = record r { made = k } }) w) (sym age)
          (unmake_matches s r c.args.regions.now c.args.id c.law.ensures.shelf c.requires.live c.requires.unheld removed
          (swept_order s r c.args.regions.now c.args.id c.requires.live c.requires.unheld removed c.requires.order) c.remove.ensures.map p w sg es em older absent q));
    }

pub returns-clause-goes_on : goal.returns-clause-goes_on
returns-clause-goes_on c =
    let s = c.args.store.now in
    let t = c.remove.new.self in
    let m = c.args.regions.now in
    let id = c.args.id in
    let removed = c.remove.ensures.removed (c.remove.ensures.live.1 c.requires.live) in
    subst (λ (x : Shelf). KeepsOrder s m x m) (sym c.unmake.ensures) (record {
      order = unmade_order t m (t.made - 1) (swept_order s t m id c.requires.live c.requires.unheld removed c.requires.order);
      guards = λ was. unmade_guards t m (t.made - 1) (removed_guards s t m id c.requires.live c.requires.unheld removed c.requires.order was);
      clean = λ pic a. made_clean_any t (t.made - 1) pic (removed_clean s t id.key pic c.law.ensures.shelf removed a);
      pictures = λ images was. removed_pictures s t id.key (HasPicture images) removed was;
      map = c.remove.ensures.map;
      unused = c.remove.ensures.unused;
    })
