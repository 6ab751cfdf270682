use Rattle.std.proofs.Common.{◌≡◌, ◌==◌, length, ap, sym, subst, ◌∙◌}
use Rattle.o2_store.specs.Shelf.{Shelf}
use Rattle.o2_ends.specs.LetsGo.{FreesAt, LetsGo, Sheds, goes_with}
use Rattle.o2_regions.specs.declared.held.Held.{Held}
use Rattle.o2_ends.proofs.Dropping.{frees_at}
use Rattle.o2_ends.proofs.Holders.{nobody_by, some_is, somebody_by}
use Rattle.o2_ends.proofs.Letting.{lets_one, sheds_none, sheds_one}
use Rattle.o2_store.specs.Idle.{NoneTaken}
use Rattle.o2_ends.proofs.ending.let_go_at.Goals as goal
use Rattle.o2_ends.proofs.ending.let_go_at.Goals.{else-is_none, then-is_none}

pub returns-clause-maps : goal.returns-clause-maps
returns-clause-maps c =
    lets_one c.args.regions.now c.drop_all.new.regions c.release_held.new.regions c.args.pid c.args.index c.drop_all.ensures c.release_held.ensures.maps

pub returns-clause-frees : goal.returns-clause-frees
returns-clause-frees c = λ h e.
    let m = c.args.regions.now in
    let n = c.release_held.new.regions in
    let same : c.in-Some.held ≡ h = some_is c.in-Some.held h (c.in-Some.ensures.held ∙ e) in
    subst (λ (x : Held). FreesAt m n (λ j. goes_with n c.args.pid c.args.index x j)) same (frees_at m c.drop_all.new.regions n c.args.pid c.args.index c.in-Some.held c.drop_all.ensures c.release_held.ensures)

pub returns-clause-store : goal.returns-clause-store
returns-clause-store c =
    let s = c.args.store.now in
    let m = c.args.regions.now in
    let n = c.release_held.new.regions in
    let h = c.in-Some.held in
    let pid = c.args.pid in
    let i = c.args.index in
    let at = sym c.in-Some.ensures.held in
    let w : LetsGo m n pid (λ j. j == i) = lets_one m c.drop_all.new.regions n pid i c.drop_all.ensures c.release_held.ensures.maps in
    elim c.if-is_none.branch [
      | then-is_none x ↦
          (let live = c.requires.held.live pid i h at in
          let r = x.remove.ensures.removed (x.remove.ensures.live.1 live) in
          let now = subst (λ (t : Shelf). t.places.size ≡ length t.memory) x.store-is c.law-4.ensures.shelf.memory in
          let size = now ∙ (ap (λ (t : Shelf). length t.memory) r.shelf ∙ sym c.law.ensures.shelf.memory) in
          subst (λ (t : Shelf). Sheds s m t n) (sym x.store-is)
          (sheds_one s m n pid i h at w x.remove.new.self live r x.remove.ensures.map size
          (nobody_by n h.id c.holder.result c.is_none.result c.holder.ensures c.is_none.ensures x.if-is_none.true)))
      | else-is_none x ↦
          subst (λ (t : Shelf). Sheds s m t n) (sym x.store-is)
          (sheds_none s m n pid i h at w (somebody_by n h.id c.holder.result c.is_none.result c.holder.ensures c.is_none.ensures x.if-is_none.false))
    ]

pub returns-clause-unused : goal.returns-clause-unused
returns-clause-unused c = λ none.
    elim c.if-is_none.branch [
      | then-is_none x ↦ subst (λ (t : Shelf). NoneTaken t.swap) (sym x.store-is) (x.remove.ensures.unused none)
      | else-is_none x ↦ subst (λ (t : Shelf). NoneTaken t.swap) (sym x.store-is) none
    ]
