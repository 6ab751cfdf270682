use Rattle.std.proofs.Common.{◌≡◌, arith, ap, ◌∙◌, subst, sym, ℕ, length, IsSome}
use Rattle.o2_place.specs.declared.seg_id.SegId.{SegId}
use Rattle.o2_entries.specs.Tables.{slot_at}
use Rattle.o2_store.specs.Shelf.{entry_of, numbered}
use Rattle.o2_service.specs.Told.{AreToldBelow}
use Rattle.o2_service.proofs.Placing.{below_none, below_skip, below_at, below_all, held_only, only_refl, only_told, live_size, live_of, numbered_is, unnumbered}
use Rattle.o2_service.proofs.settling.settle.Goals as goal
use Rattle.o2_service.proofs.settling.settle.Goals.{in-Some, in_default}

pub loop-key-init : goal.loop-key-init
loop-key-init c = record {
  told = below_none c.args.regions.now c.args.store.now c.requires.empty;
  maps = only_refl c.args.regions.now;
}

pub loop-key-preserved : goal.loop-key-preserved
loop-key-preserved c =
    let s = c.args.store.now in
    let m = c.loop-key.regions in
    let i = c.loop-key.invariant in
    let key = c.loop-key.key in
    let w = held_only s c.args.regions.now m c.requires.held i.maps in
    elim c.match-numbered.branch [
      | in-Some b ↦
          (let id = b.in-Some.id in
          let x = numbered_is (slot_at s.entries key) (numbered s key) id (sym c.numbered.ensures ∙ b.in-Some.is) in
          let live : IsSome (entry_of s id) = subst (λ (y : SegId). IsSome (entry_of s y)) (sym x.0) (live_of s key x.1) in
          let size = live_size s id c.law.ensures.shelf live in
          rw b.regions-is (record {
            told = below_at s m b.tell.new.regions key id b.base.result _ i.told w b.tell.ensures (ap (λ (y : SegId). y.key) x.0) live b.base.ensures (omega (arith, size));
            maps = only_told c.args.regions.now m b.tell.new.regions id _ _ i.maps b.tell.ensures;
          }))
      | in_default b ↦ rw b.regions-is (record {
        told = below_skip key s m i.told w (unnumbered (slot_at s.entries key) (numbered s key) (sym c.numbered.ensures ∙ b.in_default.is));
        maps = i.maps;
      })
    ]

pub returns-clause-settled : goal.returns-clause-settled
returns-clause-settled c =
    let s = c.args.store.now in
    let m = c.loop-key.regions in
    let k : c.loop-key.key ≡ length s.entries = omega (arith, c.loop-key.auto.key-end, c.loop-key-test.false, c.segments-key-end.ensures) in
    below_all s m (subst (λ (x : ℕ). AreToldBelow x s m) k c.loop-key.invariant.told) (held_only s c.args.regions.now m c.requires.held c.loop-key.invariant.maps)
