use Rattle.std.proofs.Common.{◌≡◌, ◌≢◌, arith, refl}
use Rattle.o2_service.proofs.Placing.{told_all, told_one, held_only, only_refl, only_told, live_size}
use Rattle.o2_service.proofs.Clocks.{told_unused}
use Rattle.o2_service.proofs.settling.settle_moved.Goals as goal

pub returns : goal.returns
returns c =
    let s = c.args.store.now in
    let m = c.args.regions.now in
    let n = c.tell.new.regions in
    let id = c.args.id in
    let size = live_size s id c.law.ensures.shelf c.requires.live in
    let maps = only_told m m n id _ _ (only_refl m) c.tell.ensures in
    record {
      follows = record {
        maps = maps;
        held = held_only s m n c.requires.held maps;
        settled = told_all (λ k. k ≡ k) s n (told_one (λ k. k ≢ id.key) (λ k. k ≡ k) s m n id c.base.result _ c.requires.others c.requires.held c.tell.ensures c.requires.live (λ k ne q. ne) c.base.ensures (omega (arith, size))) (λ k. refl);
        unused = λ u. told_unused s m n id _ _ c.requires.held c.tell.ensures u;
      };
    }
