use Rattle.std.proofs.Common.{ℕ, ◌≤◌, subst, sym}
use Rattle.o2_swapmap.specs.Piles.{all_of}
use Rattle.test_core_images.proofs.images.written.Goals as goal

pub returns : goal.returns
returns c = record {
  aged = c.requires.aged;
  written = c.requires.written;
  own = c.requires.own;
  order = c.requires.order;
  device = subst (λ (n : ℕ). all_of c.args.bench.now.store.swap ≤ n) (sym c.put.ensures) c.requires.device;
  process = c.requires.process;
}
