use Rattle.std.proofs.Common.{ℕ, ap, ◌∙◌}
use Rattle.std.specs.Prelude.{slice_index}
use Rattle.o2_isa.specs.Pointers.{range_of}
use Rattle.o2_world.specs.Calls.{by_semaphore, nothing_written}
use Rattle.o2_world.specs.SemRulings.{number_in, waiting_for}
use Rattle.o2_world.specs.Views.{bytes_in, holds_in}
use Rattle.o2_boundless.specs.Shown.{before_call}
use Rattle.o2_boundless.proofs.Heaps.{ok_more}
use Rattle.o2_boundless.proofs.world.World.waiting.Goals as goal

pub returns : goal.returns
returns c =
    let b = before_call c.args.self.now c.args.n c.args.process.now in
    let number : ℕ = number_in (range_of (holds_in c.args.process.now.held) (bytes_in c.args.self.now.world.names) (slice_index c.args.words.now 3) (slice_index c.args.words.now 2) 4) in
    ok_more c.by_semaphore.result (λ x e.
    e b
    ∙ ap (by_semaphore nothing_written b) (c.wait.ensures
    ∙ (ap (λ (n : ℕ). waiting_for n c.timeout_in.result) c.in_ok-number.ensures
    ∙ ap (λ (t : ℕ). waiting_for number t) c.timeout_in.ensures))) c.by_semaphore.ensures
