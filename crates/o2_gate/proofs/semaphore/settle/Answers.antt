use Rattle.std.proofs.Common.{ℕ, List, ap, sym, ◌∙◌, refl}
use Rattle.o2_outer.proofs.TextLemmas.{gains_none}
use Rattle.o2_isa.specs.View.{View, whole}
use Rattle.o2_world.specs.Changes.{moved_lines}
use Rattle.o2_world.specs.Slots.{put_all, targets_in}
use Rattle.o2_world.specs.declared.types.Slot.{Slot}
use Rattle.o2_gate.specs.Given.{word_in}
use Rattle.o2_gate.specs.Semaphores.{sem_parts}
use Rattle.o2_gate.proofs.semaphore.settle.Goals as goal

pub returns-in-Done-clause-does : goal.returns-in-Done-clause-does
unfolding moved_lines
returns-in-Done-clause-does g c = λ f input known i x outcome e.
    let v : View = g.B.Bus.view c.args.bus.now in
    let w : ℕ → ℕ = word_in c.args.words.now in
    record {
      state = refl;
      changes = refl;
      waits = refl;
      piece = refl;
      lines = refl;
      cpu = c.return_from.ensures;
      bytes = λ n. c.store_number.ensures.bytes f n
          ∙ ap (λ (ss : List Slot). put_all v.held (targets_in ss w) (sem_parts c.args.service c.args.word) (whole f v).bytes n) (sym c.requires.slots);
      input = e;
      to_console = gains_none x;
      to_report = c.in-Done.ensures.report;
    }
