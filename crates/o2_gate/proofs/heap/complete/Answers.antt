use Rattle.std.proofs.Common.{ℕ, ◌∷◌, List, ap, ◌∙◌, refl}
use Rattle.o2_outer.specs.declared.sink.Put.TheVariants as put
use Rattle.o2_outer.proofs.TextLemmas.{gains_none}
use Rattle.o2_isa.specs.View.{View, whole}
use Rattle.o2_world.specs.Calls.{returned}
use Rattle.o2_world.specs.Changes.{moved_lines}
use Rattle.o2_world.specs.Heaps.{put_words}
use Rattle.o2_world.specs.Slots.{parts_in, put_all, targets_in, words_in}
use Rattle.o2_world.specs.declared.types.Slot.{Slot}
use Rattle.o2_subseg.specs.Plans.{words_of}
use Rattle.o2_gate.specs.Given.{word_in}
use Rattle.o2_gate.specs.Heaps.{front_of, heap_by}
use Rattle.o2_gate.proofs.Lines.{slots_line}
use Rattle.o2_gate.proofs.heap.complete.Goals as goal

pub returns-in-Done-clause-does : goal.returns-in-Done-clause-does
unfolding moved_lines
returns-in-Done-clause-does g c = λ f input known i x outcome e.
    let v : View = g.B.Bus.view c.args.bus.now in
    let w : ℕ → ℕ = word_in c.args.words.now in
    let ss : List Slot = c.args.slots.now in
    record {
      state = refl;
      changes = refl;
      waits = refl;
      piece = refl;
      lines = refl;
      cpu = c.return_from.ensures ∙ ap (λ (ts : List Slot). returned c.args.cpu.now c.args.next (words_in ts) 0) c.requires.slots;
      bytes = λ n. c.store_plan.ensures.bytes f n
          ∙ ap (λ (s : ℕ). put_all v.held (heap_by s ∷ targets_in ss w) (put_words (front_of f v c.args.selector) (words_of c.args.plan.now) ∷ parts_in ss c.args.plan.now.answer.value) (whole f v).bytes n) c.requires.selector;
      input = e;
      to_console = gains_none x;
      to_report = slots_line c.args.pid c.args.row.now.name.now w 0 _ c.requires.slots _ _ put.Done (rw (c.as_slice.ensures, c.values_in-values.ensures.values) at c.in-Done.ensures.report);
    }
