use Rattle.std.proofs.Common.{[], ◌∷◌, length, refl}
use Rattle.o2_outer.specs.declared.sink.Put.TheVariants as put
use Rattle.o2_outer.proofs.TextLemmas.{gains_none}
use Rattle.o2_world.specs.declared.types.Argument.TheVariants.{Word}
use Rattle.o2_world.specs.Changes.{moved_lines}
use Rattle.o2_gate.specs.Given.{word_in}
use Rattle.o2_gate.proofs.Lines.{slots_line}
use Rattle.o2_gate.proofs.read.deliver.Goals as goal

pub returns-in-Done-clause-does : goal.returns-in-Done-clause-does
unfolding moved_lines
returns-in-Done-clause-does g c = λ f input rest known i j x e. record {
  state = refl;
  changes = refl;
  waits = refl;
  piece = refl;
  lines = refl;
  cpu = c.give_back.ensures;
  bytes = λ n. c.store_both.ensures.bytes f n;
  input = e;
  to_console = gains_none x;
  to_report = slots_line c.args.pid c.args.row.now.name.now (word_in c.args.words.now) 0 (Word (length c.args.got.now) ∷ []) c.requires.slots _ _ put.Done c.in-Done.ensures.report;
}
