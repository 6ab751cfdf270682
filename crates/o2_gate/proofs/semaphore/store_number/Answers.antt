use Rattle.std.proofs.Common.{◌≡◌, ◌==◌, true, false, sym, ◌∙◌}
use Rattle.o2_isa.specs.View.{View, whole}
use Rattle.o2_gate.specs.Given.{word_in}
use Rattle.o2_gate.proofs.Semaphores.{none_stored, not_false, not_true, number_stored}
use Rattle.o2_gate.proofs.semaphore.store_number.Goals as goal

pub returns-then-writes-clause-bytes : goal.returns-then-writes-clause-bytes
returns-then-writes-clause-bytes g c = λ f n.
    let v : View = g.B.Bus.view c.args.bus.now in
    let other : (c.args.service == 27) ≡ false = not_true _ (sym c.writes.ensures ∙ c.if-writes.true) in
    c.store_long.ensures.bytes f n ∙ number_stored c.args.service c.args.word (word_in c.args.words.now) v.held (whole f v).bytes n c.args.place c.requires.place other

pub returns-else-writes-clause-bytes : goal.returns-else-writes-clause-bytes
returns-else-writes-clause-bytes g c = λ f n.
    let v : View = g.B.Bus.view c.args.bus.now in
    let same : (c.args.service == 27) ≡ true = not_false _ (sym c.writes.ensures ∙ c.if-writes.false) in
    sym (none_stored c.args.service c.args.word (word_in c.args.words.now) v.held (whole f v).bytes n same)
