use Rattle.std.proofs.Common.{refl}
use Rattle.o2_outer.proofs.TextLemmas.{puts_second}
use Rattle.o2_dumping.proofs.Putting.{first_front, then_rest}
use Rattle.o2_dumping.proofs.writer.put_behind.Goals as goal

pub returns-in-Failed-clause-text : goal.returns-in-Failed-clause-text
returns-in-Failed-clause-text g c = first_front _ _ _ _ _ refl (rw c.memory.ensures at c.in-Failed.ensures.takes)

pub returns-in-Failed-put_processes-clause-text : goal.returns-in-Failed-put_processes-clause-text
returns-in-Failed-put_processes-clause-text g c =
    puts_second _ _ _ _ _ _ (rw c.memory.ensures at c.in-Done.ensures.takes) c.in-Failed-put_processes.ensures.text

pub returns-clause-text : goal.returns-clause-text
returns-clause-text g c =
    then_rest _ _ _ _ _ _ _ refl (rw c.memory.ensures at c.in-Done.ensures.takes) (then_rest _ _ _ _ _ _ _ refl c.in-Done-put_processes.ensures.text c.put-2.ensures.takes)
