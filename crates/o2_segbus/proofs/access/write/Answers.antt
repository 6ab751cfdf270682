use Rattle.std.proofs.Common.{ap, ◌∙◌, List, ℕ, length, arith}
use Rattle.o2_phys.proofs.Parts.{length-part}
use Rattle.o2_segbus.proofs.Parts.{written}
use Rattle.o2_segbus.proofs.access.write.Goals as goal

pub returns : goal.returns
returns c =
    ap (λ (z : List ℕ). record c.args.store.now { memory = z })
    (written c.args.width c.args.store.now.memory c.lend-bytes.result.now c.put_in.new.bytes c.args.at c.args.value c.requires.room (ap length
    c.lend-bytes.ensures.value ∙ (length-part c.args.store.now.memory c.args.at c.len_of.result (omega (
      arith,
      c.requires.room,
      c.len_of.ensures.value,
    )) ∙ c.len_of.ensures.value)) c.put_in.ensures)
