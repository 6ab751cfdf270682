use Rattle.std.proofs.Common.{ap, sym, ◌∙◌, List, ℕ, length, take}
use Rattle.std.proofs.Math.Seq.{take-length}
use Rattle.o2_phys.specs.Bytes.{with_part}
use Rattle.o2_phys.proofs.Parts.{length-with_part}
use Rattle.o2_segbus.proofs.access.write_bytes.Goals as goal

pub returns : goal.returns
returns c =
    let m = c.args.store.now.memory in
    let bs = c.args.bytes.now in
    ap (λ (z : List ℕ). record c.args.store.now { memory = z })
    (ap (λ (z : List ℕ). take (length m) (with_part m c.args.at z)) c.copy_from_slice.ensures.after
    ∙ (ap (λ (n : ℕ). take n (with_part m c.args.at bs)) (sym (length-with_part m bs c.args.at c.requires.room)) ∙ take-length (with_part m c.args.at bs)))
