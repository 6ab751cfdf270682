use Rattle.std.proofs.Common.{◌∙◌, arith}
use Rattle.o2_load.proofs.Indexed.{indexed_more}
use Rattle.o2_load.proofs.made_names.MadeNames.push.Goals as goal

pub invariant_of-self-2 : goal.invariant_of-self-2
invariant_of-self-2 c = λ place number low.
    let s = c.self.inside in
    let more = indexed_more s.made.items c.args.made c.widen.new.index.items (λ p n less. c.widen.ensures.same _ ∙ c.self.invariant p n less) c.requires (omega (arith, c.requires, c.in_ok-widen.ensures.room)) place number low in
    rw (c.note.ensures, c.slot_of.ensures, c.in_ok-push.ensures.items) more
