use Rattle.std.proofs.Common.{List, Option, ℕ, take, get_or, ap, sym, ◌∙◌, ◌++◌, arith}
use Rattle.std.specs.Option.{option_copied}
use Rattle.o2_world.specs.Changes.{Change}
use Rattle.o2_world.specs.Known.{Known}
use Rattle.o2_world.specs.World.{Held}
use Rattle.o2_world.specs.SharedRulings.{each_more, one_more}
use Rattle.o2_boundless.specs.Shown.{known_by}
use Rattle.o2_boundless.proofs.Walks.{more_at}
use Rattle.o2_boundless.proofs.world.World.each_more.Goals as goal

pub loop-index-preserved : goal.loop-index-preserved
loop-index-preserved c =
    let k : Known = known_by c.args.self.now in
    let is : List ℕ = c.args.indexes.now in
    let j : ℕ = c.loop-index.index-index in
    c.in_ok-put_one_more.ensures
    ∙ (ap (λ (cs : List Change). cs ++ one_more c.args.to (get_or is j 0) (option_copied c.held_there.result)) c.loop-index.invariant
    ∙ (ap (λ (o : Option Held). each_more k c.args.from c.args.to (take j is) ++ one_more c.args.to (get_or is j 0) o) c.held_there.ensures
    ∙ sym (more_at k c.args.from c.args.to is j (omega arith))))
