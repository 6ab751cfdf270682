use Rattle.std.proofs.Common.{ℕ, ap, sym, ◌∙◌}
use Rattle.o2_regions.specs.Maps.{held_at}
use Rattle.o2_segs.specs.Members.{is_last_in, members_in}
use Rattle.o2_segs.proofs.Members.{gone_last, gone_nowhere}
use Rattle.o2_segs.proofs.freeing.names_last.Goals as goal

pub returns-then-named : goal.returns-then-named
returns-then-named c =
    c.is_last.ensures
    ∙ (ap (λ (j : ℕ). is_last_in (held_at c.args.regions.now c.args.pid j)) c.index.ensures
    ∙ gone_last c.args.regions.now c.args.pid c.args.selector (members_in c.args.regions.now c.args.pid c.args.index c.args.held) (sym c.names_one-named.ensures ∙ c.if-named.true))

pub returns : goal.returns
returns c = gone_nowhere c.args.regions.now c.args.pid c.args.selector (members_in c.args.regions.now c.args.pid c.args.index c.args.held) (sym c.names_one-named.ensures ∙ c.if-named.false)
