use Rattle.std.proofs.Common.{ℕ, ◌&&◌, nat_le, nat_lt, ap, sym, ◌∙◌}
use Rattle.std.specs.Prelude.{is_some}
use Rattle.o2_regions.specs.Maps.{held_at}
use Rattle.o2_segs.specs.Members.{end_in}
use Rattle.o2_segs.proofs.Members.{named_alone, named_member, named_nowhere}
use Rattle.o2_segs.proofs.freeing.names_one.Goals as goal

pub returns-then-held-eq0 : goal.returns-then-held-eq0
returns-then-held-eq0 c = c.names.ensures ∙ named_alone c.args.regions.now c.args.pid c.args.index c.args.selector c.args.held c.if-held-eq0.true

pub returns-then-local : goal.returns-then-local
returns-then-local c =
    c.is_member.ensures
    ∙ (ap (λ (j : ℕ). nat_le c.args.held.first j && (nat_lt j (end_in c.args.held) && is_some (held_at c.args.regions.now c.args.pid j))) c.index.ensures
    ∙ named_member c.args.regions.now c.args.pid c.args.index c.args.selector c.args.held c.if-held-eq0.false c.ranges.selector.fits (sym c.is_of_table-local.ensures ∙ c.if-local.true))

pub returns : goal.returns
returns c = named_nowhere c.args.regions.now c.args.pid c.args.index c.args.selector c.args.held c.if-held-eq0.false (sym c.is_of_table-local.ensures ∙ c.if-local.false)
