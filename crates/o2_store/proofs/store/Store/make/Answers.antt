use Rattle.std.proofs.Common.{◌≡◌, length, arith, ap, ◌∙◌, Option, None}
use Rattle.std.proofs.lemmas.List.{length-replicate}
use Rattle.o2_entries.specs.declared.Entry.{Entry}
use Rattle.o2_store.proofs.Tables.{fresh_shelf, none_locked}
use Rattle.o2_store.proofs.store.Store.make.Goals as goal

pub invariant_of-result : goal.invariant_of-result
invariant_of-result c =
    let e = c.in_ok-entries.ensures in
    let n : length c.in_ok-entries.entries ≡ c.args.segments = ap length e ∙ length-replicate {A = Option Entry} c.args.segments None in (
      fresh_shelf _ c.args.memory c.args.segments c.in_ok-phys.ensures c.in_ok-places.ensures c.in_ok-clock.ensures c.in_ok-swap.ensures.empty c.in_ok-swap.ensures.most e c.requires.memory c.requires.segments,
      none_locked c.in_ok-entries.entries c.args.segments e,
      omega (arith, n, c.in_ok-keys.ensures.capacity),
    )
