use Rattle.o2_regions.specs.declared.held.Region.{Region}
use Rattle.o2_regions.specs.Maps.{held_at, is_reserved}
use Rattle.std.proofs.Common.{true, is_some, subst, ◌≡◌, ap, arith, sym, ◌∙◌}
use Rattle.o2_huge.proofs.Places.{none_held, turned, vacant_high, vacant_low}
use Rattle.o2_huge.proofs.reallocating.is_vacant.Goals as goal

pub returns-then-index-ge-SHARED-clause-vacant : goal.returns-then-index-ge-SHARED-clause-vacant
returns-then-index-ge-SHARED-clause-vacant c = λ e.
    (let m = c.args.regions.now in
    let i = c.args.index in
    let reserved = subst (λ (g : Region). is_reserved m g i ≡ true) c.region_of.ensures (sym c.is_reserved.ensures ∙ c.if-not-is_reserved.false) in
    vacant_high m c.args.pid i c.law.ensures c.if-index-ge-SHARED.true reserved (sym c.is_shared_held.ensures ∙ turned c.is_shared_held.result e))

pub returns-clause-vacant : goal.returns-clause-vacant
returns-clause-vacant c = λ e.
    (let m = c.args.regions.now in
    let i = c.args.index in
    let reserved = subst (λ (g : Region). is_reserved m g i ≡ true) c.region_of.ensures (sym c.is_reserved.ensures ∙ c.if-not-is_reserved.false) in
    let none = none_held (held_at m c.args.pid i) c.is_none.result (ap is_some (sym c.held.ensures.held) ∙ c.is_none.ensures) e in
    vacant_low m c.args.pid i (omega (arith, c.if-index-ge-SHARED.false)) reserved none)
