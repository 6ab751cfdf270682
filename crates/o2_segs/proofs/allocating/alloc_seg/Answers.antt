use Rattle.std.proofs.Common.{◌≡◌, arith, inl, refl, ℕ, Option, Some, None, sym, subst, ◌∙◌}
use Rattle.o2_stands.specs.Stands.{Matches}
use Rattle.o2_regions.specs.Maps.{end_of, first_of, is_taken}
use Rattle.o2_regions.specs.declared.held.Region.{Region}
use Rattle.o2_desc.specs.Choice.{chosen}
use Rattle.o2_stands.specs.Knows.{known_in}
use Rattle.o2_stands.specs.Moves.{moved}
use Rattle.o2_world.specs.Changes.{with_all}
use Rattle.o2_world.specs.Rulings.{Ruling}
use Rattle.o2_segs.specs.Answers.{AnswersRoomed, changes_roomed}
use Rattle.o2_segs.proofs.Making.{alloc_refused, alloc_tried, to_none}
use Rattle.o2_segs.proofs.Resizing.{refusal_moved}
use Rattle.o2_segs.proofs.Rows.{refusal_answers}
use Rattle.o2_segs.proofs.Stops.{denied}
use Rattle.o2_segs.proofs.Limits.{entries_refl, limits_more, limits_refl}
use Rattle.o2_changes.proofs.Framing.{for_refl}
use Rattle.o2_segs.proofs.allocating.alloc_seg.Goals as goal

pub returns-then-flags-gt-FLAGS-clause-matches : goal.returns-then-flags-gt-FLAGS-clause-matches
returns-then-flags-gt-FLAGS-clause-matches g c = λ p o w x es em ei eb tells at absent q.
    refusal_moved p c.args.store.now c.args.regions.now (g.S.SwapDevice.block c.args.swap.now) w _ 87 es em eb (alloc_refused (known_in p o) c.args.pid c.args.size c.args.flags c.if-flags-gt-FLAGS.true) q

pub returns-in-Some-clause-answer : goal.returns-in-Some-clause-answer
returns-in-Some-clause-answer g c = λ p o es em.
    subst (λ (r : Ruling). AnswersRoomed r c.allocate.result)
    (sym (alloc_tried p o c.args.regions.now c.args.pid c.args.size c.args.flags (Some c.in-Some.index) c.requires.process.0 em
    c.if-flags-gt-FLAGS.false (subst (λ (y : Region). Some c.in-Some.index
    ≡ chosen (is_taken c.args.regions.now y) (first_of y) (end_of y) 1) c.region_for.ensures c.in-Some.ensures.lowest)))
    (c.allocate.ensures.answer p o es)

pub returns-in-Some-clause-matches : goal.returns-in-Some-clause-matches
returns-in-Some-clause-matches g c = λ p o w x es em ei eb tells at absent q.
    subst (λ (r : Ruling). Matches (moved p c.allocate.new.store c.allocate.new.regions (g.S.SwapDevice.block c.allocate.new.swap)) (with_all w (changes_roomed r c.allocate.result)))
    (sym (alloc_tried p o c.args.regions.now c.args.pid c.args.size c.args.flags (Some c.in-Some.index) c.requires.process.0 em
    c.if-flags-gt-FLAGS.false (subst (λ (y : Region). Some c.in-Some.index
    ≡ chosen (is_taken c.args.regions.now y) (first_of y) (end_of y) 1) c.region_for.ensures c.in-Some.ensures.lowest)))
    (c.allocate.ensures.matches p o w x es em ei eb tells at absent q)

pub returns-in-None-clause-answer : goal.returns-in-None-clause-answer
returns-in-None-clause-answer g c = λ p o es em.
    refusal_answers _ 8 c.refusal-in-None.result
    (alloc_tried p o c.args.regions.now c.args.pid c.args.size c.args.flags None c.requires.process.0 em c.if-flags-gt-FLAGS.false
    (subst (λ (y : Region). ◌≡◌ {A = Option ℕ} None (chosen (is_taken c.args.regions.now y) (first_of y) (end_of y) 1))
    c.region_for.ensures c.in-None.ensures.lowest)
    ∙ to_none (known_in p o) c.args.pid c.args.size c.args.flags) c.refusal-in-None.ensures

pub returns-in-None-clause-matches : goal.returns-in-None-clause-matches
returns-in-None-clause-matches g c = λ p o w x es em ei eb tells at absent q.
    refusal_moved p c.args.store.now c.args.regions.now (g.S.SwapDevice.block c.args.swap.now) w _ 8 es em eb
    (alloc_tried p o c.args.regions.now c.args.pid c.args.size c.args.flags None c.requires.process.0 em c.if-flags-gt-FLAGS.false
    (subst (λ (y : Region). ◌≡◌ {A = Option ℕ} None (chosen (is_taken c.args.regions.now y) (first_of y) (end_of y) 1))
    c.region_for.ensures c.in-None.ensures.lowest)
    ∙ to_none (known_in p o) c.args.pid c.args.size c.args.flags) q

pub returns-then-flags-gt-FLAGS-clause-stops : goal.returns-then-flags-gt-FLAGS-clause-stops
returns-then-flags-gt-FLAGS-clause-stops g c = λ stop. absurd stop

pub returns-in-Some-clause-stops : goal.returns-in-Some-clause-stops
returns-in-Some-clause-stops g c = λ stop. c.allocate.ensures.stops stop

pub returns-in-None-clause-stops : goal.returns-in-None-clause-stops
returns-in-None-clause-stops g c = λ stop. absurd stop

pub returns-then-flags-gt-FLAGS-clause-limits : goal.returns-then-flags-gt-FLAGS-clause-limits
returns-then-flags-gt-FLAGS-clause-limits g c = limits_more c.args.store.now c.args.store.now c.args.regions.now c.args.regions.now 0 1 (limits_refl c.args.store.now c.args.regions.now)

pub returns-in-None-clause-limits : goal.returns-in-None-clause-limits
returns-in-None-clause-limits g c = limits_more c.args.store.now c.args.store.now c.args.regions.now c.args.regions.now 0 1 (limits_refl c.args.store.now c.args.regions.now)

pub returns-then-flags-gt-FLAGS-clause-entries : goal.returns-then-flags-gt-FLAGS-clause-entries
returns-then-flags-gt-FLAGS-clause-entries g c = entries_refl c.args.store.now

pub returns-in-None-clause-entries : goal.returns-in-None-clause-entries
returns-in-None-clause-entries g c = entries_refl c.args.store.now

pub returns-then-flags-gt-FLAGS-clause-idle : goal.returns-then-flags-gt-FLAGS-clause-idle
returns-then-flags-gt-FLAGS-clause-idle g c = λ none. inl (record { device = refl; none = none })

pub returns-in-Some-clause-idle : goal.returns-in-Some-clause-idle
returns-in-Some-clause-idle g c = c.allocate.ensures.idle

pub returns-in-None-clause-idle : goal.returns-in-None-clause-idle
returns-in-None-clause-idle g c = λ none. inl (record { device = refl; none = none })

pub returns-then-flags-gt-FLAGS-clause-goes_on : goal.returns-then-flags-gt-FLAGS-clause-goes_on
returns-then-flags-gt-FLAGS-clause-goes_on g c = for_refl c.args.images.now c.args.store.now c.args.regions.now c.requires.order c.requires.backed.clean

pub returns-in-None-clause-goes_on : goal.returns-in-None-clause-goes_on
returns-in-None-clause-goes_on g c = for_refl c.args.images.now c.args.store.now c.args.regions.now c.requires.order c.requires.backed.clean

pub returns-then-flags-gt-FLAGS-clause-always_no_room : goal.returns-then-flags-gt-FLAGS-clause-always_no_room
returns-then-flags-gt-FLAGS-clause-always_no_room g c = λ u b w. absurd (denied c.refusal.result 87 c.refusal.ensures (omega arith) u)

pub returns-in-Some-clause-always_no_room : goal.returns-in-Some-clause-always_no_room
returns-in-Some-clause-always_no_room g c = c.allocate.ensures.always_no_room

pub returns-in-None-clause-always_no_room : goal.returns-in-None-clause-always_no_room
returns-in-None-clause-always_no_room g c = λ u b w. absurd (denied c.refusal-in-None.result 8 c.refusal-in-None.ensures (omega arith) u)
