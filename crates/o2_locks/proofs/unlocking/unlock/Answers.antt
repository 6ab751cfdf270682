use Rattle.std.proofs.Common.{◌-◌, ◌<◌, ap, cond, refl, sym, subst, ◌∙◌, nat_lt}
use Rattle.o2_desc.specs.Bits.{has_bit}
use Rattle.o2_entries.specs.declared.Attr.{Attr}
use Rattle.o2_entries.specs.Tables.{slot_at}
use Rattle.o2_store.specs.Shelf.{Shelf, entry, entry_of, place_of}
use Rattle.o2_store.proofs.Tables.{locked_at}
use Rattle.o2_changes.proofs.Segmenting.{attr_there}
use Rattle.o2_segs.proofs.Rows.{done_answers, refusal_answers, refusal_shelf}
use Rattle.o2_locks.proofs.Rows.{done_matches, locked_whole, positive, unlock_done, unlock_open, unlock_plain}
use Rattle.o2_segs.proofs.Limits.{limits_locked, limits_refl}
use Rattle.o2_changes.proofs.Framing.{order_refl}
use Rattle.o2_locks.proofs.unlocking.unlock.Goals as goal

pub returns-then-not-is_discardable-clause-answer : goal.returns-then-not-is_discardable-clause-answer
returns-then-not-is_discardable-clause-answer c = λ m is.
    (let s = c.args.store.now in
    let at = attr_there (entry_of s c.args.id) c.in-Some.attr (sym c.in-Some.ensures) c.args.id.age (slot_at s.entries c.args.id.key) refl in
    refusal_answers _ 5 c.refusal.result (unlock_plain c.args.id.age (entry s c.args.id.key).attr m is (ap (λ (a : Attr). has_bit a.flags 2) (sym at) ∙ sym c.if-not-is_discardable.ensures)) c.refusal.ensures)

pub returns-then-not-is_discardable-clause-matches : goal.returns-then-not-is_discardable-clause-matches
returns-then-not-is_discardable-clause-matches c = λ m p w is es em q.
    (let s = c.args.store.now in
    let at = attr_there (entry_of s c.args.id) c.in-Some.attr (sym c.in-Some.ensures) c.args.id.age (slot_at s.entries c.args.id.key) refl in
    refusal_shelf p s w _ 5 es (unlock_plain c.args.id.age (entry s c.args.id.key).attr m is (ap (λ (a : Attr). has_bit a.flags 2) (sym at) ∙ sym c.if-not-is_discardable.ensures)) q)

pub returns-then-attr-eq0-clause-answer : goal.returns-then-attr-eq0-clause-answer
returns-then-attr-eq0-clause-answer c = λ m is.
    (let s = c.args.store.now in
    let at = attr_there (entry_of s c.args.id) c.in-Some.attr (sym c.in-Some.ensures) c.args.id.age (slot_at s.entries c.args.id.key) refl in
    refusal_answers _ 158 c.refusal-then-attr-eq0.result
    (unlock_open c.args.id.age (entry s c.args.id.key).attr m is
    (ap (λ (a : Attr). has_bit a.flags 2) (sym at) ∙ sym c.if-not-is_discardable.ensures)
    (ap (λ (a : Attr). a.lock) (sym at) ∙ c.if-attr-eq0.true)) c.refusal-then-attr-eq0.ensures)

pub returns-then-attr-eq0-clause-matches : goal.returns-then-attr-eq0-clause-matches
returns-then-attr-eq0-clause-matches c = λ m p w is es em q.
    (let s = c.args.store.now in
    let at = attr_there (entry_of s c.args.id) c.in-Some.attr (sym c.in-Some.ensures) c.args.id.age (slot_at s.entries c.args.id.key) refl in
    refusal_shelf p s w _ 158 es (unlock_open c.args.id.age (entry s c.args.id.key).attr m is (ap (λ (a : Attr). has_bit a.flags 2) (sym at) ∙ sym c.if-not-is_discardable.ensures) (ap (λ (a : Attr). a.lock) (sym at) ∙ c.if-attr-eq0.true)) q)

pub set_lock-requires-clause-present : goal.set_lock-requires-clause-present
set_lock-requires-clause-present c = λ l.
    (let s = c.args.store.now in
    let at = attr_there (entry_of s c.args.id) c.in-Some.attr (sym c.in-Some.ensures) c.args.id.age (slot_at s.entries c.args.id.key) refl in
    locked_at s c.args.id.key c.law.ensures.shelf (subst (λ (a : Attr). 0 < a.lock) at (positive c.in-Some.attr.lock c.if-attr-eq0.false)))

pub returns-else-attr-eq0-clause-answer : goal.returns-else-attr-eq0-clause-answer
returns-else-attr-eq0-clause-answer c = λ m is.
    (let s = c.args.store.now in
    let at = attr_there (entry_of s c.args.id) c.in-Some.attr (sym c.in-Some.ensures) c.args.id.age (slot_at s.entries c.args.id.key) refl in
    done_answers _ _ 0 c.done.result (unlock_done c.args.id.age (entry s c.args.id.key).attr m is (ap (λ (a : Attr). has_bit a.flags 2) (sym at) ∙ sym c.if-not-is_discardable.ensures) (λ z. c.if-attr-eq0.false (ap (λ (a : Attr). a.lock) at ∙ z))) c.done.ensures)

pub returns-else-attr-eq0-clause-matches : goal.returns-else-attr-eq0-clause-matches
returns-else-attr-eq0-clause-matches c = λ m p w is es em q.
    (let s = c.args.store.now in
    let at = attr_there (entry_of s c.args.id) c.in-Some.attr (sym c.in-Some.ensures) c.args.id.age (slot_at s.entries c.args.id.key) refl in
    done_matches p w c.set_lock.new.store c.args.id _ _ (unlock_done c.args.id.age (entry s c.args.id.key).attr m is (ap (λ (a : Attr). has_bit a.flags 2) (sym at) ∙ sym c.if-not-is_discardable.ensures) (λ z. c.if-attr-eq0.false (ap (λ (a : Attr). a.lock) at ∙ z)))
    (c.one_less.ensures ∙ ap (λ (a : Attr). cond (nat_lt a.lock 255) (a.lock - 1) a.lock) at) (c.set_lock.ensures.matches.world p w es em q))

pub returns-then-not-is_discardable-clause-places : goal.returns-then-not-is_discardable-clause-places
returns-then-not-is_discardable-clause-places c = λ k some. refl

pub returns-then-attr-eq0-clause-places : goal.returns-then-attr-eq0-clause-places
returns-then-attr-eq0-clause-places c = λ k some. refl

pub returns-else-attr-eq0-clause-places : goal.returns-else-attr-eq0-clause-places
returns-else-attr-eq0-clause-places c = λ k some. ap (λ (x : Shelf). place_of x k) c.set_lock.ensures.sets.shelf

pub returns-in-None-clause-places : goal.returns-in-None-clause-places
returns-in-None-clause-places c = λ k some. refl

pub returns-then-not-is_discardable-clause-limits : goal.returns-then-not-is_discardable-clause-limits
returns-then-not-is_discardable-clause-limits c = limits_refl c.args.store.now c.args.regions.now

pub returns-then-attr-eq0-clause-limits : goal.returns-then-attr-eq0-clause-limits
returns-then-attr-eq0-clause-limits c = limits_refl c.args.store.now c.args.regions.now

pub returns-else-attr-eq0-clause-limits : goal.returns-else-attr-eq0-clause-limits
returns-else-attr-eq0-clause-limits c = limits_locked c.args.store.now c.set_lock.new.store c.args.regions.now c.args.id _ c.requires.live c.set_lock.ensures.sets

pub returns-in-None-clause-limits : goal.returns-in-None-clause-limits
returns-in-None-clause-limits c = limits_refl c.args.store.now c.args.regions.now

pub returns-then-not-is_discardable-clause-goes_on : goal.returns-then-not-is_discardable-clause-goes_on
returns-then-not-is_discardable-clause-goes_on c = order_refl c.args.store.now c.args.regions.now c.requires.order

pub returns-then-attr-eq0-clause-goes_on : goal.returns-then-attr-eq0-clause-goes_on
returns-then-attr-eq0-clause-goes_on c = order_refl c.args.store.now c.args.regions.now c.requires.order

pub returns-in-None-clause-goes_on : goal.returns-in-None-clause-goes_on
returns-in-None-clause-goes_on c = order_refl c.args.store.now c.args.regions.now c.requires.order

pub set_lock-requires-clause-whole : goal.set_lock-requires-clause-whole
set_lock-requires-clause-whole c =
    let s = c.args.store.now in
    let at = attr_there (entry_of s c.args.id) c.in-Some.attr (sym c.in-Some.ensures) c.args.id.age (slot_at s.entries c.args.id.key) refl in
    locked_whole s c.args.id.key c.law.ensures.shelf (subst (λ (a : Attr). 0 < a.lock) at (positive c.in-Some.attr.lock c.if-attr-eq0.false))
