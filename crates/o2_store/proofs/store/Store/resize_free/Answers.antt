use Rattle.std.proofs.Common.{subst, refl, arith}
use Rattle.o2_store.specs.Shelf.{Shelf, IsFull}
use Rattle.o2_store.proofs.Loads.{full_load, sized_load}
use Rattle.o2_store.proofs.Tables.{within_at}
use Rattle.o2_store.proofs.Grown.{resizes_after}
use Rattle.o2_store.proofs.store.Store.resize_free.Goals as goal

pub returns-then-not-is_short-clause-resized : goal.returns-then-not-is_short-clause-resized
returns-then-not-is_short-clause-resized g c = λ pic a e. c.set_size.ensures.resizes (g.S.SwapDevice.told c.args.swap.now) pic (g.S.SwapDevice.block c.args.swap.now)

pub returns-in-Here-clause-resized : goal.returns-in-Here-clause-resized
returns-in-Here-clause-resized g c =
    let S = g.S.SwapDevice in
    let told = S.told c.evict_one.new.swap in
    let b = S.block c.evict_one.new.swap in
    λ pic a e. resizes_after told pic c.args.self.now c.evict_one.new.self c.set_size-in-Here.new.self (S.block c.args.swap.now) b b c.args.key c.args.size (c.evict_one.ensures.keeps pic a) (c.set_size-in-Here.ensures.resizes told pic b)

pub returns-in_default-clause-loads : goal.returns-in_default-clause-loads
returns-in_default-clause-loads g c = λ e.
    (let s = c.args.self.now in
    let h = c.law.ensures.shelf in
    let v = c.evict_one in
    let f : IsFull s = subst (λ (x : Shelf). IsFull x) (v.ensures.lacks e).0 (v.ensures.full e) in
    let b = sized_load s c.args.key c.args.size h c.law.ensures.sum (within_at s.entries c.args.key c.requires.live) in
    (full_load s h c.law.ensures.blocks f, omega (arith, b, c.is_short.ensures, c.if-not-is_short.false, c.saturating_sub-growth.ensures, c.rounded_size.ensures.value, c.law.ensures.room)))

pub returns-then-not-is_short-clause-idle : goal.returns-then-not-is_short-clause-idle
returns-then-not-is_short-clause-idle g c = λ none load. record { device = refl; none = c.set_size.ensures.unused none }

pub returns-in-Here-clause-idle : goal.returns-in-Here-clause-idle
returns-in-Here-clause-idle g c = λ none load. absurd
    (let s = c.args.self.now in
    let b = sized_load s c.args.key c.args.size c.law.ensures.shelf c.law.ensures.sum (within_at s.entries c.args.key c.requires.live) in
    omega (arith, b, load, c.is_short.ensures, c.if-not-is_short.false, c.saturating_sub-growth.ensures, c.rounded_size.ensures.value, c.law.ensures.room))

pub returns-in_default-clause-idle : goal.returns-in_default-clause-idle
returns-in_default-clause-idle g c = λ none load. absurd
    (let s = c.args.self.now in
    let b = sized_load s c.args.key c.args.size c.law.ensures.shelf c.law.ensures.sum (within_at s.entries c.args.key c.requires.live) in
    omega (arith, b, load, c.is_short.ensures, c.if-not-is_short.false, c.saturating_sub-growth.ensures, c.rounded_size.ensures.value, c.law.ensures.room))
