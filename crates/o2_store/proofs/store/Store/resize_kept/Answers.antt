use Rattle.std.proofs.Common.{◌≡◌, ◌≤◌, ap, sym, subst, arith}
use Rattle.o2_store.specs.Shelf.{Shelf, entry, rounded}
use Rattle.o2_store.proofs.Tables.{sized_at, within_at}
use Rattle.o2_store.proofs.Keeping.{keys_keep, keys_clean}
use Rattle.o2_store.proofs.Collecting.{need_wanted, need_bound, wanted_change}
use Rattle.o2_store.proofs.Grown.{keys_resize}
use Rattle.o2_store.specs.Idle.{NoneTaken}
use Rattle.o2_store.specs.Loads.{live_load_at}
use Rattle.o2_store.proofs.store.Store.resize_kept.Goals as goal

pub overflow_add-need : goal.overflow_add-need
overflow_add-need g c =
    let s = c.args.self.now in
    let b = need_bound s.entries c.list_keys.new.self.keys (λ k. sized_at s k c.law.ensures.shelf) in
    omega (arith, b, c.list_keys.ensures.need, c.law.ensures.shelf.few, c.from.ensures, c.requires.sizes.1)

pub returns-then-memory_size-from-clause-no_room : goal.returns-then-memory_size-from-clause-no_room
returns-then-memory_size-from-clause-no_room g c =
    let s = c.args.self.now in
    let t = c.list_keys.new.self in
    let e = c.list_keys.ensures.shelf in
    let n = need_wanted s t.keys c.args.key c.args.keep.now c.list_keys.ensures.any in
    let w = wanted_change s c.args.key c.args.keep.now c.args.size (within_at s.entries c.args.key c.requires.live) in
    let z : t.places.size ≡ s.places.size = ap (λ (x : Shelf). x.places.size) e in
    let r : rounded (entry t c.args.key).size ≡ rounded (entry s c.args.key).size = ap (λ (x : Shelf). rounded (entry x c.args.key).size) e in
    λ q. omega (arith, n, w, z, r, c.list_keys.ensures.need, c.from.ensures, c.from-2.ensures, c.rounded_size.ensures.value, c.memory_size.ensures, c.if-memory_size-from.true)

pub returns-clause-resized : goal.returns-clause-resized
returns-clause-resized g c =
    let S = g.S.SwapDevice in
    let s = c.args.self.now in
    let t = c.list_keys.new.self in
    let e = c.list_keys.ensures.shelf in
    λ pic a q. keys_resize (S.told c.resize_among.new.swap) pic s t c.resize_among.new.self (S.block c.args.swap.now) (S.block c.resize_among.new.swap) c.args.key c.args.size e (c.resize_among.ensures.resized pic (keys_clean pic s t e a) q)

pub returns-clause-keeps : goal.returns-clause-keeps
returns-clause-keeps g c =
    let S = g.S.SwapDevice in
    let s = c.args.self.now in
    let t = c.list_keys.new.self in
    let e = c.list_keys.ensures.shelf in
    λ pic a q. keys_keep (S.told c.resize_among.new.swap) pic s t c.resize_among.new.self (S.block c.args.swap.now) (S.block c.resize_among.new.swap) e (c.resize_among.ensures.keeps pic (keys_clean pic s t e a) q)

pub returns-clause-clean : goal.returns-clause-clean
returns-clause-clean g c = λ pic a. c.resize_among.ensures.clean pic (keys_clean pic c.args.self.now c.list_keys.new.self c.list_keys.ensures.shelf a)

pub returns-clause-always_no_room : goal.returns-clause-always_no_room
returns-clause-always_no_room g c =
    let s = c.args.self.now in
    let t = c.list_keys.new.self in
    let e = c.list_keys.ensures.shelf in
    let n = need_wanted s t.keys c.args.key c.args.keep.now c.list_keys.ensures.any in
    let w = wanted_change s c.args.key c.args.keep.now c.args.size (within_at s.entries c.args.key c.requires.live) in
    let z : t.places.size ≡ s.places.size = ap (λ (x : Shelf). x.places.size) e in
    let r : rounded (entry t c.args.key).size ≡ rounded (entry s c.args.key).size = ap (λ (x : Shelf). rounded (entry x c.args.key).size) e in
    λ q. absurd (omega (arith, q, n, w, z, r, c.list_keys.ensures.need, c.from.ensures, c.from-2.ensures, c.rounded_size.ensures.value, c.memory_size.ensures, c.if-memory_size-from.false))

pub returns-clause-idle : goal.returns-clause-idle
returns-clause-idle g c = λ none load.
    (let e = c.list_keys.ensures.shelf in
    c.resize_among.ensures.idle (subst (λ (x : Shelf). NoneTaken x.swap) (sym e) none) (subst (λ (x : Shelf). live_load_at x c.args.key c.args.size ≤ x.places.size) (sym e) load))
