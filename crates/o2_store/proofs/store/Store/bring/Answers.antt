use Rattle.std.proofs.Common.{◌≡◌, refl, sym, subst, ap, ◌∙◌, arith, rules, ◌+◌, ◌≤◌, IsSome}
use Rattle.o2_place.specs.Layout.{used}
use Rattle.o2_swapmap.specs.Piles.{all_of, blocks_of}
use Rattle.o2_store.proofs.Asking.{asks_behind, asks_nothing}
use Rattle.o2_store.specs.Pictures.{picture}
use Rattle.o2_store.specs.Shelf.{Shelf, SameTables, place_of, entry, rounded}
use Rattle.o2_store.proofs.Tables.{locked_at}
use Rattle.o2_store.proofs.Keeping.{keys_keep, keys_clean, locked_stay}
use Rattle.o2_store.proofs.Collecting.{need_wanted}
use Rattle.o2_store.proofs.Departing.{leave_same, leave_still}
use Rattle.o2_store.proofs.Leaving.{keys_written}
use Rattle.o2_store.proofs.Loads.{full_load, out_load, same_swap_load, same_live_load}
use Rattle.o2_store.specs.Idle.{NoneTaken}
use Rattle.o2_store.specs.Loads.{live_load}
use Rattle.o2_store.proofs.store.Store.bring.Goals as goal

pub returns-then-is_none-clause-locked : goal.returns-then-is_none-clause-locked
returns-then-is_none-clause-locked g c = λ k l. locked_at c.args.self.now k c.law.ensures.shelf l

pub returns-clause-keeps : goal.returns-clause-keeps
returns-clause-keeps g c =
    let S = g.S.SwapDevice in
    let s = c.args.self.now in
    let t = c.list_keys-need.new.self in
    let e = c.list_keys-need.ensures.shelf in
    keys_keep (S.told c.bring_key-answer.new.swap) (picture c.args.images.now) s t c.bring_key-answer.new.self (S.block c.args.swap.now) (S.block c.bring_key-answer.new.swap) e
    (c.bring_key-answer.ensures.keeps (keys_clean (picture c.args.images.now) s t e c.requires.backed.clean))

pub returns-clause-clean : goal.returns-clause-clean
returns-clause-clean g c = c.bring_key-answer.ensures.clean (keys_clean (picture c.args.images.now) c.args.self.now c.list_keys-need.new.self c.list_keys-need.ensures.shelf c.requires.backed.clean)

pub returns-clause-locked : goal.returns-clause-locked
returns-clause-locked g c =
    let t : SameTables c.args.self.now c.bring_key-answer.new.self = search rules in
    locked_stay c.args.self.now c.bring_key-answer.new.self c.law-2.ensures.shelf t

pub returns-clause-always_no_room : goal.returns-clause-always_no_room
returns-clause-always_no_room g c = λ i l.
    absurd (let w = need_wanted c.args.self.now c.list_keys-need.new.self.keys c.args.id.key c.args.keep.now c.list_keys-need.ensures.any in
    let z : c.list_keys-need.new.self.places.size ≡ c.args.self.now.places.size = ap (λ (x : Shelf). x.places.size) c.list_keys-need.ensures.shelf in
    omega (arith, w, l, z, c.list_keys-need.ensures.need, c.memory_size.ensures, c.if-memory_size-need.false))

pub returns-clause-still : goal.returns-clause-still
returns-clause-still g c =
    let e = c.list_keys-need.ensures.shelf in
    λ q k i. c.bring_key-answer.ensures.still (subst (λ (x : Shelf). used x.places.ranges + rounded (entry x c.args.id.key).size ≤ x.places.size) (sym e) q) k (subst (λ (x : Shelf). IsSome (place_of x k)) (sym e) i)

pub returns-clause-written : goal.returns-clause-written
returns-clause-written g c = keys_written c.args.self.now c.list_keys-need.new.self c.bring_key-answer.new.self c.list_keys-need.ensures.shelf c.bring_key-answer.ensures.written

pub returns-clause-loads : goal.returns-clause-loads
returns-clause-loads g c = λ e.
    (let s = c.args.self.now in
    let r = c.bring_key-answer in
    let u = r.new.self in
    let k = c.list_keys-need.ensures.shelf in
    let h = c.law-2.ensures.shelf in
    let q : SameTables s u = search rules in
    let f = r.ensures.full e in
    let a = full_load u h c.law-2.ensures.blocks f.0 in
    let b = out_load u c.args.id.key h c.law-2.ensures.sum (r.ensures.out (λ i. absurd (let z = sym e ∙ i in cc))) in
    let m : all_of u.swap ≡ all_of s.swap = r.ensures.map ∙ ap (λ (x : Shelf). all_of x.swap) k in
    let n : rounded (entry u c.args.id.key).size ≡ rounded (entry c.list_keys-need.new.self c.args.id.key).size = ap rounded (r.ensures.tables.same c.args.id.key).size in
    (omega (arith, a, m, same_swap_load s u q), omega (arith, b, f.1, n, q.size, same_live_load s u q)))

pub returns-clause-idle : goal.returns-clause-idle
returns-clause-idle g c = λ none load.
    (let e = c.list_keys-need.ensures.shelf in
    c.bring_key-answer.ensures.idle (subst (λ (x : Shelf). NoneTaken x.swap) (sym e) none) (subst (λ (x : Shelf). live_load x ≤ x.places.size) (sym e) load))

pub returns-then-is_none-clause-leave : goal.returns-then-is_none-clause-leave
returns-then-is_none-clause-leave g c = leave_still c.args.self.now c.args.self.now _ refl

pub returns-then-memory_size-need-clause-leave : goal.returns-then-memory_size-need-clause-leave
returns-then-memory_size-need-clause-leave g c = leave_still c.args.self.now c.list_keys-need.new.self _ (ap (λ (x : Shelf). x.places) c.list_keys-need.ensures.shelf)

pub returns-clause-leave : goal.returns-clause-leave
returns-clause-leave g c =
    let e = c.list_keys-need.ensures.shelf in
    leave_same c.args.self.now c.list_keys-need.new.self c.bring_key-answer.new.self _ (ap (λ (x : Shelf). x.places) e) (ap (λ (x : Shelf). x.entries) e) c.bring_key-answer.ensures.leave

pub returns-then-is_none-clause-asks : goal.returns-then-is_none-clause-asks
returns-then-is_none-clause-asks g c = λ n. asks_nothing _ _ _ _ _ refl (λ e. absurd cc)

pub returns-then-memory_size-need-clause-asks : goal.returns-then-memory_size-need-clause-asks
returns-then-memory_size-need-clause-asks g c = λ n. asks_nothing _ _ _ _ _ refl (λ e. absurd cc)

pub returns-clause-asks : goal.returns-clause-asks
returns-clause-asks g c = λ n.
    (let e = c.list_keys-need.ensures.shelf in
    asks_behind _ _ _ _ _ _ _ _ (ap (λ (x : Shelf). blocks_of x.swap c.args.id.key) e) refl (λ h. h) (c.bring_key-answer.ensures.asks (ap (λ (x : Shelf). place_of x c.args.id.key) e ∙ n)))
