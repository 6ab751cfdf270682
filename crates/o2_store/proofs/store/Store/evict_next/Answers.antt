use Rattle.std.proofs.Common.{◌≡◌, ◌+◌, ◌<◌, ℕ, None, length, ap, sym, subst, ◌∙◌}
use Rattle.o2_swapmap.specs.Piles.{blocks_of}
use Rattle.o2_place.specs.Layout.{used}
use Rattle.o2_store.specs.Shelf.{Shelf, KeepsAll, AreClean, place_of}
use Rattle.o2_store.proofs.Departing.{leave_same, leave_still}
use Rattle.o2_store.proofs.Keeping.{keeps_trans, keeps_unmarked, clean_unmarked}
use Rattle.o2_store.proofs.Leaving.{some_not_none}
use Rattle.o2_store.proofs.store.Store.evict_next.Goals as goal

pub returns-in-Some-clause-keeps : goal.returns-in-Some-clause-keeps
returns-in-Some-clause-keeps g c =
    let S = g.S.SwapDevice in
    let told = S.told c.evict_one.new.swap in
    let a = S.block c.args.swap.now in
    let b = S.block c.evict_one.new.swap in
    let s = c.args.self.now in
    let t = c.next_victim.new.self in
    let e : t ≡ record s { turns = t.turns } = c.next_victim.ensures.shelf in
    λ pic q. (let first : KeepsAll told pic s a t a = subst (λ (x : Shelf). KeepsAll told pic s a x a) (sym e) (keeps_unmarked told pic s t.turns a) in
    let clean : AreClean t pic = subst (λ (x : Shelf). AreClean x pic) (sym e) (clean_unmarked s t.turns pic q) in
    keeps_trans told pic s t c.evict_one.new.self a a b first (c.evict_one.ensures.keeps pic clean))

pub returns-in-Some-clause-clean : goal.returns-in-Some-clause-clean
returns-in-Some-clause-clean g c =
    let s = c.args.self.now in
    let t = c.next_victim.new.self in
    let e : t ≡ record s { turns = t.turns } = c.next_victim.ensures.shelf in
    λ pic q. c.evict_one.ensures.clean pic (subst (λ (x : Shelf). AreClean x pic) (sym e) (clean_unmarked s t.turns pic q))

pub returns-in-Some-clause-leave : goal.returns-in-Some-clause-leave
returns-in-Some-clause-leave g c =
    let s = c.args.self.now in
    let t = c.next_victim.new.self in
    let e : t ≡ record s { turns = t.turns } = c.next_victim.ensures.shelf in
    λ len l. leave_same s t c.evict_one.new.self len (ap (λ (x : Shelf). x.places) e) (ap (λ (x : Shelf). x.entries) e)
    (c.evict_one.ensures.leave len (subst (λ (x : Shelf). x.places.size < used x.places.ranges + len) (sym e) l))

pub returns-in-None-clause-leave : goal.returns-in-None-clause-leave
returns-in-None-clause-leave g c = λ len l. leave_still c.args.self.now c.next_victim.new.self len (ap (λ (x : Shelf). x.places) c.next_victim.ensures.shelf)

pub returns-in-Some-clause-piles : goal.returns-in-Some-clause-piles
returns-in-Some-clause-piles g c =
    let s = c.args.self.now in
    let t = c.next_victim.new.self in
    let e : t ≡ record s { turns = t.turns } = c.next_victim.ensures.shelf in
    λ k l n. c.evict_one.ensures.piles k (subst (λ (x : Shelf). k < length x.entries) (sym e) l)
    (λ same. some_not_none (place_of s c.in-Some.victim) c.in-Some.ensures.some.1 (subst (λ (j : ℕ). place_of s j ≡ None) same n))
    ∙ ap (λ (x : Shelf). blocks_of x.swap k) e
