use Rattle.std.proofs.Common.{inl, inr, refl, sym, ap, ◌∙◌, is_some, IsSome}
use Rattle.o2_store.specs.Pictures.{picture}
use Rattle.o2_store.specs.Shelf.{Shelf, entry}
use Rattle.o2_store.proofs.Keeping.{keeps_trans}
use Rattle.o2_store.proofs.Shifts.{keeps_filled, clean_filled, others_in, others_moved, read_there, out_told, out_pictured}
use Rattle.o2_swapmap.specs.Piles.{blocks_of}
use Rattle.o2_store.proofs.Asking.{asks_behind}
use Rattle.o2_store.proofs.Choosing.{gap_failed, gap_filled}
use Rattle.o2_store.proofs.Departing.{takes_none, takes_size}
use Rattle.o2_store.proofs.store.Store.place_in.Goals as goal

pub returns-in-Failed-clause-keeps : goal.returns-in-Failed-clause-keeps
returns-in-Failed-clause-keeps g c =
    let S = g.S.SwapDevice in
    let told = S.told c.fill.new.swap in
    let a = S.block c.args.swap.now in
    let b = S.block c.fill.new.swap in
    let pic = picture c.args.images.now in
    let s = c.args.self.now in
    let t = c.make_fit-at.new.self in
    let u = c.fill.new.self in
    let key = c.args.key in
    let at = c.make_fit-at.result in
    keeps_filled told pic s t u key at c.args.len a b c.law.ensures.shelf c.law-2.ensures.shelf c.make_fit-at.ensures.moved c.requires.len c.fill.ensures.shelf c.fill.ensures.outside (λ k x y e. c.law-2.ensures.free at c.args.len k x y c.make_fit-at.ensures.free e) c.fill.ensures.same

pub returns-in-Failed-clause-clean : goal.returns-in-Failed-clause-clean
returns-in-Failed-clause-clean g c =
    let S = g.S.SwapDevice in
    let told = S.told c.fill.new.swap in
    let a = S.block c.args.swap.now in
    let b = S.block c.fill.new.swap in
    let pic = picture c.args.images.now in
    let s = c.args.self.now in
    let t = c.make_fit-at.new.self in
    let u = c.fill.new.self in
    let key = c.args.key in
    let at = c.make_fit-at.result in
    clean_filled pic s t u key at c.args.len c.law.ensures.shelf c.law-2.ensures.shelf c.make_fit-at.ensures.moved c.requires.len c.fill.ensures.shelf c.fill.ensures.outside (λ k x y e. c.law-2.ensures.free at c.args.len k x y c.make_fit-at.ensures.free e)

pub returns-in-Failed-clause-others : goal.returns-in-Failed-clause-others
returns-in-Failed-clause-others g c = others_moved c.args.self.now c.make_fit-at.new.self c.fill.new.self c.make_fit-at.ensures.moved c.fill.ensures.shelf

pub returns-clause-keeps : goal.returns-clause-keeps
returns-clause-keeps g c =
    let S = g.S.SwapDevice in
    let told = S.told c.fill.new.swap in
    let a = S.block c.args.swap.now in
    let b = S.block c.fill.new.swap in
    let pic = picture c.args.images.now in
    let s = c.args.self.now in
    let t = c.make_fit-at.new.self in
    let u = c.fill.new.self in
    let key = c.args.key in
    let at = c.make_fit-at.result in
    let first = keeps_filled told pic s t u key at c.args.len a b c.law.ensures.shelf c.law-2.ensures.shelf c.make_fit-at.ensures.moved
    c.requires.len c.fill.ensures.shelf c.fill.ensures.outside
    (λ k x y e. c.law-2.ensures.free at c.args.len k x y c.make_fit-at.ensures.free e) c.fill.ensures.same in
    keeps_trans told pic s u c.settle.new.self a b b first (c.settle.ensures.keeps told pic b
    (λ w. read_there pic t u key at a b c.fill.ensures.shelf (λ j l. c.fill.ensures.read (inr w) c.in_default.is j l) (λ j. out_told t pic a b key j (c.fill.ensures.same w))))

pub returns-clause-clean : goal.returns-clause-clean
returns-clause-clean g c =
    let S = g.S.SwapDevice in
    let told = S.told c.fill.new.swap in
    let a = S.block c.args.swap.now in
    let b = S.block c.fill.new.swap in
    let pic = picture c.args.images.now in
    let s = c.args.self.now in
    let t = c.make_fit-at.new.self in
    let u = c.fill.new.self in
    let key = c.args.key in
    let at = c.make_fit-at.result in
    λ q. c.settle.ensures.clean pic b
    (λ i. (let j : IsSome (entry t key).image = ap (λ (x : Shelf). is_some (entry x key).image) (sym c.fill.ensures.shelf) ∙ i in
    read_there pic t u key at a b c.fill.ensures.shelf (λ j' l. c.fill.ensures.read (inl j) c.in_default.is j' l) (λ j'. out_pictured t pic a b key j' j)))
    (clean_filled pic s t u key at c.args.len c.law.ensures.shelf c.law-2.ensures.shelf c.make_fit-at.ensures.moved c.requires.len c.fill.ensures.shelf c.fill.ensures.outside (λ k x y e. c.law-2.ensures.free at c.args.len k x y c.make_fit-at.ensures.free e) q)

pub returns-clause-others : goal.returns-clause-others
returns-clause-others g c = others_in c.args.self.now c.make_fit-at.new.self c.fill.new.self c.settle.new.self c.args.key c.make_fit-at.result _ c.make_fit-at.ensures.moved c.fill.ensures.shelf c.settle.ensures.places

pub returns-in-Failed-clause-alone : goal.returns-in-Failed-clause-alone
returns-in-Failed-clause-alone g c = λ at f k n. gap_failed c.args.self.now c.make_fit-at.new.self c.fill.new.self k (c.make_fit-at.ensures.alone at f) c.fill.ensures.shelf

pub returns-clause-alone : goal.returns-clause-alone
returns-clause-alone g c = λ at f k n. gap_filled c.args.self.now c.make_fit-at.new.self c.fill.new.self c.settle.new.self c.args.key k _ (c.make_fit-at.ensures.alone at f) c.fill.ensures.shelf c.settle.ensures.places n

pub returns-in-Failed-clause-takes : goal.returns-in-Failed-clause-takes
returns-in-Failed-clause-takes g c = takes_none c.args.self.now c.make_fit-at.new.self c.fill.new.self c.args.key c.make_fit-at.ensures.moved c.fill.ensures.shelf c.requires.out

pub returns-clause-takes : goal.returns-clause-takes
returns-clause-takes g c = takes_size c.args.self.now c.make_fit-at.new.self c.fill.new.self c.settle.new.self c.args.key _ c.make_fit-at.ensures.moved c.fill.ensures.shelf c.settle.ensures.places c.settle.ensures.takes

pub returns-in-Failed-clause-asks : goal.returns-in-Failed-clause-asks
returns-in-Failed-clause-asks g c = asks_behind _ _ _ _ _ _ _ _ (ap (λ (x : Shelf). blocks_of x.swap c.args.key) c.make_fit-at.ensures.moved.shelf) refl (λ e. absurd cc) c.fill.ensures.asks

pub returns-clause-asks : goal.returns-clause-asks
returns-clause-asks g c = asks_behind _ _ _ _ _ _ _ _ (ap (λ (x : Shelf). blocks_of x.swap c.args.key) c.make_fit-at.ensures.moved.shelf) refl (λ e. c.in_default.is) c.fill.ensures.asks
