use Rattle.std.proofs.Common.{◌≡◌, ℕ, ◌<◌, ap, subst, rules, Some}
use Rattle.o2_store.specs.Shelf.{Shelf, place_of, entry, rounded, IsSaved}
use Rattle.o2_store.specs.Victims.{HasLeft}
use Rattle.o2_store.proofs.Departing.{leave_one, leave_saved, leave_still}
use Rattle.o2_store.proofs.Keeping.{keeps_trans, saved_there}
use Rattle.o2_store.proofs.store.Store.evict_one.Goals as goal

pub returns-in-Here-clause-keeps : goal.returns-in-Here-clause-keeps
returns-in-Here-clause-keeps g c =
    let S = g.S.SwapDevice in
    let told = S.told c.save.new.swap in
    let a = S.block c.args.swap.now in
    let b = S.block c.save.new.swap in
    let s = c.args.self.now in
    let t = c.save.new.self in
    let u = c.let_go-in-Here.new.self in
    let key = c.args.key in
    let there : place_of t key ≡ Some (c.in-Some.at, rounded (entry s key).size) = search rules in
    let size : (entry t key).size ≡ (entry s key).size = (c.save.ensures.tables.same key).size in
    λ pic clean.
    (let saved : IsSaved told pic t b key = saved_there told pic t b key c.in-Some.at (rounded (entry s key).size) there
    (λ w j l. c.save.ensures.saved w c.in-Here.is pic j (subst (λ (n : ℕ). j < n) size l)) in
    keeps_trans told pic s t u a b b (c.save.ensures.keeps pic) (c.let_go-in-Here.ensures.keeps told pic b saved))

pub returns-in_default-save : goal.returns-in_default-save
returns-in_default-save g c = record {
  keeps = λ pic clean. c.save.ensures.keeps pic;
  clean = c.save.ensures.clean;
  tables = c.save.ensures.tables;
  device = c.save.ensures.device;
  map = c.save.ensures.map;
  out = search rules;
  used = search rules;
  left = search rules;
  fewer = search rules;
  keys = search rules;
  stays = search rules;
  evicts = search rules;
  leave = λ len l. leave_still c.args.self.now c.save.new.self len (ap (λ (x : Shelf). x.places) c.save.ensures.shelf);
  unasked = c.save.ensures.unasked;
  piles = c.save.ensures.piles;
  dropped = search rules;
  full = search rules;
  lacks = search rules;
  never = search rules;
}

pub returns-then-is_clean-clause-leave : goal.returns-then-is_clean-clause-leave
returns-then-is_clean-clause-leave g c =
    let e = c.let_go.ensures in
    λ len l. leave_one c.args.self.now c.let_go.new.self c.args.key len c.requires.placed e.places e.frees l

pub returns-in-Here-clause-leave : goal.returns-in-Here-clause-leave
returns-in-Here-clause-leave g c =
    let e = c.let_go-in-Here.ensures in
    λ len l. leave_saved c.args.self.now c.save.new.self c.let_go-in-Here.new.self c.args.key len c.save.ensures.tables (ap (λ (x : Shelf). x.places) c.save.ensures.shelf) c.requires.placed e.places e.frees l

pub returns-in-Here-clause-left : goal.returns-in-Here-clause-left
returns-in-Here-clause-left g c = λ r. subst (λ (x : Shelf). HasLeft x.turns c.let_go-in-Here.new.self.turns c.args.key) c.save.ensures.shelf c.let_go-in-Here.ensures.left
