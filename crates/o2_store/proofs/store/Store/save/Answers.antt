use Rattle.std.proofs.Common.{◌≡◌, ap, ◌∙◌, is_some, true}
use Rattle.o2_store.specs.Shelf.{Shelf, place_of}
use Rattle.o2_store.proofs.Keeping.{keeps_trans, keeps_device}
use Rattle.o2_store.proofs.store.Store.save.Goals as goal

pub returns-in-Failed-clause-keeps : goal.returns-in-Failed-clause-keeps
returns-in-Failed-clause-keeps g c =
    let S = g.S.SwapDevice in
    let told = S.told c.flush.new.swap in
    let a = S.block c.args.swap.now in
    let b = S.block c.flush.new.swap in
    let s = c.args.self.now in
    let t = c.reserve.new.self in
    let placed : is_some (place_of t c.args.key) ≡ true = ap (λ (x : Shelf). is_some (place_of x c.args.key)) c.reserve.ensures.shelf ∙ ap is_some c.requires.placed in
    λ pic. keeps_trans told pic s t t a a b (c.reserve.ensures.keeps told pic a) (keeps_device told pic t c.args.key a b c.law.ensures.shelf c.law.ensures.once placed c.flush.ensures.others)

pub returns-clause-keeps : goal.returns-clause-keeps
returns-clause-keeps g c =
    let S = g.S.SwapDevice in
    let told = S.told c.flush.new.swap in
    let a = S.block c.args.swap.now in
    let b = S.block c.flush.new.swap in
    let s = c.args.self.now in
    let t = c.reserve.new.self in
    let placed : is_some (place_of t c.args.key) ≡ true = ap (λ (x : Shelf). is_some (place_of x c.args.key)) c.reserve.ensures.shelf ∙ ap is_some c.requires.placed in
    λ pic. keeps_trans told pic s t t a a b (c.reserve.ensures.keeps told pic a) (keeps_device told pic t c.args.key a b c.law.ensures.shelf c.law.ensures.once placed c.flush.ensures.others)
