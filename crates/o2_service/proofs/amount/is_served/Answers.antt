use Rattle.std.proofs.Common.{◌∙◌, sym}
use Rattle.o2_store.specs.Shelf.{entry_of, place_of}
use Rattle.o2_store.proofs.Leaving.{some_not_none}
use Rattle.o2_service.proofs.Among.{based_placed}
use Rattle.o2_service.proofs.Movings.{base_none}
use Rattle.o2_service.proofs.amount.is_served.Goals as goal

pub returns-then-not-is_some-clause-missing : goal.returns-then-not-is_some-clause-missing
returns-then-not-is_some-clause-missing c = λ e i.
    (let s = c.args.store.now in
    let id = c.args.id in
    absurd (some_not_none (place_of s id.key) i (base_none (entry_of s id) (place_of s id.key) c.requires (rw c.base.ensures at (sym c.is_some.ensures ∙ c.if-not-is_some.true)))))

pub returns-clause-here : goal.returns-clause-here
returns-clause-here c = λ e. based_placed (entry_of c.args.store.now c.args.id) (place_of c.args.store.now c.args.id.key) (rw c.base.ensures at (sym c.is_some.ensures ∙ c.if-not-is_some.false))
