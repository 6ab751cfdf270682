use Rattle.std.proofs.Common.{◌∙◌, ap}
use Rattle.o2_store.specs.Shelf.{Shelf, entry}
use Rattle.o2_entries.specs.Tables.{slot_at}
use Rattle.o2_store.proofs.Tables.{within_at}
use Rattle.o2_store.proofs.Choosing.{chosen_shelf, live_slot, no_more}
use Rattle.o2_store.proofs.Victims.{next_out}
use Rattle.o2_store.proofs.store.Store.next_out.Goals as goal

pub list_keys-requires : goal.list_keys-requires
list_keys-requires c = record { live = live_slot c.args.id.age (slot_at c.args.self.now.entries c.args.id.key) c.requires.live }

pub returns-in-Some-clause-shelf : goal.returns-in-Some-clause-shelf
returns-in-Some-clause-shelf c = chosen_shelf c.args.self.now c.list_keys.new.self c.next_victim.new.self c.list_keys.ensures.shelf c.next_victim.ensures.shelf

pub returns-in-Some-clause-some : goal.returns-in-Some-clause-some
returns-in-Some-clause-some c =
    let v = c.next_victim.ensures in
    let r = c.in-Some.ensures in
    next_out c.args.self.now c.list_keys.new.self c.next_victim.new.self.turns c.args.id.key c.args.keep.now c.in-Some.key c.age_of.result c.law.ensures.shelf c.list_keys.ensures.shelf c.list_keys.ensures.any
    r.victim r.next v.round v.unmarks r.hand v.places (c.age_of.ensures ∙ ap (λ (x : Shelf). (entry x c.in-Some.key).age) v.shelf)

pub returns-in-None-clause-shelf : goal.returns-in-None-clause-shelf
returns-in-None-clause-shelf c = chosen_shelf c.args.self.now c.list_keys.new.self c.next_victim.new.self c.list_keys.ensures.shelf c.next_victim.ensures.shelf

pub returns-in-None-clause-none : goal.returns-in-None-clause-none
returns-in-None-clause-none c = no_more c.args.self.now c.list_keys.new.self c.args.id.key c.args.keep.now c.law.ensures.shelf c.law.ensures.sum c.list_keys.ensures.shelf c.list_keys.ensures.any
    (within_at c.args.self.now.entries c.args.id.key (live_slot c.args.id.age (slot_at c.args.self.now.entries c.args.id.key) c.requires.live)) c.in-None.ensures.none
