use Rattle.std.proofs.Common.{arith, refl}
use Rattle.o2_opening.specs.declared.stored.Stored.{Stored}
use Rattle.o2_opening.proofs.Adding.{add_made, add_others, add_segment, add_whole, holds_added, holds_same, picture_there}
use Rattle.o2_opening.proofs.Stores.{few_made, none_left}
use Rattle.o2_opening.proofs.stored.StoredSegments.add.Goals as goal

pub add_front-added-requires-clause-made : goal.add_front-added-requires-clause-made
add_front-added-requires-clause-made c = let few = few_made c.args.self.now.store c.args.self.now.ids.items c.requires.whole.stored c.law.ensures.shelf in omega (arith, few)

pub overflow_cast-result : goal.overflow_cast-result
overflow_cast-result c =
    let few = few_made c.args.self.now.store c.args.self.now.ids.items c.requires.whole.stored c.law.ensures.shelf in
    let age = c.in-Some.ensures.added.age in
    omega (arith, few, age)

pub returns-in_default-clause-full : goal.returns-in_default-clause-full
returns-in_default-clause-full c = (refl, none_left c.args.self.now.store c.args.self.now.ids.items c.requires.whole.stored c.in_default.ensures.none.0)

pub returns-in_default-clause-held : goal.returns-in_default-clause-held
returns-in_default-clause-held c =
    let w : Stored = record { store = c.add_front-added.new.self; regions = c.args.self.now.regions; ids = c.args.self.now.ids } in
    holds_same c.args.self.now w c.in_default.ensures.none.1 refl

pub returns-in_err-push-clause-held : goal.returns-in_err-push-clause-held
returns-in_err-push-clause-held c =
    let w : Stored = record { store = c.add_front-added.new.self; regions = c.args.self.now.regions; ids = c.push.new.self } in
    holds_added c.args.self.now w c.in-Some.id _ c.in-Some.ensures.added refl

pub returns-clause-held : goal.returns-clause-held
returns-clause-held c =
    let w : Stored = record { store = c.add_front-added.new.self; regions = c.args.self.now.regions; ids = c.push.new.self } in
    holds_added c.args.self.now w c.in-Some.id _ c.in-Some.ensures.added refl

pub returns-clause-whole : goal.returns-clause-whole
returns-clause-whole c =
    let w : Stored = record { store = c.add_front-added.new.self; regions = c.args.self.now.regions; ids = c.push.new.self } in
    add_whole c.args.self.now w c.args._images.now c.args.grip.now c.args.size c.args.room c.args.self.now.store.made c.attributes-attr.result c.in-Some.id c.requires.whole c.in-Some.ensures.added refl refl c.in_ok-push.ensures.items

pub returns-clause-made : goal.returns-clause-made
returns-clause-made c =
    let w : Stored = record { store = c.add_front-added.new.self; regions = c.args.self.now.regions; ids = c.push.new.self } in
    add_made c.args.self.now w c.args._images.now c.args.grip.now c.args.size c.args.room c.args.self.now.store.made c.attributes-attr.result c.in-Some.id c.requires.whole c.in-Some.ensures.added refl refl c.in_ok-push.ensures.items
    c.in-Some.id.age refl

pub returns-clause-others : goal.returns-clause-others
returns-clause-others c =
    let w : Stored = record { store = c.add_front-added.new.self; regions = c.args.self.now.regions; ids = c.push.new.self } in
    add_others c.args.self.now w c.args._images.now c.args.grip.now c.args.size c.args.room c.args.self.now.store.made c.attributes-attr.result c.in-Some.id c.requires.whole c.in-Some.ensures.added refl refl c.in_ok-push.ensures.items
    c.in-Some.ensures.others

pub returns-clause-segment : goal.returns-clause-segment
returns-clause-segment c =
    let w : Stored = record { store = c.add_front-added.new.self; regions = c.args.self.now.regions; ids = c.push.new.self } in
    add_segment c.args.self.now w c.args._images.now c.args.grip.now c.args.size c.args.room c.args.self.now.store.made c.attributes-attr.result c.in-Some.id c.requires.whole c.in-Some.ensures.added refl refl c.in_ok-push.ensures.items
    (picture_there c.args._images.now c.args.grip.now.place c.args.grip.now.number c.requires.image) c.in-Some.ensures.bytes c.attributes-attr.ensures.clean c.attributes-attr.ensures.shared c.attributes-attr.ensures.flags c.attributes-attr.ensures.lock c.attributes-attr.ensures.whole
    c.in-Some.id.age refl
