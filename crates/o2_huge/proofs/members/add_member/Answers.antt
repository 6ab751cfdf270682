use Rattle.std.proofs.Common.{ap, arith, refl}
use Rattle.o2_entries.specs.declared.Entry.{Entry}
use Rattle.o2_segs.proofs.Making.{added_entry}
use Rattle.o2_segs.proofs.Sharing.{added_lived}
use Rattle.o2_changes.proofs.Framing.{order_held, order_trans}
use Rattle.o2_changes.proofs.KeepingHolds.{new_holds}
use Rattle.o2_huge.proofs.Growing.{member_grows, member_matches, member_others}
use Rattle.o2_huge.proofs.Keeping.{brings_granted, brought_shares, few_granted}
use Rattle.o2_huge.proofs.members.add_member.Goals as goal

pub make-requires-clause-made : goal.make-requires-clause-made
make-requires-clause-made c = let a = c.requires.may_make.made in omega (arith, a)

pub returns-in-Some-clause-grows : goal.returns-in-Some-clause-grows
returns-in-Some-clause-grows c =
    let s = c.args.store.now in
    let t = c.make.new.store in
    let m = c.args.regions.now in
    let n = c.hold_more.new.regions in
    let pid = c.args.pid in
    let i = c.args.index in
    let adds = c.in-Some.ensures.added in
    let grants = c.hold_more.ensures.grants in
    let plain = ap (λ (x : Entry). x.attr.clean) (added_entry s t c.in-Some.id _ adds) in
    member_grows s t m n c.in-Some.id _ pid i _ c.args.holds _ adds refl grants c.requires.open.free (few_granted m n pid i _ _ grants c.requires.open.free)
    (order_trans s t t m m n c.make.ensures.goes_on (order_held t m n c.hold_more.ensures.order (λ was. c.hold_more.ensures.guards (λ writable. plain) was)))

pub returns-in-Some-clause-others : goal.returns-in-Some-clause-others
returns-in-Some-clause-others c = λ q i other. member_others c.args.regions.now c.hold_more.new.regions c.args.pid c.args.index q i _ _ c.hold_more.ensures.grants other

pub returns-in-Some-clause-adds : goal.returns-in-Some-clause-adds
returns-in-Some-clause-adds c = record {
  live = c.in-Some.ensures.live;
  age = c.in-Some.ensures.added.age;
  plain = ap (λ (x : Entry). x.attr.clean) (added_entry c.args.store.now c.make.new.store c.in-Some.id _ c.in-Some.ensures.added);
  brings = brings_granted c.args.regions.now c.hold_more.new.regions c.args.pid c.args.index _ _ c.hold_more.ensures.grants c.requires.open.free;
}

pub returns-in-Some-clause-matches : goal.returns-in-Some-clause-matches
returns-in-Some-clause-matches c = λ unlocked.
    member_matches c.args.store.now c.make.new.store c.args.regions.now c.hold_more.new.regions c.in-Some.id _ c.args.pid c.args.index c.args.size c.full_size.result c.args.flags c.args.run.first c.args.run.count c.args.holds c.is_shared.result
    c.in-Some.ensures.added c.full_size.ensures.size c.is_shared.ensures unlocked c.in-Some.ensures.live c.in-Some.ensures.matches c.hold_more.ensures.matches

pub returns-in-Some-clause-shares : goal.returns-in-Some-clause-shares
returns-in-Some-clause-shares c = λ none.
    (let s = c.args.store.now in
    let m = c.args.regions.now in
    let n = c.hold_more.new.regions in
    let adds = c.in-Some.ensures.added in
    brought_shares s c.make.new.store m n c.args.index c.in-Some.id (new_holds m n c.args.pid c.args.index _ _ c.hold_more.ensures.grants c.requires.open.free)
    (brings_granted m n c.args.pid c.args.index _ _ c.hold_more.ensures.grants c.requires.open.free) none adds.age (added_lived s c.make.new.store c.in-Some.id _ adds refl))

pub returns-in-None-clause-shares : goal.returns-in-None-clause-shares
returns-in-None-clause-shares c = absurd (let full = c.in-None.ensures.none.0 in let room = c.requires.may_make.room in omega (arith, full, room))

pub returns-in-None-clause-made : goal.returns-in-None-clause-made
returns-in-None-clause-made c = absurd (let full = c.in-None.ensures.none.0 in let room = c.requires.may_make.room in omega (arith, full, room))

pub returns-in-None-clause-grows : goal.returns-in-None-clause-grows
returns-in-None-clause-grows c = absurd (let full = c.in-None.ensures.none.0 in let room = c.requires.may_make.room in omega (arith, full, room))

pub returns-in-None-clause-matches : goal.returns-in-None-clause-matches
returns-in-None-clause-matches c = absurd (let full = c.in-None.ensures.none.0 in let room = c.requires.may_make.room in omega (arith, full, room))
