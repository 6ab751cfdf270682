use Rattle.std.proofs.Common.{◌≡◌, arith, length, true, false, nat_eq, sym, ◌∙◌}
use Rattle.std.specs.List.{list_any}
use Rattle.o2_store.specs.Needs.{has}
use Rattle.o2_store.proofs.Tables.{within_at}
use Rattle.o2_store.proofs.Collecting.{pushed, has_room, flip, has-push, has-same, need-push}
use Rattle.o2_store.proofs.keys.add_key.Goals as goal

pub push_reserved-requires : goal.push_reserved-requires
push_reserved-requires c =
    let f : list_any (nat_eq c.args.key) c.args.keys.now.items ≡ false = flip c.args.key c.args.keys.now.items ∙ sym (rw c.deref.ensures.value at c.contains.ensures.value) ∙ c.if-contains.false in
    let r = has_room (length c.args.entries.now) c.args.key c.args.keys.now.items c.requires.keys (within_at c.args.entries.now c.args.key c.requires.live) f in
    omega (arith, r, c.requires.room)

pub returns-then-contains-clause-any : goal.returns-then-contains-clause-any
returns-then-contains-clause-any c =
    let h : has c.args.keys.now.items c.args.key ≡ true = sym (rw c.deref.ensures.value at c.contains.ensures.value) ∙ c.if-contains.true in
    λ k. has-same c.args.keys.now.items c.args.key k h

pub returns-clause-keys : goal.returns-clause-keys
returns-clause-keys c =
    let f : list_any (nat_eq c.args.key) c.args.keys.now.items ≡ false = flip c.args.key c.args.keys.now.items ∙ sym (rw c.deref.ensures.value at c.contains.ensures.value) ∙ c.if-contains.false in
    rw c.push_reserved.ensures.items (pushed (length c.args.entries.now) c.args.key c.args.keys.now.items c.requires.keys (within_at c.args.entries.now c.args.key c.requires.live) f)

pub returns-clause-need : goal.returns-clause-need
returns-clause-need c =
    let f : has c.args.keys.now.items c.args.key ≡ false = sym (rw c.deref.ensures.value at c.contains.ensures.value) ∙ c.if-contains.false in
    rw c.push_reserved.ensures.items (need-push c.args.entries.now c.args.keys.now.items c.args.key c.unlocked_part.result (within_at c.args.entries.now c.args.key c.requires.live) f c.unlocked_part.ensures.value)

pub returns-clause-any : goal.returns-clause-any
returns-clause-any c = rw c.push_reserved.ensures.items (λ k. has-push c.args.keys.now.items c.args.key k)
