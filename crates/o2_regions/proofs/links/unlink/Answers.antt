use Rattle.std.proofs.Common.{◌≡◌, length, vec_len, arith, refl, rules, get_or}
use Rattle.std.proofs.lemmas.List.{get_or_read}
use Rattle.o2_regions.proofs.Linked.{held_some, before_inside, behind_inside, AreNext-went, ArePrev-went}
use Rattle.o2_regions.proofs.links.unlink.Goals as goal

pub index_mut-requires : goal.index_mut-requires
index_mut-requires c =
    let held = c.args.held.now in
    let next = c.args.next.now.items in
    let prev = c.args.prev.now.items in
    let h = held_some (get_or held c.args.place _) c.requires.some in
    let is_a = get_or_read prev c.args.place c.index-before.result.now (omega (arith, c.requires.prev.prev_long)) c.index-before.ensures 0 in
    let is_c = get_or_read next c.args.place c.index-after.result.now (omega (arith, c.requires.next.next_long)) c.index-after.ensures 0 in
    let l : vec_len c.args.next.now ≡ length next = search rules in
    omega (arith, l, c.requires.next.next_long, before_inside (length held) held next prev c.args.place h.0 refl c.requires.within h.1 c.requires.next c.requires.prev _ _ is_a is_c)

pub index_mut-requires-2 : goal.index_mut-requires-2
index_mut-requires-2 c =
    let held = c.args.held.now in
    let next = c.args.next.now.items in
    let prev = c.args.prev.now.items in
    let h = held_some (get_or held c.args.place _) c.requires.some in
    let is_a = get_or_read prev c.args.place c.index-before.result.now (omega (arith, c.requires.prev.prev_long)) c.index-before.ensures 0 in
    let is_c = get_or_read next c.args.place c.index-after.result.now (omega (arith, c.requires.next.next_long)) c.index-after.ensures 0 in
    let l : vec_len c.args.prev.now ≡ length prev = search rules in
    omega (arith, l, c.requires.prev.prev_long, behind_inside (length held) held next prev c.args.place h.0 refl c.requires.within h.1 c.requires.next c.requires.prev _ _ is_a is_c)

pub returns-clause-next : goal.returns-clause-next
returns-clause-next c =
    let held = c.args.held.now in
    let next = c.args.next.now.items in
    let prev = c.args.prev.now.items in
    let h = held_some (get_or held c.args.place _) c.requires.some in
    let is_a = get_or_read prev c.args.place c.index-before.result.now (omega (arith, c.requires.prev.prev_long)) c.index-before.ensures 0 in
    let is_c = get_or_read next c.args.place c.index-after.result.now (omega (arith, c.requires.next.next_long)) c.index-after.ensures 0 in
    AreNext-went (length held) held next prev c.args.place h.0 refl c.requires.within h.1 c.requires.next c.requires.prev _ _ is_a is_c

pub returns-clause-prev : goal.returns-clause-prev
returns-clause-prev c =
    let held = c.args.held.now in
    let next = c.args.next.now.items in
    let prev = c.args.prev.now.items in
    let h = held_some (get_or held c.args.place _) c.requires.some in
    let is_a = get_or_read prev c.args.place c.index-before.result.now (omega (arith, c.requires.prev.prev_long)) c.index-before.ensures 0 in
    let is_c = get_or_read next c.args.place c.index-after.result.now (omega (arith, c.requires.next.next_long)) c.index-after.ensures 0 in
    ArePrev-went (length held) held next prev c.args.place h.0 refl c.requires.within h.1 c.requires.next c.requires.prev _ _ is_a is_c
