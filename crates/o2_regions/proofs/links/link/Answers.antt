use Rattle.std.proofs.Common.{◌≡◌, ◌+◌, length, vec_len, arith, refl, rules, sym, subst, ℕ}
use Rattle.std.proofs.lemmas.List.{get_or_read}
use Rattle.o2_regions.specs.Links.{IsLast, list_of, stands_in}
use Rattle.o2_regions.proofs.Linked.{last_inside, leads_inside, AreNext-came, ArePrev-came}
use Rattle.o2_regions.proofs.links.link.Goals as goal

pub index_mut-requires-4 : goal.index_mut-requires-4
index_mut-requires-4 c =
    let held = c.args.held.now in
    let next = c.args.next.now.items in
    let n = length held in
    let a = c.last_before-before.result in
    let l : vec_len c.args.prev.now ≡ length c.args.prev.now.items = search rules in
    let w = last_inside n held (list_of c.args.key) c.args.place a (omega arith) c.last_before-before.ensures in
    let is_c = get_or_read next a c.index-after.result.now (omega (arith, w, c.requires.next.next_long)) c.index-after.ensures 0 in
    omega (arith, l, c.requires.prev.prev_long, leads_inside n held next (list_of c.args.key) c.args.place a c.index-after.result.now c.requires.next (omega arith) c.requires.within c.last_before-before.ensures is_c)

pub returns-clause-next : goal.returns-clause-next
returns-clause-next c = λ h e.
    let held = c.args.held.now in
    let n = length held in
    let a = c.last_before-before.result in
    let last = subst (λ (k : ℕ). IsLast (stands_in held (list_of k)) n (n + list_of k) c.args.place a) (sym e) c.last_before-before.ensures in
    let w = last_inside n held (list_of c.args.key) c.args.place a (omega arith) c.last_before-before.ensures in
    let is_c = get_or_read c.args.next.now.items a c.index-after.result.now (omega (arith, w, c.requires.next.next_long)) c.index-after.ensures 0 in
    AreNext-came n held c.args.next.now.items c.args.prev.now.items c.args.place a c.index-after.result.now h refl c.requires.within c.requires.free c.requires.next c.requires.prev last is_c

pub returns-clause-prev : goal.returns-clause-prev
returns-clause-prev c = λ h e.
    let held = c.args.held.now in
    let n = length held in
    let a = c.last_before-before.result in
    let last = subst (λ (k : ℕ). IsLast (stands_in held (list_of k)) n (n + list_of k) c.args.place a) (sym e) c.last_before-before.ensures in
    let w = last_inside n held (list_of c.args.key) c.args.place a (omega arith) c.last_before-before.ensures in
    let is_c = get_or_read c.args.next.now.items a c.index-after.result.now (omega (arith, w, c.requires.next.next_long)) c.index-after.ensures 0 in
    ArePrev-came n held c.args.next.now.items c.args.prev.now.items c.args.place a c.index-after.result.now h refl c.requires.within c.requires.free c.requires.next c.requires.prev last is_c
