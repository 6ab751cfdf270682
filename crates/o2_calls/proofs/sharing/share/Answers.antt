use Rattle.std.proofs.Common.{Some, IsSome, ap, refl, sym, subst}
use Rattle.o2_store.specs.Shelf.{Shelf, place_of}
use Rattle.o2_stands.specs.Knows.{known_in, others_of}
use Rattle.o2_world.specs.Changes.{with_all}
use Rattle.o2_world.specs.SharedNames.{name_by}
use Rattle.o2_world.specs.SharedRulings.{getting, giving, naming, sharing}
use Rattle.o2_segs.proofs.Limits.{limits_by}
use Rattle.o2_calls.proofs.SharedOver.{get_texts, give_texts, keeps_still, limits_by_more, maps_now, matches_now, share_texts, shared_row, spelled_same}
use Rattle.o2_calls.proofs.sharing.share.Goals as goal

pub returns-in-Name-clause-row : goal.returns-in-Name-clause-row
returns-in-Name-clause-row c = λ images block p s w over spells cpu.
    (let q = c.alloc_shr_seg.ensures in
    let pid = c.args.pid in
    let o = others_of s w in
    let known = known_in p o in
    let here = matches_now _ _ images block p s w over pid in
    shared_row _ _ images block p s w over pid cpu c.in-Name.is (ap (naming known pid c.in-Name.size) c.text.ensures) (record {
      answer = q.answer p o over.store over.regions spells.texts;
      matches = λ x at. q.matches p o w x over.store over.regions spells.texts at here;
      spells = record {
        texts = q.texts p o w over.store over.regions spells.texts spells.texts;
        once = q.once p o w over.store over.regions spells.texts spells.texts spells.once;
      };
    }))

pub returns-in-Share-clause-row : goal.returns-in-Share-clause-row
returns-in-Share-clause-row c = λ images block p s w over spells cpu.
    (let q = c.get_shr_seg.ensures in
    let pid = c.args.pid in
    let o = others_of s w in
    let known = known_in p o in
    let here = matches_now _ _ images block p s w over pid in
    let shared = with_all w (sharing known pid (name_by (Some c.text-in-Share.result.now))).changes in
    shared_row _ _ images block p s w over pid cpu c.in-Share.is (ap (sharing known pid) c.text-in-Share.ensures) (record {
      answer = q.answer p o over.store over.regions spells.processes spells.texts;
      matches = λ x at. maps_now p _ _ _ shared over.store q.store (q.matches p o w x over.store over.regions spells.processes spells.texts at here);
      spells = spelled_same _ _ _ _ _ _ _ _ _ spells q.store q.names (share_texts w known pid (name_by (Some c.text-in-Share.result.now)));
    }))

pub returns-in-Give-clause-row : goal.returns-in-Give-clause-row
returns-in-Give-clause-row c = λ images block p s w over spells cpu.
    (let q = c.give_seg.ensures in
    let pid = c.args.pid in
    let o = others_of s w in
    let known = known_in p o in
    let here = matches_now _ _ images block p s w over pid in
    let shared = with_all w (giving known pid c.in-Give.selector c.in-Give.to).changes in
    shared_row _ _ images block p s w over pid cpu c.in-Give.is refl (record {
      answer = q.answer p o over.store over.regions spells.marked;
      matches = λ x at. maps_now p _ _ _ shared over.store q.store (q.matches p o w over.store over.regions spells.marked here);
      spells = spelled_same _ _ _ _ _ _ _ _ _ spells q.store refl (give_texts w known pid c.in-Give.selector c.in-Give.to);
    }))

pub returns-in-Get-clause-row : goal.returns-in-Get-clause-row
returns-in-Get-clause-row c = λ images block p s w over spells cpu.
    (let q = c.get_seg.ensures in
    let pid = c.args.pid in
    let o = others_of s w in
    let known = known_in p o in
    let here = matches_now _ _ images block p s w over pid in
    let shared = with_all w (getting known pid c.in-Get.selector).changes in
    shared_row _ _ images block p s w over pid cpu c.in-Get.is refl (record {
      answer = q.answer p o over.store over.regions spells.processes;
      matches = λ x at. maps_now p _ _ _ shared over.store q.store (q.matches p o w x over.store over.regions spells.processes at here);
      spells = spelled_same _ _ _ _ _ _ _ _ _ spells q.store refl (get_texts w known pid c.in-Get.selector);
    }))

pub returns-in-Name-clause-limits : goal.returns-in-Name-clause-limits
returns-in-Name-clause-limits c = limits_by c.args.store.now c.alloc_shr_seg.new.store c.args.regions.now c.alloc_shr_seg.new.regions 1 c.alloc_shr_seg.ensures.limits

pub returns-in-Name-clause-still : goal.returns-in-Name-clause-still
returns-in-Name-clause-still c = keeps_still c.args.regions.now c.alloc_shr_seg.new.regions c.alloc_shr_seg.ensures.holds

pub returns-in-Name-clause-processes : goal.returns-in-Name-clause-processes
returns-in-Name-clause-processes c = c.alloc_shr_seg.ensures.holds.processes

pub returns-in-Share-clause-limits : goal.returns-in-Share-clause-limits
returns-in-Share-clause-limits c = limits_by_more c.args.store.now c.get_shr_seg.new.store c.args.regions.now c.get_shr_seg.new.regions c.get_shr_seg.ensures.more.limits

pub returns-in-Give-clause-limits : goal.returns-in-Give-clause-limits
returns-in-Give-clause-limits c = limits_by_more c.args.store.now c.give_seg.new.store c.args.regions.now c.give_seg.new.regions c.give_seg.ensures.more.limits

pub returns-in-Get-clause-limits : goal.returns-in-Get-clause-limits
returns-in-Get-clause-limits c = limits_by_more c.args.store.now c.get_seg.new.store c.args.regions.now c.get_seg.new.regions c.get_seg.ensures.more.limits

pub returns-in-Share-clause-kept : goal.returns-in-Share-clause-kept
returns-in-Share-clause-kept c = λ k here. subst (λ (x : Shelf). IsSome (place_of x k)) (sym c.get_shr_seg.ensures.store) here

pub returns-in-Give-clause-kept : goal.returns-in-Give-clause-kept
returns-in-Give-clause-kept c = λ k here. subst (λ (x : Shelf). IsSome (place_of x k)) (sym c.give_seg.ensures.store) here

pub returns-in-Get-clause-kept : goal.returns-in-Get-clause-kept
returns-in-Get-clause-kept c = λ k here. subst (λ (x : Shelf). IsSome (place_of x k)) (sym c.get_seg.ensures.store) here

pub returns-in-Share-clause-still : goal.returns-in-Share-clause-still
returns-in-Share-clause-still c = c.get_shr_seg.ensures.more.still

pub returns-in-Share-clause-processes : goal.returns-in-Share-clause-processes
returns-in-Share-clause-processes c = c.get_shr_seg.ensures.more.processes

pub returns-in-Share-clause-goes_on : goal.returns-in-Share-clause-goes_on
returns-in-Share-clause-goes_on c = c.get_shr_seg.ensures.more.goes_on

pub returns-in-Give-clause-still : goal.returns-in-Give-clause-still
returns-in-Give-clause-still c = c.give_seg.ensures.more.still

pub returns-in-Give-clause-processes : goal.returns-in-Give-clause-processes
returns-in-Give-clause-processes c = c.give_seg.ensures.more.processes

pub returns-in-Give-clause-goes_on : goal.returns-in-Give-clause-goes_on
returns-in-Give-clause-goes_on c = c.give_seg.ensures.more.goes_on

pub returns-in-Give-clause-places : goal.returns-in-Give-clause-places
returns-in-Give-clause-places c = c.give_seg.ensures.more.places c.args.names.now c.requires.places

pub returns-in-Get-clause-still : goal.returns-in-Get-clause-still
returns-in-Get-clause-still c = c.get_seg.ensures.more.still

pub returns-in-Get-clause-processes : goal.returns-in-Get-clause-processes
returns-in-Get-clause-processes c = c.get_seg.ensures.more.processes

pub returns-in-Get-clause-goes_on : goal.returns-in-Get-clause-goes_on
returns-in-Get-clause-goes_on c = c.get_seg.ensures.more.goes_on

pub returns-in-Get-clause-places : goal.returns-in-Get-clause-places
returns-in-Get-clause-places c = c.get_seg.ensures.more.places c.args.names.now c.requires.places
