use Rattle.std.proofs.Common.{◌≡◌, ◌-◌, Bool, List, inl, inr, Option, Some, None, ap, cond, refl, subst, sym, ◌∙◌}
use Rattle.o2_regions.specs.declared.answer.Roomed.{Roomed}
use Rattle.o2_regions.specs.declared.answer.Roomed.TheVariants.{NoRoom}
use Rattle.std.proofs.lemmas.Bool.{cond-false}
use Rattle.o2_regions.specs.Maps.{Maps, held_at}
use Rattle.o2_huge.specs.Growth.{sized_there}
use Rattle.o2_huge.specs.Resized.{MatchesSized, changed_in, is_done, sized_last}
use Rattle.std.specs.List.{list_any}
use Rattle.o2_changes.proofs.KeepingHolds.{holds_trans, told_holds}
use Rattle.o2_segs.specs.Limits.{KeepsLimitsBy}
use Rattle.o2_segs.proofs.Limits.{limits_then}
use Rattle.o2_world.specs.Changes.{Change, takes}
use Rattle.o2_world.specs.HugeRulings.{segments_of}
use Rattle.o2_huge.proofs.Changing.{changed_same, resized_matches, sized_last_is, stopped_matches, takes_behind}
use Rattle.o2_huge.proofs.Following.{may_have_still, may_make_still, run_held, stops_as}
use Rattle.o2_huge.proofs.Firsts.{each_as}
use Rattle.o2_huge.proofs.Sizing.{done_is, first_as, never_done, not_done, same_stop}
use Rattle.o2_store.proofs.Framing.{device_for}
use Rattle.o2_changes.proofs.Framing.{for_then}
use Rattle.o2_huge.proofs.reallocating.resize_run.Goals as goal

pub returns-in-Some-clause-done : goal.returns-in-Some-clause-done
returns-in-Some-clause-done g c = λ a e. never_done c.in-Some.stop a _ c.in-Some.ensures.stop e

pub returns-in-Some-clause-matches : goal.returns-in-Some-clause-matches
returns-in-Some-clause-matches g c =
    stopped_matches c.args.store.now c.resize_member.new.store c.args.regions.now c.resize_member.new.regions _ _ _ _ c.args.pid c.args.run.first c.args.run.count c.args.there c.args.segs c.args.part c.in-Some.stop
    (not_done c.in-Some.stop c.in-Some.ensures.stop) (c.in-Some.ensures.stays refl)

pub returns-in-Some-clause-registers : goal.returns-in-Some-clause-registers
returns-in-Some-clause-registers g c = sym (cond-false (is_done c.in-Some.stop) _ c.args.cpu.now (not_done c.in-Some.stop c.in-Some.ensures.stop))

pub returns-in-Some-clause-holds : goal.returns-in-Some-clause-holds
returns-in-Some-clause-holds g c = inl (told_holds c.args.regions.now c.resize_member.new.regions c.resize_member.ensures.maps)

pub returns-in-Some-clause-load : goal.returns-in-Some-clause-load
returns-in-Some-clause-load g c = λ e. c.in-Some.ensures.load (ap Some e)

pub returns-in-None-clause-done : goal.returns-in-None-clause-done
returns-in-None-clause-done g c = λ a e. done_is c.done.result a e ∙ c.done.ensures

pub returns-in-None-clause-matches : goal.returns-in-None-clause-matches
returns-in-None-clause-matches g c =
    resized_matches c.args.store.now c.resize_member.new.store c.change_members.new.store c.args.regions.now c.resize_member.new.regions c.change_members.new.regions _ _ _ _ c.args.pid c.args.run.first c.args.run.count c.args.there c.args.segs c.args.part _ refl
    c.resize_member.ensures.rest c.resize_member.ensures.maps
    (subst (MatchesSized _ _ _ _ _ _ _ _) (sized_last_is c.args.store.now c.args.regions.now c.args.pid c.args.run.first c.args.there c.args.segs c.args.part c.size_of_last-size.result c.last_of-last.result c.size_of_last-size.ensures c.last_of-last.ensures)
    (c.in-None.ensures.matches refl)) c.change_members.ensures.matches

pub returns-in-None-clause-holds : goal.returns-in-None-clause-holds
returns-in-None-clause-holds g c =
    let s = c.args.store.now in
    let t = c.resize_member.new.store in
    let m = c.args.regions.now in
    let n = c.resize_member.new.regions in
    let o = c.change_members.new.regions in
    let same = changed_same s t m n c.args.pid c.args.run.first c.args.run.count c.args.there c.args.segs c.args.part c.resize_member.ensures.rest c.resize_member.ensures.maps in
    elim c.change_members.ensures.holds [
      | inl keeps ↦ inl (holds_trans m n o (told_holds m n c.resize_member.ensures.maps) keeps)
      | inr some ↦ inr (takes_behind (sized_last s m c.args.pid c.args.run.first c.args.there c.args.segs c.args.part) (changed_in s m c.args.pid c.args.run.first c.args.run.count c.args.there c.args.segs c.args.part) (ap (list_any takes) (sym same) ∙ some))
    ]

pub returns-in-Some-clause-device : goal.returns-in-Some-clause-device
returns-in-Some-clause-device g c = device_for _ _ _ _ _ _ _ (λ e. ap Some e) c.in-Some.ensures.device

pub returns-in-None-clause-device : goal.returns-in-None-clause-device
returns-in-None-clause-device g c = device_for _ _ _ _ _ _ _ (λ e. absurd (cc)) c.resize_member.ensures.device

pub returns-in-Some-clause-sizes : goal.returns-in-Some-clause-sizes
returns-in-Some-clause-sizes g c =
    let m = c.args.regions.now in
    let n = c.resize_member.new.regions in
    let limits = c.resize_member.ensures.limits in
    record {
      limits = subst (λ (b : Bool). KeepsLimitsBy c.args.store.now m c.resize_member.new.store n (cond b 4096 0) 0) (sym (not_done c.in-Some.stop c.in-Some.ensures.stop)) limits;
      processes = ap (λ (x : Maps). x.processes) c.resize_member.ensures.maps.rest;
      kept = λ k named some here. c.resize_member.ensures.kept k named here;
      goes_on = c.resize_member.ensures.goes_on;
    }

pub returns-in-None-clause-sizes : goal.returns-in-None-clause-sizes
returns-in-None-clause-sizes g c =
    let s = c.args.store.now in
    let t = c.resize_member.new.store in
    let u = c.change_members.new.store in
    let m = c.args.regions.now in
    let n = c.resize_member.new.regions in
    let o = c.change_members.new.regions in
    record {
      limits = limits_then s t u m n o 0 4096 c.resize_member.ensures.limits c.change_members.ensures.limits;
      processes = c.change_members.ensures.processes ∙ ap (λ (x : Maps). x.processes) c.resize_member.ensures.maps.rest;
      kept = λ k named some here. c.change_members.ensures.kept k some (c.resize_member.ensures.kept k named here);
      goes_on = for_then c.args.images.now s t u m n o c.resize_member.ensures.goes_on c.change_members.ensures.goes_on;
    }

pub returns-in-Some-clause-stops : goal.returns-in-Some-clause-stops
returns-in-Some-clause-stops g c =
    let s = c.args.store.now in
    let m = c.args.regions.now in
    let pid = c.args.pid in
    let last = c.last_of-last.result in
    let size = c.size_of_last-size.result in
    let there : List Change = sized_there s size (held_at m pid last) in
    let sized : List Change = sized_last s m pid c.args.run.first c.args.there c.args.segs c.args.part in
    let same = sized_last_is s m pid c.args.run.first c.args.there c.args.segs c.args.part size last c.size_of_last-size.ensures c.last_of-last.ensures in
    stops_as s c.args.keep.now there sized _ _ _ _ _ _ (λ says x. first_as s there sized says same x) (λ e. ap Some e) (λ e. ap Some e) (λ i. i) c.in-Some.ensures.stops

pub returns-in-None-clause-stops : goal.returns-in-None-clause-stops
returns-in-None-clause-stops g c =
    let s = c.args.store.now in
    let m = c.args.regions.now in
    let pid = c.args.pid in
    let last = c.last_of-last.result in
    let size = c.size_of_last-size.result in
    let there : List Change = sized_there s size (held_at m pid last) in
    let sized : List Change = sized_last s m pid c.args.run.first c.args.there c.args.segs c.args.part in
    let same = sized_last_is s m pid c.args.run.first c.args.there c.args.segs c.args.part size last c.size_of_last-size.ensures c.last_of-last.ensures in
    record {
      no_room = λ e. absurd (cc);
      all_load = λ e. absurd (cc);
      idle = λ none. elim (c.resize_member.ensures.stops.idle none) [
        | inl i ↦ inl (record { device = i.device; none = c.change_members.ensures.goes_on.unused i.none })
        | inr more ↦ inr (first_as s there sized _ same more)
      ];
    }

pub change_members-requires-clause-holds_run : goal.change_members-requires-clause-holds_run
change_members-requires-clause-holds_run g c =
    run_held c.args.regions.now c.resize_member.new.regions c.args.pid c.args.run.first c.args.run.count c.args.there c.args.first (ap (λ (x : Maps). x.held) c.resize_member.ensures.maps.rest) c.requires.holds_run

pub change_members-requires-clause-may_have : goal.change_members-requires-clause-may_have
change_members-requires-clause-may_have g c =
    let m = c.args.regions.now in
    let n = c.resize_member.new.regions in
    let rest = c.resize_member.ensures.maps.rest in
    may_have_still m n c.args.pid c.args.run.first c.args.run.count c.args.there (segments_of c.args.segs c.args.part) (ap (λ (x : Maps). x.reserved) rest) (ap (λ (x : Maps). x.held) rest) c.requires.may_have

pub change_members-requires-clause-may_make : goal.change_members-requires-clause-may_make
change_members-requires-clause-may_make g c =
    let m = c.args.regions.now in
    let n = c.resize_member.new.regions in
    let member = c.resize_member.ensures in
    may_make_still c.args.store.now c.resize_member.new.store m n c.args.pid (segments_of c.args.segs c.args.part - c.args.there) member.rest (ap (λ (x : Maps). x.processes) member.maps.rest) member.goes_on.order c.requires.may_make

pub returns-in-Some-clause-always_no_room : goal.returns-in-Some-clause-always_no_room
returns-in-Some-clause-always_no_room g c = λ x.
    let s = c.args.store.now in
    let m = c.args.regions.now in
    let pid = c.args.pid in
    let last = c.last_of-last.result in
    let size = c.size_of_last-size.result in
    let there : List Change = sized_there s size (held_at m pid last) in
    let sized : List Change = sized_last s m pid c.args.run.first c.args.there c.args.segs c.args.part in
    let same = sized_last_is s m pid c.args.run.first c.args.there c.args.segs c.args.part size last c.size_of_last-size.ensures c.last_of-last.ensures in
    same_stop c.in-Some.stop NoRoom (c.in-Some.ensures.always_no_room (each_as s sized there _ (sym same) x))

pub returns-in-None-clause-always_no_room : goal.returns-in-None-clause-always_no_room
returns-in-None-clause-always_no_room g c = λ x.
    let s = c.args.store.now in
    let m = c.args.regions.now in
    let pid = c.args.pid in
    let last = c.last_of-last.result in
    let size = c.size_of_last-size.result in
    let there : List Change = sized_there s size (held_at m pid last) in
    let sized : List Change = sized_last s m pid c.args.run.first c.args.there c.args.segs c.args.part in
    let same = sized_last_is s m pid c.args.run.first c.args.there c.args.segs c.args.part size last c.size_of_last-size.ensures c.last_of-last.ensures in
    let z : ◌≡◌ {A = Option Roomed} None (Some NoRoom) = c.in-None.ensures.always_no_room (each_as s sized there _ (sym same) x) in
    absurd cc
