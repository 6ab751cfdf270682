use Rattle.std.proofs.Common.{◌≡◌, ℕ, inl, inr, ◌-◌, ◌/◌, ◌<◌, true, ap, arith, refl, subst, sym, ◌∙◌}
use Rattle.std.specs.List.{list_any}
use Rattle.o2_segs.specs.Answers.{changes_roomed}
use Rattle.o2_world.specs.Changes.{takes}
use Rattle.o2_world.specs.Rulings.{Ruling, grants}
use Rattle.o2_huge.specs.declared.members.Run.{Run}
use Rattle.o2_huge.specs.Growth.{is_of_run}
use Rattle.o2_huge.proofs.Asking.{answers_as, asked_run, changes_as, dropped_all, enough_there, fault_known, first_changes, fixed_there, full_known, good_known}
use Rattle.o2_huge.proofs.Asking.{grants_answer, grants_changes, held_first, inside_there, room_there, run_some, short_there, small_index, some_there, some_wanted}
use Rattle.o2_huge.proofs.Asking.{wanted_vacant, without_done}
use Rattle.o2_huge.proofs.Firsts.{each_granted, none_changed, refused_first}
use Rattle.o2_huge.proofs.Following.{never_stops, refused_row, refused_run, stops_as}
use Rattle.o2_huge.proofs.reallocating.realloc_run.Goals as goal

pub members_of-there-requires-clause-inside : goal.members_of-there-requires-clause-inside
members_of-there-requires-clause-inside g c = inside_there c.args.run c.args.sel c.args.held c.requires.run (small_index c.args.sel c.ranges.sel.fits)

pub fault_of-requires-clause-some : goal.fault_of-requires-clause-some
fault_of-requires-clause-some g c =
    let run = c.args.run in
    let h = c.args.held in
    let sel = c.args.sel in
    let most = ap (λ (r : Run). r.count) c.requires.run in
    some_there c.args.regions.now c.args.pid sel c.members_of-there.result run.first run.count h (ap (λ (r : Run). r.first) c.requires.run) most
    (subst (λ (n : ℕ). 0 < n) (sym most) (run_some (sel / 8) h c.requires.first (small_index sel c.ranges.sel.fits))) c.requires.held c.requires.first c.members_of-there.ensures.last

pub wanted_of-requires : goal.wanted_of-requires
wanted_of-requires g c =
    let a = enough_there c.args.store.now c.args.regions.now c.args.pid c.args.run.first c.args.run.count c.members_of-there.result c.args.segs c.args.part c.args.cpu.now c.in-None.ensures in
    let b = inside_there c.args.run c.args.sel c.args.held c.requires.run (small_index c.args.sel c.ranges.sel.fits) in
    omega (arith, a, b)

pub resize_run-requires-clause-holds_run : goal.resize_run-requires-clause-holds_run
resize_run-requires-clause-holds_run g c =
    let run = c.args.run in
    let h = c.args.held in
    let sel = c.args.sel in
    let first = ap (λ (r : Run). r.first) c.requires.run in
    let most = ap (λ (r : Run). r.count) c.requires.run in
    let m = c.args.regions.now in
    record {
      inside = inside_there run sel h c.requires.run (small_index sel c.ranges.sel.fits);
      some = some_there m c.args.pid sel c.members_of-there.result run.first run.count h first most
          (subst (λ (n : ℕ). 0 < n) (sym most) (run_some (sel / 8) h c.requires.first (small_index sel c.ranges.sel.fits))) c.requires.held c.requires.first c.members_of-there.ensures.last;
      few = c.members_of-there.ensures.few;
      held = held_first m c.args.pid sel run.first h first c.requires.held;
      all = c.members_of-there.ensures.members;
    }

pub resize_run-requires-clause-may_have : goal.resize_run-requires-clause-may_have
resize_run-requires-clause-may_have g c =
    let s = c.args.store.now in
    let m = c.args.regions.now in
    let run = c.args.run in
    let n = c.members_of-there.result in
    let segs = c.args.segs in
    let part = c.args.part in
    let more = c.saturating_sub-more.ensures ∙ ap (λ (y : ℕ). y - n) c.wanted_of.ensures in
    record {
      wanted = some_wanted s m c.args.pid run.first run.count n segs part c.args.cpu.now c.in-None.ensures;
      enough = enough_there s m c.args.pid run.first run.count n segs part c.args.cpu.now c.in-None.ensures;
      short = short_there run c.args.sel c.args.held c.requires.run;
      vacant = wanted_vacant m c.args.pid run.first n segs part c.saturating_sub-more.result more (c.is_full.ensures.vacant c.if-is_full.false);
    }

pub resize_run-requires-clause-may_make : goal.resize_run-requires-clause-may_make
resize_run-requires-clause-may_make g c =
    let s = c.args.store.now in
    let m = c.args.regions.now in
    let run = c.args.run in
    let n = c.members_of-there.result in
    let segs = c.args.segs in
    let part = c.args.part in
    let more = c.saturating_sub-more.ensures ∙ ap (λ (y : ℕ). y - n) c.wanted_of.ensures in
    let enough = enough_there s m c.args.pid run.first run.count n segs part c.args.cpu.now c.in-None.ensures in
    let short = short_there run c.args.sel c.args.held c.requires.run in
    let made = c.requires.made in
    record {
      process = c.requires.caller.process;
      order = c.requires.caller.order;
      made = omega (arith, enough, short, made);
      room = room_there s n segs part c.saturating_sub-more.result more (c.is_full.ensures.few c.if-is_full.false);
    }

pub returns-in-Some-clause-row : goal.returns-in-Some-clause-row
returns-in-Some-clause-row g c = λ p o known.
    (let s = c.args.store.now in
    let m = c.args.regions.now in
    let pid = c.args.pid in
    let sel = c.args.sel in
    let run = c.args.run in
    let h = c.args.held in
    let n = c.members_of-there.result in
    let found = c.members_of-there.ensures in
    let asked = asked_run s m pid sel n run h c.requires.run c.law.ensures c.requires.caller c.requires.held c.requires.first found.few found.members found.last in
    refused_row _ c.in-Some.error p pid s m c.args.images.now _ _ c.args.cpu.now c.refusal.result known.shelf known.maps
    (fault_known s m p o known pid c.args.segs c.args.part sel c.args.cpu.now n run h c.requires.run asked c.in-Some.error c.in-Some.ensures) c.refusal.ensures)

pub returns-in-Some-clause-stops : goal.returns-in-Some-clause-stops
returns-in-Some-clause-stops g c = λ p o known. never_stops _ _ _ _ _ _ (λ e. absurd (cc)) (λ e. absurd (cc)) (λ none. record { device = refl; none = none })

pub returns-in-Some-clause-sizes : goal.returns-in-Some-clause-sizes
returns-in-Some-clause-sizes g c = refused_run c.args.images.now c.args.keep.now c.args.store.now c.args.regions.now c.requires.caller.order c.requires.backed.clean

pub returns-then-is_full-clause-row : goal.returns-then-is_full-clause-row
returns-then-is_full-clause-row g c = λ p o known.
    (let s = c.args.store.now in
    let m = c.args.regions.now in
    let pid = c.args.pid in
    let sel = c.args.sel in
    let run = c.args.run in
    let h = c.args.held in
    let n = c.members_of-there.result in
    let found = c.members_of-there.ensures in
    let asked = asked_run s m pid sel n run h c.requires.run c.law.ensures c.requires.caller c.requires.held c.requires.first found.few found.members found.last in
    let more = c.saturating_sub-more.ensures ∙ ap (λ (y : ℕ). y - n) c.wanted_of.ensures in
    refused_row _ 8 p pid s m c.args.images.now _ _ c.args.cpu.now c.refusal-then-is_full.result known.shelf known.maps
    (full_known s m p o known pid c.args.segs c.args.part sel c.args.cpu.now n run h c.requires.run asked c.saturating_sub-more.result more c.in-None.ensures (c.is_full.ensures.cause c.if-is_full.true))
    c.refusal-then-is_full.ensures)

pub returns-then-is_full-clause-stops : goal.returns-then-is_full-clause-stops
returns-then-is_full-clause-stops g c = λ p o known. never_stops _ _ _ _ _ _ (λ e. absurd (cc)) (λ e. absurd (cc)) (λ none. record { device = refl; none = none })

pub returns-then-is_full-clause-sizes : goal.returns-then-is_full-clause-sizes
returns-then-is_full-clause-sizes g c = refused_run c.args.images.now c.args.keep.now c.args.store.now c.args.regions.now c.requires.caller.order c.requires.backed.clean

pub returns-else-is_full-clause-row : goal.returns-else-is_full-clause-row
returns-else-is_full-clause-row g c = λ p o known.
    (let s = c.args.store.now in
    let m = c.args.regions.now in
    let pid = c.args.pid in
    let sel = c.args.sel in
    let segs = c.args.segs in
    let part = c.args.part in
    let run = c.args.run in
    let h = c.args.held in
    let cpu = c.args.cpu.now in
    let n = c.members_of-there.result in
    let found = c.members_of-there.ensures in
    let first = ap (λ (r : Run). r.first) c.requires.run in
    let asked = asked_run s m pid sel n run h c.requires.run c.law.ensures c.requires.caller c.requires.held c.requires.first found.few found.members found.last in
    let more = c.saturating_sub-more.ensures ∙ ap (λ (y : ℕ). y - n) c.wanted_of.ensures in
    let ruled = good_known s m p o known pid segs part sel cpu n run h c.requires.run asked c.saturating_sub-more.result more c.in-None.ensures (c.is_full.ensures.few c.if-is_full.false) in
    let made = c.resize_run.ensures in
    let fixed = fixed_there s m pid run.first h known.full (held_first m pid sel run.first h first c.requires.held) (subst (λ (i : ℕ). is_of_run i h ≡ true) (sym first) c.requires.first) in
    record {
      answer = answers_as (grants 0 _) _ c.resize_run.result ruled (grants_answer _ c.resize_run.result made.done);
      registers = without_done _ c.resize_run.result _ _ cpu _ ruled (dropped_all s m pid run.first run.count n segs part found.members) made.registers;
      world = λ w x ei eb tells at may q.
          changes_as p c.resize_run.new.store c.resize_run.new.regions _ w _ _ (ap (λ (y : Ruling). changes_roomed y c.resize_run.result) ruled ∙ grants_changes _ c.resize_run.result)
          (made.matches.world p w x known.shelf known.maps ei eb tells at fixed may q);
      holds = elim made.holds [ inl keeps ↦ inl keeps | inr some ↦ inr (ap (λ (y : Ruling). list_any takes y.changes) ruled ∙ some) ];
    })

pub returns-else-is_full-clause-stops : goal.returns-else-is_full-clause-stops
returns-else-is_full-clause-stops g c = λ p o known.
    (let s = c.args.store.now in
    let m = c.args.regions.now in
    let pid = c.args.pid in
    let sel = c.args.sel in
    let run = c.args.run in
    let h = c.args.held in
    let n = c.members_of-there.result in
    let found = c.members_of-there.ensures in
    let asked = asked_run s m pid sel n run h c.requires.run c.law.ensures c.requires.caller c.requires.held c.requires.first found.few found.members found.last in
    let more = c.saturating_sub-more.ensures ∙ ap (λ (y : ℕ). y - n) c.wanted_of.ensures in
    let ruled = good_known s m p o known pid c.args.segs c.args.part sel c.args.cpu.now n run h c.requires.run asked c.saturating_sub-more.result more c.in-None.ensures (c.is_full.ensures.few c.if-is_full.false) in
    stops_as s c.args.keep.now _ _ _ _ _ _ _ _ (λ says x. first_changes s _ _ _ says ruled x) (λ e. e) (λ e. e) (λ i. i) c.resize_run.ensures.stops)

pub returns-in-Some-clause-always_no_room : goal.returns-in-Some-clause-always_no_room
returns-in-Some-clause-always_no_room g c = λ p o known x.
    (let s = c.args.store.now in
    let m = c.args.regions.now in
    let pid = c.args.pid in
    let sel = c.args.sel in
    let run = c.args.run in
    let h = c.args.held in
    let n = c.members_of-there.result in
    let found = c.members_of-there.ensures in
    let asked = asked_run s m pid sel n run h c.requires.run c.law.ensures c.requires.caller c.requires.held c.requires.first found.few found.members found.last in
    absurd (refused_first s _ c.in-Some.error _ (fault_known s m p o known pid c.args.segs c.args.part sel c.args.cpu.now n run h c.requires.run asked c.in-Some.error c.in-Some.ensures) x))

pub returns-then-is_full-clause-always_no_room : goal.returns-then-is_full-clause-always_no_room
returns-then-is_full-clause-always_no_room g c = λ p o known x.
    (let s = c.args.store.now in
    let m = c.args.regions.now in
    let pid = c.args.pid in
    let sel = c.args.sel in
    let run = c.args.run in
    let h = c.args.held in
    let n = c.members_of-there.result in
    let found = c.members_of-there.ensures in
    let asked = asked_run s m pid sel n run h c.requires.run c.law.ensures c.requires.caller c.requires.held c.requires.first found.few found.members found.last in
    let more = c.saturating_sub-more.ensures ∙ ap (λ (y : ℕ). y - n) c.wanted_of.ensures in
    absurd (refused_first s _ 8 _
    (full_known s m p o known pid c.args.segs c.args.part sel c.args.cpu.now n run h c.requires.run asked c.saturating_sub-more.result more c.in-None.ensures (c.is_full.ensures.cause c.if-is_full.true)) x))

pub returns-else-is_full-clause-always_no_room : goal.returns-else-is_full-clause-always_no_room
returns-else-is_full-clause-always_no_room g c = λ p o known x.
    (let s = c.args.store.now in
    let m = c.args.regions.now in
    let pid = c.args.pid in
    let sel = c.args.sel in
    let run = c.args.run in
    let h = c.args.held in
    let n = c.members_of-there.result in
    let found = c.members_of-there.ensures in
    let asked = asked_run s m pid sel n run h c.requires.run c.law.ensures c.requires.caller c.requires.held c.requires.first found.few found.members found.last in
    let more = c.saturating_sub-more.ensures ∙ ap (λ (y : ℕ). y - n) c.wanted_of.ensures in
    let ruled = good_known s m p o known pid c.args.segs c.args.part sel c.args.cpu.now n run h c.requires.run asked c.saturating_sub-more.result more c.in-None.ensures (c.is_full.ensures.few c.if-is_full.false) in
    c.resize_run.ensures.always_no_room (each_granted s _ 0 _ _ _ ruled (none_changed s m pid run.first run.count n c.args.segs c.args.part) x))
