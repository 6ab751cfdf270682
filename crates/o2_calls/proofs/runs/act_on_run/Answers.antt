-- Each call on a huge allocation is its row.
use Rattle.std.proofs.Common.{◌≡◌, ◌⊎◌, inl, inr, true, [], ap, refl, sym, subst, arith}
use Rattle.std.specs.List.{list_any}
use Rattle.o2_regions.specs.declared.answer.Roomed.TheVariants.{Done, NoRoom, SwapFull}
use Rattle.o2_regions.specs.Maps.{Maps}
use Rattle.o2_store.specs.Idle.{IsIdle, NoneTaken}
use Rattle.o2_store.specs.Shelf.{Shelf}
use Rattle.o2_changes.specs.Holding.{KeepsHolds}
use Rattle.o2_changes.proofs.KeepingHolds.{holds_refl}
use Rattle.o2_gate.specs.declared.requests.SegmentArguments.TheVariants.{Huge}
use Rattle.o2_gate.specs.declared.requests.HugeArguments.{HugeArguments}
use Rattle.o2_gate.specs.declared.requests.HugeArguments.TheVariants.{Alloc, Realloc}
use Rattle.o2_stands.specs.Knows.{known_in, others_of}
use Rattle.o2_stands.specs.Moves.{moved}
use Rattle.o2_stands.proofs.Matching.{matched_by}
use Rattle.o2_world.specs.Changes.{takes, with_all}
use Rattle.o2_world.specs.HugeRulings.{huge_allocation}
use Rattle.o2_world.specs.Known.{known_of}
use Rattle.o2_world.specs.Rulings.{Ruling}
use Rattle.o2_segs.proofs.Limits.{entries_same, limits_more, limits_same}
use Rattle.o2_huge.specs.Frames.{StopsFor}
use Rattle.o2_calls.specs.HugeActs.{MaySize}
use Rattle.o2_calls.specs.RunRows.{IsRunRow}
use Rattle.o2_calls.specs.Stops.{IsRunGivable, LeavesRun, LeavesRunEntries}
use Rattle.o2_calls.proofs.Overs.{behind_by, row_by, unchanged, unmoved}
use Rattle.o2_calls.proofs.RunActs.{huge_over, known_over, lacks_sized, limits_sized, lose_over, sized_registers}
use Rattle.o2_calls.proofs.SharedOver.{limits_by_made}
use Rattle.o2_store.proofs.Framing.{device_refl}
use Rattle.o2_changes.proofs.Framing.{for_order, maps_as, order_as, order_refl}
use Rattle.o2_calls.proofs.runs.act_on_run.Goals as goal

pub returns-in-Alloc-clause-row : goal.returns-in-Alloc-clause-row
returns-in-Alloc-clause-row g c = λ p s w over total.
    (let a = c.in-Alloc in
    let b = Alloc a.segs a.part a.most a.flags in
    let r = Done c.alloc_huge.result in
    let cpu = c.args.cpu.now in
    let keep = c.args.keep.now in
    let swap = c.args.swap.now in
    let old = c.args.store.now in
    let t = c.alloc_huge.new.store in
    let m = c.args.regions.now in
    let n = c.alloc_huge.new.regions in
    let pid = c.args.pid in
    let process = c.requires.caller.process in
    let o = others_of s w in
    let made = with_all w (huge_allocation (known_in p o) pid a.segs a.part a.most a.flags).changes in
    let block = g.S.SwapDevice.block swap in
    let told = g.S.SwapDevice.told swap in
    let matches = matched_by p w.processes w.names w.next_name w.reserved over.stands in
    subst (λ (x : HugeArguments). IsRunRow x p s w pid old t m n keep told block cpu cpu r (IsIdle t swap swap)) (sym a.is) (record {
      answer = row_by _ _ _ _ p s w over pid process (Huge b) cpu r (c.alloc_huge.ensures.answer p o over.store over.regions);
      registers = refl;
      world = λ x told at.
          behind_by _ _ _ _ p s w over pid process (Huge b) cpu r (moved p t n block) (unmoved _ _ _ _ p s w over pid process t n made (c.alloc_huge.ensures.matches p o w x over.store over.regions at matches));
      holds = tt;
      lacks = tt;
      short = λ none. inl (record { device = refl; none = c.alloc_huge.ensures.goes_on.unused none });
    }))

pub returns-in-Realloc-clause-row : goal.returns-in-Realloc-clause-row
returns-in-Realloc-clause-row g c = λ p s w over total.
    (let a = c.in-Realloc in
    let b = Realloc a.segs a.part a.selector in
    let r = c.realloc_huge.result in
    let cpu = c.args.cpu.now in
    let keep = c.args.keep.now in
    let old = c.args.store.now in
    let t = c.realloc_huge.new.store in
    let m = c.args.regions.now in
    let n = c.realloc_huge.new.regions in
    let pid = c.args.pid in
    let process = c.requires.caller.process in
    let idle = IsIdle t c.args.swap.now c.realloc_huge.new.swap in
    let block = g.S.SwapDevice.block c.realloc_huge.new.swap in
    let told = g.S.SwapDevice.told c.realloc_huge.new.swap in
    let known = known_over _ _ _ _ p s w over total in
    let same = huge_over _ _ _ _ p s w over pid process b cpu in
    let row = c.realloc_huge.ensures.row p (others_of s w) known in
    let stops = subst (λ (x : Ruling). StopsFor old keep x.changes (r ≡ NoRoom) (r ≡ SwapFull) idle) same (c.realloc_huge.ensures.stops p (others_of s w) known) in
    let matches = matched_by p w.processes w.names w.next_name w.reserved over.stands in
    subst (λ (x : HugeArguments). IsRunRow x p s w pid old t m n keep told block cpu c.realloc_huge.new.cpu r idle) (sym a.is) (record {
      answer = row_by _ _ _ _ p s w over pid process (Huge b) cpu r row.answer;
      registers = sized_registers (known_of s w) pid a.segs a.part a.selector cpu c.realloc_huge.new.cpu _ r same row.registers;
      world = λ x told at. behind_by _ _ _ _ p s w over pid process (Huge b) cpu r (moved p t n block) (row.world w x over.pictures over.blocks told at (lose_over _ _ _ _ p s w over) matches);
      holds = subst (λ (x : Ruling). KeepsHolds m n ⊎ (list_any takes x.changes ≡ true)) same row.holds;
      lacks = lacks_sized old (known_of s w) pid a.segs a.part a.selector cpu keep r idle stops;
      short = stops.idle;
    }))

pub returns-in-Shift-clause-row : goal.returns-in-Shift-clause-row
returns-in-Shift-clause-row g c = λ p s w over total.
    (let r = Done c.huge_shift.result in
    let cpu = c.args.cpu.now in
    let swap = c.args.swap.now in
    let old = c.args.store.now in
    let t = c.huge_shift.new.store in
    let m = c.args.regions.now in
    let n = c.huge_shift.new.regions in
    let pid = c.args.pid in
    let block = g.S.SwapDevice.block swap in
    let told = g.S.SwapDevice.told swap in
    let process = c.requires.caller.process in
    let store = c.huge_shift.ensures.store in
    subst (λ (x : HugeArguments). IsRunRow x p s w pid old t m n c.args.keep.now told block cpu cpu r (IsIdle t swap swap)) (sym c.in-Shift.is) (record {
      answer = c.huge_shift.ensures.answer;
      registers = refl;
      world = λ x told at. unmoved _ _ _ _ p s w over pid process t n (with_all w []) (unchanged _ _ _ _ p s w over pid process t n [] store c.huge_shift.ensures.regions refl);
      holds = tt;
      lacks = tt;
      short = λ none. inl (record { device = refl; none = subst (λ (z : Shelf). NoneTaken z.swap) (sym store) none });
    }))

pub returns-in-Realloc-clause-stops : goal.returns-in-Realloc-clause-stops
returns-in-Realloc-clause-stops g c = λ stops. subst MaySize (sym c.in-Realloc.is) tt

pub returns-in-Alloc-clause-value : goal.returns-in-Alloc-clause-value
returns-in-Alloc-clause-value g c = subst (λ (a : HugeArguments). IsRunGivable a (Done c.alloc_huge.result)) (sym c.in-Alloc.is)
    (c.alloc_huge.ensures.word)

pub returns-in-Realloc-clause-value : goal.returns-in-Realloc-clause-value
returns-in-Realloc-clause-value g c = subst (λ (a : HugeArguments). IsRunGivable a c.realloc_huge.result) (sym c.in-Realloc.is)
    (tt)

pub returns-in-Shift-clause-value : goal.returns-in-Shift-clause-value
returns-in-Shift-clause-value g c = subst (λ (a : HugeArguments). IsRunGivable a (Done c.huge_shift.result)) (sym c.in-Shift.is)
    (let is = c.huge_shift.ensures.answer.value in omega (arith, is))

pub returns-in-Alloc-clause-idle : goal.returns-in-Alloc-clause-idle
returns-in-Alloc-clause-idle g c = λ none. inl (record { device = refl; none = c.alloc_huge.ensures.goes_on.unused none })

pub returns-in-Shift-clause-idle : goal.returns-in-Shift-clause-idle
returns-in-Shift-clause-idle g c = λ none. inl (record { device = refl; none = subst (λ (x : Shelf). NoneTaken x.swap) (sym c.huge_shift.ensures.store) none })

pub returns-in-Realloc-clause-idle : goal.returns-in-Realloc-clause-idle
returns-in-Realloc-clause-idle g c = λ none. inr (subst MaySize (sym c.in-Realloc.is) tt)

pub returns-in-Realloc-clause-limits : goal.returns-in-Realloc-clause-limits
returns-in-Realloc-clause-limits g c = limits_sized c.args.store.now c.realloc_huge.new.store c.args.regions.now c.realloc_huge.new.regions c.realloc_huge.result c.realloc_huge.ensures.sizes.limits

pub returns-in-Shift-clause-limits : goal.returns-in-Shift-clause-limits
returns-in-Shift-clause-limits g c =
    let s = c.args.store.now in
    let t = c.huge_shift.new.store in
    let m = c.args.regions.now in
    let n = c.huge_shift.new.regions in
    limits_by_made s t m n (Done c.huge_shift.result) (limits_more s t m n 0 1 (limits_same s t m n c.huge_shift.ensures.store c.huge_shift.ensures.regions))

pub returns-in-Alloc-clause-holds : goal.returns-in-Alloc-clause-holds
returns-in-Alloc-clause-holds g c = subst (λ (a : HugeArguments). LeavesRun a c.args.regions.now c.alloc_huge.new.regions) (sym c.in-Alloc.is)
    (c.alloc_huge.ensures.holds)

pub returns-in-Realloc-clause-holds : goal.returns-in-Realloc-clause-holds
returns-in-Realloc-clause-holds g c = subst (λ (a : HugeArguments). LeavesRun a c.args.regions.now c.realloc_huge.new.regions) (sym c.in-Realloc.is)
    (tt)

pub returns-in-Shift-clause-holds : goal.returns-in-Shift-clause-holds
returns-in-Shift-clause-holds g c = subst (λ (a : HugeArguments). LeavesRun a c.args.regions.now c.huge_shift.new.regions) (sym c.in-Shift.is)
    (subst (KeepsHolds c.args.regions.now) (sym c.huge_shift.ensures.regions) (holds_refl c.args.regions.now))

pub returns-in-Alloc-clause-entries : goal.returns-in-Alloc-clause-entries
returns-in-Alloc-clause-entries g c = subst (λ (a : HugeArguments). LeavesRunEntries a c.args.store.now c.alloc_huge.new.store) (sym c.in-Alloc.is)
    (c.alloc_huge.ensures.entries)

pub returns-in-Realloc-clause-entries : goal.returns-in-Realloc-clause-entries
returns-in-Realloc-clause-entries g c = subst (λ (a : HugeArguments). LeavesRunEntries a c.args.store.now c.realloc_huge.new.store) (sym c.in-Realloc.is)
    (tt)

pub returns-in-Shift-clause-entries : goal.returns-in-Shift-clause-entries
returns-in-Shift-clause-entries g c = subst (λ (a : HugeArguments). LeavesRunEntries a c.args.store.now c.huge_shift.new.store) (sym c.in-Shift.is)
    (entries_same c.args.store.now c.huge_shift.new.store c.huge_shift.ensures.store)

pub returns-in-Alloc-clause-kept : goal.returns-in-Alloc-clause-kept
returns-in-Alloc-clause-kept g c = λ k named live here. c.alloc_huge.ensures.kept k here

pub returns-in-Shift-clause-processes : goal.returns-in-Shift-clause-processes
returns-in-Shift-clause-processes g c = ap (λ (x : Maps). x.processes) c.huge_shift.ensures.regions

pub returns-in-Alloc-clause-processes : goal.returns-in-Alloc-clause-processes
returns-in-Alloc-clause-processes g c = c.alloc_huge.ensures.holds.processes

pub returns-in-Alloc-clause-goes_on : goal.returns-in-Alloc-clause-goes_on
returns-in-Alloc-clause-goes_on g c = for_order c.args.images.now c.args.store.now c.alloc_huge.new.store c.args.regions.now c.alloc_huge.new.regions c.alloc_huge.ensures.goes_on c.requires.backed.clean

pub returns-in-Shift-clause-goes_on : goal.returns-in-Shift-clause-goes_on
returns-in-Shift-clause-goes_on g c =
    let s = c.args.store.now in
    let t = c.huge_shift.new.store in
    let m = c.args.regions.now in
    let n = c.huge_shift.new.regions in
    let same = order_as s s t m n c.huge_shift.ensures.store (maps_as s s m m n c.huge_shift.ensures.regions (order_refl s m c.requires.caller.order)) in
    for_order c.args.images.now s t m n same c.requires.backed.clean

pub returns-in-Alloc-clause-device : goal.returns-in-Alloc-clause-device
returns-in-Alloc-clause-device g c = device_refl _ _ _ _ _ (λ e. absurd (cc))

pub returns-in-Shift-clause-device : goal.returns-in-Shift-clause-device
returns-in-Shift-clause-device g c = device_refl _ _ _ _ _ (λ e. absurd (cc))
