-- Each call is its row.
use Rattle.std.proofs.Common.{inl, inr, ℕ, Option, IsSome, ap, refl, sym, subst, arith}
use Rattle.o2_regions.specs.declared.answer.Roomed.TheVariants.{Done}
use Rattle.o2_regions.specs.Maps.{Maps}
use Rattle.o2_stands.specs.Knows.{known_in, others_of}
use Rattle.o2_calls.proofs.Givable.{alias_givable, alloc_givable, no_others, some_parts}
use Rattle.o2_calls.proofs.Overs.{done_row, loses, none_next, roomed_row, store_only, unchanged, unmoved}
use Rattle.o2_store.specs.Shelf.{Shelf, place_of}
use Rattle.o2_changes.specs.Holding.{KeepsHolds}
use Rattle.o2_changes.proofs.KeepingHolds.{holds_refl}
use Rattle.o2_gate.specs.declared.requests.SegmentArguments.{SegmentArguments}
use Rattle.o2_world.specs.Changes.{with_all}
use Rattle.o2_world.specs.Known.{known_of}
use Rattle.o2_world.specs.Rulings.{aliasing, unlocking}
use Rattle.o2_calls.specs.Acts.{MayStop}
use Rattle.o2_calls.specs.CallRows.{IsCallRow}
use Rattle.o2_calls.specs.Stops.{IsGivable, IsShort, LacksRoom, LacksSwap, LeavesEntries, LeavesHolds}
use Rattle.o2_calls.proofs.Rulings.{sizing_still}
use Rattle.o2_segs.proofs.Limits.{limits_more, limits_same, limits_in, entries_same}
use Rattle.o2_shared.proofs.Staying.{stay_in_place}
use Rattle.o2_calls.specs.SharedActs.{shared_ruling}
use Rattle.o2_calls.proofs.SharedOver.{limits_by_made, limits_to, maps_now}
use Rattle.o2_store.specs.Idle.{IsIdle, NoneTaken}
use Rattle.o2_calls.proofs.RunActs.{run_registers}
use Rattle.o2_store.proofs.Framing.{device_refl}
use Rattle.o2_changes.proofs.Framing.{for_order, maps_as, order_as, order_refl}
use Rattle.o2_calls.proofs.acting.act.Goals as goal

pub returns-in-Alloc-clause-row : goal.returns-in-Alloc-clause-row
returns-in-Alloc-clause-row g c = λ p s w over spells.
    (let q = c.alloc_seg.ensures in
    let o = others_of s w in
    roomed_row _ _ _ _ p s w over c.args.pid c.requires.caller.process c.in-Alloc.is refl refl tt tt tt (q.answer p o over.store over.regions)
    (λ x told at tied here. q.matches p o w x over.store over.regions over.pictures over.blocks told at (none_next w tied) here))

pub returns-in-Realloc-clause-row : goal.returns-in-Realloc-clause-row
returns-in-Realloc-clause-row g c = λ p s w over spells.
    (let q = c.realloc_seg.ensures in
    let o = others_of s w in
    roomed_row _ _ _ _ p s w over c.args.pid c.requires.caller.process c.in-Realloc.is refl refl tt tt tt (q.answer p o over.store over.regions)
    (λ x told at tied here. q.matches p o w over.store over.regions over.pictures over.blocks told here))

pub returns-in-Free-clause-row : goal.returns-in-Free-clause-row
returns-in-Free-clause-row g c = λ p s w over spells.
    (let q = c.free_seg.ensures in
    let o = others_of s w in
    let pid = c.args.pid in
    let process = c.requires.caller.process in
    done_row _ _ _ _ p s w over pid process c.in-Free.is refl tt tt tt (q.answer p o over.store over.regions) (q.registers p o over.store over.regions)
    (λ x at here. q.matches p o w x over.store over.regions at (loses _ _ _ _ p s w over pid process c.in-Free.selector c.args.cpu.now) here))

pub returns-in-Size-clause-row : goal.returns-in-Size-clause-row
returns-in-Size-clause-row g c = λ p s w over spells.
    (let q = c.size_seg.ensures in
    let o = others_of s w in
    let pid = c.args.pid in
    let process = c.requires.caller.process in
    done_row _ _ _ _ p s w over pid process c.in-Size.is refl tt tt tt (q.answer p o over.store over.regions) refl
    (λ x at here. unchanged _ _ _ _ p s w over pid process _ _ _ q.store q.regions (sizing_still (known_in p o) pid c.in-Size.selector)))

pub returns-in-Lock-clause-row : goal.returns-in-Lock-clause-row
returns-in-Lock-clause-row g c = λ p s w over spells.
    (let q = c.lock_seg.ensures in
    let o = others_of s w in
    roomed_row _ _ _ _ p s w over c.args.pid c.requires.caller.process c.in-Lock.is refl refl tt tt tt (q.answer p o over.store over.regions)
    (λ x told at tied here. q.matches p o w over.store over.regions over.pictures over.blocks told here))

pub returns-in-Unlock-clause-row : goal.returns-in-Unlock-clause-row
returns-in-Unlock-clause-row g c = λ p s w over spells.
    (let q = c.unlock_seg.ensures in
    let o = others_of s w in
    let pid = c.args.pid in
    let process = c.requires.caller.process in
    let made = with_all w (unlocking (known_in p o) pid c.in-Unlock.selector).changes in
    done_row _ _ _ _ p s w over pid process c.in-Unlock.is refl tt tt tt (q.answer p o over.store over.regions) refl
    (λ x at here. store_only _ _ _ _ p s w over pid process _ _ made q.regions (q.matches p o w over.store over.regions here)))

pub returns-in-Alias-clause-row : goal.returns-in-Alias-clause-row
returns-in-Alias-clause-row g c = λ p s w over spells.
    (let q = c.create_cs_alias.ensures in
    let o = others_of s w in
    let pid = c.args.pid in
    let process = c.requires.caller.process in
    let made = with_all w (aliasing (known_in p o) pid c.in-Alias.selector).changes in
    done_row _ _ _ _ p s w over pid process c.in-Alias.is refl tt tt tt (q.answer p o over.store over.regions) refl
    (λ x at here. maps_now p _ _ _ made over.store q.store (q.matches p o w x over.store over.regions at here)))

pub returns-in-Shared-clause-row : goal.returns-in-Shared-clause-row
returns-in-Shared-clause-row g c = λ p s w over spells.
    (let q = c.share in
    let pid = c.args.pid in
    let cpu = c.args.cpu.now in
    let block = g.S.SwapDevice.block c.args.swap.now in
    let told = g.S.SwapDevice.told c.args.swap.now in
    let old = c.args.store.now in
    let m = c.args.regions.now in
    let names = c.args.names.now in
    let t = q.new.store in
    let n = q.new.regions in
    let row = q.ensures.row c.args.images.now block p s w over spells cpu in
    let idle = IsIdle t c.args.swap.now c.args.swap.now in
    let made = with_all w (shared_ruling c.in-Shared.shared (known_of s w) pid cpu).changes in
    subst (λ (a : SegmentArguments). IsCallRow a p s w pid old t m n c.args.keep.now told block cpu cpu names q.new.names (Done q.result) idle) (sym c.in-Shared.is) (record {
      answer = row.answer;
      registers = refl;
      matches = λ x read at tied. unmoved _ _ _ _ p s w over pid c.requires.caller.process t n made (row.matches x at);
      spells = row.spells;
      holds = tt;
      lacks = tt;
      short = λ none. inr tt;
    }))

pub returns-in-Huge-clause-row : goal.returns-in-Huge-clause-row
returns-in-Huge-clause-row g c = λ p s w over spells.
    (let q = c.act_on_run in
    let pid = c.args.pid in
    let cpu = c.args.cpu.now in
    let swap = q.new.swap in
    let block = g.S.SwapDevice.block swap in
    let told = g.S.SwapDevice.told swap in
    let old = c.args.store.now in
    let m = c.args.regions.now in
    let names = c.args.names.now in
    let t = q.new.store in
    let n = q.new.regions in
    let row = q.ensures.row p s w over spells.processes in
    subst (λ (a : SegmentArguments). IsCallRow a p s w pid old t m n c.args.keep.now told block cpu q.new.cpu names names q.result (IsIdle t c.args.swap.now swap)) (sym c.in-Huge.is) (record {
      answer = row.answer;
      registers = run_registers c.in-Huge.huge (known_of s w) pid cpu q.new.cpu q.result row.registers;
      matches = λ x read at tied. row.world x read at;
      spells = refl;
      holds = row.holds;
      lacks = row.lacks;
      short = row.short;
    }))

pub returns-in-Alloc-clause-kept : goal.returns-in-Alloc-clause-kept
returns-in-Alloc-clause-kept g c = λ k named live here. c.alloc_seg.ensures.kept k named here

pub returns-in-Realloc-clause-kept : goal.returns-in-Realloc-clause-kept
returns-in-Realloc-clause-kept g c = λ k named live here. c.realloc_seg.ensures.kept k named here

pub returns-in-Free-clause-kept : goal.returns-in-Free-clause-kept
returns-in-Free-clause-kept g c = λ k named live here. subst (λ (o : Option (ℕ × ℕ)). IsSome o) (sym (c.free_seg.ensures.places k live)) here

pub returns-in-Size-clause-kept : goal.returns-in-Size-clause-kept
returns-in-Size-clause-kept g c = λ k named live here. subst (λ (x : Shelf). IsSome (place_of x k)) (sym c.size_seg.ensures.store) here

pub returns-in-Lock-clause-kept : goal.returns-in-Lock-clause-kept
returns-in-Lock-clause-kept g c = λ k named live here. c.lock_seg.ensures.kept k named here

pub returns-in-Unlock-clause-kept : goal.returns-in-Unlock-clause-kept
returns-in-Unlock-clause-kept g c = λ k named live here. subst (λ (o : Option (ℕ × ℕ)). IsSome o) (sym (c.unlock_seg.ensures.places k live)) here

pub returns-in-Alias-clause-kept : goal.returns-in-Alias-clause-kept
returns-in-Alias-clause-kept g c = λ k named live here. subst (λ (x : Shelf). IsSome (place_of x k)) (sym c.create_cs_alias.ensures.store) here

pub returns-in-Size-clause-holds : goal.returns-in-Size-clause-holds
returns-in-Size-clause-holds g c =
    subst (λ (a : SegmentArguments). LeavesHolds a c.args.regions.now c.size_seg.new.regions) (sym c.in-Size.is)
    (subst (KeepsHolds c.args.regions.now) (sym c.size_seg.ensures.regions) (holds_refl c.args.regions.now))

pub returns-in-Unlock-clause-holds : goal.returns-in-Unlock-clause-holds
returns-in-Unlock-clause-holds g c =
    subst (λ (a : SegmentArguments). LeavesHolds a c.args.regions.now c.unlock_seg.new.regions) (sym c.in-Unlock.is)
    (subst (KeepsHolds c.args.regions.now) (sym c.unlock_seg.ensures.regions) (holds_refl c.args.regions.now))

pub returns-in-Realloc-clause-swap_full : goal.returns-in-Realloc-clause-swap_full
returns-in-Realloc-clause-swap_full g c = λ e.
    subst (λ (a : SegmentArguments). LacksSwap a c.args.store.now c.args.regions.now c.args.pid) (sym c.in-Realloc.is) (c.realloc_seg.ensures.load e, c.realloc_seg.ensures.all_load e)

pub returns-in-Alloc-clause-value : goal.returns-in-Alloc-clause-value
returns-in-Alloc-clause-value g c =
    let p = some_parts c.args.store.now c.args.regions.now c.args.images.now in
    subst (λ (a : SegmentArguments). IsGivable a c.alloc_seg.result) (sym c.in-Alloc.is)
    (alloc_givable (known_in p no_others) c.args.pid c.in-Alloc.size c.in-Alloc.flags c.alloc_seg.result (c.alloc_seg.ensures.answer p no_others refl refl))

pub returns-in-Alias-clause-value : goal.returns-in-Alias-clause-value
returns-in-Alias-clause-value g c =
    let p = some_parts c.args.store.now c.args.regions.now c.args.images.now in
    subst (λ (a : SegmentArguments). IsGivable a (Done c.create_cs_alias.result)) (sym c.in-Alias.is)
    (alias_givable (known_in p no_others) c.args.pid c.in-Alias.selector c.create_cs_alias.result (c.create_cs_alias.ensures.answer p no_others refl refl))

pub returns-in-Alloc-clause-processes : goal.returns-in-Alloc-clause-processes
returns-in-Alloc-clause-processes g c = c.alloc_seg.ensures.holds.processes

pub returns-in-Size-clause-processes : goal.returns-in-Size-clause-processes
returns-in-Size-clause-processes g c = ap (λ (x : Maps). x.processes) c.size_seg.ensures.regions

pub returns-in-Unlock-clause-processes : goal.returns-in-Unlock-clause-processes
returns-in-Unlock-clause-processes g c = ap (λ (x : Maps). x.processes) c.unlock_seg.ensures.regions

pub returns-in-Alias-clause-processes : goal.returns-in-Alias-clause-processes
returns-in-Alias-clause-processes g c = c.create_cs_alias.ensures.holds.processes

pub returns-in-Realloc-clause-limits : goal.returns-in-Realloc-clause-limits
returns-in-Realloc-clause-limits g c =
    let s = c.args.store.now in
    let t = c.realloc_seg.new.store in
    let m = c.args.regions.now in
    let n = c.realloc_seg.new.regions in
    let r = c.realloc_seg.result in
    limits_by_made s t m n r (limits_in s t m n r c.realloc_seg.ensures.limits)

pub returns-in-Free-clause-limits : goal.returns-in-Free-clause-limits
returns-in-Free-clause-limits g c =
    let s = c.args.store.now in
    let t = c.free_seg.new.store in
    let m = c.args.regions.now in
    let n = c.free_seg.new.regions in
    limits_by_made s t m n (Done c.free_seg.result) (limits_more s t m n 0 1 c.free_seg.ensures.limits)

pub returns-in-Size-clause-limits : goal.returns-in-Size-clause-limits
returns-in-Size-clause-limits g c =
    let s = c.args.store.now in
    let t = c.size_seg.new.store in
    let m = c.args.regions.now in
    let n = c.size_seg.new.regions in
    limits_by_made s t m n (Done c.size_seg.result) (limits_more s t m n 0 1 (limits_same s t m n c.size_seg.ensures.store c.size_seg.ensures.regions))

pub returns-in-Lock-clause-limits : goal.returns-in-Lock-clause-limits
returns-in-Lock-clause-limits g c =
    let s = c.args.store.now in
    let t = c.lock_seg.new.store in
    let m = c.args.regions.now in
    let n = c.lock_seg.new.regions in
    let r = c.lock_seg.result in
    limits_by_made s t m n r (limits_in s t m n r c.lock_seg.ensures.limits)

pub returns-in-Unlock-clause-limits : goal.returns-in-Unlock-clause-limits
returns-in-Unlock-clause-limits g c =
    let s = c.args.store.now in
    let t = c.unlock_seg.new.store in
    let m = c.args.regions.now in
    let n = c.unlock_seg.new.regions in
    limits_by_made s t m n (Done c.unlock_seg.result) (limits_more s t m n 0 1 c.unlock_seg.ensures.limits)

pub returns-in-Alias-clause-limits : goal.returns-in-Alias-clause-limits
returns-in-Alias-clause-limits g c =
    let s = c.args.store.now in
    let t = c.create_cs_alias.new.store in
    let m = c.args.regions.now in
    let n = c.create_cs_alias.new.regions in
    limits_by_made s t m n (Done c.create_cs_alias.result) (limits_more s t m n 0 1 c.create_cs_alias.ensures.limits)

pub returns-in-Size-clause-entries : goal.returns-in-Size-clause-entries
returns-in-Size-clause-entries g c =
    subst (λ (a : SegmentArguments). LeavesEntries a c.args.store.now c.size_seg.new.store) (sym c.in-Size.is) (entries_same c.args.store.now c.size_seg.new.store c.size_seg.ensures.store)

pub returns-in-Alias-clause-entries : goal.returns-in-Alias-clause-entries
returns-in-Alias-clause-entries g c =
    subst (λ (a : SegmentArguments). LeavesEntries a c.args.store.now c.create_cs_alias.new.store) (sym c.in-Alias.is) (entries_same c.args.store.now c.create_cs_alias.new.store c.create_cs_alias.ensures.store)

pub returns-in-Shared-clause-limits : goal.returns-in-Shared-clause-limits
returns-in-Shared-clause-limits g c = limits_to c.args.store.now c.share.new.store c.args.regions.now c.share.new.regions 1 4096 (omega arith) c.share.ensures.limits

pub returns-in-Alloc-clause-limits : goal.returns-in-Alloc-clause-limits
returns-in-Alloc-clause-limits g c = limits_by_made c.args.store.now c.alloc_seg.new.store c.args.regions.now c.alloc_seg.new.regions c.alloc_seg.result c.alloc_seg.ensures.limits

pub returns-in-Alloc-clause-places : goal.returns-in-Alloc-clause-places
returns-in-Alloc-clause-places g c = (let k = c.alloc_seg.ensures.limits in stay_in_place c.args.store.now c.alloc_seg.new.store c.args.regions.now c.alloc_seg.new.regions c.args.names.now c.requires.places k.shares k.grows)

pub returns-in-Realloc-clause-places : goal.returns-in-Realloc-clause-places
returns-in-Realloc-clause-places g c = (let k = c.realloc_seg.ensures.limits in stay_in_place c.args.store.now c.realloc_seg.new.store c.args.regions.now c.realloc_seg.new.regions c.args.names.now c.requires.places k.shares k.grows)

pub returns-in-Free-clause-places : goal.returns-in-Free-clause-places
returns-in-Free-clause-places g c = (let k = c.free_seg.ensures.limits in stay_in_place c.args.store.now c.free_seg.new.store c.args.regions.now c.free_seg.new.regions c.args.names.now c.requires.places k.shares k.grows)

pub returns-in-Size-clause-places : goal.returns-in-Size-clause-places
returns-in-Size-clause-places g c =
    let s = c.args.store.now in
    let t = c.size_seg.new.store in
    let m = c.args.regions.now in
    let n = c.size_seg.new.regions in
    let k = limits_same s t m n c.size_seg.ensures.store c.size_seg.ensures.regions in
    stay_in_place s t m n c.args.names.now c.requires.places k.shares k.grows

pub returns-in-Lock-clause-places : goal.returns-in-Lock-clause-places
returns-in-Lock-clause-places g c = (let k = c.lock_seg.ensures.limits in stay_in_place c.args.store.now c.lock_seg.new.store c.args.regions.now c.lock_seg.new.regions c.args.names.now c.requires.places k.shares k.grows)

pub returns-in-Unlock-clause-places : goal.returns-in-Unlock-clause-places
returns-in-Unlock-clause-places g c = (let k = c.unlock_seg.ensures.limits in stay_in_place c.args.store.now c.unlock_seg.new.store c.args.regions.now c.unlock_seg.new.regions c.args.names.now c.requires.places k.shares k.grows)

pub returns-in-Alias-clause-places : goal.returns-in-Alias-clause-places
returns-in-Alias-clause-places g c = (let k = c.create_cs_alias.ensures.limits in stay_in_place c.args.store.now c.create_cs_alias.new.store c.args.regions.now c.create_cs_alias.new.regions c.args.names.now c.requires.places k.shares k.grows)

pub returns-in-Shared-clause-kept : goal.returns-in-Shared-clause-kept
returns-in-Shared-clause-kept g c = λ k named live here. c.share.ensures.kept k here

pub returns-in-Shared-clause-holds : goal.returns-in-Shared-clause-holds
returns-in-Shared-clause-holds g c = subst (λ (a : SegmentArguments). LeavesHolds a c.args.regions.now c.share.new.regions) (sym c.in-Shared.is) c.share.ensures.still

pub returns-in-Shared-clause-entries : goal.returns-in-Shared-clause-entries
returns-in-Shared-clause-entries g c = subst (λ (a : SegmentArguments). LeavesEntries a c.args.store.now c.share.new.store) (sym c.in-Shared.is) c.share.ensures.entries

pub returns-in-Shared-clause-value : goal.returns-in-Shared-clause-value
returns-in-Shared-clause-value g c = subst (λ (a : SegmentArguments). IsGivable a (Done c.share.result)) (sym c.in-Shared.is) c.share.ensures.word

pub returns-in-Alloc-clause-idle : goal.returns-in-Alloc-clause-idle
returns-in-Alloc-clause-idle g c = λ none.
    elim (c.alloc_seg.ensures.idle none) [
      | inl i ↦ inl i
      | inr short ↦ inr (subst (λ (a : SegmentArguments). IsShort a c.args.store.now c.args.regions.now c.args.pid c.alloc_seg.result) (sym c.in-Alloc.is) (record { unrefused = short.unrefused; stops = short.locked; lacks = short.short }))
    ]

pub returns-in-Realloc-clause-idle : goal.returns-in-Realloc-clause-idle
returns-in-Realloc-clause-idle g c = λ none.
    elim (c.realloc_seg.ensures.idle none) [
      | inl i ↦ inl i
      | inr short ↦ inr (subst (λ (a : SegmentArguments). IsShort a c.args.store.now c.args.regions.now c.args.pid c.realloc_seg.result) (sym c.in-Realloc.is) (record { unrefused = short.0; stops = tt; lacks = short.1 }))
    ]

pub returns-in-Lock-clause-idle : goal.returns-in-Lock-clause-idle
returns-in-Lock-clause-idle g c = λ none.
    elim (c.lock_seg.ensures.idle none) [
      | inl i ↦ inl i
      | inr short ↦ inr (subst (λ (a : SegmentArguments). IsShort a c.args.store.now c.args.regions.now c.args.pid c.lock_seg.result) (sym c.in-Lock.is) (record { unrefused = short.0; stops = tt; lacks = short.1 }))
    ]

pub returns-in-Free-clause-idle : goal.returns-in-Free-clause-idle
returns-in-Free-clause-idle g c = λ none. inl (record { device = refl; none = c.free_seg.ensures.goes_on.unused none })

pub returns-in-Size-clause-idle : goal.returns-in-Size-clause-idle
returns-in-Size-clause-idle g c = λ none. inl (record { device = refl; none = subst (λ (x : Shelf). NoneTaken x.swap) (sym c.size_seg.ensures.store) none })

pub returns-in-Unlock-clause-idle : goal.returns-in-Unlock-clause-idle
returns-in-Unlock-clause-idle g c = λ none. inl (record { device = refl; none = c.unlock_seg.ensures.goes_on.unused none })

pub returns-in-Alias-clause-idle : goal.returns-in-Alias-clause-idle
returns-in-Alias-clause-idle g c = λ none. inl (record { device = refl; none = subst (λ (x : Shelf). NoneTaken x.swap) (sym c.create_cs_alias.ensures.store) none })

pub returns-in-Shared-clause-idle : goal.returns-in-Shared-clause-idle
returns-in-Shared-clause-idle g c = λ none. inl (record { device = refl; none = c.share.ensures.goes_on.unused none })

pub returns-in-Huge-clause-stops : goal.returns-in-Huge-clause-stops
returns-in-Huge-clause-stops g c = λ stops. subst MayStop (sym c.in-Huge.is) (c.act_on_run.ensures.stops stops)

pub returns-in-Huge-clause-holds : goal.returns-in-Huge-clause-holds
returns-in-Huge-clause-holds g c = subst (λ (a : SegmentArguments). LeavesHolds a c.args.regions.now c.act_on_run.new.regions) (sym c.in-Huge.is)
    (c.act_on_run.ensures.holds)

pub returns-in-Huge-clause-entries : goal.returns-in-Huge-clause-entries
returns-in-Huge-clause-entries g c = subst (λ (a : SegmentArguments). LeavesEntries a c.args.store.now c.act_on_run.new.store) (sym c.in-Huge.is)
    (c.act_on_run.ensures.entries)

pub returns-in-Huge-clause-no_room : goal.returns-in-Huge-clause-no_room
returns-in-Huge-clause-no_room g c = λ e. subst (λ (a : SegmentArguments). LacksRoom a c.args.store.now c.args.regions.now c.args.pid c.args.keep.now) (sym c.in-Huge.is)
    (tt)

pub returns-in-Huge-clause-swap_full : goal.returns-in-Huge-clause-swap_full
returns-in-Huge-clause-swap_full g c = λ e. subst (λ (a : SegmentArguments). LacksSwap a c.args.store.now c.args.regions.now c.args.pid) (sym c.in-Huge.is)
    (c.act_on_run.ensures.load e, tt)

pub returns-in-Huge-clause-places : goal.returns-in-Huge-clause-places
returns-in-Huge-clause-places g c = (let k = c.act_on_run.ensures.limits in stay_in_place c.args.store.now c.act_on_run.new.store c.args.regions.now c.act_on_run.new.regions c.args.names.now c.requires.places k.shares k.grows)

pub returns-in-Huge-clause-value : goal.returns-in-Huge-clause-value
returns-in-Huge-clause-value g c = subst (λ (a : SegmentArguments). IsGivable a c.act_on_run.result) (sym c.in-Huge.is)
    (c.act_on_run.ensures.value)

pub returns-in-Huge-clause-idle : goal.returns-in-Huge-clause-idle
returns-in-Huge-clause-idle g c = λ none.
    elim (c.act_on_run.ensures.idle none) [
      | inl i ↦ inl i
      | inr may ↦ inr (subst (λ (a : SegmentArguments). IsShort a c.args.store.now c.args.regions.now c.args.pid c.act_on_run.result) (sym c.in-Huge.is) (record { unrefused = tt; stops = may; lacks = tt }))
    ]

pub returns-in-Realloc-clause-processes : goal.returns-in-Realloc-clause-processes
returns-in-Realloc-clause-processes g c = c.realloc_seg.ensures.holds.processes

pub returns-in-Lock-clause-processes : goal.returns-in-Lock-clause-processes
returns-in-Lock-clause-processes g c = c.lock_seg.ensures.holds.processes

pub returns-in-Free-clause-goes_on : goal.returns-in-Free-clause-goes_on
returns-in-Free-clause-goes_on g c = for_order c.args.images.now c.args.store.now c.free_seg.new.store c.args.regions.now c.free_seg.new.regions c.free_seg.ensures.goes_on c.requires.backed.clean

pub returns-in-Unlock-clause-goes_on : goal.returns-in-Unlock-clause-goes_on
returns-in-Unlock-clause-goes_on g c = for_order c.args.images.now c.args.store.now c.unlock_seg.new.store c.args.regions.now c.unlock_seg.new.regions c.unlock_seg.ensures.goes_on c.requires.backed.clean

pub returns-in-Alias-clause-goes_on : goal.returns-in-Alias-clause-goes_on
returns-in-Alias-clause-goes_on g c = for_order c.args.images.now c.args.store.now c.create_cs_alias.new.store c.args.regions.now c.create_cs_alias.new.regions c.create_cs_alias.ensures.goes_on c.requires.backed.clean

pub returns-in-Shared-clause-goes_on : goal.returns-in-Shared-clause-goes_on
returns-in-Shared-clause-goes_on g c = for_order c.args.images.now c.args.store.now c.share.new.store c.args.regions.now c.share.new.regions c.share.ensures.goes_on c.requires.backed.clean

pub returns-in-Size-clause-goes_on : goal.returns-in-Size-clause-goes_on
returns-in-Size-clause-goes_on g c =
    let s = c.args.store.now in
    let t = c.size_seg.new.store in
    let m = c.args.regions.now in
    let n = c.size_seg.new.regions in
    let same = order_as s s t m n c.size_seg.ensures.store (maps_as s s m m n c.size_seg.ensures.regions (order_refl s m c.requires.caller.order)) in
    for_order c.args.images.now s t m n same c.requires.backed.clean

pub returns-in-Free-clause-device : goal.returns-in-Free-clause-device
returns-in-Free-clause-device g c = device_refl _ _ _ _ _ (λ e. absurd (cc))

pub returns-in-Size-clause-device : goal.returns-in-Size-clause-device
returns-in-Size-clause-device g c = device_refl _ _ _ _ _ (λ e. absurd (cc))

pub returns-in-Unlock-clause-device : goal.returns-in-Unlock-clause-device
returns-in-Unlock-clause-device g c = device_refl _ _ _ _ _ (λ e. absurd (cc))

pub returns-in-Alias-clause-device : goal.returns-in-Alias-clause-device
returns-in-Alias-clause-device g c = device_refl _ _ _ _ _ (λ e. absurd (cc))

pub returns-in-Shared-clause-device : goal.returns-in-Shared-clause-device
returns-in-Shared-clause-device g c = device_refl _ _ _ _ _ (λ e. absurd (cc))
