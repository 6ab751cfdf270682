use Rattle.std.proofs.Common.{◌≡◌, ◌+◌, inl, inr, ℕ, [], length, ap, sym, ◌∙◌, refl, arith, subst}
use Rattle.o2_isa.specs.declared.cpu.Cpu.{Cpu}
use Rattle.o2_world.specs.declared.types.State.TheVariants.{Live}
use Rattle.o2_world.specs.Known.{known_of}
use Rattle.o2_regions.specs.declared.answer.Roomed.TheVariants.{Done}
use Rattle.o2_world.specs.Calls.{returned}
use Rattle.o2_world.specs.Changes.{with_all}
use Rattle.o2_world.specs.Run.{before, changed}
use Rattle.o2_swapmap.specs.Piles.{all_of}
use Rattle.o2_segbus.proofs.Ages.{named_by_age}
use Rattle.o2_gate.specs.Replies.{words_of}
use Rattle.o2_segs.specs.Answers.{Answers}
use Rattle.o2_calls.specs.Acts.{cpu_of, ruling_of}
use Rattle.o2_space.specs.Calls.{no_registers}
use Rattle.o2_calls.specs.Tellings.{replied_by}
use Rattle.o2_stands.specs.Moves.{moved, stepped_to, with_running}
use Rattle.o2_stands.specs.Parts.{Parts}
use Rattle.o2_stands.specs.Stands.{Matches, Stands}
use Rattle.o2_space.specs.Parts.{parts_in, running_at}
use Rattle.o2_shared.proofs.Staying.{stay_in_place}
use Rattle.o2_space.proofs.SharedKept.{few_as, given_grows, given_shares, living_are}
use Rattle.o2_space.proofs.Spelling.{leaves_written, stops_unnamed}
use Rattle.o2_calls.specs.SharedActs.{LeavesSpelled}
use Rattle.o2_calls.specs.declared.noting.Counted.{Counted}
use Rattle.o2_calls.specs.Noted.{counted_by, noted}
use Rattle.o2_calls.proofs.NotedTold.{all_noted}
use Rattle.o2_gate.specs.MovedLines.{all_lines}
use Rattle.o2_gate.specs.Targets.{name_of}
use Rattle.o2_world.specs.Changes.{moved_lines}
use Rattle.o2_space.proofs.Aimed.{aimed_kept}
use Rattle.o2_space.proofs.Whole.{whole_same}
use Rattle.o2_space.proofs.Called.{called}
use Rattle.o2_service.specs.Needs.{segments_of}
use Rattle.o2_space.proofs.CallSays.{fits_at, full_at, lacks_at, run_full, short_at, unrefused_by}
use Rattle.o2_space.proofs.Beginning.{over_here, spells_here}
use Rattle.o2_space.proofs.Making.{kept_named, on_device, process_called, ready_called, ready_given, stays_at}
use Rattle.o2_space.proofs.ForValues.{value_of}
use Rattle.o2_store.specs.Idle.{NoneTaken}
use Rattle.o2_store.specs.Shelf.{Shelf}
use Rattle.o2_store.proofs.Framing.{device_for}
use Rattle.o2_space.proofs.space.Space.make_call.Goals as goal

pub act-requires-clause-pictures : goal.act-requires-clause-pictures
act-requires-clause-pictures g c = (c.requires.together.ready (λ k. [])).pictures

pub act-requires-clause-one : goal.act-requires-clause-one
act-requires-clause-one g c = c.requires.together.one

pub act-requires-clause-few : goal.act-requires-clause-few
act-requires-clause-few g c = c.requires.few

pub act-requires-clause-living : goal.act-requires-clause-living
act-requires-clause-living g c = (let m = c.args.self.now in living_are m.procs.items m.regions m.ends c.requires.together.numbers c.requires.together.marked)

pub act-requires-clause-places : goal.act-requires-clause-places
act-requires-clause-places g c = c.requires.together.places

pub give-requires-clause-process : goal.give-requires-clause-process
give-requires-clause-process g c = process_called c.args.self.now.regions c.act.new.regions c.args.pid c.act.ensures.processes c.requires.can_step.process

pub give-requires-clause-named : goal.give-requires-clause-named
give-requires-clause-named g c =
    let ready = c.requires.together.ready (λ k. []) in
    named_by_age c.act.new.store c.act.new.regions (c.act.ensures.goes_on.guards (record { aged = ready.aged; guarded = ready.guarded })).aged c.act.ensures.goes_on.order.held.live

pub give-requires-clause-settled : goal.give-requires-clause-settled
give-requires-clause-settled g c = c.act.ensures.goes_on.order.settled

pub give-requires-clause-ready : goal.give-requires-clause-ready
give-requires-clause-ready g c =
    let m = c.args.self.now in
    let t = c.act.new.store in
    let n = c.act.new.regions in
    let pid = c.args.pid in
    let ready = c.requires.together.ready (λ k. []) in
    aimed_kept m.store t m.regions n pid ready.held c.requires.can_step.named (named_by_age t n (c.act.ensures.goes_on.guards (record { aged = ready.aged; guarded = ready.guarded })).aged c.act.ensures.goes_on.order.held.live)
    c.lawful.ensures.inside c.lawful-in-Done.ensures.inside c.args.arguments c.args.cpu.now no_registers c.act.ensures.holds c.act.ensures.entries
    (λ k needed slot place. c.act.ensures.kept k (kept_named m.store m.regions pid c.args.cpu.now c.args.arguments _ _ ready.held c.ids.ensures c.call_need-need.ensures k needed) slot place)
    c.requires.aimed

pub give-requires-clause-value : goal.give-requires-clause-value
give-requires-clause-value g c = value_of c.args.arguments c.in-Done.answer c.in-Done.ensures.value

-- A call that stops.

pub returns-in-NoRoom-clause-makes : goal.returns-in-NoRoom-clause-makes
returns-in-NoRoom-clause-makes g c = λ s w x tells here agrees tied same.
    let S = g.S.SwapDevice in
    let m = c.args.self.now in
    let p : Parts = parts_in m (S.blocks c.args.swap.now) (S.block c.args.swap.now) in
    let over = over_here m (S.blocks c.args.swap.now) (S.block c.args.swap.now) s w here.stands agrees c.lawful.ensures in
    let spells = spells_here m (S.blocks c.args.swap.now) (S.block c.args.swap.now) s w here.stands agrees c.requires.together in
    on_device (moved p c.act.new.store c.act.new.regions (S.block c.act.new.swap)) (S.blocks c.act.new.swap) (λ (q : Parts). Stands q w) c.act.ensures.device.blocks
    (stays_at p w c.act.new.store c.act.new.regions (S.block c.act.new.swap)
    ((c.in-NoRoom.ensures.row p s w over spells).matches x tells here.process tied) here.stands)

pub returns-in-NoRoom-clause-room : goal.returns-in-NoRoom-clause-room
returns-in-NoRoom-clause-room g c = λ s w x tells here turn live same call room.
    let S = g.S.SwapDevice in
    let m = c.args.self.now in
    let p : Parts = parts_in m (S.blocks c.args.swap.now) (S.block c.args.swap.now) in
    let over = over_here m (S.blocks c.args.swap.now) (S.block c.args.swap.now) s w here.stands turn.agrees c.lawful.ensures in
    let spells = spells_here m (S.blocks c.args.swap.now) (S.block c.args.swap.now) s w here.stands turn.agrees c.requires.together in
    lacks_at p s w x c.lawful.ensures turn.agrees.set here.stands live turn.sound turn.wordless c.args.arguments c.args.next c.args.cpu.now same _ c.args.pid turn.turn
    (record { there = here.process; call = call; step = c.requires.can_step; ready = c.requires.aimed; keeps = c.ids.ensures ∙ ap segments_of c.call_need-need.ensures })
    (c.in-NoRoom.ensures.row p s w over spells).answer
    (c.in-NoRoom.ensures.stops tt) (c.in-NoRoom.ensures.no_room refl) (c.in-NoRoom.ensures.row p s w over spells).lacks

pub returns-in-NoRoom-clause-together : goal.returns-in-NoRoom-clause-together
returns-in-NoRoom-clause-together g c =
    let S = g.S.SwapDevice in
    let m = c.args.self.now in
    let e = c.act.ensures in
    record {
      ready = λ block.
          ready_called m.store c.act.new.store m.regions c.act.new.regions m.images (S.blocks c.args.swap.now) block block (running_at m.procs.items) (c.requires.together.ready block)
          e.goes_on.order e.goes_on.guards e.goes_on.clean (e.goes_on.pictures m.images (c.requires.together.ready (λ k. [])).pictures) e.goes_on.map (S.blocks c.act.new.swap) e.device.blocks;
      numbers = (let a = c.requires.together.numbers in let b = e.processes in omega (arith, a, b));
      marked = c.requires.together.marked;
      whole = e.goes_on.order.tables;
      one = e.limits.shares.one c.requires.together.one;
      places = e.places;
    }

pub returns-in-SwapFull-clause-makes : goal.returns-in-SwapFull-clause-makes
returns-in-SwapFull-clause-makes g c = λ s w x tells here agrees tied same.
    let S = g.S.SwapDevice in
    let m = c.args.self.now in
    let p : Parts = parts_in m (S.blocks c.args.swap.now) (S.block c.args.swap.now) in
    let over = over_here m (S.blocks c.args.swap.now) (S.block c.args.swap.now) s w here.stands agrees c.lawful.ensures in
    let spells = spells_here m (S.blocks c.args.swap.now) (S.block c.args.swap.now) s w here.stands agrees c.requires.together in
    on_device (moved p c.act.new.store c.act.new.regions (S.block c.act.new.swap)) (S.blocks c.act.new.swap) (λ (q : Parts). Stands q w) c.act.ensures.device.blocks
    (stays_at p w c.act.new.store c.act.new.regions (S.block c.act.new.swap)
    ((c.in-SwapFull.ensures.row p s w over spells).matches x tells here.process tied) here.stands)

pub returns-in-SwapFull-clause-room : goal.returns-in-SwapFull-clause-room
returns-in-SwapFull-clause-room g c = λ s w x tells here turn live same call room.
    let S = g.S.SwapDevice in
    let m = c.args.self.now in
    let p : Parts = parts_in m (S.blocks c.args.swap.now) (S.block c.args.swap.now) in
    let over = over_here m (S.blocks c.args.swap.now) (S.block c.args.swap.now) s w here.stands turn.agrees c.lawful.ensures in
    let spells = spells_here m (S.blocks c.args.swap.now) (S.block c.args.swap.now) s w here.stands turn.agrees c.requires.together in
    full_at p s w x c.lawful.ensures turn.agrees.set here.stands live turn.sound turn.wordless c.args.arguments c.args.next c.args.cpu.now same _ c.args.pid turn.turn
    (record { there = here.process; call = call; step = c.requires.can_step; ready = c.requires.aimed; keeps = c.ids.ensures ∙ ap segments_of c.call_need-need.ensures })
    (c.in-SwapFull.ensures.row p s w over spells).answer
    (c.in-SwapFull.ensures.stops tt) (c.in-SwapFull.ensures.swap_full refl)
    (run_full c.args.arguments.request c.args.self.now.store (known_of s w) c.args.pid c.args.cpu.now _ (c.in-SwapFull.ensures.row p s w over spells).lacks)

pub returns-in-SwapFull-clause-together : goal.returns-in-SwapFull-clause-together
returns-in-SwapFull-clause-together g c =
    let S = g.S.SwapDevice in
    let m = c.args.self.now in
    let e = c.act.ensures in
    record {
      ready = λ block.
          ready_called m.store c.act.new.store m.regions c.act.new.regions m.images (S.blocks c.args.swap.now) block block (running_at m.procs.items) (c.requires.together.ready block)
          e.goes_on.order e.goes_on.guards e.goes_on.clean (e.goes_on.pictures m.images (c.requires.together.ready (λ k. [])).pictures) e.goes_on.map (S.blocks c.act.new.swap) e.device.blocks;
      numbers = (let a = c.requires.together.numbers in let b = e.processes in omega (arith, a, b));
      marked = c.requires.together.marked;
      whole = e.goes_on.order.tables;
      one = e.limits.shares.one c.requires.together.one;
      places = e.places;
    }

pub returns-in-SwapFault-clause-makes : goal.returns-in-SwapFault-clause-makes
returns-in-SwapFault-clause-makes g c = λ s w x tells here agrees tied same.
    let S = g.S.SwapDevice in
    let m = c.args.self.now in
    let p : Parts = parts_in m (S.blocks c.args.swap.now) (S.block c.args.swap.now) in
    let over = over_here m (S.blocks c.args.swap.now) (S.block c.args.swap.now) s w here.stands agrees c.lawful.ensures in
    let spells = spells_here m (S.blocks c.args.swap.now) (S.block c.args.swap.now) s w here.stands agrees c.requires.together in
    on_device (moved p c.act.new.store c.act.new.regions (S.block c.act.new.swap)) (S.blocks c.act.new.swap) (λ (q : Parts). Stands q w) c.act.ensures.device.blocks
    (stays_at p w c.act.new.store c.act.new.regions (S.block c.act.new.swap)
    ((c.in-SwapFault.ensures.row p s w over spells).matches x tells here.process tied) here.stands)

pub returns-in-SwapFault-clause-together : goal.returns-in-SwapFault-clause-together
returns-in-SwapFault-clause-together g c =
    let S = g.S.SwapDevice in
    let m = c.args.self.now in
    let e = c.act.ensures in
    record {
      ready = λ block.
          ready_called m.store c.act.new.store m.regions c.act.new.regions m.images (S.blocks c.args.swap.now) block block (running_at m.procs.items) (c.requires.together.ready block)
          e.goes_on.order e.goes_on.guards e.goes_on.clean (e.goes_on.pictures m.images (c.requires.together.ready (λ k. [])).pictures) e.goes_on.map (S.blocks c.act.new.swap) e.device.blocks;
      numbers = (let a = c.requires.together.numbers in let b = e.processes in omega (arith, a, b));
      marked = c.requires.together.marked;
      whole = e.goes_on.order.tables;
      one = e.limits.shares.one c.requires.together.one;
      places = e.places;
    }

-- A call that is made.

pub returns-in-Done-clause-makes : goal.returns-in-Done-clause-makes
returns-in-Done-clause-makes g c = λ s w x tells here agrees tied same.
    let S = g.S.SwapDevice in
    let m = c.args.self.now in
    let pid = c.args.pid in
    let a = c.args.arguments in
    let t = c.act.new.store in
    let n = c.act.new.regions in
    let u = c.give.new.store in
    let o = c.give.new.regions in
    let block = S.block c.act.new.swap in
    let e = c.act.ensures in
    let p : Parts = parts_in m (S.blocks c.args.swap.now) (S.block c.args.swap.now) in
    let over = over_here m (S.blocks c.args.swap.now) (S.block c.args.swap.now) s w here.stands agrees c.lawful.ensures in
    let spells = spells_here m (S.blocks c.args.swap.now) (S.block c.args.swap.now) s w here.stands agrees c.requires.together in
    let answers = subst (λ (z : Cpu). Answers (ruling_of a.request (known_of s w) pid z) c.in-Done.answer) same (c.in-Done.ensures.row p s w over spells).answer in
    let behind = replied_by a (before s w pid x) c.args.next in
    let registers =
    c.come_back.ensures
    ∙ (ap (λ (z : Cpu). returned z c.args.next (words_of a) c.in-Done.answer.error) ((c.in-Done.ensures.row p s w over spells).registers ∙ ap (cpu_of a.request (known_of s w) pid) same)
    ∙ ap (λ (k : ℕ). returned (cpu_of a.request (known_of s w) pid x.cpu) c.args.next (words_of a) k) answers.error) in
    let matches =
    subst (λ (z : Cpu). Matches (moved p t n block) (with_all w (ruling_of a.request (known_of s w) pid z).changes)) same
    ((c.in-Done.ensures.row p s w over spells).matches x tells here.process tied) in
    let ready =
    ready_called m.store t m.regions n m.images (S.blocks c.args.swap.now) (S.block c.args.swap.now) block (running_at m.procs.items) (c.requires.together.ready (S.block c.args.swap.now))
    e.goes_on.order e.goes_on.guards e.goes_on.clean (e.goes_on.pictures m.images (c.requires.together.ready (λ k. [])).pictures) e.goes_on.map (S.blocks c.args.swap.now) refl in
    let given = c.give.ensures in
    let good = ready_given t u n o m.images (S.blocks c.args.swap.now) block block (running_at m.procs.items) ready given.store given.maps given.clean given.settled in
    record {
      answers = answers;
      cpu = registers;
      matches = λ d current.
          subst (λ (z : Cpu). Matches (with_running (record (stepped_to (moved p t n block) u o) { device = S.blocks c.act.new.swap }) pid (record { cpu = z; state = Live })) (changed w d x behind)) (sym registers)
          (on_device (stepped_to (moved p t n block) u o) (S.blocks c.act.new.swap) (λ (q : Parts). Matches (with_running q pid (record { cpu = behind.cpu; state = Live })) (changed w d x behind)) e.device.blocks
          (called p s w x pid a c.args.next c.lawful.ensures here.stands here.process c.args.cpu.now c.requires.aimed t n block c.lawful-in-Done.ensures e.holds c.in-Done.answer.error c.in-Done.answer.value
          answers.error answers.value matches u o given.bytes given.store given.maps c.lawful-in-Done-2.ensures.inside good d current));
    }

pub returns-in-Done-clause-value : goal.returns-in-Done-clause-value
returns-in-Done-clause-value g c = value_of c.args.arguments c.in-Done.answer c.in-Done.ensures.value

pub returns-in-Done-clause-inside : goal.returns-in-Done-clause-inside
returns-in-Done-clause-inside g c = c.note.ensures.inside

pub returns-in-Done-clause-moves : goal.returns-in-Done-clause-moves
returns-in-Done-clause-moves g c = λ s w x tells here agrees tied same.
    let S = g.S.SwapDevice in
    let m = c.args.self.now in
    let pid = c.args.pid in
    let a = c.args.arguments in
    let n = c.act.new.regions in
    let answer = c.in-Done.answer in
    let p : Parts = parts_in m (S.blocks c.args.swap.now) (S.block c.args.swap.now) in
    let over = over_here m (S.blocks c.args.swap.now) (S.block c.args.swap.now) s w here.stands agrees c.lawful.ensures in
    let spells = spells_here m (S.blocks c.args.swap.now) (S.block c.args.swap.now) s w here.stands agrees c.requires.together in
    let told =
    all_noted p n s w x pid c.args.cpu.now c.lawful.ensures agrees.set here.stands c.requires.can_step.process spells.processes c.act.ensures.processes here.process (name_of a) a.request answer
    (moved p c.act.new.store n (S.block c.act.new.swap)) refl ((c.in-Done.ensures.row p s w over spells).matches x tells here.process tied) (c.in-Done.ensures.row p s w over spells).answer in
    let is : c.note.new.moves ≡ noted a.request pid (counted_by a.request m.regions pid) n (Done answer) = c.note.ensures.notes ∙ ap (λ (d : Counted). noted a.request pid d n (Done answer)) c.count-counted.ensures in
    ap (all_lines (name_of a)) is ∙ (told.lines ∙ ap (λ (z : Cpu). moved_lines (name_of a) (ruling_of a.request (known_of s w) pid z).changes) same)

pub returns-in-Done-clause-together : goal.returns-in-Done-clause-together
returns-in-Done-clause-together g c =
    let S = g.S.SwapDevice in
    let m = c.args.self.now in
    let t = c.act.new.store in
    let n = c.act.new.regions in
    let u = c.give.new.store in
    let o = c.give.new.regions in
    let e = c.act.ensures in
    let given = c.give.ensures in
    record {
      ready = λ block.
          ready_given t u n o m.images (S.blocks c.act.new.swap) block block (running_at m.procs.items)
          (ready_called m.store t m.regions n m.images (S.blocks c.args.swap.now) block block (running_at m.procs.items) (c.requires.together.ready block)
          e.goes_on.order e.goes_on.guards e.goes_on.clean (e.goes_on.pictures m.images (c.requires.together.ready (λ k. [])).pictures) e.goes_on.map (S.blocks c.act.new.swap) e.device.blocks)
          given.store given.maps given.clean given.settled;
      numbers = (let a = c.requires.together.numbers in let b = e.processes in let d = given.maps.processes in omega (arith, a, b, d));
      marked = c.requires.together.marked;
      whole = whole_same n o given.maps.processes given.maps.lengths e.goes_on.order.tables;
      one = (given_shares t u n o given.store given.maps).one (e.limits.shares.one c.requires.together.one);
      places = stay_in_place t u n o c.act.new.names e.places (given_shares t u n o given.store given.maps) (given_grows t u given.store);
    }

pub returns-in-Done-clause-room : goal.returns-in-Done-clause-room
returns-in-Done-clause-room g c = λ s w x tells here turn live same call room.
    let S = g.S.SwapDevice in
    let m = c.args.self.now in
    let p : Parts = parts_in m (S.blocks c.args.swap.now) (S.block c.args.swap.now) in
    let over = over_here m (S.blocks c.args.swap.now) (S.block c.args.swap.now) s w here.stands turn.agrees c.lawful.ensures in
    let spells = spells_here m (S.blocks c.args.swap.now) (S.block c.args.swap.now) s w here.stands turn.agrees c.requires.together in
    let q : Parts = parts_in (record c.args.self.now { store = c.give.new.store; regions = c.give.new.regions }) (S.blocks c.act.new.swap) (S.block c.act.new.swap) in
    let e = c.act.ensures in
    fits_at p s w x c.lawful.ensures turn.agrees.set here.stands live turn.sound turn.wordless c.args.arguments c.args.next c.args.cpu.now same _ c.args.pid turn.turn
    (record { there = here.process; call = call; step = c.requires.can_step; ready = c.requires.aimed; keeps = c.ids.ensures ∙ ap segments_of c.call_need-need.ensures })
    c.act.new.store c.act.new.regions e.holds (e.row p s w over spells).holds e.limits.size q c.lawful-in-Done-2.ensures (record { kept = e.kept; store = c.give.ensures.store; maps = c.give.ensures.maps }) _ c.in-Done.answer
    (returns-in-Done-clause-makes g c s w x tells here turn.agrees turn.sound.tied same) room

pub returns-in-NoRoom-clause-spells : goal.returns-in-NoRoom-clause-spells
returns-in-NoRoom-clause-spells g c = λ s w x stands agrees same.
    let S = g.S.SwapDevice in
    let m = c.args.self.now in
    let p : Parts = parts_in m (S.blocks c.args.swap.now) (S.block c.args.swap.now) in
    let over = over_here m (S.blocks c.args.swap.now) (S.block c.args.swap.now) s w stands agrees c.lawful.ensures in
    let spells = spells_here m (S.blocks c.args.swap.now) (S.block c.args.swap.now) s w stands agrees c.requires.together in
    stops_unnamed c.args.arguments.request (c.in-NoRoom.ensures.stops tt) c.act.new.store m.names c.act.new.names (with_all w (ruling_of c.args.arguments.request (known_of s w) c.args.pid c.args.cpu.now).changes)
    (c.act.ensures.row p s w over spells).spells

pub returns-in-NoRoom-clause-behind : goal.returns-in-NoRoom-clause-behind
returns-in-NoRoom-clause-behind g c = record { lived = c.act.ensures.limits.shares.lived }

pub returns-in-SwapFull-clause-spells : goal.returns-in-SwapFull-clause-spells
returns-in-SwapFull-clause-spells g c = λ s w x stands agrees same.
    let S = g.S.SwapDevice in
    let m = c.args.self.now in
    let p : Parts = parts_in m (S.blocks c.args.swap.now) (S.block c.args.swap.now) in
    let over = over_here m (S.blocks c.args.swap.now) (S.block c.args.swap.now) s w stands agrees c.lawful.ensures in
    let spells = spells_here m (S.blocks c.args.swap.now) (S.block c.args.swap.now) s w stands agrees c.requires.together in
    stops_unnamed c.args.arguments.request (c.in-SwapFull.ensures.stops tt) c.act.new.store m.names c.act.new.names (with_all w (ruling_of c.args.arguments.request (known_of s w) c.args.pid c.args.cpu.now).changes)
    (c.act.ensures.row p s w over spells).spells

pub returns-in-SwapFull-clause-behind : goal.returns-in-SwapFull-clause-behind
returns-in-SwapFull-clause-behind g c = record { lived = c.act.ensures.limits.shares.lived }

pub returns-in-SwapFault-clause-spells : goal.returns-in-SwapFault-clause-spells
returns-in-SwapFault-clause-spells g c = λ s w x stands agrees same.
    let S = g.S.SwapDevice in
    let m = c.args.self.now in
    let p : Parts = parts_in m (S.blocks c.args.swap.now) (S.block c.args.swap.now) in
    let over = over_here m (S.blocks c.args.swap.now) (S.block c.args.swap.now) s w stands agrees c.lawful.ensures in
    let spells = spells_here m (S.blocks c.args.swap.now) (S.block c.args.swap.now) s w stands agrees c.requires.together in
    stops_unnamed c.args.arguments.request (c.in-SwapFault.ensures.stops tt) c.act.new.store m.names c.act.new.names (with_all w (ruling_of c.args.arguments.request (known_of s w) c.args.pid c.args.cpu.now).changes)
    (c.act.ensures.row p s w over spells).spells

pub returns-in-SwapFault-clause-behind : goal.returns-in-SwapFault-clause-behind
returns-in-SwapFault-clause-behind g c = record { lived = c.act.ensures.limits.shares.lived }

pub returns-in-Done-clause-spells : goal.returns-in-Done-clause-spells
returns-in-Done-clause-spells g c = λ s w x stands agrees same.
    let S = g.S.SwapDevice in
    let m = c.args.self.now in
    let a = c.args.arguments in
    let t = c.act.new.store in
    let names = c.act.new.names in
    let p : Parts = parts_in m (S.blocks c.args.swap.now) (S.block c.args.swap.now) in
    let over = over_here m (S.blocks c.args.swap.now) (S.block c.args.swap.now) s w stands agrees c.lawful.ensures in
    let spells = spells_here m (S.blocks c.args.swap.now) (S.block c.args.swap.now) s w stands agrees c.requires.together in
    leaves_written a.request t c.give.new.store c.give.ensures.store m.names names (with_all w (ruling_of a.request (known_of s w) c.args.pid x.cpu).changes)
    (subst (λ (z : Cpu). LeavesSpelled a.request t m.names names (with_all w (ruling_of a.request (known_of s w) c.args.pid z).changes)) same
    (c.act.ensures.row p s w over spells).spells)

pub returns-in-Done-clause-behind : goal.returns-in-Done-clause-behind
returns-in-Done-clause-behind g c = record {
  lived = λ id old alive.
      (let e = c.act.ensures in
      let given = c.give.ensures in
      let grows = e.limits.grows in
      e.limits.shares.lived id old ((given_shares c.act.new.store c.give.new.store c.act.new.regions c.give.new.regions given.store given.maps).lived id (omega (arith, old, grows)) alive));
}

pub returns-in-NoRoom-clause-idle : goal.returns-in-NoRoom-clause-idle
returns-in-NoRoom-clause-idle g c = λ s w x here turn live same call fit none.
    let S = g.S.SwapDevice in
    let m = c.args.self.now in
    let p : Parts = parts_in m (S.blocks c.args.swap.now) (S.block c.args.swap.now) in
    let over = over_here m (S.blocks c.args.swap.now) (S.block c.args.swap.now) s w here.stands turn.agrees c.lawful.ensures in
    let spells = spells_here m (S.blocks c.args.swap.now) (S.block c.args.swap.now) s w here.stands turn.agrees c.requires.together in
    elim (c.act.ensures.idle none) [
      | inl i ↦ i
      | inr short ↦ elim ((c.act.ensures.row p s w over spells).short none) [
        | inl i ↦ i
        | inr run ↦ absurd
            (let more = short_at p s w x c.lawful.ensures turn.agrees.set here.stands live turn.sound turn.wordless c.args.arguments c.args.next c.args.cpu.now same _ c.args.pid turn.turn
            (record { there = here.process; call = call; step = c.requires.can_step; ready = c.requires.aimed; keeps = c.ids.ensures ∙ ap segments_of c.call_need-need.ensures })
            (unrefused_by c.args.arguments.request (ruling_of c.args.arguments.request (known_of s w) c.args.pid c.args.cpu.now) c.act.result
            (c.act.ensures.row p s w over spells).answer short.unrefused)
            short.stops short.lacks run in
            omega (arith, more, fit))
      ]
    ]

pub returns-in-SwapFull-clause-idle : goal.returns-in-SwapFull-clause-idle
returns-in-SwapFull-clause-idle g c = λ s w x here turn live same call fit none.
    let S = g.S.SwapDevice in
    let m = c.args.self.now in
    let p : Parts = parts_in m (S.blocks c.args.swap.now) (S.block c.args.swap.now) in
    let over = over_here m (S.blocks c.args.swap.now) (S.block c.args.swap.now) s w here.stands turn.agrees c.lawful.ensures in
    let spells = spells_here m (S.blocks c.args.swap.now) (S.block c.args.swap.now) s w here.stands turn.agrees c.requires.together in
    elim (c.act.ensures.idle none) [
      | inl i ↦ i
      | inr short ↦ elim ((c.act.ensures.row p s w over spells).short none) [
        | inl i ↦ i
        | inr run ↦ absurd
            (let more = short_at p s w x c.lawful.ensures turn.agrees.set here.stands live turn.sound turn.wordless c.args.arguments c.args.next c.args.cpu.now same _ c.args.pid turn.turn
            (record { there = here.process; call = call; step = c.requires.can_step; ready = c.requires.aimed; keeps = c.ids.ensures ∙ ap segments_of c.call_need-need.ensures })
            (unrefused_by c.args.arguments.request (ruling_of c.args.arguments.request (known_of s w) c.args.pid c.args.cpu.now) c.act.result
            (c.act.ensures.row p s w over spells).answer short.unrefused)
            short.stops short.lacks run in
            omega (arith, more, fit))
      ]
    ]

pub returns-in-SwapFault-clause-idle : goal.returns-in-SwapFault-clause-idle
returns-in-SwapFault-clause-idle g c = λ s w x here turn live same call fit none.
    let S = g.S.SwapDevice in
    let m = c.args.self.now in
    let p : Parts = parts_in m (S.blocks c.args.swap.now) (S.block c.args.swap.now) in
    let over = over_here m (S.blocks c.args.swap.now) (S.block c.args.swap.now) s w here.stands turn.agrees c.lawful.ensures in
    let spells = spells_here m (S.blocks c.args.swap.now) (S.block c.args.swap.now) s w here.stands turn.agrees c.requires.together in
    elim (c.act.ensures.idle none) [
      | inl i ↦ i
      | inr short ↦ elim ((c.act.ensures.row p s w over spells).short none) [
        | inl i ↦ i
        | inr run ↦ absurd
            (let more = short_at p s w x c.lawful.ensures turn.agrees.set here.stands live turn.sound turn.wordless c.args.arguments c.args.next c.args.cpu.now same _ c.args.pid turn.turn
            (record { there = here.process; call = call; step = c.requires.can_step; ready = c.requires.aimed; keeps = c.ids.ensures ∙ ap segments_of c.call_need-need.ensures })
            (unrefused_by c.args.arguments.request (ruling_of c.args.arguments.request (known_of s w) c.args.pid c.args.cpu.now) c.act.result
            (c.act.ensures.row p s w over spells).answer short.unrefused)
            short.stops short.lacks run in
            omega (arith, more, fit))
      ]
    ]

pub returns-in-Done-clause-idle : goal.returns-in-Done-clause-idle
returns-in-Done-clause-idle g c = λ s w x here turn live same call fit none.
    let S = g.S.SwapDevice in
    let m = c.args.self.now in
    let p : Parts = parts_in m (S.blocks c.args.swap.now) (S.block c.args.swap.now) in
    let over = over_here m (S.blocks c.args.swap.now) (S.block c.args.swap.now) s w here.stands turn.agrees c.lawful.ensures in
    let spells = spells_here m (S.blocks c.args.swap.now) (S.block c.args.swap.now) s w here.stands turn.agrees c.requires.together in
    elim (c.act.ensures.idle none) [
      | inl i ↦ record { device = i.device; none = subst NoneTaken (sym (ap (λ (z : Shelf). z.swap) c.give.ensures.store.store)) i.none }
      | inr short ↦ elim ((c.act.ensures.row p s w over spells).short none) [
        | inl i ↦ record { device = i.device; none = subst NoneTaken (sym (ap (λ (z : Shelf). z.swap) c.give.ensures.store.store)) i.none }
        | inr run ↦ absurd
            (let more = short_at p s w x c.lawful.ensures turn.agrees.set here.stands live turn.sound turn.wordless c.args.arguments c.args.next c.args.cpu.now same _ c.args.pid turn.turn
            (record { there = here.process; call = call; step = c.requires.can_step; ready = c.requires.aimed; keeps = c.ids.ensures ∙ ap segments_of c.call_need-need.ensures })
            (unrefused_by c.args.arguments.request (ruling_of c.args.arguments.request (known_of s w) c.args.pid c.args.cpu.now) c.act.result
            (c.act.ensures.row p s w over spells).answer short.unrefused)
            short.stops short.lacks run in
            omega (arith, more, fit))
      ]
    ]

pub act-requires-clause-caller : goal.act-requires-clause-caller
act-requires-clause-caller g c = record {
  process = c.requires.can_step.process;
  named = c.requires.can_step.named;
  order = record { held = (c.requires.together.ready (λ k. [])).held; settled = c.requires.can_step.settled; tables = c.requires.together.whole };
}

pub act-requires-clause-backed : goal.act-requires-clause-backed
act-requires-clause-backed g c = record { clean = (c.requires.together.ready (λ k. [])).clean; device = (c.requires.together.ready (λ k. [])).device }

-- What the call keeps, and what becomes of the device.

pub returns-in-NoRoom-clause-keeps : goal.returns-in-NoRoom-clause-keeps
returns-in-NoRoom-clause-keeps g c = (let e = c.act.ensures in record { memory = e.limits.size; segments = e.limits.count; blocks = e.goes_on.map; count = refl; processes = e.processes; avail = refl; images = refl })

pub returns-in-NoRoom-clause-adds : goal.returns-in-NoRoom-clause-adds
returns-in-NoRoom-clause-adds g c = (let l = c.in-NoRoom.ensures.limits in let made = l.made in record { made = omega (arith, made); held = l.few })

pub returns-in-SwapFull-clause-keeps : goal.returns-in-SwapFull-clause-keeps
returns-in-SwapFull-clause-keeps g c = (let e = c.act.ensures in record { memory = e.limits.size; segments = e.limits.count; blocks = e.goes_on.map; count = refl; processes = e.processes; avail = refl; images = refl })

pub returns-in-SwapFull-clause-adds : goal.returns-in-SwapFull-clause-adds
returns-in-SwapFull-clause-adds g c = (let l = c.in-SwapFull.ensures.limits in let made = l.made in record { made = omega (arith, made); held = l.few })

pub returns-in-SwapFault-clause-keeps : goal.returns-in-SwapFault-clause-keeps
returns-in-SwapFault-clause-keeps g c = (let e = c.act.ensures in record { memory = e.limits.size; segments = e.limits.count; blocks = e.goes_on.map; count = refl; processes = e.processes; avail = refl; images = refl })

pub returns-in-SwapFault-clause-adds : goal.returns-in-SwapFault-clause-adds
returns-in-SwapFault-clause-adds g c = (let l = c.in-SwapFault.ensures.limits in let made = l.made in record { made = omega (arith, made); held = l.few })

pub returns-in-Done-clause-keeps : goal.returns-in-Done-clause-keeps
returns-in-Done-clause-keeps g c =
    let e = c.act.ensures in
    let given = c.give.ensures in
    let store = given.store.store in
    record {
      memory = ap (λ z. z.places.size) store ∙ e.limits.size;
      segments = ap (λ z. length z.entries) store ∙ e.limits.count;
      blocks = ap (λ z. all_of z.swap) store ∙ e.goes_on.map;
      count = refl;
      processes = given.maps.processes ∙ e.processes;
      avail = refl;
      images = refl;
    }

pub returns-in-Done-clause-adds : goal.returns-in-Done-clause-adds
returns-in-Done-clause-adds g c =
    let l = c.in-Done.ensures.limits in
    let given = c.give.ensures in
    record {
      made = (let made = l.made in let same = ap (λ z. z.made) given.store.store in omega (arith, made, same));
      held = λ k some most. few_as c.act.new.regions c.give.new.regions given.maps.held (k + 1) (l.few k some most);
    }

pub returns-in-NoRoom-clause-device : goal.returns-in-NoRoom-clause-device
returns-in-NoRoom-clause-device g c = device_for g.S.SwapDevice.blocks g.S.SwapDevice.told g.S.SwapDevice.faults c.args.swap.now c.act.new.swap _ _ (λ failed. absurd (cc)) c.in-NoRoom.ensures.device

pub returns-in-SwapFull-clause-device : goal.returns-in-SwapFull-clause-device
returns-in-SwapFull-clause-device g c = device_for g.S.SwapDevice.blocks g.S.SwapDevice.told g.S.SwapDevice.faults c.args.swap.now c.act.new.swap _ _ (λ failed. absurd (cc)) c.in-SwapFull.ensures.device

pub returns-in-SwapFault-clause-device : goal.returns-in-SwapFault-clause-device
returns-in-SwapFault-clause-device g c = device_for g.S.SwapDevice.blocks g.S.SwapDevice.told g.S.SwapDevice.faults c.args.swap.now c.act.new.swap _ _ (λ failed. refl) c.in-SwapFault.ensures.device

pub returns-in-Done-clause-device : goal.returns-in-Done-clause-device
returns-in-Done-clause-device g c = device_for g.S.SwapDevice.blocks g.S.SwapDevice.told g.S.SwapDevice.faults c.args.swap.now c.act.new.swap _ _ (λ failed. absurd (cc)) c.in-Done.ensures.device
