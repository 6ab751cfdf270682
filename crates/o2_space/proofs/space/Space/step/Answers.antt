use Rattle.std.proofs.Common.{ℕ, ◌≤◌, ◌<◌, List, None, ap, sym, ◌∙◌, refl, subst, arith}
use Rattle.o2_isa.specs.View.{bound_registers}
use Rattle.o2_outer.specs.Inputs.{left_as}
use Rattle.o2_segbus.specs.Seen.{hold_in}
use Rattle.o2_world.specs.Calls.{Before}
use Rattle.o2_world.specs.Effect.{effect}
use Rattle.o2_world.specs.Known.{known_of}
use Rattle.o2_world.specs.Holders.{process_at}
use Rattle.o2_world.specs.Run.{before}
use Rattle.o2_stands.specs.Parts.{Parts}
use Rattle.o2_run.specs.Pieces.{Counts, told_counts}
use Rattle.o2_isa.specs.declared.cpu.Cpu.{Cpu}
use Rattle.o2_stepping.specs.Pieces.{StepPart}
use Rattle.o2_stepping.specs.Rooms.{all_names, needed_names, room_in, whole_names}
use Rattle.o2_stepping.specs.Seated.{HasWholeSeats}
use Rattle.o2_space.proofs.Seating.{whole_seats}
use Rattle.o2_stepping.specs.Taken.{OnDone, OnBegun, OnSwapStop, Takes}
use Rattle.o2_stepping.specs.Worlds.{away_of, bytes_with}
use Rattle.o2_stepping.proofs.Worlds.{same_map}
use Rattle.o2_space.specs.Parts.{parts_in, running_at}
use Rattle.o2_shared.proofs.Staying.{stay_in_place}
use Rattle.o2_space.proofs.Whole.{whole_same}
use Rattle.o2_space.proofs.SharedKept.{shape_grows, shape_shares}
use Rattle.o2_space.proofs.Alike.{ready_as}
use Rattle.o2_space.proofs.Behind.{steps_by}
use Rattle.o2_space.proofs.Nexting.{says_room}
use Rattle.o2_space.proofs.Rooms.{on_stop, room_by, room_in_part_by}
use Rattle.o2_space.proofs.Sights.{before_is}
use Rattle.o2_stepping.proofs.NextRooms.{live_least}
use Rattle.o2_space.proofs.space.Space.step.Goals as goal

pub step_in_store-result-requires-clause-ready : goal.step_in_store-result-requires-clause-ready
step_in_store-result-requires-clause-ready g c =
    let S = g.S.SwapDevice in
    let m = c.args.self.now in
    ready_as m.store m.regions m.images (S.blocks c.args.swap.now) (S.block c.args.swap.now) (S.block c.args.swap.now) (running_at m.procs.items) (λ k. None)
    (c.requires.together.ready (S.block c.args.swap.now))

pub returns-clause-steps : goal.returns-clause-steps
returns-clause-steps g c = λ text may s w x tells begins same.
    let S = g.S.SwapDevice in
    let m = c.args.self.now in
    let new = c.step_in_store-result.new in
    let e = c.step_in_store-result.ensures in
    let p : Parts = parts_in m (S.blocks c.args.swap.now) (S.block c.args.swap.now) in
    let b : Before = before s w c.args.pid x in
    let old_bytes : ℕ → List ℕ = bytes_with (away_of m.store m.regions m.images (S.blocks c.args.swap.now) (S.block c.args.swap.now)) m.store in
    let new_bytes : ℕ → List ℕ = bytes_with (away_of new.store new.regions m.images (S.blocks new.swap) (S.block new.swap)) new.store in
    let ready = ready_as new.store new.regions m.images (S.blocks new.swap) (S.block new.swap) (S.block new.swap) (λ k. None) (running_at m.procs.items) e.ready in
    steps_by p new.store new.regions (S.blocks new.swap) (S.block new.swap) e.shape c.lawful.ensures c.lawful-2.ensures.inside ready w begins.here.stands b new.cpu _ _ _ _ _ _ c.step_in_store-result.result
    (subst (λ (z : Before). Takes z (effect z) new.cpu old_bytes new_bytes (left_as text (g.I.Source.left c.args.input.now) (g.I.Source.past c.args.input.now)) (left_as text (g.I.Source.left new.input) (g.I.Source.past new.input))
    (g.C.Sink.taken c.args.console.now) (g.C.Sink.taken new.console) (g.R.Sink.taken c.args.report.now) (g.R.Sink.taken new.report) c.step_in_store-result.result)
    (before_is p w c.lawful.ensures begins.here.stands s c.args.pid x c.args.cpu.now begins.here.process same) (e.takes_as text may w.input (known_of s w) tells begins.input begins.known))

pub returns-clause-still : goal.returns-clause-still
returns-clause-still g c = on_stop _ _ c.step_in_store-result.result (λ p. (p.1, p.2, p.3)) c.step_in_store-result.ensures.still

pub returns-clause-room : goal.returns-clause-room
returns-clause-room g c = λ text may s w x tells begins same.
    let S = g.S.SwapDevice in
    let m = c.args.self.now in
    let pid = c.args.pid in
    let new = c.step_in_store-result.new in
    let e = c.step_in_store-result.ensures in
    let result = c.step_in_store-result.result in
    let p : Parts = parts_in m (S.blocks c.args.swap.now) (S.block c.args.swap.now) in
    let b : Before = before s w pid x in
    let old_bytes : ℕ → List ℕ = bytes_with (away_of m.store m.regions m.images (S.blocks c.args.swap.now) (S.block c.args.swap.now)) m.store in
    let new_bytes : ℕ → List ℕ = bytes_with (away_of new.store new.regions m.images (S.blocks new.swap) (S.block new.swap)) new.store in
    let is = before_is p w c.lawful.ensures begins.here.stands s pid x c.args.cpu.now begins.here.process same in
    room_by m.store b (effect b) (hold_in new.regions pid) (hold_in m.regions pid) new.cpu old_bytes new_bytes _ _ _ _ _ _ result (same_map m.regions new.regions pid e.shape.holds)
    (subst (λ (z : Before). Takes z (effect z) new.cpu old_bytes new_bytes (left_as text (g.I.Source.left c.args.input.now) (g.I.Source.past c.args.input.now)) (left_as text (g.I.Source.left new.input) (g.I.Source.past new.input))
    (g.C.Sink.taken c.args.console.now) (g.C.Sink.taken new.console) (g.R.Sink.taken c.args.report.now) (g.R.Sink.taken new.report) result) is (e.takes_as text may w.input (known_of s w) tells begins.input begins.known))
    (subst (λ (z : Before). OnDone result (room_in m.store (all_names z (bound_registers (hold_in new.regions pid) new.cpu)) ≤ m.store.places.size)) is (e.room w.input (known_of s w) tells))

pub returns-clause-no_room : goal.returns-clause-no_room
returns-clause-no_room g c = λ s w x tells here same alive sound.
    let S = g.S.SwapDevice in
    let m = c.args.self.now in
    let p : Parts = parts_in m (S.blocks c.args.swap.now) (S.block c.args.swap.now) in
    let whole = subst (λ (r : Cpu). HasWholeSeats m.store m.regions c.args.pid r) (sym same) (whole_seats p w x c.args.pid here.stands here.process alive sound) in
    subst (λ (z : Before). OnSwapStop c.step_in_store-result.result (m.store.places.size < room_in m.store (whole_names m.store (needed_names z))) (Unit {0}) (Unit {0}))
    (before_is p w c.lawful.ensures here.stands s c.args.pid x c.args.cpu.now here.process same) (c.step_in_store-result.ensures.no_room whole w.input (known_of s w) tells)

pub returns-clause-together : goal.returns-clause-together
returns-clause-together g c =
    let S = g.S.SwapDevice in
    let m = c.args.self.now in
    let new = c.step_in_store-result.new in
    let e = c.step_in_store-result.ensures in
    record {
      ready = λ block. ready_as new.store new.regions m.images (S.blocks new.swap) (S.block new.swap) block (λ k. None) (running_at m.procs.items) e.ready;
      numbers = (let a = c.requires.together.numbers in let b = e.shape.holds.processes in omega (arith, a, b));
      marked = c.requires.together.marked;
      whole = whole_same m.regions new.regions e.shape.holds.processes e.shape.holds.lengths c.requires.together.whole;
      one = (shape_shares m.store new.store m.regions new.regions e.shape).one c.requires.together.one;
      places = stay_in_place m.store new.store m.regions new.regions m.names c.requires.together.places (shape_shares m.store new.store m.regions new.regions e.shape) (shape_grows m.store new.store m.regions new.regions e.shape);
    }

pub returns-clause-most : goal.returns-clause-most
returns-clause-most g c = c.lawful-2.ensures.maps.most

pub returns-clause-room_in_part : goal.returns-clause-room_in_part
returns-clause-room_in_part g c = λ text may s w x tells begins same.
    let S = g.S.SwapDevice in
    let m = c.args.self.now in
    let pid = c.args.pid in
    let new = c.step_in_store-result.new in
    let e = c.step_in_store-result.ensures in
    let result = c.step_in_store-result.result in
    let p : Parts = parts_in m (S.blocks c.args.swap.now) (S.block c.args.swap.now) in
    let b : Before = before s w pid x in
    let old_bytes : ℕ → List ℕ = bytes_with (away_of m.store m.regions m.images (S.blocks c.args.swap.now) (S.block c.args.swap.now)) m.store in
    let new_bytes : ℕ → List ℕ = bytes_with (away_of new.store new.regions m.images (S.blocks new.swap) (S.block new.swap)) new.store in
    let is = before_is p w c.lawful.ensures begins.here.stands s pid x c.args.cpu.now begins.here.process same in
    room_in_part_by m.store b (effect b) (hold_in new.regions pid) (hold_in m.regions pid) new.cpu old_bytes new_bytes _ _ _ _ _ _ result (same_map m.regions new.regions pid e.shape.holds)
    (subst (λ (z : Before). Takes z (effect z) new.cpu old_bytes new_bytes (left_as text (g.I.Source.left c.args.input.now) (g.I.Source.past c.args.input.now)) (left_as text (g.I.Source.left new.input) (g.I.Source.past new.input))
    (g.C.Sink.taken c.args.console.now) (g.C.Sink.taken new.console) (g.R.Sink.taken c.args.report.now) (g.R.Sink.taken new.report) result) is (e.takes_as text may w.input (known_of s w) tells begins.input begins.known))
    (subst (λ (z : Before). OnBegun result (room_in m.store (all_names z (bound_registers (hold_in new.regions pid) new.cpu)) ≤ m.store.places.size)) is (e.room_in_part w.input (known_of s w) tells))

pub returns-clause-part : goal.returns-clause-part
returns-clause-part g c = λ text may s w x tells begins same.
    let S = g.S.SwapDevice in
    let C = g.C.Sink in
    let R = g.R.Sink in
    let new = c.step_in_store-result.new in
    let p : Parts = parts_in c.args.self.now (S.blocks c.args.swap.now) (S.block c.args.swap.now) in
    let n : Counts = told_counts (C.puts c.args.console.now) (C.puts new.console) (R.puts c.args.report.now) (R.puts new.report) 0 (R.taken c.args.report.now) (R.taken new.report) in
    subst (λ (z : Before). StepPart (effect z) n c.step_in_store-result.result)
    (before_is p w c.lawful.ensures begins.here.stands s c.args.pid x c.args.cpu.now begins.here.process same) (c.step_in_store-result.ensures.part text may w.input (known_of s w) tells begins.input begins.known)

pub returns-clause-next_room : goal.returns-clause-next_room
returns-clause-next_room g c = λ text may s w x tells begins same set alive sound wordless chosen.
    let S = g.S.SwapDevice in
    let m = c.args.self.now in
    let pid = c.args.pid in
    let new = c.step_in_store-result.new in
    let e = c.step_in_store-result.ensures in
    let result = c.step_in_store-result.result in
    let p : Parts = parts_in m (S.blocks c.args.swap.now) (S.block c.args.swap.now) in
    let old_bytes : ℕ → List ℕ = bytes_with (away_of m.store m.regions m.images (S.blocks c.args.swap.now) (S.block c.args.swap.now)) m.store in
    let new_bytes : ℕ → List ℕ = bytes_with (away_of new.store new.regions m.images (S.blocks new.swap) (S.block new.swap)) new.store in
    let is = before_is p w c.lawful.ensures begins.here.stands s pid x c.args.cpu.now begins.here.process same in
    says_room p s w x (record { lawful = c.lawful.ensures; set = set; stands = begins.here.stands; chosen = ap (process_at w.processes) chosen ∙ begins.here.process; wordless = wordless }) new.cpu old_bytes new_bytes _ _ _ _ _ _ result pid (sym chosen)
    (subst (λ (z : Before). Takes z (effect z) new.cpu old_bytes new_bytes (left_as text (g.I.Source.left c.args.input.now) (g.I.Source.past c.args.input.now)) (left_as text (g.I.Source.left new.input) (g.I.Source.past new.input))
    (g.C.Sink.taken c.args.console.now) (g.C.Sink.taken new.console) (g.R.Sink.taken c.args.report.now) (g.R.Sink.taken new.report) result) is (e.takes_as text may w.input (known_of s w) tells begins.input begins.known))
    (returns-clause-room g c text may s w x tells begins same) (returns-clause-room_in_part g c text may s w x tells begins same)
    (returns-clause-no_room g c s w x tells begins.here same alive sound) e.loads

pub returns-clause-idle : goal.returns-clause-idle
returns-clause-idle g c = λ s w stands set wordless fit none.
    let S = g.S.SwapDevice in
    let least = live_least (parts_in c.args.self.now (S.blocks c.args.swap.now) (S.block c.args.swap.now)) s w c.lawful.ensures set stands wordless in
    let memory = set.memory in
    c.step_in_store-result.ensures.idle none (omega (arith, least, memory, fit))

pub returns-clause-keeps : goal.returns-clause-keeps
returns-clause-keeps g c =
    let e = c.step_in_store-result.ensures in
    record { memory = e.shape.tables.size; segments = e.shape.tables.count; blocks = e.shape.swap; count = refl; processes = e.shape.holds.processes; avail = e.avail; images = refl }
