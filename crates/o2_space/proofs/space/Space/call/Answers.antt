use Rattle.std.proofs.Common.{◌≡◌, ◌==◌, List, [], Some, None, Bool, false, if◌then◌else◌, length, ap, sym, ◌∙◌, arith, refl, subst}
use Rattle.o2_regions.specs.Lives.{lives}
use Rattle.o2_world.specs.declared.types.State.TheVariants.{Trapped}
use Rattle.o2_shared.specs.Texts.{IsBehind}
use Rattle.o2_store.specs.Shelf.{Shelf}
use Rattle.o2_world.specs.Effect.{effect}
use Rattle.o2_world.specs.Run.{before, changed}
use Rattle.o2_calls.specs.SharedActs.{AreSpelled}
use Rattle.o2_run.specs.Pieces.{told_counts}
use Rattle.o2_world.specs.World.{is_live}
use Rattle.o2_stands.specs.Parts.{Parts}
use Rattle.o2_stands.specs.Stands.{StandsIn}
use Rattle.o2_space.specs.Parts.{parts_in}
use Rattle.o2_space.proofs.Commits.{lived}
use Rattle.o2_space.proofs.Askings.{as_failed, no_step, none_put, not_caused, not_begun, part_late, part_none, stops_stay, told_puts}
use Rattle.o2_space.proofs.Framing.{adds_retold, keeps_behind, keeps_retold, none_added}
use Rattle.o2_store.proofs.Framing.{device_for}
use Rattle.o2_space.proofs.Alike.{retold}
use Rattle.o2_space.proofs.Replied.{acts_live, acts_trapped, dead_state_is, late_live, late_trapped, none_live, none_trapped, orderly_call, spells_live, spells_trapped, then_trapped}
use Rattle.o2_space.proofs.SpelledCalls.{called_spelled, trapped_spelled}
use Rattle.o2_space.proofs.Spelling.{spelled_by, spelled_still}
use Rattle.o2_space.proofs.space.Space.call.Goals as goal

-- A call that stops.

pub returns-in-Err-clause-acts : goal.returns-in-Err-clause-acts
returns-in-Err-clause-acts g c = λ s w x i k tells here turn same input eff.
    let S = g.S.SwapDevice in
    stops_stay (before s w c.args.pid x) w x (parts_in c.make_call.new.self (S.blocks c.make_call.new.swap) (S.block c.make_call.new.swap)) i k _ c.in-Err.fault c.in-Err.ensures.stops
    (c.in-Err.ensures.makes s w x tells here turn.agrees turn.sound.tied same)

pub returns-in-Err-clause-next_room : goal.returns-in-Err-clause-next_room
returns-in-Err-clause-next_room g c = λ s w x tells here turn same call room.
    let m = c.args.self.now in
    let alive = lived m.procs.items c.args.pid w.processes x c.requires.can_step.process.0 c.requires.there (here.stands.processes c.args.pid) here.process m.ends c.requires.together.marked c.requires.live in
    c.in-Err.ensures.room s w x tells here turn alive same call room

pub returns-in-Err-clause-still : goal.returns-in-Err-clause-still
returns-in-Err-clause-still g c = no_step _ c.in-Err.fault refl

pub returns-in-Err-clause-not_begun : goal.returns-in-Err-clause-not_begun
returns-in-Err-clause-not_begun g c = not_begun c.in-Err.fault c.in-Err.ensures.stops

pub returns-in-Err-clause-marks : goal.returns-in-Err-clause-marks
returns-in-Err-clause-marks g c = λ n. ap (λ (ends : List Bool). lives ends n) c.make_call.ensures.ends

pub returns-in-Err-clause-cause : goal.returns-in-Err-clause-cause
returns-in-Err-clause-cause g c = not_caused _ c.in-Err.fault c.in-Err.ensures.stops

pub returns-in-Err-clause-puts : goal.returns-in-Err-clause-puts
returns-in-Err-clause-puts g c = λ k. none_put k _ c.in-Err.fault c.in-Err.ensures.stops

-- What the commits ask for.

pub commit-requires-clause-there : goal.commit-requires-clause-there
commit-requires-clause-there g c = (let a = c.requires.there in let b = ap (λ v. length v.items) c.make_call.ensures.procs in omega (arith, a, b))

pub commit-requires-clause-process : goal.commit-requires-clause-process
commit-requires-clause-process g c = (let p = c.requires.can_step.process in (p.0, (let a = p.1 in let b = c.make_call.ensures.keeps.processes in omega (arith, a, b))))

pub reply-ran-requires-clause-inside : goal.reply-ran-requires-clause-inside
reply-ran-requires-clause-inside g c = c.in-Ok.ensures.inside

pub commit-requires-clause-held : goal.commit-requires-clause-held
commit-requires-clause-held g c = (c.make_call.ensures.together.ready (λ k. [])).held

pub commit-requires-clause-settled : goal.commit-requires-clause-settled
commit-requires-clause-settled g c = (c.make_call.ensures.together.ready (λ k. [])).settled

pub commit-requires-then-not-is_live-clause-there : goal.commit-requires-then-not-is_live-clause-there
commit-requires-then-not-is_live-clause-there g c =
    (let a = c.requires.there in let b = ap (λ v. length v.items) c.make_call.ensures.procs in let d = c.commit.ensures.keeps.count in omega (arith, a, b, d))

pub commit-requires-then-not-is_live-clause-process : goal.commit-requires-then-not-is_live-clause-process
commit-requires-then-not-is_live-clause-process g c =
    (let p = c.requires.can_step.process in (p.0, (let a = p.1 in let b = c.make_call.ensures.keeps.processes in let d = c.commit.ensures.keeps.processes in omega (arith, a, b, d))))

pub commit-requires-then-not-is_live-clause-held : goal.commit-requires-then-not-is_live-clause-held
commit-requires-then-not-is_live-clause-held g c =
    ((c.commit.ensures.together (g.S.SwapDevice.blocks c.make_call.new.swap) (ap (λ (ends : List Bool). lives ends c.args.pid) c.make_call.ensures.ends ∙ c.requires.live) (retold c.make_call.ensures.together)).ready (λ k. [])).held

pub commit-requires-then-not-is_live-clause-settled : goal.commit-requires-then-not-is_live-clause-settled
commit-requires-then-not-is_live-clause-settled g c =
    ((c.commit.ensures.together (g.S.SwapDevice.blocks c.make_call.new.swap) (ap (λ (ends : List Bool). lives ends c.args.pid) c.make_call.ensures.ends ∙ c.requires.live) (retold c.make_call.ensures.together)).ready (λ k. [])).settled

-- A call that its process outlives.

pub returns-else-not-is_live-clause-acts : goal.returns-else-not-is_live-clause-acts
returns-else-not-is_live-clause-acts g c = λ s w x i k tells here turn same input eff.
    let S = g.S.SwapDevice in
    let m = c.args.self.now in
    let p : Parts = parts_in m (S.blocks c.args.swap.now) (S.block c.args.swap.now) in
    let made = c.make_call.new in
    let q : Parts = parts_in made.self (S.blocks made.swap) (S.block made.swap) in
    let told = c.reply-ran.ensures in
    acts_live s w x c.args.pid c.args.arguments c.args.next made.cpu q c.in-Ok.answer (c.in-Ok.ensures.makes s w x tells here turn.agrees turn.sound.tied same)
    made.self.services.moves (c.in-Ok.ensures.moves s w x tells here turn.agrees turn.sound.tied same) c.args.registers same eff _ _ i k c.reply-ran.result (record { state = told.state; bytes = told.bytes; lines = told.lines; report = told.report }) input
    (sym c.if-not-is_live.ensures) (parts_in c.commit.new.self (S.blocks made.swap) (S.block made.swap)) (c.commit.ensures.put refl (S.blocks made.swap) (S.block made.swap))

pub returns-else-not-is_live-clause-next_room : goal.returns-else-not-is_live-clause-next_room
returns-else-not-is_live-clause-next_room g c = λ s w x tells here turn same call room.
    let m = c.args.self.now in
    let alive = lived m.procs.items c.args.pid w.processes x c.requires.can_step.process.0 c.requires.there (here.stands.processes c.args.pid) here.process m.ends c.requires.together.marked c.requires.live in
    c.in-Ok.ensures.room s w x tells here turn alive same call room

pub returns-else-not-is_live-clause-together : goal.returns-else-not-is_live-clause-together
returns-else-not-is_live-clause-together g c =
    c.commit.ensures.together (g.S.SwapDevice.blocks c.make_call.new.swap) (ap (λ (ends : List Bool). lives ends c.args.pid) c.make_call.ensures.ends ∙ c.requires.live) (retold c.make_call.ensures.together)

pub returns-else-not-is_live-clause-marks : goal.returns-else-not-is_live-clause-marks
returns-else-not-is_live-clause-marks g c = λ n.
    let pid = c.args.pid in
    subst (λ (b : Bool). lives c.commit.new.self.ends n ≡ (if b then lives c.args.self.now.ends n else (if n == pid then false else lives c.args.self.now.ends n))) c.if-not-is_live.ensures
    (c.commit.ensures.marks n ∙ ap (λ (ends : List Bool). lives ends n) c.make_call.ensures.ends)

pub returns-else-not-is_live-clause-puts : goal.returns-else-not-is_live-clause-puts
returns-else-not-is_live-clause-puts g c = λ k. told_puts k _ _ c.reply-ran.result c.reply-ran.ensures.bytes (c.reply-ran.ensures.puts k)

-- A call behind which exception 1 ends its process.

pub returns-then-not-is_live-clause-acts : goal.returns-then-not-is_live-clause-acts
returns-then-not-is_live-clause-acts g c = λ s w x i k tells here turn same input eff.
    let S = g.S.SwapDevice in
    let m = c.args.self.now in
    let pid = c.args.pid in
    let p : Parts = parts_in m (S.blocks c.args.swap.now) (S.block c.args.swap.now) in
    let made = c.make_call.new in
    let q : Parts = parts_in made.self (S.blocks made.swap) (S.block made.swap) in
    let z : Parts = parts_in c.commit-then-not-is_live.new.self (S.blocks made.swap) (S.block made.swap) in
    let told = c.reply-ran.ensures in
    let called = c.in-Ok.ensures.makes s w x tells here turn.agrees turn.sound.tied same in
    let alive = lived m.procs.items pid w.processes x c.requires.can_step.process.0 c.requires.there (here.stands.processes pid) here.process m.ends c.requires.together.marked c.requires.live in
    let dead : is_live c.reply-ran.result.state ≡ false = sym c.if-not-is_live.ensures in
    let put = c.commit.ensures.put refl (S.blocks made.swap) (S.block made.swap) in
    acts_trapped s w x pid c.args.arguments c.args.next made.cpu q c.in-Ok.answer called made.self.services.moves (c.in-Ok.ensures.moves s w x tells here turn.agrees turn.sound.tied same) c.args.registers same eff _ _ i k c.reply-ran.result
    (record { state = told.state; bytes = told.bytes; lines = told.lines; report = told.report }) input dead z
    (then_trapped s w x c.args.arguments c.args.next made.cpu q c.in-Ok.answer z alive turn.sound here.stands.tidy pid turn.turn called here.process (orderly_call (before s w pid x) c.args.arguments c.args.next eff)
    (λ v y standing found live.
    c.commit-then-not-is_live.ensures.stands (S.blocks made.swap) (S.block made.swap) v.processes v.names v.next_name v.reserved y (record { cpu = made.cpu; state = Trapped 1 })
    (subst (λ (o : Parts). StandsIn o v.processes v.names v.next_name v.reserved) (sym put) standing) found live refl (sym (dead_state_is c.args.registers c.reply-ran.result.state told.state dead))))

pub returns-then-not-is_live-clause-next_room : goal.returns-then-not-is_live-clause-next_room
returns-then-not-is_live-clause-next_room g c = λ s w x tells here turn same call room.
    let m = c.args.self.now in
    let alive = lived m.procs.items c.args.pid w.processes x c.requires.can_step.process.0 c.requires.there (here.stands.processes c.args.pid) here.process m.ends c.requires.together.marked c.requires.live in
    c.in-Ok.ensures.room s w x tells here turn alive same call room

pub returns-then-not-is_live-clause-together : goal.returns-then-not-is_live-clause-together
returns-then-not-is_live-clause-together g c =
    let blocks = g.S.SwapDevice.blocks c.make_call.new.swap in
    let live = ap (λ (ends : List Bool). lives ends c.args.pid) c.make_call.ensures.ends ∙ c.requires.live in
    c.commit-then-not-is_live.ensures.together blocks (c.commit.ensures.marks c.args.pid ∙ live) (c.commit.ensures.together blocks live (retold c.make_call.ensures.together))

pub returns-then-not-is_live-clause-marks : goal.returns-then-not-is_live-clause-marks
returns-then-not-is_live-clause-marks g c = λ n.
    let pid = c.args.pid in
    let state = c.reply-ran.result.state in
    let was = c.commit.ensures.marks n ∙ ap (λ (ends : List Bool). lives ends n) c.make_call.ensures.ends in
    c.commit-then-not-is_live.ensures.marks n ∙ ap (λ (z : Bool). if is_live state then z else (if n == pid then false else z)) was

pub returns-then-not-is_live-clause-puts : goal.returns-then-not-is_live-clause-puts
returns-then-not-is_live-clause-puts g c = λ k. told_puts k _ _ c.reply-ran.result c.reply-ran.ensures.bytes (c.reply-ran.ensures.puts k)

-- The names that are kept.

pub returns-in-Err-clause-spells : goal.returns-in-Err-clause-spells
returns-in-Err-clause-spells g c = λ s w x tells here turn same eff.
    let S = g.S.SwapDevice in
    let m = c.args.self.now in
    let made = c.make_call.new in
    let p : Parts = parts_in made.self (S.blocks made.swap) (S.block made.swap) in
    spelled_by made.self.store m.names made.self.names w (c.in-Err.ensures.spells s w x here.stands turn.agrees same)
    (spelled_still m.store m.regions m.names p w (c.requires.together.ready (λ k. [])).aged c.requires.together.places c.make_call.ensures.behind turn.agrees.spelled
    (c.in-Err.ensures.makes s w x tells here turn.agrees turn.sound.tied same) turn.sound)

pub returns-else-not-is_live-clause-spells : goal.returns-else-not-is_live-clause-spells
returns-else-not-is_live-clause-spells g c = λ s w x tells here turn same eff.
    let S = g.S.SwapDevice in
    let m = c.args.self.now in
    let pid = c.args.pid in
    let a = c.args.arguments in
    let next = c.args.next in
    let p : Parts = parts_in m (S.blocks c.args.swap.now) (S.block c.args.swap.now) in
    let made = c.make_call.new in
    let q : Parts = parts_in made.self (S.blocks made.swap) (S.block made.swap) in
    let told = c.reply-ran.ensures in
    let called = c.in-Ok.ensures.makes s w x tells here turn.agrees turn.sound.tied same in
    let alive = lived m.procs.items pid w.processes x c.requires.can_step.process.0 c.requires.there (here.stands.processes pid) here.process m.ends c.requires.together.marked c.requires.live in
    let behind =
    called_spelled s w x alive turn.sound here.stands.tidy a next m.store m.regions made.cpu q c.in-Ok.answer m.names made.self.names (c.requires.together.ready (λ k. [])).aged c.requires.together.places
    c.make_call.ensures.behind turn.agrees.spelled pid turn.turn here.process (orderly_call (before s w pid x) a next eff) called (c.in-Ok.ensures.spells s w x here.stands turn.agrees same) in
    let store = ap (λ (z : Parts). z.shelf) (c.commit.ensures.put refl (S.blocks made.swap) (S.block made.swap)) in
    λ d current.
    spelled_by c.commit.new.self.store made.self.names c.commit.new.self.names (changed w d x (effect (before s w pid x))) c.commit.ensures.names
    (subst (λ (z : Shelf). AreSpelled z made.self.names (changed w d x (effect (before s w pid x)))) (sym store)
    (spells_live s w x pid a next made.cpu q c.in-Ok.answer called made.self.services.moves (c.in-Ok.ensures.moves s w x tells here turn.agrees turn.sound.tied same) c.args.registers same eff _ _ (Some w.input) None c.reply-ran.result
    (record { state = told.state; bytes = told.bytes; lines = told.lines; report = told.report }) refl (sym c.if-not-is_live.ensures) made.self.store made.self.names behind d current))

pub returns-then-not-is_live-clause-spells : goal.returns-then-not-is_live-clause-spells
returns-then-not-is_live-clause-spells g c = λ s w x tells here turn same eff.
    let S = g.S.SwapDevice in
    let m = c.args.self.now in
    let pid = c.args.pid in
    let a = c.args.arguments in
    let next = c.args.next in
    let p : Parts = parts_in m (S.blocks c.args.swap.now) (S.block c.args.swap.now) in
    let made = c.make_call.new in
    let q : Parts = parts_in made.self (S.blocks made.swap) (S.block made.swap) in
    let last = c.commit-then-not-is_live.new.self in
    let z : Parts = parts_in last (S.blocks made.swap) (S.block made.swap) in
    let told = c.reply-ran.ensures in
    let called = c.in-Ok.ensures.makes s w x tells here turn.agrees turn.sound.tied same in
    let alive = lived m.procs.items pid w.processes x c.requires.can_step.process.0 c.requires.there (here.stands.processes pid) here.process m.ends c.requires.together.marked c.requires.live in
    let orderly = orderly_call (before s w pid x) a next eff in
    let behind =
    called_spelled s w x alive turn.sound here.stands.tidy a next m.store m.regions made.cpu q c.in-Ok.answer m.names made.self.names (c.requires.together.ready (λ k. [])).aged c.requires.together.places
    c.make_call.ensures.behind turn.agrees.spelled pid turn.turn here.process orderly called (c.in-Ok.ensures.spells s w x here.stands turn.agrees same) in
    let store = ap (λ (y : Parts). y.shelf) (c.commit.ensures.put refl (S.blocks made.swap) (S.block made.swap)) in
    let gone = subst (λ (y : Shelf). IsBehind y last.store) store c.commit-then-not-is_live.ensures.behind in
    let acts = returns-then-not-is_live-clause-acts g c s w x (Some w.input) None tells here turn same refl eff in
    λ d current.
    spelled_by last.store made.self.names last.names (changed w d x (effect (before s w pid x))) (c.commit-then-not-is_live.ensures.names ∙ c.commit.ensures.names)
    (spells_trapped s w x pid a next made.cpu q c.in-Ok.answer called made.self.services.moves (c.in-Ok.ensures.moves s w x tells here turn.agrees turn.sound.tied same) c.args.registers same eff _ _ (Some w.input) None c.reply-ran.result
    (record { state = told.state; bytes = told.bytes; lines = told.lines; report = told.report }) refl (sym c.if-not-is_live.ensures) z made.self.names
    (λ matches. trapped_spelled s w x alive turn.sound here.stands.tidy a next made.self.store made.self.regions made.self.names z (c.make_call.ensures.together.ready (λ k. [])).aged c.make_call.ensures.together.places gone
    pid turn.turn here.process orderly behind matches) acts.matches d current)

-- The device.

pub returns-in-Err-clause-idle : goal.returns-in-Err-clause-idle
returns-in-Err-clause-idle g c = λ s w x here turn same call fit none.
    let m = c.args.self.now in
    let alive = lived m.procs.items c.args.pid w.processes x c.requires.can_step.process.0 c.requires.there (here.stands.processes c.args.pid) here.process m.ends c.requires.together.marked c.requires.live in
    c.make_call.ensures.idle s w x here turn alive same call fit none

pub returns-else-not-is_live-clause-idle : goal.returns-else-not-is_live-clause-idle
returns-else-not-is_live-clause-idle g c = λ s w x here turn same call fit none.
    let m = c.args.self.now in
    let alive = lived m.procs.items c.args.pid w.processes x c.requires.can_step.process.0 c.requires.there (here.stands.processes c.args.pid) here.process m.ends c.requires.together.marked c.requires.live in
    let i = c.make_call.ensures.idle s w x here turn alive same call fit none in
    record { device = i.device; none = c.commit.ensures.unused i.none }

pub returns-then-not-is_live-clause-idle : goal.returns-then-not-is_live-clause-idle
returns-then-not-is_live-clause-idle g c = λ s w x here turn same call fit none.
    let m = c.args.self.now in
    let alive = lived m.procs.items c.args.pid w.processes x c.requires.can_step.process.0 c.requires.there (here.stands.processes c.args.pid) here.process m.ends c.requires.together.marked c.requires.live in
    let i = c.make_call.ensures.idle s w x here turn alive same call fit none in
    record { device = i.device; none = c.commit-then-not-is_live.ensures.unused (c.commit.ensures.unused i.none) }

pub returns-else-not-is_live-clause-device : goal.returns-else-not-is_live-clause-device
returns-else-not-is_live-clause-device g c = device_for g.S.SwapDevice.blocks g.S.SwapDevice.told g.S.SwapDevice.faults c.args.swap.now c.make_call.new.swap _ _ (λ failed. absurd (cc)) c.in-Ok.ensures.device

pub returns-then-not-is_live-clause-device : goal.returns-then-not-is_live-clause-device
returns-then-not-is_live-clause-device g c = device_for g.S.SwapDevice.blocks g.S.SwapDevice.told g.S.SwapDevice.faults c.args.swap.now c.make_call.new.swap _ _ (λ failed. absurd (cc)) c.in-Ok.ensures.device

pub returns-in-Err-clause-device : goal.returns-in-Err-clause-device
returns-in-Err-clause-device g c = device_for g.S.SwapDevice.blocks g.S.SwapDevice.told g.S.SwapDevice.faults c.args.swap.now c.make_call.new.swap _ _ (λ failed. as_failed c.in-Err.fault _ failed) c.in-Err.ensures.device

-- What is kept, and what is made.

pub returns-else-not-is_live-clause-keeps : goal.returns-else-not-is_live-clause-keeps
returns-else-not-is_live-clause-keeps g c = keeps_behind c.args.self.now _ c.commit.new.self c.commit.ensures.keeps (keeps_retold refl c.make_call.ensures.keeps)

pub returns-then-not-is_live-clause-keeps : goal.returns-then-not-is_live-clause-keeps
returns-then-not-is_live-clause-keeps g c =
    keeps_behind c.args.self.now c.commit.new.self c.commit-then-not-is_live.new.self c.commit-then-not-is_live.ensures.keeps
    (keeps_behind c.args.self.now _ c.commit.new.self c.commit.ensures.keeps (keeps_retold refl c.make_call.ensures.keeps))

pub returns-else-not-is_live-clause-adds : goal.returns-else-not-is_live-clause-adds
returns-else-not-is_live-clause-adds g c = none_added c.args.self.now _ c.commit.new.self 4096 1 c.commit.ensures.adds (adds_retold c.in-Ok.ensures.adds)

pub returns-then-not-is_live-clause-adds : goal.returns-then-not-is_live-clause-adds
returns-then-not-is_live-clause-adds g c =
    none_added c.args.self.now c.commit.new.self c.commit-then-not-is_live.new.self 4096 1 c.commit-then-not-is_live.ensures.adds
    (none_added c.args.self.now _ c.commit.new.self 4096 1 c.commit.ensures.adds (adds_retold c.in-Ok.ensures.adds))

-- Which line failed.

pub returns-in-Err-clause-part : goal.returns-in-Err-clause-part
returns-in-Err-clause-part g c = λ s w x k tells here turn same eff.
    let puts = g.R.Sink.puts c.args.report.now in
    let taken = g.R.Sink.taken c.args.report.now in
    part_none (effect (before s w c.args.pid x)) (told_counts k k puts puts 0 taken taken) c.in-Err.fault c.in-Err.ensures.stops

pub returns-else-not-is_live-clause-part : goal.returns-else-not-is_live-clause-part
returns-else-not-is_live-clause-part g c = λ s w x k tells here turn same eff.
    let made = c.make_call.new in
    let S = g.S.SwapDevice in
    let q : Parts = parts_in made.self (S.blocks made.swap) (S.block made.swap) in
    let told = c.reply-ran.ensures in
    let called = c.in-Ok.ensures.makes s w x tells here turn.agrees turn.sound.tied same in
    let moves = c.in-Ok.ensures.moves s w x tells here turn.agrees turn.sound.tied same in
    part_late (effect (before s w c.args.pid x)) k _ _ _ _ c.reply-ran.result
    (none_live s w x c.args.pid c.args.arguments c.args.next made.cpu q c.in-Ok.answer called made.self.services.moves moves c.args.registers same eff _ _ (Some w.input) None c.reply-ran.result
    (record { state = told.state; bytes = told.bytes; lines = told.lines; report = told.report }) refl (sym c.if-not-is_live.ensures))
    (λ e. late_live s w x c.args.pid c.args.arguments c.args.next made.cpu q c.in-Ok.answer called made.self.services.moves moves c.args.registers same eff _ _ (Some w.input) None c.reply-ran.result
    (record { state = told.state; bytes = told.bytes; lines = told.lines; report = told.report }) refl (sym c.if-not-is_live.ensures)
    (g.R.Sink.puts c.args.report.now) (g.R.Sink.puts c.reply-ran.new.report) (told.line e))

pub returns-then-not-is_live-clause-part : goal.returns-then-not-is_live-clause-part
returns-then-not-is_live-clause-part g c = λ s w x k tells here turn same eff.
    let made = c.make_call.new in
    let S = g.S.SwapDevice in
    let q : Parts = parts_in made.self (S.blocks made.swap) (S.block made.swap) in
    let told = c.reply-ran.ensures in
    let called = c.in-Ok.ensures.makes s w x tells here turn.agrees turn.sound.tied same in
    let moves = c.in-Ok.ensures.moves s w x tells here turn.agrees turn.sound.tied same in
    part_late (effect (before s w c.args.pid x)) k _ _ _ _ c.reply-ran.result
    (none_trapped s w x c.args.pid c.args.arguments c.args.next made.cpu q c.in-Ok.answer called made.self.services.moves moves c.args.registers same eff _ _ (Some w.input) None c.reply-ran.result
    (record { state = told.state; bytes = told.bytes; lines = told.lines; report = told.report }) refl (sym c.if-not-is_live.ensures))
    (λ e. late_trapped s w x c.args.pid c.args.arguments c.args.next made.cpu q c.in-Ok.answer called made.self.services.moves moves c.args.registers same eff _ _ (Some w.input) None c.reply-ran.result
    (record { state = told.state; bytes = told.bytes; lines = told.lines; report = told.report }) refl (sym c.if-not-is_live.ensures)
    (g.R.Sink.puts c.args.report.now) (g.R.Sink.puts c.reply-ran.new.report) (told.line e))
