use Rattle.std.proofs.Common.{◌≡◌, ◌==◌, ℕ, ◌≤◌, List, [], Bool, true, false, if◌then◌else◌, inr, length, ap, sym, ◌∙◌, arith, subst}
use Rattle.std.specs.Prelude.{IsTrue}
use Rattle.o2_outer.specs.Inputs.{left_as}
use Rattle.o2_outer.specs.Texts.{Rose}
use Rattle.o2_isa.specs.View.{bound_registers}
use Rattle.o2_regions.specs.Lives.{lives}
use Rattle.o2_segbus.specs.Seen.{hold_in, seen}
use Rattle.o2_gate.specs.Targets.{targets}
use Rattle.o2_gate.specs.Pointed.{are_ready}
use Rattle.o2_world.specs.Effect.{effect}
use Rattle.o2_world.specs.Run.{before, changed}
use Rattle.o2_world.specs.Views.{with_bytes}
use Rattle.o2_world.specs.World.{is_live}
use Rattle.o2_run.proofs.Reached.{rose_since}
use Rattle.o2_stands.specs.Parts.{Running}
use Rattle.o2_stepping.specs.Rooms.{all_names, room_in}
use Rattle.o2_space.specs.Nexts.{SaysRoom}
use Rattle.o2_space.specs.Parts.{parts_in}
use Rattle.o2_space.specs.declared.space.Proc.{Proc}
use Rattle.o2_space.proofs.SharedKept.{held_few}
use Rattle.o2_space.proofs.SpelledCalls.{plain_spelled}
use Rattle.o2_space.proofs.Spelling.{spelled_by, spelled_shape}
use Rattle.o2_space.proofs.Afters.{plain_after}
use Rattle.o2_space.proofs.Beginning.{turn_kept}
use Rattle.o2_space.proofs.Framing.{adds_behind, keeps_behind, none_behind, none_within, shape_adds}
use Rattle.o2_store.proofs.Framing.{device_behind, device_for}
use Rattle.o2_space.proofs.Askings.{acts_from, asked_at, asked_between, asked_room, cause_by, as_failed, marks_from, part_from, puts_from, ran_between, ran_cause, ran_part, ran_puts, ran_says, room_kept, stop_same}
use Rattle.o2_space.proofs.Commits.{lived, process_was}
use Rattle.o2_space.proofs.space.Space.act.Goals as goal

pub step-requires-clause-process : goal.step-requires-clause-process
step-requires-clause-process g c = (c.requires.some, (let a = c.requires.there in let b = c.requires.together.numbers in omega (arith, a, b)))

pub commit-requires-clause-there : goal.commit-requires-clause-there
commit-requires-clause-there g c = (let a = c.requires.there in let b = ap (λ v. length v.items) c.step.ensures.procs in omega (arith, a, b))

pub commit-requires-clause-process : goal.commit-requires-clause-process
commit-requires-clause-process g c =
    (c.requires.some, (let a = c.requires.there in let b = c.requires.together.numbers in let d = c.step.ensures.keeps.processes in omega (arith, a, b, d)))

pub commit-requires-clause-most : goal.commit-requires-clause-most
commit-requires-clause-most g c =
    (let a = c.requires.there in let b = c.requires.together.numbers in let d = c.step.ensures.keeps.processes in let e = c.step.ensures.most in omega (arith, a, b, d, e))

pub commit-requires-clause-held : goal.commit-requires-clause-held
commit-requires-clause-held g c = (c.step.ensures.together.ready (λ k. [])).held

pub commit-requires-clause-settled : goal.commit-requires-clause-settled
commit-requires-clause-settled g c = (c.step.ensures.together.ready (λ k. [])).settled

pub call-requires-clause-there : goal.call-requires-clause-there
call-requires-clause-there g c = (let a = c.requires.there in let b = ap (λ v. length v.items) c.step.ensures.procs in omega (arith, a, b))

pub call-requires-clause-most : goal.call-requires-clause-most
call-requires-clause-most g c =
    (let a = c.requires.there in let b = c.requires.together.numbers in let d = c.step.ensures.keeps.processes in let e = c.step.ensures.most in omega (arith, a, b, d, e))

pub call-requires-clause-live : goal.call-requires-clause-live
call-requires-clause-live g c = ap (λ (ends : List Bool). lives ends c.args.pid) c.step.ensures.ends ∙ c.requires.live

pub call-requires-clause-made : goal.call-requires-clause-made
call-requires-clause-made g c = (let a = c.requires.made in let b = c.step.ensures.shape.tables.made in omega (arith, a, b))

pub call-requires-clause-can_step : goal.call-requires-clause-can_step
call-requires-clause-can_step g c = c.in-Ok-Asked.ensures.next

pub call-requires-clause-aimed : goal.call-requires-clause-aimed
call-requires-clause-aimed g c =
    let new = c.step.new in
    asked_at _ c.in-Ok-Asked.arguments c.in-Ok-Asked.next c.in-Ok-Asked.field-0-is (λ a. are_ready (seen new.self.store new.self.regions c.args.pid new.cpu) (targets a) ≡ true) c.in-Ok-Asked.ensures.aimed

pub call-requires-clause-few : goal.call-requires-clause-few
call-requires-clause-few g c = held_few c.args.self.now.regions c.step.new.self.regions c.step.ensures.shape.holds.held c.requires.few

-- A step that isn't taken.

pub returns-in-Err-clause-acts : goal.returns-in-Err-clause-acts
returns-in-Err-clause-acts g c = λ text may s w x tells begins turn.
    let y : Proc = c.index.result.now in
    let was = process_was c.args.self.now.procs.items c.args.pid w.processes x c.requires.some c.requires.there (begins.here.stands.processes c.args.pid) begins.here.process y c.index.ensures in
    c.in-Err.ensures.steps text may s w x tells begins (ap (λ (r : Running). r.cpu) was)

pub returns-in-Err-clause-part : goal.returns-in-Err-clause-part
returns-in-Err-clause-part g c = λ text may s w x tells begins turn.
    let y : Proc = c.index.result.now in
    let was = process_was c.args.self.now.procs.items c.args.pid w.processes x c.requires.some c.requires.there (begins.here.stands.processes c.args.pid) begins.here.process y c.index.ensures in
    c.in-Err.ensures.part text may s w x tells begins (ap (λ (r : Running). r.cpu) was)

pub returns-in-Err-clause-next_room : goal.returns-in-Err-clause-next_room
returns-in-Err-clause-next_room g c = λ text may s w x tells begins turn.
    let y : Proc = c.index.result.now in
    let was = process_was c.args.self.now.procs.items c.args.pid w.processes x c.requires.some c.requires.there (begins.here.stands.processes c.args.pid) begins.here.process y c.index.ensures in
    c.in-Err.ensures.next_room text may s w x tells begins (ap (λ (r : Running). r.cpu) was) turn.agrees.set
    (lived c.args.self.now.procs.items c.args.pid w.processes x c.requires.some c.requires.there (begins.here.stands.processes c.args.pid) begins.here.process c.args.self.now.ends c.requires.together.marked c.requires.live) turn.sound turn.wordless turn.turn

pub returns-in-Err-clause-marks : goal.returns-in-Err-clause-marks
returns-in-Err-clause-marks g c = λ n. ap (λ (ends : List Bool). lives ends n) c.step.ensures.ends

-- A step that is done.

pub returns-in-Ok-Ran-clause-acts : goal.returns-in-Ok-Ran-clause-acts
returns-in-Ok-Ran-clause-acts g c = λ text may s w x tells begins turn.
    let S = g.S.SwapDevice in
    let m = c.args.self.now in
    let y : Proc = c.index.result.now in
    let was = process_was m.procs.items c.args.pid w.processes x c.requires.some c.requires.there (begins.here.stands.processes c.args.pid) begins.here.process y c.index.ensures in
    let alive = lived m.procs.items c.args.pid w.processes x c.requires.some c.requires.there (begins.here.stands.processes c.args.pid) begins.here.process m.ends c.requires.together.marked c.requires.live in
    let b = before s w c.args.pid x in
    let e = effect b in
    let steps = c.in-Ok-Ran.ensures.steps text may s w x tells begins (ap (λ (r : Running). r.cpu) was) in
    let between = ran_between _ c.in-Ok-Ran.ran c.in-Ok-Ran.field-0-is b w _ _ _ _ _ _ _ _ steps in
    record {
      state = between.state;
      puts = between.puts;
      matches = plain_after (parts_in c.commit.new.self (S.blocks c.step.new.swap) (S.block c.step.new.swap)) w c.args.pid x e between.changes
          (c.commit.ensures.stands (S.blocks c.step.new.swap) (S.block c.step.new.swap) w.processes (with_bytes w.names e.bytes) w.next_name w.reserved x
          (record { cpu = e.cpu; state = e.state }) between.stands begins.here.process alive between.cpu between.state);
      input = between.input;
      to_console = between.to_console;
      to_report = between.to_report;
    }

pub returns-in-Ok-Ran-clause-next_room : goal.returns-in-Ok-Ran-clause-next_room
returns-in-Ok-Ran-clause-next_room g c = λ text may s w x tells begins turn.
    let y : Proc = c.index.result.now in
    let was = process_was c.args.self.now.procs.items c.args.pid w.processes x c.requires.some c.requires.there (begins.here.stands.processes c.args.pid) begins.here.process y c.index.ensures in
    ran_says _ c.in-Ok-Ran.ran c.in-Ok-Ran.field-0-is (g.S.SwapDevice.blocks c.args.swap.now) s w (c.in-Ok-Ran.ensures.next_room text may s w x tells begins (ap (λ (r : Running). r.cpu) was) turn.agrees.set
    (lived c.args.self.now.procs.items c.args.pid w.processes x c.requires.some c.requires.there (begins.here.stands.processes c.args.pid) begins.here.process c.args.self.now.ends c.requires.together.marked c.requires.live) turn.sound turn.wordless turn.turn)

pub returns-in-Ok-Ran-clause-together : goal.returns-in-Ok-Ran-clause-together
returns-in-Ok-Ran-clause-together g c =
    c.commit.ensures.together (g.S.SwapDevice.blocks c.step.new.swap) (ap (λ (ends : List Bool). lives ends c.args.pid) c.step.ensures.ends ∙ c.requires.live) c.step.ensures.together

pub returns-in-Ok-Ran-clause-marks : goal.returns-in-Ok-Ran-clause-marks
returns-in-Ok-Ran-clause-marks g c = λ n.
    let is_so : List Bool → Type 0 = λ ends. lives c.commit.new.self.ends n ≡ (if is_live c.in-Ok-Ran.ran.state then lives ends n else (if n == c.args.pid then false else lives ends n)) in
    subst is_so c.step.ensures.ends (c.commit.ensures.marks n)

pub returns-in-Ok-Ran-clause-puts : goal.returns-in-Ok-Ran-clause-puts
returns-in-Ok-Ran-clause-puts g c = ran_puts _ c.in-Ok-Ran.ran c.in-Ok-Ran.field-0-is _ c.in-Ok-Ran.ensures.puts

pub returns-in-Ok-Ran-clause-part : goal.returns-in-Ok-Ran-clause-part
returns-in-Ok-Ran-clause-part g c = λ text may s w x tells begins turn.
    let y : Proc = c.index.result.now in
    let was = process_was c.args.self.now.procs.items c.args.pid w.processes x c.requires.some c.requires.there (begins.here.stands.processes c.args.pid) begins.here.process y c.index.ensures in
    ran_part _ c.in-Ok-Ran.ran c.in-Ok-Ran.field-0-is (effect (before s w c.args.pid x)) _ (c.in-Ok-Ran.ensures.part text may s w x tells begins (ap (λ (r : Running). r.cpu) was))

pub returns-in-Ok-Ran-clause-cause : goal.returns-in-Ok-Ran-clause-cause
returns-in-Ok-Ran-clause-cause g c =
    ran_cause _ c.in-Ok-Ran.ran c.in-Ok-Ran.field-0-is _ (Rose (g.I.Source.faults c.args.input.now) (g.I.Source.faults c.step.new.input)) c.in-Ok-Ran.ensures.cause

-- A call on segments that is asked for.

pub returns-in-Ok-Asked-clause-acts : goal.returns-in-Ok-Asked-clause-acts
returns-in-Ok-Asked-clause-acts g c = λ text may s w x tells begins turn.
    let S = g.S.SwapDevice in
    let I = g.I.Source in
    let y : Proc = c.index.result.now in
    let was = process_was c.args.self.now.procs.items c.args.pid w.processes x c.requires.some c.requires.there (begins.here.stands.processes c.args.pid) begins.here.process y c.index.ensures in
    let b = before s w c.args.pid x in
    let told = c.call.ensures.device.told tells in
    let steps = c.in-Ok-Asked.ensures.steps text may s w x told begins (ap (λ (r : Running). r.cpu) was) in
    let asks = asked_between _ c.in-Ok-Asked.arguments c.in-Ok-Asked.next c.in-Ok-Asked.field-0-is b w _ _ _ _ _ _ _ _ steps in
    let next = turn_kept c.args.self.now c.step.new.self (S.blocks c.args.swap.now) (S.blocks c.step.new.swap) (S.block c.args.swap.now) (S.block c.step.new.swap)
    c.step.ensures.keeps c.step.ensures.device.blocks c.step.ensures.shape c.step.ensures.names s w c.args.pid turn in
    acts_from b w x (parts_in c.call.new.self (S.blocks c.call.new.swap) (S.block c.call.new.swap)) _ c.call.result asks.still.input asks.still.to_console asks.still.to_report
    (c.call.ensures.acts s w x (left_as text (I.left c.args.input.now) (I.past c.args.input.now)) (g.C.Sink.taken c.args.console.now) tells (record { stands = asks.still.stands; process = begins.here.process }) next asks.cpu begins.input asks.effect)

pub returns-in-Ok-Asked-clause-still : goal.returns-in-Ok-Asked-clause-still
returns-in-Ok-Asked-clause-still g c =
    let new = c.step.new in
    let args = c.args in
    let asks = asked_at _ c.in-Ok-Asked.arguments c.in-Ok-Asked.next c.in-Ok-Asked.field-0-is
    (λ a. (new.cpu ≡ c.index.result.now.cpu) × (new.input ≡ args.input.now) × (new.console ≡ args.console.now) × (new.report ≡ args.report.now)) c.in-Ok-Asked.ensures.asks in
    stop_same _ _ c.call.result (λ same. (asks.1, asks.2, same ∙ asks.3)) c.call.ensures.still

pub returns-in-Ok-Asked-clause-next_room : goal.returns-in-Ok-Asked-clause-next_room
returns-in-Ok-Asked-clause-next_room g c = λ text may s w x tells begins turn.
    let S = g.S.SwapDevice in
    let m = c.args.self.now in
    let new = c.step.new in
    let pid = c.args.pid in
    let y : Proc = c.index.result.now in
    let was = process_was m.procs.items pid w.processes x c.requires.some c.requires.there (begins.here.stands.processes pid) begins.here.process y c.index.ensures in
    let cpu = ap (λ (r : Running). r.cpu) was in
    let b = before s w pid x in
    let told = c.call.ensures.device.told tells in
    let steps = c.in-Ok-Asked.ensures.steps text may s w x told begins cpu in
    let asks = asked_between _ c.in-Ok-Asked.arguments c.in-Ok-Asked.next c.in-Ok-Asked.field-0-is b w _ _ _ _ _ _ _ _ steps in
    let next = turn_kept c.args.self.now c.step.new.self (S.blocks c.args.swap.now) (S.blocks c.step.new.swap) (S.block c.args.swap.now) (S.block c.step.new.swap)
    c.step.ensures.keeps c.step.ensures.device.blocks c.step.ensures.shape c.step.ensures.names s w c.args.pid turn in
    let room =
    asked_room _ c.in-Ok-Asked.arguments c.in-Ok-Asked.next c.in-Ok-Asked.field-0-is (λ z. room_in m.store (all_names b (bound_registers (hold_in m.regions pid) z)) ≤ m.store.places.size) (effect b).cpu b.cpu
    (c.in-Ok-Asked.ensures.room text may s w x told begins cpu) in
    subst (λ (n : ℕ). SaysRoom n s w c.call.result) c.step.ensures.device.blocks
    (c.call.ensures.next_room s w x tells (record { stands = asks.still.stands; process = begins.here.process }) next asks.cpu asks.called
    (room_kept m.store new.self.store m.regions new.self.regions c.step.ensures.shape b pid b.cpu room))

pub returns-in-Ok-Asked-clause-marks : goal.returns-in-Ok-Asked-clause-marks
returns-in-Ok-Asked-clause-marks g c = marks_from c.call.new.self.ends c.args.pid c.call.result c.step.ensures.ends c.call.ensures.marks

pub returns-in-Ok-Asked-clause-cause : goal.returns-in-Ok-Asked-clause-cause
returns-in-Ok-Asked-clause-cause g c =
    let R = g.R.Sink in
    cause_by (Rose (R.faults c.step.new.report) (R.faults c.call.new.report)) _ _ c.call.result (λ rose. inr (rose_since _ _ _ c.step.ensures.report_count rose)) c.call.ensures.cause

pub returns-in-Ok-Asked-clause-report_count : goal.returns-in-Ok-Asked-clause-report_count
returns-in-Ok-Asked-clause-report_count g c = (let a = c.step.ensures.report_count in let b = c.call.ensures.report_count in omega (arith, a, b))

pub returns-in-Ok-Asked-clause-puts : goal.returns-in-Ok-Asked-clause-puts
returns-in-Ok-Asked-clause-puts g c =
    let C = g.C.Sink in
    let R = g.R.Sink in
    let new = c.step.new in
    let args = c.args in
    let asks = asked_at _ c.in-Ok-Asked.arguments c.in-Ok-Asked.next c.in-Ok-Asked.field-0-is
    (λ a. (new.cpu ≡ c.index.result.now.cpu) × (new.input ≡ args.input.now) × (new.console ≡ args.console.now) × (new.report ≡ args.report.now)) c.in-Ok-Asked.ensures.asks in
    puts_from (R.puts c.call.new.report) c.call.result (ap C.puts asks.2) (ap R.puts asks.3) (c.call.ensures.puts (C.puts args.console.now))

pub returns-in-Ok-Asked-clause-part : goal.returns-in-Ok-Asked-clause-part
returns-in-Ok-Asked-clause-part g c = λ text may s w x tells begins turn.
    let S = g.S.SwapDevice in
    let C = g.C.Sink in
    let R = g.R.Sink in
    let new = c.step.new in
    let args = c.args in
    let y : Proc = c.index.result.now in
    let was = process_was c.args.self.now.procs.items c.args.pid w.processes x c.requires.some c.requires.there (begins.here.stands.processes c.args.pid) begins.here.process y c.index.ensures in
    let b = before s w c.args.pid x in
    let told = c.call.ensures.device.told tells in
    let steps = c.in-Ok-Asked.ensures.steps text may s w x told begins (ap (λ (r : Running). r.cpu) was) in
    let asks = asked_between _ c.in-Ok-Asked.arguments c.in-Ok-Asked.next c.in-Ok-Asked.field-0-is b w _ _ _ _ _ _ _ _ steps in
    let next = turn_kept c.args.self.now c.step.new.self (S.blocks c.args.swap.now) (S.blocks c.step.new.swap) (S.block c.args.swap.now) (S.block c.step.new.swap)
    c.step.ensures.keeps c.step.ensures.device.blocks c.step.ensures.shape c.step.ensures.names s w c.args.pid turn in
    let still = asked_at _ c.in-Ok-Asked.arguments c.in-Ok-Asked.next c.in-Ok-Asked.field-0-is
    (λ a. (new.cpu ≡ c.index.result.now.cpu) × (new.input ≡ args.input.now) × (new.console ≡ args.console.now) × (new.report ≡ args.report.now)) c.in-Ok-Asked.ensures.asks in
    part_from (effect b) (R.puts c.call.new.report) (R.taken c.call.new.report) c.call.result (ap C.puts still.2) (ap R.puts still.3) (ap R.taken still.3)
    (c.call.ensures.part s w x (C.puts args.console.now) tells (record { stands = asks.still.stands; process = begins.here.process }) next asks.cpu asks.effect)

-- The names that are kept.

pub returns-in-Err-clause-spells : goal.returns-in-Err-clause-spells
returns-in-Err-clause-spells g c = λ text may s w x tells begins turn.
    spelled_by c.step.new.self.store c.args.self.now.names c.step.new.self.names w c.step.ensures.names (spelled_shape c.args.self.now.store c.step.new.self.store c.step.ensures.shape.tables c.args.self.now.names w turn.agrees.spelled)

pub returns-in-Ok-Ran-clause-spells : goal.returns-in-Ok-Ran-clause-spells
returns-in-Ok-Ran-clause-spells g c = λ text may s w x tells begins turn.
    let S = g.S.SwapDevice in
    let m = c.args.self.now in
    let pid = c.args.pid in
    let stepped = c.step.new.self in
    let last = c.commit.new.self in
    let y : Proc = c.index.result.now in
    let was = process_was m.procs.items pid w.processes x c.requires.some c.requires.there (begins.here.stands.processes pid) begins.here.process y c.index.ensures in
    let alive = lived m.procs.items pid w.processes x c.requires.some c.requires.there (begins.here.stands.processes pid) begins.here.process m.ends c.requires.together.marked c.requires.live in
    let steps = c.in-Ok-Ran.ensures.steps text may s w x tells begins (ap (λ (r : Running). r.cpu) was) in
    let between = ran_between _ c.in-Ok-Ran.ran c.in-Ok-Ran.field-0-is (before s w pid x) w _ _ _ _ _ _ _ _ steps in
    let acts = returns-in-Ok-Ran-clause-acts g c text may s w x tells begins turn in
    λ d current.
    spelled_by last.store stepped.names last.names (changed w d x (effect (before s w pid x))) c.commit.ensures.names
    (plain_spelled s w x alive turn.sound begins.here.stands.tidy stepped.store stepped.regions stepped.names (parts_in last (S.blocks c.step.new.swap) (S.block c.step.new.swap))
    (c.step.ensures.together.ready (λ k. [])).aged c.step.ensures.together.places c.commit.ensures.behind
    (spelled_by stepped.store m.names stepped.names w c.step.ensures.names (spelled_shape m.store stepped.store c.step.ensures.shape.tables m.names w turn.agrees.spelled))
    pid turn.turn begins.here.process between.changes acts.matches d current)

pub returns-in-Ok-Asked-clause-spells : goal.returns-in-Ok-Asked-clause-spells
returns-in-Ok-Asked-clause-spells g c = λ text may s w x tells begins turn.
    let S = g.S.SwapDevice in
    let y : Proc = c.index.result.now in
    let was = process_was c.args.self.now.procs.items c.args.pid w.processes x c.requires.some c.requires.there (begins.here.stands.processes c.args.pid) begins.here.process y c.index.ensures in
    let b = before s w c.args.pid x in
    let told = c.call.ensures.device.told tells in
    let steps = c.in-Ok-Asked.ensures.steps text may s w x told begins (ap (λ (r : Running). r.cpu) was) in
    let asks = asked_between _ c.in-Ok-Asked.arguments c.in-Ok-Asked.next c.in-Ok-Asked.field-0-is b w _ _ _ _ _ _ _ _ steps in
    let next = turn_kept c.args.self.now c.step.new.self (S.blocks c.args.swap.now) (S.blocks c.step.new.swap) (S.block c.args.swap.now) (S.block c.step.new.swap)
    c.step.ensures.keeps c.step.ensures.device.blocks c.step.ensures.shape c.step.ensures.names s w c.args.pid turn in
    c.call.ensures.spells s w x tells (record { stands = asks.still.stands; process = begins.here.process }) next asks.cpu asks.effect

-- The device.

pub returns-in-Err-clause-idle : goal.returns-in-Err-clause-idle
returns-in-Err-clause-idle g c = λ text may s w x tells begins turn fit none.
    c.step.ensures.idle s w begins.here.stands turn.agrees.set turn.wordless fit none

pub returns-in-Ok-Ran-clause-idle : goal.returns-in-Ok-Ran-clause-idle
returns-in-Ok-Ran-clause-idle g c = λ text may s w x tells begins turn fit none.
    let i = c.step.ensures.idle s w begins.here.stands turn.agrees.set turn.wordless fit none in
    record { device = i.device; none = c.commit.ensures.unused i.none }

pub returns-in-Ok-Asked-clause-idle : goal.returns-in-Ok-Asked-clause-idle
returns-in-Ok-Asked-clause-idle g c = λ text may s w x tells begins turn fit none.
    let S = g.S.SwapDevice in
    let m = c.args.self.now in
    let i = c.step.ensures.idle s w begins.here.stands turn.agrees.set turn.wordless fit none in
    let y : Proc = c.index.result.now in
    let was = process_was m.procs.items c.args.pid w.processes x c.requires.some c.requires.there (begins.here.stands.processes c.args.pid) begins.here.process y c.index.ensures in
    let told = subst (λ (d : _). IsTrue (S.told d)) (sym i.device) tells in
    let steps = c.in-Ok-Asked.ensures.steps text may s w x told begins (ap (λ (r : Running). r.cpu) was) in
    let asks = asked_between _ c.in-Ok-Asked.arguments c.in-Ok-Asked.next c.in-Ok-Asked.field-0-is (before s w c.args.pid x) w _ _ _ _ _ _ _ _ steps in
    let next = turn_kept c.args.self.now c.step.new.self (S.blocks c.args.swap.now) (S.blocks c.step.new.swap) (S.block c.args.swap.now) (S.block c.step.new.swap)
    c.step.ensures.keeps c.step.ensures.device.blocks c.step.ensures.shape c.step.ensures.names s w c.args.pid turn in
    let j = c.call.ensures.idle s w x (record { stands = asks.still.stands; process = begins.here.process }) next asks.cpu asks.called fit i.none in
    record { device = j.device ∙ i.device; none = j.none }

pub returns-in-Err-clause-device : goal.returns-in-Err-clause-device
returns-in-Err-clause-device g c = device_for _ _ _ _ _ _ _ (λ failed. as_failed c.in-Err.fault _ failed) c.in-Err.ensures.device

pub returns-in-Ok-Ran-clause-device : goal.returns-in-Ok-Ran-clause-device
returns-in-Ok-Ran-clause-device g c = device_for _ _ _ _ _ _ _ (λ failed. absurd (cc)) c.in-Ok-Ran.ensures.device

pub returns-in-Ok-Asked-clause-device : goal.returns-in-Ok-Asked-clause-device
returns-in-Ok-Asked-clause-device g c = (let d = c.step.ensures.device in device_behind _ _ _ _ _ _ _ d.blocks d.told d.faults c.call.ensures.device)

-- What is kept, and what is made.

pub returns-in-Ok-Ran-clause-keeps : goal.returns-in-Ok-Ran-clause-keeps
returns-in-Ok-Ran-clause-keeps g c = keeps_behind c.args.self.now c.step.new.self c.commit.new.self c.commit.ensures.keeps c.step.ensures.keeps

pub returns-in-Ok-Asked-clause-keeps : goal.returns-in-Ok-Asked-clause-keeps
returns-in-Ok-Asked-clause-keeps g c = keeps_behind c.args.self.now c.step.new.self c.call.new.self c.call.ensures.keeps c.step.ensures.keeps

pub returns-in-Err-clause-adds : goal.returns-in-Err-clause-adds
returns-in-Err-clause-adds g c = none_within c.args.self.now c.step.new.self 0 0 (shape_adds c.args.self.now c.step.new.self c.step.ensures.shape)

pub returns-in-Ok-Ran-clause-adds : goal.returns-in-Ok-Ran-clause-adds
returns-in-Ok-Ran-clause-adds g c =
    none_within c.args.self.now c.commit.new.self 4096 1
    (none_behind c.args.self.now c.step.new.self c.commit.new.self c.commit.ensures.adds (shape_adds c.args.self.now c.step.new.self c.step.ensures.shape))

pub returns-in-Ok-Asked-clause-adds : goal.returns-in-Ok-Asked-clause-adds
returns-in-Ok-Asked-clause-adds g c = adds_behind c.args.self.now c.step.new.self c.call.new.self _ _ c.call.ensures.adds (shape_adds c.args.self.now c.step.new.self c.step.ensures.shape)
