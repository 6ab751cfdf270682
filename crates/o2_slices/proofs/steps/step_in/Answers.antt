use Rattle.std.proofs.Common.{ap, inl, refl}
use Rattle.o2_segbus.specs.Calls.{view_of}
use Rattle.o2_segbus.proofs.Called.{agrees, bound, leaves}
use Rattle.o2_stepping.proofs.Buses.{filling}
use Rattle.o2_slices.specs.Slices.{is_step, is_still}
use Rattle.o2_slices.proofs.OverBus.{agreed, done_again, done_there, follows, holds_stay, may_begin, present_again, process_stays, same_frame, touched_there, tried_there}
use Rattle.o2_slices.proofs.steps.step_in.Goals as goal

pub returns-clause-step : goal.returns-clause-step
returns-clause-step c = λ yes.
    let a = c.args.bus.now in
    let b = c.done_at_once-done.new.bus in
    let e = c.done_at_once-done.ensures in
    let r = c.requires in
    let cpu = c.args.cpu.now in
    let new = c.done_at_once-done.new.cpu in
    let agree = agrees a cpu r.agrees in
    record {
      before = may_begin a c.args.pid cpu r.process r.holds agree;
      follows = follows a b c.args.pid e.frame r.process r.holds cpu new agree (e.agrees agree) e.writes c.lawful.ensures c.law.ensures.sum c.law.ensures.room;
      done = λ away bytes known x y. done_there a b c.args.pid e.frame r.process r.holds away cpu new bytes known agree x y (e.done yes (filling away) bytes known x y (bound a));
      present = λ away bytes known. touched_there a b c.args.pid e.frame r.process r.holds away cpu new bytes known agree (e.present yes (filling away) bytes known (bound a));
    }

pub returns-clause-still : goal.returns-clause-still
returns-clause-still c = λ yes.
    let a = c.args.bus.now in
    let e = c.done_at_once-done.ensures in
    let r = c.requires in
    let agree = agrees a c.args.cpu.now r.agrees in
    let same = e.still yes in
    tried_there a c.done_at_once-done.new.bus c.args.pid e.frame r.process r.holds c.args.cpu.now c.done_at_once-done.new.cpu agree (e.agrees agree) e.writes c.lawful.ensures c.law.ensures.sum c.law.ensures.room same.0 same.1

pub returns-clause-again : goal.returns-clause-again
returns-clause-again c = λ waits.
    let a = c.args.bus.now in
    let b = c.done_at_once-done.new.bus in
    let e = c.done_at_once-done.ensures in
    let r = c.requires in
    let cpu = c.args.cpu.now in
    let new = c.done_at_once-done.new.cpu in
    let agree = e.agrees (agrees a cpu r.agrees) in
    let yes = ap is_step waits in
    let same = e.still (ap is_still waits) in
    let process = process_stays a b c.args.pid e.frame r.process r.holds in
    let holds = holds_stay a b c.args.pid e.frame r.process r.holds in
    let frame = same_frame (view_of b) in
    record {
      before = may_begin b c.args.pid new process holds agree;
      follows = follows b b c.args.pid frame process holds new new agree agree (λ n. inl refl) c.lawful.ensures c.law.ensures.sum c.law.ensures.room;
      done = λ away bytes known x y.
          done_there b b c.args.pid frame process holds away new new bytes known agree x y
          (done_again a b c.args.pid cpu new same.0 same.1 (filling away) bytes known x y (e.done yes (filling away) bytes known x y (bound a)));
      present = λ away bytes known.
          touched_there b b c.args.pid frame process holds away new new bytes known agree
          (present_again a b c.args.pid cpu new same.0 same.1 (filling away) bytes known (e.present yes (filling away) bytes known (bound a)));
    }

pub returns-clause-same_store : goal.returns-clause-same_store
returns-clause-same_store c = (leaves c.args.bus.now c.done_at_once-done.new.bus c.done_at_once-done.ensures.frame).same_store

pub returns-clause-same_regions : goal.returns-clause-same_regions
returns-clause-same_regions c = (leaves c.args.bus.now c.done_at_once-done.new.bus c.done_at_once-done.ensures.frame).same_regions

pub returns-clause-process : goal.returns-clause-process
returns-clause-process c = process_stays c.args.bus.now c.done_at_once-done.new.bus c.args.pid c.done_at_once-done.ensures.frame c.requires.process c.requires.holds

pub returns-clause-holds : goal.returns-clause-holds
returns-clause-holds c = holds_stay c.args.bus.now c.done_at_once-done.new.bus c.args.pid c.done_at_once-done.ensures.frame c.requires.process c.requires.holds

pub returns-clause-agrees : goal.returns-clause-agrees
returns-clause-agrees c = agreed c.done_at_once-done.new.bus c.done_at_once-done.new.cpu (c.done_at_once-done.ensures.agrees (agrees c.args.bus.now c.args.cpu.now c.requires.agrees))
