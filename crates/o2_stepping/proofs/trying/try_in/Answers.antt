use Rattle.std.proofs.Common.{◌≡◌, true, subst, sym}
use Rattle.o2_isa.specs.View.{View}
use Rattle.o2_gate.specs.Targets.{targets}
use Rattle.o2_gate.specs.Pointed.{are_ready}
use Rattle.o2_run.specs.Pieces.{told_counts}
use Rattle.o2_segbus.proofs.Called.{agrees, bound, leaves}
use Rattle.o2_stepping.proofs.Buses.{aimed_there, filling, leaves_there, on_missed, part_there, step_missed, step_present, bytes_there}
use Rattle.o2_stepping.proofs.Gates.{both_asked, map_undone}
use Rattle.o2_stepping.proofs.SeatMarks.{away_whole, named_now}
use Rattle.o2_stepping.proofs.trying.try_in.Goals as goal

pub returns-clause-same_store : goal.returns-clause-same_store
returns-clause-same_store g c = (leaves c.args.bus.now c.run_one.new.bus c.run_one.ensures.frame).same_store

pub returns-clause-same_regions : goal.returns-clause-same_regions
returns-clause-same_regions g c = (leaves c.args.bus.now c.run_one.new.bus c.run_one.ensures.frame).same_regions

pub returns-clause-over : goal.returns-clause-over
returns-clause-over g c =
    let a = c.args.bus.now in
    let b = c.run_one.new.bus in
    let e = c.run_one.ensures in
    let agree = agrees a c.args.cpu.now c.requires in
    record {
      leaves = λ text may away bytes known left same.
          leaves_there away a b c.args.cpu.now c.run_one.new.cpu c.args.pid bytes known agree _ _ _ _ _ _ c.run_one.result (e.leaves_as text may (filling away) bytes known (bound a) left same);
      missed = λ away bytes known. step_missed away a b c.args.cpu.now c.run_one.new.cpu c.args.pid bytes known agree c.run_one.result (e.missed (filling away) bytes known (bound a));
      present = λ away bytes known never. step_present away a b c.args.cpu.now c.run_one.new.cpu c.args.pid bytes known agree (e.present (filling away) bytes known (bound a) never);
      same = map_undone _ _ c.run_one.result (λ m n. bytes_there a b m.1 n) e.still;
    }

pub returns-clause-still : goal.returns-clause-still
returns-clause-still g c = map_undone _ _ c.run_one.result (λ m. (m.0, m.2, m.3, m.4)) c.run_one.ensures.still

pub returns-clause-ready : goal.returns-clause-ready
returns-clause-ready g c =
    let a = c.args.bus.now in
    let b = c.run_one.new.bus in
    both_asked _ _ _ c.run_one.result
    (λ x m ready. aimed_there b a.pid c.run_one.new.cpu (targets x) (leaves a b c.run_one.ensures.frame).process (subst (λ (v : View). are_ready v (targets x) ≡ true) (sym m.1) ready))
    c.run_one.ensures.still c.run_one.ensures.ready

pub returns-clause-store : goal.returns-clause-store
returns-clause-store g c = (leaves c.args.bus.now c.run_one.new.bus c.run_one.ensures.frame).store

pub returns-clause-maps : goal.returns-clause-maps
returns-clause-maps g c = (leaves c.args.bus.now c.run_one.new.bus c.run_one.ensures.frame).maps

pub returns-clause-clean : goal.returns-clause-clean
returns-clause-clean g c =
    (leaves c.args.bus.now c.run_one.new.bus c.run_one.ensures.frame).clean
    (c.run_one.ensures.writes (agrees c.args.bus.now c.args.cpu.now c.requires))

pub returns-clause-next : goal.returns-clause-next
returns-clause-next g c =
    (leaves c.args.bus.now c.run_one.new.bus c.run_one.ensures.frame).next c.run_one.new.cpu
    (c.run_one.ensures.agrees (agrees c.args.bus.now c.args.cpu.now c.requires))

pub returns-clause-part : goal.returns-clause-part
returns-clause-part g c =
    let a = c.args.bus.now in
    let agree = agrees a c.args.cpu.now c.requires in
    let n = told_counts (g.C.Sink.puts c.args.console.now) (g.C.Sink.puts c.run_one.new.console) (g.R.Sink.puts c.args.report.now) (g.R.Sink.puts c.run_one.new.report) 0
    (g.R.Sink.taken c.args.report.now) (g.R.Sink.taken c.run_one.new.report) in
    record {
      part = λ text may away bytes known left same.
          part_there away a c.run_one.new.bus c.args.cpu.now c.run_one.new.cpu c.args.pid bytes known agree n c.run_one.result (c.run_one.ensures.part_as text may (filling away) bytes known (bound a) left same);
    }

pub returns-clause-whole : goal.returns-clause-whole
returns-clause-whole g c =
    let a = c.args.bus.now in
    on_missed _ _ c.run_one.result
    (λ z away. away_whole a (named_now a c.args.cpu.now (agrees a c.args.cpu.now c.requires)) z away)
    (c.run_one.ensures.away (bound a))
