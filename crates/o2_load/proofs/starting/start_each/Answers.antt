use Rattle.std.proofs.Common.{◌+◌, ℕ, List, drop, ap, ◌∙◌, subst, sym, arith, length, refl}
use Rattle.std.specs.Prelude.{map}
use Rattle.o2_conf.specs.declared.process.Process.{Process}
use Rattle.o2_world.specs.declared.types.Made.{Made}
use Rattle.o2_load.specs.declared.progress.Progress.{Progress}
use Rattle.o2_load.specs.Holds.{IsReady}
use Rattle.o2_load.specs.Progresses.{course}
use Rattle.o2_load.proofs.Alls.{SoFar, so_far_first, so_far_next, refused_all, so_far_all, environment_at, rest_at, none_left}
use Rattle.o2_load.proofs.Held.{setting_on}
use Rattle.o2_load.proofs.Nexts.{nothing_begun}
use Rattle.o2_load.proofs.starting.start_each.Goals as goal

pub loop-process-init : goal.loop-process-init
loop-process-init g c =
    let S = g.S.Segments in
    let l = c.args.linked.now in
    let first : Progress g.row.S.Denot = record { build = record { segments = c.args.segments; made = c.new.result; selectors = c.new-2.result }; cpus = c.new-3.result; starts = c.new-4.result } in
    record {
      number = refl;
      count = ap length c.new-3.ensures.items;
      ready = subst (λ (ms : List Made). IsReady (S.whole c.args.segments) (S.seen c.args.segments) ms l) (sym c.new.ensures) c.requires.ready;
      setting = record { most = refl; takes = λ pid i. refl; fixed = refl };
      so_far = so_far_first (S.names c.args.segments l.images) (course (S.seen c.args.segments) first) l (S.seen c.args.segments).most c.args.processes.now
          (nothing_begun (S.names c.args.segments l.images) (course (S.seen c.args.segments) first) l c.requires.empty c.new.ensures c.new-2.ensures.items c.new-3.ensures.items (ap (map (λ v. v.items)) c.new-4.ensures.items));
    }

pub start_next-requires-clause-environment : goal.start_next-requires-clause-environment
start_next-requires-clause-environment g c =
    environment_at c.args.processes.now c.args.linked.now.images.environments c.loop-process.process-index c.loop-process.pid c.process-item.result c.requires.environments c.loop-process.invariant.number
    c.loop-process-test.true c.process-item.is

pub returns-in_err-start_next-clause-comes : goal.returns-in_err-start_next-clause-comes
returns-in_err-start_next-clause-comes g c =
    let S = g.S.Segments in
    let l = c.args.linked.now in
    let ps = c.args.processes.now in
    let k = c.loop-process.process-index in
    let most = (S.seen c.args.segments).most in
    let before = S.names c.loop-process.progress.build.segments l.images in
    let after = S.names c.start_next.new.progress.build.segments l.images in
    let x = course (S.seen c.loop-process.progress.build.segments) c.loop-process.progress in
    let y = course (S.seen c.start_next.new.progress.build.segments) c.start_next.new.progress in
    let so = subst (λ (rest : List Process). SoFar before x l most (k + 1) rest ps) (rest_at ps k c.process-item.result c.loop-process-test.true c.process-item.is) c.loop-process.invariant.so_far in
    let is = c.from_residual.ensures in
    refused_all S.seen (λ s. S.names s l.images) l most before after x y (k + 1) c.loop-process.pid c.process-item.result (drop (k + 1) ps) ps c.in_err-start_next.field-0.0 c.loop-process.invariant.number so
    c.in_err-start_next.ensures.comes c.from_residual.result is.0 is.1

pub loop-process-preserved : goal.loop-process-preserved
loop-process-preserved g c =
    let S = g.S.Segments in
    let l = c.args.linked.now in
    let ps = c.args.processes.now in
    let k = c.loop-process.process-index in
    let most = (S.seen c.args.segments).most in
    let before = S.names c.loop-process.progress.build.segments l.images in
    let after = S.names c.start_next.new.progress.build.segments l.images in
    let x = course (S.seen c.loop-process.progress.build.segments) c.loop-process.progress in
    let y = course (S.seen c.start_next.new.progress.build.segments) c.start_next.new.progress in
    let so = subst (λ (rest : List Process). SoFar before x l most (k + 1) rest ps) (rest_at ps k c.process-item.result c.loop-process-test.true c.process-item.is) c.loop-process.invariant.so_far in
    record {
      number = ap (λ (n : ℕ). n + 1) c.loop-process.invariant.number;
      count = c.in_ok-start_next.ensures.count ∙ ap (λ (n : ℕ). n + 1) c.loop-process.invariant.count;
      ready = c.in_ok-start_next.ensures.ready;
      setting = setting_on (S.seen c.args.segments) (S.seen c.loop-process.progress.build.segments) (S.seen c.start_next.new.progress.build.segments) c.loop-process.invariant.setting c.start_next.ensures.setting;
      so_far = so_far_next before after x y l most (k + 1) c.loop-process.pid c.process-item.result (drop (k + 1) ps) ps c.loop-process.invariant.number so c.in_ok-start_next.ensures.comes;
    }

pub returns-clause-comes : goal.returns-clause-comes
returns-clause-comes g c =
    let S = g.S.Segments in
    let l = c.args.linked.now in
    let most = (S.seen c.args.segments).most in
    let m = c.loop-process.progress in
    so_far_all S.seen (λ s. S.names s l.images) l most m (c.loop-process.process-index + 1) c.args.processes.now
    (subst (λ (rest : List Process). SoFar (S.names m.build.segments l.images) (course (S.seen m.build.segments) m) l most (c.loop-process.process-index + 1) rest c.args.processes.now)
    (none_left c.args.processes.now c.loop-process.process-index (omega (arith, c.loop-process-test.false))) c.loop-process.invariant.so_far)
