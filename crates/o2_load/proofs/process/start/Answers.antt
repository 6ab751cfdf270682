use Rattle.std.proofs.Common.{sym, ◌∙◌, ap}
use Rattle.std.specs.Prelude.{option_map, unwrap_or}
use Rattle.o2_image.specs.Getters.{nth}
use Rattle.o2_image.specs.ImageList.{ImageList, Resolution}
use Rattle.o2_load.specs.Holds.{stage}
use Rattle.o2_load.specs.Loads.{start_of, parts_cpu}
use Rattle.o2_load.proofs.Wholes.{program_is, refused, refused_as, fits_started, cpu_same}
use Rattle.o2_load.proofs.process.start.Goals as goal

pub returns-in-Err-clause-starts : goal.returns-in-Err-clause-starts
returns-in-Err-clause-starts g c = λ p e f most b is.
    let images = c.args.linked.now.images in
    let there = sym (c.in-Some-module.ensures ∙ ap (λ (z : ImageList). option_map (λ (q : Resolution). q.0) (nth z.modules c.in-Some.place)) c.images.ensures.value) in
    let program = program_is c.args.linked.now c.args.pid c.in-Some.place c.in-Some-module.module.now p (ap (λ o. unwrap_or o 0) c.in-Some.ensures.value) there in
    refused images c.in-Some.place most c.args.pid c.in-Some-module.module.now (start_of c.args.linked.now c.args.pid p) b program c.in-Err.fault (sym c.in-Err.ensures)

pub returns-in_err-hold_all-in-Ok-clause-starts : goal.returns-in_err-hold_all-in-Ok-clause-starts
returns-in_err-hold_all-in-Ok-clause-starts g c = λ p e f most b is.
    let S = g.S.Segments in
    let images = c.args.linked.now.images in
    let there = sym (c.in-Some-module.ensures ∙ ap (λ (z : ImageList). option_map (λ (q : Resolution). q.0) (nth z.modules c.in-Some.place)) c.images.ensures.value) in
    let program = program_is c.args.linked.now c.args.pid c.in-Some.place c.in-Some-module.module.now p (ap (λ o. unwrap_or o 0) c.in-Some.ensures.value) there in
    let same = c.from_residual.ensures in
    refused_as images c.in-Some.place most c.args.pid c.in-Some-module.module.now (start_of c.args.linked.now c.args.pid p) b program (S.names c.hold_all.new.build.segments images)
    (stage (S.seen c.hold_all.new.build.segments) c.hold_all.new.build) c.in_err-hold_all-in-Ok.field-0.0 c.from_residual.result same.0 same.1 (sym c.in-Ok.ensures)
    (c.in_err-hold_all-in-Ok.ensures.adds p e most b is)

pub returns-in_ok-hold_all-in-Ok-clause-starts : goal.returns-in_ok-hold_all-in-Ok-clause-starts
returns-in_ok-hold_all-in-Ok-clause-starts g c = λ p e f most b is.
    let S = g.S.Segments in
    let images = c.args.linked.now.images in
    let there = sym (c.in-Some-module.ensures ∙ ap (λ (z : ImageList). option_map (λ (q : Resolution). q.0) (nth z.modules c.in-Some.place)) c.images.ensures.value) in
    let program = program_is c.args.linked.now c.args.pid c.in-Some.place c.in-Some-module.module.now p (ap (λ o. unwrap_or o 0) c.in-Some.ensures.value) there in
    let holds = c.in_ok-hold_all-in-Ok.ensures.adds p e most b is in
    record {
      holds = holds;
      cpu = c.first_cpu.ensures images ∙ ap (parts_cpu images c.in-Some.place c.in-Some-module.module.now) (sym f) ∙ sym (cpu_same images c.in-Some.place c.in-Some-module.module.now (start_of c.args.linked.now c.args.pid p) program);
      starts = fits_started images c.in-Some.place most c.args.pid c.in-Some-module.module.now (start_of c.args.linked.now c.args.pid p) b program (S.names c.hold_all.new.build.segments images)
          (stage (S.seen c.hold_all.new.build.segments) c.hold_all.new.build) (sym c.in-Ok.ensures) holds;
    }
