use Rattle.std.proofs.Common.{◌++◌, ◌∷◌, [], ◌∙◌, ap, refl}
use Rattle.std.specs.Prelude.{map}
use Rattle.std.proofs.lemmas.List.{map-append}
use Rattle.o2_load.specs.declared.progress.Progress.{Progress}
use Rattle.o2_load.specs.Holds.{stage}
use Rattle.o2_load.specs.Loads.{start_of}
use Rattle.o2_load.specs.Progresses.{course}
use Rattle.o2_load.proofs.Nexts.{ready_for, refused_next, begins}
use Rattle.o2_load.proofs.progress.Progress.next.Goals as goal

pub returns-in_err-cpu-clause-comes : goal.returns-in_err-cpu-clause-comes
returns-in_err-cpu-clause-comes g c = λ p most b e f is.
    let S = g.S.Segments in
    let l = c.args.linked.now in
    let before = S.names c.args.self.now.build.segments l.images in
    let after = S.names c.start.new.build.segments l.images in
    let x = course (S.seen c.args.self.now.build.segments) c.args.self.now in
    let y = stage (S.seen c.start.new.build.segments) c.start.new.build in
    let same = c.from_residual.ensures in
    let new : Progress g.row.S.Denot = record { build = c.start.new.build; cpus = c.args.self.now.cpus; starts = c.args.self.now.starts } in
    refused_next before after after x
    (course (S.seen c.start.new.build.segments) new) y l (start_of l c.args.pid p) b c.args.pid most
    c.in_err-cpu.field-0.0 c.from_residual.result same.0 same.1 c.requires.number is
    (c.in_err-cpu.ensures.starts p e f most b (ready_for before x l b most c.args.pid c.requires.number is))

pub returns-clause-comes : goal.returns-clause-comes
returns-clause-comes g c = λ p most b e f is.
    let S = g.S.Segments in
    let l = c.args.linked.now in
    let before = S.names c.args.self.now.build.segments l.images in
    let after = S.names c.start.new.build.segments l.images in
    let x = course (S.seen c.args.self.now.build.segments) c.args.self.now in
    let y = stage (S.seen c.start.new.build.segments) c.start.new.build in
    let started = c.in_ok-cpu.ensures.starts p e f most b (ready_for before x l b most c.args.pid c.requires.number is) in
    let new : Progress g.row.S.Denot = record { build = record { segments = c.start.new.build.segments; made = c.start.new.build.made; selectors = c.replace-selectors.new.dest }; cpus = c.push-2.new.self; starts = c.push.new.self } in
    begins before after x (course (S.seen c.start.new.build.segments) new) y l (start_of l c.args.pid p) b most c.args.pid c.in_ok-cpu.cpu c.requires.number is
    c.in_ok-cpu.ensures.others started.holds started.cpu refl refl
    (ap (λ v. v.items) c.replace-selectors.ensures.after ∙ c.new.ensures.items)
    c.in_ok-push-2.ensures.items
    (ap (map (λ v. v.items)) c.in_ok-push.ensures.items ∙ map-append (λ v. v.items) c.args.self.now.starts.items (c.replace-selectors.result ∷ []) ∙ ap (λ z. map (λ v. v.items) c.args.self.now.starts.items ++ z ∷ []) (ap (λ v. v.items) c.replace-selectors.ensures.value))
    refl started.starts
