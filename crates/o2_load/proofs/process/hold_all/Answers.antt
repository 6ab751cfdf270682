use Rattle.std.proofs.Common.{ℕ, length, refl, sym, subst}
use Rattle.std.specs.Prelude.{map, Ok, Err}
use Rattle.o2_image.specs.Getters.{nth_list}
use Rattle.o2_world.specs.Starts.{library_holdings, holdings}
use Rattle.o2_load.specs.Holds.{Adds, stage}
use Rattle.o2_load.specs.Loads.{loaded, segment_holdings, environment_of, start_of}
use Rattle.o2_load.proofs.Held.{others_on}
use Rattle.o2_load.proofs.Steps.{adds_handed, adds_refused}
use Rattle.o2_load.proofs.Wholes.{holdings_are, parts_then, middle_refused}
use Rattle.o2_load.proofs.process.hold_all.Goals as goal

pub returns-in_err-hold_segments-clause-adds : goal.returns-in_err-hold_segments-clause-adds
returns-in_err-hold_segments-clause-adds g c = λ p e.
    let S = g.S.Segments in
    let l = c.args.linked.now in
    let names = S.names c.hold_segments.new.build.segments l.images in
    let z = stage (S.seen c.hold_segments.new.build.segments) c.hold_segments.new.build in
    let front = segment_holdings l.images c.args.place c.args.module.now in
    let is = c.from_residual.ensures in
    let f = c.in_err-hold_segments.field-0.0 in
    adds_handed (S.names c.args.build.now.segments l.images) names (stage (S.seen c.args.build.now.segments) c.args.build.now) z c.args.pid (holdings c.args.pid (start_of l c.args.pid p)) c.from_residual.result
    f is.0 is.1
    (adds_refused (S.names c.args.build.now.segments l.images) names names (stage (S.seen c.args.build.now.segments) c.args.build.now) z z c.args.pid front _ (holdings c.args.pid (start_of l c.args.pid p)) f
    (holdings_are l c.args.pid c.args.place c.args.module.now p (nth_list l.images.environments c.args.pid) (nth_list l.libraries c.args.pid) c.requires.program c.requires.place (sym e) refl)
    c.in_err-hold_segments.ensures.adds)

pub returns-in_err-hold_environment-clause-adds : goal.returns-in_err-hold_environment-clause-adds
returns-in_err-hold_environment-clause-adds g c = λ p e.
    let S = g.S.Segments in
    let l = c.args.linked.now in
    let n0 = S.names c.args.build.now.segments l.images in
    let n1 = S.names c.hold_segments.new.build.segments l.images in
    let n2 = S.names c.hold_environment.new.build.segments l.images in
    let a = stage (S.seen c.args.build.now.segments) c.args.build.now in
    let s = stage (S.seen c.hold_segments.new.build.segments) c.hold_segments.new.build in
    let z = stage (S.seen c.hold_environment.new.build.segments) c.hold_environment.new.build in
    let is = c.from_residual-in_err-hold_environment.ensures in
    let f = c.in_err-hold_environment.field-0.0 in
    let env = nth_list l.images.environments c.args.pid in
    adds_handed n0 n2 a z c.args.pid (holdings c.args.pid (start_of l c.args.pid p)) c.from_residual-in_err-hold_environment.result f is.0 is.1
    (middle_refused n0 n1 n2 n2 a s z z c.args.pid (segment_holdings l.images c.args.place c.args.module.now) (environment_of c.args.pid (length c.args.module.now.segments) env) _ (holdings c.args.pid (start_of l c.args.pid p)) f
    (holdings_are l c.args.pid c.args.place c.args.module.now p env (nth_list l.libraries c.args.pid) c.requires.program c.requires.place (sym e) refl)
    c.in_ok-hold_segments.ensures.adds
    (subst (λ (n : ℕ). Adds n1 s n2 z c.args.pid (environment_of c.args.pid n env) (Err f)) c.segment_count.ensures c.in_err-hold_environment.ensures.adds))

pub returns-clause-adds : goal.returns-clause-adds
returns-clause-adds g c = λ p e.
    let S = g.S.Segments in
    let l = c.args.linked.now in
    let n0 = S.names c.args.build.now.segments l.images in
    let n1 = S.names c.hold_segments.new.build.segments l.images in
    let n2 = S.names c.hold_environment.new.build.segments l.images in
    let n3 = S.names c.hold_libraries.new.build.segments l.images in
    let a = stage (S.seen c.args.build.now.segments) c.args.build.now in
    let s = stage (S.seen c.hold_segments.new.build.segments) c.hold_segments.new.build in
    let t = stage (S.seen c.hold_environment.new.build.segments) c.hold_environment.new.build in
    let z = stage (S.seen c.hold_libraries.new.build.segments) c.hold_libraries.new.build in
    let env = nth_list l.images.environments c.args.pid in
    parts_then n0 n1 n2 n3 a s t z c.args.pid (segment_holdings l.images c.args.place c.args.module.now) (environment_of c.args.pid (length c.args.module.now.segments) env)
    (library_holdings (map (loaded l.images) c.libraries.result.now)) (holdings c.args.pid (start_of l c.args.pid p)) c.hold_libraries.result
    (holdings_are l c.args.pid c.args.place c.args.module.now p env c.libraries.result.now c.requires.program c.requires.place (sym e) c.libraries.ensures)
    c.in_ok-hold_segments.ensures.adds
    (subst (λ (n : ℕ). Adds n1 s n2 t c.args.pid (environment_of c.args.pid n env) (Ok tt)) c.segment_count.ensures c.in_ok-hold_environment.ensures.adds)
    c.hold_libraries.ensures.adds

pub returns-in_err-hold_environment-clause-others : goal.returns-in_err-hold_environment-clause-others
returns-in_err-hold_environment-clause-others g c =
    let S = g.S.Segments in
    others_on (S.seen c.args.build.now.segments) (S.seen c.hold_segments.new.build.segments) (S.seen c.hold_environment.new.build.segments) c.args.pid c.hold_segments.ensures.others c.hold_environment.ensures.others

pub returns-clause-others : goal.returns-clause-others
returns-clause-others g c =
    let S = g.S.Segments in
    let two = others_on (S.seen c.args.build.now.segments) (S.seen c.hold_segments.new.build.segments) (S.seen c.hold_environment.new.build.segments) c.args.pid c.hold_segments.ensures.others c.hold_environment.ensures.others in
    others_on (S.seen c.args.build.now.segments) (S.seen c.hold_environment.new.build.segments) (S.seen c.hold_libraries.new.build.segments) c.args.pid two c.hold_libraries.ensures.others
