use Rattle.std.proofs.Common.{ℕ, ◌≤◌, List, ap, sym, subst, ◌∙◌, refl}
use Rattle.o2_place.specs.Layout.{Layout, used}
use Rattle.o2_world.specs.Effect.{effect}
use Rattle.o2_run.specs.Pieces.{told_counts}
use Rattle.o2_stepping.specs.Worlds.{away_of, before_in}
use Rattle.o2_stepping.proofs.Gates.{map_undone}
use Rattle.o2_stepping.proofs.Goings.{goes_kept, only_kept, stays_kept}
use Rattle.o2_stepping.proofs.Keeping.{held_stays, marks_hold, ready_same, shape_trans, try_shape}
use Rattle.o2_stepping.proofs.Puts.{stop_hands}
use Rattle.o2_stepping.proofs.SeatMarks.{under_stays}
use Rattle.o2_stepping.proofs.Trials.{away_same, map_missed, never_stops, no_cause, not_begun, no_step, on_ran, part_first, stays_still, stop_part, together, together_in_part, tried, tried_for, wanted}
use Rattle.o2_stepping.proofs.Worlds.{away_kept, view_same, with_kept}
use Rattle.o2_store.specs.Idle.{NoneTaken}
use Rattle.o2_store.specs.Shelf.{Shelf}
use Rattle.o2_stepping.proofs.in_store.serve_and_try.Goals as goal

pub returns-in-Err-clause-tries : goal.returns-in-Err-clause-tries
returns-in-Err-clause-tries g c = λ text may bytes known tells left same.
    let S = g.S.SwapDevice in
    let away : ℕ → List ℕ = away_of c.args.store.now c.args.regions.now c.args.images.now (S.blocks c.args.swap.now) (S.block c.args.swap.now) in
    let b = before_in away c.args.store.now c.args.regions.now c.args.pid c.args.cpu.now bytes known in
    stays_still b (effect b) c.args.cpu.now _ _ _ _ _ _ _ _ c.in-Err.fault c.in-Err.ensures.kind
    (record { cpu = refl; bytes = λ n. c.bring_in.ensures.bytes tells n; input = refl; to_console = refl; to_report = refl })

pub returns-in-Err-clause-stopped : goal.returns-in-Err-clause-stopped
returns-in-Err-clause-stopped g c = no_step _ c.in-Err.fault (refl, refl, refl, refl)

pub returns-in-Err-clause-cause : goal.returns-in-Err-clause-cause
returns-in-Err-clause-cause g c = no_cause _ _ c.in-Err.fault c.in-Err.ensures.kind

pub try_step-requires : goal.try_step-requires
try_step-requires g c = record { ready = c.in-Ok.ensures.can_step refl }

pub returns-clause-tries : goal.returns-clause-tries
returns-clause-tries g c = λ text may bytes known tells left same.
    let S = g.S.SwapDevice in
    let s = c.args.store.now in
    let t = c.bring_in.new.store in
    let u = c.try_step.new.store in
    let im = c.args.images.now in
    let a : ℕ → List ℕ = away_of s c.args.regions.now im (S.blocks c.args.swap.now) (S.block c.args.swap.now) in
    let b : ℕ → List ℕ = away_of t c.bring_in.new.regions im (S.blocks c.bring_in.new.swap) (S.block c.bring_in.new.swap) in
    let d : ℕ → List ℕ = away_of u c.try_step.new.regions im (S.blocks c.bring_in.new.swap) (S.block c.bring_in.new.swap) in
    let same_bytes = c.bring_in.ensures.bytes tells in
    let view = view_same a b s t c.args.regions.now c.bring_in.new.regions c.args.pid c.args.cpu.now c.bring_in.ensures.shape.tables c.bring_in.ensures.shape.holds same_bytes in
    tried a b d s t u c.args.regions.now c.bring_in.new.regions c.args.pid c.args.cpu.now bytes known view c.try_step.new.cpu _ _ _ _ _ _ c.try_step.result same_bytes
    (away_same b d u (λ n. away_kept im t u c.bring_in.new.regions c.try_step.new.regions (S.blocks c.bring_in.new.swap) (S.block c.bring_in.new.swap) c.try_step.ensures.store n))
    (c.try_step.ensures.over.leaves text may b bytes known left same)

pub returns-clause-missed : goal.returns-clause-missed
returns-clause-missed g c = λ bytes known tells.
    let S = g.S.SwapDevice in
    let s = c.args.store.now in
    let t = c.bring_in.new.store in
    let u = c.try_step.new.store in
    let im = c.args.images.now in
    let a : ℕ → List ℕ = away_of s c.args.regions.now im (S.blocks c.args.swap.now) (S.block c.args.swap.now) in
    let b : ℕ → List ℕ = away_of t c.bring_in.new.regions im (S.blocks c.bring_in.new.swap) (S.block c.bring_in.new.swap) in
    let view = view_same a b s t c.args.regions.now c.bring_in.new.regions c.args.pid c.args.cpu.now c.bring_in.ensures.shape.tables c.bring_in.ensures.shape.holds (c.bring_in.ensures.bytes tells) in
    map_missed _ _ c.try_step.result
    (λ z. wanted a b b s t u c.args.regions.now c.bring_in.new.regions c.args.pid c.args.cpu.now bytes known view c.try_step.new.regions c.args.need.now z
    (λ i. held_stays c.bring_in.new.regions c.try_step.new.regions (marks_hold c.bring_in.new.regions c.try_step.new.regions c.try_step.ensures.maps) c.args.pid i)
    (c.in-Ok.ensures.here refl)) (c.try_step.ensures.over.missed b bytes known)

pub returns-clause-together : goal.returns-clause-together
returns-clause-together g c = λ bytes known tells.
    let S = g.S.SwapDevice in
    let s = c.args.store.now in
    let t = c.bring_in.new.store in
    let u = c.try_step.new.store in
    let im = c.args.images.now in
    let a : ℕ → List ℕ = away_of s c.args.regions.now im (S.blocks c.args.swap.now) (S.block c.args.swap.now) in
    let b : ℕ → List ℕ = away_of t c.bring_in.new.regions im (S.blocks c.bring_in.new.swap) (S.block c.bring_in.new.swap) in
    let view = view_same a b s t c.args.regions.now c.bring_in.new.regions c.args.pid c.args.cpu.now c.bring_in.ensures.shape.tables c.bring_in.ensures.shape.holds (c.bring_in.ensures.bytes tells) in
    together a b b s t u c.args.regions.now c.bring_in.new.regions c.args.pid c.args.cpu.now bytes known view c.try_step.new.regions c.try_step.new.cpu c.try_step.result
    c.try_step.ensures.store (c.in-Ok.ensures.can_step refl) c.try_step.ensures.next (c.try_step.ensures.over.present b bytes known)

pub returns-in-Err-clause-in_part : goal.returns-in-Err-clause-in_part
returns-in-Err-clause-in_part g c = λ bytes known tells. not_begun _ c.in-Err.fault c.in-Err.ensures.kind

pub returns-clause-in_part : goal.returns-clause-in_part
returns-clause-in_part g c = λ bytes known tells.
    let S = g.S.SwapDevice in
    let s = c.args.store.now in
    let t = c.bring_in.new.store in
    let u = c.try_step.new.store in
    let im = c.args.images.now in
    let a : ℕ → List ℕ = away_of s c.args.regions.now im (S.blocks c.args.swap.now) (S.block c.args.swap.now) in
    let b : ℕ → List ℕ = away_of t c.bring_in.new.regions im (S.blocks c.bring_in.new.swap) (S.block c.bring_in.new.swap) in
    let view = view_same a b s t c.args.regions.now c.bring_in.new.regions c.args.pid c.args.cpu.now c.bring_in.ensures.shape.tables c.bring_in.ensures.shape.holds (c.bring_in.ensures.bytes tells) in
    together_in_part a b b s t u c.args.regions.now c.bring_in.new.regions c.args.pid c.args.cpu.now bytes known view c.try_step.new.regions c.try_step.new.cpu c.try_step.result
    c.try_step.ensures.store (c.in-Ok.ensures.can_step refl) c.try_step.ensures.next (c.try_step.ensures.over.present b bytes known)

pub returns-clause-stopped : goal.returns-clause-stopped
returns-clause-stopped g c = never_stops _ _ _ _ _ c.try_step.result c.try_step.ensures.cause

pub returns-clause-causes : goal.returns-clause-causes
returns-clause-causes g c = never_stops _ _ _ _ _ c.try_step.result c.try_step.ensures.cause

pub returns-clause-cause : goal.returns-clause-cause
returns-clause-cause g c = tried_for _ _ c.try_step.result c.try_step.ensures.cause

pub returns-clause-next : goal.returns-clause-next
returns-clause-next g c = on_ran _ c.try_step.result c.try_step.ensures.next

pub returns-clause-shape : goal.returns-clause-shape
returns-clause-shape g c =
    shape_trans c.args.store.now c.bring_in.new.store c.try_step.new.store c.args.regions.now c.bring_in.new.regions c.try_step.new.regions c.bring_in.ensures.shape
    (try_shape c.bring_in.new.store c.try_step.new.store c.bring_in.new.regions c.try_step.new.regions c.try_step.ensures.store c.try_step.ensures.maps)

pub returns-clause-ready : goal.returns-clause-ready
returns-clause-ready g c =
    let S = g.S.SwapDevice in
    let r = c.bring_in.ensures.ready in
    ready_same c.args.images.now c.bring_in.new.store c.try_step.new.store c.bring_in.new.regions c.try_step.new.regions (S.blocks c.bring_in.new.swap) (S.blocks c.bring_in.new.swap) (S.block c.bring_in.new.swap) (S.block c.bring_in.new.swap)
    r (try_shape c.bring_in.new.store c.try_step.new.store c.bring_in.new.regions c.try_step.new.regions c.try_step.ensures.store c.try_step.ensures.maps) refl c.try_step.ensures.next.settled
    (c.try_step.ensures.clean.clean _ r.aged r.guarded r.clean)

pub returns-clause-same : goal.returns-clause-same
returns-clause-same g c = λ tells.
    let S = g.S.SwapDevice in
    let t = c.bring_in.new.store in
    let u = c.try_step.new.store in
    map_undone _ _ c.try_step.result
    (λ same n. with_kept c.args.images.now t u c.bring_in.new.regions c.try_step.new.regions (S.blocks c.bring_in.new.swap) (S.block c.bring_in.new.swap) c.try_step.ensures.store same n
    ∙ c.bring_in.ensures.bytes tells n) c.try_step.ensures.over.same

pub returns-in-Err-clause-puts : goal.returns-in-Err-clause-puts
returns-in-Err-clause-puts g c = stop_hands (g.C.Sink.puts c.args.console.now) (g.R.Sink.puts c.args.report.now) c.in-Err.fault c.in-Err.ensures.kind

pub returns-in-Err-clause-part : goal.returns-in-Err-clause-part
returns-in-Err-clause-part g c = λ text may bytes known tells left same.
    let S = g.S.SwapDevice in
    let away : ℕ → List ℕ = away_of c.args.store.now c.args.regions.now c.args.images.now (S.blocks c.args.swap.now) (S.block c.args.swap.now) in
    stop_part (effect (before_in away c.args.store.now c.args.regions.now c.args.pid c.args.cpu.now bytes known))
    (told_counts (g.C.Sink.puts c.args.console.now) (g.C.Sink.puts c.args.console.now) (g.R.Sink.puts c.args.report.now) (g.R.Sink.puts c.args.report.now) 0
    (g.R.Sink.taken c.args.report.now) (g.R.Sink.taken c.args.report.now)) c.in-Err.fault c.in-Err.ensures.kind

pub returns-clause-part : goal.returns-clause-part
returns-clause-part g c = λ text may bytes known tells left same.
    let S = g.S.SwapDevice in
    let s = c.args.store.now in
    let t = c.bring_in.new.store in
    let u = c.try_step.new.store in
    let im = c.args.images.now in
    let a : ℕ → List ℕ = away_of s c.args.regions.now im (S.blocks c.args.swap.now) (S.block c.args.swap.now) in
    let b : ℕ → List ℕ = away_of t c.bring_in.new.regions im (S.blocks c.bring_in.new.swap) (S.block c.bring_in.new.swap) in
    let view = view_same a b s t c.args.regions.now c.bring_in.new.regions c.args.pid c.args.cpu.now c.bring_in.ensures.shape.tables c.bring_in.ensures.shape.holds (c.bring_in.ensures.bytes tells) in
    part_first a b b s t u c.args.regions.now c.bring_in.new.regions c.args.pid c.args.cpu.now bytes known view
    (told_counts (g.C.Sink.puts c.args.console.now) (g.C.Sink.puts c.try_step.new.console) (g.R.Sink.puts c.args.report.now) (g.R.Sink.puts c.try_step.new.report) 0
    (g.R.Sink.taken c.args.report.now) (g.R.Sink.taken c.try_step.new.report)) c.try_step.result
    (c.try_step.ensures.part.part text may b bytes known left same)

pub returns-clause-idle : goal.returns-clause-idle
returns-clause-idle g c = λ none load.
    let i = c.bring_in.ensures.idle none load in
    record { device = i.device; none = subst NoneTaken (sym (ap (λ (x : Shelf). x.swap) c.try_step.ensures.store.store)) i.none }

pub returns-clause-only : goal.returns-clause-only
returns-clause-only g c = only_kept c.args.need.now c.args.store.now c.bring_in.new.store c.try_step.new.store (ap (λ (x : Shelf). x.places) c.try_step.ensures.store.store) c.bring_in.ensures.only

pub returns-clause-stays : goal.returns-clause-stays
returns-clause-stays g c = stays_kept c.args.need.now c.args.store.now c.bring_in.new.store c.try_step.new.store (ap (λ (x : Shelf). x.places) c.try_step.ensures.store.store) c.bring_in.ensures.stays

pub returns-clause-leave : goal.returns-clause-leave
returns-clause-leave g c = λ r. goes_kept c.args.store.now c.bring_in.new.store c.try_step.new.store (ap (λ (x : Shelf). x.places) c.try_step.ensures.store.store) (c.in-Ok.ensures.leave refl)

pub returns-clause-room : goal.returns-clause-room
returns-clause-room g c = subst (λ (x : Layout). used x.ranges ≤ x.size) (sym (ap (λ (x : Shelf). x.places) c.try_step.ensures.store.store)) c.bring_in.ensures.room

pub returns-clause-whole : goal.returns-clause-whole
returns-clause-whole g c =
    let t = c.bring_in.new.store in
    let u = c.try_step.new.store in
    let n = c.bring_in.new.regions in
    let o = c.try_step.new.regions in
    let tried = try_shape t u n o c.try_step.ensures.store c.try_step.ensures.maps in
    map_missed _ _ c.try_step.result (λ z whole. under_stays t u n o c.args.pid z.0 tried.tables tried.holds whole) c.try_step.ensures.whole
