use Rattle.std.proofs.Common.{◌≡◌, ℕ, true, ap, refl, subst, sym, ◌∙◌}
use Rattle.o2_huge.specs.Growth.{is_of_run}
use Rattle.o2_huge.specs.Resized.{run_count}
use Rattle.o2_huge.proofs.Asking.{huge_none, huge_other}
use Rattle.o2_huge.proofs.Firsts.{refused_first}
use Rattle.o2_huge.proofs.Following.{never_stops, refused_row, refused_run}
use Rattle.o2_huge.proofs.reallocating.realloc_huge.Goals as goal

pub realloc_run-requires-clause-held : goal.realloc_run-requires-clause-held
realloc_run-requires-clause-held g c = sym c.in-Some.ensures

pub realloc_run-requires-clause-first : goal.realloc_run-requires-clause-first
realloc_run-requires-clause-first g c = subst (λ (i : ℕ). is_of_run i c.in-Some.held ≡ true) c.index.ensures c.in-Some-run_at.ensures.run.0

pub realloc_run-requires-clause-run : goal.realloc_run-requires-clause-run
realloc_run-requires-clause-run g c = c.in-Some-run_at.ensures.run.1 ∙ ap (λ (i : ℕ). record { first = i; count = run_count i c.in-Some.held }) c.index.ensures

pub returns-in-None-run_at-clause-row : goal.returns-in-None-run_at-clause-row
returns-in-None-run_at-clause-row g c = λ p o known.
    (let m = c.args.regions.now in
    let h = c.in-Some.held in
    let other = ap (λ (i : ℕ). is_of_run i h) (sym c.index.ensures) ∙ c.in-None-run_at.ensures.none in
    refused_row _ 5 p c.args.pid c.args.store.now m c.args.images.now _ _ c.args.cpu.now c.refusal.result known.shelf known.maps
    (huge_other p o c.args.pid c.args.segs c.args.part c.args.sel c.args.cpu.now m h known.maps (sym c.in-Some.ensures) other) c.refusal.ensures)

pub returns-in-None-run_at-clause-stops : goal.returns-in-None-run_at-clause-stops
returns-in-None-run_at-clause-stops g c = λ p o known. never_stops _ _ _ _ _ _ (λ e. absurd (cc)) (λ e. absurd (cc)) (λ none. record { device = refl; none = none })

pub returns-in-None-run_at-clause-sizes : goal.returns-in-None-run_at-clause-sizes
returns-in-None-run_at-clause-sizes g c = refused_run c.args.images.now c.args.keep.now c.args.store.now c.args.regions.now c.requires.caller.order c.requires.backed.clean

pub returns-in-None-clause-row : goal.returns-in-None-clause-row
returns-in-None-clause-row g c = λ p o known.
    refused_row _ 5 p c.args.pid c.args.store.now c.args.regions.now c.args.images.now _ _ c.args.cpu.now c.refusal-in-None.result known.shelf known.maps
    (huge_none p o c.args.pid c.args.segs c.args.part c.args.sel c.args.cpu.now c.args.regions.now known.maps (sym c.in-None.ensures)) c.refusal-in-None.ensures

pub returns-in-None-clause-stops : goal.returns-in-None-clause-stops
returns-in-None-clause-stops g c = λ p o known. never_stops _ _ _ _ _ _ (λ e. absurd (cc)) (λ e. absurd (cc)) (λ none. record { device = refl; none = none })

pub returns-in-None-clause-sizes : goal.returns-in-None-clause-sizes
returns-in-None-clause-sizes g c = refused_run c.args.images.now c.args.keep.now c.args.store.now c.args.regions.now c.requires.caller.order c.requires.backed.clean

pub returns-in-None-run_at-clause-always_no_room : goal.returns-in-None-run_at-clause-always_no_room
returns-in-None-run_at-clause-always_no_room g c = λ p o known x.
    (let m = c.args.regions.now in
    let h = c.in-Some.held in
    let other = ap (λ (i : ℕ). is_of_run i h) (sym c.index.ensures) ∙ c.in-None-run_at.ensures.none in
    absurd (refused_first c.args.store.now _ 5 _ (huge_other p o c.args.pid c.args.segs c.args.part c.args.sel c.args.cpu.now m h known.maps (sym c.in-Some.ensures) other) x))

pub returns-in-None-clause-always_no_room : goal.returns-in-None-clause-always_no_room
returns-in-None-clause-always_no_room g c = λ p o known x.
    absurd (refused_first c.args.store.now _ 5 _ (huge_none p o c.args.pid c.args.segs c.args.part c.args.sel c.args.cpu.now c.args.regions.now known.maps (sym c.in-None.ensures)) x)
