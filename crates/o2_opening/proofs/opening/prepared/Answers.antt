use Rattle.std.proofs.Common.{ap, sym, ◌∙◌, refl, ℕ, length, true}
use Rattle.o2_dynlink.specs.Outcome.{modules_of}
use Rattle.o2_regions.specs.declared.held.Region.TheVariants.{Shared}
use Rattle.o2_regions.specs.Maps.{Maps, held_at, with_reserved}
use Rattle.o2_opening.specs.Libraries.{library_indexes}
use Rattle.o2_opening.proofs.Preparing.{prepared_by}
use Rattle.o2_opening.proofs.opening.prepared.Goals as goal

pub returns-clause-prepared : goal.returns-clause-prepared
returns-clause-prepared c =
    let used : ℕ = library_indexes (modules_of c.args.linked.now.images) in
    let exact = c.reserve_libraries.ensures.exact in
    prepared_by c.args.linked.now _ (length c.as_slice.result.now) used c.in_ok-store.ensures.empty c.in_ok-store.ensures.made c.in_ok-store.ensures.out c.in_ok-store.ensures.unused
    (exact ∙ ap (λ (m : Maps). with_reserved m Shared 4096 used true) c.in_ok-regions.ensures.nothing) (λ pid i. ap (λ (m : Maps). held_at m pid i) exact ∙ c.in_ok-regions.ensures.unheld pid i)
    c.reserve_libraries.ensures.own c.new-2.ensures.items (c.requires.processes ∙ ap length (sym c.as_slice.ensures)) refl c.reserve_libraries.ensures.shared

pub returns-clause-processes : goal.returns-clause-processes
returns-clause-processes c = ap (λ (m : Maps). m.processes) c.reserve_libraries.ensures.exact ∙ c.in_ok-regions.ensures.processes ∙ ap length c.as_slice.ensures
