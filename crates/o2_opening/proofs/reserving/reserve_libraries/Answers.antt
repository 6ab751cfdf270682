use Rattle.std.proofs.Common.{ℕ, ◌+◌, ◌&&◌, nat_le, nat_lt, true, ap, ◌∙◌, arith}
use Rattle.o2_regions.specs.declared.held.Region.TheVariants.{Private, Shared}
use Rattle.o2_regions.specs.Maps.{Maps, is_reserved, with_reserved}
use Rattle.o2_opening.proofs.Libraries.{none_taken, own_then, shared_then}
use Rattle.o2_opening.proofs.reserving.reserve_libraries.Goals as goal

pub reserve-requires-clause-free : goal.reserve-requires-clause-free
reserve-requires-clause-free c =
    let few = c.library_indexes.ensures.most in
    (omega arith, omega (arith, few), λ j from to. none_taken c.args.regions.now c.requires.unheld c.requires.unreserved j)

pub returns-clause-exact : goal.returns-clause-exact
returns-clause-exact c = c.reserve.ensures.exact ∙ ap (λ (n : ℕ). with_reserved c.args.regions.now Shared 4096 n true) c.library_indexes.ensures.value

pub returns-clause-shared : goal.returns-clause-shared
returns-clause-shared c = λ i.
    ap (λ (m : Maps). is_reserved m Shared i) c.reserve.ensures.exact
    ∙ shared_then c.args.regions.now c.library_indexes.result c.law.ensures c.library_indexes.ensures.most c.requires.unreserved i
    ∙ ap (λ (n : ℕ). nat_le 4096 i && nat_lt i (4096 + n)) c.library_indexes.ensures.value

pub returns-clause-own : goal.returns-clause-own
returns-clause-own c = λ pid i there.
    let processes = ap (λ (m : Maps). m.processes) c.reserve.ensures.exact in
    ap (λ (m : Maps). is_reserved m (Private pid) i) c.reserve.ensures.exact
    ∙ own_then c.args.regions.now c.library_indexes.result c.law.ensures c.library_indexes.ensures.most c.requires.unreserved pid i (there.0, omega (arith, processes, there.1))
