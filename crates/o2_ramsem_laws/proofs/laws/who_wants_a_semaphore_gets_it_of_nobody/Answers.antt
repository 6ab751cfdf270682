use Rattle.std.proofs.Common.{ℕ, ◌≤◌, List, ap, sym, arith, subst}
use Rattle.o2_world.specs.Effect.{effect}
use Rattle.o2_world.specs.Run.{after, before, next_dispatch, ready}
use Rattle.o2_world.specs.World.{Process}
use Rattle.o2_world.proofs.Words.{ready_stays}
use Rattle.o2_ramsem_laws.specs.Told.{told}
use Rattle.o2_ramsem_laws.specs.Kept.{number_at}
use Rattle.o2_ramsem_laws.specs.Wants.{Answers}
use Rattle.o2_ramsem_laws.proofs.Runs.{played_along}
use Rattle.o2_ramsem_laws.proofs.Sequences.{owner_is}
use Rattle.o2_ramsem_laws.proofs.Steps.{IsOne, names_own, played_as}
use Rattle.o2_ramsem_laws.proofs.Wanting.{wants_answered}
use Rattle.o2_ramsem_laws.proofs.laws.who_wants_a_semaphore_gets_it_of_nobody.Goals as goal

pub returns : goal.returns
returns c = λ s w place first last k is low high p at timeout wants.
    let u = after s w k in
    let v = ready u in
    let behind = ready_stays u in
    let kept = is.kept k low high in
    let n = (next_dispatch s v).current in
    let most : k ≤ last = omega (arith, high) in
    let played = played_as (number_at v place) (number_at u place) (told place v.lines) (told place u.lines) kept.word (ap (told place) behind.lines) (played_along s w place first last is k low most) in
    let owner = owner_is (number_at v place) (told place v.lines) played in
    subst (λ (m : ℕ). Answers (effect (before s v n p)) m timeout) owner
    (wants_answered (before s v n p) place timeout (names_own s v n p place at (subst (λ (ps : List Process). IsOne ps place) (sym behind.processes) kept.one)) wants)
