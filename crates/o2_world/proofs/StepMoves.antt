-- What a step changes beside bytes and registers, by its shape.
use Rattle.std.proofs.Common.{ℕ, ◌&&◌, not, Bool, true, false, cond, refl}
use Rattle.std.specs.Prelude.{Result, Ok, Err}
use Rattle.o2_isa.specs.declared.cpu.Cpu.{Cpu}
use Rattle.o2_isa.specs.declared.cpu.Stop.{Stop}
use Rattle.o2_isa.specs.declared.cpu.Stop.TheVariants as stop
use Rattle.o2_isa.specs.Presence.{SameSelectors}
use Rattle.o2_isa.specs.Steps.{State as Machine, state}
use Rattle.o2_isa.specs.Step.{stepped}
use Rattle.o2_world.specs.World.{is_live}
use Rattle.o2_world.specs.CallParts.{Before, Effect, returned}
use Rattle.o2_world.specs.Slots.{words_in}
use Rattle.o2_world.specs.Outcomes.{CallRow, Does, Fails, Waits, Leaves, Outcome, come_out}
use Rattle.o2_world.specs.Calls.{serviced}
use Rattle.o2_world.specs.Effect.{answered, effect, has_trap_flag, single_stepped}
use Rattle.o2_world.specs.Moves.{AllMoves, NoneMoves, OwnMoves}
use Rattle.o2_world.specs.RowLaws.{IsLawful, OutcomeMoves}
use Rattle.o2_world.proofs.Lawful.{lawful}
use Rattle.o2_world.proofs.Serving.{by_service}

come_moves : (r : CallRow) (b : Before) (next : ℕ) (a : ℕ → ℕ) (o : Outcome) → ((c : Cpu) → SameSelectors c b.cpu → OutcomeMoves b c o)
    → AllMoves b (come_out r b next a o).cpu (come_out r b next a o).changes
come_moves r b next a (Fails error values) h = OwnMoves (NoneMoves refl)
come_moves r b next a (Does d) h = h (returned b.cpu next (words_in r.slots) 0) (record { es = refl; cs = refl; ss = refl; ds = refl })
come_moves r b next a Waits h = OwnMoves (NoneMoves refl)
come_moves r b next a (Leaves action code) h = OwnMoves (NoneMoves refl)

pub serviced_moves : (service : ℕ) (b : Before) (next : ℕ) → AllMoves b (serviced b service next).cpu (serviced b service next).changes
serviced_moves service b next =
    by_service (λ (e : Effect). AllMoves b e.cpu e.changes) IsLawful b next lawful (OwnMoves (NoneMoves refl)) (OwnMoves (NoneMoves refl))
    (λ r law a good. come_moves r b next a (r.outcome b a) (law.moves b a)) service

answered_moves : (b : Before) (r : Result Machine Stop) → AllMoves b (answered b r).cpu (answered b r).changes
answered_moves b (Ok s) = OwnMoves (NoneMoves refl)
answered_moves b (Err (stop.Trap vector code)) = OwnMoves (NoneMoves refl)
answered_moves b (Err (stop.Gate service next)) = serviced_moves service b next
answered_moves b (Err (stop.Miss s)) = OwnMoves (NoneMoves refl)

either : (b : Before) (t : Bool) (e f : Effect) → AllMoves b e.cpu e.changes → AllMoves b f.cpu f.changes
    → AllMoves b (cond t e f).cpu (cond t e f).changes
either b true e f h k = h
either b false e f h k = k

single_moves : (b : Before) (e : Effect) → AllMoves b e.cpu e.changes → AllMoves b (single_stepped b e).cpu (single_stepped b e).changes
single_moves b e h = either b (has_trap_flag b.cpu.flags && (is_live e.state && not e.waits)) _ e h h

pub effect_moves : (b : Before) → AllMoves b (effect b).cpu (effect b).changes
unfolding effect
effect_moves b = single_moves b (answered b (stepped (state b.cpu b.view))) (answered_moves b (stepped (state b.cpu b.view)))
