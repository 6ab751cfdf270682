-- The puts of a turn that ends the run.
use Rattle.std.proofs.Common.{◌≡◌, ℕ, ◌+◌, true, false, List, Option, length, ap, sym, ◌∙◌, refl, arith, ◌==◌}
use Rattle.o2_world.specs.World.{World, Setting}
use Rattle.o2_world.specs.Run.{is_over}
use Rattle.o2_conf.specs.Dispatch.{Dispatch}
use Rattle.o2_sched.specs.Schedule.{pick_of}
use Rattle.o2_sched.specs.declared.sched.Pick.TheVariants.{AllEnded, BudgetSpent}
use Rattle.o2_run.specs.declared.steps.Stop.{Stop}
use Rattle.o2_run.specs.declared.steps.Stop.TheVariants.{Input, NoRoom, SwapFull, SwapFault}
use Rattle.o2_run.specs.Faults.{turn_of}
use Rattle.o2_run.specs.Pieces.{Counts, counts, told_counts, Hands, FailedHands, TurnHands}
use Rattle.o2_machine.specs.StandsFor.{StandsFor}
use Rattle.o2_machine.specs.declared.machine.Machine.{Machine}
use Rattle.o2_machine.proofs.Turns.{all_spent, any_is, none_left}

-- one line more
pub one_line : (c r q ahead : ℕ) (t u : Option (List ℕ)) → q ≡ r + 1 → Hands (told_counts c c r q ahead t u) 0 (ahead + 1)
one_line c r q ahead t u put = record { to_console = omega arith; to_report = omega (arith, put) }

-- behind a step that has put nothing
pub stop_line_put : (a b x y z ahead : ℕ) (t u : Option (List ℕ)) → Hands (counts a b x y 0) 0 0 → z ≡ y + 1 → Hands (told_counts a b x z ahead t u) 0 (ahead + 1)
stop_line_put a b x y z ahead t u h put = record { to_console = h.to_console; to_report = omega (arith, h.to_report, put) }

pub by_stop : (s : Setting) (w : World) (n : Counts) (why : Stop) → Hands n 0 (length w.lines + 1) → TurnHands s w n (turn_of why)
by_stop s w n Input h = h
by_stop s w n NoRoom h = h
by_stop s w n SwapFull h = h
by_stop s w n SwapFault h = h

-- the last line, which failed
module _ (m : Machine) (device : ℕ) (block : ℕ → List ℕ) (s : Setting) (w : World) (n : Counts) (stands : StandsFor m device block s w) (last : Hands n 0 (length w.lines + 1)) where
  at_over : is_over w ≡ true → FailedHands s w n
  at_over over = record { in_step = λ on. let never : true ≡ false = sym over ∙ on in absurd (cc); at_end = λ e. last }

  pub failed_all : pick_of m.sched ≡ AllEnded → FailedHands s w n
  failed_all pick = at_over (let none = any_is m w false stands.flags (none_left m.sched pick) in rw none refl)

  pub failed_spent : pick_of m.sched ≡ BudgetSpent → FailedHands s w n
  failed_spent pick =
      let both = all_spent m.sched pick in
      let lives = any_is m w true stands.flags both.0 in
      let spent = ap (λ (d : Dispatch). d.budget == 0) stands.dispatch ∙ both.1 in
      at_over (rw (lives, spent) refl)
