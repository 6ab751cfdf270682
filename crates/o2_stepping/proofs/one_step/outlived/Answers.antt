use Rattle.std.proofs.Common.{◌≡◌, ℕ, ◌+◌, true, false, [], ◌∷◌, ap, sym, ◌∙◌, refl, subst, arith}
use Rattle.o2_isa.specs.declared.cpu.Cpu.{Cpu}
use Rattle.o2_isa.specs.View.{whole}
use Rattle.o2_world.specs.Calls.{Effect}
use Rattle.o2_world.specs.Effect.{has_trap_flag}
use Rattle.o2_world.specs.declared.types.State.TheVariants.{Live}
use Rattle.o2_world.specs.World.{Traps}
use Rattle.o2_run.specs.Pieces.{told_counts, puts_of}
use Rattle.o2_run.proofs.FailedLines.{fails_behind, fails_first}
use Rattle.o2_stepping.specs.Pieces.{LatePart}
use Rattle.o2_stepping.specs.Ran.{IsDone}
use Rattle.o2_stepping.proofs.Leaving.{late_with_trap, made_with_trap, with_flag, without_flag, done_by}
use Rattle.o2_stepping.proofs.one_step.outlived.Goals as goal

pub returns-then-not-has_trap_flag-clause-leaves : goal.returns-then-not-has_trap_flag-clause-leaves
returns-then-not-has_trap_flag-clause-leaves g c = λ f b e cpu old new i j x d r number registers made.
    let flag : has_trap_flag b.cpu.flags ≡ false = ap (λ (z : Cpu). has_trap_flag z.flags) registers ∙ sym c.has_trap_flag.ensures ∙ c.if-not-has_trap_flag.true in
    subst (λ (y : Effect). IsDone y (record { state = Live; tally = c.args.tally; whole = true }) cpu (whole f new).bytes j x d r (g.R.Sink.taken c.args.report.now)) (sym (without_flag b e flag)) (done_by f e Live c.args.tally cpu new j x d r _ made)

pub returns-in-Done-clause-leaves : goal.returns-in-Done-clause-leaves
returns-in-Done-clause-leaves g c = λ f b e cpu old new i j x d r number registers made.
    let flag : has_trap_flag b.cpu.flags ≡ true = ap (λ (z : Cpu). has_trap_flag z.flags) registers ∙ sym c.has_trap_flag.ensures ∙ c.if-not-has_trap_flag.false in
    made_with_trap f b e c.args.tally (record { bytes = c.args.tally.bytes; lines = c.args.tally.lines + 1 }) cpu new j x d r _ _ refl refl flag made.changes made (rw (number, registers) c.in-Done.ensures.report)

pub returns-in-Failed-clause-leaves : goal.returns-in-Failed-clause-leaves
returns-in-Failed-clause-leaves g c = λ f b e cpu old new i j x d r number registers made.
    let flag : has_trap_flag b.cpu.flags ≡ true = ap (λ (z : Cpu). has_trap_flag z.flags) registers ∙ sym c.has_trap_flag.ensures ∙ c.if-not-has_trap_flag.false in
    late_with_trap f b e c.args.tally (record { bytes = c.args.tally.bytes; lines = c.args.tally.lines + 1 }) cpu new j x d r _ _ refl refl flag made.changes made (rw (number, registers) c.in-Failed.ensures.report)

pub returns-then-not-has_trap_flag-clause-part : goal.returns-then-not-has_trap_flag-clause-part
returns-then-not-has_trap_flag-clause-part g c = λ f b e cpu new j x d r k l m number registers made hands. tt

pub returns-in-Done-clause-part : goal.returns-in-Done-clause-part
returns-in-Done-clause-part g c = λ f b e cpu new j x d r k l m number registers made hands. tt

pub returns-in-Failed-clause-part : goal.returns-in-Failed-clause-part
returns-in-Failed-clause-part g c = λ f b e cpu new j x d r k l m number registers made hands.
    let flag : has_trap_flag b.cpu.flags ≡ true = ap (λ (z : Cpu). has_trap_flag z.flags) registers ∙ sym c.has_trap_flag.ensures ∙ c.if-not-has_trap_flag.false in
    let now = g.R.Sink.taken c.put_trap.new.report in
    let count = g.R.Sink.puts c.put_trap.new.report in
    let put = hands.to_report in
    let lines = made.lines in
    subst (λ (y : Effect). LatePart false y (told_counts k l m count 0 r now)) (sym (with_flag b e flag made.state made.waits)) (
      hands.to_console ∙ ap (λ (n : ℕ). k + puts_of n) (sym made.piece),
      fails_behind e.lines (Traps b.number 1 b.cpu.cs b.cpu.ip ∷ []) r (g.R.Sink.taken c.args.report.now) now m (g.R.Sink.puts c.args.report.now) count made.to_report (omega (arith, put, lines))
          (fails_first (Traps b.number 1 b.cpu.cs b.cpu.ip) [] (g.R.Sink.taken c.args.report.now) now (g.R.Sink.puts c.args.report.now) count (rw (number, registers) c.in-Failed.ensures.report) c.in-Failed.ensures.puts),
    )
