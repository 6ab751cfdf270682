use Rattle.std.proofs.Common.{ℕ, List, subst}
use Rattle.std.specs.Prelude.{Err}
use Rattle.o2_machine.specs.declared.fault.BeginFault.{BeginFault}
use Rattle.o2_machine.specs.Begins.{starting}
use Rattle.o2_open.specs.Loads.{Tells, start_refusal}
use Rattle.o2_cli.proofs.Runs.{start_of, has_started, is_refused}
use Rattle.os2why.specs.Judges.{Starts, session_of}
use Rattle.os2why.proofs.Judging.{told}
use Rattle.os2why.proofs.judge.begin_refusal.Goals as goal

pub returns-in-Ok : goal.returns-in-Ok
returns-in-Ok c = λ input.
    let s = session_of c.args.conf.now c.args.linked in
    let begun = c.in-Ok.ensures in
    (start_of s input begun.0, has_started s input begun.0 begun.1)

pub returns-in-Err-Start : goal.returns-in-Err-Start
returns-in-Err-Start c = λ input.
    let s = session_of c.args.conf.now c.args.linked in
    let why = subst (λ (f : BeginFault). Starts (starting c.args.linked c.args.conf.now) (Err f)) c.in-Err-Start.field-0-is c.in-Err-Start.ensures in
    told c.refused_start.result _ _
    (subst (λ (ps : List ℕ). Tells c.refused_start.result (start_refusal s.conf ps c.in-Err-Start.pid c.in-Err-Start.fault)) c.requires.programs c.refused_start.ensures)
    (is_refused s input (c.in-Err-Start.pid, c.in-Err-Start.fault) why)
