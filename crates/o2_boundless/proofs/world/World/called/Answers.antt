use Rattle.std.proofs.Common.{ℕ}
use Rattle.o2_world.specs.Calls.{row_of}
use Rattle.o2_world.specs.Holders.{process_at}
use Rattle.o2_boundless.specs.Shown.{Shown}
use Rattle.o2_boundless.proofs.Behind.{call_ok, error_ok}
use Rattle.o2_boundless.proofs.world.World.called.Goals as goal

pub returns-clause-world : goal.returns-clause-world
returns-clause-world c =
    call_ok c.called_by.result (λ (t : Shown × ℕ). t.0) c.args.self.now c.args.pid c.args.args.now (process_at c.args.self.now.world.processes c.args.pid) (row_of c.args.service)
    c.in-Some.process.now c.in-Some.ensures c.called_by.ensures.world

pub returns-clause-error : goal.returns-clause-error
returns-clause-error c =
    error_ok c.called_by.result (λ (t : Shown × ℕ). t.1) c.args.self.now c.args.pid c.args.args.now (process_at c.args.self.now.world.processes c.args.pid) (row_of c.args.service)
    c.in-Some.process.now c.in-Some.ensures c.called_by.ensures.error
