use Rattle.o2_cli.proofs.on_system.os2run_on_system.Goals as goal

pub returns : goal.returns
returns g c = record { promises = c.os2run.ensures.promises }
