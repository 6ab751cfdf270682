use Rattle.o2_cli.proofs.program.perform.Goals as goal

pub returns : goal.returns
returns g c = record {
  performs =
      record {
        status = c.os2run-status.result;
        promises = c.os2run-status.ensures.promises;
        told = c.tell.ensures.tells;
        number = c.number.ensures;
      };
}
