use Rattle.os2why.proofs.Judging.{unbegun}
use Rattle.os2why.proofs.judge.begins.Goals as goal

pub returns-in-Ok : goal.returns-in-Ok
returns-in-Ok c = (c.in-Ok.ensures.begins.built, c.in-Ok.ensures.begins.starts)

pub returns : goal.returns
returns c = unbegun _ _ _ _ c.in-Err.fault c.in-Err.ensures.begins
