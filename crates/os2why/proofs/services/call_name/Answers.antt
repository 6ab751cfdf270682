use Rattle.std.proofs.Common.{ap, sym}
use Rattle.os2why.specs.Sentences.{row_name}
use Rattle.os2why.proofs.services.call_name.Goals as goal

pub returns : goal.returns
returns c = sym (ap row_name c.service_at.ensures)
