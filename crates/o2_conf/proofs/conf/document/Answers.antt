use Rattle.o2_conf.proofs.Document.{is_document, no_document}
use Rattle.o2_conf.proofs.conf.document.Goals as goal

pub returns-in-Ok : goal.returns-in-Ok
returns-in-Ok c = is_document _ _ c.in-Ok.ensures.ok.0 c.in-Ok.ensures.ok.1

pub returns-else-is_memory : goal.returns-else-is_memory
returns-else-is_memory c =
    no_document _ (c.in-Err.ensures.refused (λ m. let yes = c.is_memory.ensures.1 m in let no = c.if-is_memory.false in cc))
