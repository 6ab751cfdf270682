use Rattle.std.proofs.Common.{sym, subst}
use Rattle.std.specs.Prelude.{Ok, Err}
use Rattle.o2_base.specs.declared.memory.Fail.{Fail}
use Rattle.o2_base.specs.declared.faults.ModuleFault.{ModuleFault}
use Rattle.o2_world.specs.Starts.{next_started}
use Rattle.o2_load.specs.Loads.{start_of}
use Rattle.o2_load.specs.Progresses.{ComesAs, course}
use Rattle.o2_load.proofs.starting.start_next.Goals as goal

pub returns-in-Err-Bad-clause-comes : goal.returns-in-Err-Bad-clause-comes
returns-in-Err-Bad-clause-comes g c = λ most b is.
    let S = g.S.Segments in
    let l = c.args.linked.now in
    subst (λ (e : Fail ModuleFault). ComesAs (S.names c.next.new.self.build.segments l.images) (course (S.seen c.next.new.self.build.segments) c.next.new.self) l most
    (next_started most (Ok b) (start_of l c.args.pid c.args.process.now)) c.args.pid (Err e)) c.in-Err-Bad.field-0-is
    (c.in-Err-Bad.ensures.comes c.args.process.now most b c.requires.environment (sym c.command_place.ensures) is)
