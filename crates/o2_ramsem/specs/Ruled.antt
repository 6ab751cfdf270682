-- What an answer says.
use Rattle.o2_ramsem.specs.declared.semaphore.Sem.{Sem}
use Rattle.o2_ramsem.specs.declared.semaphore.Sem.TheVariants.{Word, Waits, Error}
use Rattle.o2_world.specs.SemRulings.{SemRuling, Becomes, Waiting, Refuses}

-- the ruling that an answer says
abbrev pub ruled : Sem → SemRuling
ruled (Word w) = Becomes w
ruled Waits = Waiting
ruled (Error e) = Refuses e
