use Rattle.o2_machine.proofs.FirstStands.{first_sound, first_told}
use Rattle.o2_machine.proofs.machine.Machine.begin.Goals as goal

pub finish-requires-clause-sound : goal.finish-requires-clause-sound
finish-requires-clause-sound g c = first_sound c.args.linked c.args.conf.now c.requires.within c.requires.linked

pub finish-requires-clause-told : goal.finish-requires-clause-told
finish-requires-clause-told g c = first_told c.args.linked c.args.conf.now c.requires.linked
