use Rattle.o2_isa.proofs.StepLaws.{stepped_frame, stepped_agrees, answers_unseen}
use Rattle.o2_isa.proofs.Sizes.{stepped_lengths}
use Rattle.o2_isa.proofs.laws.steps_keep.Goals as goal

pub returns : goal.returns
returns c = record { frame = stepped_frame; agrees = stepped_agrees; lengths = stepped_lengths; unseen = answers_unseen }
