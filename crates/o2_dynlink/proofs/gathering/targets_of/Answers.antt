use Rattle.o2_dynlink.proofs.gathering.targets_of.Goals as goal

pub gathered_by-requires-clause-short : goal.gathered_by-requires-clause-short
gathered_by-requires-clause-short c = rw c.as_slice-2.ensures.value c.in_ok-order.ensures.few
