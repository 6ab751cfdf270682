use Rattle.std.proofs.Common.{◌≡◌, take}
use Rattle.o2_world.specs.Heaps.{put_words}
use Rattle.o2_subseg.proofs.calls.follow.Given as goal

-- the words before this one are written
abbrev pub invariant-loop-at : goal.invariant-loop-at
invariant-loop-at l = l.bytes ≡ put_words l.initial.bytes (take l.at l.plan.words)
