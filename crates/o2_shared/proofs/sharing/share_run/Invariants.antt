use Rattle.o2_segs.specs.Members.{below_in}
use Rattle.o2_shared.specs.Shares.{MatchesShares, SharesBelow}
use Rattle.o2_shared.specs.Frames.{SharesOnce}
use Rattle.o2_shared.proofs.sharing.share_run.Given as goal

abbrev pub invariant-loop-at : goal.invariant-loop-at
invariant-loop-at l = record {
  shares : SharesBelow l.initial.regions l.regions l.from l.to l.fn.held l.at;
  more : SharesOnce l.store l.initial.regions l.store l.regions;
  matches : MatchesShares l.store l.initial.regions l.regions l.from l.to (below_in l.initial.regions l.from l.fn.held l.at);
}
