use Rattle.std.proofs.Common.{◌≡◌, true}
use Rattle.o2_segs.specs.Members.{below_in}
use Rattle.o2_shared.specs.Shares.{are_shareable, number_of}
use Rattle.o2_shared.proofs.sharing.are_shared_with.Given as goal

-- each member before may be shared
abbrev pub invariant-loop-at : goal.invariant-loop-at
invariant-loop-at l = are_shareable l.store l.regions (number_of l.flag) l.pid (below_in l.regions l.pid l.fn.held l.at) ≡ true
