use Rattle.std.proofs.Common.{◌≡◌, ◌+◌, ◌-◌, ◌/◌, ◌≤◌, option_map, None}
use Rattle.o2_world.specs.Heaps.{chain_from}
use Rattle.o2_subseg.specs.Spots.{at_first, spot_in}
use Rattle.o2_subseg.proofs.Searches.{spot}
use Rattle.o2_subseg.proofs.scan.walk.Given as goal

-- a search of all blocks ends where one of those that are left does, from here on
abbrev pub invariant-loop-passed : goal.invariant-loop-passed
invariant-loop-passed l = record {
  inside : l.link + 2 ≤ l.size;
  low : l.low ≤ 131071;
  rest : option_map (λ bs. spot_in l.seek (at_first l.size) bs) (chain_from (l.size / 4) l.bytes l.size 8 4)
      ≡ option_map (λ bs. spot_in l.seek (spot l.size l.before None) bs) (chain_from (l.size / 4 - l.passed) l.bytes l.size l.low l.link);
}
