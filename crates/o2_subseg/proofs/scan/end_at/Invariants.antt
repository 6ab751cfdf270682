use Rattle.std.proofs.Common.{◌≡◌, ◌+◌, ◌-◌, ◌≤◌, option_map}
use Rattle.o2_world.specs.Heaps.{chain_from}
use Rattle.o2_subseg.proofs.scan.end_at.Given as goal

-- the chain behind the block is good where what is left of it is, from here on
abbrev pub invariant-loop-passed : goal.invariant-loop-passed
invariant-loop-passed l = record {
  inside : l.link + 2 ≤ l.spot.size;
  low : l.low ≤ 131071;
  rest : option_map (λ bs. l.spot) (chain_from l.count l.bytes l.spot.size (l.fn.block.offset + l.fn.block.length + 1) l.fn.block.offset)
      ≡ option_map (λ bs. l.spot) (chain_from (l.count - l._passed) l.bytes l.spot.size l.low l.link);
}
