use Rattle.std.proofs.Common.{◌≡◌, ◌-◌, false}
use Rattle.o2_ne.specs.Steps.{steps}
use Rattle.o2_image.specs.Chains.{chain_step}
use Rattle.o2_image.specs.ChainViews.{walk}
use Rattle.o2_image.proofs.chain.walk_on.Given as goal

abbrev pub invariant-loop : goal.invariant-loop
invariant-loop l = steps (chain_step l.seg l.bytes l.width) (65536 - l.counter) (walk l.walking l.marks) ≡ steps (chain_step l.seg l.bytes l.width) 65536 (record { marks = l.fn.marks; next = l.at; ended = false })
