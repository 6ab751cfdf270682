use Rattle.std.proofs.Common.{rules, ℕ}
use Rattle.std.proofs.lemmas.Fn.{filter_same}
use Rattle.o2_world.specs.World.{Segment}
use Rattle.o2_world.specs.Holders.{is_held}
use Rattle.o2_world_parts.proofs.changing.keep_held.Goals as goal

pub returns : goal.returns
returns c = filter_same _ (λ (e : ℕ × Segment). is_held c.args.processes.now e.0) _ (λ x b f k. search rules) _ _ c.retain.ensures.filtered
