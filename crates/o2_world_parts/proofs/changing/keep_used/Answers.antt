use Rattle.std.proofs.Common.{rules}
use Rattle.std.proofs.lemmas.Fn.{filter_same}
use Rattle.o2_world.specs.Changes.{is_used}
use Rattle.o2_world_parts.proofs.changing.keep_used.Goals as goal

pub returns : goal.returns
returns c = filter_same _ (is_used c.args.processes.now) _ (λ x b f k. search rules) _ _ c.retain.ensures.filtered
