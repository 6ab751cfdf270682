use Rattle.std.proofs.Common.{rules, ℕ, List}
use Rattle.std.proofs.lemmas.Fn.{filter_same}
use Rattle.o2_world.specs.Holders.{is_held}
use Rattle.o2_world_parts.proofs.changing.keep_told.Goals as goal

pub returns : goal.returns
returns c = filter_same _ (λ (t : List ℕ × ℕ). is_held c.args.processes.now t.1) _ (λ x b f k. search rules) _ _ c.retain.ensures.filtered
