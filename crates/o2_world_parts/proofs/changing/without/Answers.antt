use Rattle.std.proofs.Common.{rules, ℕ}
use Rattle.std.proofs.lemmas.Fn.{filter_same}
use Rattle.std.specs.Prelude.{not, ◌==◌}
use Rattle.o2_world.specs.World.{Held}
use Rattle.o2_world_parts.proofs.changing.without.Goals as goal

pub returns : goal.returns
returns c = filter_same _ (λ (e : ℕ × Held). not (e.0 == c.args.index)) _ (λ x b f k. search rules) _ _ c.retain.ensures.filtered
