use Rattle.std.proofs.Common.{◌≡◌, map, take}
use Rattle.o2_world.specs.Text.{lines_text}
use Rattle.o2_world_parts.specs.Effects.{line_by}
use Rattle.o2_world_parts.proofs.effect.moved_text.Given as goal

abbrev pub invariant-loop-pair : goal.invariant-loop-pair
invariant-loop-pair l = l.text.items ≡ lines_text (map (line_by l.came l.cause) (take l.pair-index l.pairs))
