use Rattle.std.proofs.Common.{[]}
use Rattle.os2trace.proofs.follow.shown_turn.Goals as goal

pub prepared-requires : goal.prepared-requires
prepared-requires c = record { shown = (c.requires.going.together.ready (λ k. [])).pictures }

pub show-requires : goal.show-requires
show-requires c = record { shown = (c.turn-turn.ensures.going.together.ready (λ k. [])).pictures }
