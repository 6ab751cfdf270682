use Rattle.o2_service.proofs.Among.{live_same}
use Rattle.o2_service.proofs.Movings.{told_but}
use Rattle.o2_service.proofs.Placing.{held_same}
use Rattle.o2_service.proofs.bringing.fill_gap.Goals as goal

pub settle_moved-requires : goal.settle_moved-requires
settle_moved-requires g c =
    let s = c.args.store.now in
    let t = c.bring_to_gap-answer.new.self in
    let q = c.bring_to_gap-answer.ensures.keeps.tables in
    record {
      live = live_same s t c.args.id q c.requires.live;
      held = held_same s t c.args.regions.now c.requires.held q;
      others = told_but s t c.args.id.key c.args.regions.now c.requires.settled q c.bring_to_gap-answer.ensures.alone;
    }
