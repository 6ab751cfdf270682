use Rattle.o2_service.proofs.Clocks.{said_learned, use_live}
use Rattle.o2_regions.specs.Uses.{segment_in}
use Rattle.o2_service.proofs.learning.learn_next.Goals as goal

pub touch_used-requires : goal.touch_used-requires
touch_used-requires c = record { live = λ id e. use_live c.args.store.now c.args.regions.now c.next_used-used.new.self id c.requires.held (c.next_used-used.ensures.clears _ e) }

pub returns-clause-learned : goal.returns-clause-learned
returns-clause-learned c =
    said_learned c.args.store.now c.touch_used.new.store c.args.regions.now c.next_used-used.new.self (segment_in c.next_used-used.result) c.law.ensures.shelf c.requires.held
    c.next_used-used.ensures.clears c.next_used-used.ensures.stays c.touch_used.ensures
