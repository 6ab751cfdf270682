use Rattle.std.proofs.Common.{◌∙◌, ap, sym}
use Rattle.o2_segs.proofs.Selecting.{named_live}
use Rattle.o2_shared.specs.Shares.{is_shareable_at, number_of}
use Rattle.o2_shared.proofs.sharing.is_shared_at.Goals as goal

pub is_shared_with-requires : goal.is_shared_with-requires
is_shared_with-requires c = record { live = named_live c.args.store.now c.args.regions.now c.requires.named c.args.pid c.args.index c.in-Some.held (sym c.in-Some.ensures.held) }

pub returns-in-Some : goal.returns-in-Some
returns-in-Some c = c.is_shared_with.ensures ∙ ap (is_shareable_at c.args.store.now (number_of c.args.flag) c.args.index) c.in-Some.ensures.held

pub returns-in-None : goal.returns-in-None
returns-in-None c = ap (is_shareable_at c.args.store.now (number_of c.args.flag) c.args.index) c.in-None.ensures.held
