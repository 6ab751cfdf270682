use Rattle.std.proofs.Common.{◌∙◌}
use Rattle.o2_segbus.proofs.Rulings.{code_size_view, size_view}
use Rattle.o2_segbus.proofs.bus.SegBusBus.size_of.Goals as goal

pub returns-in-Some : goal.returns-in-Some
returns-in-Some c =
    code_size_view c.args.self.now.store.ghost_name c.args.self.now.regions.ghost_name c.args.self.now.store.now c.args.self.now.regions.now c.args.self.now.pid
    c.args.self.now.registers c.args.sel.0 _ c.args.self.now.inside c.args.self.now.named c.args.self.now.loaded c.in-Some.ensures

pub returns-in-None : goal.returns-in-None
returns-in-None c =
    c.size_named.ensures
    ∙ size_view c.args.self.now.store.ghost_name c.args.self.now.regions.ghost_name c.args.self.now.store.now c.args.self.now.regions.now c.args.self.now.pid
    c.args.self.now.registers c.args.sel.0 c.args.self.now.named c.args.self.now.settled
