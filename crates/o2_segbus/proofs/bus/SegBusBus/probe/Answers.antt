use Rattle.std.proofs.Common.{ap, ◌∙◌}
use Rattle.std.specs.Prelude.{option_map}
use Rattle.o2_bus.specs.Loads.{rules_of}
use Rattle.o2_segbus.specs.Words.{target_of, gone_named}
use Rattle.o2_segbus.proofs.Rulings.{probe_view}
use Rattle.o2_segbus.proofs.bus.SegBusBus.probe.Goals as goal

pub returns-clause-value : goal.returns-clause-value
returns-clause-value c =
    c.load_by.ensures
    ∙ (ap (rules_of c.args.purpose c.args.sel.0) (c.target-wanted.ensures ∙ ap (option_map (target_of (gone_named c.args.self.now.store.now c.args.self.now.regions.now c.args.self.now.pid c.args.sel.0))) c.named-descriptor.ensures)
    ∙ probe_view c.args.self.now.store.ghost_name c.args.self.now.regions.ghost_name c.args.self.now.store.now c.args.self.now.regions.now
    c.args.self.now.pid c.args.self.now.registers c.args.purpose c.args.sel c.law.ensures.shelf c.args.self.now.named c.args.self.now.settled)
