use Rattle.std.proofs.Common.{ap, ◌∙◌}
use Rattle.std.specs.Prelude.{Option, Some, None}
use Rattle.o2_desc.specs.declared.descriptor.Descriptor.{Descriptor}
use Rattle.o2_bus.specs.Loads.{service_at}
use Rattle.o2_segbus.specs.Words.{rights_by}
use Rattle.o2_segbus.proofs.Rulings.{rights_view}
use Rattle.o2_segbus.proofs.bus.SegBusBus.rights_of.Goals as goal

pub returns-in-Some : goal.returns-in-Some
returns-in-Some c =
    ap Some c.shown.ensures
    ∙ (ap (λ (d : Option Descriptor). rights_by d (service_at c.args.sel.0)) c.in-Some.ensures
    ∙ rights_view c.args.self.now.store.ghost_name c.args.self.now.regions.ghost_name c.args.self.now.store.now c.args.self.now.regions.now
    c.args.self.now.pid c.args.self.now.registers c.args.sel.0 c.args.self.now.named c.args.self.now.settled)

pub returns-in-Some-service : goal.returns-in-Some-service
returns-in-Some-service c =
    ap (rights_by None) c.in-Some-service.ensures
    ∙ (ap (λ (d : Option Descriptor). rights_by d (service_at c.args.sel.0)) c.in-None.ensures
    ∙ rights_view c.args.self.now.store.ghost_name c.args.self.now.regions.ghost_name c.args.self.now.store.now c.args.self.now.regions.now
    c.args.self.now.pid c.args.self.now.registers c.args.sel.0 c.args.self.now.named c.args.self.now.settled)

pub returns-in-None-service : goal.returns-in-None-service
returns-in-None-service c =
    ap (rights_by None) c.in-None-service.ensures
    ∙ (ap (λ (d : Option Descriptor). rights_by d (service_at c.args.sel.0)) c.in-None.ensures
    ∙ rights_view c.args.self.now.store.ghost_name c.args.self.now.regions.ghost_name c.args.self.now.store.now c.args.self.now.regions.now
    c.args.self.now.pid c.args.self.now.registers c.args.sel.0 c.args.self.now.named c.args.self.now.settled)
