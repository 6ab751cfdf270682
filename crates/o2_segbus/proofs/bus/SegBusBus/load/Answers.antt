use Rattle.std.proofs.Common.{ap, sym, subst, ◌∙◌}
use Rattle.o2_desc.specs.declared.descriptor.Descriptor.{Descriptor}
use Rattle.o2_regions.specs.Maps.{Maps}
use Rattle.o2_segbus.specs.declared.registers.SegmentRegisters.{SegmentRegisters}
use Rattle.o2_segbus.specs.Bus.{bus_view}
use Rattle.o2_segbus.specs.Marking.{with_mark_of}
use Rattle.o2_segbus.specs.Registers.{with_register_in}
use Rattle.o2_segbus.specs.Words.{loaded_descriptor}
use Rattle.o2_segbus.proofs.Marked.{IsKept, load_keeps, view_named, view_with}
use Rattle.o2_segbus.proofs.bus.SegBusBus.load.Goals as goal

pub invariant_of-self : goal.invariant_of-self
invariant_of-self c =
    let k = subst (λ (m : Maps). IsKept c.args.self.now.store.now m c.args.self.now.pid c.set_register.new.registers) (sym c.mark_named.ensures)
    (subst (λ (x : SegmentRegisters). IsKept c.args.self.now.store.now
    (with_mark_of c.args.self.now.regions.now c.args.self.now.pid c.args.sel.0) c.args.self.now.pid x)
    (sym (c.set_register.ensures ∙ ap (λ (d : Descriptor). with_register_in c.args.self.now.registers c.args.reg
    (record { selector = c.args.sel.0; descriptor = d })) c.loaded-descriptor.ensures))
    (load_keeps c.args.self.now.store.ghost_name c.args.self.now.regions.ghost_name c.args.self.now.store.now c.args.self.now.regions.now
    c.args.self.now.pid c.args.self.now.registers c.args.reg c.args.sel c.args.self.now.process c.args.self.now.named
    c.args.self.now.settled c.args.self.now.loaded c.requires)) in
    record { process = k.process; inside = c.args.self.now.inside; named = k.named; settled = k.settled; loaded = k.loaded }

pub returns : goal.returns
returns c =
    ap (λ (m : Maps). bus_view c.args.self.now.store.ghost_name c.args.self.now.regions.ghost_name c.args.self.now.store.now m c.args.self.now.pid c.set_register.new.registers) c.mark_named.ensures
    ∙ (view_named c.args.self.now.store.ghost_name c.args.self.now.regions.ghost_name c.args.self.now.store.now c.args.self.now.regions.now c.args.self.now.pid c.args.sel.0 c.set_register.new.registers
    ∙ (ap (bus_view c.args.self.now.store.ghost_name c.args.self.now.regions.ghost_name c.args.self.now.store.now
    c.args.self.now.regions.now c.args.self.now.pid) (c.set_register.ensures ∙ ap (λ (d : Descriptor). with_register_in
    c.args.self.now.registers c.args.reg (record { selector = c.args.sel.0; descriptor = d })) c.loaded-descriptor.ensures)
    ∙ view_with c.args.self.now.store.ghost_name c.args.self.now.regions.ghost_name c.args.self.now.store.now c.args.self.now.regions.now
    c.args.self.now.pid c.args.self.now.registers c.args.reg (loaded_descriptor c.args.self.now.regions.now c.args.self.now.pid
    c.args.sel.0) c.args.sel))
