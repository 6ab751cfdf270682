use Rattle.std.proofs.Common.{ap, sym, subst, ◌∙◌, ◌+◌, arith}
use Rattle.o2_desc.specs.declared.descriptor.Descriptor.{Descriptor}
use Rattle.o2_isa.specs.View.{in_register, put_at}
use Rattle.o2_store.specs.Shelf.{Shelf}
use Rattle.o2_segbus.specs.Seen.{AreNamed}
use Rattle.o2_segbus.specs.Settled.{IsSettled}
use Rattle.o2_segbus.specs.Bus.{AreInside, AreLoaded, registers_of, bus_view}
use Rattle.o2_segbus.proofs.Writings.{CanWrite, room_says, write_inside, inside_after, named_after, loaded_after, write_view, with_memory}
use Rattle.o2_segbus.proofs.bus.SegBusBus.write.Goals as goal

pub overflow_add-descriptor : goal.overflow_add-descriptor
overflow_add-descriptor c =
    let w = (subst (λ (d : Descriptor). CanWrite c.args.self.now.store.now d (in_register (registers_of c.args.self.now.regions.now c.args.self.now.pid c.args.self.now.registers) c.args.reg) c.args.off c.args.width) (sym c.descriptor_in-descriptor.ensures)
    (room_says c.args.self.now.store.ghost_name c.args.self.now.regions.ghost_name c.args.self.now.store.now c.args.self.now.regions.now
    c.args.self.now.pid c.args.self.now.registers c.args.reg c.args.off c.args.width c.args.self.now.inside c.args.self.now.named
    c.args.self.now.loaded c.requires.room)) in
    omega (arith, w.part.inside, c.args.self.now.inside.small, c.ranges.off.fits)

pub write-requires-clause-room : goal.write-requires-clause-room
write-requires-clause-room c =
    write_inside c.args.self.now.store.now c.descriptor_in-descriptor.result.now _ c.args.off c.args.width
    (subst (λ (d : Descriptor). CanWrite c.args.self.now.store.now d (in_register (registers_of c.args.self.now.regions.now c.args.self.now.pid c.args.self.now.registers) c.args.reg) c.args.off c.args.width) (sym c.descriptor_in-descriptor.ensures)
    (room_says c.args.self.now.store.ghost_name c.args.self.now.regions.ghost_name c.args.self.now.store.now c.args.self.now.regions.now
    c.args.self.now.pid c.args.self.now.registers c.args.reg c.args.off c.args.width c.args.self.now.inside c.args.self.now.named
    c.args.self.now.loaded c.requires.room))

pub invariant_of-self : goal.invariant_of-self
invariant_of-self c =
    record {
      process = c.args.self.now.process;
      inside = subst (λ (s : Shelf). AreInside s) (sym c.write.ensures) (inside_after c.args.self.now.store.now (c.descriptor_in-descriptor.result.now.base + c.args.off) c.args.width c.args.value c.args.self.now.inside);
      named = subst (λ (s : Shelf). AreNamed s c.args.self.now.regions.now) (sym c.write.ensures) (named_after c.args.self.now.store.now _ c.args.self.now.regions.now c.args.self.now.named);
      settled = subst (λ (s : Shelf). IsSettled s c.args.self.now.regions.now) (sym c.write.ensures) c.args.self.now.settled;
      loaded = subst (λ (s : Shelf). AreLoaded s c.args.self.now.regions.now c.args.self.now.pid c.args.self.now.registers) (sym c.write.ensures) (loaded_after c.args.self.now.store.now _ c.args.self.now.regions.now c.args.self.now.pid c.args.self.now.registers c.args.self.now.loaded);
    }

pub returns : goal.returns
returns c =
    ap (λ (s : Shelf). bus_view c.args.self.now.store.ghost_name c.args.self.now.regions.ghost_name s c.args.self.now.regions.now c.args.self.now.pid c.args.self.now.registers) c.write.ensures
    ∙ (ap (λ (d : Descriptor). bus_view c.args.self.now.store.ghost_name c.args.self.now.regions.ghost_name
    (with_memory c.args.self.now.store.now (put_at c.args.self.now.store.now.memory (d.base + c.args.off) c.args.width c.args.value))
    c.args.self.now.regions.now c.args.self.now.pid c.args.self.now.registers) c.descriptor_in-descriptor.ensures
    ∙ write_view c.args.self.now.store.ghost_name c.args.self.now.regions.ghost_name c.args.self.now.store.now c.args.self.now.regions.now
    c.args.self.now.pid c.args.self.now.registers c.args.reg c.args.off c.args.width c.args.value c.law.ensures.shelf
    c.law.ensures.apart (room_says c.args.self.now.store.ghost_name c.args.self.now.regions.ghost_name c.args.self.now.store.now
    c.args.self.now.regions.now c.args.self.now.pid c.args.self.now.registers c.args.reg c.args.off c.args.width c.args.self.now.inside
    c.args.self.now.named c.args.self.now.loaded c.requires.room))
