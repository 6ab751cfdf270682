use Rattle.std.proofs.Common.{ap, sym, subst, ◌∙◌, ◌+◌, length, arith}
use Rattle.o2_desc.specs.declared.descriptor.Descriptor.{Descriptor}
use Rattle.o2_phys.specs.Bytes.{with_part}
use Rattle.o2_isa.specs.View.{is_writable, bound_in}
use Rattle.o2_store.specs.Shelf.{Shelf}
use Rattle.o2_segbus.specs.Seen.{AreNamed, hold_in}
use Rattle.o2_segbus.specs.Settled.{IsSettled}
use Rattle.o2_segbus.specs.Bus.{AreInside, AreLoaded, bus_view}
use Rattle.o2_segbus.proofs.Ranging.{inside_behind, put_view, reach, reach_by, reach_inside}
use Rattle.o2_segbus.proofs.Writings.{loaded_after, named_after, with_memory}
use Rattle.o2_segbus.proofs.ranges.SegBusRanges.put.Goals as goal

pub overflow_add-descriptor : goal.overflow_add-descriptor
overflow_add-descriptor c =
    let b = c.args.self.now in
    let d = c.loaded-descriptor.result in
    let w = reach_inside b.store.now d (bound_in (hold_in b.regions.now b.pid) c.args.sel.0) is_writable c.args.offset (length c.args.part.now)
    (reach_by b.store.ghost_name b.regions.ghost_name b.store.now b.regions.now b.pid c.args.sel.0 b.registers d is_writable c.args.offset
    (length c.args.part.now) c.loaded-descriptor.ensures b.inside b.named b.settled c.requires.some c.requires.ready) in
    omega (arith, w, b.inside.small)

pub write_bytes-requires-clause-room : goal.write_bytes-requires-clause-room
write_bytes-requires-clause-room c =
    let b = c.args.self.now in
    let d = c.loaded-descriptor.result in
    reach_inside b.store.now d (bound_in (hold_in b.regions.now b.pid) c.args.sel.0) is_writable c.args.offset (length c.args.part.now)
    (reach_by b.store.ghost_name b.regions.ghost_name b.store.now b.regions.now b.pid c.args.sel.0 b.registers d is_writable c.args.offset
    (length c.args.part.now) c.loaded-descriptor.ensures b.inside b.named b.settled c.requires.some c.requires.ready)

pub write_bytes-requires-clause-small : goal.write_bytes-requires-clause-small
write_bytes-requires-clause-small c = c.args.self.now.inside.small

pub invariant_of-self : goal.invariant_of-self
invariant_of-self c =
    let b = c.args.self.now in
    let d = c.loaded-descriptor.result in
    let w = reach_inside b.store.now d (bound_in (hold_in b.regions.now b.pid) c.args.sel.0) is_writable c.args.offset (length c.args.part.now)
    (reach_by b.store.ghost_name b.regions.ghost_name b.store.now b.regions.now b.pid c.args.sel.0 b.registers d is_writable c.args.offset
    (length c.args.part.now) c.loaded-descriptor.ensures b.inside b.named b.settled c.requires.some c.requires.ready) in
    record {
      process = b.process;
      inside = subst (λ (s : Shelf). AreInside s) (sym c.write_bytes.ensures) (inside_behind b.store.now (c.loaded-descriptor.result.base + c.args.offset) c.args.part.now w b.inside);
      named = subst (λ (s : Shelf). AreNamed s b.regions.now) (sym c.write_bytes.ensures) (named_after b.store.now _ b.regions.now b.named);
      settled = subst (λ (s : Shelf). IsSettled s b.regions.now) (sym c.write_bytes.ensures) b.settled;
      loaded = subst (λ (s : Shelf). AreLoaded s b.regions.now b.pid b.registers) (sym c.write_bytes.ensures) (loaded_after b.store.now _ b.regions.now b.pid b.registers b.loaded);
    }

pub returns : goal.returns
returns c =
    let b = c.args.self.now in
    ap (λ (s : Shelf). bus_view b.store.ghost_name b.regions.ghost_name s b.regions.now b.pid b.registers) c.write_bytes.ensures
    ∙ (ap (λ (d : Descriptor). bus_view b.store.ghost_name b.regions.ghost_name (with_memory b.store.now (with_part b.store.now.memory (d.base + c.args.offset) c.args.part.now)) b.regions.now b.pid b.registers) c.loaded-descriptor.ensures
    ∙ put_view b.store.ghost_name b.regions.ghost_name b.store.now b.regions.now b.pid c.args.sel.0 b.registers is_writable c.args.offset
    c.args.part.now c.law.ensures.shelf b.inside c.law.ensures.apart
    (reach b.store.ghost_name b.regions.ghost_name b.store.now b.regions.now b.pid c.args.sel.0 b.registers is_writable c.args.offset
    (length c.args.part.now) b.inside b.named b.settled c.requires.some c.requires.ready))
