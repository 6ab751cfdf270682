-- What a bus always keeps has one proof at most.
use Rattle.std.specs.Prelude.{ℕ, Option, Some, None}
use Rattle.std.proofs.Props.{props}
use Rattle.o2_desc.specs.declared.descriptor.Descriptor.{Descriptor}
use Rattle.o2_regions.specs.declared.held.Held.{Held}
use Rattle.o2_regions.specs.Maps.{Maps}
use Rattle.o2_store.specs.Shelf.{Shelf}
use Rattle.o2_segbus.specs.declared.registers.SegmentRegisters.{SegmentRegisters}
use Rattle.o2_segbus.specs.Settled.{IsSettledAt, IsSettled}
use Rattle.o2_segbus.specs.Seen.{AreNamed}
use Rattle.o2_segbus.specs.Bus.{IsLoadedAs, AreLoaded, AreInside}

at_prop : (s : Shelf) (o : Option Held) (d : Descriptor) → IsProp (IsSettledAt s o d)
at_prop s None d = Prim.hlevel props
at_prop s (Some h) d = Prim.hlevel props

loaded_prop : (s : Shelf) (rights : ℕ) (o : Option Held) (d : Descriptor) → IsProp (IsLoadedAs s rights o d)
loaded_prop s rights None d = Prim.hlevel props
loaded_prop s rights (Some h) d = Prim.hlevel props

pub IsSettled-prop : (s : Shelf) (m : Maps) → IsProp (IsSettled s m)
IsSettled-prop s m = Prim.hlevel (props, at_prop)

pub AreLoaded-prop : (s : Shelf) (m : Maps) (pid : ℕ) (x : SegmentRegisters) → IsProp (AreLoaded s m pid x)
AreLoaded-prop s m pid x = Prim.hlevel (props, loaded_prop)

pub AreInside-prop : (s : Shelf) → IsProp (AreInside s)
AreInside-prop s = Prim.hlevel props

pub AreNamed-prop : (s : Shelf) (m : Maps) → IsProp (AreNamed s m)
AreNamed-prop s m = Prim.hlevel props
