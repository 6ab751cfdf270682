-- A machine that goes on over a device.
use Rattle.o2_machine.specs.declared.machine.Machine.{Machine}
use Rattle.o2_machine.specs.GoesOver.{GoesOver}
use Rattle.o2_store.specs.Pictures.{HasPicture}
use Rattle.o2_store.specs.Shelf.{HasAll}
use Rattle.o2_outer.specs.declared.sure.SureSwap.{SureSwap}
use Rattle.o2_outer.specs.Devices.{swap_blocks}

abbrev pub IsGoing : Machine → SureSwap → Type 0
IsGoing m swap = GoesOver m.space m.sched (swap_blocks swap)

-- each image that its store has is one of its images
abbrev pub AreShown : Machine → Type 0
AreShown m = HasAll (HasPicture m.space.images) m.space.store
