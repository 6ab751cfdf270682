-- A space as what stands for a world: its parts, over a swap device.
use Rattle.std.specs.Prelude.{ℕ, ◌-◌, ◌==◌, if◌then◌else◌, List, Option, None, option_map, slice_get}
use Rattle.o2_stands.specs.Parts.{Parts, Running}
use Rattle.o2_space.specs.declared.space.Proc.{Proc}
use Rattle.o2_space.specs.declared.space.Space.{Space}

-- registers and state of a process
abbrev pub running_in : Proc → Running
running_in x = record { cpu = x.cpu; state = x.state }

-- by the numbers of processes: process n is at place n - 1, and number 0 is no process
abbrev pub running_at : List Proc → ℕ → Option Running
running_at procs n = if n == 0 then None else option_map running_in (slice_get procs (n - 1))

-- over a device of so many blocks that hold this
abbrev pub parts_in : Space → (device : ℕ) → (block : ℕ → List ℕ) → Parts
parts_in m device block = record {
  shelf = m.store;
  maps = m.regions;
  images = m.images;
  device = device;
  block = block;
  running = running_at m.procs.items;
}
