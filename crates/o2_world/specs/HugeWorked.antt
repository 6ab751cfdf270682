-- Rows of the calls on huge allocations, as the definitions compute them for two processes.
use Rattle.std.specs.Prelude.{ℕ, List, [], ◌∷◌, Option, Some, None}
use Rattle.o2_world.specs.World.{World, Process}
use Rattle.o2_world.specs.Holders.{process_at, with_process}
use Rattle.o2_world.specs.CallParts.{Before, Effect}
use Rattle.o2_world.specs.SegmentsWorked.{calls}
use Rattle.o2_world.specs.SharedWorked.{calls_of, two_sharers}

-- the calls by their arguments, with values at 52 of the data
abbrev pub huges : (segs part most flags : ℕ) → Before → Effect
huges segs part most flags = calls 16 (segs ∷ part ∷ 0x17 ∷ 52 ∷ most ∷ flags ∷ [])

abbrev pub rehuges : (segs part selector : ℕ) → Before → Effect
rehuges segs part selector = calls 17 (segs ∷ part ∷ selector ∷ [])

abbrev pub shifts : Before → Effect
shifts = calls 18 (0x17 ∷ 52 ∷ [])

-- a process with a selector in DS and ES
abbrev pub with_data : (selector : ℕ) → Option Process → List Process → List Process
with_data s None ps = ps
with_data s (Some p) ps = with_process ps 1 (record p { cpu = record p.cpu { ds = s; es = s } })

-- the first process has this selector in DS and ES behind calls
abbrev pub loaded_behind : (selector : ℕ) → List (ℕ × (Before → Effect)) → World
loaded_behind s cs = let w = calls_of two_sharers cs in record w { processes = with_data s (process_at w.processes 1) w.processes }

abbrev pub data_of : Option Process → ℕ × ℕ
data_of None = (65536, 65536)
data_of (Some p) = (p.cpu.ds, p.cpu.es)

-- DS and ES of the first process behind one call more
abbrev pub data_behind : World → (Before → Effect) → ℕ × ℕ
data_behind w row = data_of (process_at (calls_of w ((1, row) ∷ [])).processes 1)
