-- The world of the boundless machine as it is run: the lines are the bytes of the report, and it has the two numbers of the
-- setting that calls go by.
use Rattle.std.specs.Prelude.{ℕ, List}
use Rattle.o2_world.specs.World.{World, Setting, Process}
use Rattle.o2_world.specs.Known.{Known, known_of}
use Rattle.o2_world.specs.CallParts.{Before}
use Rattle.o2_world.specs.Run.{before}

pub record Shown : Type 0 where
  -- without its lines
  pub world : World
  pub report : List ℕ
  -- the most names that may live, and the number that DosMemAvail gives
  pub segments : ℕ
  pub avail : ℕ

-- a setting with these two numbers
abbrev pub setting_of : Shown → Setting
setting_of v = record { quantum = 0; memory = 0; swap = 0; segments = v.segments; avail = v.avail; budget = 0 }

-- what is known of the machine
abbrev pub known_by : Shown → Known
known_by v = known_of (setting_of v) v.world

-- what a call of process n starts from
abbrev pub before_call : Shown → ℕ → Process → Before
before_call v n p = before (setting_of v) v.world n p
