-- Rows: what the lines of calls by two processes tell of the semaphore at 8007:0000 of the segment that they share.
use Rattle.std.specs.Prelude.{ℕ, List}
use Rattle.o2_world.specs.CallParts.{Before, Effect}
use Rattle.o2_world.specs.SemRulings.{SemRuling}
use Rattle.o2_world.specs.SharedWorked.{calls_of}
use Rattle.o2_world.specs.SemsWorked.{with_shared}
use Rattle.o2_ramsem.specs.Calls.{SemCall, owner}
use Rattle.o2_ramsem_laws.specs.Told.{Place, told}
use Rattle.o2_ramsem_laws.specs.Kept.{number_at}

abbrev pub at_8007 : Place
at_8007 = record { selector = 0x8007; offset = 0; name = 5 }

-- the calls that the lines behind calls tell
abbrev pub told_behind : List (ℕ × (Before → Effect)) → List (SemCall × SemRuling)
told_behind cs = told at_8007 (calls_of with_shared cs).lines

-- the owner by them, and the number that stands there
abbrev pub owner_behind : List (ℕ × (Before → Effect)) → ℕ × ℕ
owner_behind cs = (owner 0 (told_behind cs), number_at (calls_of with_shared cs) at_8007)
