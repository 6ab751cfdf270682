-- What a call comes to, as a value of the code.
use Rattle.std.specs.Prelude.{option_map, Option}
use Rattle.o2_world.specs.World.{Segment}
use Rattle.o2_world.specs.Known.{Marks, marks_of}
use Rattle.o2_world.specs.Rulings.{Ruling}
use Rattle.o2_boundless.specs.declared.rulings.Verdict.{Verdict}
use Rattle.o2_world_parts.specs.Edits.{changes_of}

abbrev pub ruling_of : Verdict → Ruling
ruling_of v = record { error = v.error; value = v.value; changes = changes_of v.edits.items }

abbrev pub marks_in : Option Segment → Option Marks
marks_in s = option_map marks_of s
