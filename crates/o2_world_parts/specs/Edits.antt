-- Changes of a world as values of the code, and what each means.
use Rattle.std.specs.Prelude.{List, false, map}
use Rattle.o2_world.specs.Changes.{Change, Makes, Resizes, Locks, Marks, Holds, Drops, Finishes, Reserves, Names}
use Rattle.o2_world_parts.specs.declared.changing.Edit.{Edit}
use Rattle.o2_world_parts.specs.declared.changing.Edit.TheVariants as edit

abbrev pub change_of : Edit → Change
change_of (edit.Makes s) = Makes s
change_of (edit.Resizes name size) = Resizes name size
change_of (edit.Locks name count) = Locks name count
change_of (edit.Revives name) = Marks name false
change_of (edit.Holds p i h) = Holds p i h
change_of (edit.Drops p i count) = Drops p i count
change_of (edit.Finishes p state) = Finishes p state
change_of (edit.Reserves r) = Reserves r
change_of (edit.Names text name) = Names text name

abbrev pub changes_of : List Edit → List Change
changes_of es = map change_of es
