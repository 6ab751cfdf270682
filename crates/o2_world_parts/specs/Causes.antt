-- How a process came to a selector.
use Rattle.o2_world.specs.World.{Cause, ByLoad, ByCall, ByAlias}
use Rattle.o2_world_parts.specs.declared.parts.How.{How}
use Rattle.o2_world_parts.specs.declared.parts.How.TheVariants as how

abbrev pub cause_of : How → Cause
cause_of how.Load = ByLoad
cause_of how.Call = ByCall
cause_of how.Alias = ByAlias
