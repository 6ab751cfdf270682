use Rattle.std.proofs.Common.{◌≡◌, [], All, drop, length}
use Rattle.o2_ne.specs.Steps.{over}
use Rattle.o2_image.specs.ImageList.{Exists}
use Rattle.o2_dynlink.specs.Imports.{gather}
use Rattle.o2_dynlink.specs.Linking.{program_of}
use Rattle.o2_dynlink.proofs.checks.programs_of.Given as goal

abbrev pub invariant-loop-process : goal.invariant-loop-process
invariant-loop-process l = record {
  so_far : over (gather (program_of l.modules)) (drop l.process-index l.processes) l.found.items ≡ over (gather (program_of l.modules)) l.processes [];
  count : length l.found.items ≡ l.process-index;
  exist : All (Exists l.modules) l.found.items;
}
