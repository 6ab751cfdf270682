use Rattle.std.proofs.Common.{◌≡◌, ◌≤◌, ◌++◌, [], length, drop, take}
use Rattle.o2_open.specs.Loads.{Contents, modules_in}
use Rattle.o2_open.proofs.files.modules.Given as goal

abbrev pub invariant-loop-name : goal.invariant-loop-name
invariant-loop-name g l = record {
  earlier : (contents : Contents) → g.F.Files.may_hold l.files contents → g.F.Files.may_hold l.fn.files contents;
  count : g.F.Files.faults l.fn.files ≤ g.F.Files.faults l.files;
  so_far : (contents : Contents) → g.F.Files.may_hold l.files contents → modules_in contents (drop l.name-index l.names) l.modules.items ≡ modules_in contents l.names [];
  asked : g.F.Files.asked l.files ≡ g.F.Files.asked l.fn.files ++ take l.name-index l.names;
  many : length l.modules.items ≡ l.name-index;
}
