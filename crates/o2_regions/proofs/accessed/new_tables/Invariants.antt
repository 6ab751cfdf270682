use Rattle.std.proofs.Common.{◌≡◌, [], ◌∷◌, replicate}
use Rattle.o2_desc.specs.Bytes.{empty}
use Rattle.o2_regions.proofs.accessed.new_tables.Given as goal

abbrev pub invariant-loop-pid : goal.invariant-loop-pid
invariant-loop-pid l = l.tables.items ≡ [] ∷ replicate l._pid (replicate 8192 empty)
