use Rattle.std.proofs.Common.{◌≡◌, ℕ, ◌||◌, drop}
use Rattle.std.specs.Ordering.{nat_cmp}
use Rattle.std.specs.BTreeSet as sorted
use Rattle.o2_dump.specs.SegmentEntries.{is_among}
use Rattle.o2_dump.proofs.found.add_blocks.Given as goal

abbrev pub invariant-loop-block : goal.invariant-loop-block
invariant-loop-block l =
    (n : ℕ) → (sorted.contains nat_cmp l.blocks n || is_among n (drop l.block-index l.own)) ≡ (sorted.contains nat_cmp l.fn.blocks n || is_among n l.fn.own)
