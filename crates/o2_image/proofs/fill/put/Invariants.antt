use Rattle.std.proofs.Common.{◌≡◌, ℕ, ◌<◌, length, take, get_or}
use Rattle.o2_image.specs.Images.{byte_after}
use Rattle.o2_image.proofs.fill.put.Given as goal

abbrev pub invariant-loop-k : goal.invariant-loop-k
invariant-loop-k l = (i : ℕ) → i < length l.into → get_or l.into i 0 ≡ byte_after i (get_or l.fn.into i 0) (record { place = l.place; bytes = take l.k l.bytes })
