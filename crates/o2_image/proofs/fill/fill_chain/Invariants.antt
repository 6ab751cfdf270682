use Rattle.std.proofs.Common.{◌≡◌, ℕ, ◌-◌, ◌<◌, length, get_or, fold, map}
use Rattle.o2_image.specs.Chains.{places}
use Rattle.o2_image.specs.Images.{byte_after, patch_at}
use Rattle.o2_image.specs.Whole.{Fit}
use Rattle.o2_image.proofs.fill.fill_chain.Given as goal

abbrev pub invariant-loop : goal.invariant-loop
invariant-loop l = record {
  rest : (i : ℕ) → i < length l.into → fold (byte_after i) (get_or l.into i 0)
      (map (patch_at l.bytes l.reloc l.target) (places l.bytes (65536 - l.counter) l.next))
      ≡ fold (byte_after i) (get_or l.fn.into i 0) (map (patch_at l.bytes l.reloc l.target) (places l.bytes 65536 l.reloc.place));
  fit : Fit l.bytes (places l.bytes (65536 - l.counter) l.next);
}
