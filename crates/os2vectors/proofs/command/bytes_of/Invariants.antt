use Rattle.std.proofs.Common.{◌≡◌, ◌<◌, ◌++◌, drop}
use Rattle.std.specs.Prelude.{None, option_map}
use Rattle.std.specs.Option.{ForSome}
use Rattle.os2vectors.specs.Words.{pair_bytes}
use Rattle.os2vectors.proofs.command.bytes_of.Given as goal

abbrev pub invariant-loop-byte : goal.invariant-loop-byte
invariant-loop-byte l = ForSome l.high (λ h. h < 16) × (option_map (λ bs. l.bytes.items ++ bs) (pair_bytes (drop l.byte-index l.text) l.high) ≡ pair_bytes l.text None)
