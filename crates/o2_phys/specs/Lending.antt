use Rattle.std.specs.Prelude.{ℕ, List, take, length}
use Rattle.std.specs.Borrow.{Lends, MutBor, Fml, u8, Array}
use Rattle.o2_phys.specs.contracts.Phys.{the_row}
use Rattle.o2_phys.specs.Bytes.{with_part}

-- the memory ends with the bytes from at on as the last ones written through r
abbrev pub LendsPart : MutBor (List ℕ) → ℕ → MutBor (List ℕ) → Fml
LendsPart s at r = Lends the_row (Array u8 0) s r (λ w. take (length s.now) (with_part s.now at w))
