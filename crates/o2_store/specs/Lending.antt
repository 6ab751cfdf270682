-- The memory as it is lent to be written.
use Rattle.std.specs.Prelude.{ℕ, List, take, length}
use Rattle.std.specs.Borrow.{Lends, MutBor, Fml, u8, Array}
use Rattle.o2_phys.specs.Bytes.{with_part}
use Rattle.o2_store.specs.contracts.store.Store.{the_row}
use Rattle.o2_store.specs.Shelf.{Shelf}

-- the memory ends with the bytes from at on as the last ones written through r
abbrev pub LendsMemory : MutBor Shelf → ℕ → MutBor (List ℕ) → Fml
LendsMemory s at r = Lends the_row (Array u8 0) s r (λ w. record s.now { memory = take (length s.now.memory) (with_part s.now.memory at w) })
