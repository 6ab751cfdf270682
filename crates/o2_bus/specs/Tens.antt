-- Ten bytes as two numbers.
use Rattle.std.specs.Prelude.{ℕ, List, ◌++◌}
use Rattle.std.specs.Int.{to_le_bytes, w16, w64}
use Rattle.o2_bus.specs.declared.ten_bytes.TenBytes.{TenBytes}

-- the bytes of two numbers: the first eight and the last two, low byte first
unfoldable pub ten_of : TenBytes → List ℕ
ten_of t = to_le_bytes w64 t.first ++ to_le_bytes w16 t.last
