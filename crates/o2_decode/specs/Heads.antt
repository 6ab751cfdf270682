-- A head of the code, as the head of the definitions that it is.
use Rattle.std.specs.Prelude.{◌≡◌, ◌≤◌}
use Rattle.o2_decode.specs.declared.heads.Head.{Head}
use Rattle.o2_decode.specs.declared.heads.Head.TheVariants as code
use Rattle.o2_isa.specs.Reading as spec

abbrev pub IsHead : Head → spec.Head → Type 0
IsHead code.More h = h ≡ spec.More
IsHead code.Bad h = h ≡ spec.Bad
IsHead (code.Whole row m n) h = (n ≤ 3) × (h ≡ spec.Whole (record { row = row.now; modrm = m }) n)
