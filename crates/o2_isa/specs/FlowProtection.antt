-- Instructions that ask about selectors.
use Rattle.std.specs.Prelude.{ℕ, ◌+◌, ◌*◌, ◌/◌, ◌%◌, Bool, true, false, nat_lt, if◌then◌else◌, Option, Some, None, []}
use Rattle.o2_desc.specs.Bits.{rights_of}
use Rattle.o2_isa.specs.declared.instr.Width.TheVariants.{Word}
use Rattle.o2_isa.specs.declared.instr.Instr.{Instr}
use Rattle.o2_isa.specs.declared.flags.Flag.TheVariants.{Zero}
use Rattle.o2_isa.specs.declared.cpu.Cpu.{Cpu}
use Rattle.o2_isa.specs.Flags.{put}
use Rattle.o2_isa.specs.Steps.{Steps, Ends, Sizes, Rights, next_at, valued, storing, one_less}

-- ZF as the test says, all other flags stay
abbrev pub with_zero : Cpu → Bool → Cpu
with_zero c b = record c { flags = put c.flags Zero b }

-- what a selector's descriptor says goes to the left operand, with ZF 1; where there is nothing, ZF 0 and no other change
abbrev pub told : Cpu → Instr → ℕ → Option ℕ → Steps
told c i next (Some x) = storing (with_zero c true) Word i.left x next
told c i next None = Ends (next_at (with_zero c false) next) []

-- the rights byte in the upper half
abbrev pub high_half : Option ℕ → Option ℕ
high_half (Some r) = Some (r * 256)
high_half None = None

-- the limit is one less than the size
abbrev pub limit_of : Option ℕ → Option ℕ
limit_of (Some n) = Some (one_less n)
limit_of None = None

unfoldable pub lar : Cpu → Instr → ℕ → Steps
lar c i next = valued c Word i.right (λ s. Rights s (λ r. told c i next (high_half r)))

unfoldable pub lsl : Cpu → Instr → ℕ → Steps
lsl c i next = valued c Word i.right (λ s. Sizes s (λ n. told c i next (limit_of n)))

-- ZF says whether the selector names a segment with such rights
abbrev pub has_rights : (ℕ → Bool) → Option ℕ → Bool
has_rights ok (Some r) = ok (rights_of r)
has_rights ok None = false

unfoldable pub verify : (ℕ → Bool) → Cpu → Instr → ℕ → Steps
verify ok c i next = valued c Word i.left (λ s. Rights s (λ r. Ends (next_at (with_zero c (has_rights ok r)) next) []))

-- the left selector's privilege level rises to the right one's, with ZF 1; where it isn't below, ZF 0 and no store
abbrev pub adjusted : Cpu → Instr → ℕ → ℕ → ℕ → Steps
adjusted c i next a b = if nat_lt (a % 4) (b % 4) then storing (with_zero c true) Word i.left (a / 4 * 4 + b % 4) next else Ends (next_at (with_zero c false) next) []

unfoldable pub arpl : Cpu → Instr → ℕ → Steps
arpl c i next = valued c Word i.left (λ a. valued c Word i.right (λ b. adjusted c i next a b))
