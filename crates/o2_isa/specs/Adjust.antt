-- Decimal adjustment. AX is 256 times AH plus AL.
use Rattle.std.specs.Prelude.{ℕ, ◌+◌, ◌-◌, ◌*◌, ◌/◌, ◌%◌, Bool, ◌||◌, ◌==◌, nat_lt, if◌then◌else◌, Option, Some, None}
use Rattle.o2_isa.specs.declared.instr.Width.TheVariants.{Byte}
use Rattle.o2_isa.specs.declared.families.AdjustOp.{AdjustOp}
use Rattle.o2_isa.specs.declared.families.AdjustOp.TheVariants.{Daa, Das, Aaa, Aas, Aam, Aad}
use Rattle.o2_isa.specs.declared.flags.Flag.TheVariants.{Carry, Auxiliary}
use Rattle.o2_isa.specs.Flags.{put, is_set, with_szp}

-- the low four bits are no decimal digit, or AF says so
unfoldable pub digit_adjusts : ℕ → ℕ → Bool
digit_adjusts al f = nat_lt 9 (al % 16) || is_set f Auxiliary

-- AL is no two decimal digits, or CF says so
unfoldable pub digits_adjust : ℕ → ℕ → Bool
digits_adjust al f = nat_lt 0x99 al || is_set f Carry

-- n where the test holds, else 0
unfoldable pub n_where : Bool → ℕ → ℕ
n_where b n = if b then n else 0

-- ---- AAA and AAS: AF and CF say whether AL was adjusted; the other flags stay

unfoldable pub aaa_value : ℕ → Bool → ℕ
aaa_value ax on = (ax / 256 + n_where on 1) % 256 * 256 + (ax % 256 + n_where on 6) % 16

unfoldable pub aas_value : ℕ → Bool → ℕ
aas_value ax on = (ax / 256 + 256 - n_where on 1) % 256 * 256 + (ax % 256 + 256 - n_where on 6) % 16

unfoldable pub unpacked_flags : Bool → ℕ → ℕ
unpacked_flags on f = put (put f Auxiliary on) Carry on

-- ---- DAA and DAS: AF says whether 6, and CF whether 60h was added or taken; AH stays

unfoldable pub daa_value : ℕ → Bool → Bool → ℕ
daa_value ax units tens = (ax % 256 + n_where units 6 + n_where tens 0x60) % 256

unfoldable pub das_value : ℕ → Bool → Bool → ℕ
das_value ax units tens = (ax % 256 + 256 - n_where units 6 - n_where tens 0x60) % 256

unfoldable pub packed_flags : ℕ → Bool → Bool → ℕ → ℕ
packed_flags al units tens f = with_szp Byte al (put (put f Auxiliary units) Carry tens)

-- ---- AAM and AAD

-- AL divided by the base: the quotient in AH, the remainder in AL
unfoldable pub aam_value : ℕ → ℕ → ℕ
aam_value ax base = ax % 256 / base * 256 + ax % 256 % base

-- AL and AH as two digits of the base, in AL
unfoldable pub aad_value : ℕ → ℕ → ℕ
aad_value ax base = (ax % 256 + ax / 256 * base) % 256

-- AX and the flags word; None for AAM with base 0, which is a divide error
unfoldable pub adjust_of : AdjustOp → ℕ → ℕ → ℕ → Option (ℕ × ℕ)
adjust_of Aaa ax base f = let on = digit_adjusts (ax % 256) f in Some (aaa_value ax on, unpacked_flags on f)
adjust_of Aas ax base f = let on = digit_adjusts (ax % 256) f in Some (aas_value ax on, unpacked_flags on f)
adjust_of Daa ax base f = let units = digit_adjusts (ax % 256) f in let tens = digits_adjust (ax % 256) f in let al = daa_value ax units tens in Some (ax / 256 * 256 + al, packed_flags al units tens f)
adjust_of Das ax base f = let units = digit_adjusts (ax % 256) f in let tens = digits_adjust (ax % 256) f in let al = das_value ax units tens in Some (ax / 256 * 256 + al, packed_flags al units tens f)
adjust_of Aam ax base f = if base == 0 then None else Some (aam_value ax base, with_szp Byte (ax % 256 % base) f)
adjust_of Aad ax base f = Some (aad_value ax base, with_szp Byte (aad_value ax base) f)
