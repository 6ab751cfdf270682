-- Tests and writes of single bits, as quotients and remainders.
use Rattle.std.proofs.Common.{◌≡◌, inl, inr, ℕ, ◌+◌, ◌*◌, ◌/◌, ◌%◌, ◌^◌, ◌<◌, Bool, true, false, cond, arith, refl, ◌∙◌}
use Rattle.std.specs.Prelude.{◌==◌}
use Rattle.std.specs.Int.RustNames.{bit_and, bit_or}
use Rattle.std.specs.Int.{bit_at}
use Rattle.std.specs.Int.Bits.{or_add_and}
use Rattle.std.proofs.lemmas.Nat.{and_mask, pow_pos}
use Rattle.std.proofs.lemmas.Nat.Bits.{and_pow, bit_at-lt, and_high}
use Rattle.std.proofs.lemmas.Bool.{cases_lt}
use Rattle.std.proofs.lemmas.Bool.Decides.{nat_tests}
use Rattle.o2_desc.specs.Bits.{has_bit, marked, unmarked, with_present, rights_of, privilege_of}

tested_of : (b p : ℕ) → b < 2 → 0 < p → (b * p == p) ≡ (b == 1)
tested_of b p small some = elim (cases_lt b 1) [
  | inl low ↦ (let e : b ≡ 0 = omega arith in rw e (grind (arith, nat_tests)))
  | inr high ↦ (let e : b ≡ 1 = omega arith in rw e (grind (arith, nat_tests)))
]

-- the test by a mask of one bit
tested : (n k : ℕ) → (bit_and n (2 ^ k) == 2 ^ k) ≡ has_bit n k
tested n k = rw (and_pow n k) (tested_of (bit_at n k) (2 ^ k) (bit_at-lt n k) (pow_pos k))

pub tested_0 : (n : ℕ) → (bit_and n 1 == 1) ≡ has_bit n 0
tested_0 n = tested n 0

pub tested_1 : (n : ℕ) → (bit_and n 2 == 2) ≡ has_bit n 1
tested_1 n = tested n 1

pub tested_3 : (n : ℕ) → (bit_and n 8 == 8) ≡ has_bit n 3
tested_3 n = tested n 3

pub tested_4 : (n : ℕ) → (bit_and n 16 == 16) ≡ has_bit n 4
tested_4 n = tested n 4

pub tested_7 : (n : ℕ) → (bit_and n 128 == 128) ≡ has_bit n 7
tested_7 n = tested n 7

pub ruleset tests = (tested_0, tested_1, tested_3, tested_4, tested_7)

-- the low bit set
pub or_one : (n : ℕ) → bit_or n 1 ≡ marked n
or_one n = let e = or_add_and n 1 in let m : bit_and n 1 ≡ n % 2 = and_mask n 1 in omega (arith, e, m)

-- the high bit set
pub or_high : (n : ℕ) → n < 256 → bit_or n 128 ≡ n % 128 + 128
or_high n small = let e = or_add_and n 128 in let m : bit_and n 128 ≡ n / 128 % 2 * 128 = and_pow n 7 in omega (arith, e, m)

-- the high bit cleared
pub and_low : (n : ℕ) → bit_and n 127 ≡ n % 128
and_low n = and_mask n 7

-- the low bit cleared
pub and_top : (n : ℕ) → n < 256 → bit_and n 254 ≡ unmarked n
and_top n small = let m : bit_and n 254 ≡ n / 2 % 128 * 2 = and_high n 7 1 in omega (arith, m)

-- the privilege level
pub and_privilege : (n : ℕ) → bit_and n 96 / 32 ≡ privilege_of n
and_privilege n = let m : bit_and n 96 ≡ n / 32 % 4 * 32 = and_high n 2 5 in omega (arith, m)

pub rights_by_mask : (n : ℕ) → n < 256 → bit_and (bit_or n 128) 254 ≡ rights_of n
rights_by_mask n small = let h = or_high n small in let t : bit_and (n % 128 + 128) 254 ≡ (n % 128 + 128) / 2 * 2 = and_top (n % 128 + 128) (omega arith) in rw h (t ∙ omega arith)

pub present_is : (n : ℕ) → n < 256 → (present : Bool) → cond present (bit_or n 128) (bit_and n 127) ≡ with_present n present
present_is n small true = or_high n small
present_is n small false = and_low n ∙ omega arith

pub accessed_marked : (n : ℕ) → has_bit (marked n) 0 ≡ true
accessed_marked n = let e : marked n / 1 % 2 ≡ 1 = omega arith in rw e refl

pub present_marked : (n : ℕ) → has_bit (marked n) 7 ≡ has_bit n 7
present_marked n = let e : marked n / 128 % 2 ≡ n / 128 % 2 = omega arith in rw e refl

pub rights_marked : (n : ℕ) → rights_of (marked n) ≡ rights_of n
rights_marked n = omega arith

pub accessed_unmarked : (n : ℕ) → has_bit (unmarked n) 0 ≡ false
accessed_unmarked n = let e : unmarked n / 1 % 2 ≡ 0 = omega arith in rw e refl

pub present_unmarked : (n : ℕ) → has_bit (unmarked n) 7 ≡ has_bit n 7
present_unmarked n = let e : unmarked n / 128 % 2 ≡ n / 128 % 2 = omega arith in rw e refl

pub rights_unmarked : (n : ℕ) → rights_of (unmarked n) ≡ rights_of n
rights_unmarked n = omega arith

pub present_with : (n : ℕ) (present : Bool) → has_bit (with_present n present) 7 ≡ present
present_with n true = let e : (n % 128 + 128) / 128 % 2 ≡ 1 = omega arith in rw e refl
present_with n false = let e : (n % 128 + 0) / 128 % 2 ≡ 0 = omega arith in rw e refl

pub accessed_with : (n : ℕ) (present : Bool) → has_bit (with_present n present) 0 ≡ has_bit n 0
accessed_with n true = let e : (n % 128 + 128) / 1 % 2 ≡ n / 1 % 2 = omega arith in rw e refl
accessed_with n false = let e : (n % 128 + 0) / 1 % 2 ≡ n / 1 % 2 = omega arith in rw e refl

pub rights_with : (n : ℕ) (present : Bool) → rights_of (with_present n present) ≡ rights_of n
rights_with n true = omega arith
rights_with n false = omega arith

pub rights_once : (n : ℕ) → rights_of (rights_of n) ≡ rights_of n
rights_once n = omega arith
