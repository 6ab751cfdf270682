-- What an access byte allows doesn't depend on its accessed and present bits.
use Rattle.std.proofs.Common.{◌≡◌, refl, ap, ℕ, ◌/◌, ◌%◌, Bool, true, false, arith}
use Rattle.std.specs.Prelude.{◌==◌}
use Rattle.o2_desc.specs.Bits.{has_bit, marked, with_present, rights_of, is_present, is_code, is_readable, is_writable, unmarked}
use Rattle.o2_isa.specs.View.{shown_rights}

bit_1 : (a rights : ℕ) (p : Bool) → unmarked a ≡ with_present rights p → has_bit a 1 ≡ has_bit rights 1
bit_1 a rights true e = let q : a / 2 % 2 ≡ rights / 2 % 2 = omega arith in ap (λ (n : ℕ). n == 1) q
bit_1 a rights false e = let q : a / 2 % 2 ≡ rights / 2 % 2 = omega arith in ap (λ (n : ℕ). n == 1) q

bit_3 : (a rights : ℕ) (p : Bool) → unmarked a ≡ with_present rights p → has_bit a 3 ≡ has_bit rights 3
bit_3 a rights true e = let q : a / 8 % 2 ≡ rights / 8 % 2 = omega arith in ap (λ (n : ℕ). n == 1) q
bit_3 a rights false e = let q : a / 8 % 2 ≡ rights / 8 % 2 = omega arith in ap (λ (n : ℕ). n == 1) q

bit_4 : (a rights : ℕ) (p : Bool) → unmarked a ≡ with_present rights p → has_bit a 4 ≡ has_bit rights 4
bit_4 a rights true e = let q : a / 16 % 2 ≡ rights / 16 % 2 = omega arith in ap (λ (n : ℕ). n == 1) q
bit_4 a rights false e = let q : a / 16 % 2 ≡ rights / 16 % 2 = omega arith in ap (λ (n : ℕ). n == 1) q

pub readable_by : (a rights : ℕ) (p : Bool) → unmarked a ≡ with_present rights p → is_readable a ≡ is_readable rights
readable_by a rights p e = rw (bit_4 a rights p e, bit_3 a rights p e, bit_1 a rights p e) refl

pub writable_by : (a rights : ℕ) (p : Bool) → unmarked a ≡ with_present rights p → is_writable a ≡ is_writable rights
writable_by a rights p e = rw (bit_4 a rights p e, bit_3 a rights p e, bit_1 a rights p e) refl

pub code_by : (a rights : ℕ) (p : Bool) → unmarked a ≡ with_present rights p → is_code a ≡ is_code rights
code_by a rights p e = rw (bit_4 a rights p e, bit_3 a rights p e) refl

pub present_by : (a rights : ℕ) (p : Bool) → unmarked a ≡ with_present rights p → is_present a ≡ p
present_by a rights true e = let q : a / 128 % 2 ≡ 1 = omega arith in rw q refl
present_by a rights false e = let q : a / 128 % 2 ≡ 0 = omega arith in rw q refl

pub shown_by : (a rights : ℕ) (p : Bool) → unmarked a ≡ with_present rights p → shown_rights a ≡ shown_rights rights
shown_by a rights true e = omega arith
shown_by a rights false e = omega arith

pub unmarked_marked : (a : ℕ) → unmarked (marked a) ≡ unmarked a
unmarked_marked a = omega arith

pub rights_marked : (a : ℕ) → rights_of (marked a) ≡ rights_of a
rights_marked a = omega arith
