-- What an access byte allows doesn't depend on its present and accessed bits.
use Rattle.std.proofs.Common.{◌≡◌, ℕ, ◌/◌, ◌%◌, refl, arith}
use Rattle.o2_desc.specs.Bits.{has_bit}
use Rattle.o2_isa.specs.View.{is_writable, shown_rights}

shown_4 : (r : ℕ) → has_bit (shown_rights r) 4 ≡ has_bit r 4
shown_4 r = let e : shown_rights r / 16 % 2 ≡ r / 16 % 2 = omega arith in rw e refl

shown_3 : (r : ℕ) → has_bit (shown_rights r) 3 ≡ has_bit r 3
shown_3 r = let e : shown_rights r / 8 % 2 ≡ r / 8 % 2 = omega arith in rw e refl

shown_1 : (r : ℕ) → has_bit (shown_rights r) 1 ≡ has_bit r 1
shown_1 r = let e : shown_rights r / 2 % 2 ≡ r / 2 % 2 = omega arith in rw e refl

pub writable_shown : (r : ℕ) → is_writable (shown_rights r) ≡ is_writable r
writable_shown r = rw (shown_4 r, shown_3 r, shown_1 r) refl
