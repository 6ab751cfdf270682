-- Shifts and rotations by any count.
use Rattle.std.proofs.Common.{◌≡◌, ℕ, zero, suc, ◌-◌, ◌*◌, ◌/◌, ◌%◌, ◌^◌, ◌<◌, Bool, true, false, if◌then◌else◌, arith, refl, ap, sym, ◌∙◌, ◌==◌}
use Rattle.std.proofs.Math.Numerals.{sub-one}
use Rattle.o2_isa.specs.declared.instr.Width.{Width}
use Rattle.o2_isa.specs.declared.families.ShiftOp.{ShiftOp}
use Rattle.o2_isa.specs.declared.families.ShiftOp.TheVariants.{Rol, Ror, Rcl, Rcr, Shl, Shr, Sar}
use Rattle.o2_isa.specs.declared.flags.Flag.TheVariants.{Carry, Overflow}
use Rattle.o2_isa.specs.Flags.{put, is_set, with_szp}
use Rattle.o2_isa.specs.Shifts.{once, repeated, is_rotation, shift_flags, shift_of, shift_times}
use Rattle.o2_isa.specs.declared.instr.Width.TheVariants.{Byte, Word}
use Rattle.o2_isa.specs.Widths.{modulus, IsOfWidth}
use Rattle.o2_alu.specs.AtOnce.{bits, lowered, IsAtOnce}
use Rattle.o2_alu.proofs.RotateLaws.{rol_value, ror_value, shl_value, shr_value, sar_value}
use Rattle.o2_alu.proofs.FlagLaws.{put_same, put_other}
use Rattle.o2_alu.proofs.SumLaws.{szp_carry}

-- ---- n bits are n times one bit

over_keeps : (one on : Bool) (g : ℕ) → is_set (if one then put g Overflow on else g) Carry ≡ is_set g Carry
over_keeps true on g = put_other g Overflow Carry on (λ e. cc)
over_keeps false on g = refl

szp_or_not : (rotation : Bool) (w : Width) (r h : ℕ) → is_set (if rotation then h else with_szp w r h) Carry ≡ is_set h Carry
szp_or_not true w r h = refl
szp_or_not false w r h = szp_carry w r h

shift_carry : (op : ShiftOp) (w : Width) (n a r : ℕ) (c : Bool) (f : ℕ) → is_set (shift_flags op w n a r c f) Carry ≡ c
unfolding shift_flags
shift_carry op w n a r c f = szp_or_not (is_rotation op) w r _ ∙ over_keeps (n == 1) _ _ ∙ put_same f Carry c

one_shift : (op : ShiftOp) (w : Width) (a f : ℕ) →
    let y = shift_of op w a 1 f in (y.0, is_set y.1 Carry) ≡ once op w (a, is_set f Carry)
unfolding shift_of
one_shift op w a f = let e = shift_carry op w 1 a ((once op w (a, is_set f Carry)).0) ((once op w (a, is_set f Carry)).1) f in rw e refl

many_shifts : (n : ℕ) (op : ShiftOp) (w : Width) (a f : ℕ) →
    ((shift_times n op w (a, f)).0, is_set ((shift_times n op w (a, f)).1) Carry) ≡ repeated n op w (a, is_set f Carry)
many_shifts zero op w a f = refl
many_shifts (suc n) op w a f = one_shift op w _ _ ∙ ap (once op w) (many_shifts n op w a f)

-- ---- the last bit of many, where CF doesn't matter

ignores_carry : (op : ShiftOp) (w : Width) (x : ℕ) (c d : Bool) → IsAtOnce op → once op w (x, c) ≡ once op w (x, d)
ignores_carry Rol w x c d h = refl
ignores_carry Ror w x c d h = refl
ignores_carry Shl w x c d h = refl
ignores_carry Shr w x c d h = refl
ignores_carry Sar w x c d h = refl
ignores_carry Rcl w x c d h = cc
ignores_carry Rcr w x c d h = cc

pub once_more : (op : ShiftOp) (w : Width) (n a : ℕ) (c : Bool) → IsAtOnce op → 0 < n → once op w ((repeated (n - 1) op w (a, c)).0, c) ≡ repeated n op w (a, c)
once_more op w zero a c h p = absurd (omega arith)
once_more op w (suc n) a c h p = rw (sub-one (suc n)) (ignores_carry op w _ c ((repeated n op w (a, c)).1) h)

-- ---- a count within 31 bits is that many single shifts

small_count : (n : ℕ) → n < 32 → n % 32 ≡ n
small_count n h = omega arith

none_or_many : (op : ShiftOp) (w : Width) (n a f : ℕ) → n % 32 ≡ n → 0 < n →
    (shift_of op w a n f).0 ≡ (repeated n op w (a, is_set f Carry)).0 × (is_set ((shift_of op w a n f).1) Carry ≡ (repeated n op w (a, is_set f Carry)).1)
unfolding shift_of
none_or_many op w zero a f e p = absurd (omega arith)
none_or_many op w (suc n) a f e p = let some : (suc n == 0) ≡ false = grind arith in rw (e, some) (refl, shift_carry op w (suc n) a _ _ f)

pub counted_shift : (op : ShiftOp) (w : Width) (n a f : ℕ) → n < 32 →
    ((shift_of op w a n f).0 ≡ (shift_times n op w (a, f)).0) × (is_set ((shift_of op w a n f).1) Carry ≡ is_set ((shift_times n op w (a, f)).1) Carry)
unfolding shift_of
counted_shift op w zero a f h = (refl, refl)
counted_shift op w (suc n) a f h =
    let many = many_shifts (suc n) op w a f in
    let one = none_or_many op w (suc n) a f (small_count (suc n) h) (omega arith) in
    (one.0 ∙ sym (ap (λ x. x.0) many), one.1 ∙ sym (ap (λ x. x.1) many))

shift_value : (op : ShiftOp) (w : Width) (n a f : ℕ) → n < 32 → (shift_of op w a n f).0 ≡ (repeated n op w (a, is_set f Carry)).0
unfolding shift_of
shift_value op w zero a f h = refl
shift_value op w (suc n) a f h = (none_or_many op w (suc n) a f (small_count (suc n) h) (omega arith)).0

pub shl_multiplies : (w : Width) (n a f : ℕ) → n < 32 → IsOfWidth w a → (shift_of Shl w a n f).0 ≡ a * 2 ^ n % modulus w
shl_multiplies w n a f h p = shift_value Shl w n a f h ∙ shl_value w n a (is_set f Carry) p

pub shr_divides : (w : Width) (n a f : ℕ) → n < 32 → (shift_of Shr w a n f).0 ≡ a / 2 ^ n
shr_divides w n a f h = shift_value Shr w n a f h ∙ shr_value w n a (is_set f Carry)

pub sar_divides : (w : Width) (n a f : ℕ) → n < 32 → IsOfWidth w a → (shift_of Sar w a n f).0 ≡ lowered w n a
sar_divides w n a f h p = shift_value Sar w n a f h ∙ sar_value w n a (is_set f Carry) p

pub rol_returns : (w : Width) (a f : ℕ) → IsOfWidth w a → (shift_of Rol w a (bits w) f).0 ≡ a
rol_returns Byte a f h = shift_value Rol Byte 8 a f (omega arith) ∙ rol_value Byte 8 a (is_set f Carry) h ∙ omega arith
rol_returns Word a f h = shift_value Rol Word 16 a f (omega arith) ∙ rol_value Word 16 a (is_set f Carry) h ∙ omega arith

pub ror_returns : (w : Width) (a f : ℕ) → IsOfWidth w a → (shift_of Ror w a (bits w) f).0 ≡ a
ror_returns Byte a f h = shift_value Ror Byte 8 a f (omega arith) ∙ ror_value Byte 8 a (is_set f Carry) h ∙ omega arith
ror_returns Word a f h = shift_value Ror Word 16 a f (omega arith) ∙ ror_value Word 16 a (is_set f Carry) h ∙ omega arith
