-- Shifts and rotations: one bit at a time, as often as the count says.
use Rattle.std.specs.Prelude.{ℕ, zero, suc, ◌+◌, ◌*◌, ◌/◌, ◌%◌, Bool, true, false, not, ◌==◌, nat_le, if◌then◌else◌}
use Rattle.o2_isa.specs.declared.instr.Width.{Width}
use Rattle.o2_isa.specs.declared.families.ShiftOp.{ShiftOp}
use Rattle.o2_isa.specs.declared.families.ShiftOp.TheVariants.{Rol, Ror, Rcl, Rcr, Shl, Shr, Sar}
use Rattle.o2_isa.specs.declared.flags.Flag.TheVariants.{Carry, Overflow}
use Rattle.o2_isa.specs.Widths.{modulus, half}
use Rattle.o2_isa.specs.Flags.{put, is_set, with_szp}
use Rattle.o2_isa.specs.Sums.{bit}

-- the top bit
abbrev pub top : Width → ℕ → Bool
top w a = nat_le (half w) a

-- the lowest bit
abbrev pub low : ℕ → Bool
low a = a % 2 == 1

-- one bit: from the value and CF to the value and CF
abbrev pub once : ShiftOp → Width → ℕ × Bool → ℕ × Bool
once Rol w x = (x.0 * 2 % modulus w + bit (top w x.0), top w x.0)
once Ror w x = (x.0 / 2 + (if low x.0 then half w else 0), low x.0)
once Rcl w x = (x.0 * 2 % modulus w + bit x.1, top w x.0)
once Rcr w x = (x.0 / 2 + (if x.1 then half w else 0), low x.0)
once Shl w x = (x.0 * 2 % modulus w, top w x.0)
once Shr w x = (x.0 / 2, low x.0)
once Sar w x = (x.0 / 2 + (if top w x.0 then half w else 0), low x.0)

abbrev pub repeated : ℕ → ShiftOp → Width → ℕ × Bool → ℕ × Bool
repeated zero op w x = x
repeated (suc n) op w x = once op w (repeated n op w x)

abbrev pub differs : Bool → Bool → Bool
differs a b = if a then not b else b

-- OF at count 1, by the old value a, the result r and the new CF
abbrev pub shift_overflow : ShiftOp → Width → ℕ → ℕ → Bool → Bool
shift_overflow Shr w a r c = top w a
shift_overflow Sar w a r c = false
shift_overflow Ror w a r c = differs (top w r) (top w (r * 2 % modulus w))
shift_overflow Rcr w a r c = differs (top w r) (top w (r * 2 % modulus w))
shift_overflow Rol w a r c = differs (top w r) c
shift_overflow Rcl w a r c = differs (top w r) c
shift_overflow Shl w a r c = differs (top w r) c

-- a rotation leaves SF, ZF and PF
abbrev pub is_rotation : ShiftOp → Bool
is_rotation Rol = true
is_rotation Ror = true
is_rotation Rcl = true
is_rotation Rcr = true
is_rotation Shl = false
is_rotation Shr = false
is_rotation Sar = false

-- the flags after n bits, where n isn't 0
unfoldable pub shift_flags : ShiftOp → Width → ℕ → ℕ → ℕ → Bool → ℕ → ℕ
shift_flags op w n a r c f =
    let g = put f Carry c in
    let h = if n == 1 then put g Overflow (shift_overflow op w a r c) else g in
    if is_rotation op then h else with_szp w r h

-- the result and the flags word: the count is modulo 32, and a count of 0 changes nothing
unfoldable pub shift_of : ShiftOp → Width → ℕ → ℕ → ℕ → ℕ × ℕ
shift_of op w a count f =
    let n = count % 32 in
    let x = repeated n op w (a, is_set f Carry) in
    if n == 0 then (a, f) else (x.0, shift_flags op w n a x.0 x.1 f)

-- n shifts by one bit, each from the value and the flags word that the last one left
abbrev pub shift_times : ℕ → ShiftOp → Width → ℕ × ℕ → ℕ × ℕ
shift_times zero op w x = x
shift_times (suc n) op w x = shift_of op w (shift_times n op w x).0 1 (shift_times n op w x).1
