-- Arithmetic leaves the control flags, and INC and DEC leave CF.
use Rattle.std.proofs.Common.{◌≡◌, ℕ, ◌%◌, Bool, true, false, if◌then◌else◌, refl, ap, ◌∙◌, ◌==◌}
use Rattle.std.specs.Prelude.{Some, None, IfSome}
use Rattle.o2_isa.specs.declared.instr.Width.{Width}
use Rattle.o2_isa.specs.declared.instr.Width.TheVariants.{Byte}
use Rattle.o2_isa.specs.declared.families.BinaryOp.{BinaryOp}
use Rattle.o2_isa.specs.declared.families.BinaryOp.TheVariants as two
use Rattle.o2_isa.specs.declared.families.LogicOp.{LogicOp}
use Rattle.o2_isa.specs.declared.families.LogicOp.TheVariants as logic
use Rattle.o2_isa.specs.declared.families.UnaryOp.{UnaryOp}
use Rattle.o2_isa.specs.declared.families.UnaryOp.TheVariants as one
use Rattle.o2_isa.specs.declared.families.ShiftOp.{ShiftOp}
use Rattle.o2_isa.specs.declared.families.AdjustOp.{AdjustOp}
use Rattle.o2_isa.specs.declared.families.AdjustOp.TheVariants.{Daa, Das, Aaa, Aas, Aam, Aad}
use Rattle.o2_isa.specs.declared.flags.Flag.{Flag}
use Rattle.o2_isa.specs.declared.flags.Flag.TheVariants.{Carry, Parity, Auxiliary, Zero, Sign, Overflow}
use Rattle.o2_isa.specs.Flags.{put, is_set, is_status, with_szp, with_carries}
use Rattle.o2_isa.specs.Sums.{add_of, sub_of, logic_of, increment_of, decrement_of, negate_of}
use Rattle.o2_isa.specs.Shifts.{is_rotation, shift_flags, shift_of}
use Rattle.o2_isa.specs.Products.{mul_of}
use Rattle.o2_isa.specs.Adjust.{unpacked_flags, packed_flags, adjust_of}
use Rattle.o2_isa.specs.Alu.{binary_of, unary_of}
use Rattle.o2_alu.proofs.FlagLaws.{put_other}
use Rattle.o2_alu.proofs.SumLaws.{szp_carry}

put_control : (f : ℕ) (k j : Flag) (on : Bool) → is_status k ≡ true → is_status j ≡ false → is_set (put f k on) j ≡ is_set f j
put_control f k j on p q = put_other f k j on (λ e. let same : is_status j ≡ is_status k = ap is_status e in cc)

szp_control : (w : Width) (r f : ℕ) (j : Flag) → is_status j ≡ false → is_set (with_szp w r f) j ≡ is_set f j
unfolding with_szp
szp_control w r f j q = put_control _ Parity j _ refl q ∙ put_control _ Zero j _ refl q ∙ put_control f Sign j _ refl q

carries_control : (f : ℕ) (c a o : Bool) (j : Flag) → is_status j ≡ false → is_set (with_carries f c a o) j ≡ is_set f j
unfolding with_carries
carries_control f c a o j q = put_control _ Overflow j o refl q ∙ put_control _ Auxiliary j a refl q ∙ put_control f Carry j c refl q

two_control : (f : ℕ) (k l j : Flag) (a b : Bool) → is_status k ≡ true → is_status l ≡ true → is_status j ≡ false → is_set (put (put f k a) l b) j ≡ is_set f j
two_control f k l j a b p r q = put_control _ l j b r q ∙ put_control f k j a p q

add_control : (w : Width) (a b : ℕ) (c : Bool) (f : ℕ) (j : Flag) → is_status j ≡ false → is_set ((add_of w a b c f).1) j ≡ is_set f j
unfolding add_of
add_control w a b c f j q = szp_control w _ _ j q ∙ carries_control f _ _ _ j q

sub_control : (w : Width) (a b : ℕ) (c : Bool) (f : ℕ) (j : Flag) → is_status j ≡ false → is_set ((sub_of w a b c f).1) j ≡ is_set f j
unfolding sub_of
sub_control w a b c f j q = szp_control w _ _ j q ∙ carries_control f _ _ _ j q

logic_control : (op : LogicOp) (w : Width) (a b f : ℕ) (j : Flag) → is_status j ≡ false → is_set ((logic_of op w a b f).1) j ≡ is_set f j
unfolding logic_of
logic_control op w a b f j q = szp_control w _ _ j q ∙ two_control f Carry Overflow j false false refl refl q

pub binary_control : (op : BinaryOp) (w : Width) (a b f : ℕ) (j : Flag) → is_status j ≡ false → is_set ((binary_of op w a b f).1) j ≡ is_set f j
unfolding binary_of
binary_control two.Add w a b f j q = add_control w a b false f j q
binary_control two.Adc w a b f j q = add_control w a b _ f j q
binary_control two.Sub w a b f j q = sub_control w a b false f j q
binary_control two.Cmp w a b f j q = sub_control w a b false f j q
binary_control two.Sbb w a b f j q = sub_control w a b _ f j q
binary_control two.And w a b f j q = logic_control logic.And w a b f j q
binary_control two.Test w a b f j q = logic_control logic.And w a b f j q
binary_control two.Or w a b f j q = logic_control logic.Or w a b f j q
binary_control two.Xor w a b f j q = logic_control logic.Xor w a b f j q

pub unary_control : (op : UnaryOp) (w : Width) (a f : ℕ) (j : Flag) → is_status j ≡ false → is_set ((unary_of op w a f).1) j ≡ is_set f j
unfolding unary_of increment_of decrement_of negate_of
unary_control one.Inc w a f j q = szp_control w _ _ j q ∙ two_control f Auxiliary Overflow j _ _ refl refl q
unary_control one.Dec w a f j q = szp_control w _ _ j q ∙ two_control f Auxiliary Overflow j _ _ refl refl q
unary_control one.Neg w a f j q = szp_control w _ _ j q ∙ carries_control f _ _ _ j q
unary_control one.Not w a f j q = refl

either_control : (j : Flag) (b : Bool) (f x y : ℕ) → is_set x j ≡ is_set f j → is_set y j ≡ is_set f j → is_set (if b then x else y) j ≡ is_set f j
either_control j true f x y p q = p
either_control j false f x y p q = q

shift_flags_control : (op : ShiftOp) (w : Width) (n a r : ℕ) (c : Bool) (f : ℕ) (j : Flag) → is_status j ≡ false → is_set (shift_flags op w n a r c f) j ≡ is_set f j
unfolding shift_flags
shift_flags_control op w n a r c f j q =
    let carry = put_control f Carry j c refl q in
    let over = either_control j (n == 1) f _ _ (put_control _ Overflow j _ refl q ∙ carry) carry in
    either_control j (is_rotation op) f _ _ over (szp_control w r _ j q ∙ over)

second_of : (b : Bool) (x y : ℕ × ℕ) (f : ℕ) (j : Flag) → is_set x.1 j ≡ is_set f j → is_set y.1 j ≡ is_set f j → is_set ((if b then x else y).1) j ≡ is_set f j
second_of true x y f j p q = p
second_of false x y f j p q = q

pub shift_control : (op : ShiftOp) (w : Width) (a n f : ℕ) (j : Flag) → is_status j ≡ false → is_set ((shift_of op w a n f).1) j ≡ is_set f j
unfolding shift_of
shift_control op w a n f j q = second_of (n % 32 == 0) _ _ f j refl (shift_flags_control op w (n % 32) a _ _ f j q)

pub mul_control : (w : Width) (s : Bool) (a b f : ℕ) (j : Flag) → is_status j ≡ false → is_set ((mul_of w s a b f).1) j ≡ is_set f j
unfolding mul_of
mul_control w s a b f j q = two_control f Carry Overflow j _ _ refl refl q

aam_control : (b : Bool) (x : ℕ × ℕ) (f : ℕ) (j : Flag) → is_set x.1 j ≡ is_set f j → IfSome {T = ℕ × ℕ} (if b then None else Some x) (λ r. is_set r.1 j ≡ is_set f j)
aam_control true x f j p = tt
aam_control false x f j p = p

pub adjust_control : (op : AdjustOp) (ax base f : ℕ) (j : Flag) → is_status j ≡ false → IfSome {T = ℕ × ℕ} (adjust_of op ax base f) (λ r. is_set r.1 j ≡ is_set f j)
unfolding adjust_of unpacked_flags packed_flags
adjust_control Aaa ax base f j q = two_control f Auxiliary Carry j _ _ refl refl q
adjust_control Aas ax base f j q = two_control f Auxiliary Carry j _ _ refl refl q
adjust_control Daa ax base f j q = szp_control Byte _ _ j q ∙ two_control f Auxiliary Carry j _ _ refl refl q
adjust_control Das ax base f j q = szp_control Byte _ _ j q ∙ two_control f Auxiliary Carry j _ _ refl refl q
adjust_control Aam ax base f j q = aam_control (base == 0) _ f j (szp_control Byte _ f j q)
adjust_control Aad ax base f j q = szp_control Byte _ f j q

pub increment_keeps_carry : (w : Width) (a f : ℕ) → is_set ((increment_of w a f).1) Carry ≡ is_set f Carry
unfolding increment_of
increment_keeps_carry w a f = szp_carry w _ _ ∙ put_other _ Overflow Carry _ (λ e. cc) ∙ put_other f Auxiliary Carry _ (λ e. cc)

pub decrement_keeps_carry : (w : Width) (a f : ℕ) → is_set ((decrement_of w a f).1) Carry ≡ is_set f Carry
unfolding decrement_of
decrement_keeps_carry w a f = szp_carry w _ _ ∙ put_other _ Overflow Carry _ (λ e. cc) ∙ put_other f Auxiliary Carry _ (λ e. cc)
