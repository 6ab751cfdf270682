-- Each row of the table gives instructions that the law speaks of.
use Rattle.std.proofs.Common.{◌≡◌, ◌⊎◌, inl, inr, refl, subst, ℕ, zero, suc, ◌+◌, ◌*◌, ◌/◌, ◌%◌, ◌<◌, ◌≤◌, Bool, true, false, cond, eqb, nat_lt, ◌&&◌, ◌||◌, not, List, [], ◌∷◌, ◌++◌, slice_index, slice_index_or, arith}
use Rattle.std.specs.Prelude.{Option, Some, None}
use Rattle.std.specs.List.{AllByRecursion}
use Rattle.std.proofs.lemmas.Bool.{ltb-true}
use Rattle.o2_isa.specs.declared.rows.Entry.{Entry}
use Rattle.o2_isa.specs.declared.rows.Entry.TheVariants.{Unused, Bare, Modrm, Group}
use Rattle.o2_isa.specs.declared.rows.Row.{Row}
use Rattle.o2_isa.specs.declared.rows.Slot.{Slot}
use Rattle.o2_isa.specs.declared.rows.Slot.TheVariants.{Absent, ModRm, Memory, Register, Segment, SegmentNotCs, Fixed, FixedByte, FixedWord, FixedSegment, ImmByte, ImmWord, ImmSigned, FarImm, Offset, Constant, Source}
use Rattle.o2_isa.specs.declared.rows.Prefixes.{Prefixes}
use Rattle.o2_isa.specs.declared.instr.Op.{Op}
use Rattle.o2_isa.specs.declared.instr.Ea.{Ea}
use Rattle.o2_isa.specs.declared.instr.Arg.{Arg}
use Rattle.o2_isa.specs.declared.instr.Arg.TheVariants as arg
use Rattle.o2_isa.specs.declared.instr.Width.{Width}
use Rattle.o2_isa.specs.declared.instr.Width.TheVariants.{Byte, Word}
use Rattle.o2_isa.specs.Table.{table, table_0f, groups}
use Rattle.o2_isa.specs.Operands.{Plan, mod_of, reg_of, rm_of, is_direct, disp_len, disp_of, word_at, sign_extended, ea_of, register, arg_of, row_takes}
use Rattle.o2_isa.specs.Spelling.{IsByte, plan_of, plan_two, plan_after, with_modrm, row_of, checked}
use Rattle.o2_isa.specs.Canonical.{is_string, has_bytes}
use Rattle.o2_text.specs.Text.{is_far, has_no_size, is_return}
use Rattle.o2_text.proofs.Places.{IsAddress}
use Rattle.o2_text.proofs.Arguments.{IsOperand, kind_of}
use Rattle.o2_text.proofs.Law.{is_out, is_byte, teller, tells}
use Rattle.o2_isa.specs.declared.instr.Op.TheVariants.{OpCall, OpCallFar, OpCallAt, OpCallFarAt, OpJmp, OpJmpFar, OpJmpAt, OpJmpFarAt, OpImul, OpImulThree}
use Rattle.o2_decode.proofs.HeadLaws.{chosen}
use Rattle.o2_text.proofs.Singles.{is_single}

-- What a row of the table is like, as a test.

abbrev pub is_absent : Slot → Bool
is_absent Absent = true
is_absent Source = true
is_absent _ = false

abbrev pub is_number : Slot → Bool
is_number ImmByte = true
is_number ImmWord = true
is_number ImmSigned = true
is_number (Constant n) = true
is_number _ = false

abbrev pub is_small : Slot → Bool
is_small (Fixed n) = nat_lt n 8
is_small (FixedByte n) = nat_lt n 8
is_small (FixedWord n) = nat_lt n 8
is_small (Constant n) = nat_lt n 65536
is_small _ = true

abbrev pub is_segment : Slot → Bool
is_segment Segment = true
is_segment SegmentNotCs = true
is_segment (FixedSegment s) = true
is_segment _ = false

abbrev pub tells_slot : Width → Slot → Bool
tells_slot w ModRm = true
tells_slot w Memory = true
tells_slot w Register = true
tells_slot w (Fixed n) = true
tells_slot w Offset = true
tells_slot w (FixedByte n) = is_byte w
tells_slot w (FixedWord n) = not (is_byte w)
tells_slot w Absent = is_byte w
tells_slot w Source = is_byte w
tells_slot w _ = false

abbrev pub is_far_slot : Slot → Bool
is_far_slot FarImm = true
is_far_slot _ = false

abbrev pub is_modrm : Slot → Bool
is_modrm ModRm = true
is_modrm _ = false

abbrev pub is_memory : Slot → Bool
is_memory Memory = true
is_memory _ = false

-- the forms of CALL, JMP and IMUL by their operands
abbrev pub in_family : Op → Slot → Slot → Bool
in_family OpCall l t = is_number l
in_family OpCallFar l t = is_far_slot l
in_family OpCallAt l t = is_modrm l
in_family OpCallFarAt l t = is_memory l
in_family OpJmp l t = is_number l
in_family OpJmpFar l t = is_far_slot l
in_family OpJmpAt l t = is_modrm l
in_family OpJmpFarAt l t = is_memory l
in_family OpImul l t = is_absent t
in_family OpImulThree l t = is_number t
in_family op l t = is_single op

abbrev pub ordered : Bool → Slot → Slot → Slot → Bool
ordered returns l r t = (is_absent r && is_absent t) || (not returns && not (is_absent l) && not (is_absent r)) || (not returns && not (is_absent l) && is_absent t)

abbrev pub teller_slot : Bool → Slot → Slot → Slot
teller_slot out l r = cond (out || is_segment l) r l

abbrev pub fits : Row → Bool
fits r = (is_small r.left && (is_small r.right && is_small r.third))
    && (ordered (is_return r.op) r.left r.right r.third
    && (in_family r.op r.left r.third
    && ((not (is_return r.op) || is_number r.left)
    && ((not (has_bytes r.op) || (not (is_far r.op) && not (has_no_size r.op)))
    && (not (has_bytes r.op) || (is_string r.op || tells_slot r.width (teller_slot (is_out r.op) r.left r.right)))))))

-- Each row of the table is like that.

abbrev entry_fits : Entry → Bool
entry_fits Unused = true
entry_fits (Bare r) = fits r
entry_fits (Modrm r) = fits r
entry_fits (Group k) = true

abbrev found_fits : Option Row → Bool
found_fits None = true
found_fits (Some r) = fits r

abbrev all_entries : List Entry → Bool
all_entries [] = true
all_entries (e ∷ es) = entry_fits e && all_entries es

abbrev all_found : List (Option Row) → Bool
all_found [] = true
all_found (r ∷ rs) = found_fits r && all_found rs

abbrev all_groups : List (List (Option Row)) → Bool
all_groups [] = true
all_groups (g ∷ gs) = all_found g && all_groups gs

both : (a b : Bool) → (a && b) ≡ true → (a ≡ true) × (b ≡ true)
both true b h = (refl, h)
both false b h = cc

entry_at : (es : List Entry) (b : ℕ) → all_entries es ≡ true → entry_fits (slice_index_or es b Unused) ≡ true
entry_at [] b h = refl
entry_at (e ∷ es) zero h = (both _ _ h).0
entry_at (e ∷ es) (suc b) h = entry_at es b (both _ _ h).1

found_at : (rs : List (Option Row)) (b : ℕ) → all_found rs ≡ true → found_fits (slice_index_or rs b None) ≡ true
found_at [] b h = refl
found_at (r ∷ rs) zero h = (both _ _ h).0
found_at (r ∷ rs) (suc b) h = found_at rs b (both _ _ h).1

group_at : (gs : List (List (Option Row))) (b : ℕ) → all_groups gs ≡ true → all_found (slice_index_or gs b []) ≡ true
group_at [] b h = refl
group_at (g ∷ gs) zero h = (both _ _ h).0
group_at (g ∷ gs) (suc b) h = group_at gs b (both _ _ h).1

table_fits : (b : ℕ) → entry_fits (slice_index_or table b Unused) ≡ true
unfolding table
table_fits b = entry_at table b refl

table_0f_fits : (b : ℕ) → entry_fits (slice_index_or table_0f b Unused) ≡ true
unfolding table_0f
table_0f_fits b = entry_at table_0f b refl

groups_fit : (k r : ℕ) → found_fits (slice_index_or (slice_index_or groups k []) r None) ≡ true
unfolding groups
groups_fit k r = found_at (slice_index_or groups k []) r (group_at groups k refl)

checked_fits : (r : Option Row) (m : ℕ) → found_fits r ≡ true → found_fits (checked r m) ≡ true
checked_fits None m h = refl
checked_fits (Some row) m h = elim (chosen_row (row_takes row m) row) [ inl e ↦ rw e h | inr e ↦ rw e refl ]
  where
    chosen_row : (b : Bool) (row : Row) → (cond b (Some row) None ≡ Some row) ⊎ (cond b (Some row) None ≡ None)
    chosen_row true row = inl refl
    chosen_row false row = inr refl

row_of_fits : (e : Entry) (m : ℕ) → entry_fits e ≡ true → found_fits (row_of e m) ≡ true
row_of_fits Unused m h = refl
row_of_fits (Bare r) m h = refl
row_of_fits (Modrm r) m h = checked_fits (Some r) m h
row_of_fits (Group k) m h = checked_fits (slice_index_or (slice_index_or groups k []) (reg_of m) None) m (groups_fit k (reg_of m))

with_fits : (r : Option Row) (m : ℕ) (p : Plan) → found_fits r ≡ true → with_modrm r m ≡ Some p → fits p.row ≡ true
with_fits None m p h e = cc
with_fits (Some row) m p h e = subst (λ (x : Plan). fits x.row ≡ true) (same e) h
  where
    same : {x y : Plan} → Some x ≡ Some y → x ≡ y
    same q = cc

after_fits : (e : Entry) (bs : List ℕ) (p : Plan) → entry_fits e ≡ true → plan_after e bs ≡ Some p → fits p.row ≡ true
after_fits (Bare row) [] p h e = subst (λ (x : Plan). fits x.row ≡ true) (same e) h
  where
    same : {x y : Plan} → Some x ≡ Some y → x ≡ y
    same q = cc
after_fits (Bare row) (m ∷ []) p h e = cc
after_fits (Bare row) (m ∷ n ∷ bs) p h e = cc
after_fits Unused [] p h e = cc
after_fits Unused (m ∷ []) p h e = cc
after_fits Unused (m ∷ n ∷ bs) p h e = cc
after_fits (Modrm row) [] p h e = cc
after_fits (Modrm row) (m ∷ []) p h e = with_fits (row_of (Modrm row) m) m p (row_of_fits (Modrm row) m h) e
after_fits (Modrm row) (m ∷ n ∷ bs) p h e = cc
after_fits (Group k) [] p h e = cc
after_fits (Group k) (m ∷ []) p h e = with_fits (row_of (Group k) m) m p (row_of_fits (Group k) m h) e
after_fits (Group k) (m ∷ n ∷ bs) p h e = cc

two_fits : (bs : List ℕ) (p : Plan) → plan_two bs ≡ Some p → fits p.row ≡ true
two_fits [] p e = cc
two_fits (b ∷ bs) p e = after_fits (slice_index_or table_0f b Unused) bs p (table_0f_fits b) e

pub plan_fits : (bs : List ℕ) (p : Plan) → plan_of bs ≡ Some p → fits p.row ≡ true
plan_fits [] p e = cc
plan_fits (b ∷ bs) p e =
    elim (chosen (eqb b 15) (plan_two bs) (plan_after (slice_index_or table b Unused) bs) (Some p) e) [
      | inl w ↦ two_fits bs p w.1
      | inr w ↦ after_fits (slice_index_or table b Unused) bs p (table_fits b) w.1
    ]

-- What the operands of such a row are.

untrue : false ≡ true → ⊥
untrue q = cc

untrue_too : true ≡ false → ⊥
untrue_too q = cc

pub all_right : (a b : List ℕ) → AllByRecursion IsByte (a ++ b) → AllByRecursion IsByte b
all_right [] b h = h
all_right (x ∷ a) b h = all_right a b h.1

byte_at : (t : List ℕ) (k : ℕ) → AllByRecursion IsByte t → slice_index t k < 256
byte_at [] k h = omega arith
byte_at (x ∷ t) zero h = h.0
byte_at (x ∷ t) (suc k) h = byte_at t k h.1

word_sum : (a b : ℕ) → a < 256 → b < 256 → a + 256 * b < 65536
word_sum a b p q = omega arith

word_small : (t : List ℕ) (k : ℕ) → AllByRecursion IsByte t → word_at t k < 65536
word_small t k h = word_sum _ _ (byte_at t k h) (byte_at t (k + 1) h)

cond_below : (b : Bool) (x y n : ℕ) → x < n → y < n → cond b x y < n
cond_below true x y n p q = p
cond_below false x y n p q = q

byte_below : (a : ℕ) → a < 256 → a < 65536
byte_below a h = omega arith

signed_below : (a : ℕ) → a < 256 → a + 65280 < 65536
signed_below a h = omega arith

sign_small : (a : ℕ) → a < 256 → sign_extended a < 65536
sign_small a h = cond_below (nat_lt a 128) a (a + 65280) 65536 (byte_below a h) (signed_below a h)

disp_small : (m : ℕ) (t : List ℕ) → AllByRecursion IsByte t → disp_of m t < 65536
disp_small m t h =
    cond_below (eqb (disp_len m) 0) 0 (cond (eqb (disp_len m) 1) (sign_extended (slice_index t 0)) (word_at t 0)) 65536 (omega arith)
    (cond_below (eqb (disp_len m) 1) (sign_extended (slice_index t 0)) (word_at t 0) 65536 (sign_small _ (byte_at t 0 h)) (word_small t 0 h))

eight : (n : ℕ) → n % 8 < 8
eight n = omega arith

base_below : (n : ℕ) → n < 9 → n ≤ 8
base_below n h = omega arith

rm_below : (m : ℕ) → rm_of m < 9
rm_below m = omega (arith, eight m)

address_small : (p : Prefixes) (m : ℕ) (t : List ℕ) → AllByRecursion IsByte t → IsAddress (ea_of p m t)
address_small p m t h = record { base = base_below _ (cond_below (is_direct m) 8 (rm_of m) 9 (omega arith) (rm_below m)); disp = disp_small m t h }

register_any : (P : Arg → Type 0) (w : Width) (n : ℕ) → P (arg.R8 n) → P (arg.R16 n) → P (register w n)
register_any P Byte n a b = a
register_any P Word n a b = b

modrm_any : (P : Arg → Type 0) (b : Bool) (w : Width) (n : ℕ) (ea : Ea) → P (arg.R8 n) → P (arg.R16 n) → P (arg.M ea) → P (cond b (register w n) (arg.M ea))
modrm_any P true w n ea a c d = register_any P w n a c
modrm_any P false w n ea a c d = d

pub operand_small : (s : Slot) (w : Width) (p : Prefixes) (m : ℕ) (t : List ℕ) (k : ℕ) → is_small s ≡ true → AllByRecursion IsByte t → IsOperand (arg_of s w p m t k)
operand_small Absent w p m t k f h = tt
operand_small ModRm w p m t k f h = modrm_any IsOperand (eqb (mod_of m) 3) w (rm_of m) (ea_of p m t) (eight m) (eight m) (address_small p m t h)
operand_small Memory w p m t k f h = address_small p m t h
operand_small Register w p m t k f h = register_any IsOperand w (reg_of m) (eight (m / 8)) (eight (m / 8))
operand_small Segment w p m t k f h = tt
operand_small SegmentNotCs w p m t k f h = tt
operand_small (Fixed n) w p m t k f h = register_any IsOperand w n (ltb-true n 8 f) (ltb-true n 8 f)
operand_small (FixedByte n) w p m t k f h = ltb-true n 8 f
operand_small (FixedWord n) w p m t k f h = ltb-true n 8 f
operand_small (FixedSegment s) w p m t k f h = tt
operand_small ImmByte w p m t k f h = byte_below _ (byte_at t k h)
operand_small ImmWord w p m t k f h = word_small t k h
operand_small ImmSigned w p m t k f h = sign_small _ (byte_at t k h)
operand_small FarImm w p m t k f h = (word_small t k h, word_small t (k + 2) h)
operand_small Offset w p m t k f h = record { base = omega arith; disp = word_small t k h }
operand_small (Constant n) w p m t k f h = ltb-true n 65536 f
operand_small Source w p m t k f h = tt

pub absent_is : (s : Slot) (w : Width) (p : Prefixes) (m : ℕ) (t : List ℕ) (k : ℕ) → is_absent s ≡ true → arg_of s w p m t k ≡ arg.No
absent_is Absent w p m t k f = refl
absent_is ModRm w p m t k f = cc
absent_is Memory w p m t k f = cc
absent_is Register w p m t k f = cc
absent_is Segment w p m t k f = cc
absent_is SegmentNotCs w p m t k f = cc
absent_is (Fixed n) w p m t k f = cc
absent_is (FixedByte n) w p m t k f = cc
absent_is (FixedWord n) w p m t k f = cc
absent_is (FixedSegment s) w p m t k f = cc
absent_is ImmByte w p m t k f = cc
absent_is ImmWord w p m t k f = cc
absent_is ImmSigned w p m t k f = cc
absent_is FarImm w p m t k f = cc
absent_is Offset w p m t k f = cc
absent_is (Constant n) w p m t k f = cc
absent_is Source w p m t k f = refl

abbrev pub Is_there : Arg → Type 0
Is_there a = eqb (kind_of a) 0 ≡ false

pub there_is : (s : Slot) (w : Width) (p : Prefixes) (m : ℕ) (t : List ℕ) (k : ℕ) → is_absent s ≡ false → Is_there (arg_of s w p m t k)
there_is Absent w p m t k f = cc
there_is ModRm w p m t k f = modrm_any Is_there (eqb (mod_of m) 3) w (rm_of m) (ea_of p m t) refl refl refl
there_is Memory w p m t k f = refl
there_is Register w p m t k f = register_any Is_there w (reg_of m) refl refl
there_is Segment w p m t k f = refl
there_is SegmentNotCs w p m t k f = refl
there_is (Fixed n) w p m t k f = register_any Is_there w n refl refl
there_is (FixedByte n) w p m t k f = refl
there_is (FixedWord n) w p m t k f = refl
there_is (FixedSegment s) w p m t k f = refl
there_is ImmByte w p m t k f = refl
there_is ImmWord w p m t k f = refl
there_is ImmSigned w p m t k f = refl
there_is FarImm w p m t k f = refl
there_is Offset w p m t k f = refl
there_is (Constant n) w p m t k f = refl
there_is Source w p m t k f = cc

pub number_is : (s : Slot) (w : Width) (p : Prefixes) (m : ℕ) (t : List ℕ) (k : ℕ) → is_number s ≡ true → kind_of (arg_of s w p m t k) ≡ 2
number_is Absent w p m t k f = cc
number_is ModRm w p m t k f = cc
number_is Memory w p m t k f = cc
number_is Register w p m t k f = cc
number_is Segment w p m t k f = cc
number_is SegmentNotCs w p m t k f = cc
number_is (Fixed n) w p m t k f = cc
number_is (FixedByte n) w p m t k f = cc
number_is (FixedWord n) w p m t k f = cc
number_is (FixedSegment s) w p m t k f = cc
number_is ImmByte w p m t k f = refl
number_is ImmWord w p m t k f = refl
number_is ImmSigned w p m t k f = refl
number_is FarImm w p m t k f = cc
number_is Offset w p m t k f = cc
number_is (Constant n) w p m t k f = refl
number_is Source w p m t k f = cc

pub far_is : (s : Slot) (w : Width) (p : Prefixes) (m : ℕ) (t : List ℕ) (k : ℕ) → is_far_slot s ≡ true → kind_of (arg_of s w p m t k) ≡ 3
far_is Absent w p m t k f = cc
far_is ModRm w p m t k f = cc
far_is Memory w p m t k f = cc
far_is Register w p m t k f = cc
far_is Segment w p m t k f = cc
far_is SegmentNotCs w p m t k f = cc
far_is (Fixed n) w p m t k f = cc
far_is (FixedByte n) w p m t k f = cc
far_is (FixedWord n) w p m t k f = cc
far_is (FixedSegment s) w p m t k f = cc
far_is ImmByte w p m t k f = cc
far_is ImmWord w p m t k f = cc
far_is ImmSigned w p m t k f = cc
far_is FarImm w p m t k f = refl
far_is Offset w p m t k f = cc
far_is (Constant n) w p m t k f = cc
far_is Source w p m t k f = cc

pub memory_is : (s : Slot) (w : Width) (p : Prefixes) (m : ℕ) (t : List ℕ) (k : ℕ) → is_memory s ≡ true → kind_of (arg_of s w p m t k) ≡ 4
memory_is Absent w p m t k f = cc
memory_is ModRm w p m t k f = cc
memory_is Memory w p m t k f = refl
memory_is Register w p m t k f = cc
memory_is Segment w p m t k f = cc
memory_is SegmentNotCs w p m t k f = cc
memory_is (Fixed n) w p m t k f = cc
memory_is (FixedByte n) w p m t k f = cc
memory_is (FixedWord n) w p m t k f = cc
memory_is (FixedSegment s) w p m t k f = cc
memory_is ImmByte w p m t k f = cc
memory_is ImmWord w p m t k f = cc
memory_is ImmSigned w p m t k f = cc
memory_is FarImm w p m t k f = cc
memory_is Offset w p m t k f = cc
memory_is (Constant n) w p m t k f = cc
memory_is Source w p m t k f = cc

-- neither a number nor a far address
abbrev pub Is_place : Arg → Type 0
Is_place a = (eqb (kind_of a) 2 ≡ false) × (eqb (kind_of a) 3 ≡ false)

pub modrm_is : (s : Slot) (w : Width) (p : Prefixes) (m : ℕ) (t : List ℕ) (k : ℕ) → is_modrm s ≡ true → Is_place (arg_of s w p m t k)
modrm_is Absent w p m t k f = absurd (untrue f)
modrm_is ModRm w p m t k f = modrm_any Is_place (eqb (mod_of m) 3) w (rm_of m) (ea_of p m t) (refl, refl) (refl, refl) (refl, refl)
modrm_is Memory w p m t k f = absurd (untrue f)
modrm_is Register w p m t k f = absurd (untrue f)
modrm_is Segment w p m t k f = absurd (untrue f)
modrm_is SegmentNotCs w p m t k f = absurd (untrue f)
modrm_is (Fixed n) w p m t k f = absurd (untrue f)
modrm_is (FixedByte n) w p m t k f = absurd (untrue f)
modrm_is (FixedWord n) w p m t k f = absurd (untrue f)
modrm_is (FixedSegment s) w p m t k f = absurd (untrue f)
modrm_is ImmByte w p m t k f = absurd (untrue f)
modrm_is ImmWord w p m t k f = absurd (untrue f)
modrm_is ImmSigned w p m t k f = absurd (untrue f)
modrm_is FarImm w p m t k f = absurd (untrue f)
modrm_is Offset w p m t k f = absurd (untrue f)
modrm_is (Constant n) w p m t k f = absurd (untrue f)
modrm_is Source w p m t k f = absurd (untrue f)

abbrev pub Tells : Width → Arg → Type 0
Tells w a = tells w a ≡ true

register_tells : (w : Width) (n : ℕ) → Tells w (register w n)
register_tells Byte n = refl
register_tells Word n = refl

modrm_tells : (b : Bool) (w : Width) (n : ℕ) (ea : Ea) → Tells w (cond b (register w n) (arg.M ea))
modrm_tells true w n ea = register_tells w n
modrm_tells false w n ea = refl

pub slot_tells : (s : Slot) (w : Width) (p : Prefixes) (m : ℕ) (t : List ℕ) (k : ℕ) → tells_slot w s ≡ true → Tells w (arg_of s w p m t k)
slot_tells Absent w p m t k f = f
slot_tells ModRm w p m t k f = modrm_tells (eqb (mod_of m) 3) w (rm_of m) (ea_of p m t)
slot_tells Memory w p m t k f = refl
slot_tells Register w p m t k f = register_tells w (reg_of m)
slot_tells Segment w p m t k f = f
slot_tells SegmentNotCs w p m t k f = f
slot_tells (Fixed n) w p m t k f = register_tells w n
slot_tells (FixedByte n) w p m t k f = f
slot_tells (FixedWord n) w p m t k f = f
slot_tells (FixedSegment s) w p m t k f = f
slot_tells ImmByte w p m t k f = f
slot_tells ImmWord w p m t k f = f
slot_tells ImmSigned w p m t k f = f
slot_tells FarImm w p m t k f = f
slot_tells Offset w p m t k f = refl
slot_tells (Constant n) w p m t k f = f
slot_tells Source w p m t k f = f

abbrev pub Own : Arg → Type 0
Own a = (r : Arg) → teller false a r ≡ a

pub own_tells : (s : Slot) (w : Width) (p : Prefixes) (m : ℕ) (t : List ℕ) (k : ℕ) → is_segment s ≡ false → Own (arg_of s w p m t k)
own_tells Absent w p m t k f = λ r. refl
own_tells ModRm w p m t k f = modrm_any Own (eqb (mod_of m) 3) w (rm_of m) (ea_of p m t) (λ r. refl) (λ r. refl) (λ r. refl)
own_tells Memory w p m t k f = λ r. refl
own_tells Register w p m t k f = register_any Own w (reg_of m) (λ r. refl) (λ r. refl)
own_tells Segment w p m t k f = absurd (untrue_too f)
own_tells SegmentNotCs w p m t k f = absurd (untrue_too f)
own_tells (Fixed n) w p m t k f = register_any Own w n (λ r. refl) (λ r. refl)
own_tells (FixedByte n) w p m t k f = λ r. refl
own_tells (FixedWord n) w p m t k f = λ r. refl
own_tells (FixedSegment s) w p m t k f = absurd (untrue_too f)
own_tells ImmByte w p m t k f = λ r. refl
own_tells ImmWord w p m t k f = λ r. refl
own_tells ImmSigned w p m t k f = λ r. refl
own_tells FarImm w p m t k f = λ r. refl
own_tells Offset w p m t k f = λ r. refl
own_tells (Constant n) w p m t k f = λ r. refl
own_tells Source w p m t k f = λ r. refl

pub segment_is_other : (s : Slot) (w : Width) (p : Prefixes) (m : ℕ) (t : List ℕ) (k : ℕ) → is_segment s ≡ true → (r : Arg) → teller false (arg_of s w p m t k) r ≡ r
segment_is_other Absent w p m t k f = absurd (untrue f)
segment_is_other ModRm w p m t k f = absurd (untrue f)
segment_is_other Memory w p m t k f = absurd (untrue f)
segment_is_other Register w p m t k f = absurd (untrue f)
segment_is_other Segment w p m t k f = λ r. refl
segment_is_other SegmentNotCs w p m t k f = λ r. refl
segment_is_other (Fixed n) w p m t k f = absurd (untrue f)
segment_is_other (FixedByte n) w p m t k f = absurd (untrue f)
segment_is_other (FixedWord n) w p m t k f = absurd (untrue f)
segment_is_other (FixedSegment s) w p m t k f = λ r. refl
segment_is_other ImmByte w p m t k f = absurd (untrue f)
segment_is_other ImmWord w p m t k f = absurd (untrue f)
segment_is_other ImmSigned w p m t k f = absurd (untrue f)
segment_is_other FarImm w p m t k f = absurd (untrue f)
segment_is_other Offset w p m t k f = absurd (untrue f)
segment_is_other (Constant n) w p m t k f = absurd (untrue f)
segment_is_other Source w p m t k f = absurd (untrue f)
