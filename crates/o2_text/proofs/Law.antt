-- Two instructions of one text, with one IP behind them, are one.
use Rattle.std.proofs.Common.{◌≡◌, inl, inr, refl, sym, ◌∙◌, ap, subst, ℕ, zero, suc, ◌+◌, ◌<◌, ◌%◌, Bool, true, false, cond, eqb, ◌&&◌, not, List, [], ◌∷◌, ◌++◌, append_assoc, arith}
use Rattle.std.proofs.lemmas.Bool.{eqb-true, cases_Bool}
use Rattle.std.proofs.lemmas.List.{append_cancel_left}
use Rattle.o2_isa.specs.declared.instr.Op.{Op}
use Rattle.o2_isa.specs.declared.instr.Op.TheVariants.{OpCall, OpCallFar, OpCallAt, OpCallFarAt, OpJmp, OpJmpFar, OpJmpAt, OpJmpFarAt, OpImul, OpImulThree, OpOut}
use Rattle.o2_isa.specs.declared.instr.Width.{Width}
use Rattle.o2_isa.specs.declared.instr.Width.TheVariants.{Byte, Word}
use Rattle.o2_isa.specs.declared.instr.Rep.{Rep}
use Rattle.o2_isa.specs.declared.instr.Sreg.{Sreg}
use Rattle.o2_isa.specs.declared.instr.Sreg.TheVariants.{Es, Cs, Ss, Ds}
use Rattle.o2_isa.specs.declared.instr.Ea.{Ea}
use Rattle.o2_isa.specs.declared.instr.Arg.{Arg}
use Rattle.o2_isa.specs.declared.instr.Arg.TheVariants as arg
use Rattle.o2_isa.specs.declared.instr.Instr.{Instr}
use Rattle.o2_isa.specs.Canonical.{is_string, compares, has_bytes, IsCanonical}
use Rattle.o2_text.specs.Names.{name}
use Rattle.o2_text.specs.Text.{byte_register, word_register, segment_register, address, number, number_text, is_far, has_no_size, is_relative, is_return, first_of, size_text, width_text, suffix, lock_text, repeat_text, source_text, operand_text, operands_text, text_of}
use Rattle.o2_text.proofs.Digits.{number_forms}
use Rattle.o2_text.proofs.Places.{first}
use Rattle.o2_text.proofs.Arguments.{IsOperand, Size, Bytes, Words, Fars, Nothing, kind, kind_of, kind_reads, SameSize, operand_same}
use Rattle.o2_text.proofs.Facts.{full, family}
use Rattle.o2_text.proofs.Heads.{Behind, names_same, families_same, no_prefix, source_same, repeat_same, lock_same}
use Rattle.o2_text.proofs.Commas.{Reads, left_read, right_read, third_read, in_order, operands_read, operands_behind}

-- the first operand as it is written
abbrev pub shown : Instr → Arg
shown i = first_of (is_return i.op) i.left

-- whether it is written as a far address in memory
abbrev pub far_shown : Op → Arg → Bool
far_shown op a = is_far op && eqb (kind_of a) 4

-- which form of CALL, JMP or IMUL it is: by the kind of the first operand, whether it is a far address in memory, and the kind of the third
abbrev pub member : Op → ℕ → Bool → ℕ → Op
member OpCall k f t = cond (eqb k 2) OpCall (cond (eqb k 3) OpCallFar (cond f OpCallFarAt OpCallAt))
member OpJmp k f t = cond (eqb k 2) OpJmp (cond (eqb k 3) OpJmpFar (cond f OpJmpFarAt OpJmpAt))
member OpImul k f t = cond (eqb t 2) OpImulThree OpImul
member op k f t = op

abbrev pub is_byte : Width → Bool
is_byte Byte = true
is_byte Word = false

abbrev pub is_out : Op → Bool
is_out OpOut = true
is_out _ = false

-- the operand that says the width: of OUT the second, of others the first, or the second where that is a segment register
abbrev pub teller : Bool → Arg → Arg → Arg
teller true l r = r
teller false arg.No r = arg.No
teller false (arg.R8 n) r = arg.R8 n
teller false (arg.R16 n) r = arg.R16 n
teller false (arg.S s) r = r
teller false (arg.M ea) r = arg.M ea
teller false (arg.Imm n) r = arg.Imm n
teller false (arg.Far o s) r = arg.Far o s

-- whether it says this width
abbrev pub tells : Width → Arg → Bool
tells w (arg.M ea) = true
tells w (arg.R8 n) = is_byte w
tells w (arg.R16 n) = not (is_byte w)
tells w arg.No = is_byte w
tells w (arg.S s) = false
tells w (arg.Imm n) = false
tells w (arg.Far o s) = false

-- what an instruction that bytes spell is like
pub record IsShaped (i : Instr) : Type 0 where
  pub left : IsOperand i.left
  pub right : IsOperand i.right
  pub third : IsOperand i.third
  pub order : in_order (kind_of (shown i)) (kind_of i.right) (kind_of i.third) ≡ true
  pub op : member (family i.op) (kind_of (shown i)) (far_shown i.op (shown i)) (kind_of i.third) ≡ i.op
  pub returns : is_return i.op ≡ true → kind_of i.left ≡ 2
  pub canonical : IsCanonical i
  pub sizes : has_bytes i.op ≡ true → (is_far i.op ≡ false) × (has_no_size i.op ≡ false)
  pub width : has_bytes i.op ≡ true → is_string i.op ≡ false → tells i.width (teller (is_out i.op) i.left i.right) ≡ true

-- what stands before an operand in memory is one of four texts

size_is : (f n : Bool) (w : Width) → Size (cond f (102 ∷ 97 ∷ 114 ∷ 32 ∷ []) (cond n [] (width_text w)))
size_is true n w = Fars
size_is false true w = Nothing
size_is false false Byte = Bytes
size_is false false Word = Words

pub size_of : (op : Op) (w : Width) → Size (size_text op w)
size_of op w = size_is (is_far op) (has_no_size op) w

-- the first operand as it is written is an operand

first_operand : (b : Bool) (a : Arg) → IsOperand a → IsOperand (first_of b a)
first_operand b arg.No p = p
first_operand b (arg.R8 n) p = p
first_operand b (arg.R16 n) p = p
first_operand b (arg.S s) p = p
first_operand b (arg.M ea) p = p
first_operand false (arg.Imm n) p = p
first_operand true (arg.Imm n) p = elim (cases_Bool (eqb n 0)) [ inl e ↦ rw e tt | inr e ↦ rw e p ]
first_operand b (arg.Far o s) p = p

-- whether a text is that of a far address in memory

abbrev far_read : List ℕ → Bool
far_read t = eqb (first t) 102

far_text : (f n : Bool) (w : Width) (t : List ℕ) → far_read (cond f (102 ∷ 97 ∷ 114 ∷ 32 ∷ []) (cond n [] (width_text w)) ++ 91 ∷ t) ≡ f
far_text true n w t = refl
far_text false true w t = refl
far_text false false Byte t = refl
far_text false false Word t = refl

far_memory : (op : Op) (w : Width) (ea : Ea) (r : Bool) (n : ℕ) → far_read (operand_text r (size_text op w) n (arg.M ea)) ≡ is_far op
far_memory op w ea r n = far_text (is_far op) (has_no_size op) w _

byte_far : (n : ℕ) → n < 8 → far_read (byte_register n) ≡ false
byte_far zero h = refl
byte_far (suc zero) h = refl
byte_far (suc (suc zero)) h = refl
byte_far (suc (suc (suc zero))) h = refl
byte_far (suc (suc (suc (suc zero)))) h = refl
byte_far (suc (suc (suc (suc (suc zero))))) h = refl
byte_far (suc (suc (suc (suc (suc (suc zero)))))) h = refl
byte_far (suc (suc (suc (suc (suc (suc (suc zero))))))) h = refl
byte_far (suc (suc (suc (suc (suc (suc (suc (suc n)))))))) h = absurd (omega arith)

word_far : (n : ℕ) → n < 8 → far_read (word_register n) ≡ false
word_far zero h = refl
word_far (suc zero) h = refl
word_far (suc (suc zero)) h = refl
word_far (suc (suc (suc zero))) h = refl
word_far (suc (suc (suc (suc zero)))) h = refl
word_far (suc (suc (suc (suc (suc zero))))) h = refl
word_far (suc (suc (suc (suc (suc (suc zero)))))) h = refl
word_far (suc (suc (suc (suc (suc (suc (suc zero))))))) h = refl
word_far (suc (suc (suc (suc (suc (suc (suc (suc n)))))))) h = absurd (omega arith)

segment_far : (s : Sreg) → far_read (segment_register s) ≡ false
segment_far Es = refl
segment_far Cs = refl
segment_far Ss = refl
segment_far Ds = refl

address_far : (n : ℕ) (t : List ℕ) → far_read (address n ++ t) ≡ false
unfolding address
address_far n t = refl

address_far_alone : (n : ℕ) → far_read (address n) ≡ false
unfolding address
address_far_alone n = refl

number_far : (n : ℕ) → far_read (number n) ≡ false
number_far n = elim (number_forms n) [ inl e ↦ ap far_read e | inr e ↦ ap far_read e ]

immediate_far : (r : Bool) (next n : ℕ) → far_read (number_text r next n) ≡ false
immediate_far true next n = address_far_alone ((next + n) % 65536)
immediate_far false next n = number_far n

and_false : (b : Bool) → (b && false) ≡ false
and_false true = refl
and_false false = refl

and_true : (b : Bool) → (b && true) ≡ b
and_true true = refl
and_true false = refl

far_reads : (op : Op) (w : Width) (r : Bool) (n : ℕ) (a : Arg) → IsOperand a → far_read (operand_text r (size_text op w) n a) ≡ far_shown op a
far_reads op w r n arg.No p = sym (and_false (is_far op))
far_reads op w r n (arg.R8 m) p = byte_far m p ∙ sym (and_false (is_far op))
far_reads op w r n (arg.R16 m) p = word_far m p ∙ sym (and_false (is_far op))
far_reads op w r n (arg.S s) p = segment_far s ∙ sym (and_false (is_far op))
far_reads op w r n (arg.M ea) p = far_memory op w ea r n ∙ sym (and_true (is_far op))
far_reads op w r n (arg.Imm m) p = immediate_far r n m ∙ sym (and_false (is_far op))
far_reads op w r n (arg.Far o s) p = address_far s _ ∙ sym (and_false (is_far op))

-- the operands of a shaped instruction are read from their text

left_of : Instr → ℕ → List ℕ
left_of i n = operand_text (is_relative i.op) (size_text i.op i.width) n (shown i)

abbrev ReadsAs : Instr → ℕ → Type 0
ReadsAs i n = Reads (operands_text i n) (operand_text (is_relative i.op) (size_text i.op i.width) n (shown i))
    (operand_text (is_relative i.op) (size_text i.op i.width) n i.right) (operand_text (is_relative i.op) (size_text i.op i.width) n i.third)

reads_as : (i : Instr) (n : ℕ) → IsShaped i → ReadsAs i n
reads_as i n s = operands_read (is_relative i.op) (size_text i.op i.width) n (shown i) i.right i.third (first_operand (is_return i.op) i.left s.left) s.right (size_of i.op i.width) s.order

behind_as : (i : Instr) (n : ℕ) → IsShaped i → Behind (operands_text i n)
behind_as i n s = operands_behind (is_relative i.op) (size_text i.op i.width) n (shown i) i.right i.third s.order

-- the text as its front, its mnemonic and its operands

regrouped : (a b c d e f : List ℕ) → (((((a ++ b) ++ c) ++ d) ++ e) ++ f) ≡ a ++ (b ++ (c ++ ((d ++ e) ++ f)))
regrouped a b c d e f = simp append_assoc

abbrev mnemonic_text : Instr → ℕ → List ℕ
mnemonic_text i n = full i.op i.width ++ operands_text i n

text_is : (i : Instr) (n : ℕ) → text_of i n ≡ lock_text i.lock ++ (repeat_text (compares i.op) i.rep ++ (source_text i.seg ++ mnemonic_text i n))
unfolding text_of
text_is i n = regrouped (lock_text i.lock) (repeat_text (compares i.op) i.rep) (source_text i.seg) (name i.op) (suffix (is_string i.op) i.width) (operands_text i n)

-- what two instructions of one text have in common
record Alike (i j : Instr) (n : ℕ) : Type 0 where
  lock : i.lock ≡ j.lock
  rep : i.rep ≡ j.rep
  seg : i.seg ≡ j.seg
  names : full i.op i.width ≡ full j.op j.width
  operands : operands_text i n ≡ operands_text j n

alike : (i j : Instr) (n : ℕ) → IsShaped i → IsShaped j → text_of i n ≡ text_of j n → Alike i j n
alike i j n s t e =
    let g = no_prefix i.op i.width (operands_text i n) (behind_as i n s) in
    let h = no_prefix j.op j.width (operands_text j n) (behind_as j n t) in
    let locks = lock_same i.lock j.lock (compares i.op) (compares j.op) i.rep j.rep i.seg j.seg (mnemonic_text i n) (mnemonic_text j n) g h (sym (text_is i n) ∙ (e ∙ text_is j n)) in
    let reps = repeat_same (compares i.op) (compares j.op) i.rep j.rep i.seg j.seg (mnemonic_text i n) (mnemonic_text j n) g h locks.1 in
    let segs = source_same i.seg j.seg (mnemonic_text i n) (mnemonic_text j n) g h reps.1 in
    let names = names_same i.op j.op i.width j.width (operands_text i n) (operands_text j n) (behind_as i n s) (behind_as j n t) segs.1 in
    record { lock = locks.0; rep = reps.0; seg = segs.0; names = names.0; operands = names.1 }

-- the mnemonic

same_op : (i j : Instr) (n : ℕ) → IsShaped i → IsShaped j → Alike i j n → i.op ≡ j.op
same_op i j n s t k =
    let p = reads_as i n s in
    let q = reads_as j n t in
    let fam : family i.op ≡ family j.op = families_same i.op j.op i.width j.width k.names in
    let u = first_operand (is_return i.op) i.left s.left in
    let v = first_operand (is_return j.op) j.left t.left in
    let lefts = sym p.left_is ∙ (ap left_read k.operands ∙ q.left_is) in
    let thirds = sym p.third_is ∙ (ap third_read k.operands ∙ q.third_is) in
    let kinds : kind_of (shown i) ≡ kind_of (shown j) =
    sym (kind_reads _ _ n (shown i) u (size_of i.op i.width)) ∙ (ap kind lefts ∙ kind_reads _ _ n (shown j) v (size_of j.op j.width)) in
    let fars : far_shown i.op (shown i) ≡ far_shown j.op (shown j) =
    sym (far_reads i.op i.width _ n (shown i) u) ∙ (ap far_read lefts ∙ far_reads j.op j.width _ n (shown j) v) in
    let third_kinds : kind_of i.third ≡ kind_of j.third =
    sym (kind_reads _ _ n i.third s.third (size_of i.op i.width)) ∙ (ap kind thirds ∙ kind_reads _ _ n j.third t.third (size_of j.op j.width)) in
    sym s.op ∙ (members (family i.op) (family j.op) _ _ _ _ _ _ fam kinds fars third_kinds ∙ t.op)
  where
    members : (a b : Op) (k l : ℕ) (f g : Bool) (x y : ℕ) → a ≡ b → k ≡ l → f ≡ g → x ≡ y → member a k f x ≡ member b l g y
    members a b k l f g x y p q r z =
        ap (λ (o : Op). member o k f x) p ∙ (ap (λ (m : ℕ). member b m f x) q ∙ (ap (λ (c : Bool). member b l c x) r ∙ ap (λ (m : ℕ). member b l g m) z))

-- the operands

pub plain_first : (a : Arg) → first_of false a ≡ a
plain_first arg.No = refl
plain_first (arg.R8 n) = refl
plain_first (arg.R16 n) = refl
plain_first (arg.S s) = refl
plain_first (arg.M ea) = refl
plain_first (arg.Imm n) = refl
plain_first (arg.Far o s) = refl

number_of : (a : Arg) → kind_of a ≡ 2 → (n : ℕ) × (a ≡ arg.Imm n)
number_of arg.No h = absurd (omega arith)
number_of (arg.R8 n) h = absurd (omega arith)
number_of (arg.R16 n) h = absurd (omega arith)
number_of (arg.S s) h = absurd (omega arith)
number_of (arg.M ea) h = absurd (omega arith)
number_of (arg.Imm n) h = (n, refl)
number_of (arg.Far o s) h = absurd (omega arith)

zero_or : (n m : ℕ) → cond (eqb n 0) arg.No (arg.Imm n) ≡ cond (eqb m 0) arg.No (arg.Imm m) → n ≡ m
zero_or n m e = elim (cases_Bool (eqb n 0)) [
  | inl p ↦ elim (cases_Bool (eqb m 0)) [
    | inl q ↦ eqb-true n 0 p ∙ sym (eqb-true m 0 q)
    | inr q ↦ absurd (none m (rw (p, q) at e))
  ]
  | inr p ↦ elim (cases_Bool (eqb m 0)) [
    | inl q ↦ absurd (none n (sym (rw (p, q) at e)))
    | inr q ↦ numbers n m (rw (p, q) at e)
  ]
]
  where
    none : (m : ℕ) → arg.No ≡ arg.Imm m → ⊥
    none m h = cc

    numbers : (n m : ℕ) → arg.Imm n ≡ arg.Imm m → n ≡ m
    numbers n m h = cc

left_same : (b : Bool) (a c : Arg) → (b ≡ true → kind_of a ≡ 2) → (b ≡ true → kind_of c ≡ 2) → first_of b a ≡ first_of b c → a ≡ c
left_same false a c p q e = sym (plain_first a) ∙ (e ∙ plain_first c)
left_same true a c p q e =
    let x = number_of a (p refl) in
    let y = number_of c (q refl) in
    let same : first_of true (arg.Imm x.0) ≡ first_of true (arg.Imm y.0) = ap (first_of true) (sym x.1) ∙ (e ∙ ap (first_of true) y.1) in
    x.1 ∙ (ap arg.Imm (zero_or x.0 y.0 same) ∙ sym y.1)

record SameOperands (i j : Instr) : Type 0 where
  left : i.left ≡ j.left
  right : i.right ≡ j.right
  third : i.third ≡ j.third
  left_size : SameSize i.left (size_text i.op i.width) (size_text j.op j.width)
  right_size : SameSize i.right (size_text i.op i.width) (size_text j.op j.width)

unshown : (b : Bool) (a : Arg) (x y : List ℕ) → SameSize (first_of b a) x y → SameSize a x y
unshown b arg.No x y h = tt
unshown b (arg.R8 n) x y h = tt
unshown b (arg.R16 n) x y h = tt
unshown b (arg.S s) x y h = tt
unshown b (arg.M ea) x y h = h
unshown b (arg.Imm n) x y h = tt
unshown b (arg.Far o s) x y h = tt

same_operands : (i j : Instr) (n : ℕ) → IsShaped i → IsShaped j → Alike i j n → i.op ≡ j.op → SameOperands i j
same_operands i j n s t k e =
    let p = reads_as i n s in
    let q = reads_as j n t in
    let rel : is_relative j.op ≡ is_relative i.op = ap is_relative (sym e) in
    let x = size_text i.op i.width in
    let y = size_text j.op j.width in
    let to_one : (a : Arg) → operand_text (is_relative j.op) y n a ≡ operand_text (is_relative i.op) y n a = λ a. ap (λ (b : Bool). operand_text b y n a) rel in
    let lefts = sym p.left_is ∙ (ap left_read k.operands ∙ (q.left_is ∙ to_one (shown j))) in
    let rights = sym p.right_is ∙ (ap right_read k.operands ∙ (q.right_is ∙ to_one j.right)) in
    let thirds = sym p.third_is ∙ (ap third_read k.operands ∙ (q.third_is ∙ to_one j.third)) in
    let u = first_operand (is_return i.op) i.left s.left in
    let v = first_operand (is_return j.op) j.left t.left in
    let l = operand_same (is_relative i.op) x y n (shown i) (shown j) u v (size_of i.op i.width) (size_of j.op j.width) lefts in
    let r = operand_same (is_relative i.op) x y n i.right j.right s.right t.right (size_of i.op i.width) (size_of j.op j.width) rights in
    let m = operand_same (is_relative i.op) x y n i.third j.third s.third t.third (size_of i.op i.width) (size_of j.op j.width) thirds in
    let ret : is_return j.op ≡ is_return i.op = ap is_return (sym e) in
    record {
      left = left_same (is_return i.op) i.left j.left s.returns (λ h. t.returns (ret ∙ h)) (l.0 ∙ ap (λ (b : Bool). first_of b j.left) ret);
      right = r.0;
      third = m.0;
      left_size = unshown (is_return i.op) i.left x y l.1;
      right_size = r.1;
    }

-- the width

letters_differ : {s t : List ℕ} → 98 ∷ s ≡ 119 ∷ t → ⊥
letters_differ h = heads (ap first h)
  where
    heads : ◌≡◌ {A = ℕ} 98 119 → ⊥
    heads q = omega arith

suffix_same : (v w : Width) → suffix true v ≡ suffix true w → v ≡ w
suffix_same Byte Byte e = refl
suffix_same Byte Word e = absurd (letters_differ e)
suffix_same Word Byte e = absurd (letters_differ (sym e))
suffix_same Word Word e = refl

size_same : (v w : Width) → width_text v ≡ width_text w → v ≡ w
size_same Byte Byte e = refl
size_same Byte Word e = absurd (letters_differ e)
size_same Word Byte e = absurd (letters_differ (sym e))
size_same Word Word e = refl

sized : (op : Op) (w : Width) → is_far op ≡ false → has_no_size op ≡ false → size_text op w ≡ width_text w
sized op w p q = conds (is_far op) (has_no_size op) w p q
  where
    conds : (f n : Bool) (w : Width) → f ≡ false → n ≡ false → cond f (102 ∷ 97 ∷ 114 ∷ 32 ∷ []) (cond n [] (width_text w)) ≡ width_text w
    conds f n w p q = rw (p, q) refl

byte_is : (w : Width) → is_byte w ≡ true → w ≡ Byte
byte_is Byte h = refl
byte_is Word h = cc

word_is : (w : Width) → not (is_byte w) ≡ true → w ≡ Word
word_is Byte h = cc
word_is Word h = refl

told_width : (op : Op) (v w : Width) (a : Arg) → tells v a ≡ true → tells w a ≡ true → SameSize a (size_text op v) (size_text op w)
    → is_far op ≡ false → has_no_size op ≡ false → v ≡ w
told_width op v w arg.No p q z f n = byte_is v p ∙ sym (byte_is w q)
told_width op v w (arg.R8 m) p q z f n = byte_is v p ∙ sym (byte_is w q)
told_width op v w (arg.R16 m) p q z f n = word_is v p ∙ sym (word_is w q)
told_width op v w (arg.S s) p q z f n = cc
told_width op v w (arg.M ea) p q z f n = size_same v w (sym (sized op v f n) ∙ (z ∙ sized op w f n))
told_width op v w (arg.Imm m) p q z f n = cc
told_width op v w (arg.Far o s) p q z f n = cc

teller_size : (o : Bool) (l r : Arg) (x y : List ℕ) → SameSize l x y → SameSize r x y → SameSize (teller o l r) x y
teller_size true l r x y p q = q
teller_size false arg.No r x y p q = p
teller_size false (arg.R8 n) r x y p q = p
teller_size false (arg.R16 n) r x y p q = p
teller_size false (arg.S s) r x y p q = q
teller_size false (arg.M ea) r x y p q = p
teller_size false (arg.Imm n) r x y p q = p
teller_size false (arg.Far o s) r x y p q = p

-- over the parts of two instructions of one mnemonic
letter_width : (op : Op) (v w : Width) → is_string op ≡ true → full op v ≡ full op w → v ≡ w
letter_width op v w h e = suffix_same v w (append_cancel_left (name op) (suffix true v) (suffix true w) (rw h at e))

same_width : (i j : Instr) (n : ℕ) → IsShaped i → IsShaped j → Alike i j n → i.op ≡ j.op → SameOperands i j → i.width ≡ j.width
same_width i j n s t k e o = elim (cases_Bool (has_bytes i.op)) [
  | inr h ↦ s.canonical.width h ∙ sym (t.canonical.width (ap has_bytes (sym e) ∙ h))
  | inl h ↦ elim (cases_Bool (is_string i.op)) [
    | inl g ↦ letter_width i.op i.width j.width g (k.names ∙ ap (λ (x : Op). full x j.width) (sym e))
    | inr g ↦ (let same : teller (is_out j.op) j.left j.right ≡ teller (is_out i.op) i.left i.right =
        ap (λ (x : Op). teller (is_out x) j.left j.right) (sym e) ∙ (ap (λ (a : Arg). teller (is_out i.op) a j.right) (sym o.left) ∙ ap (λ (a : Arg). teller (is_out i.op) i.left a) (sym o.right)) in
        let other = t.width (ap has_bytes (sym e) ∙ h) (ap is_string (sym e) ∙ g) in
        let sizes : SameSize (teller (is_out i.op) i.left i.right) (size_text i.op i.width) (size_text i.op j.width) =
        subst (λ (x : Op). SameSize (teller (is_out i.op) i.left i.right) (size_text i.op i.width) (size_text x j.width)) (sym e)
        (teller_size (is_out i.op) i.left i.right (size_text i.op i.width) (size_text j.op j.width) o.left_size o.right_size) in
        told_width i.op i.width j.width (teller (is_out i.op) i.left i.right) (s.width h g) (subst (λ (a : Arg). tells j.width a ≡ true) same other) sizes (s.sizes h).0 (s.sizes h).1)
  ]
]

all_same : (i j : Instr) → i.op ≡ j.op → i.width ≡ j.width → i.left ≡ j.left → i.right ≡ j.right → i.third ≡ j.third → i.seg ≡ j.seg → i.rep ≡ j.rep → i.lock ≡ j.lock → i ≡ j
all_same i j a b c d e f g h =
    let made : Op → Width → Arg → Arg → Arg → Sreg → Rep → Bool → Instr = λ o w l r t s p k. record { op = o; width = w; left = l; right = r; third = t; seg = s; rep = p; lock = k } in
    ap (λ (x : Op). made x i.width i.left i.right i.third i.seg i.rep i.lock) a
    ∙ (ap (λ (x : Width). made j.op x i.left i.right i.third i.seg i.rep i.lock) b
    ∙ (ap (λ (x : Arg). made j.op j.width x i.right i.third i.seg i.rep i.lock) c
    ∙ (ap (λ (x : Arg). made j.op j.width j.left x i.third i.seg i.rep i.lock) d
    ∙ (ap (λ (x : Arg). made j.op j.width j.left j.right x i.seg i.rep i.lock) e
    ∙ (ap (λ (x : Sreg). made j.op j.width j.left j.right j.third x i.rep i.lock) f
    ∙ (ap (λ (x : Rep). made j.op j.width j.left j.right j.third j.seg x i.lock) g
    ∙ ap (λ (x : Bool). made j.op j.width j.left j.right j.third j.seg j.rep x) h))))))

pub same_text : (i j : Instr) (n : ℕ) → IsShaped i → IsShaped j → text_of i n ≡ text_of j n → i ≡ j
same_text i j n s t e =
    let k = alike i j n s t e in
    let op = same_op i j n s t k in
    let o = same_operands i j n s t k op in
    all_same i j op (same_width i j n s t k op o) o.left o.right o.third k.seg k.rep k.lock
