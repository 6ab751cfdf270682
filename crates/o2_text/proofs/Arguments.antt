-- The text of an operand tells the operand, and what stands before one in memory.
use Rattle.std.proofs.Common.{◌≡◌, inl, inr, refl, sym, ◌∙◌, ap, ℕ, zero, suc, ◌+◌, ◌<◌, ◌≤◌, Bool, true, false, cond, eqb, List, [], ◌∷◌, ◌++◌, arith}
use Rattle.std.proofs.lemmas.List.{append_cancel_left}
use Rattle.o2_isa.specs.declared.instr.Sreg.{Sreg}
use Rattle.o2_isa.specs.declared.instr.Sreg.TheVariants.{Es, Cs, Ss, Ds}
use Rattle.o2_isa.specs.declared.instr.Ea.{Ea}
use Rattle.o2_isa.specs.declared.instr.Arg.{Arg}
use Rattle.o2_isa.specs.declared.instr.Arg.TheVariants as arg
use Rattle.o2_text.specs.Text.{number, address, byte_register, word_register, segment_register, memory_text, number_text, operand_text}
use Rattle.o2_text.proofs.Digits.{number_same, address_same, number_forms, target_same}
use Rattle.o2_text.proofs.Places.{IsAddress, memory_same, first, second}

-- what an operand can be
abbrev pub IsOperand : Arg → Type 0
IsOperand arg.No = Unit {0}
IsOperand (arg.R8 n) = n < 8
IsOperand (arg.R16 n) = n < 8
IsOperand (arg.S s) = Unit {0}
IsOperand (arg.M ea) = IsAddress ea
IsOperand (arg.Imm n) = n < 65536
IsOperand (arg.Far o s) = (o < 65536) × (s < 65536)

-- what may stand before an operand in memory
pub data Size : List ℕ → Type 0 where
  Bytes : Size (98 ∷ 121 ∷ 116 ∷ 101 ∷ 32 ∷ [])
  Words : Size (119 ∷ 111 ∷ 114 ∷ 100 ∷ 32 ∷ [])
  Fars : Size (102 ∷ 97 ∷ 114 ∷ 32 ∷ [])
  Nothing : Size []

abbrev pub seventh : List ℕ → ℕ
seventh (a ∷ b ∷ c ∷ d ∷ e ∷ f ∷ g ∷ t) = g
seventh t = 0

-- the kind of a text: 1 a register, 2 a number, 3 a far address, 4 memory, 0 nothing
abbrev pub kind : List ℕ → ℕ
kind t = cond (eqb (first t) 0) 0 (cond (eqb (first t) 48) (cond (eqb (seventh t) 58) 3 2) (cond (eqb (first t) 91) 4 (cond (eqb (first t) 119) 4 (cond (eqb (first t) 102) 4 (cond (eqb (second t) 121) 4 1)))))

abbrev pub kind_of : Arg → ℕ
kind_of arg.No = 0
kind_of (arg.R8 n) = 1
kind_of (arg.R16 n) = 1
kind_of (arg.S s) = 1
kind_of (arg.M ea) = 4
kind_of (arg.Imm n) = 2
kind_of (arg.Far o s) = 3

-- which register a text is: the 8-bit ones from 1, the 16-bit ones from 11, the segment registers from 21
abbrev register_read : List ℕ → ℕ
register_read t =
    cond (eqb (first t) 97) (cond (eqb (second t) 108) 1 (cond (eqb (second t) 104) 5 11))
    (cond (eqb (first t) 99) (cond (eqb (second t) 108) 2 (cond (eqb (second t) 104) 6 (cond (eqb (second t) 120) 12 22)))
    (cond (eqb (first t) 100) (cond (eqb (second t) 108) 3 (cond (eqb (second t) 104) 7 (cond (eqb (second t) 120) 13 (cond (eqb (second t) 105) 18 24))))
    (cond (eqb (first t) 98) (cond (eqb (second t) 108) 4 (cond (eqb (second t) 104) 8 (cond (eqb (second t) 120) 14 16)))
    (cond (eqb (first t) 115) (cond (eqb (second t) 112) 15 (cond (eqb (second t) 105) 17 23))
    21))))

abbrev sreg_number : Sreg → ℕ
sreg_number Es = 21
sreg_number Cs = 22
sreg_number Ss = 23
sreg_number Ds = 24

byte_reads : (n : ℕ) → n < 8 → (register_read (byte_register n) ≡ n + 1) × (kind (byte_register n) ≡ 1)
byte_reads zero h = (refl, refl)
byte_reads (suc zero) h = (refl, refl)
byte_reads (suc (suc zero)) h = (refl, refl)
byte_reads (suc (suc (suc zero))) h = (refl, refl)
byte_reads (suc (suc (suc (suc zero)))) h = (refl, refl)
byte_reads (suc (suc (suc (suc (suc zero))))) h = (refl, refl)
byte_reads (suc (suc (suc (suc (suc (suc zero)))))) h = (refl, refl)
byte_reads (suc (suc (suc (suc (suc (suc (suc zero))))))) h = (refl, refl)
byte_reads (suc (suc (suc (suc (suc (suc (suc (suc n)))))))) h = absurd (omega arith)

word_reads : (n : ℕ) → n < 8 → (register_read (word_register n) ≡ n + 11) × (kind (word_register n) ≡ 1)
word_reads zero h = (refl, refl)
word_reads (suc zero) h = (refl, refl)
word_reads (suc (suc zero)) h = (refl, refl)
word_reads (suc (suc (suc zero))) h = (refl, refl)
word_reads (suc (suc (suc (suc zero)))) h = (refl, refl)
word_reads (suc (suc (suc (suc (suc zero))))) h = (refl, refl)
word_reads (suc (suc (suc (suc (suc (suc zero)))))) h = (refl, refl)
word_reads (suc (suc (suc (suc (suc (suc (suc zero))))))) h = (refl, refl)
word_reads (suc (suc (suc (suc (suc (suc (suc (suc n)))))))) h = absurd (omega arith)

segment_reads : (s : Sreg) → (register_read (segment_register s) ≡ sreg_number s) × (kind (segment_register s) ≡ 1)
segment_reads Es = (refl, refl)
segment_reads Cs = (refl, refl)
segment_reads Ss = (refl, refl)
segment_reads Ds = (refl, refl)

sreg_bounds : (s : Sreg) → (21 ≤ sreg_number s) × (sreg_number s < 25)
sreg_bounds Es = (omega arith, omega arith)
sreg_bounds Cs = (omega arith, omega arith)
sreg_bounds Ss = (omega arith, omega arith)
sreg_bounds Ds = (omega arith, omega arith)

sreg_same : (r s : Sreg) → sreg_number r ≡ sreg_number s → r ≡ s
sreg_same Es Es e = refl
sreg_same Es Cs e = absurd (omega arith)
sreg_same Es Ss e = absurd (omega arith)
sreg_same Es Ds e = absurd (omega arith)
sreg_same Cs Es e = absurd (omega arith)
sreg_same Cs Cs e = refl
sreg_same Cs Ss e = absurd (omega arith)
sreg_same Cs Ds e = absurd (omega arith)
sreg_same Ss Es e = absurd (omega arith)
sreg_same Ss Cs e = absurd (omega arith)
sreg_same Ss Ss e = refl
sreg_same Ss Ds e = absurd (omega arith)
sreg_same Ds Es e = absurd (omega arith)
sreg_same Ds Cs e = absurd (omega arith)
sreg_same Ds Ss e = absurd (omega arith)
sreg_same Ds Ds e = refl

address_kind : (n : ℕ) → kind (address n) ≡ 2
unfolding address
address_kind n = refl

number_kind : (n : ℕ) → kind (number n) ≡ 2
number_kind n = elim (number_forms n) [ inl e ↦ rw e refl | inr e ↦ rw e refl ]

immediate_kind : (relative : Bool) (next n : ℕ) → kind (number_text relative next n) ≡ 2
immediate_kind true next n = address_kind _
immediate_kind false next n = number_kind n

far_kind : (o s : ℕ) → kind (address s ++ 58 ∷ address o) ≡ 3
unfolding address
far_kind o s = refl

memory_kind : (size : List ℕ) (ea : Ea) → Size size → kind (size ++ memory_text ea) ≡ 4
memory_kind _ ea Bytes = refl
memory_kind _ ea Words = refl
memory_kind _ ea Fars = refl
memory_kind _ ea Nothing = refl

pub kind_reads : (relative : Bool) (size : List ℕ) (next : ℕ) (a : Arg) → IsOperand a → Size size → kind (operand_text relative size next a) ≡ kind_of a
kind_reads relative size next arg.No h w = refl
kind_reads relative size next (arg.R8 n) h w = (byte_reads n h).1
kind_reads relative size next (arg.R16 n) h w = (word_reads n h).1
kind_reads relative size next (arg.S s) h w = (segment_reads s).1
kind_reads relative size next (arg.M ea) h w = memory_kind size ea w
kind_reads relative size next (arg.Imm n) h w = immediate_kind relative next n
kind_reads relative size next (arg.Far o s) h w = far_kind o s

immediate_same : (relative : Bool) (next n m : ℕ) → n < 65536 → m < 65536 → number_text relative next n ≡ number_text relative next m → n ≡ m
immediate_same true next n m a b e = target_same next n m a b (address_same _ _ e)
immediate_same false next n m a b e = number_same n m e

far_same : (o s p t : ℕ) → address s ++ 58 ∷ address o ≡ address t ++ 58 ∷ address p → (s ≡ t) × (o ≡ p)
unfolding address
far_same o s p t e = (address_same s t (fronts _ _ _ _ _ _ _ _ _ _ e).0, address_same o p (fronts _ _ _ _ _ _ _ _ _ _ e).1)
  where
    fronts : (a b c d f g h i : ℕ) (x y : List ℕ) → 48 ∷ 120 ∷ a ∷ b ∷ c ∷ d ∷ 58 ∷ x ≡ 48 ∷ 120 ∷ f ∷ g ∷ h ∷ i ∷ 58 ∷ y → (48 ∷ 120 ∷ a ∷ b ∷ c ∷ d ∷ [] ≡ 48 ∷ 120 ∷ f ∷ g ∷ h ∷ i ∷ []) × (x ≡ y)
    fronts a b c d f g h i x y e = (cc, cc)

no_head : (x y : ℕ) (s t : List ℕ) → (x ≡ y → ⊥) → x ∷ s ≡ y ∷ t → ⊥
no_head x y s t h e = h (ap first e)

cut_same : (x : List ℕ) (a b : Ea) → x ++ memory_text a ≡ x ++ memory_text b → memory_text a ≡ memory_text b
cut_same x a b e = append_cancel_left x _ _ e

pub sizes_same : (x y : List ℕ) (a b : Ea) → Size x → Size y → x ++ memory_text a ≡ y ++ memory_text b → (x ≡ y) × (memory_text a ≡ memory_text b)
sizes_same _ _ a b Bytes Bytes e = (refl, cut_same (98 ∷ 121 ∷ 116 ∷ 101 ∷ 32 ∷ []) a b e)
sizes_same _ _ a b Bytes Words e = absurd (no_head 98 119 _ _ (λ h. omega arith) e)
sizes_same _ _ a b Bytes Fars e = absurd (no_head 98 102 _ _ (λ h. omega arith) e)
sizes_same _ _ a b Bytes Nothing e = absurd (no_head 98 91 _ _ (λ h. omega arith) e)
sizes_same _ _ a b Words Bytes e = absurd (no_head 119 98 _ _ (λ h. omega arith) e)
sizes_same _ _ a b Words Words e = (refl, cut_same (119 ∷ 111 ∷ 114 ∷ 100 ∷ 32 ∷ []) a b e)
sizes_same _ _ a b Words Fars e = absurd (no_head 119 102 _ _ (λ h. omega arith) e)
sizes_same _ _ a b Words Nothing e = absurd (no_head 119 91 _ _ (λ h. omega arith) e)
sizes_same _ _ a b Fars Bytes e = absurd (no_head 102 98 _ _ (λ h. omega arith) e)
sizes_same _ _ a b Fars Words e = absurd (no_head 102 119 _ _ (λ h. omega arith) e)
sizes_same _ _ a b Fars Fars e = (refl, cut_same (102 ∷ 97 ∷ 114 ∷ 32 ∷ []) a b e)
sizes_same _ _ a b Fars Nothing e = absurd (no_head 102 91 _ _ (λ h. omega arith) e)
sizes_same _ _ a b Nothing Bytes e = absurd (no_head 91 98 _ _ (λ h. omega arith) e)
sizes_same _ _ a b Nothing Words e = absurd (no_head 91 119 _ _ (λ h. omega arith) e)
sizes_same _ _ a b Nothing Fars e = absurd (no_head 91 102 _ _ (λ h. omega arith) e)
sizes_same _ _ a b Nothing Nothing e = (refl, e)

-- the same operand, and the same size before it in memory
abbrev pub SameSize : Arg → List ℕ → List ℕ → Type 0
SameSize (arg.M ea) x y = x ≡ y
SameSize _ x y = Unit {0}

registers_same : (x y n m : ℕ) (t u : List ℕ) → register_read t ≡ x → register_read u ≡ y → t ≡ u → x ≡ y
registers_same x y n m t u p q e = sym p ∙ (ap register_read e ∙ q)

kinds_differ : {X : Type 0} (n m : ℕ) → (n ≡ m → ⊥) → n ≡ m → X
kinds_differ n m h e = absurd (h e)

-- operands of one kind
one_kind : (relative : Bool) (x y : List ℕ) (next : ℕ) (a b : Arg) → IsOperand a → IsOperand b → Size x → Size y → kind_of a ≡ kind_of b
    → operand_text relative x next a ≡ operand_text relative y next b → (a ≡ b) × SameSize a x y
one_kind r x y n arg.No arg.No p q v w k e = (refl, tt)
one_kind r x y n arg.No (arg.R8 m) p q v w k e = absurd (omega arith)
one_kind r x y n arg.No (arg.R16 m) p q v w k e = absurd (omega arith)
one_kind r x y n arg.No (arg.S s) p q v w k e = absurd (omega arith)
one_kind r x y n arg.No (arg.M ea) p q v w k e = absurd (omega arith)
one_kind r x y n arg.No (arg.Imm m) p q v w k e = absurd (omega arith)
one_kind r x y n arg.No (arg.Far o s) p q v w k e = absurd (omega arith)
one_kind r x y n (arg.R8 m) arg.No p q v w k e = absurd (omega arith)
one_kind r x y n (arg.R8 m) (arg.R8 l) p q v w k e = let h = registers_same _ _ 0 0 _ _ (byte_reads m p).0 (byte_reads l q).0 e in let g : m ≡ l = omega (arith, h) in (ap arg.R8 g, tt)
one_kind r x y n (arg.R8 m) (arg.R16 l) p q v w k e = let h = registers_same _ _ 0 0 _ _ (byte_reads m p).0 (word_reads l q).0 e in absurd (omega (arith, h))
one_kind r x y n (arg.R8 m) (arg.S s) p q v w k e = let h = registers_same _ _ 0 0 _ _ (byte_reads m p).0 (segment_reads s).0 e in absurd (omega (arith, h, sreg_bounds s))
one_kind r x y n (arg.R8 m) (arg.M ea) p q v w k e = absurd (omega arith)
one_kind r x y n (arg.R8 m) (arg.Imm l) p q v w k e = absurd (omega arith)
one_kind r x y n (arg.R8 m) (arg.Far o s) p q v w k e = absurd (omega arith)
one_kind r x y n (arg.R16 m) arg.No p q v w k e = absurd (omega arith)
one_kind r x y n (arg.R16 m) (arg.R8 l) p q v w k e = let h = registers_same _ _ 0 0 _ _ (word_reads m p).0 (byte_reads l q).0 e in absurd (omega (arith, h))
one_kind r x y n (arg.R16 m) (arg.R16 l) p q v w k e = let h = registers_same _ _ 0 0 _ _ (word_reads m p).0 (word_reads l q).0 e in let g : m ≡ l = omega (arith, h) in (ap arg.R16 g, tt)
one_kind r x y n (arg.R16 m) (arg.S s) p q v w k e = let h = registers_same _ _ 0 0 _ _ (word_reads m p).0 (segment_reads s).0 e in absurd (omega (arith, h, sreg_bounds s))
one_kind r x y n (arg.R16 m) (arg.M ea) p q v w k e = absurd (omega arith)
one_kind r x y n (arg.R16 m) (arg.Imm l) p q v w k e = absurd (omega arith)
one_kind r x y n (arg.R16 m) (arg.Far o s) p q v w k e = absurd (omega arith)
one_kind r x y n (arg.S s) arg.No p q v w k e = absurd (omega arith)
one_kind r x y n (arg.S s) (arg.R8 l) p q v w k e = let h = registers_same _ _ 0 0 _ _ (segment_reads s).0 (byte_reads l q).0 e in absurd (omega (arith, h, sreg_bounds s))
one_kind r x y n (arg.S s) (arg.R16 l) p q v w k e = let h = registers_same _ _ 0 0 _ _ (segment_reads s).0 (word_reads l q).0 e in absurd (omega (arith, h, sreg_bounds s))
one_kind r x y n (arg.S s) (arg.S t) p q v w k e = (ap arg.S (sreg_same s t (registers_same _ _ 0 0 _ _ (segment_reads s).0 (segment_reads t).0 e)), tt)
one_kind r x y n (arg.S s) (arg.M ea) p q v w k e = absurd (omega arith)
one_kind r x y n (arg.S s) (arg.Imm l) p q v w k e = absurd (omega arith)
one_kind r x y n (arg.S s) (arg.Far o t) p q v w k e = absurd (omega arith)
one_kind r x y n (arg.M ea) arg.No p q v w k e = absurd (omega arith)
one_kind r x y n (arg.M ea) (arg.R8 l) p q v w k e = absurd (omega arith)
one_kind r x y n (arg.M ea) (arg.R16 l) p q v w k e = absurd (omega arith)
one_kind r x y n (arg.M ea) (arg.S s) p q v w k e = absurd (omega arith)
one_kind r x y n (arg.M a) (arg.M b) p q v w k e = let h = sizes_same x y a b v w e in (ap arg.M (memory_same a b p q h.1), h.0)
one_kind r x y n (arg.M ea) (arg.Imm l) p q v w k e = absurd (omega arith)
one_kind r x y n (arg.M ea) (arg.Far o s) p q v w k e = absurd (omega arith)
one_kind r x y n (arg.Imm m) arg.No p q v w k e = absurd (omega arith)
one_kind r x y n (arg.Imm m) (arg.R8 l) p q v w k e = absurd (omega arith)
one_kind r x y n (arg.Imm m) (arg.R16 l) p q v w k e = absurd (omega arith)
one_kind r x y n (arg.Imm m) (arg.S s) p q v w k e = absurd (omega arith)
one_kind r x y n (arg.Imm m) (arg.M ea) p q v w k e = absurd (omega arith)
one_kind r x y n (arg.Imm m) (arg.Imm l) p q v w k e = (ap arg.Imm (immediate_same r n m l p q e), tt)
one_kind r x y n (arg.Imm m) (arg.Far o s) p q v w k e = absurd (omega arith)
one_kind r x y n (arg.Far o s) arg.No p q v w k e = absurd (omega arith)
one_kind r x y n (arg.Far o s) (arg.R8 l) p q v w k e = absurd (omega arith)
one_kind r x y n (arg.Far o s) (arg.R16 l) p q v w k e = absurd (omega arith)
one_kind r x y n (arg.Far o s) (arg.S t) p q v w k e = absurd (omega arith)
one_kind r x y n (arg.Far o s) (arg.M ea) p q v w k e = absurd (omega arith)
one_kind r x y n (arg.Far o s) (arg.Imm l) p q v w k e = absurd (omega arith)
one_kind r x y n (arg.Far o s) (arg.Far i t) p q v w k e = let h = far_same o s i t e in (ap (λ z. arg.Far o z) h.0 ∙ ap (λ z. arg.Far z t) h.1, tt)

pub operand_same : (relative : Bool) (x y : List ℕ) (next : ℕ) (a b : Arg) → IsOperand a → IsOperand b → Size x → Size y
    → operand_text relative x next a ≡ operand_text relative y next b → (a ≡ b) × SameSize a x y
operand_same r x y n a b p q v w e =
    one_kind r x y n a b p q v w (sym (kind_reads r x n a p v) ∙ (ap kind e ∙ kind_reads r y n b q w)) e
