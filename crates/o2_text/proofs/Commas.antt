-- The operands are told by the commas between them.
use Rattle.std.proofs.Common.{◌≡◌, ◌⊎◌, inl, inr, refl, sym, ◌∙◌, ap, subst, ℕ, zero, suc, ◌+◌, ◌-◌, ◌<◌, ◌/◌, ◌%◌, Bool, true, false, cond, eqb, ◌&&◌, List, [], ◌∷◌, ◌++◌, append_assoc, arith}
use Rattle.std.proofs.lemmas.Bool.{and_parts, ne_eqb, and_from}
use Rattle.std.proofs.lemmas.List.{append-nil}
use Rattle.o2_isa.specs.declared.instr.Sreg.{Sreg}
use Rattle.o2_isa.specs.declared.instr.Sreg.TheVariants.{Es, Cs, Ss, Ds}
use Rattle.o2_isa.specs.declared.instr.Ea.{Ea}
use Rattle.o2_isa.specs.declared.instr.Arg.{Arg}
use Rattle.o2_isa.specs.declared.instr.Arg.TheVariants as arg
use Rattle.o2_text.specs.Text.{digit, number, address, hex2, hex4, byte_register, word_register, segment_register, uses_stack, override_text, base_text, displacement_text, place_text, memory_text, number_text, operand_text, behind}
use Rattle.o2_text.proofs.Digits.{number_forms, digit_no_comma}
use Rattle.o2_text.proofs.Splits.{lacks, before, from, before_end, from_end, before_mark, from_mark}
use Rattle.o2_text.proofs.Places.{IsAddress, Form, None, Plus, Minus, form_of, place_low, low_or}
use Rattle.o2_text.proofs.Arguments.{IsOperand, Size, Bytes, Words, Fars, Nothing, kind_of}
use Rattle.o2_text.proofs.Heads.{Behind, Ends, Blank}

lacks_both : (c : ℕ) (a b : List ℕ) → lacks c a ≡ true → lacks c b ≡ true → lacks c (a ++ b) ≡ true
lacks_both c [] b p q = q
lacks_both c (x ∷ a) b p q = let s = and_parts _ _ p in and_from _ _ s.0 (lacks_both c a b s.1 q)

digit_lacks : (d : ℕ) → eqb (digit d) 44 ≡ false
digit_lacks d = ne_eqb _ _ (digit_no_comma d)

two_lack : (a b : ℕ) → eqb a 44 ≡ false → eqb b 44 ≡ false → lacks 44 (48 ∷ 120 ∷ a ∷ b ∷ []) ≡ true
two_lack a b p q = rw (p, q) refl

four_lack : (a b c d : ℕ) → eqb a 44 ≡ false → eqb b 44 ≡ false → eqb c 44 ≡ false → eqb d 44 ≡ false → lacks 44 (48 ∷ 120 ∷ a ∷ b ∷ c ∷ d ∷ []) ≡ true
four_lack a b c d p q r s = rw (p, q, r, s) refl

hex2_lacks : (n : ℕ) → lacks 44 (48 ∷ 120 ∷ hex2 n) ≡ true
hex2_lacks n = two_lack (digit (n / 16)) (digit (n % 16)) (digit_lacks (n / 16)) (digit_lacks (n % 16))

hex4_lacks : (n : ℕ) → lacks 44 (48 ∷ 120 ∷ hex4 n) ≡ true
hex4_lacks n = four_lack (digit (n / 4096)) (digit (n / 256 % 16)) (digit (n / 16 % 16)) (digit (n % 16)) (digit_lacks (n / 4096)) (digit_lacks (n / 256 % 16)) (digit_lacks (n / 16 % 16)) (digit_lacks (n % 16))

number_lacks : (n : ℕ) → lacks 44 (number n) ≡ true
number_lacks n = elim (number_forms n) [ inl e ↦ ap (lacks 44) e ∙ hex2_lacks n | inr e ↦ ap (lacks 44) e ∙ hex4_lacks n ]

address_lacks : (n : ℕ) → lacks 44 (address n) ≡ true
unfolding address
address_lacks n = hex4_lacks n

form_lacks : (d : ℕ) (t : List ℕ) → Form d t → lacks 44 t ≡ true
form_lacks d t (None p q) = ap (lacks 44) q
form_lacks d t (Plus p z q) = ap (lacks 44) q ∙ number_lacks d
form_lacks d t (Minus p q) = ap (lacks 44) q ∙ number_lacks (65536 - d)

base_lacks : (base : ℕ) → base < 8 → lacks 44 (base_text base) ≡ true
base_lacks zero h = refl
base_lacks (suc zero) h = refl
base_lacks (suc (suc zero)) h = refl
base_lacks (suc (suc (suc zero))) h = refl
base_lacks (suc (suc (suc (suc zero)))) h = refl
base_lacks (suc (suc (suc (suc (suc zero))))) h = refl
base_lacks (suc (suc (suc (suc (suc (suc zero)))))) h = refl
base_lacks (suc (suc (suc (suc (suc (suc (suc zero))))))) h = refl
base_lacks (suc (suc (suc (suc (suc (suc (suc (suc n)))))))) h = absurd (omega arith)

place_lacks : (ea : Ea) → IsAddress ea → lacks 44 (place_text ea.base ea.disp) ≡ true
place_lacks ea p = elim (low_or ea.base p.base) [
  | inl l ↦ ap (lacks 44) (place_low ea.base ea.disp l) ∙ lacks_both 44 (base_text ea.base) (displacement_text ea.disp) (base_lacks ea.base l) (form_lacks ea.disp (displacement_text ea.disp) (form_of ea.disp))
  | inr e ↦ subst (λ (b : ℕ). lacks 44 (place_text b ea.disp) ≡ true) (sym e) (address_lacks ea.disp)
]

override_lacks : (stack : Bool) (s : Sreg) → lacks 44 (override_text stack s) ≡ true
override_lacks stack Es = refl
override_lacks stack Cs = refl
override_lacks true Ss = refl
override_lacks false Ss = refl
override_lacks true Ds = refl
override_lacks false Ds = refl

memory_lacks : (ea : Ea) → IsAddress ea → lacks 44 (memory_text ea) ≡ true
memory_lacks ea p =
    lacks_both 44 (91 ∷ override_text (uses_stack ea.base) ea.seg ++ place_text ea.base ea.disp) (93 ∷ [])
    (lacks_both 44 (91 ∷ override_text (uses_stack ea.base) ea.seg) (place_text ea.base ea.disp) (override_lacks (uses_stack ea.base) ea.seg) (place_lacks ea p)) refl

size_lacks : (size : List ℕ) → Size size → lacks 44 size ≡ true
size_lacks _ Bytes = refl
size_lacks _ Words = refl
size_lacks _ Fars = refl
size_lacks _ Nothing = refl

byte_lacks : (n : ℕ) → n < 8 → lacks 44 (byte_register n) ≡ true
byte_lacks zero h = refl
byte_lacks (suc zero) h = refl
byte_lacks (suc (suc zero)) h = refl
byte_lacks (suc (suc (suc zero))) h = refl
byte_lacks (suc (suc (suc (suc zero)))) h = refl
byte_lacks (suc (suc (suc (suc (suc zero))))) h = refl
byte_lacks (suc (suc (suc (suc (suc (suc zero)))))) h = refl
byte_lacks (suc (suc (suc (suc (suc (suc (suc zero))))))) h = refl
byte_lacks (suc (suc (suc (suc (suc (suc (suc (suc n)))))))) h = absurd (omega arith)

word_lacks : (n : ℕ) → n < 8 → lacks 44 (word_register n) ≡ true
word_lacks zero h = refl
word_lacks (suc zero) h = refl
word_lacks (suc (suc zero)) h = refl
word_lacks (suc (suc (suc zero))) h = refl
word_lacks (suc (suc (suc (suc zero)))) h = refl
word_lacks (suc (suc (suc (suc (suc zero))))) h = refl
word_lacks (suc (suc (suc (suc (suc (suc zero)))))) h = refl
word_lacks (suc (suc (suc (suc (suc (suc (suc zero))))))) h = refl
word_lacks (suc (suc (suc (suc (suc (suc (suc (suc n)))))))) h = absurd (omega arith)

segment_lacks : (s : Sreg) → lacks 44 (segment_register s) ≡ true
segment_lacks Es = refl
segment_lacks Cs = refl
segment_lacks Ss = refl
segment_lacks Ds = refl

immediate_lacks : (relative : Bool) (next n : ℕ) → lacks 44 (number_text relative next n) ≡ true
immediate_lacks true next n = address_lacks ((next + n) % 65536)
immediate_lacks false next n = number_lacks n

operand_lacks : (relative : Bool) (size : List ℕ) (next : ℕ) (a : Arg) → IsOperand a → Size size → lacks 44 (operand_text relative size next a) ≡ true
operand_lacks r x n arg.No p w = refl
operand_lacks r x n (arg.R8 m) p w = byte_lacks m p
operand_lacks r x n (arg.R16 m) p w = word_lacks m p
operand_lacks r x n (arg.S s) p w = segment_lacks s
operand_lacks r x n (arg.M ea) p w = lacks_both 44 x (memory_text ea) (size_lacks x w) (memory_lacks ea p)
operand_lacks r x n (arg.Imm m) p w = immediate_lacks r n m
operand_lacks r x n (arg.Far o s) p w = lacks_both 44 (address s) (58 ∷ address o) (address_lacks s) (address_lacks o)

-- Reading the operands again.

abbrev pub behind_first : List ℕ → List ℕ
behind_first [] = []
behind_first (x ∷ t) = t

abbrev pub left_read : List ℕ → List ℕ
left_read t = before 44 (behind_first t)

abbrev pub tail_read : List ℕ → List ℕ
tail_read t = behind_first (from 44 (behind_first t))

abbrev pub right_read : List ℕ → List ℕ
right_read t = before 44 (tail_read t)

abbrev pub third_read : List ℕ → List ℕ
third_read t = behind_first (from 44 (tail_read t))

pub record Reads (t left right third : List ℕ) : Type 0 where
  pub left_is : left_read t ≡ left
  pub right_is : right_read t ≡ right
  pub third_is : third_read t ≡ third

reads_one : (l : List ℕ) → lacks 44 l ≡ true → Reads (32 ∷ l) l [] []
reads_one l p = record {
  left_is = before_end 44 l p;
  right_is = ap (λ (x : List ℕ). before 44 (behind_first x)) (from_end 44 l p);
  third_is = ap (λ (x : List ℕ). behind_first (from 44 (behind_first x))) (from_end 44 l p);
}

reads_more : (l m right third : List ℕ) → lacks 44 l ≡ true → before 44 m ≡ right → behind_first (from 44 m) ≡ third → Reads (32 ∷ l ++ 44 ∷ m) l right third
reads_more l m right third p q r = record {
  left_is = before_mark 44 l m p;
  right_is = ap (λ (x : List ℕ). before 44 (behind_first x)) (from_mark 44 l m p) ∙ q;
  third_is = ap (λ (x : List ℕ). behind_first (from 44 (behind_first x))) (from_mark 44 l m p) ∙ r;
}

reads_two : (l r : List ℕ) → lacks 44 l ≡ true → lacks 44 r ≡ true → Reads (32 ∷ l ++ 44 ∷ r) l r []
reads_two l r p q = reads_more l r r [] p (before_end 44 r q) (ap behind_first (from_end 44 r q))

reads_three : (l r t : List ℕ) → lacks 44 l ≡ true → lacks 44 r ≡ true → Reads ((32 ∷ l ++ 44 ∷ r) ++ 44 ∷ t) l r t
reads_three l r t p q =
    subst (λ (x : List ℕ). Reads x l r t) (sym (append_assoc (32 ∷ l) (44 ∷ r) (44 ∷ t)))
    (reads_more l (r ++ 44 ∷ t) r t p (before_mark 44 r t q) (ap behind_first (from_mark 44 r t q)))

is_there : (a : Arg) → (a ≡ arg.No) ⊎ (eqb (kind_of a) 0 ≡ false)
is_there arg.No = inl refl
is_there (arg.R8 n) = inr refl
is_there (arg.R16 n) = inr refl
is_there (arg.S s) = inr refl
is_there (arg.M ea) = inr refl
is_there (arg.Imm n) = inr refl
is_there (arg.Far o s) = inr refl

behind_is : (c : ℕ) (r : Bool) (x : List ℕ) (n : ℕ) (a : Arg) → eqb (kind_of a) 0 ≡ false → behind c r x n a ≡ c ∷ operand_text r x n a
behind_is c r x n arg.No h = cc
behind_is c r x n (arg.R8 m) h = refl
behind_is c r x n (arg.R16 m) h = refl
behind_is c r x n (arg.S s) h = refl
behind_is c r x n (arg.M ea) h = refl
behind_is c r x n (arg.Imm m) h = refl
behind_is c r x n (arg.Far o s) h = refl

-- operands that aren't there stand behind those that are
abbrev pub in_order : ℕ → ℕ → ℕ → Bool
in_order l r t = cond (eqb l 0) (eqb r 0 && eqb t 0) (cond (eqb r 0) (eqb t 0) true)

gone : (a : Arg) → eqb (kind_of a) 0 ≡ true → a ≡ arg.No
gone a h = elim (is_there a) [ inl e ↦ e | inr e ↦ absurd (both (sym h ∙ e)) ]
  where
    both : true ≡ false → ⊥
    both q = cc

one_is : (u l : List ℕ) → u ≡ 32 ∷ l → lacks 44 l ≡ true → Reads ((u ++ []) ++ []) l [] []
one_is u l e p = subst (λ (t : List ℕ). Reads t l [] []) (sym (append-nil (u ++ []) ∙ (append-nil u ∙ e))) (reads_one l p)

two_is : (u v l m : List ℕ) → u ≡ 32 ∷ l → v ≡ 44 ∷ m → lacks 44 l ≡ true → lacks 44 m ≡ true → Reads ((u ++ v) ++ []) l m []
two_is u v l m e f p q =
    subst (λ (t : List ℕ). Reads t l m []) (sym (append-nil (u ++ v) ∙ (ap (λ (s : List ℕ). s ++ v) e ∙ ap (λ (s : List ℕ). (32 ∷ l) ++ s) f))) (reads_two l m p q)

three_is : (u v w l m t : List ℕ) → u ≡ 32 ∷ l → v ≡ 44 ∷ m → w ≡ 44 ∷ t → lacks 44 l ≡ true → lacks 44 m ≡ true → Reads ((u ++ v) ++ w) l m t
three_is u v w l m t e f g p q =
    subst (λ (s : List ℕ). Reads s l m t)
    (sym (ap (λ (s : List ℕ). (s ++ v) ++ w) e ∙ (ap (λ (s : List ℕ). ((32 ∷ l) ++ s) ++ w) f ∙ ap (λ (s : List ℕ). ((32 ∷ l) ++ (44 ∷ m)) ++ s) g)))
    (reads_three l m t p q)

-- what is read of three operands
abbrev ReadsAll : Bool → List ℕ → ℕ → Arg → Arg → Arg → Type 0
ReadsAll r x n a b c = Reads (behind 32 r x n a ++ behind 44 r x n b ++ behind 44 r x n c) (operand_text r x n a) (operand_text r x n b) (operand_text r x n c)

at_none : (r : Bool) (x : List ℕ) (n : ℕ) (a b c : Arg) → a ≡ arg.No → b ≡ arg.No → c ≡ arg.No → ReadsAll r x n a b c
at_none r x n a b c e f g =
    subst (λ (z : Arg). ReadsAll r x n a b z) (sym g) (subst (λ (y : Arg). ReadsAll r x n a y arg.No) (sym f) (subst (λ (y : Arg). ReadsAll r x n y arg.No arg.No) (sym e)
    (record { left_is = refl; right_is = refl; third_is = refl })))

at_one : (r : Bool) (x : List ℕ) (n : ℕ) (a b c : Arg) → IsOperand a → Size x → eqb (kind_of a) 0 ≡ false → b ≡ arg.No → c ≡ arg.No → ReadsAll r x n a b c
at_one r x n a b c p w e f g =
    subst (λ (z : Arg). ReadsAll r x n a b z) (sym g) (subst (λ (y : Arg). ReadsAll r x n a y arg.No) (sym f)
    (one_is _ _ (behind_is 32 r x n a e) (operand_lacks r x n a p w)))

at_two : (r : Bool) (x : List ℕ) (n : ℕ) (a b c : Arg) → IsOperand a → IsOperand b → Size x → eqb (kind_of a) 0 ≡ false → eqb (kind_of b) 0 ≡ false → c ≡ arg.No
    → ReadsAll r x n a b c
at_two r x n a b c p q w e f g =
    subst (λ (z : Arg). ReadsAll r x n a b z) (sym g)
    (two_is _ _ _ _ (behind_is 32 r x n a e) (behind_is 44 r x n b f) (operand_lacks r x n a p w) (operand_lacks r x n b q w))

at_three : (r : Bool) (x : List ℕ) (n : ℕ) (a b c : Arg) → IsOperand a → IsOperand b → Size x → eqb (kind_of a) 0 ≡ false → eqb (kind_of b) 0 ≡ false
    → eqb (kind_of c) 0 ≡ false → ReadsAll r x n a b c
at_three r x n a b c p q w e f g =
    three_is _ _ _ _ _ _ (behind_is 32 r x n a e) (behind_is 44 r x n b f) (behind_is 44 r x n c g) (operand_lacks r x n a p w) (operand_lacks r x n b q w)

order_none : (l m t : ℕ) → eqb l 0 ≡ true → in_order l m t ≡ true → (eqb m 0 && eqb t 0) ≡ true
order_none l m t e h = rw e at h

order_one : (l m t : ℕ) → eqb l 0 ≡ false → eqb m 0 ≡ true → in_order l m t ≡ true → eqb t 0 ≡ true
order_one l m t e f h = rw (e, f) at h

gone_kind : (a : Arg) → a ≡ arg.No → eqb (kind_of a) 0 ≡ true
gone_kind a e = ap (λ (y : Arg). eqb (kind_of y) 0) e

pub operands_read : (r : Bool) (x : List ℕ) (n : ℕ) (a b c : Arg) → IsOperand a → IsOperand b → Size x → in_order (kind_of a) (kind_of b) (kind_of c) ≡ true
    → Reads (behind 32 r x n a ++ behind 44 r x n b ++ behind 44 r x n c) (operand_text r x n a) (operand_text r x n b) (operand_text r x n c)
operands_read r x n a b c p q w h = elim (is_there a) [
  | inl e ↦ (let s = and_parts (eqb (kind_of b) 0) (eqb (kind_of c) 0) (order_none (kind_of a) (kind_of b) (kind_of c) (gone_kind a e) h) in at_none r x n a b c e (gone b s.0) (gone c s.1))
  | inr e ↦ elim (is_there b) [
    | inl f ↦ at_one r x n a b c p w e f (gone c (order_one (kind_of a) (kind_of b) (kind_of c) e (gone_kind b f) h))
    | inr f ↦ elim (is_there c) [
      | inl g ↦ at_two r x n a b c p q w e f g
      | inr g ↦ at_three r x n a b c p q w e f g
    ]
  ]
]

-- the operands begin with a blank, where there are any
pub operands_behind : (r : Bool) (x : List ℕ) (n : ℕ) (a b c : Arg) → in_order (kind_of a) (kind_of b) (kind_of c) ≡ true
    → Behind (behind 32 r x n a ++ behind 44 r x n b ++ behind 44 r x n c)
operands_behind r x n a b c h = elim (is_there a) [
  | inl e ↦ (let s = and_parts (eqb (kind_of b) 0) (eqb (kind_of c) 0) (order_none (kind_of a) (kind_of b) (kind_of c) (gone_kind a e) h) in none_behind e (gone b s.0) (gone c s.1))
  | inr e ↦ subst Behind (sym (ap (λ (s : List ℕ). s ++ behind 44 r x n b ++ behind 44 r x n c) (behind_is 32 r x n a e))) (Blank _)
]
  where
    none_behind : a ≡ arg.No → b ≡ arg.No → c ≡ arg.No → Behind (behind 32 r x n a ++ behind 44 r x n b ++ behind 44 r x n c)
    none_behind e f g =
        subst (λ (z : Arg). Behind (behind 32 r x n a ++ behind 44 r x n b ++ behind 44 r x n z)) (sym g)
        (subst (λ (y : Arg). Behind (behind 32 r x n a ++ behind 44 r x n y ++ [])) (sym f)
        (subst (λ (y : Arg). Behind (behind 32 r x n y ++ [] ++ [])) (sym e) Ends))
