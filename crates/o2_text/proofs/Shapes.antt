-- What a row of the table gives is shaped as the law wants it, and so is what bytes spell.
use Rattle.std.proofs.Common.{◌≡◌, inl, inr, refl, sym, ◌∙◌, ap, subst, ℕ, ◌+◌, Bool, true, false, cond, eqb, ◌||◌, not, List, ◌++◌}
use Rattle.std.specs.List.{AllByRecursion}
use Rattle.std.proofs.lemmas.Bool.{and_parts, or_cases, not-true, cases_Bool}
use Rattle.o2_isa.specs.declared.rows.Slot.{Slot}
use Rattle.o2_isa.specs.declared.rows.Prefixes.{Prefixes}
use Rattle.o2_isa.specs.declared.instr.Op.{Op}
use Rattle.o2_isa.specs.declared.instr.Op.TheVariants.{OpAdd, OpOr, OpAdc, OpSbb, OpAnd, OpSub, OpXor, OpCmp, OpPush, OpPop, OpDaa, OpDas, OpAaa, OpAas, OpInc, OpDec}
use Rattle.o2_isa.specs.declared.instr.Op.TheVariants.{OpPusha, OpPopa, OpBound, OpArpl, OpImulThree, OpIns, OpOuts, OpJo, OpJno, OpJb, OpJae, OpJe, OpJne, OpJbe, OpJa}
use Rattle.o2_isa.specs.declared.instr.Op.TheVariants.{OpJs, OpJns, OpJp, OpJnp, OpJl, OpJge, OpJle, OpJg, OpTest, OpXchg, OpMov, OpLea, OpCbw, OpCwd, OpCallFar, OpWait}
use Rattle.o2_isa.specs.declared.instr.Op.TheVariants.{OpPushf, OpPopf, OpSahf, OpLahf, OpMovs, OpCmps, OpStos, OpLods, OpScas, OpRol, OpRor, OpRcl, OpRcr, OpShl, OpShr}
use Rattle.o2_isa.specs.declared.instr.Op.TheVariants.{OpSar, OpRet, OpRetf, OpIret, OpLes, OpLds, OpEnter, OpLeave, OpIntThree, OpInt, OpInto, OpAam, OpAad, OpXlat}
use Rattle.o2_isa.specs.declared.instr.Op.TheVariants.{OpEsc, OpLoopne, OpLoope, OpLoop, OpJcxz, OpIn, OpOut, OpCall, OpJmp, OpJmpFar, OpHlt, OpCmc, OpClc, OpStc, OpCli}
use Rattle.o2_isa.specs.declared.instr.Op.TheVariants.{OpSti, OpCld, OpStd, OpNot, OpNeg, OpMul, OpImul, OpDiv, OpIdiv, OpCallAt, OpCallFarAt, OpJmpAt, OpJmpFarAt}
use Rattle.o2_isa.specs.declared.instr.Op.TheVariants.{OpSldt, OpStr, OpLldt, OpLtr, OpVerr, OpVerw, OpSgdt, OpSidt, OpLgdt, OpLidt, OpSmsw, OpLmsw, OpLar, OpLsl, OpClts}
use Rattle.o2_isa.specs.declared.instr.Width.{Width}
use Rattle.o2_isa.specs.declared.instr.Arg.{Arg}
use Rattle.o2_isa.specs.declared.instr.Arg.TheVariants as arg
use Rattle.o2_isa.specs.declared.instr.Instr.{Instr}
use Rattle.o2_isa.specs.Operands.{Plan, disp_len, imm_len, arg_of, instr_of}
use Rattle.o2_isa.specs.Spelling.{Spells, IsByte, no_prefixes, marks}
use Rattle.o2_isa.specs.Canonical.{IsCanonical}
use Rattle.o2_decode.proofs.CanonicalLaw.{canonical}
use Rattle.o2_text.specs.Text.{is_return, first_of, text_of}
use Rattle.o2_text.proofs.Arguments.{kind_of}
use Rattle.o2_text.proofs.Facts.{family}
use Rattle.o2_text.proofs.Commas.{in_order}
use Rattle.o2_text.proofs.Law.{far_shown, member, is_out, teller, tells, plain_first, IsShaped, same_text}
use Rattle.o2_text.proofs.Rows.{is_segment, tells_slot, in_family, ordered, teller_slot, fits, plan_fits, all_right, operand_small, absent_is, there_is, number_is, far_is, memory_is, modrm_is, slot_tells, own_tells, segment_is_other}

-- the order of the operands

order_alone : (k : ℕ) → in_order k 0 0 ≡ true
order_alone k = both (eqb k 0)
  where
    both : (b : Bool) → cond b true true ≡ true
    both true = refl
    both false = refl

order_two : (k l m : ℕ) → eqb k 0 ≡ false → eqb l 0 ≡ false → in_order k l m ≡ true
order_two k l m e f = rw (e, f) refl

order_one : (k l : ℕ) → eqb k 0 ≡ false → in_order k l 0 ≡ true
order_one k l e = rw e (both (eqb l 0))
  where
    both : (b : Bool) → cond b true true ≡ true
    both true = refl
    both false = refl

unreturned : (b : Bool) (a : Arg) → not b ≡ true → first_of b a ≡ a
unreturned true a h = absurd (no h)
  where
    no : false ≡ true → ⊥
    no q = cc
unreturned false a h = plain_first a

order_is : (b : Bool) (l r t : Slot) (w : Width) (p : Prefixes) (m : ℕ) (x : List ℕ) (i j k : ℕ) → ordered b l r t ≡ true
    → in_order (kind_of (first_of b (arg_of l w p m x i))) (kind_of (arg_of r w p m x j)) (kind_of (arg_of t w p m x k)) ≡ true
order_is b l r t w p m x i j k h = elim (or_cases _ _ h) [
  | inl g ↦ elim (or_cases _ _ g) [
    | inl a ↦ (let s = and_parts _ _ a in
        none _ _ _ (absent_is r w p m x j s.0) (absent_is t w p m x k s.1))
    | inr a ↦ (let s = and_parts _ _ a in
        let q = and_parts _ _ s.0 in
        two _ _ _ (unreturned b (arg_of l w p m x i) q.0) (there_is l w p m x i (not-true _ q.1)) (there_is r w p m x j (not-true _ s.1)))
  ]
  | inr a ↦ (let s = and_parts _ _ a in
      let q = and_parts _ _ s.0 in
      one _ _ _ (unreturned b (arg_of l w p m x i) q.0) (there_is l w p m x i (not-true _ q.1)) (absent_is t w p m x k s.1))
]
  where
    none : (a c d : Arg) → c ≡ arg.No → d ≡ arg.No → in_order (kind_of a) (kind_of c) (kind_of d) ≡ true
    none a c d e f = ap (λ (z : Arg). in_order (kind_of a) (kind_of z) (kind_of d)) e ∙ (ap (λ (z : Arg). in_order (kind_of a) 0 (kind_of z)) f ∙ order_alone (kind_of a))

    two : (a c d : Arg) → first_of b a ≡ a → eqb (kind_of a) 0 ≡ false → eqb (kind_of c) 0 ≡ false → in_order (kind_of (first_of b a)) (kind_of c) (kind_of d) ≡ true
    two a c d e f g = ap (λ (z : Arg). in_order (kind_of z) (kind_of c) (kind_of d)) e ∙ order_two (kind_of a) (kind_of c) (kind_of d) f g

    one : (a c d : Arg) → first_of b a ≡ a → eqb (kind_of a) 0 ≡ false → d ≡ arg.No → in_order (kind_of (first_of b a)) (kind_of c) (kind_of d) ≡ true
    one a c d e f g =
        ap (λ (z : Arg). in_order (kind_of z) (kind_of c) (kind_of d)) e ∙ (ap (λ (z : Arg). in_order (kind_of a) (kind_of c) (kind_of z)) g ∙ order_one (kind_of a) (kind_of c) f)

-- the form of CALL, JMP and IMUL

call_number : (k : ℕ) (f : Bool) (x : ℕ) → k ≡ 2 → member OpCall k f x ≡ OpCall
call_number k f x e = rw e refl

call_far : (k : ℕ) (f : Bool) (x : ℕ) → k ≡ 3 → member OpCall k f x ≡ OpCallFar
call_far k f x e = rw e refl

call_at : (k x : ℕ) → eqb k 2 ≡ false → eqb k 3 ≡ false → member OpCall k false x ≡ OpCallAt
call_at k x e f = rw (e, f) refl

call_far_at : (k x : ℕ) → k ≡ 4 → member OpCall k (eqb k 4) x ≡ OpCallFarAt
call_far_at k x e = rw e refl

jump_number : (k : ℕ) (f : Bool) (x : ℕ) → k ≡ 2 → member OpJmp k f x ≡ OpJmp
jump_number k f x e = rw e refl

jump_far : (k : ℕ) (f : Bool) (x : ℕ) → k ≡ 3 → member OpJmp k f x ≡ OpJmpFar
jump_far k f x e = rw e refl

jump_at : (k x : ℕ) → eqb k 2 ≡ false → eqb k 3 ≡ false → member OpJmp k false x ≡ OpJmpAt
jump_at k x e f = rw (e, f) refl

jump_far_at : (k x : ℕ) → k ≡ 4 → member OpJmp k (eqb k 4) x ≡ OpJmpFarAt
jump_far_at k x e = rw e refl

product_one : (k : ℕ) (f : Bool) (x : ℕ) → x ≡ 0 → member OpImul k f x ≡ OpImul
product_one k f x e = rw e refl

product_three : (k : ℕ) (f : Bool) (x : ℕ) → x ≡ 2 → member OpImul k f x ≡ OpImulThree
product_three k f x e = rw e refl

form_is : (op : Op) (l t : Slot) (w : Width) (p : Prefixes) (m : ℕ) (x : List ℕ) (i k : ℕ) → in_family op l t ≡ true
    → member (family op) (kind_of (first_of (is_return op) (arg_of l w p m x i))) (far_shown op (first_of (is_return op) (arg_of l w p m x i))) (kind_of (arg_of t w p m x k)) ≡ op
form_is OpAdd l t w p m x i k h = refl
form_is OpOr l t w p m x i k h = refl
form_is OpAdc l t w p m x i k h = refl
form_is OpSbb l t w p m x i k h = refl
form_is OpAnd l t w p m x i k h = refl
form_is OpSub l t w p m x i k h = refl
form_is OpXor l t w p m x i k h = refl
form_is OpCmp l t w p m x i k h = refl
form_is OpPush l t w p m x i k h = refl
form_is OpPop l t w p m x i k h = refl
form_is OpDaa l t w p m x i k h = refl
form_is OpDas l t w p m x i k h = refl
form_is OpAaa l t w p m x i k h = refl
form_is OpAas l t w p m x i k h = refl
form_is OpInc l t w p m x i k h = refl
form_is OpDec l t w p m x i k h = refl
form_is OpPusha l t w p m x i k h = refl
form_is OpPopa l t w p m x i k h = refl
form_is OpBound l t w p m x i k h = refl
form_is OpArpl l t w p m x i k h = refl
form_is OpImulThree l t w p m x i k h = product_three (kind_of (first_of false (arg_of l w p m x i))) false (kind_of (arg_of t w p m x k)) (number_is t w p m x k h)
form_is OpIns l t w p m x i k h = refl
form_is OpOuts l t w p m x i k h = refl
form_is OpJo l t w p m x i k h = refl
form_is OpJno l t w p m x i k h = refl
form_is OpJb l t w p m x i k h = refl
form_is OpJae l t w p m x i k h = refl
form_is OpJe l t w p m x i k h = refl
form_is OpJne l t w p m x i k h = refl
form_is OpJbe l t w p m x i k h = refl
form_is OpJa l t w p m x i k h = refl
form_is OpJs l t w p m x i k h = refl
form_is OpJns l t w p m x i k h = refl
form_is OpJp l t w p m x i k h = refl
form_is OpJnp l t w p m x i k h = refl
form_is OpJl l t w p m x i k h = refl
form_is OpJge l t w p m x i k h = refl
form_is OpJle l t w p m x i k h = refl
form_is OpJg l t w p m x i k h = refl
form_is OpTest l t w p m x i k h = refl
form_is OpXchg l t w p m x i k h = refl
form_is OpMov l t w p m x i k h = refl
form_is OpLea l t w p m x i k h = refl
form_is OpCbw l t w p m x i k h = refl
form_is OpCwd l t w p m x i k h = refl
form_is OpCallFar l t w p m x i k h = call_far (kind_of (first_of false (arg_of l w p m x i))) false (kind_of (arg_of t w p m x k)) (ap kind_of (plain_first (arg_of l w p m x i)) ∙ far_is l w p m x i h)
form_is OpWait l t w p m x i k h = refl
form_is OpPushf l t w p m x i k h = refl
form_is OpPopf l t w p m x i k h = refl
form_is OpSahf l t w p m x i k h = refl
form_is OpLahf l t w p m x i k h = refl
form_is OpMovs l t w p m x i k h = refl
form_is OpCmps l t w p m x i k h = refl
form_is OpStos l t w p m x i k h = refl
form_is OpLods l t w p m x i k h = refl
form_is OpScas l t w p m x i k h = refl
form_is OpRol l t w p m x i k h = refl
form_is OpRor l t w p m x i k h = refl
form_is OpRcl l t w p m x i k h = refl
form_is OpRcr l t w p m x i k h = refl
form_is OpShl l t w p m x i k h = refl
form_is OpShr l t w p m x i k h = refl
form_is OpSar l t w p m x i k h = refl
form_is OpRet l t w p m x i k h = refl
form_is OpRetf l t w p m x i k h = refl
form_is OpIret l t w p m x i k h = refl
form_is OpLes l t w p m x i k h = refl
form_is OpLds l t w p m x i k h = refl
form_is OpEnter l t w p m x i k h = refl
form_is OpLeave l t w p m x i k h = refl
form_is OpIntThree l t w p m x i k h = refl
form_is OpInt l t w p m x i k h = refl
form_is OpInto l t w p m x i k h = refl
form_is OpAam l t w p m x i k h = refl
form_is OpAad l t w p m x i k h = refl
form_is OpXlat l t w p m x i k h = refl
form_is OpEsc l t w p m x i k h = refl
form_is OpLoopne l t w p m x i k h = refl
form_is OpLoope l t w p m x i k h = refl
form_is OpLoop l t w p m x i k h = refl
form_is OpJcxz l t w p m x i k h = refl
form_is OpIn l t w p m x i k h = refl
form_is OpOut l t w p m x i k h = refl
form_is OpCall l t w p m x i k h = call_number (kind_of (first_of false (arg_of l w p m x i))) false (kind_of (arg_of t w p m x k)) (ap kind_of (plain_first (arg_of l w p m x i)) ∙ number_is l w p m x i h)
form_is OpJmp l t w p m x i k h = jump_number (kind_of (first_of false (arg_of l w p m x i))) false (kind_of (arg_of t w p m x k)) (ap kind_of (plain_first (arg_of l w p m x i)) ∙ number_is l w p m x i h)
form_is OpJmpFar l t w p m x i k h = jump_far (kind_of (first_of false (arg_of l w p m x i))) false (kind_of (arg_of t w p m x k)) (ap kind_of (plain_first (arg_of l w p m x i)) ∙ far_is l w p m x i h)
form_is OpHlt l t w p m x i k h = refl
form_is OpCmc l t w p m x i k h = refl
form_is OpClc l t w p m x i k h = refl
form_is OpStc l t w p m x i k h = refl
form_is OpCli l t w p m x i k h = refl
form_is OpSti l t w p m x i k h = refl
form_is OpCld l t w p m x i k h = refl
form_is OpStd l t w p m x i k h = refl
form_is OpNot l t w p m x i k h = refl
form_is OpNeg l t w p m x i k h = refl
form_is OpMul l t w p m x i k h = refl
form_is OpImul l t w p m x i k h = product_one (kind_of (first_of false (arg_of l w p m x i))) false (kind_of (arg_of t w p m x k)) (ap kind_of (absent_is t w p m x k h))
form_is OpDiv l t w p m x i k h = refl
form_is OpIdiv l t w p m x i k h = refl
form_is OpCallAt l t w p m x i k h =
    let q = modrm_is l w p m x i h in
    call_at (kind_of (first_of false (arg_of l w p m x i))) (kind_of (arg_of t w p m x k))
    (ap (λ (z : Arg). eqb (kind_of z) 2) (plain_first (arg_of l w p m x i)) ∙ q.0)
    (ap (λ (z : Arg). eqb (kind_of z) 3) (plain_first (arg_of l w p m x i)) ∙ q.1)
form_is OpCallFarAt l t w p m x i k h = call_far_at (kind_of (first_of false (arg_of l w p m x i))) (kind_of (arg_of t w p m x k)) (ap kind_of (plain_first (arg_of l w p m x i)) ∙ memory_is l w p m x i h)
form_is OpJmpAt l t w p m x i k h =
    let q = modrm_is l w p m x i h in
    jump_at (kind_of (first_of false (arg_of l w p m x i))) (kind_of (arg_of t w p m x k))
    (ap (λ (z : Arg). eqb (kind_of z) 2) (plain_first (arg_of l w p m x i)) ∙ q.0)
    (ap (λ (z : Arg). eqb (kind_of z) 3) (plain_first (arg_of l w p m x i)) ∙ q.1)
form_is OpJmpFarAt l t w p m x i k h = jump_far_at (kind_of (first_of false (arg_of l w p m x i))) (kind_of (arg_of t w p m x k)) (ap kind_of (plain_first (arg_of l w p m x i)) ∙ memory_is l w p m x i h)
form_is OpSldt l t w p m x i k h = refl
form_is OpStr l t w p m x i k h = refl
form_is OpLldt l t w p m x i k h = refl
form_is OpLtr l t w p m x i k h = refl
form_is OpVerr l t w p m x i k h = refl
form_is OpVerw l t w p m x i k h = refl
form_is OpSgdt l t w p m x i k h = refl
form_is OpSidt l t w p m x i k h = refl
form_is OpLgdt l t w p m x i k h = refl
form_is OpLidt l t w p m x i k h = refl
form_is OpSmsw l t w p m x i k h = refl
form_is OpLmsw l t w p m x i k h = refl
form_is OpLar l t w p m x i k h = refl
form_is OpLsl l t w p m x i k h = refl
form_is OpClts l t w p m x i k h = refl

-- the width

tells_is : (out : Bool) (l r : Slot) (w : Width) (p : Prefixes) (m : ℕ) (x : List ℕ) (i j : ℕ) → tells_slot w (teller_slot out l r) ≡ true
    → tells w (teller out (arg_of l w p m x i) (arg_of r w p m x j)) ≡ true
tells_is true l r w p m x i j h = slot_tells r w p m x j h
tells_is false l r w p m x i j h = elim (cases_Bool (is_segment l)) [
  | inl e ↦ ap (tells w) (segment_is_other l w p m x i e (arg_of r w p m x j)) ∙ slot_tells r w p m x j (rw e at h)
  | inr e ↦ ap (tells w) (own_tells l w p m x i e (arg_of r w p m x j)) ∙ slot_tells l w p m x i (rw e at h)
]

implied : (a b : Bool) → (not a || b) ≡ true → a ≡ true → b ≡ true
implied true b h e = h
implied false b h e = absurd (no e)
  where
    no : false ≡ true → ⊥
    no q = cc

or_else : (a b : Bool) → (a || b) ≡ true → a ≡ false → b ≡ true
or_else true b h e = absurd (no e)
  where
    no : true ≡ false → ⊥
    no q = cc
or_else false b h e = h

row_gives : (p : Prefixes) (plan : Plan) (t : List ℕ) → AllByRecursion IsByte t → fits plan.row ≡ true → IsCanonical (instr_of p plan t) → IsShaped (instr_of p plan t)
row_gives p plan t bytes h c =
    let row = plan.row in
    let m = plan.modrm in
    let k = disp_len m in
    let l = disp_len m + imm_len row.left in
    let n = disp_len m + imm_len row.left + imm_len row.right in
    let a = and_parts _ _ h in
    let small = and_parts _ _ a.0 in
    let others = and_parts _ _ small.1 in
    let b = and_parts _ _ a.1 in
    let d = and_parts _ _ b.1 in
    let e = and_parts _ _ d.1 in
    let f = and_parts _ _ e.1 in
    record {
      left = operand_small row.left row.width p m t k small.0 bytes;
      right = operand_small row.right row.width p m t l others.0 bytes;
      third = operand_small row.third row.width p m t n others.1 bytes;
      order = order_is (is_return row.op) row.left row.right row.third row.width p m t k l n b.0;
      op = form_is row.op row.left row.third row.width p m t k n d.0;
      returns = λ r. number_is row.left row.width p m t k (implied _ _ e.0 r);
      canonical = c;
      sizes = λ r. (let s = and_parts _ _ (implied _ _ f.0 r) in (not-true _ s.0, not-true _ s.1));
      width = λ r g. tells_is (is_out row.op) row.left row.right row.width p m t k l (or_else _ _ (implied _ _ f.1 r) g);
    }

pub shaped : (bytes : List ℕ) (i : Instr) → AllByRecursion IsByte bytes → Spells bytes i → IsShaped i
shaped bytes i h s =
    let all = subst (λ (x : List ℕ). AllByRecursion IsByte x) s.spelled h in
    let tail = all_right s.head s.tail (all_right s.prefixes (s.head ++ s.tail) all) in
    subst IsShaped (sym s.means)
    (row_gives (marks no_prefixes s.prefixes) s.plan s.tail tail (plan_fits s.head s.plan s.known) (subst IsCanonical s.means (canonical bytes i s)))

pub one_text : (a b : List ℕ) (i j : Instr) (next : ℕ) → AllByRecursion IsByte a → AllByRecursion IsByte b → Spells a i → Spells b j → text_of i next ≡ text_of j next → i ≡ j
one_text a b i j next p q s t e = same_text i j next (shaped a i p s) (shaped b j q t) e
